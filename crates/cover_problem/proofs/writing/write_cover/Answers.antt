use Rattle.std.proofs.Common.{sym, ◌≡◌, ◌∙◌, ◌∷◌, ◌++◌, map, take, drop, ap, codes}
use Rattle.text_lines.specs.Writing.{line_text}
use Rattle.std.proofs.lemmas.List.{take-map, drop-map}
use Rattle.cover_problem.proofs.WriterLemmas.{all_written}
use Rattle.cover_problem.proofs.writing.write_cover.Goals as goal

pub returns : goal.returns
returns c =
    let p = c.args.problem.now in
    let names = c.name_list-names.result.now in
    let same : map (λ n. n.bytes) names ≡ p.names = c.name_list-names.ensures.names in
    let front : map (λ n. n.bytes) c.split_at.result.0.now ≡ take p.primary p.names =
    ap (map (λ n. n.bytes)) (rw (← c.primary.ensures) c.split_at.ensures.front) ∙ sym (take-map (λ n. n.bytes) p.primary names) ∙ ap (take p.primary) same in
    let back : map (λ n. n.bytes) c.split_at.result.1.now ≡ drop p.primary p.names =
    ap (map (λ n. n.bytes)) (rw (← c.primary.ensures) c.split_at.ensures.back) ∙ sym (drop-map (λ n. n.bytes) p.primary names) ∙ ap (drop p.primary) same in
    all_written p _ _ _ _ front back same c.option_lists.ensures c.write_names.new.text.items c.write_maybe.new.text.items c.write_options.new.text.items
    (c.in_ok-write_names.ensures ∙ ap (λ bs. bs ++ line_text (codes "items" ∷ map (λ n. n.bytes) c.split_at.result.0.now)) c.new-text.ensures.items) c.in_ok-write_maybe.ensures c.in_ok-write_options.ensures
