use Rattle.std.proofs.Common.{◌≡◌, ◌++◌, map, take, ap, ◌∙◌, take_all, codes}
use Rattle.cover_problem.specs.Problem.{name_at}
use Rattle.text_lines.specs.Writing.{words_after}
use Rattle.text_lines.proofs.WritingLemmas.{line_ends}
use Rattle.cover_problem.proofs.writing.write_option.Goals as goal

pub returns : goal.returns
returns c =
    let names = map (λ n. n.bytes) c.args.names.now in
    let all : map (name_at names) (take c.loop-item.item-index c.args.option.now) ≡ map (name_at names) c.args.option.now = ap (map (name_at names)) (take_all c.loop-item.item-index c.args.option.now c.loop-item-test.false) in
    c.in_ok-push.ensures.items ∙ line_ends c.loop-item.text.items c.args.text.now.items (codes "option") (map (name_at names) c.args.option.now)
    (c.loop-item.invariant ∙ ap (λ ws. (c.args.text.now.items ++ codes "option") ++ words_after ws) all)
