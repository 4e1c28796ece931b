use Rattle.std.proofs.Common.{◌≡◌, ◌++◌, map, take, ap, ◌∙◌, take_all}
use Rattle.text_lines.specs.Writing.{words_after}
use Rattle.text_lines.proofs.WritingLemmas.{line_ends}
use Rattle.cover_problem.proofs.writing.write_names.Goals as goal

pub returns : goal.returns
returns c =
    let names = map (λ n. n.bytes) c.args.names.now in
    let all : map (λ n. n.bytes) (take c.loop-name.name-index c.args.names.now) ≡ names = ap (map (λ n. n.bytes)) (take_all c.loop-name.name-index c.args.names.now c.loop-name-test.false) in
    c.in_ok-push.ensures.items ∙ line_ends c.loop-name.text.items c.args.text.now.items c.args.key.now names
    (c.loop-name.invariant ∙ ap (λ ws. (c.args.text.now.items ++ c.args.key.now) ++ words_after ws) all)
