use Rattle.std.proofs.Common.{◌≡◌, ◌≤◌, ◌<◌, ◌∙◌, sym, map, length, true≢false, arith}
use Rattle.cover_problem.proofs.NameLemmas.{too_long, place_is}
use Rattle.cover_problem.proofs.ProblemLemmas.{held}
use Rattle.cover_problem.proofs.problem.place_of.Goals as goal

pub returns-in_err-key : goal.returns-in_err-key
returns-in_err-key c =
    let long : length c.args.name.now ≤ 8 → ⊥ = λ l. true≢false (sym (c.from.ensures.variant.1 l) ∙ sym c.in_err-key.ensures.variant) in
    let more : 8 < length c.args.name.now = omega arith in
    rw c.from_residual.ensures (sym (too_long c.args.name.now (map (λ n. n.bytes) c.args.names.now.keys) more c.requires))

pub returns : goal.returns
returns c =
    c.get_index_of.ensures.index ∙ place_is (λ n. n.bytes) c.args.names.now.keys c.args.name.now c.in_ok-key.key (held (λ t. t.bytes ≡ c.args.name.now) c.from.result c.in_ok-key.key c.in_ok-key.ensures.value c.from.ensures.ok)
