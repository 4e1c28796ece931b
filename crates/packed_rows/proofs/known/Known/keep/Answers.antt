use Rattle.std.proofs.Common.{length, ◌∙◌, ap, arith}
use Rattle.cover_problem.specs.FlatLists.{start_at}
use Rattle.packed_rows.proofs.KnownLemmas.{known_kept}
use Rattle.packed_rows.proofs.known.Known.keep.Goals as goal

pub invariant_of-self : goal.invariant_of-self
invariant_of-self c =
    let p = c.self.inside in let i = c.self.invariant in let n = ap length c.self.view_is in
    let end = c.start_of-end.ensures ∙ ap (λ es. start_at 0 es c.args.steps) c.deref.ensures.value in
    rw (c.truncate.ensures.items, c.truncate-2.ensures.items, c.truncate-3.ensures.items)
    (known_kept p.numbers.items p.bytes.items p.ends.items c.args.steps c.start_of-end.result i (omega (arith, c.requires, i.steps, n)) end)
