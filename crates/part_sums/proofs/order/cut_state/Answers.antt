use Rattle.std.proofs.Common.{length, refl, sym, arith, eqb-true, ◌∙◌}
use Rattle.std.proofs.lemmas.Bool.{eqb-false}
use Rattle.x_branches.proofs.CutLemmas.{cut_parted, no_cut_starts}
use Rattle.part_sums.proofs.order.cut_state.Goals as goal

pub returns : goal.returns
returns c =
    let some = eqb-false (length c.args.path.now) 0 (sym c.is_empty.ensures ∙ c.if-is_empty.false) in
    let copied = c.in_ok-from_slice.ensures in
    rw copied.items (cut_parted _ _ _ _ (omega (arith, some)) refl c.split_at.ensures.front c.split_at.ensures.back)

pub returns-then-is_empty : goal.returns-then-is_empty
returns-then-is_empty c = rw c.new.ensures.items (no_cut_starts c.args.path.now (eqb-true (length c.args.path.now) 0 (sym c.is_empty.ensures ∙ c.if-is_empty.true)))
