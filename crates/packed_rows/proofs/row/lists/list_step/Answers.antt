use Rattle.std.proofs.Common.{inl, inr, ◌≡◌, ◌-◌, suc, Option, Some, None, Bool, true, false, length, ℕ, refl, ◌∙◌, sym, arith}
use Rattle.std.specs.Option.{is_some}
use Rattle.packed_rows.proofs.NeighbourLemmas.{no_step_lengths, no_step_none, no_step_front, no_step_last, step_last}
use Rattle.packed_rows.proofs.row.lists.list_step.Goals as goal
use Rattle.packed_rows.proofs.row.lists.list_step.Goals.{then-is_none-via-then-is_none, then-is_none-via-else-is_none+then-begin_alike}

no_step : (step : Option ℕ) (b : Bool) → is_some step ≡ b → b ≡ false → step ≡ None
no_step None b e f = refl
no_step (Some n) b e f = let t : is_some (Some n) ≡ true = refl in cc

pub returns-then-before-count : goal.returns-then-before-count
returns-then-before-count c =
    elim c.then-before-count.either [
      | inl d ↦ sym (no_step_lengths _ _ d)
      | inr e ↦ sym (no_step_none _ _ e.1)
    ]

pub returns-then-is_none : goal.returns-then-is_none
returns-then-is_none c =
    let l : suc (length c.args.list.now - 1) ≡ length c.args.list.now = omega (arith, c.if-count-eq0.false) in
    elim c.then-is_none.branch [
      | then-is_none-via-then-is_none w ↦ let none = no_step _ _ w.if-is_none.ensures refl in
          none ∙ sym (no_step_last _ _ _ l c.if-before-count.false (sym c.small_step-step.ensures ∙ none))
      | then-is_none-via-else-is_none+then-begin_alike w ↦
          c.small_step-step.ensures ∙ sym (step_last _ _ _ l c.if-before-count.false (w.begin_alike.ensures.0 w.if-begin_alike.true))
    ]

pub returns : goal.returns
returns c =
    let l : suc (length c.args.list.now - 1) ≡ length c.args.list.now = omega (arith, c.if-count-eq0.false) in
    sym (no_step_front _ _ _ l c.if-before-count.false (λ e. let t = c.begin_alike.ensures.1 e in let f = c.if-begin_alike.false in cc))
