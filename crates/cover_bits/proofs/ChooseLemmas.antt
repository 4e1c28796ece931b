-- The walk over the active items that `choose` makes: each that it meets is the next one.
use Rattle.std.proofs.Common.{◌≡◌, ℕ, ◌+◌, ◌==◌, not, ◌&&◌, Option, Some, None, option_map, IsSome, List, refl, sym, ◌∙◌, arith, subst}
use Rattle.std.specs.Prelude.{IfSome}
use Rattle.std.proofs.lemmas.Bool.{le-leb}
use Rattle.shared_words.specs.Lists.{above}
use Rattle.cover_problem.specs.Covering.{active}
use Rattle.cover_problem.specs.Problem.{ProblemValue}
use Rattle.cover_problem.specs.Table.{TableValue}
use Rattle.cover_bits.specs.declared.sets.Part.{Part}
use Rattle.cover_bits.specs.declared.walk.Rest.{Rest}
use Rattle.cover_bits.specs.Parts.{in_row, to_come, IsFirstFrom, NoneFrom}
use Rattle.cover_bits.specs.Bits.{IsBits}
use Rattle.cover_bits.proofs.WalkLemmas.{IsAhead, first_ahead, none_ahead, ahead_after}
use Rattle.cover_bits.proofs.TableLemmas.{active_above}

-- what a walk told of the number that it met, and of what is left
pub record Met (row : List ℕ) (rest rest2 : Rest) (found : Option ℕ) : Type 0 where
  pub first : IfSome found (λ k. IsFirstFrom (to_come row rest) 0 k)
  pub left : IfSome found (λ k. (j : ℕ) → to_come row rest2 j ≡ (to_come row rest j && not (j == k)))
  pub none : found ≡ None → NoneFrom (to_come row rest) 0

module _ (row : List ℕ) (rest rest2 : Rest) (start : ℕ) (ahead : IsAhead row rest start) where
  some_met : (found : Option ℕ) → Met row rest rest2 found → IfSome found (λ k. IsFirstFrom (in_row row) start k)
  some_met (Some k) m = first_ahead row rest start ahead k m.first
  some_met None m = tt

  ahead_met : (found : Option ℕ) → Met row rest rest2 found → IfSome (option_map (λ k. k + 1) found) (λ next. IsAhead row rest2 next)
  ahead_met (Some k) m = ahead_after row rest start ahead k rest2 m.first m.left
  ahead_met None m = tt

-- the item that is met is the next active one, and those behind it are ahead then
pub record NextMet (p : ProblemValue) (c act : List ℕ) (rest2 : Rest) (start : ℕ) (next : Option ℕ) : Type 0 where
  pub is : next ≡ above start (active p c)
  pub ahead : IfSome next (λ n. IsAhead act rest2 n)

module _ {o pr w : ℕ} {cols : List ℕ} {ps : List Part} {ns bs act : List ℕ} {room : ℕ} {s t : TableValue} (e : s ≡ t) (h : IsBits s.problem o pr w cols ps ns bs act s.covered room)
    (row : List ℕ) (at : row ≡ act) (rest rest2 : Rest) (found next : Option ℕ) (m : Met row rest rest2 found) (told : next ≡ option_map (λ k. k + 1) found) where
  met : Met act rest rest2 found
  met = subst (λ r. Met r rest rest2 found) at m

  pub next_met : (start : ℕ) → IsAhead act rest start → NextMet t.problem t.covered act rest2 start next
  next_met start ahead = record {
    is = told ∙ active_above e h start act refl found (some_met act rest rest2 start ahead found met) (λ n. none_ahead act rest start ahead (met.none n));
    ahead = subst (λ x. IfSome x (λ n. IsAhead act rest2 n)) (sym told) (ahead_met act rest rest2 start ahead found met);
  }

  -- nothing was met before
  pub first_met : (row2 : List ℕ) → row2 ≡ act → ((j : ℕ) → to_come row2 rest j ≡ in_row row2 j) → NextMet t.problem t.covered act rest2 0 next
  first_met row2 at2 all = next_met 0 (subst (λ r. IsAhead r rest 0) at2 (λ j. rw (le-leb 0 j (omega arith)) (all j)))

pub some_number : (found o : Option ℕ) → option_map (λ k. k + 1) found ≡ o → IsSome o → IsSome found
some_number (Some k) o e some = refl
some_number None o e some = subst IsSome (sym e) some
