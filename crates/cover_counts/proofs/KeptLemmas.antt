-- The slots of a cache stay sound, whatever is kept or let go.
use Rattle.std.proofs.Common.{Bool, true, false, if◌then◌else◌, ◌≡◌, ℕ, zero, suc, ◌<◌, ◌++◌, List, [], ◌∷◌, Option, Some, None, length, set, slice_index_or, IfSome, Bor, sym, ◌∙◌, subst, arith}
use Rattle.std.proofs.Math.Path.{fun_ext}
use Rattle.std.specs.Global.{Vec}
use Rattle.std.specs.Slice.{IsItemAt}
use Rattle.cover_problem.specs.Problem.{ProblemValue}
use Rattle.cover_problem.specs.Table.{IsCoveredList}
use Rattle.kept_counts.proofs.SameLemmas.{visits_same, states_same, items_same}
use Rattle.cover_counts.specs.declared.below.Below.{Below}
use Rattle.cover_counts.specs.declared.cache.Kept.{Kept}
use Rattle.cover_counts.specs.Below.{CountsBelow}
use Rattle.cover_counts.specs.Keys.{IsKeyOf}
use Rattle.cover_counts.specs.Kept.{IsBelowKey, IsSoundSlot, AreSoundSlots}
use Rattle.cover_counts.proofs.KeyLemmas.{same_key}

-- what lies below one set lies below each set with its key
pub tells : (p : ProblemValue) (c key : List ℕ) (b : Below) → IsCoveredList p c → IsKeyOf (length p.names) c key → CountsBelow p c b → IsBelowKey p key b
tells p c key b s k a d t l =
    let same = items_same p c d s t (same_key (length p.names) c d key k l) in
    record { visited = a.visited ∙ visits_same p c d (fun_ext same); at = λ j. a.at j ∙ states_same p j c d (fun_ext same) }

pub true_set : (p : ProblemValue) (places : List (Option Kept)) (k : ℕ) (slot : Option Kept) → AreSoundSlots p places → IsSoundSlot p slot → AreSoundSlots p (set places k slot)
true_set p [] k slot a t = tt
true_set p (x ∷ xs) zero slot a t = (t, a.1)
true_set p (x ∷ xs) (suc k) slot a t = (a.0, true_set p xs k slot a.1 t)

true_push : (p : ProblemValue) (places : List (Option Kept)) (slot : Option Kept) → AreSoundSlots p places → IsSoundSlot p slot → AreSoundSlots p (places ++ slot ∷ [])
true_push p [] slot a t = (t, tt)
true_push p (x ∷ xs) slot a t = (a.0, true_push p xs slot a.1 t)

-- a slot may have been pushed
pub true_pushed : (p : ProblemValue) (old new : List (Option Kept)) (slot : Option Kept) (ok : Bool) → new ≡ (if ok then old ++ slot ∷ [] else old) → AreSoundSlots p old → IsSoundSlot p slot → AreSoundSlots p new
true_pushed p old new slot true e a t = rw e (true_push p old slot a t)
true_pushed p old new slot false e a t = rw e a

pub true_index : (p : ProblemValue) (places : List (Option Kept)) (k : ℕ) (d : Option Kept) → AreSoundSlots p places → k < length places → IsSoundSlot p (slice_index_or places k d)
true_index p [] k d a l = absurd (omega (arith, l))
true_index p (x ∷ xs) zero d a l = a.0
true_index p (x ∷ xs) (suc k) d a l = true_index p xs k d a.1 (omega (arith, l))

-- a slot that was looked up is sound
pub true_found : (p : ProblemValue) (places : List (Option Kept)) (k : ℕ) (slot : Bor (Option Kept)) → AreSoundSlots p places → (r : Option (Bor (Option Kept))) → IsItemAt places k r → r ≡ Some slot → IsSoundSlot p slot.now
true_found p places k slot a r e f =
    let t : IsItemAt places k (Some slot) = subst (IsItemAt places k) f e in
    subst (IsSoundSlot p) (sym t.1) (true_index p places k slot.now a t.3.0)

-- a copy tells what the counts tell
pub copy_tells : (p : ProblemValue) (key : List ℕ) (old new : Below) → new.visits ≡ old.visits → new.low.items ≡ old.low.items → new.high ≡ old.high → IsBelowKey p key old → IsBelowKey p key new
copy_tells p key old new v l h t c s k = let a = t c s k in record { visited = v ∙ a.visited; at = λ j. rw (l, h) (a.at j) }

-- counts of a set may be kept under its key
pub key_tells : (p : ProblemValue) (c : List ℕ) (b : Below) (key : Option (Vec ℕ)) → IsCoveredList p c → IfSome key (λ k. IsKeyOf (length p.names) c k.items) → CountsBelow p c b → IfSome key (λ k. IsBelowKey p k.items b)
key_tells p c b None s k a = tt
key_tells p c b (Some key) s k a = tells p c key.items b s k a
