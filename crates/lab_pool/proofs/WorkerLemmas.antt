-- What the last note of a seat is, once its tile was ended.
use Rattle.std.proofs.Common.{◌≡◌, ◌∙◌, ◌||◌, Bool, true, sym, ap, subst, List, ◌∷◌, arith}
use Rattle.std.specs.Prelude.{Option, Some, None, Result, Ok, Err, IfOk, IfSome}
use Rattle.std.proofs.lemmas.Bool.Decides.{nat_tests}
use Rattle.lab_book.specs.declared.lease.Leased.{Leased}
use Rattle.std.specs.List.{list_any}
use Rattle.lab_history.specs.declared.grant.Grant.{Grant}
use Rattle.lab_history.specs.declared.entry.Call.{Call}
use Rattle.lab_history.specs.declared.entry.Reply.{Reply}
use Rattle.lab_history.specs.declared.entry.Reply.TheVariants as reply
use Rattle.lab_history.specs.declared.fault.BookFault.{BookFault}
use Rattle.lab_history.specs.declared.fault.BookFault.TheVariants as fault
use Rattle.lab_desk.specs.Record.{SeatValue, Notes, AtSomeIndex, HoldsAnyLease, is_one, held_in, holds}
use Rattle.lab_pool.specs.declared.search.Next.{Next}
use Rattle.lab_pool.specs.Worker.{next_after, EndsIn, Abandons, EndsTile, IfLeased, IsLeasedTo}

module _ (old new : SeatValue) (number : new.number ≡ old.number) where
  -- a call that is noted is the last note
  pub last : (c : Call) (r : Reply) → AtSomeIndex (λ i. Notes i old.notes new.notes old.number c r) → EndsIn new c r
  last c r n = (old.notes, (n.0, subst (λ k. Notes n.0 old.notes new.notes k c r) (sym number) n.1))

-- a tile that was given up is ended where a call was refused
ended_late : (f : BookFault) (s : SeatValue) (g : Grant) → Abandons s g → EndsTile (next_after f) s g
ended_late fault.OutOfMemory s g h = h
ended_late _ s g h = h

pub late : (f : BookFault) (n : Next) (s : SeatValue) (g h : Grant) → n ≡ next_after f → h ≡ g → Abandons s h → EndsTile n s g
late f n s g h told is a = subst (λ m. EndsTile m s g) (sym told) (ended_late f s g (subst (Abandons s) is a))

-- what comes next, the seat and the lease by other names
pub lost : (n m : Next) (s t : SeatValue) (g h : Grant) → n ≡ m → t ≡ s → h ≡ g → EndsTile n s h → EndsTile m t g
lost n m s t g h told seat is e = subst (λ k. EndsTile k t g) told (subst (λ x. EndsTile n x g) (sym seat) (subst (EndsTile n s) is e))

-- a lease is held where others are held as before
pub still_held : (old new : SeatValue) (g h : Grant) → held_in new.notes ≡ held_in old.notes → h ≡ g → holds old.notes g ≡ true → holds new.notes h ≡ true
still_held old new g h same is held =
    ap (λ gs. list_any (λ (x : Grant). is_one x h) gs) same ∙ ap (holds old.notes) is ∙ held

itself : (g : Grant) → is_one g g ≡ true
itself g = grind (arith, nat_tests)

-- a lease that was given is held
pub newly_held : (old new : SeatValue) (g : Grant) → held_in new.notes ≡ g ∷ held_in old.notes → holds new.notes g ≡ true
newly_held old new g e =
    ap (list_any (λ (h : Grant). is_one h g)) e ∙ ap (λ b. b || list_any (λ (h : Grant). is_one h g) (held_in old.notes)) (itself g)

pub leased_to : {E : Type 0} (r : Result (Option Leased) E) (old new : SeatValue) → new.number ≡ old.number
    → IfOk r (λ o. IfSome o (λ l. l.lease.worker ≡ old.number)) → HoldsAnyLease old new r → IfLeased r (IsLeasedTo new)
leased_to (Ok None) old new number worker held = tt
leased_to (Ok (Some l)) old new number worker held = (worker ∙ sym number, newly_held old new l.lease held.0)
leased_to (Err e) old new number worker held = tt
