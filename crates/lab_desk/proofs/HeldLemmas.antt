-- Which leases the notes of a worker leave open, and that these stand after each call.
use Rattle.std.proofs.Common.{◌≡◌, ◌⊎◌, ℕ, ◌+◌, ◌==◌, ◌||◌, Bool, true, false, true≢false, not, cond, Option, None, Result, Ok, Err, List, [], ◌∷◌, ◌++◌, length, refl, sym, ap, ◌∙◌, subst, inl, inr, arith}
use Rattle.std.specs.Prelude.{is_ok}
use Rattle.std.specs.List.{filter, list_any}
use Rattle.std.proofs.lemmas.Bool.Decides.{nat_tests}
use Rattle.std.proofs.Math.ListN.{set}
use Rattle.std.proofs.lemmas.List.{append-nil}
use mathlib.Core.Logic.{dite}
use native.Mathlib.Decide.{ℕ_discrete}
use Rattle.lab_history.specs.declared.grant.Grant.{Grant}
use Rattle.lab_history.specs.declared.fault.BookFault.{BookFault}
use Rattle.lab_history.specs.declared.fault.BookFault.TheVariants.{StaleLease}
use Rattle.lab_history.specs.declared.entry.Call.{Call}
use Rattle.lab_history.specs.declared.entry.Call.TheVariants as call
use Rattle.lab_history.specs.declared.entry.Reply.{Reply}
use Rattle.lab_history.specs.declared.entry.Reply.TheVariants as reply
use Rattle.lab_history.specs.declared.entry.Entry.{Entry}
use Rattle.lab_book.specs.Tile.{TileValue, mark_of}
use Rattle.lab_book.specs.Tiling.{AreNumbered, tile_at}
use Rattle.lab_book.specs.Book.{BookValue, Outcome, outcome, book_step, found, made_at, lease_fault, settled, freed, closed, end_fault}
use Rattle.lab_book.specs.Calls.{is_current, next_entry}
use Rattle.lab_desk.specs.declared.seat.Noted.{Noted}
use Rattle.lab_desk.specs.Record.{noted, notes_of, is_one, leases_without, leases_left, held_by, held_from, held_in, holds}
use Rattle.lab_desk.specs.Seats.{AllStand}
use Rattle.lab_desk.proofs.StayLemmas.{Stands, IsEndOf, current, stays, gives, end_stays, found_id, found_below, passed, tested}

-- whether a lease is among these
abbrev among : List Grant → Grant → Bool
among gs g = list_any (λ (h : Grant). is_one h g) gs

-- ---- leases in a list

equal_to : (g h : Grant) → is_one g h ≡ true → g ≡ h
equal_to g h e =
    let id : g.id ≡ h.id = grind (arith, nat_tests) in
    let worker : g.worker ≡ h.worker = grind (arith, nat_tests) in
    let index : g.index ≡ h.index = grind (arith, nat_tests) in
    λ k. record { id = id k; worker = worker k; index = index k }

one_of : (g h : Grant) (gs : List Grant) → among (g ∷ gs) h ≡ true → (is_one g h ≡ true) ⊎ (among gs h ≡ true)
one_of g h gs = by (is_one g h)
  where
    by : (b : Bool) → (b || among gs h) ≡ true → (b ≡ true) ⊎ (among gs h ≡ true)
    by true e = inl refl
    by false e = inr e

module _ {X : Type 0} (p q : X → Bool) where
  any_filter : (xs : List X) → list_any p (filter q xs) ≡ true → list_any p xs ≡ true
  any_filter [] e = e
  any_filter (x ∷ xs) e = let ih = any_filter xs in grind arith

-- a lease that was taken out isn't there
gone : (g : Grant) (gs : List Grant) → among (leases_without g gs) g ≡ false
gone g [] = refl
gone g (h ∷ gs) = let ih = gone g gs in grind arith

-- ---- a lease that a worker holds stands after its call

-- a current lease stands
stands : (ts : List TileValue) (g : Grant) → is_current ts g ≡ true → Stands ts g
stands ts g = by (found ts g.id (λ t. lease_fault g t None)) refl
  where
    by : (r : Result ℕ BookFault) → found ts g.id (λ t. lease_fault g t None) ≡ r → is_ok r ≡ true → Stands ts g
    by (Ok i) is e = (
      i,
      (
        found_below ts g.id (λ t. lease_fault g t None) i is,
        found_id ts g.id (λ t. lease_fault g t None) i is,
        tested _ (StaleLease (mark_of (tile_at ts i))) None (passed ts g.id (λ t. lease_fault g t None) i is),
      ),
    )
    by (Err f) is e = absurd (cc)

-- what a worker holds after a call of its own stands
abbrev Keeps : List Grant → Call → Grant → Outcome → Type 0
Keeps hs c g o = among (held_by hs c o.reply) g ≡ true → Stands o.tiles g

made_keeps : (ts : List TileValue) (hs : List Grant) (c : Call) (g : Grant) (change : ℕ → Outcome) (r : Result ℕ BookFault)
    → (among hs g ≡ true → Stands ts g) → ((i : ℕ) → r ≡ Ok i → Keeps hs c g (change i)) → Keeps hs c g (made_at ts change r)
made_keeps ts hs c g change (Ok i) s f = f i refl
made_keeps ts hs c g change (Err e) s f = s

-- by a call that ends no lease
other_keeps : (b : BookValue) (w : ℕ) (c : Call) (hs : List Grant) (g : Grant) → AreNumbered b.tiles → (among hs g ≡ true → Stands b.tiles g)
    → (IsEndOf c g → ⊥) → leases_left c hs ≡ hs → Keeps hs c g (outcome b w c)
other_keeps b w c hs g n s other left = by (outcome b w c).reply refl
  where
    on : among hs g ≡ true → Stands (outcome b w c).tiles g
    on e = stays b w c g n (s e) other

    by : (r : Reply) → (outcome b w c).reply ≡ r → among (held_by hs c r) g ≡ true → Stands (outcome b w c).tiles g
    by (reply.Leased h lo hi mark k) is e = pick (one_of h g hs e)
      where
        pick : (is_one h g ≡ true) ⊎ (among hs g ≡ true) → Stands (outcome b w c).tiles g
        pick (inl same) = subst (Stands (outcome b w c).tiles) (equal_to h g same) (gives b w c h lo hi mark k is)
        pick (inr held) = on held
    by reply.Done is e = on (subst (λ gs. among gs g ≡ true) left e)
    by reply.NoneWaits is e = on e
    by (reply.Posted stop k) is e = on e
    by (reply.Split id) is e = on e
    by (reply.Retracted from to) is e = on e
    by (reply.Refused f) is e = on e

-- by one that ends a lease
end_keeps : (ts : List TileValue) (hs : List Grant) (h g : Grant) (i : ℕ) (more : TileValue → Option BookFault) (u : TileValue)
    → (among hs g ≡ true → Stands ts g) → found ts h.id (λ t. lease_fault h t (more t)) ≡ Ok i → among (leases_without h hs) g ≡ true
    → Stands (set ts i u) g
end_keeps ts hs h g i more u s found e =
    end_stays ts g h i more u
    (λ same. true≢false (sym e ∙ ap (λ x. among (leases_without x hs) g) same ∙ gone g hs)) found
    (s (any_filter (λ (x : Grant). is_one x g) (λ (x : Grant). not (is_one x h)) hs e))

own_keeps : (b : BookValue) (w : ℕ) (c : Call) (hs : List Grant) (g : Grant) → AreNumbered b.tiles → (among hs g ≡ true → Stands b.tiles g)
    → Keeps hs c g (outcome b w c)
unfolding outcome
own_keeps b w (call.Park h) hs g n s = made_keeps b.tiles hs (call.Park h) g (settled b freed) _ s (λ i is e. end_keeps b.tiles hs h g i (λ t. None) _ s is e)
own_keeps b w (call.Abandon h) hs g n s = made_keeps b.tiles hs (call.Abandon h) g (settled b freed) _ s (λ i is e. end_keeps b.tiles hs h g i (λ t. None) _ s is e)
own_keeps b w (call.Close h) hs g n s = made_keeps b.tiles hs (call.Close h) g (settled b closed) _ s (λ i is e. end_keeps b.tiles hs h g i end_fault _ s is e)
own_keeps b w (call.Lease id) hs g n s = other_keeps b w (call.Lease id) hs g n s (λ no. no) refl
own_keeps b w call.LeaseAny hs g n s = other_keeps b w call.LeaseAny hs g n s (λ no. no) refl
own_keeps b w (call.TakeHeld id) hs g n s = other_keeps b w (call.TakeHeld id) hs g n s (λ no. no) refl
own_keeps b w (call.Post h from to same) hs g n s = other_keeps b w (call.Post h from to same) hs g n s (λ no. no) refl
own_keeps b w (call.Split h path same) hs g n s = other_keeps b w (call.Split h path same) hs g n s (λ no. no) refl
own_keeps b w (call.Retract h) hs g n s = other_keeps b w (call.Retract h) hs g n s (λ no. no) refl
own_keeps b w (call.PutBack id state) hs g n s = other_keeps b w (call.PutBack id state) hs g n s (λ no. no) refl
own_keeps b w (call.RequestStop id) hs g n s = other_keeps b w (call.RequestStop id) hs g n s (λ no. no) refl

-- ---- notes of one entry more

append_notes : (k i : ℕ) (es : List Entry) (e : Entry) → notes_of k i (es ++ e ∷ []) ≡ notes_of k i es ++ notes_of k (i + length es) (e ∷ [])
append_notes k i [] e = ap (λ j. notes_of k j (e ∷ [])) (let z : i ≡ i + 0 = omega arith in z)
append_notes k i (x ∷ es) e = by (x.worker == k) (append_notes k (i + 1) es e)
  where
    next : i + 1 + length es ≡ i + length (x ∷ es)
    next = omega arith

    by : (b : Bool) → notes_of k (i + 1) (es ++ e ∷ []) ≡ notes_of k (i + 1) es ++ notes_of k (i + 1 + length es) (e ∷ [])
        → cond b (noted i x ∷ []) [] ++ notes_of k (i + 1) (es ++ e ∷ [])
        ≡ (cond b (noted i x ∷ []) [] ++ notes_of k (i + 1) es) ++ notes_of k (i + length (x ∷ es)) (e ∷ [])
    by true ih = ap (λ ns. noted i x ∷ ns) (ih ∙ ap (λ j. notes_of k (i + 1) es ++ notes_of k j (e ∷ [])) next)
    by false ih = ih ∙ ap (λ j. notes_of k (i + 1) es ++ notes_of k j (e ∷ [])) next

-- where an entry is the worker's, its note comes before those of the entries after it
begins : (number i : ℕ) (e : Entry) (es : List Entry) → e.worker ≡ number
    → notes_of number i (e ∷ es) ≡ noted i e ∷ notes_of number (i + 1) es
begins number i e es w = grind (arith, nat_tests)

-- where an entry is another worker's, the notes are those of the entries after it
passes : (number i : ℕ) (e : Entry) (es : List Entry) → (e.worker ≡ number → ⊥) → notes_of number i (e ∷ es) ≡ notes_of number (i + 1) es
passes number i e es w = grind (arith, nat_tests)

-- the worker's own
pub own_more : (k i : ℕ) (es : List Entry) (e : Entry) → e.worker ≡ k → notes_of k i (es ++ e ∷ []) ≡ notes_of k i es ++ noted (i + length es) e ∷ []
own_more k i es e own = append_notes k i es e ∙ ap (λ ns. notes_of k i es ++ ns) (begins k (i + length es) e [] own)

-- another worker's
pub others_more : (k i : ℕ) (es : List Entry) (e : Entry) → (e.worker ≡ k → ⊥) → notes_of k i (es ++ e ∷ []) ≡ notes_of k i es
others_more k i es e apart =
    append_notes k i es e ∙ ap (λ ns. notes_of k i es ++ ns) (passes k (i + length es) e [] apart) ∙ append-nil (notes_of k i es)

-- and what they leave open
pub held_more : (gs : List Grant) (ns : List Noted) (n : Noted) → held_from gs (ns ++ n ∷ []) ≡ held_by (held_from gs ns) n.entry.call n.entry.reply
held_more gs [] n = refl
held_more gs (x ∷ ns) n = held_more (held_by gs x.entry.call x.entry.reply) ns n

-- each lease that is held stands after a call of a worker, which ends no lease but its own
pub all_stand : (opening : List Entry) (b d : BookValue) (w : ℕ) (c : Call) (all : List Entry) → AreNumbered b.tiles → AreNumbered d.tiles
    → d ≡ book_step b w c → ((g : Grant) → IsEndOf c g → g.worker ≡ w) → AllStand opening all b.tiles → AllStand opening (all ++ next_entry b w c ∷ []) d.tiles
all_stand opening b d w c all n m made own stand g held =
    current d.tiles g m (subst (λ ts. Stands ts g) (sym (ap (λ (x : BookValue). x.tiles) made)) (dite (ℕ_discrete g.worker w) mine other))
  where
    from : ℕ
    from = length opening

    mine : g.worker ≡ w → Stands (outcome b w c).tiles g
    mine same =
        own_keeps b w c (held_in (notes_of g.worker from all)) g n (λ h. stands b.tiles g (stand g h))
        (subst (λ gs. among gs g ≡ true)
        (ap held_in (own_more g.worker from all (next_entry b w c) (sym same))
        ∙ held_more [] (notes_of g.worker from all) (noted (from + length all) (next_entry b w c))) held)

    other : (g.worker ≡ w → ⊥) → Stands (outcome b w c).tiles g
    other apart =
        stays b w c g n
        (stands b.tiles g (stand g (subst (λ ns. holds ns g ≡ true) (others_more g.worker from all (next_entry b w c) (λ e. apart (sym e))) held)))
        (λ end. apart (own g end))
