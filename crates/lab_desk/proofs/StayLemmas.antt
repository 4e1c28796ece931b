-- A current lease stays so at each call that doesn't end it.
use Rattle.std.proofs.Common.{◌≡◌, ℕ, zero, suc, ◌+◌, ◌<◌, ◌==◌, Bool, true, false, Option, Some, None, Result, Ok, Err}
use Rattle.std.proofs.Common.{List, [], ◌∷◌, ◌++◌, length, take, drop, refl, sym, ap, ◌∙◌, arith, eq-eqb}
use Rattle.std.proofs.Math.ListN.{set}
use Rattle.std.proofs.lemmas.Bool.{ne_eqb}
use Rattle.std.proofs.lemmas.Bool.Decides.{nat_tests}
use Rattle.std.proofs.lemmas.List.{get_or-set_same, get_or-set_other, length-set}
use Rattle.std.proofs.lemmas.List.Quantifiers.{position-Some}
use mathlib.Core.Logic.{dite}
use native.Mathlib.Decide.{ℕ_discrete}
use Rattle.x_steps.specs.StateValue.{StateValue}
use Rattle.lab_book.specs.declared.status.Status.{Status}
use Rattle.lab_book.specs.declared.status.Status.TheVariants.{Waiting, Held, Leased, Closed}
use Rattle.lab_history.specs.declared.grant.Grant.{Grant}
use Rattle.lab_history.specs.declared.fault.BookFault.{BookFault}
use Rattle.lab_history.specs.declared.fault.BookFault.TheVariants.{NotWaiting}
use Rattle.lab_history.specs.declared.entry.Reply.TheVariants as reply
use Rattle.lab_history.specs.declared.entry.Call.{Call}
use Rattle.lab_history.specs.declared.entry.Call.TheVariants as call
use Rattle.lab_book.specs.Tile.{TileValue, is_waiting, is_held, is_lease, asked_status}
use Rattle.lab_book.specs.Tiling.{AreNumbered, tile_at, no_tile}
use Rattle.lab_book.specs.Book.{BookValue, Outcome, outcome, found, checked, unless, made_at, tile_place, first_waiting, else_fault, status_fault, lease_fault, lent, lent_tile, lent_any, posted, split, retracted, settled, freed, closed, put_back, asked_to_stop, end_fault}
use Rattle.lab_book.specs.Calls.{is_current}
use Rattle.lab_book.proofs.IndexLemmas.{position_at}

-- a lease stands: some tile has its id, and is leased by it
abbrev StandsAt : List TileValue → Grant → ℕ → Type 0
StandsAt ts g i = (i < length ts) × ((tile_at ts i).id ≡ g.id) × (is_lease (tile_at ts i).status g ≡ true)

abbrev pub Stands : List TileValue → Grant → Type 0
Stands ts g = (i : ℕ) × StandsAt ts g i

-- a call by this very lease that ends it
abbrev pub IsEndOf : Call → Grant → Type 0
IsEndOf (call.Park h) g = h ≡ g
IsEndOf (call.Abandon h) g = h ≡ g
IsEndOf (call.Close h) g = h ≡ g
IsEndOf c g = ⊥

-- a lease that stands is found by its id
pub current : (ts : List TileValue) (g : Grant) → AreNumbered ts → Stands ts g → is_current ts g ≡ true
current ts g n s =
    let at : tile_place g.id ts ≡ Some s.0 =
    position_at (λ (t : TileValue). t.id == g.id) ts s.0 no_tile s.1.0
    (λ k lt. ne_eqb (tile_at ts k).id g.id (λ e. let same = n.once k s.0 (let m = s.1.0 in omega arith) s.1.0 (e ∙ sym s.1.1) in omega arith))
    (eq-eqb (tile_at ts s.0).id g.id s.1.1) in
    rw at (rw s.1.2 refl)

-- one tile changes, and if it was this lease's it still is
set_stays : (ts : List TileValue) (i : ℕ) (u : TileValue) (g : Grant)
    → ((tile_at ts i).id ≡ g.id → is_lease (tile_at ts i).status g ≡ true → (u.id ≡ g.id) × (is_lease u.status g ≡ true)) → Stands ts g → Stands (set ts i u) g
set_stays ts i u g keep s =
    let long = length-set ts i u in
    let lt = s.1.0 in
    let d : ((tile_at (set ts i u) s.0).id ≡ g.id) × (is_lease (tile_at (set ts i u) s.0).status g ≡ true) = dite (ℕ_discrete s.0 i)
    (λ e. let k = keep (ap (λ j. (tile_at ts j).id) (sym e) ∙ s.1.1) (ap (λ j. is_lease (tile_at ts j).status g) (sym e) ∙ s.1.2) in
    let here : tile_at (set ts i u) s.0 ≡ u = ap (tile_at (set ts i u)) e ∙ get_or-set_same ts i u no_tile (omega arith) in
    (ap (λ (t : TileValue). t.id) here ∙ k.0, ap (λ (t : TileValue). is_lease t.status g) here ∙ k.1))
    (λ ne. let other : tile_at (set ts i u) s.0 ≡ tile_at ts s.0 = get_or-set_other ts i s.0 u no_tile ne in
    (ap (λ (t : TileValue). t.id) other ∙ s.1.1, ap (λ (t : TileValue). is_lease t.status g) other ∙ s.1.2)) in
    (s.0, (omega arith, d.0, d.1))

-- a call that finds its place
made_stays : (ts : List TileValue) (g : Grant) (change : ℕ → Outcome) (r : Result ℕ BookFault) → Stands ts g
    → ((i : ℕ) → r ≡ Ok i → Stands (change i).tiles g) → Stands (made_at ts change r).tiles g
made_stays ts g change (Ok i) s f = f i refl
made_stays ts g change (Err e) s f = s

-- what is found passes the check
pub passed : (ts : List TileValue) (id : ℕ) (check : TileValue → Option BookFault) (i : ℕ) → found ts id check ≡ Ok i → check (tile_at ts i) ≡ None
passed ts id check i = by (tile_place id ts)
  where
    at : (j : ℕ) (o : Option BookFault) → check (tile_at ts j) ≡ o → unless j o ≡ Ok i → check (tile_at ts i) ≡ None
    at j None is e = let same : j ≡ i = cc in ap (λ k. check (tile_at ts k)) (sym same) ∙ is
    at j (Some f) is e = absurd (cc)

    by : (place : Option ℕ) → checked ts check place ≡ Ok i → check (tile_at ts i) ≡ None
    by None e = absurd (cc)
    by (Some j) e = at j (check (tile_at ts j)) refl e

-- a test that has no fault is true
pub tested : (b : Bool) (f : BookFault) (next : Option BookFault) → else_fault b f next ≡ None → b ≡ true
tested true f next e = refl
tested false f next e = absurd (cc)

-- who waits or is held is nobody's
waiting_free : (s : Status) (g : Grant) → is_waiting s ≡ true → is_lease s g ≡ true → ⊥
waiting_free Waiting g a b = absurd (cc)
waiting_free Held g a b = absurd (cc)
waiting_free (Leased w i) g a b = absurd (cc)
waiting_free Closed g a b = absurd (cc)

held_free : (s : Status) (g : Grant) → is_held s ≡ true → is_lease s g ≡ true → ⊥
held_free Waiting g a b = absurd (cc)
held_free Held g a b = absurd (cc)
held_free (Leased w i) g a b = absurd (cc)
held_free Closed g a b = absurd (cc)

asked_lease : (s : Status) (g : Grant) → is_lease s g ≡ true → is_lease (asked_status s) g ≡ true
asked_lease Waiting g a = absurd (cc)
asked_lease Held g a = a
asked_lease (Leased w i) g a = a
asked_lease Closed g a = a

equal_by : (a b : ℕ) → (a == b) ≡ true → a ≡ b
equal_by a b e = grind (arith, nat_tests)

-- it has the id that was looked for
pub found_id : (ts : List TileValue) (id : ℕ) (check : TileValue → Option BookFault) (i : ℕ) → found ts id check ≡ Ok i → (tile_at ts i).id ≡ id
found_id ts id check i = by (tile_place id ts) refl
  where
    at : (j : ℕ) (o : Option BookFault) → unless j o ≡ Ok i → j ≡ i
    at j None e = cc
    at j (Some f) e = absurd (cc)

    by : (place : Option ℕ) → tile_place id ts ≡ place → checked ts check place ≡ Ok i → (tile_at ts i).id ≡ id
    by None is e = absurd (cc)
    by (Some j) is e =
        let p = position-Some (λ (t : TileValue). t.id == id) ts j no_tile is in
        ap (λ k. (tile_at ts k).id) (sym (at j (check (tile_at ts j)) e)) ∙ equal_by (tile_at ts j).id id p.1

-- a tile is leased by one lease alone
same_lease : (s : Status) (g h : Grant) → is_lease s g ≡ true → is_lease s h ≡ true → (h.worker ≡ g.worker) × (h.index ≡ g.index)
same_lease Waiting g h a b = absurd (cc)
same_lease Held g h a b = absurd (cc)
same_lease (Leased w i) g h a b = (grind (arith, nat_tests), grind (arith, nat_tests))
same_lease Closed g h a b = absurd (cc)

-- where the call of another lease ends it, this one stands
pub end_stays : (ts : List TileValue) (g h : Grant) (i : ℕ) (more : TileValue → Option BookFault) (u : TileValue) → (h ≡ g → ⊥)
    → found ts h.id (λ t. lease_fault h t (more t)) ≡ Ok i → Stands ts g → Stands (set ts i u) g
end_stays ts g h i more u other e =
    set_stays ts i u g
    (λ id l.
    let s = same_lease (tile_at ts i).status g h l (tested _ _ _ (passed ts h.id (λ t. lease_fault h t (more t)) i e)) in
    let ids : h.id ≡ g.id = sym (found_id ts h.id (λ t. lease_fault h t (more t)) i e) ∙ id in
    absurd (other (λ k. record { id = ids k; worker = s.0 k; index = s.1 k })))

-- one tile becomes two, of which the first is leased as it was
split_stays : (ts : List TileValue) (i k : ℕ) (h t : TileValue) (g : Grant) → (k ≡ i → (h.id ≡ g.id) × (is_lease h.status g ≡ true)) → StandsAt ts g k
    → Stands (take i ts ++ (h ∷ t ∷ []) ++ drop (suc i) ts) g
split_stays [] i k h t g same s = absurd (let m = s.0 in omega arith)
split_stays (x ∷ ts) zero zero h t g same s = let d = same refl in (0, (omega arith, d.0, d.1))
split_stays (x ∷ ts) zero (suc k) h t g same s = let m = s.0 in (suc (suc k), (omega arith, s.1, s.2))
split_stays (x ∷ ts) (suc i) zero h t g same s = (0, (omega arith, s.1, s.2))
split_stays (x ∷ ts) (suc i) (suc k) h t g same s =
    let m = s.0 in
    let r = split_stays ts i k h t g (λ e. same (ap suc e)) (omega arith, s.1, s.2) in
    let n = r.1.0 in (suc r.0, (omega arith, r.1.1, r.1.2))

-- the next that waits is leased
any_stays : (b : BookValue) (w : ℕ) (g : Grant) (o : Option ℕ) → first_waiting b.tiles ≡ o → Stands b.tiles g → Stands (lent_any b w o).tiles g
any_stays b w g None is s = s
any_stays b w g (Some i) is s =
    let p = position-Some (λ (t : TileValue). is_waiting t.status) b.tiles i no_tile is in
    set_stays b.tiles i _ g (λ _ l. absurd (waiting_free (tile_at b.tiles i).status g p.1 l)) s

pub stays : (b : BookValue) (w : ℕ) (c : Call) (g : Grant) → AreNumbered b.tiles → Stands b.tiles g → (IsEndOf c g → ⊥) → Stands (outcome b w c).tiles g
unfolding outcome
stays b w (call.Lease id) g n s other = made_stays b.tiles g (lent b w) _ s
    (λ i e. set_stays b.tiles i _ g (λ _ l. absurd (waiting_free (tile_at b.tiles i).status g (tested _ NotWaiting None (passed b.tiles id (λ t. status_fault (is_waiting t.status) t) i e)) l)) s)
stays b w call.LeaseAny g n s other = any_stays b w g (first_waiting b.tiles) refl s
stays b w (call.TakeHeld id) g n s other = made_stays b.tiles g (lent b w) _ s
    (λ i e. set_stays b.tiles i _ g (λ _ l. absurd (held_free (tile_at b.tiles i).status g (tested _ NotWaiting None (passed b.tiles id (λ t. status_fault (is_held t.status) t) i e)) l)) s)
stays b w (call.Post h from to same) g n s other = made_stays b.tiles g (posted b from to) _ s (λ i e. set_stays b.tiles i _ g (λ a l. (a, l)) s)
stays b w (call.Split h path same) g n s other = made_stays b.tiles g (split b path) _ s
    (λ i e. let next : i + 1 ≡ suc i = omega arith in rw next (split_stays b.tiles i s.0 _ _ g
    (λ k. (ap (λ j. (tile_at b.tiles j).id) (sym k) ∙ s.1.1, ap (λ j. is_lease (tile_at b.tiles j).status g) (sym k) ∙ s.1.2)) s.1))
stays b w (call.Retract h) g n s other = made_stays b.tiles g (retracted b) _ s (λ i e. set_stays b.tiles i _ g (λ a l. (a, l)) s)
stays b w (call.Park h) g n s other = made_stays b.tiles g (settled b freed) _ s (λ i e. end_stays b.tiles g h i (λ t. None) _ other e s)
stays b w (call.Abandon h) g n s other = made_stays b.tiles g (settled b freed) _ s (λ i e. end_stays b.tiles g h i (λ t. None) _ other e s)
stays b w (call.Close h) g n s other = made_stays b.tiles g (settled b closed) _ s (λ i e. end_stays b.tiles g h i end_fault _ other e s)
stays b w (call.PutBack id state) g n s other = made_stays b.tiles g (settled b (put_back state)) _ s (λ i e. set_stays b.tiles i _ g (λ a l. (a, l)) s)
stays b w (call.RequestStop id) g n s other = made_stays b.tiles g (settled b asked_to_stop) _ s
    (λ i e. set_stays b.tiles i _ g (λ a l. (a, asked_lease (tile_at b.tiles i).status g l)) s)

-- what the answer to a lease gives stands
abbrev pub Gives : Outcome → Grant → Type 0
Gives o g = (lo hi : Option (List ℕ)) (mark : StateValue) (n : ℕ) → o.reply ≡ reply.Leased g lo hi mark n → Stands o.tiles g

lent_stands : (b : BookValue) (w i : ℕ) (g : Grant) → i < length b.tiles → Gives (lent b w i) g
lent_stands b w i g lt lo hi mark n e =
    let long = length-set b.tiles i (lent_tile (tile_at b.tiles i) w (length b.history)) in
    let here : tile_at (set b.tiles i (lent_tile (tile_at b.tiles i) w (length b.history))) i ≡ lent_tile (tile_at b.tiles i) w (length b.history) =
    get_or-set_same b.tiles i (lent_tile (tile_at b.tiles i) w (length b.history)) no_tile lt in
    let is : record { id = (tile_at b.tiles i).id; worker = w; index = length b.history } ≡ g = cc in
    let worker = ap (λ (x : Grant). x.worker) is in
    let index = ap (λ (x : Grant). x.index) is in (
      i,
      (
        omega arith,
        ap (λ (t : TileValue). t.id) here ∙ ap (λ (x : Grant). x.id) is,
        ap (λ (t : TileValue). is_lease t.status g) here ∙ rw (eq-eqb w g.worker worker) (eq-eqb (length b.history) g.index index),
      ),
    )

pub found_below : (ts : List TileValue) (id : ℕ) (check : TileValue → Option BookFault) (i : ℕ) → found ts id check ≡ Ok i → i < length ts
found_below ts id check i = by (tile_place id ts) refl
  where
    at : (j : ℕ) (o : Option BookFault) → unless j o ≡ Ok i → j ≡ i
    at j None e = cc
    at j (Some f) e = absurd (cc)

    by : (place : Option ℕ) → tile_place id ts ≡ place → checked ts check place ≡ Ok i → i < length ts
    by None is e = absurd (cc)
    by (Some j) is e =
        let p = position-Some (λ (t : TileValue). t.id == id) ts j no_tile is in
        let same = at j (check (tile_at ts j)) e in let m = p.0 in omega arith

made_gives : (ts : List TileValue) (g : Grant) (change : ℕ → Outcome) (r : Result ℕ BookFault) → ((i : ℕ) → r ≡ Ok i → Gives (change i) g) → Gives (made_at ts change r) g
made_gives ts g change (Ok i) f = f i refl
made_gives ts g change (Err x) f = λ lo hi mark n e. absurd (cc)

any_gives : (b : BookValue) (w : ℕ) (g : Grant) (o : Option ℕ) → first_waiting b.tiles ≡ o → Gives (lent_any b w o) g
any_gives b w g None is = λ lo hi mark n e. absurd (cc)
any_gives b w g (Some i) is = lent_stands b w i g (position-Some (λ (t : TileValue). is_waiting t.status) b.tiles i no_tile is).0

pub gives : (b : BookValue) (w : ℕ) (c : Call) (g : Grant) → Gives (outcome b w c) g
unfolding outcome
gives b w (call.Lease id) g = made_gives b.tiles g (lent b w) _ (λ i e. lent_stands b w i g (found_below b.tiles id (λ t. status_fault (is_waiting t.status) t) i e))
gives b w call.LeaseAny g = any_gives b w g (first_waiting b.tiles) refl
gives b w (call.TakeHeld id) g = made_gives b.tiles g (lent b w) _ (λ i e. lent_stands b w i g (found_below b.tiles id (λ t. status_fault (is_held t.status) t) i e))
gives b w (call.Post h from to same) g = made_gives b.tiles g (posted b from to) _ (λ i _ lo hi mark n e. absurd (cc))
gives b w (call.Split h path same) g = made_gives b.tiles g (split b path) _ (λ i _ lo hi mark n e. absurd (cc))
gives b w (call.Retract h) g = made_gives b.tiles g (retracted b) _ (λ i _ lo hi mark n e. absurd (cc))
gives b w (call.Park h) g = made_gives b.tiles g (settled b freed) _ (λ i _ lo hi mark n e. absurd (cc))
gives b w (call.Abandon h) g = made_gives b.tiles g (settled b freed) _ (λ i _ lo hi mark n e. absurd (cc))
gives b w (call.Close h) g = made_gives b.tiles g (settled b closed) _ (λ i _ lo hi mark n e. absurd (cc))
gives b w (call.PutBack id state) g = made_gives b.tiles g (settled b (put_back state)) _ (λ i _ lo hi mark n e. absurd (cc))
gives b w (call.RequestStop id) g = made_gives b.tiles g (settled b asked_to_stop) _ (λ i _ lo hi mark n e. absurd (cc))
