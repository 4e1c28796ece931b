-- What a call at a desk leaves known: under the lock, and at the seat that called.
use Rattle.std.proofs.Common.{◌≡◌, ◌≢◌, ◌⊎◌, ℕ, ◌+◌, ◌<◌, ◌≤◌, ◌==◌, ◌&&◌, Bool, true, false, cond, Result, Ok, Err, IfOk, IfErr, OnErr, List, [], ◌∷◌, ◌++◌, length, take, drop, refl, sym, ap, ◌∙◌, subst, inl, inr, ⊎_elim, arith, length-drop, length-take}
use Rattle.std.specs.Prelude.{nat_lt, Option, Some, None, MatchOption}
use Rattle.std.proofs.lemmas.List.{take-append-le, drop-append-le, map-append}
use Rattle.std.proofs.lemmas.List.Folds.{list_all-append}
use Rattle.std.proofs.lemmas.Bool.Decides.{nat_tests}
use Rattle.lab_history.specs.declared.grant.Grant.{Grant}
use Rattle.lab_history.specs.declared.fault.BookFault.{BookFault}
use Rattle.lab_history.specs.declared.ending.Ending.{Ending}
use Rattle.lab_history.specs.declared.ending.Ending.TheVariants as ending
use Rattle.lab_history.specs.Ending.{call_of_end}
use Rattle.lab_history.specs.declared.entry.Call.{Call}
use Rattle.lab_history.specs.declared.entry.Call.TheVariants as call
use Rattle.lab_history.specs.declared.entry.Reply.{Reply}
use Rattle.lab_history.specs.declared.entry.Reply.TheVariants as reply
use Rattle.lab_history.specs.declared.entry.Entry.{Entry}
use Rattle.lab_book.specs.Tiling.{AreNumbered}
use Rattle.lab_book.specs.Book.{BookValue, outcome, book_step, made_at, lent, lent_any, first_waiting}
use Rattle.lab_book.specs.Calls.{Made, Refuses, next_entry, is_current, leased_reply, any_reply}
use Rattle.lab_book.specs.declared.lease.Leased.{Leased}
use Rattle.lab_desk.specs.declared.seat.Noted.{Noted}
use Rattle.lab_desk.specs.Record.{noted, notes_of, shifted, call_entry, ends_lease, kept_by, kept_from, held_by, held_in, holds, leases_left, leases_without, Notes, NotesRefusal, AtSomeIndex}
use Rattle.lab_desk.specs.Seats.{AllStand, are_of_workers}
use Rattle.lab_desk.proofs.StayLemmas.{IsEndOf}
use Rattle.lab_desk.proofs.HeldLemmas.{own_more, others_more, held_more, all_stand}

-- a call is made of a book, or memory ran out and nothing has changed
abbrev Stepped : BookValue → BookValue → ℕ → Call → Type 0
Stepped b d w c = (d ≡ b) ⊎ (d ≡ book_step b w c)

refused_step : (b d : BookValue) (w : ℕ) (c : Call) (f : BookFault) → Refuses b d w c f → Stepped b d w c
refused_step b d w c f (inl p) = inl p.1
refused_step b d w c f (inr p) = inr p.1.book

pub stepped : {X F : Type 0} (r : Result X F) (view : X → Reply) (fault : F → BookFault) (b d : BookValue) (w : ℕ) (c : Call)
    → IfOk r (λ x. Made b d w c (view x)) → IfErr r (λ f. Refuses b d w c (fault f)) → Stepped b d w c
stepped (Ok x) view fault b d w c made refused = inr made.book
stepped (Err f) view fault b d w c made refused = refused_step b d w c (fault f) refused

pub stepped_any : {X F : Type 0} (r : Result X F) (view : X → Reply) (b d : BookValue) (w : ℕ) (c : Call)
    → IfOk r (λ x. Made b d w c (view x)) → OnErr r (d ≡ b) → Stepped b d w c
stepped_any (Ok x) view b d w c made refused = inr made.book
stepped_any (Err f) view b d w c made refused = inl refused

-- a call that ends a lease of this worker ends no other's
pub own_end : (e : Ending) (h : Grant) (w : ℕ) → h.worker ≡ w → (g : Grant) → IsEndOf (call_of_end e h) g → g.worker ≡ w
own_end ending.Park h w is g same = ap (λ (x : Grant). x.worker) (sym same) ∙ is
own_end ending.Abandon h w is g same = ap (λ (x : Grant). x.worker) (sym same) ∙ is
own_end ending.Close h w is g same = ap (λ (x : Grant). x.worker) (sym same) ∙ is

-- what is left by it
pub left_of_end : (e : Ending) (h : Grant) (gs : List Grant) → leases_left (call_of_end e h) gs ≡ leases_without h gs
left_of_end ending.Park h gs = refl
left_of_end ending.Abandon h gs = refl
left_of_end ending.Close h gs = refl

pub ends_of_end : (e : Ending) (h : Grant) → ends_lease (call_of_end e h) ≡ true
ends_of_end ending.Park h = refl
ends_of_end ending.Abandon h = refl
ends_of_end ending.Close h = refl

-- ---- under the lock

module _ (opening all : List Entry) (b d : BookValue) (w : ℕ) (c : Call) (st : Stepped b d w c) (opened : take (length opening) b.history ≡ opening)
    (known : all ≡ drop (length opening) b.history) where
  abbrev from : ℕ
  from = length opening

  abbrev later : List Entry
  later = drop from d.history

  long : from ≤ length b.history
  long = let e = ap (length {A = Entry}) opened in let t = length-take from b.history in omega (arith, e, t)

  made_later : d ≡ book_step b w c → later ≡ all ++ next_entry b w c ∷ []
  made_later e = ap (λ (x : BookValue). drop from x.history) e ∙ drop-append-le from b.history (next_entry b w c ∷ []) long
      ∙ ap (λ es. es ++ next_entry b w c ∷ []) (sym known)

  same_later : d ≡ b → later ≡ all
  same_later e = ap (λ (x : BookValue). drop from x.history) e ∙ sym known

  pub others : (j : ℕ) → j ≢ w → notes_of j 0 later ≡ notes_of j 0 all
  others j apart = ⊎_elim (λ e. ap (notes_of j 0) (same_later e))
      (λ e. ap (notes_of j 0) (made_later e) ∙ others_more j 0 all (next_entry b w c) (λ same. apart (sym same))) st

  pub opens : take from d.history ≡ opening
  opens = ⊎_elim (λ e. ap (λ (x : BookValue). take from x.history) e ∙ opened)
      (λ e. ap (λ (x : BookValue). take from x.history) e ∙ take-append-le from b.history (next_entry b w c ∷ []) long ∙ opened) st

  pub same_problem : d.problem ≡ b.problem
  same_problem = ⊎_elim (λ e. ap (λ (x : BookValue). x.problem) e) (λ e. ap (λ (x : BookValue). x.problem) e) st

  pub same_branch : d.branch ≡ b.branch
  same_branch = ⊎_elim (λ e. ap (λ (x : BookValue). x.branch) e) (λ e. ap (λ (x : BookValue). x.branch) e) st

  pub same_first : d.first ≡ b.first
  same_first = ⊎_elim (λ e. ap (λ (x : BookValue). x.first) e) (λ e. ap (λ (x : BookValue). x.first) e) st

  pub crewed : (n : ℕ) → w < n → are_of_workers n all ≡ true → are_of_workers n later ≡ true
  crewed n below is = ⊎_elim (λ e. ap (are_of_workers n) (same_later e) ∙ is)
      (λ e. ap (are_of_workers n) (made_later e) ∙ list_all-append (λ (x : Entry). nat_lt x.worker n) all (next_entry b w c ∷ [])
      ∙ (let t : nat_lt w n ≡ true = grind (arith, nat_tests) in ap (λ t. t && (nat_lt w n && true)) is ∙ ap (λ t. true && (t && true)) t)) st

  pub standing : AreNumbered b.tiles → AreNumbered d.tiles → ((g : Grant) → IsEndOf c g → g.worker ≡ w) → AllStand opening all b.tiles → AllStand opening later d.tiles
  standing n m own stand g = ⊎_elim
      (λ e h. ap (λ (x : BookValue). is_current x.tiles g) e ∙ stand g (subst (λ es. holds (notes_of g.worker from es) g ≡ true) (same_later e) h))
      (λ e h. all_stand opening b d w c all n m e own stand g (subst (λ es. holds (notes_of g.worker from es) g ≡ true) (made_later e) h)) st

-- ---- at the seat

kept_more : (k : ℕ) (ns : List Noted) (n : Noted) → kept_from k (ns ++ n ∷ []) ≡ kept_by (kept_from k ns) n.entry.call n.entry.reply
kept_more k [] n = refl
kept_more k (x ∷ ns) n = kept_more (kept_by k x.entry.call x.entry.reply) ns n

-- notes of the entries since an opening, by their indexes in the history
pub shift_notes : (k m i : ℕ) (es : List Entry) → shifted m (notes_of k i es) ≡ notes_of k (i + m) es
shift_notes k m i [] = refl
shift_notes k m i (e ∷ es) = by (e.worker == k) (shift_notes k m (i + 1) es)
  where
    next : i + 1 + m ≡ i + m + 1
    next = omega arith

    by : (t : Bool) → shifted m (notes_of k (i + 1) es) ≡ notes_of k (i + 1 + m) es
        → shifted m (cond t (noted i e ∷ []) [] ++ notes_of k (i + 1) es) ≡ cond t (noted (i + m) e ∷ []) [] ++ notes_of k (i + m + 1) es
    by true ih = ap (λ ns. noted (i + m) e ∷ ns) (ih ∙ ap (λ j. notes_of k j es) next)
    by false ih = ih ∙ ap (λ j. notes_of k j es) next

pub at_opening : (k m : ℕ) (es : List Entry) → shifted m (notes_of k 0 es) ≡ notes_of k m es
at_opening k m es = let z : 0 + m ≡ m = omega arith in shift_notes k m 0 es ∙ ap (λ i. notes_of k i es) z

-- what a seat knows, before a call (`mine`) and after it (`more`)
module _ (opening all : List Entry) (b d : BookValue) (w : ℕ) (c : Call) (opened : take (length opening) b.history ≡ opening)
    (known : all ≡ drop (length opening) b.history) (k : ℕ) (is : k ≡ w) (mine more : List Noted) (agreed : mine ≡ notes_of k 0 all)
    (gained : more ≡ notes_of k 0 (drop (length opening) d.history)) where
  -- a call that was made is one note more
  one_more : d ≡ book_step b w c → more ≡ mine ++ noted (0 + length all) (next_entry b w c) ∷ []
  one_more e =
      gained
      ∙ ap (notes_of k 0) (made_later opening all b d w c (inr e) opened known e)
      ∙ own_more k 0 all (next_entry b w c) (sym is)
      ∙ ap (λ ns. ns ++ noted (0 + length all) (next_entry b w c) ∷ []) (sym agreed)

  pub none_more : d ≡ b → more ≡ mine
  none_more e = gained ∙ ap (notes_of k 0) (same_later opening all b d w c (inl e) opened known e) ∙ sym agreed

  place : 0 + length all + length opening ≡ length b.history
  place =
      let l = long opening all b b w c (inl refl) opened known in
      let m = ap (length {A = Entry}) known in let n = length-drop (length opening) b.history in omega (arith, l, m, n)

  pub answered : (r : Reply) → Made b d w c r → Notes (length b.history) (shifted (length opening) mine) (shifted (length opening) more) w c r
  answered r made =
      ap (shifted (length opening)) (one_more made.book)
      ∙ map-append (λ (n : Noted). noted (n.index + length opening) n.entry) mine (noted (0 + length all) (next_entry b w c) ∷ [])
      ∙ ap (λ i. shifted (length opening) mine ++ noted i (next_entry b w c) ∷ []) place
      ∙ ap (λ a. shifted (length opening) mine ++ noted (length b.history) (call_entry w c a) ∷ []) (sym made.reply)

  -- at an index that is that of its entry
  pub answered_at : (i : ℕ) (r : Reply) → i ≡ length b.history → Made b d w c r
      → Notes i (shifted (length opening) mine) (shifted (length opening) more) w c r
  answered_at i r e made = answered r made ∙ ap (λ n. shifted (length opening) mine ++ noted n (call_entry w c r) ∷ []) (sym e)

  pub refusal : (f : BookFault) → Refuses b d w c f → NotesRefusal (length b.history) (shifted (length opening) mine) (shifted (length opening) more) w c f
  refusal f (inl p) = inl (p.0, ap (shifted (length opening)) (none_more p.1))
  refusal f (inr p) = inr (p.0, answered (reply.Refused f) p.1)

  pub kept : (r : Reply) → Made b d w c r → kept_from 0 more ≡ kept_by (kept_from 0 mine) c r
  kept r made =
      ap (kept_from 0) (one_more made.book)
      ∙ kept_more 0 mine (noted (0 + length all) (next_entry b w c))
      ∙ ap (λ a. kept_by (kept_from 0 mine) c a) (sym made.reply)

  pub refusal_kept : (f : BookFault) → Refuses b d w c f → kept_from 0 more ≡ kept_from 0 mine
  refusal_kept f (inl p) = ap (kept_from 0) (none_more p.1)
  refusal_kept f (inr p) = kept (reply.Refused f) p.1

  pub held : (r : Reply) → Made b d w c r → held_in (shifted (length opening) more) ≡ held_by (held_in (shifted (length opening) mine)) c r
  held r made = ap held_in (answered r made) ∙ held_more [] (shifted (length opening) mine) (noted (length b.history) (call_entry w c r))

  pub refusal_held : (f : BookFault) → Refuses b d w c f → held_in (shifted (length opening) more) ≡ held_in (shifted (length opening) mine)
  refusal_held f (inl p) = ap (λ ns. held_in (shifted (length opening) ns)) (none_more p.1)
  refusal_held f (inr p) = held (reply.Refused f) p.1

-- a lease that a seat holds is the current one of its tile
pub held_current : (opening all : List Entry) (b : BookValue) (k : ℕ) (g : Grant) (mine : List Noted) → g.worker ≡ k → mine ≡ notes_of k 0 all
    → AllStand opening all b.tiles → holds (shifted (length opening) mine) g ≡ true → is_current b.tiles g ≡ true
held_current opening all b k g mine is agreed stand h =
    stand g
    (subst (λ ns. holds ns g ≡ true)
    (ap (shifted (length opening)) agreed ∙ at_opening k (length opening) all ∙ ap (λ j. notes_of j (length opening) all) (sym is))
    h)

-- ---- the index of a lease is that of the entry that gave it

abbrev index_of : Reply → ℕ
index_of (reply.Leased g lo hi mark waiting) = g.index
index_of r = 0

lent_index : (b : BookValue) (w : ℕ) (place : Result ℕ BookFault) (r : Leased) → leased_reply r ≡ (made_at b.tiles (lent b w) place).reply
    → r.lease.index ≡ length b.history
lent_index b w (Ok i) r e = ap index_of e
lent_index b w (Err f) r e = absurd (cc)

pub lease_index : (b d : BookValue) (w id : ℕ) (r : Leased) → Made b d w (call.Lease id) (leased_reply r) → r.lease.index ≡ length b.history
unfolding outcome
lease_index b d w id r made = lent_index b w _ r made.reply

pub taken_index : (b d : BookValue) (w id : ℕ) (r : Leased) → Made b d w (call.TakeHeld id) (leased_reply r) → r.lease.index ≡ length b.history
unfolding outcome
taken_index b d w id r made = lent_index b w _ r made.reply

pub any_index : (b d : BookValue) (w : ℕ) (r : Leased) → Made b d w call.LeaseAny (leased_reply r) → r.lease.index ≡ length b.history
unfolding outcome
any_index b d w r made = any_lent_index (first_waiting b.tiles) made.reply
  where
    any_lent_index : (place : Option ℕ) → leased_reply r ≡ (lent_any b w place).reply → r.lease.index ≡ length b.history
    any_lent_index None e = absurd (cc)
    any_lent_index (Some i) e = ap index_of e

-- a call that leases any tile
module _ (opening all : List Entry) (b d : BookValue) (w : ℕ) (opened : take (length opening) b.history ≡ opening)
    (known : all ≡ drop (length opening) b.history) (k : ℕ) (is : k ≡ w) (mine more : List Noted) (agreed : mine ≡ notes_of k 0 all)
    (gained : more ≡ notes_of k 0 (drop (length opening) d.history)) where
  abbrev before : List Noted
  before = shifted (length opening) mine

  abbrev after : List Noted
  after = shifted (length opening) more

  pub any_answered : (o : Option Leased) → Made b d w call.LeaseAny (any_reply o)
      → MatchOption o (AtSomeIndex (λ i. Notes i before after w call.LeaseAny reply.NoneWaits))
      (λ l. Notes l.lease.index before after w call.LeaseAny (leased_reply l))
  any_answered None made = (length b.history, answered opening all b d w call.LeaseAny opened known k is mine more agreed gained reply.NoneWaits made)
  any_answered (Some l) made =
      answered_at opening all b d w call.LeaseAny opened known k is mine more agreed gained l.lease.index (leased_reply l) (any_index b d w l made) made

  pub any_held : (o : Option Leased) → Made b d w call.LeaseAny (any_reply o)
      → MatchOption o (held_in after ≡ held_in before) (λ l. held_in after ≡ l.lease ∷ held_in before)
  any_held None made = held opening all b d w call.LeaseAny opened known k is mine more agreed gained reply.NoneWaits made
  any_held (Some l) made = held opening all b d w call.LeaseAny opened known k is mine more agreed gained (leased_reply l) made

  pub any_kept : (o : Option Leased) → Made b d w call.LeaseAny (any_reply o)
      → MatchOption o (kept_from 0 more ≡ kept_from 0 mine) (λ l. kept_from 0 more ≡ kept_from 0 mine + 1)
  any_kept None made = kept opening all b d w call.LeaseAny opened known k is mine more agreed gained reply.NoneWaits made
  any_kept (Some l) made = kept opening all b d w call.LeaseAny opened known k is mine more agreed gained (leased_reply l) made
