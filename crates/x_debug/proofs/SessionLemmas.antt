-- What is true of every session stays true, and what acts of its worker leave of it.
use Rattle.std.proofs.Common.{◌≡◌, ℕ, true, is_some, Option, Some, None, Result, Ok, Err, List, [], ◌++◌, length, take, OnOk, OnErr, refl, sym, ◌∙◌, ap, subst}
use Rattle.std.specs.List.{list_all}
use Rattle.std.proofs.lemmas.Bool.{false≢true}
use Rattle.cover_problem.specs.Problem.{ProblemValue}
use Rattle.x_texts.specs.declared.breakpoint.Break.{Break}
use Rattle.x_texts.specs.Breaks.{is_break}
use Rattle.lab_history.specs.declared.entry.Call.TheVariants as call
use Rattle.lab_book.specs.Tiling.{IsTiling}
use Rattle.lab_book.specs.Book.{BookValue, outcome, book_step}
use Rattle.lab_world.specs.declared.event.Act.{Act}
use Rattle.lab_world.specs.Worker.{WorkerValue, HoldsTile, lent_worker}
use Rattle.lab_world.specs.World.{WorldValue, IsSeat, worker_at}
use Rattle.lab_world.specs.Alone.{Leads}
use Rattle.lab_world.proofs.TurnLemmas.{lease_any_seat}
use Rattle.debug_acts.specs.Acts.{PlaysSome, Plays}
use Rattle.x_debug.specs.Session.{SessionValue, IsSession, fresh_session}
use Rattle.x_debug.specs.Commands.{Deed, if_open, does, left_by, IsLeftBy, DoesDeed}

-- a session whose book and worker are others
abbrev pub with_seat : SessionValue → BookValue → Option WorkerValue → SessionValue
with_seat v b x = record { book = b; worker = x; breaks = v.breaks }

pub changed_session : (v : SessionValue) (b : BookValue) (x : Option WorkerValue) → IsSession v → b.problem ≡ v.book.problem → IsSeat b 0 x
    → IsSession (with_seat v b x)
changed_session v b x s p h = record { seat = h; breaks = subst (λ (q : ProblemValue). list_all (is_break q) v.breaks ≡ true) (sym p) s.breaks }

-- its worker keeps its number
pub working_session : (v : SessionValue) (w y : WorkerValue) (b : BookValue) → IsSession v → v.worker ≡ Some w → b.problem ≡ v.book.problem
    → IsSeat b w.grant.worker (Some y) → IsSession (with_seat v b (Some y))
working_session v w y b s at p h = changed_session v b (Some y) s p (h.0 ∙ (subst (IsSeat v.book 0) at s.seat).0, h.1)

-- ---- a new session

pub leased_session : (b new : BookValue) (x : Option WorkerValue) (breaks : List Break) → IsTiling b.problem b.branch b.first b.tiles
    → new ≡ book_step b 0 call.LeaseAny → x ≡ lent_worker b.problem (outcome b 0 call.LeaseAny).reply → breaks ≡ []
    → IsSession (record { book = new; worker = x; breaks = breaks })
leased_session b new x breaks tiling n w e = record {
  seat = rw (n, w) (lease_any_seat b 0 tiling);
  breaks = rw e refl;
}

-- the tile of a new book waits
pub fresh_leased : (p : ProblemValue) → is_some (fresh_session p).worker ≡ true
unfolding outcome
fresh_leased p = refl

-- ---- what acts leave

module _ (v : SessionValue) (acts : List Act) (b : BookValue) (x : Option WorkerValue) where
  pub left_is : Leads v.book v.worker acts b x → with_seat v b x ≡ left_by v acts
  left_is l = ap (λ (w : WorldValue). record { book = w.book; worker = worker_at w.workers 0; breaks = v.breaks }) (sym l)

-- what a call leaves that plays acts
pub plays_left : {X E : Type 0} (r : Result X E) (v : SessionValue) (acts : List Act) (most : ℕ) (b : BookValue) (x : Option WorkerValue)
    → PlaysSome r v.book v.worker acts most b x → OnOk r (with_seat v b x ≡ left_by v acts) × OnErr r (IsLeftBy v acts most (with_seat v b x))
plays_left (Ok y) v acts most b x p = (left_is v acts b x p.0, tt)
plays_left (Err e) v acts most b x p =
    (tt, record { count = p.1.count; within = p.1.within; left = left_is v (take p.1.count acts) b x p.1.leads })

-- ---- what is answered and done, where the deed is another's

module _ {X E : Type 0} (r : Result X E) (v new : SessionValue) (d e : Deed) (same : d ≡ e) where
  pub does_same : DoesDeed r v new d → DoesDeed r v new e
  does_same h = subst (DoesDeed r v new) same h

  pub tells_same : (old text : List ℕ) → OnOk r (text ≡ old ++ d.text) → OnOk r (text ≡ old ++ e.text)
  tells_same old text h = subst (λ (f : Deed). OnOk r (text ≡ old ++ f.text)) same h

-- ---- whether a branch is open

pub one_open : (x : Option WorkerValue) → is_some x ≡ true → (w : WorkerValue) × (x ≡ Some w)
one_open None e = absurd (false≢true e)
one_open (Some w) e = (w, refl)

module _ (s : SessionValue) (f : WorkerValue → Deed) (d : Deed) where
  pub open_is : is_some s.worker ≡ true → ((w : WorkerValue) → s.worker ≡ Some w → f w ≡ d) → if_open s s.worker f ≡ d
  open_is e h = let o = one_open s.worker e in ap (λ (x : Option WorkerValue). if_open s x f) o.1 ∙ h o.0 o.1

-- what is done by the worker whose branch is open
pub open_plays : {X E : Type 0} (r : Result X E) (v : SessionValue) (w : WorkerValue) → v.worker ≡ Some w
    → (lines : WorkerValue → List (List (List ℕ))) (acts : SessionValue → WorkerValue → List Act) (b : BookValue) (y : Option WorkerValue)
    → Plays r v.book (Some w) (acts (with_seat v v.book (Some w)) w) b y
    → DoesDeed r v (with_seat v b y) (if_open v v.worker (λ u. does v (lines u) (acts v u)))
open_plays r v w at lines acts b y p =
    subst (λ (x : Option WorkerValue). let s = with_seat v v.book x in DoesDeed r s (with_seat v b y) (if_open s x (λ u. does s (lines u) (acts s u)))) (sym at)
    (let s = with_seat v v.book (Some w) in plays_left r s (acts s w) (length (acts s w)) b y p)

-- its worker holds its tile
pub held : (v : SessionValue) (w : WorkerValue) → IsSession v → v.worker ≡ Some w → HoldsTile v.book w
held v w s at = (subst (IsSeat v.book 0) at s.seat).1
