-- What a pool is done with is searched: that follows from the book's replay.
use Rattle.std.proofs.Common.{ℕ, ◌≡◌, List, [], ◌∷◌, ◌++◌, length, take, drop, refl, sym, ap, ◌∙◌, subst, arith, Option, Some, None, Result, Ok, Err, IfOk, IfErr, OnOk, IfSome}
use Rattle.std.proofs.Common.{Bool, true, false, IsTrue, ◌↔◌}
use Rattle.std.proofs.lemmas.Bool.{false≢true}
use Rattle.std.proofs.lemmas.List.{take-append-drop, take_all}
use Rattle.x_steps.specs.StateValue.{StateValue}
use Rattle.x_branches.specs.declared.branch.Branch.{Branch}
use Rattle.cover_problem.specs.Problem.{ProblemValue}
use Rattle.lab_history.specs.declared.entry.Entry.{Entry}
use Rattle.lab_book.specs.Book.{BookValue, book_step, new_book, replayed, waiting_in, leased_in}
use Rattle.lab_book.specs.Posted.{AllClosed}
use Rattle.lab_book_laws.specs.AlikeBooks.{held_tiles}
use Rattle.lab_book_laws.specs.Searched.{IsSearched}
use Rattle.lab_book_laws.proofs.SearchedLemmas.{none_open, all_closed}
use Rattle.lab_book_laws.proofs.PoolCallLemmas.{searched_by, open_held}
use Rattle.cover_problem.specs.declared.fault.Refused.{Refused}
use Rattle.lab_pool.specs.declared.fault.PoolFault.{PoolFault}
use Rattle.lab_pool.specs.declared.fault.PoolFault.TheVariants.{Held, NoThread, Mismatch}
use Rattle.lab_pool.specs.Pool.{GoesOn, IsDone, SomeAt}

-- the book of a replay
abbrev IsReplay : BookValue → Type 0
IsReplay b = replayed (new_book b.problem b.branch b.first) b.history ≡ b

-- a replay of some entries and then of others
replay_on : (b : BookValue) (es fs : List Entry) → replayed b (es ++ fs) ≡ replayed (replayed b es) fs
replay_on b [] fs = refl
replay_on b (e ∷ es) fs = replay_on (book_step b e.worker e.call) es fs

-- a book that goes on from another is its replay by the later entries
module _ (old new : BookValue) (on : GoesOn old new) (was : IsReplay old) (is : IsReplay new) where
  abbrev later : List Entry
  later = drop (length old.history) new.history

  same_start : new_book new.problem new.branch new.first ≡ new_book old.problem old.branch old.first
  same_start =
      ap (λ (p : ProblemValue). new_book p new.branch new.first) on.problem
      ∙ ap (λ (b : Branch). new_book old.problem b new.first) on.branch
      ∙ ap (λ (s : StateValue). new_book old.problem old.branch s) on.first

  all_entries : old.history ++ later ≡ new.history
  all_entries = ap (λ (es : List Entry). es ++ later) (sym on.history) ∙ take-append-drop (length old.history) new.history

  goes_on : replayed old later ≡ new
  goes_on =
      let first = new_book old.problem old.branch old.first in
      ap (λ (b : BookValue). replayed b later) (sym was)
      ∙ sym (replay_on first old.history later)
      ∙ ap (replayed first) all_entries
      ∙ ap (λ (b : BookValue). replayed b new.history) (sym same_start)
      ∙ is

  -- where a pool is done with it, it is searched
  pub done_searched : leased_in old.tiles ≡ 0 → IsDone (length old.history) new → IsSearched old new
  done_searched free d =
      subst (IsSearched old) goes_on
      (searched_by old later free d.calls
      (ap (λ (b : BookValue). waiting_in b.tiles) goes_on ∙ d.none_waits)
      (ap (λ (b : BookValue). leased_in b.tiles) goes_on ∙ d.none_leased))

-- a book without a tile that waits or is leased is searched as it is
pub still_searched : (b : BookValue) → waiting_in b.tiles ≡ 0 → leased_in b.tiles ≡ 0 → IsSearched b b
still_searched b w l = record { problem = refl; branch = refl; first = refl; tiles = open_held b.tiles w l }

-- and goes on as it is
pub still_on : (b : BookValue) → GoesOn b b
still_on b = record { problem = refl; branch = refl; first = refl; history = take_all (length b.history) b.history (omega arith) }

pub same_on : {E : Type 0} (old : BookValue) (r : Result BookValue E) → IfOk r (λ b. b ≡ old) → IfOk r (λ b. GoesOn old b)
same_on old (Ok b) e = subst (GoesOn old) (sym e) (still_on old)
same_on old (Err x) e = tt

module _ (old new : BookValue) (s : IsSearched old new) where
  -- a finished one tells that no tile was held
  pub none_was_held : AllClosed new.tiles → held_tiles old.tiles ≡ []
  none_was_held a = sym s.tiles ∙ none_open new.tiles a

  -- and where none was held it is finished
  pub else_finished : held_tiles old.tiles ≡ [] → AllClosed new.tiles
  else_finished n = all_closed new.tiles (s.tiles ∙ n)

-- ---- what is answered of a book without a tile that waits or is leased

-- what was handed in is given back
pub given_some : (P : BookValue → Type 0) (o : Option BookValue) (b : BookValue) → o ≡ Some b → P b → IfSome o P
given_some P o b e h = subst (λ (q : Option BookValue). IfSome q P) (sym e) h

-- what a test tells, and what it denies
pub told : {P : Type 0} (test : Bool) → test ≡ true → IsTrue test ↔ P → P
told test e d = d.0 e

pub denied : {P : Type 0} (test : Bool) → test ≡ false → IsTrue test ↔ P → P → ⊥
denied test e d p = false≢true (sym e ∙ d.1 p)

-- ---- what is answered of the book that the workers left

module _ (old mid : BookValue) (opening : List Entry) (opened : old.history ≡ opening) (from : ℕ) (same : from ≡ length old.history) (problem : mid.problem ≡ old.problem)
    (branch : mid.branch ≡ old.branch) (first : mid.first ≡ old.first) (begins : take (length opening) mid.history ≡ opening)
    (was : IsReplay old) (is : IsReplay mid) (free : leased_in old.tiles ≡ 0) where
  on_opening : take (length old.history) mid.history ≡ old.history
  on_opening = subst (λ (es : List Entry). take (length es) mid.history ≡ es) (sym opened) begins

  searched_where : IsDone from mid → IsSearched old mid
  searched_where d = done_searched old mid (record { problem = problem; branch = branch; first = first; history = on_opening }) was is free
      (subst (λ n. IsDone n mid) same d)

  pub ok_searched : {E : Type 0} (r : Result BookValue E) → IfOk r (λ b. b ≡ mid) → OnOk r (IsDone from mid)
      → IfOk r (λ b. IsSearched old b)
  ok_searched (Ok b) e d = subst (IsSearched old) (sym e) (searched_where d)
  ok_searched (Err x) e d = tt

  pub held_searched : (r : Result BookValue (Refused PoolFault (Option BookValue)))
      → IfErr r (λ x. (x.fault ≡ Mismatch → ⊥) → x.given ≡ Some mid) → IfErr r (λ x. x.fault ≡ Held → IsDone from mid)
      → IfErr r (λ x. x.fault ≡ Held → IfSome x.given (λ b. IsSearched old b))
  held_searched (Ok b) g h = tt
  held_searched (Err x) g h = λ e.
      let is : x.given ≡ Some mid = g (λ m. absurd (different e m)) in
      subst (λ (o : Option BookValue). IfSome o (λ b. IsSearched old b)) (sym is) (searched_where (h e))
    where
      different : x.fault ≡ Held → x.fault ≡ Mismatch → ⊥
      different e m = cc

  pub some_was_held : (r : Result BookValue (Refused PoolFault (Option BookValue)))
      → IfErr r (λ x. x.fault ≡ Held → IsDone from mid) → IfErr r (λ x. x.fault ≡ Held → AllClosed mid.tiles → ⊥)
      → IfErr r (λ x. x.fault ≡ Held → held_tiles old.tiles ≡ [] → ⊥)
  some_was_held (Ok b) h o = tt
  some_was_held (Err x) h o = λ e n. o e (else_finished old mid (searched_where (h e)) n)

-- none was held where a searched book is finished
pub none_held : {E : Type 0} (old : BookValue) (r : Result BookValue E) → IfOk r (λ b. IsSearched old b) → IfOk r (λ b. AllClosed b.tiles)
    → OnOk r (held_tiles old.tiles ≡ [])
none_held old (Ok b) s a = none_was_held old b s a
none_held old (Err x) s a = tt

-- a book that comes back at each refusal but a mismatch comes back where a thread was refused
pub back_at_no_thread : (r : Result BookValue (Refused PoolFault (Option BookValue)))
    → IfErr r (λ x. x.given ≡ None ↔ (x.fault ≡ Mismatch)) → SomeAt r NoThread
back_at_no_thread (Ok b) h = tt
back_at_no_thread (Err x) h = λ e n. different e (h.0 n)
  where
    different : x.fault ≡ NoThread → x.fault ≡ Mismatch → ⊥
    different e m = cc
