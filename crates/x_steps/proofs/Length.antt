-- The run's length by its entries of X2: eight steps for one that finds an active item, four for a visit, but one.
use Rattle.std.proofs.Common.{◌≡◌, ℕ, zero, suc, ◌+◌, ◌*◌, ◌<◌, ◌⊎◌, Bool, true, false, cond, Option, Some, List, [], ◌∷◌, ◌++◌, length, refl, ap, ◌∙◌, inl, inr, arith, length-append}
use Rattle.std.specs.Prelude as prelude
use Rattle.shared_words.specs.Lists.{above}
use Rattle.cover_problem.specs.Problem.{ProblemValue}
use Rattle.cover_problem.specs.Covering.{active}
use Rattle.cover_problem.specs.Path.{covered_by}
use Rattle.x_steps.specs.declared.state.Label.{Label}
use Rattle.x_steps.specs.declared.state.Label.TheVariants.{X1, X2, X3, X4, X5, X6, X7, X8, Done}
use Rattle.x_steps.specs.declared.state.Cursor.{Cursor}
use Rattle.x_steps.specs.declared.state.Cursor.TheVariants as cursor
use Rattle.x_steps.specs.declared.state.Cursor.TheVariants.{At, Past}
use Rattle.x_steps.specs.StateValue.{StateValue, at, start, done}
use Rattle.x_steps.specs.Steps.{is_open, IsOpen, remaining_after, split_last, next_cursor, FitsAt, Fits, taken_back, next_at, next, is_entry, is_visit}
use Rattle.x_steps.specs.Run.{after, states, visits, entries, steps_between}
use Rattle.x_steps.proofs.Neighbours.{split_last_push, split_last_cases, open_cases}
use Rattle.x_steps.proofs.RunLemmas.{start_fits, after_fits, run_leads}
use Rattle.x_steps.proofs.BetweenLemmas.{visits_push, entries_push}

-- the steps that a label stands for, of those that its entry of X2 pays for
abbrev owed : Label → ℕ
owed X1 = 8
owed X2 = 9
owed X3 = 2
owed X5 = 4
owed X7 = 5
owed X8 = 6
owed Done = 7
owed _ = 3

-- one step pays for itself
abbrev Balance : ProblemValue → StateValue → StateValue → Type 0
Balance p s t = 1 + (4 * length t.path + owed s.label) ≡ 8 * cond (is_entry p s) 1 0 + (4 * cond (is_visit p s) 1 0 + (4 * length s.path + owed t.label))

balance : (p : ProblemValue) (l : Label) (path : List ℕ) (k : Cursor) → FitsAt p l path k → (l ≡ Done → ⊥) → Balance p (at l path k) (next_at p l path k)
balance p X1 path cursor.None f g = omega arith
balance p X2 path cursor.None f g = step (open_cases p path)
  where
    step : ((is_open p path ≡ true) × IsOpen p path) ⊎ ((is_open p path ≡ false) × (length (active p (covered_by p path)) ≡ 0)) → Balance p (at X2 path cursor.None) (next_at p X2 path cursor.None)
    step (inl e) = rw e.0 (omega arith)
    step (inr e) = rw e.0 (omega arith)
balance p X3 path cursor.None f g = omega arith
balance p X4 path cursor.None f g = look (above 0 (remaining_after p path))
  where
    look : (a : Option ℕ) → Balance p (at X4 path cursor.None) (at X5 path (next_cursor a))
    look prelude.None = omega arith
    look (Some o) = omega arith
balance p X5 path (At o) f g = let e = length-append path (o ∷ []) in omega arith
balance p X5 path Past f g = omega arith
balance p X6 path (At o) f g = look (above o (remaining_after p path))
  where
    look : (a : Option ℕ) → Balance p (at X6 path (At o)) (at X5 path (next_cursor a))
    look prelude.None = omega arith
    look (Some o) = omega arith
balance p X7 path cursor.None f g = omega arith
balance p X8 path cursor.None f g = step (split_last_cases path)
  where
    step : (path ≡ []) ⊎ ((q : List ℕ) × (o : ℕ) × (path ≡ q ++ o ∷ [])) → Balance p (at X8 path cursor.None) (taken_back (split_last path))
    step (inl e) = rw e (omega arith)
    step (inr s) = rw (s.2, split_last_push s.0 s.1) (let e = length-append s.0 (s.1 ∷ []) in omega arith)
balance p Done path cursor.None f g = absurd (g refl)
balance p _ path _ f g = absurd f

balance_next : (p : ProblemValue) (s : StateValue) → Fits p s → (s.label ≡ Done → ⊥) → Balance p s (next p s)
unfolding next
balance_next p s f g = balance p s.label s.path s.cursor f g

visit_length : (p : ProblemValue) (s : StateValue) (b : Bool) → length (cond b (s.path ∷ []) []) ≡ cond b 1 0
visit_length p s true = refl
visit_length p s false = refl

account : (p : ProblemValue) (n : ℕ) → ((i : ℕ) → i < n → (after p i start).label ≡ Done → ⊥) → n + 8 + 4 * length (after p n start).path ≡ 8 * entries p (states p n start) + 4 * length (visits p (states p n start)) + owed (after p n start).label
account p zero g = omega arith
account p (suc n) g =
    let ih = account p n (λ i l. g i (omega arith)) in
    let b = balance_next p (after p n start) (after_fits p n start (start_fits p)) (g n (omega arith)) in
    let e = entries_push p (states p n start) (after p n start) in
    let v = ap length (visits_push p (states p n start) (after p n start)) ∙ length-append (visits p (states p n start)) (cond (is_visit p (after p n start)) ((after p n start).path ∷ []) []) in
    let w = visit_length p (after p n start) (is_visit p (after p n start)) in
    omega arith

pub run_length : (p : ProblemValue) → let run = states p (steps_between p start done) start in steps_between p start done + 1 ≡ 8 * entries p run + 4 * length (visits p run)
run_length p =
    let a = account p (steps_between p start done) (run_leads p).goes_on in
    let e : length (after p (steps_between p start done) start).path ≡ 0 = ap (λ (s : StateValue). length s.path) (run_leads p).ends in
    let f : owed (after p (steps_between p start done) start).label ≡ 7 = ap (λ (s : StateValue). owed s.label) (run_leads p).ends in
    omega arith
