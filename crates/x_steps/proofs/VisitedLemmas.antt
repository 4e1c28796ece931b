-- The visits of a walk: the last of its steps alone may come to one, and tells so.
use Rattle.std.proofs.Common.{◌≡◌, ℕ, zero, suc, ◌<◌, Bool, true, false, not, cond, if◌then◌else◌, List, [], ◌∷◌, ◌++◌, refl, sym, ap, ◌∙◌, arith}
use Rattle.std.proofs.lemmas.Bool.{and_parts}
use Rattle.cover_problem.specs.Problem.{ProblemValue}
use Rattle.x_steps.specs.declared.state.Label.{Label}
use Rattle.x_steps.specs.declared.state.Label.TheVariants.{X2, X8}
use Rattle.x_steps.specs.declared.state.Cursor.{Cursor}
use Rattle.x_steps.specs.declared.event.Event.TheVariants.{Moved, Visited}
use Rattle.x_steps.specs.StateValue.{StateValue, at}
use Rattle.x_steps.specs.Steps.{is_level, is_open, is_visit, next, event_of}
use Rattle.x_steps.specs.Run.{after, states, visits}
use Rattle.x_steps.specs.Walk.{OnlyMoves, last_event, is_visited, visit_told}
use Rattle.x_steps.proofs.BetweenLemmas.{visits_push}

-- X2 tells a visit where no item is active, and no other step does
tells_by : (p : ProblemValue) (path : List ℕ) (b : Bool) → is_visited (if b then Moved else Visited) ≡ not b
tells_by p path true = refl
tells_by p path false = refl

pub tells : (p : ProblemValue) (l : Label) (path : List ℕ) (k : Cursor) → is_visited (event_of p (at l path k)) ≡ is_visit p (at l path k)
unfolding event_of
tells p X2 path k = tells_by p path (is_open p path)
tells p X8 [] k = refl
tells p X8 (x ∷ xs) k = refl
tells p _ path k = refl

-- X2 leaves the path
leaves_by : (path : List ℕ) (b : Bool) (s t : StateValue) → s.path ≡ path → t.path ≡ path → (if b then s else t).path ≡ path
leaves_by path true s t e f = e
leaves_by path false s t e f = f

leaves : (p : ProblemValue) (l : Label) (path : List ℕ) (k : Cursor) → is_level l ≡ true → (next p (at l path k)).path ≡ path
unfolding next
leaves p X2 path k e = leaves_by path (is_open p path) _ _ refl refl
leaves p _ path k e = absurd (cc)

moves_show_nothing : (p : ProblemValue) (n : ℕ) (s : StateValue) → ((i : ℕ) → i < n → event_of p (after p i s) ≡ Moved) → visits p (states p n s) ≡ []
moves_show_nothing p zero s moves = refl
moves_show_nothing p (suc n) s moves =
    let u = after p n s in
    let none : is_visit p u ≡ false = sym (tells p u.label u.path u.cursor) ∙ ap is_visited (moves n (omega arith)) in
    let before = moves_show_nothing p n s (λ i l. moves i (omega arith)) in
    visits_push p (states p n s) u ∙ (rw (none, before) refl)

-- a visit's path is that after the step, too
stays : (p : ProblemValue) (u : StateValue) (b : Bool) → is_visit p u ≡ b → cond b (u.path ∷ []) [] ≡ cond b ((next p u).path ∷ []) []
stays p u true e = ap (λ (path : List ℕ). path ∷ []) (sym (leaves p u.label u.path u.cursor (and_parts (is_level u.label) _ e).0))
stays p u false e = refl

pub walk_shows : (p : ProblemValue) (n : ℕ) (s : StateValue) → OnlyMoves p n s → visits p (states p n s) ≡ visit_told (last_event p n s) (after p n s).path
walk_shows p zero s moves = refl
walk_shows p (suc n) s moves =
    let u = after p n s in
    let told = tells p u.label u.path u.cursor in
    let before = moves_show_nothing p n s (λ i l. moves i (omega arith)) in
    let one : visits p (states p n s ++ u ∷ []) ≡ cond (is_visit p u) (u.path ∷ []) [] = visits_push p (states p n s) u ∙ ap (λ vs. vs ++ cond (is_visit p u) (u.path ∷ []) []) before in
    one ∙ stays p u (is_visit p u) refl ∙ ap (λ b. cond b ((next p u).path ∷ []) []) (sym told)
