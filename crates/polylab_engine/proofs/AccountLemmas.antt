-- Accounts and reports part by part, and the visits that they keep.
use Rattle.std.proofs.Common.{◌≡◌, ◌∙◌, ℕ, suc, ◌+◌, Bool, true, false, cond, ◌&&◌, if◌then◌else◌, List, [], ◌∷◌, ◌++◌, length, map, refl, sym, ap, arith, append-nil, length-append}
use Rattle.shared_words.specs.Lists.{numbers}
use Rattle.cover_problem.specs.Problem.{ProblemValue}
use Rattle.x_steps.specs.StateValue.{StateValue, start, done}
use Rattle.x_steps.specs.Run.{level_count, levels, states_between, steps_between, visits_between}
use Rattle.x_steps.specs.Levels.{without_last_zeros, trimmed_levels}
use Rattle.x_steps.proofs.BetweenLemmas.{length-states}
use Rattle.polylab_engine.specs.Account.{Account, ReportValue, account_of, kept}
use Rattle.polylab_engine.specs.Output.{whole_report}
use Rattle.polylab_engine.specs.Stretch.{stretch_report}

pub none_kept : (keeps : Bool) → kept keeps [] ≡ []
none_kept true = refl
none_kept false = refl

-- accounts whose parts are the same
pub same_accounts : (a b : Account) → a.visits ≡ b.visits → a.visited ≡ b.visited → a.steps ≡ b.steps → a.entered ≡ b.entered → a ≡ b
same_accounts a b p q r s = grind arith

pub kept_more : (k b : Bool) (vs : List (List ℕ)) (path : List ℕ) → kept k (vs ++ cond b (path ∷ []) []) ≡ (if k && b then kept k vs ++ path ∷ [] else kept k vs)
kept_more true true vs path = refl
kept_more true false vs path = append-nil vs
kept_more false b vs path = refl

pub visited_more : (b : Bool) (vs : List (List ℕ)) (path : List ℕ) → length (vs ++ cond b (path ∷ []) []) ≡ (if b then length vs + 1 else length vs)
visited_more true vs path = length-append vs (path ∷ [])
visited_more false vs path = ap length (append-nil vs)

-- reports whose parts are the same
pub same_reports : (a b : ReportValue) → a.visits ≡ b.visits → a.visited ≡ b.visited → a.steps ≡ b.steps → a.levels ≡ b.levels → a ≡ b
same_reports a b p q r s = grind arith

-- what is told of all between two states is the report of that stretch
pub report_of_stretch : (keeps : Bool) (p : ProblemValue) (s t : StateValue) (r : ReportValue) → r.visits ≡ kept keeps (visits_between p s t) → r.visited ≡ length (visits_between p s t)
    → r.steps ≡ steps_between p s t → r.levels ≡ trimmed_levels p s t → r ≡ stretch_report keeps p s t
unfolding account_of visits_between trimmed_levels levels
report_of_stretch keeps p s t r visits visited steps entered =
    same_reports r (stretch_report keeps p s t) visits visited (steps ∙ sym (length-states p (steps_between p s t) s))
    (entered ∙ ap (λ (n : ℕ). without_last_zeros (map (level_count (states_between p s t)) (numbers n 0))) (let e : length p.names + 1 ≡ suc (length p.names) = omega arith in e))

-- and between X1 and Done that of the whole run
pub report_between : (keeps : Bool) (p : ProblemValue) (r : ReportValue) → r.visits ≡ kept keeps (visits_between p start done) → r.visited ≡ length (visits_between p start done)
    → r.steps ≡ steps_between p start done → r.levels ≡ trimmed_levels p start done → r ≡ whole_report keeps p
report_between keeps p r visits visited steps entered = report_of_stretch keeps p start done r visits visited steps entered
