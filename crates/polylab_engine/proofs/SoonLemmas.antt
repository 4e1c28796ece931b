-- With fewer steps there are fewer visits than are asked for: a search takes no step after the last of these.
use Rattle.std.proofs.Common.{◌≡◌, ℕ, zero, suc, ◌+◌, ◌-◌, ◌<◌, ◌≤◌, ◌⊎◌, Option, Some, None, [], ◌++◌, length, refl, sym, ap, ◌∙◌, inl, inr, arith, append-nil}
use Rattle.std.specs.Prelude.{IsSomeAnd}
use Rattle.std.specs.Option.{ForSome}
use Rattle.std.proofs.lemmas.Bool.{cases_lt}
use Rattle.cover_problem.specs.Problem.{ProblemValue}
use Rattle.x_steps.specs.StateValue.{StateValue}
use Rattle.x_steps.specs.Steps.{Fits}
use Rattle.x_steps.specs.Run.{after, states, visits, steps_between}
use Rattle.x_steps.specs.Rank.{rank}
use Rattle.x_steps.specs.Walk.{OnlyMoves, visit_told}
use Rattle.x_steps.proofs.BetweenLemmas.{states_join, steps_between_self, visits_join}
use Rattle.x_steps.proofs.RunLemmas.{leads_to}
use Rattle.x_steps.proofs.VisitedLemmas.{walk_shows}

-- with fewer steps from s on there are fewer visits than are asked for
abbrev pub FewerBefore : ProblemValue → StateValue → Option ℕ → ℕ → Type 0
FewerBefore p s first steps = ForSome first (λ n. (k : ℕ) → k < steps → length (visits p (states p k s)) < n)

pub fewer_begin : (p : ProblemValue) (s : StateValue) (first : Option ℕ) → Fits p s → FewerBefore p s first (steps_between p s s)
fewer_begin p s first fits = λ n e k l. absurd (let none = steps_between_self p s fits in omega arith)

-- where there are not as many as are asked for, there are fewer
fewer_is : (first : Option ℕ) (v n : ℕ) → first ≡ Some n → (IsSomeAnd first (λ m. m ≤ v) → ⊥) → v < n
fewer_is None v n e less = absurd (cc)
fewer_is (Some m) v n e less = by (cases_lt v m)
  where
    same : m ≡ n
    same = cc

    by : (v < m) ⊎ (m ≤ v) → v < n
    by (inl l) = let m_is = same in omega arith
    by (inr l) = absurd (less l)

-- the steps before the last one of a walk come to no visit
nothing : (p : ProblemValue) (n : ℕ) (t : StateValue) → OnlyMoves p n t → (j : ℕ) → j < n → visits p (states p j t) ≡ []
nothing p n t moves zero l = refl
nothing p n t moves (suc j) l = walk_shows p (suc j) t (λ i h. moves i (omega arith)) ∙ ap (λ e. visit_told e (after p (suc j) t).path) (moves j l)

module _ (p : ProblemValue) (s t : StateValue) (first : Option ℕ) (v n : ℕ) (s_fits : Fits p s) (t_fits : Fits p t) (up : rank p s ≤ rank p t)
    (seen : v ≡ length (visits p (states p (steps_between p s t) s))) (less : IsSomeAnd first (λ m. m ≤ v) → ⊥) (moves : OnlyMoves p n t) where
  -- after some of the steps of the walk nothing more is visited
  as_many : (j : ℕ) → j < n → length (visits p (states p (j + steps_between p s t) s)) ≡ v
  as_many j l =
      let there = (leads_to p s t s_fits t_fits up).ends in
      let parts : states p (j + steps_between p s t) s ≡ states p (steps_between p s t) s ++ states p j t = states_join p (steps_between p s t) j s ∙ ap (λ u. states p (steps_between p s t) s ++ states p j u) there in
      let none = nothing p n t moves j l in
      ap (λ ss. length (visits p ss)) parts ∙ ap length (visits_join p (states p (steps_between p s t) s) (states p j t))
      ∙ ap (λ vs. length (visits p (states p (steps_between p s t) s) ++ vs)) none ∙ ap length (append-nil (visits p (states p (steps_between p s t) s))) ∙ sym seen

  pub fewer_on : FewerBefore p s first (steps_between p s t) → FewerBefore p s first (n + steps_between p s t)
  fewer_on old = λ m e k l. by m e k l (cases_lt k (steps_between p s t))
    where
      by : (m : ℕ) → first ≡ Some m → (k : ℕ) → k < n + steps_between p s t → (k < steps_between p s t) ⊎ (steps_between p s t ≤ k) → length (visits p (states p k s)) < m
      by m e k l (inl h) = old m e k h
      by m e k l (inr h) =
          let few = fewer_is first v m e less in
          let same : (k - steps_between p s t) + steps_between p s t ≡ k = omega arith in
          let many = ap (λ i. length (visits p (states p i s))) (sym same) ∙ as_many (k - steps_between p s t) (omega arith) in omega arith
