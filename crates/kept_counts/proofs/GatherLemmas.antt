-- Between the X2 and the X8 of a path the run passes the X2 of each path that its choices make longer, and each once: whatever is
-- summed over those paths.
use Rattle.std.proofs.Common.{◌≡◌, ℕ, zero, suc, ◌+◌, ◌<◌, ◌≤◌, ◌⊎◌, true, false, cond, Option, List, [], ◌∷◌, ◌++◌, length, sum_by, refl, sym, ap, ◌∙◌, subst, inl, inr, arith, append_assoc}
use Rattle.std.specs.Prelude.{Some}
use Rattle.std.proofs.lemmas.Bool.{le-ltb, lt-ltb}
use Rattle.std.proofs.lemmas.List.Sums.{sum_by-cons, sum_by-append}
use Rattle.shared_words.specs.Lists.{has, above, RisesFrom}
use Rattle.cover_problem.specs.Problem.{ProblemValue}
use Rattle.cover_problem.specs.Covering.{active}
use Rattle.cover_problem.specs.Path.{covered_by, IsValid, IsChoice}
use Rattle.cover_problem.proofs.MemberLemmas.{has_here, has_append_right}
use Rattle.cover_problem.proofs.NumberLemmas.{rises_member}
use Rattle.cover_problem.proofs.PathLemmas.{choice_falls, covered_by_push, valid_push, valid_start}
use Rattle.x_steps.specs.declared.state.Label.TheVariants.{X2, X3, X4, X5, X6, X7, X8, Done}
use Rattle.x_steps.specs.declared.state.Cursor.TheVariants as cursor
use Rattle.x_steps.specs.declared.state.Cursor.TheVariants.{At, Past}
use Rattle.x_steps.specs.StateValue.{StateValue, at, start, done}
use Rattle.x_steps.specs.Steps.{is_open, IsOpen, is_level, remaining_after, next_cursor, Fits, next}
use Rattle.x_steps.specs.Run.{states, ReachesIn, states_between}
use Rattle.x_steps.proofs.Neighbours.{open_cases, left_rises, split_last_push}
use Rattle.x_steps.proofs.RunLemmas.{leads_none, leads_push, leads_join, steps_between_is}
use Rattle.x_steps.proofs.BetweenLemmas.{states_join}
use Rattle.kept_counts.specs.Below.{tried_options}
use Rattle.kept_counts.proofs.BelowLemmas.{choices_none, choices_some}

-- what a path weighs, at its X2
abbrev pub weight : (List ℕ → ℕ) → StateValue → ℕ
weight w s = cond (is_level s.label) (w s.path) 0

-- the sum over a path and those that at most n choices make of it
abbrev pub gathered : ProblemValue → (List ℕ → ℕ) → ℕ → List ℕ → ℕ
gathered p w zero q = w q
gathered p w (suc n) q = w q + sum_by (λ o. gathered p w n (q ++ o ∷ [])) (tried_options p (covered_by p q))

-- the run leads from s to t and passes X2 states that weigh v
pub record Adds (p : ProblemValue) (w : List ℕ → ℕ) (s t : StateValue) (v : ℕ) : Type 0 where
  pub steps : ℕ
  pub reaches : ReachesIn p s t steps
  pub adds : sum_by (weight w) (states p steps s) ≡ v

first_of : (x : ℕ) (xs : List ℕ) → 0 < x → above 0 (x ∷ xs) ≡ Some x
first_of x xs h = rw (lt-ltb 0 x h) refl

above_past : (o x : ℕ) (xs : List ℕ) → x ≤ o → above o (x ∷ xs) ≡ above o xs
above_past o x xs h = rw (le-ltb o x h) refl

above_all : (o : ℕ) (xs : List ℕ) → RisesFrom (suc o) xs → above o xs ≡ above 0 xs
above_all o [] r = refl
above_all o (x ∷ xs) r = let m : o < x = omega (arith, r.0) in rw (lt-ltb o x m, first_of x xs (omega arith)) refl

above_split : (n : ℕ) (front : List ℕ) (o : ℕ) (rest : List ℕ) → RisesFrom n (front ++ o ∷ rest) → above o (front ++ o ∷ rest) ≡ above 0 rest
above_split n [] o rest r = above_past o o rest (omega arith) ∙ above_all o rest r.1
above_split n (x ∷ front) o rest r =
    let m = rises_member (suc x) o (front ++ o ∷ rest) r.1 (has_append_right front (o ∷ rest) o (has_here o rest)) in
    above_past o x (front ++ o ∷ rest) (omega arith) ∙ above_split (suc x) front o rest r.1

module _ (p : ProblemValue) (w : List ℕ → ℕ) where
  pub adds_one : (s t : StateValue) (v : ℕ) → (s.label ≡ Done → ⊥) → next p s ≡ t → weight w s ≡ v → Adds p w s t v
  adds_one s t v g e h = record { steps = 1; reaches = subst (λ (u : StateValue). ReachesIn p s u 1) e (leads_push p s s 0 (leads_none p s) g); adds = (let z : sum_by (weight w) (s ∷ []) ≡ weight w s = omega arith in z) ∙ h }

  pub adds_join : (s t u : StateValue) (v x : ℕ) → Adds p w s t v → Adds p w t u x → Adds p w s u (v + x)
  adds_join s t u v x a b = record {
    steps = b.steps + a.steps;
    reaches = leads_join p s t u a.steps b.steps a.reaches b.reaches;
    adds =
        ap (sum_by (weight w)) (states_join p a.steps b.steps s ∙ ap (λ y. states p a.steps s ++ states p b.steps y) a.reaches.ends)
        ∙ sum_by-append (weight w) (states p a.steps s) (states p b.steps t)
        ∙ (rw (a.adds, b.adds) refl);
  }

  pub adds_same : (s t : StateValue) (v x : ℕ) → Adds p w s t v → v ≡ x → Adds p w s t x
  adds_same s t v x a e = subst (Adds p w s t) e a

  -- what lies between fitting states
  pub adds_between : (s t : StateValue) (v : ℕ) → Fits p s → Adds p w s t v → sum_by (weight w) (states_between p s t) ≡ v
  adds_between s t v f a = ap (λ n. sum_by (weight w) (states p n s)) (steps_between_is p s t a.steps f a.reaches) ∙ a.adds

  -- ---- a path whose options, of a rising list, are tried one after the other

  module _ (q : List ℕ) (f : ℕ → ℕ) (all : List ℕ) (rises : RisesFrom 1 all) (is : remaining_after p q ≡ all)
      (each : (o : ℕ) → has all o ≡ true → Adds p w (at X2 (q ++ o ∷ []) cursor.None) (at X8 (q ++ o ∷ []) cursor.None) (f o)) where
    into : (o : ℕ) → Adds p w (at X5 q (At o)) (at X2 (q ++ o ∷ []) cursor.None) 0
    unfolding next
    into o = adds_one (at X5 q (At o)) (at X2 (q ++ o ∷ []) cursor.None) 0 (λ e. cc) refl refl

    out : (o : ℕ) → Adds p w (at X8 (q ++ o ∷ []) cursor.None) (at X6 q (At o)) 0
    unfolding next
    out o = adds_one (at X8 (q ++ o ∷ []) cursor.None) (at X6 q (At o)) 0 (λ e. cc) (rw (split_last_push q o) refl) refl

    on : (o : ℕ) (more : Option ℕ) → above o all ≡ more → Adds p w (at X6 q (At o)) (at X5 q (next_cursor more)) 0
    unfolding next
    on o more e = adds_one (at X6 q (At o)) (at X5 q (next_cursor more)) 0 (λ e. cc) (rw (is, e) refl) refl

    past : Adds p w (at X5 q Past) (at X7 q cursor.None) 0
    unfolding next
    past = adds_one (at X5 q Past) (at X7 q cursor.None) 0 (λ e. cc) refl refl

    tried : (rest front : List ℕ) → all ≡ front ++ rest → Adds p w (at X5 q (next_cursor (above 0 rest))) (at X7 q cursor.None) (sum_by f rest)
    tried [] front e = past
    tried (o ∷ rest) front e =
        let here : has all o ≡ true = rw e (has_append_right front (o ∷ rest) o (has_here o rest)) in
        let some : 0 < o = rises_member 1 o all rises here in
        let first = first_of o rest some in
        let after_o : above o all ≡ above 0 rest = ap (above o) e ∙ above_split 1 front o rest (subst (RisesFrom 1) e rises) in
        let whole : all ≡ (front ++ o ∷ []) ++ rest = e ∙ sym (append_assoc front (o ∷ []) rest) in
        let later = tried rest (front ++ o ∷ []) whole in
        let x2 = at X2 (q ++ o ∷ []) cursor.None in
        let x8 = at X8 (q ++ o ∷ []) cursor.None in
        let x5 = at X5 q (At o) in
        let x6 = at X6 q (At o) in
        let x5b = at X5 q (next_cursor (above 0 rest)) in
        let x7 = at X7 q cursor.None in
        let a = adds_join x5 x2 x8 0 (f o) (into o) (each o here) in
        let b = adds_join x5 x8 x6 (0 + f o) 0 a (out o) in
        let c = adds_join x5 x6 x5b (0 + f o + 0) 0 b (on o (above 0 rest) after_o) in
        let d = adds_join x5 x5b x7 (0 + f o + 0 + 0) (sum_by f rest) c later in
        let s = sum_by-cons f o rest in
        let g = adds_same x5 x7 (0 + f o + 0 + 0 + sum_by f rest) (sum_by f (o ∷ rest)) d (omega (arith, s)) in
        subst (λ k. Adds p w (at X5 q (next_cursor k)) (at X7 q cursor.None) (sum_by f (o ∷ rest))) (sym first) g

    pub tried_all : Adds p w (at X5 q (next_cursor (above 0 all))) (at X7 q cursor.None) (sum_by f all)
    tried_all = tried all [] refl

  -- ---- a path

  closed_adds : (q : List ℕ) → is_open p q ≡ false → Adds p w (at X2 q cursor.None) (at X8 q cursor.None) (w q)
  unfolding next
  closed_adds q e = adds_one (at X2 q cursor.None) (at X8 q cursor.None) (w q) (λ e. cc) (rw e refl) refl

  opens : (q : List ℕ) → is_open p q ≡ true → Adds p w (at X2 q cursor.None) (at X3 q cursor.None) (w q)
  unfolding next
  opens q e = adds_one (at X2 q cursor.None) (at X3 q cursor.None) (w q) (λ e. cc) (rw e refl) refl

  chooses : (q : List ℕ) → Adds p w (at X3 q cursor.None) (at X4 q cursor.None) 0
  unfolding next
  chooses q = adds_one (at X3 q cursor.None) (at X4 q cursor.None) 0 (λ e. cc) refl refl

  covers : (q all : List ℕ) → remaining_after p q ≡ all → Adds p w (at X4 q cursor.None) (at X5 q (next_cursor (above 0 all))) 0
  unfolding next
  covers q all is = adds_one (at X4 q cursor.None) (at X5 q (next_cursor (above 0 all))) 0 (λ e. cc) (rw is refl) refl

  closes : (q : List ℕ) → Adds p w (at X7 q cursor.None) (at X8 q cursor.None) 0
  unfolding next
  closes q = adds_one (at X7 q cursor.None) (at X8 q cursor.None) 0 (λ e. cc) refl refl

  open_adds : (q : List ℕ) (f : ℕ → ℕ) → is_open p q ≡ true → ((o : ℕ) → has (remaining_after p q) o ≡ true → Adds p w (at X2 (q ++ o ∷ []) cursor.None) (at X8 (q ++ o ∷ []) cursor.None) (f o)) → Adds p w (at X2 q cursor.None) (at X8 q cursor.None) (w q + sum_by f (remaining_after p q))
  open_adds q f e each =
      let all = remaining_after p q in
      let x2 = at X2 q cursor.None in
      let x3 = at X3 q cursor.None in
      let x4 = at X4 q cursor.None in
      let x5 = at X5 q (next_cursor (above 0 all)) in
      let x7 = at X7 q cursor.None in
      let x8 = at X8 q cursor.None in
      let a = adds_join x2 x3 x4 (w q) 0 (opens q e) (chooses q) in
      let b = adds_join x2 x4 x5 (w q + 0) 0 a (covers q all refl) in
      let c = adds_join x2 x5 x7 (w q + 0 + 0) (sum_by f all) b (tried_all q f all (left_rises p q) refl each) in
      let d = adds_join x2 x7 x8 (w q + 0 + 0 + sum_by f all) 0 c (closes q) in
      adds_same x2 x8 (w q + 0 + 0 + sum_by f all + 0) (w q + sum_by f all) d (omega arith)

  -- what lies between the X2 and the X8 of a path
  pub path_adds : (n : ℕ) (q : List ℕ) → IsValid p q → length (active p (covered_by p q)) ≤ n → Adds p w (at X2 q cursor.None) (at X8 q cursor.None) (gathered p w n q)
  path_adds zero q v l = step (open_cases p q)
    where
      step : ((is_open p q ≡ true) × IsOpen p q) ⊎ ((is_open p q ≡ false) × (length (active p (covered_by p q)) ≡ 0)) → Adds p w (at X2 q cursor.None) (at X8 q cursor.None) (w q)
      step (inl e) = absurd (omega (arith, e.1, l))
      step (inr e) = closed_adds q e.0
  path_adds (suc n) q v l = step (open_cases p q) (path_adds n)
    where
      step : ((is_open p q ≡ true) × IsOpen p q) ⊎ ((is_open p q ≡ false) × (length (active p (covered_by p q)) ≡ 0)) → ((r : List ℕ) → IsValid p r → length (active p (covered_by p r)) ≤ n → Adds p w (at X2 r cursor.None) (at X8 r cursor.None) (gathered p w n r)) → Adds p w (at X2 q cursor.None) (at X8 q cursor.None) (w q + sum_by (λ o. gathered p w n (q ++ o ∷ [])) (tried_options p (covered_by p q)))
      step (inr e) ih = adds_same _ _ _ _ (closed_adds q e.0) (let z = ap (sum_by (λ o. gathered p w n (q ++ o ∷ []))) (choices_none p (covered_by p q) e.1) in omega (arith, z))
      step (inl e) ih =
          let a = open_adds q (λ o. gathered p w n (q ++ o ∷ [])) e.0
          (λ o h.
          let is : IsChoice p (covered_by p q) o = record { active = e.1; left = h } in
          let falls = choice_falls p (covered_by p q) o is in
          ih (q ++ o ∷ []) (valid_push p q o v is) (rw (covered_by_push p q o) (omega (arith, falls, l)))) in
          rw (choices_some p (covered_by p q) e.1) a

  -- the whole run
  begins : Adds p w start (at X2 [] cursor.None) 0
  unfolding next
  begins = adds_one start (at X2 [] cursor.None) 0 (λ e. cc) refl refl

  ends : Adds p w (at X8 [] cursor.None) done 0
  unfolding next
  ends = adds_one (at X8 [] cursor.None) done 0 (λ e. cc) refl refl

  pub run_adds : (n : ℕ) → length (active p (covered_by p [])) ≤ n → Adds p w start done (gathered p w n [])
  run_adds n l =
      let x2 = at X2 [] cursor.None in
      let x8 = at X8 [] cursor.None in
      let v = gathered p w n [] in
      let a = adds_join start x2 x8 0 v begins (path_adds n [] (valid_start p) l) in
      adds_same start done (0 + v + 0) v (adds_join start x8 done (0 + v) 0 a ends) (omega arith)
