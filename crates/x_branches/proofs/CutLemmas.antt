-- Cuts on the run, and what is untried.
use Rattle.std.proofs.Common.{◌≡◌, ℕ, zero, suc, ◌+◌, ◌-◌, ◌<◌, ◌≤◌, ◌⊎◌, true, false, List, [], ◌∷◌, ◌++◌, length, take, drop, filter, get_or, refl, sym, ap, ap₂, ◌∙◌, subst, inl, inr, arith, append-nil, length-append, length-drop}
use Rattle.std.specs.Prelude.{◌↔◌, nat_lt}
use Rattle.std.proofs.lemmas.Bool.{cases_lt, cases_order, lt-ltb, ltb-true, false≢true}
use Rattle.std.proofs.lemmas.List.{get_or-drop, nil_from_length}
use Rattle.cover_problem.specs.Problem.{ProblemValue}
use Rattle.shared_words.specs.Lists.{has}
use Rattle.cover_problem.specs.Path.{IsChoice, IsValid, covered_by}
use Rattle.cover_problem.proofs.MemberLemmas.{has_filter_in, has_filter}
use Rattle.cover_problem.proofs.PathLemmas.{valid_push, valid_pop}
use Rattle.cover_problem.proofs.CoverLemmas.{valid_split}
use Rattle.x_steps.specs.declared.state.Label.{Label}
use Rattle.x_steps.specs.declared.state.Label.TheVariants.{X5, X6}
use Rattle.x_steps.specs.declared.state.Cursor.{Cursor}
use Rattle.x_steps.specs.declared.state.Cursor.TheVariants as cursor
use Rattle.x_steps.specs.declared.state.Cursor.TheVariants.{At, Past}
use Rattle.x_steps.specs.StateValue.{StateValue, at, start}
use Rattle.x_steps.specs.Steps.{FitsAt, Fits, remaining_after}
use Rattle.x_steps.specs.Order.{PathLess}
use Rattle.x_steps.specs.Run.{steps_between}
use Rattle.x_steps.specs.Rank.{rank}
use Rattle.x_steps.proofs.Neighbours.{parted, split_last_push, split_last_cases}
use Rattle.x_steps.proofs.OrderLemmas.{cut_rank, rank_cut, fits_valid, cut_before, inside_before, level_rank, left_before, left_after}
use Rattle.x_steps.proofs.BetweenLemmas.{steps_between_some}
use Rattle.x_steps.proofs.StretchLemmas.{steps_between_none}
use Rattle.x_branches.specs.Cut.{cursor_option, choices, state_after_choices, cut_state, IsCut}
use Rattle.x_branches.specs.RunOrder.{ComesBefore, comes_before}
use Rattle.x_branches.specs.Untried.{remaining_above, is_before_end, untried_after, untried, with_choice, IsUntried}
use Rattle.std.proofs.Math.Seq.{drop-nil}
use Rattle.x_branches.proofs.StageLemmas.{comes_rank, rank_comes}

-- ---- the test of the order

pub test_rank : (p : ProblemValue) (s t : StateValue) → comes_before p s t ≡ true → rank p s < rank p t
unfolding comes_before
test_rank p s t h = step (cases_lt (rank p s) (rank p t))
  where
    step : (rank p s < rank p t) ⊎ (rank p t ≤ rank p s) → rank p s < rank p t
    step (inl l) = l
    step (inr l) = let e = steps_between_none p s t l in let f : false ≡ true = subst (λ n. nat_lt 0 n ≡ true) e h in absurd (false≢true f)

pub rank_test : (p : ProblemValue) (s t : StateValue) → Fits p s → Fits p t → rank p s < rank p t → comes_before p s t ≡ true
unfolding comes_before
rank_test p s t f g l = lt-ltb 0 (steps_between p s t) (steps_between_some p s t f g l)

pub test_is_order : (p : ProblemValue) (s t : StateValue) → Fits p s → Fits p t → (comes_before p s t ≡ true) ↔ ComesBefore p s t
test_is_order p s t f g = (λ h. rank_comes p s t f g (test_rank p s t h), λ b. rank_test p s t f g (comes_rank p s t f b))

-- ---- cuts

pub cut_is : (q : List ℕ) (o : ℕ) → cut_state (q ++ o ∷ []) ≡ at X5 q (At o)
unfolding cut_state
cut_is q o = ap state_after_choices (split_last_push q o)

-- a cut's last choice, and those before it
pub cut_parts : (p : ProblemValue) (path : List ℕ) → IsCut p path → (q : List ℕ) × (o : ℕ) × (path ≡ q ++ o ∷ [])
cut_parts p path c = step (split_last_cases path)
  where
    step : (path ≡ []) ⊎ ((q : List ℕ) × (o : ℕ) × (path ≡ q ++ o ∷ [])) → (q : List ℕ) × (o : ℕ) × (path ≡ q ++ o ∷ [])
    step (inl e) = let n = ap (λ (q : List ℕ). length q) e in let h = c.some in absurd (omega arith)
    step (inr r) = r

-- of no choices is the first state of a run
pub no_cut_starts : (path : List ℕ) → length path ≡ 0 → start ≡ cut_state path
unfolding cut_state
no_cut_starts [] e = refl
no_cut_starts (x ∷ xs) e = absurd (omega (arith, e))

-- a cut's path, parted before its last choice
pub cut_parted : (path front back : List ℕ) (n : ℕ) → 0 < length path → n ≡ length path - 1 → front ≡ take n path → back ≡ drop n path → at X5 front (At (get_or back 0 0)) ≡ cut_state path
cut_parted path front back n s a b d =
    let e : path ≡ take n path ++ get_or path n 0 ∷ drop (suc n) path = parted path n (omega arith) in
    let l : length (drop (suc n) path) ≡ 0 = omega (arith, length-drop (suc n) path) in
    let r : drop (suc n) path ≡ [] = nil_from_length (drop (suc n) path) l in
    let h : get_or back 0 0 ≡ get_or path n 0 = ap (λ xs. get_or xs 0 0) d ∙ get_or-drop n path 0 0 ∙ ap (λ i. get_or path i 0) (let k : n + 0 ≡ n = omega arith in k) in
    let f : path ≡ take n path ++ get_or path n 0 ∷ [] = e ∙ ap (λ xs. take n path ++ get_or path n 0 ∷ xs) r in
    ap₂ (λ (q : List ℕ) (o : ℕ). at X5 q (At o)) b h ∙ sym (cut_is (take n path) (get_or path n 0)) ∙ ap cut_state (sym f)

pub cut_fits : (p : ProblemValue) (path : List ℕ) → IsCut p path → Fits p (cut_state path)
cut_fits p path c =
    let s = cut_parts p path c in
    let v = valid_pop p s.0 s.1 (subst (λ q. IsValid p q) s.2 c.valid) in
    rw (s.2, cut_is s.0 s.1) v

pub cuts_in_order : (p : ProblemValue) (q r : List ℕ) → IsCut p q → IsCut p r → ComesBefore p (cut_state q) (cut_state r) ↔ PathLess q r
cuts_in_order p q r c d =
    let s = cut_parts p q c in
    let t = cut_parts p r d in
    let v = subst (λ q. IsValid p q) s.2 c.valid in
    let w = subst (λ q. IsValid p q) t.2 d.valid in
    rw (s.2, t.2, cut_is s.0 s.1, cut_is t.0 t.1) (cut_state_order p s.0 t.0 s.1 t.1 v w)
  where
    cut_state_order : (p : ProblemValue) (q r : List ℕ) (o t : ℕ) → IsValid p (q ++ o ∷ []) → IsValid p (r ++ t ∷ []) → ComesBefore p (at X5 q (At o)) (at X5 r (At t)) ↔ PathLess (q ++ o ∷ []) (r ++ t ∷ [])
    cut_state_order p q r o t v w = (
      λ b. rank_cut p q r o t v w (comes_rank p (at X5 q (At o)) (at X5 r (At t)) (valid_pop p q o v) b),
      λ l. rank_comes p (at X5 q (At o)) (at X5 r (At t)) (valid_pop p q o v) (valid_pop p r t w) (cut_rank p q r o t v l),
    )

-- ---- what is untried

-- where a level of some choices lies: on the path, or past it
level_in : (path more : List ℕ) (level o : ℕ) (rest : List ℕ) → drop level (path ++ more) ≡ o ∷ rest → ((after : List ℕ) × (path ≡ take level (path ++ more) ++ o ∷ after)) ⊎ ((n : ℕ) × (take level (path ++ more) ≡ path ++ take n more) × (drop n more ≡ o ∷ rest))
level_in [] more level o rest e = inr (level, refl, e)
level_in (x ∷ path) more zero o rest e = let f : x ≡ o = cc in inl (path, ap (λ y. y ∷ path) f)
level_in (x ∷ path) more (suc n) o rest e = step (level_in path more n o rest e)
  where
    step : ((after : List ℕ) × (path ≡ take n (path ++ more) ++ o ∷ after)) ⊎ ((k : ℕ) × (take n (path ++ more) ≡ path ++ take k more) × (drop k more ≡ o ∷ rest)) → ((after : List ℕ) × (x ∷ path ≡ take (suc n) (x ∷ path ++ more) ++ o ∷ after)) ⊎ ((k : ℕ) × (take (suc n) (x ∷ path ++ more) ≡ x ∷ path ++ take k more) × (drop k more ≡ o ∷ rest))
    step (inl a) = inl (a.0, ap (λ ys. x ∷ ys) a.1)
    step (inr a) = inr (a.0, ap (λ ys. x ∷ ys) a.1, a.2)

-- of a state's choices one lies on the path, behind those of q, or is the option at the cursor
abbrev pub IsChoiceAt : StateValue → List ℕ → ℕ → Type 0
IsChoiceAt s q o = ((after : List ℕ) × (s.path ≡ q ++ o ∷ after)) ⊎ ((q ≡ s.path) × (s.cursor ≡ At o))

past_path : (k : Cursor) (n o : ℕ) (rest path q : List ℕ) → q ≡ path ++ take n (cursor_option k) → drop n (cursor_option k) ≡ o ∷ rest → (q ≡ path) × (k ≡ At o)
past_path (At t) zero o rest path q e g = let h : t ≡ o = cc in (e ∙ append-nil path, ap At h)
past_path (At t) (suc n) o rest path q e g = let none = drop-nil {A = ℕ} n in absurd (cc)
past_path cursor.None n o rest path q e g = let none = drop-nil {A = ℕ} n in absurd (cc)
past_path Past n o rest path q e g = let none = drop-nil {A = ℕ} n in absurd (cc)

pub choice_at : (s : StateValue) (level o : ℕ) (rest : List ℕ) → drop level (choices s) ≡ o ∷ rest → IsChoiceAt s (take level (choices s)) o
choice_at s level o rest e = step (level_in s.path (cursor_option s.cursor) level o rest e)
  where
    step : ((after : List ℕ) × (s.path ≡ take level (choices s) ++ o ∷ after)) ⊎ ((n : ℕ) × (take level (choices s) ≡ s.path ++ take n (cursor_option s.cursor)) × (drop n (cursor_option s.cursor) ≡ o ∷ rest)) → IsChoiceAt s (take level (choices s)) o
    step (inl a) = inl a
    step (inr a) = inr (past_path s.cursor a.0 o rest s.path (take level (choices s)) a.1 a.2)

-- a state's choice at a level, with the choices before it: it is an option there, its cut doesn't come after the state, and the
-- state comes before the cut at each later option
pub record IsChosen (p : ProblemValue) (s : StateValue) (q : List ℕ) (o : ℕ) : Type 0 where
  pub valid : IsValid p q
  pub choice : IsChoice p (covered_by p q) o
  pub own : rank p (at X5 q (At o)) ≤ rank p s
  pub later : (k : ℕ) → o < k → rank p s < rank p (at X5 q (At k))

pub front : (p : ProblemValue) (q after : List ℕ) (o : ℕ) → IsValid p (q ++ o ∷ after) → IsValid p q × IsChoice p (covered_by p q) o
unfolding IsValid covered_by
front p q after o v = let t = valid_split p [] q (o ∷ after) v in (t.0, t.1.0)

chosen_path : (p : ProblemValue) (s : StateValue) (q after : List ℕ) (o : ℕ) → Fits p s → s.path ≡ q ++ o ∷ after → IsChosen p s q o
chosen_path p s q after o f e =
    let v = subst (λ r. IsValid p r) e (fits_valid p s.label s.path s.cursor f) in
    let t = front p q after o v in
    record {
      valid = t.0;
      choice = t.1;
      own = let g = subst (λ r. FitsAt p s.label r s.cursor) e f in
          let a = cut_before p q after o s.label s.cursor g in
          let b = ap (λ r. rank p (at s.label r s.cursor)) e in omega arith;
      later = λ k l. let g = subst (λ r. FitsAt p s.label r s.cursor) e f in
          let a = inside_before p q after o k s.label s.cursor g l in
          let b = ap (λ r. rank p (at s.label r s.cursor)) e in omega arith;
    }

chosen_at : (p : ProblemValue) (l : Label) (path : List ℕ) (o : ℕ) → FitsAt p l path (At o) → IsChosen p (at l path (At o)) path o
chosen_at p X5 path o f = record { valid = f.0; choice = f.1; own = omega arith; later = λ k l. level_rank p path o k f.0 l }
chosen_at p X6 path o f = record { valid = f.0; choice = f.1; own = (let a = left_after p path o f.0 in omega arith); later = λ k l. left_before p path o k f.0 l }
chosen_at p _ path o f = absurd f

pub chosen_is : (p : ProblemValue) (s : StateValue) (level o : ℕ) (rest : List ℕ) → Fits p s → drop level (choices s) ≡ o ∷ rest → IsChosen p s (take level (choices s)) o
chosen_is p s level o rest f e = step (choice_at s level o rest e)
  where
    step : IsChoiceAt s (take level (choices s)) o → IsChosen p s (take level (choices s)) o
    step (inl a) = chosen_path p s (take level (choices s)) a.0 o f a.1
    step (inr a) = rw a.0 (subst (λ k. IsChosen p (at s.label s.path k) s.path o) (sym a.1) (chosen_at p s.label s.path o (subst (λ k. FitsAt p s.label s.path k) a.1 f)))

-- each option above a state's choice makes a cut, and the state comes before it
pub record IsLater (p : ProblemValue) (s : StateValue) (path : List ℕ) : Type 0 where
  pub cut : IsCut p path
  pub rises : rank p s < rank p (cut_state path)

pub later_one : (p : ProblemValue) (s : StateValue) (q : List ℕ) (o k : ℕ) → IsChosen p s q o → has (remaining_above p q o) k ≡ true → IsLater p s (q ++ k ∷ [])
later_one p s q o k c h =
    let a = has_filter_in (λ k. nat_lt o k) (remaining_after p q) k h in
    let choice : IsChoice p (covered_by p q) k = record { active = c.choice.active; left = a.1 } in
    let e = ap (rank p) (cut_is q k) in
    let r = c.later k (ltb-true o k a.0) in
    record {
      cut = record { some = (let n = length-append q (k ∷ []) in omega arith); valid = valid_push p q k c.valid choice };
      rises = omega arith;
    }

untried_one : (p : ProblemValue) (s end : StateValue) (q : List ℕ) (o k : ℕ) → Fits p s → Fits p end → IsChosen p s q o → has (filter (is_before_end p end q) (remaining_above p q o)) k ≡ true → IsUntried p s end (q ++ k ∷ [])
untried_one p s end q o k f g c h =
    let a = has_filter_in (is_before_end p end q) (remaining_above p q o) k h in
    let b = later_one p s q o k c a.1 in
    record {
      cut = b.cut;
      later = rank_comes p s (cut_state (q ++ k ∷ [])) f (cut_fits p (q ++ k ∷ []) b.cut) b.rises;
      before_end = rank_comes p (cut_state (q ++ k ∷ [])) end (cut_fits p (q ++ k ∷ []) b.cut) g (test_rank p (cut_state (q ++ k ∷ [])) end a.0);
    }

pub untried_is : (p : ProblemValue) (s end : StateValue) → Fits p s → Fits p end → (level k : ℕ) → has (untried p end level s) k ≡ true → IsUntried p s end (with_choice s level k)
untried_is p s end f g level k h = look (drop level (choices s)) refl h
  where
    look : (rest : List ℕ) → drop level (choices s) ≡ rest → has (untried_after p end (take level (choices s)) rest) k ≡ true → IsUntried p s end (take level (choices s) ++ k ∷ [])
    look [] e h = absurd (cc)
    look (o ∷ rest) e h = untried_one p s end (take level (choices s)) o k f g (chosen_is p s level o rest f e) h

-- a cut that comes later at a level with a choice is at an option above that choice
above_one : (p : ProblemValue) (s : StateValue) (q : List ℕ) (o k : ℕ) → Fits p s → IsChosen p s q o → IsCut p (q ++ k ∷ []) → ComesBefore p s (cut_state (q ++ k ∷ [])) → has (remaining_above p q o) k ≡ true
above_one p s q o k f c cut b =
    let v = valid_pop p q k cut.valid in
    let r = comes_rank p s (cut_state (q ++ k ∷ [])) f b in
    let e = ap (rank p) (cut_is q k) in
    let own = c.own in
    let above : o < k = step (cases_order o k) (omega arith) in
    has_filter (λ k. nat_lt o k) (remaining_after p q) k (lt-ltb o k above) v.1.left
  where
    step : (o ≡ k) ⊎ ((o < k) ⊎ (k < o)) → rank p (at X5 q (At o)) < rank p (at X5 q (At k)) → o < k
    step (inl e) r = let f = ap (λ k. rank p (at X5 q (At k))) e in absurd (omega arith)
    step (inr (inl l)) r = l
    step (inr (inr l)) r = let t = level_rank p q k o c.valid l in absurd (omega arith)

all_one : (p : ProblemValue) (s end : StateValue) (q : List ℕ) (o k : ℕ) → Fits p s → Fits p end → IsChosen p s q o → IsUntried p s end (q ++ k ∷ []) → has (filter (is_before_end p end q) (remaining_above p q o)) k ≡ true
all_one p s end q o k f g c u =
    let fit = cut_fits p (q ++ k ∷ []) u.cut in
    has_filter (is_before_end p end q) (remaining_above p q o) k
    (rank_test p (cut_state (q ++ k ∷ [])) end fit g (comes_rank p (cut_state (q ++ k ∷ [])) end fit u.before_end))
    (above_one p s q o k f c u.cut u.later)

pub untried_all : (p : ProblemValue) (s end : StateValue) → Fits p s → Fits p end → (level k : ℕ) → level < length (choices s) → IsUntried p s end (with_choice s level k) → has (untried p end level s) k ≡ true
untried_all p s end f g level k l u = look (drop level (choices s)) refl
  where
    look : (rest : List ℕ) → drop level (choices s) ≡ rest → has (untried_after p end (take level (choices s)) rest) k ≡ true
    look [] e = let n = length-drop level (choices s) in let m = ap (length {A = ℕ}) e in absurd (omega arith)
    look (o ∷ rest) e = all_one p s end (take level (choices s)) o k f g (chosen_is p s level o rest f e) u

-- and the state reaches the cut of each option above its choice
pub above_reached : (p : ProblemValue) (s : StateValue) → Fits p s → (level o k : ℕ) (more : List ℕ) → drop level (choices s) ≡ o ∷ more → has (remaining_above p (take level (choices s)) o) k ≡ true → ComesBefore p s (cut_state (with_choice s level k))
above_reached p s f level o k more e h =
    let b = later_one p s (take level (choices s)) o k (chosen_is p s level o more f e) h in
    rank_comes p s (cut_state (with_choice s level k)) f (cut_fits p (with_choice s level k) b.cut) b.rises
