-- The first option that is untried at a level, and the levels at which nothing is.
use Rattle.std.proofs.Common.{◌≡◌, ℕ, suc, ◌+◌, ◌<◌, ◌≤◌, ◌⊎◌, true, false, Option, Some, None, List, [], ◌∷◌, ◌++◌, length, take, drop, filter, get_or, refl, sym, ap, ◌∙◌, subst, inl, inr, arith, length-append}
use Rattle.std.specs.Prelude.{nat_lt}
use Rattle.std.specs.List.{slice_get}
use Rattle.std.proofs.lemmas.Bool.{cases_lt, cases_order, lt-ltb, le-ltb, ltb-true, false≢true}
use Rattle.std.proofs.lemmas.List.{drop_all, length-take-le, take-append-le, take-append-drop, get_or-take, get_or_append_left}
use Rattle.std.proofs.lemmas.Option.{slice_get-get_or}
use Rattle.shared_words.specs.Lists.{has, above, RisesFrom}
use Rattle.cover_problem.specs.Problem.{ProblemValue}
use Rattle.cover_problem.specs.Path.{IsValid, covered_by}
use Rattle.cover_problem.proofs.CoverLemmas.{valid_split}
use Rattle.cover_problem.proofs.MemberLemmas.{has_here, has_cases, has_filter_in}
use Rattle.cover_problem.proofs.NumberLemmas.{rises_member}
use Rattle.x_steps.specs.declared.state.Label.TheVariants.{X5}
use Rattle.x_steps.specs.declared.state.Cursor.{Cursor}
use Rattle.x_steps.specs.declared.state.Cursor.TheVariants.{At}
use Rattle.x_steps.specs.StateValue.{StateValue, at}
use Rattle.x_steps.specs.Steps.{Fits, remaining_after}
use Rattle.x_steps.specs.Rank.{rank}
use Rattle.x_steps.proofs.OrderLemmas.{level_rank, fits_valid}
use Rattle.x_steps.proofs.Neighbours.{split_last_cases}
use Rattle.x_branches.specs.Cut.{cursor_option, choices, cut_state, CutPath}
use Rattle.x_branches.specs.Branch.{end_of}
use Rattle.x_branches.specs.Walk.{end_choices}
use Rattle.x_steps.specs.Order.{IsShared}
use Rattle.x_branches.specs.Untried.{remaining_above, left_after, left_above, is_before_end, untried_after, untried}
use Rattle.x_branches.proofs.CutLemmas.{test_rank, rank_test, cut_is, cut_fits, chosen_is, IsLater, later_one}
use Rattle.x_branches.proofs.UntriedLemmas.{read_drop, untried_left}
use Rattle.x_branches.proofs.WalkedLemmas.{none_is_start}

nothing_in : (xs : List ℕ) → ((k : ℕ) → has xs k ≡ true → ⊥) → xs ≡ []
nothing_in [] h = refl
nothing_in (x ∷ xs) h = absurd (h x (has_here x xs))

-- ---- a rising list above a number

pub none_above : (c : ℕ) (xs : List ℕ) → None ≡ above c xs → filter (λ k. nat_lt c k) xs ≡ []
none_above c [] e = refl
none_above c (x ∷ xs) e = step (cases_lt c x) e (none_above c xs)
  where
    step : (c < x) ⊎ (x ≤ c) → None ≡ above c (x ∷ xs) → (None ≡ above c xs → filter (λ k. nat_lt c k) xs ≡ []) → filter (λ k. nat_lt c k) (x ∷ xs) ≡ []
    step (inl a) e more = let f : None ≡ Some x = rw (lt-ltb c x a) at e in absurd (cc)
    step (inr a) e more = let f : None ≡ above c xs = rw (le-ltb c x a) at e in rw (le-ltb c x a) (more f)

pub first_above : (c o : ℕ) (xs : List ℕ) → Some o ≡ above c xs → (rest : List ℕ) × (filter (λ k. nat_lt c k) xs ≡ o ∷ rest)
first_above c o [] e = absurd (cc)
first_above c o (x ∷ xs) e = step (cases_lt c x) e (first_above c o xs)
  where
    step : (c < x) ⊎ (x ≤ c) → Some o ≡ above c (x ∷ xs) → (Some o ≡ above c xs → (rest : List ℕ) × (filter (λ k. nat_lt c k) xs ≡ o ∷ rest))
        → (rest : List ℕ) × (filter (λ k. nat_lt c k) (x ∷ xs) ≡ o ∷ rest)
    step (inl a) e more =
        let f : Some o ≡ Some x = rw (lt-ltb c x a) at e in
        let h : o ≡ x = cc in (filter (λ k. nat_lt c k) xs, rw (lt-ltb c x a, h) refl)
    step (inr a) e more = let f : Some o ≡ above c xs = rw (le-ltb c x a) at e in rw (le-ltb c x a) (more f)

least_above : (c n o k : ℕ) (xs : List ℕ) → RisesFrom n xs → Some o ≡ above c xs → has xs k ≡ true → c < k → o ≤ k
least_above c n o k [] r e h l = absurd (cc)
least_above c n o k (x ∷ xs) r e h l = step (cases_lt c x) e (has_cases x xs k h) (λ f b. least_above c (suc x) o k xs r.1 f b l)
  where
    member : (x ≡ k) ⊎ (has xs k ≡ true) → o ≡ x → o ≤ k
    member (inl b) h = omega arith
    member (inr b) h = let t = rises_member (suc x) k xs r.1 b in omega arith

    step : (c < x) ⊎ (x ≤ c) → Some o ≡ above c (x ∷ xs) → (x ≡ k) ⊎ (has xs k ≡ true) → (Some o ≡ above c xs → has xs k ≡ true → o ≤ k) → o ≤ k
    step (inl a) e m more = let f : Some o ≡ Some x = rw (lt-ltb c x a) at e in let h : o ≡ x = cc in member m h
    step (inr a) e (inl b) more = absurd (omega arith)
    step (inr a) e (inr b) more = let f : Some o ≡ above c xs = rw (le-ltb c x a) at e in more f b

-- ---- one level

module _ (p : ProblemValue) (end s : StateValue) (level c : ℕ) (list : List ℕ)
    (left : filter (λ k. nat_lt c k) list ≡ left_above p level s) where
  -- none is left above the choice
  pub none_left_above : None ≡ above c list → None ≡ slice_get (untried p end level s) 0
  none_left_above e =
      let none : left_above p level s ≡ [] = sym left ∙ none_above c list e in
      let u : filter (is_before_end p end (take level (choices s))) (left_above p level s) ≡ untried p end level s = untried_left p end s level in
      subst (λ xs. None ≡ slice_get xs 0) (ap (filter (is_before_end p end (take level (choices s)))) (sym none) ∙ u) refl

  -- the first that is left comes before the end
  pub first_inside : (o : ℕ) → Some o ≡ above c list → is_before_end p end (take level (choices s)) o ≡ true
      → Some o ≡ slice_get (untried p end level s) 0
  first_inside o e t =
      let test = is_before_end p end (take level (choices s)) in
      let f = first_above c o list e in
      let g : left_above p level s ≡ o ∷ f.0 = sym left ∙ f.1 in
      let h : filter test (o ∷ f.0) ≡ o ∷ filter test f.0 = rw t refl in
      subst (λ xs. Some o ≡ slice_get xs 0) (sym h ∙ ap (filter test) (sym g) ∙ untried_left p end s level) refl

  -- its cut is a state of the search
  pub first_fits : (o : ℕ) → Fits p s → Some c ≡ slice_get (choices s) level → Some o ≡ above c list
      → Fits p (at X5 (take level (choices s)) (At o))
  first_fits o f here e =
      let d = read_drop (choices s) level c here in
      let first = first_above c o list e in
      let member : has (remaining_above p (take level (choices s)) c) o ≡ true =
      subst (λ xs. has xs o ≡ true) (sym first.1 ∙ left ∙ ap (left_after p (take level (choices s))) d.1) (has_here o first.0) in
      let one = later_one p s (take level (choices s)) c o (chosen_is p s level c d.0 f d.1) member in
      rw (cut_is (take level (choices s)) o) at (cut_fits p (take level (choices s) ++ o ∷ []) one.cut)

  -- it doesn't, so none does
  pub none_inside : (n o : ℕ) → Fits p s → Fits p end → RisesFrom n list → Some c ≡ slice_get (choices s) level → Some o ≡ above c list
      → is_before_end p end (take level (choices s)) o ≡ false → None ≡ slice_get (untried p end level s) 0
  none_inside n o f g r here e t =
      let none : untried p end level s ≡ [] = nothing_in (untried p end level s) not_untried in
      subst (λ xs. None ≡ slice_get xs 0) (sym none) refl
    where
      q : List ℕ
      q = take level (choices s)

      d : (more : List ℕ) × (drop level (choices s) ≡ c ∷ more)
      d = read_drop (choices s) level c here

      known : left_above p level s ≡ remaining_above p q c
      known = ap (left_after p q) d.1

      first : (more : List ℕ) × (filter (λ k. nat_lt c k) list ≡ o ∷ more)
      first = first_above c o list e

      later : (k : ℕ) → has (left_above p level s) k ≡ true → IsLater p s (q ++ k ∷ [])
      later k m = later_one p s q c k (chosen_is p s level c d.0 f d.1) (subst (λ xs. has xs k ≡ true) known m)

      o_left : has (left_above p level s) o ≡ true
      o_left = subst (λ xs. has xs o ≡ true) (sym first.1 ∙ left) (has_here o first.0)

      not_untried : (k : ℕ) → has (untried p end level s) k ≡ true → ⊥
      not_untried k h =
          let m = has_filter_in (is_before_end p end q) (left_above p level s) k (subst (λ xs. has xs k ≡ true) (sym (untried_left p end s level)) h) in
          let a = has_filter_in (λ k. nat_lt c k) list k (subst (λ xs. has xs k ≡ true) (sym left) m.1) in
          let b = least_above c n o k list r e a.1 (ltb-true c k a.0) in
          step m.0 b (test_rank p (cut_state (q ++ k ∷ [])) end m.0) (cases_order o k)
        where
          step : is_before_end p end q k ≡ true → o ≤ k → rank p (cut_state (q ++ k ∷ [])) < rank p end → (o ≡ k) ⊎ ((o < k) ⊎ (k < o)) → ⊥
          step m b j (inl same) = false≢true (sym t ∙ ap (is_before_end p end q) same ∙ m)
          step m b j (inr (inl l)) =
              let u = level_rank p q o k (chosen_is p s level c d.0 f d.1).valid l in
              let v = ap (rank p) (cut_is q o) in
              let w = ap (rank p) (cut_is q k) in
              let x = rank_test p (cut_state (q ++ o ∷ [])) end (cut_fits p (q ++ o ∷ []) (later o o_left).cut) g (omega arith) in
              false≢true (sym t ∙ x)
          step m b j (inr (inr l)) = omega arith

-- where the choices are those of the end, what is left above comes after the end
pub none_where_shared : (p : ProblemValue) (end s : StateValue) (level o : ℕ) → Fits p s → Fits p end
    → take level (choices s) ≡ take level (choices end) → Some o ≡ slice_get (choices s) level → Some o ≡ slice_get (choices end) level
    → untried p end level s ≡ []
none_where_shared p end s level o f g same here there = nothing_in (untried p end level s) not_untried
  where
    q : List ℕ
    q = take level (choices s)

    not_untried : (k : ℕ) → has (untried p end level s) k ≡ true → ⊥
    not_untried k h =
        let d = read_drop (choices s) level o here in
        let e = read_drop (choices end) level o there in
        let known : left_above p level s ≡ remaining_above p q o = ap (left_after p q) d.1 in
        let m = has_filter_in (is_before_end p end q) (left_above p level s) k (subst (λ xs. has xs k ≡ true) (sym (untried_left p end s level)) h) in
        let a = has_filter_in (λ k. nat_lt o k) (remaining_after p q) k (subst (λ xs. has xs k ≡ true) known m.1) in
        let b = (chosen_is p end level o e.0 g e.1).later k (ltb-true o k a.0) in
        let c = test_rank p (cut_state (q ++ k ∷ [])) end m.0 in
        let u = ap (rank p) (cut_is q k) in
        let v = ap (λ r. rank p (at X5 r (At k))) same in
        omega arith

-- where there is no choice nothing is untried
pub none_past : (p : ProblemValue) (end s : StateValue) (level : ℕ) → length (choices s) ≤ level → untried p end level s ≡ []
none_past p end s level l = ap (untried_after p end (take level (choices s))) (drop_all level (choices s) l)

-- ---- all levels

-- lists that share their first n share fewer
take_fewer : (xs ys : List ℕ) (n k : ℕ) → n ≤ length xs → n ≤ length ys → take n xs ≡ take n ys → k ≤ n → take k xs ≡ take k ys
take_fewer xs ys n k a b e l = sym (part xs a) ∙ ap (take k) e ∙ part ys b
  where
    part : (zs : List ℕ) → n ≤ length zs → take k (take n zs) ≡ take k zs
    part zs m =
        let h = length-take-le n zs m in
        sym (take-append-le k (take n zs) (drop n zs) (omega arith)) ∙ ap (take k) (take-append-drop n zs)

read_shared : (xs ys : List ℕ) (n k : ℕ) → take n xs ≡ take n ys → k < n → get_or xs k 0 ≡ get_or ys k 0
read_shared xs ys n k e l = sym (get_or-take n xs k 0 l) ∙ ap (λ zs. get_or zs k 0) e ∙ get_or-take n ys k 0 l

-- the first of a path's choices are a path
pub valid_front : (p : ProblemValue) (s : StateValue) (n : ℕ) → Fits p s → IsValid p (take n s.path)
unfolding IsValid
valid_front p s n f =
    let v = fits_valid p s.label s.path s.cursor f in
    (valid_split p [] (take n s.path) (drop n s.path) (subst (λ q. IsValid p q) (sym (take-append-drop n s.path)) v)).0

-- the choices on the path
pub path_choice : (s : StateValue) (n : ℕ) → n < length s.path → Some (get_or s.path n 0) ≡ slice_get (choices s) n
path_choice s n l =
    let e = length-append s.path (cursor_option s.cursor) in
    sym (slice_get-get_or (choices s) n 0 (omega arith) ∙ ap Some (get_or_append_left s.path (cursor_option s.cursor) 0 n l))

pub path_front : (s : StateValue) (n : ℕ) → n ≤ length s.path → take n (choices s) ≡ take n s.path
path_front s n l = take-append-le n s.path (cursor_option s.cursor) l

-- those of a branch's end
end_choices_are : (hi : Option CutPath) → end_choices hi ≡ choices (end_of hi)
end_choices_are None = refl
end_choices_are (Some cut) = step (split_last_cases cut.path)
  where
    step : (cut.path ≡ []) ⊎ ((q : List ℕ) × (o : ℕ) × (cut.path ≡ q ++ o ∷ [])) → cut.path ≡ choices (cut_state cut.path)
    step (inl none) = none ∙ sym (ap choices (ap cut_state none ∙ none_is_start))
    step (inr r) = r.2 ∙ sym (ap choices (ap cut_state r.2 ∙ cut_is r.0 r.1))

nil_of : (xs : List ℕ) → None ≡ slice_get xs 0 → xs ≡ []
nil_of [] e = refl
nil_of (x ∷ xs) e = absurd (cc)

few_at_cursor : (k : Cursor) → length (cursor_option k) ≤ 1
few_at_cursor (At o) = omega arith
few_at_cursor _ = omega arith

-- below a level nothing is untried, and so many items are covered by the choices there
pub record IsSought (p : ProblemValue) (end s : StateValue) (level covered : ℕ) : Type 0 where
  pub nothing : (k : ℕ) → k < level → untried p end k s ≡ []
  pub count : covered ≡ length (covered_by p (take level (choices s)))

module _ (p : ProblemValue) (s : StateValue) (fits : Fits p s) where
  pub sought_begin : (hi : Option CutPath) (n covered : ℕ) → Fits p (end_of hi) → IsShared s.path (end_choices hi) n
      → covered ≡ length (covered_by p (take n s.path)) → IsSought p (end_of hi) s n covered
  sought_begin hi n covered g shared count = record {
    nothing = nothing;
    count = count ∙ ap (λ q. length (covered_by p q)) (sym (path_front s n shared.within));
  }
    where
      others : List ℕ
      others = end_choices hi

      nothing : (k : ℕ) → k < n → untried p (end_of hi) k s ≡ []
      nothing k l =
          let a = shared.within in
          let b = shared.within_other in
          let c = end_choices_are hi in
          let same = take_fewer s.path others n k a b shared.same (omega arith) in
          none_where_shared p (end_of hi) s k (get_or s.path k 0) fits g (path_front s k (omega arith) ∙ same ∙ ap (take k) c)
          (path_choice s k (omega arith))
          (ap Some (read_shared s.path others n k shared.same l) ∙ sym (slice_get-get_or others k 0 (omega arith)) ∙ ap (λ xs. slice_get xs k) c)

  module _ (end : StateValue) (level covered : ℕ) (sought : IsSought p end s level covered) where
    -- nothing is untried at the level either
    pub sought_more : (next : ℕ) → None ≡ slice_get (untried p end level s) 0 → next ≡ length (covered_by p (take (level + 1) (choices s)))
        → IsSought p end s (level + 1) next
    sought_more next e count = record { nothing = λ k m. step k (cases_order k level) m; count = count }
      where
        step : (k : ℕ) → (k ≡ level) ⊎ ((k < level) ⊎ (level < k)) → k < level + 1 → untried p end k s ≡ []
        step k (inl same) m = ap (λ k. untried p end k s) same ∙ nil_of (untried p end level s) e
        step k (inr (inl b)) m = sought.nothing k b
        step k (inr (inr b)) m = absurd (omega arith)

    -- it is the cursor's level, and nothing is untried there
    pub none_at_cursor : level ≡ length s.path → None ≡ slice_get (untried p end level s) 0 → (k : ℕ) → untried p end k s ≡ []
    none_at_cursor l e k = step (cases_order k level)
      where
        step : (k ≡ level) ⊎ ((k < level) ⊎ (level < k)) → untried p end k s ≡ []
        step (inl same) = ap (λ k. untried p end k s) same ∙ nil_of (untried p end level s) e
        step (inr (inl b)) = sought.nothing k b
        step (inr (inr b)) =
            let a = length-append s.path (cursor_option s.cursor) in
            let c = few_at_cursor s.cursor in
            none_past p end s k (omega arith)
