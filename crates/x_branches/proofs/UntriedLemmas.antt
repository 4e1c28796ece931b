-- What a runner finds on the covered list and on the list of the item that was chosen at a level.
use Rattle.std.proofs.Common.{◌≡◌, ◌↔◌, ℕ, zero, suc, ◌+◌, ◌<◌, ◌≤◌, ◌⊎◌, Bool, true, false, cond, IsTrue, Some, None, All, List, [], ◌∷◌, ◌++◌, length, take, drop, filter, get_or, refl, sym, ap, ◌∙◌, subst, inl, inr, arith, eqb-true, append_assoc, append-nil, length-append}
use Rattle.std.specs.Prelude.{nat_lt, ◌==◌, ◌&&◌}
use Rattle.std.proofs.Math.Bool.{and-true}
use Rattle.std.specs.List.{slice_get}
use Rattle.std.specs.Cmp.{both_ways}
use Rattle.std.proofs.lemmas.Bool.{cases_lt, lt-ltb, le-ltb, and_from, and_parts, and_left, and_right}
use Rattle.std.proofs.lemmas.List.{nil_from_length, take_more, take-append-drop, take_at, drop_all}
use Rattle.std.proofs.lemmas.List.Elements.{All-from_get_or, filter_more}
use Rattle.std.proofs.lemmas.Option.{slice_get-get_or}
use Rattle.shared_words.specs.Lists.{has}
use Rattle.cover_problem.specs.Problem.{ProblemValue, IsProblem, option_at}
use Rattle.cover_problem.specs.Covering.{choice, is_remaining, remaining, list_of}
use Rattle.cover_problem.specs.Path.{others, taken, IsValid, covered_from, covered_by}
use Rattle.cover_problem.proofs.MemberLemmas.{has_at, has_filter, has_filter_in}
use Rattle.cover_problem.proofs.RemainingLemmas.{remaining_from, remaining_in}
use Rattle.cover_problem.proofs.PathLemmas.{length-taken, covered_by_push}
use Rattle.cover_problem.proofs.CoverLemmas.{covered_join}
use Rattle.x_steps.specs.declared.state.Label.{Label}
use Rattle.x_steps.specs.declared.state.Label.TheVariants.{X5, X6, X7}
use Rattle.x_steps.specs.declared.state.Cursor.{Cursor}
use Rattle.x_steps.specs.declared.state.Cursor.TheVariants.{At}
use Rattle.x_steps.specs.StateValue.{StateValue, at}
use Rattle.x_steps.specs.Steps.{FitsAt, Fits, item_after, remaining_after, covered_at, covered_in}
use Rattle.x_steps.proofs.Neighbours.{parted}
use Rattle.x_steps.proofs.StateLemmas.{level_is}
use Rattle.x_branches.specs.Cut.{choices}
use Rattle.x_branches.specs.RunOrder.{ComesBefore, comes_before}
use Rattle.x_branches.specs.Untried.{left_after, left_above, is_before_end, untried_after, untried}
use Rattle.x_branches.proofs.CutLemmas.{test_is_order, cut_is, cut_fits, front, IsChoiceAt, choice_at, chosen_is, later_one}

-- ---- lists

pub all_members : (P : ℕ → Type 0) (xs : List ℕ) → ((k : ℕ) → has xs k ≡ true → P k) → All P xs
all_members P xs h = All-from_get_or P xs 0 (λ i l. h (get_or xs i 0) (has_at xs i 0 l))

-- one more of a list's members, if it passes
pub kept_one : (test : ℕ → Bool) (xs kept : List ℕ) (i : ℕ) → kept ≡ filter test (take i xs) → i < length xs → test (get_or xs i 0) ≡ true → kept ++ get_or xs i 0 ∷ [] ≡ filter test (take (i + 1) xs)
kept_one test xs kept i e l t = ap (λ ks. ks ++ get_or xs i 0 ∷ []) e ∙ sym (filter_more test xs i 0 l ∙ ap (λ b. filter test (take i xs) ++ cond b (get_or xs i 0 ∷ []) []) t)

pub kept_none : (test : ℕ → Bool) (xs kept : List ℕ) (i : ℕ) → kept ≡ filter test (take i xs) → i < length xs → test (get_or xs i 0) ≡ false → kept ≡ filter test (take (i + 1) xs)
kept_none test xs kept i e l t = e ∙ sym (filter_more test xs i 0 l ∙ ap (λ b. filter test (take i xs) ++ cond b (get_or xs i 0 ∷ []) []) t ∙ append-nil (filter test (take i xs)))

-- what is at a place stands behind what is before it
pub read_drop : (xs : List ℕ) (n o : ℕ) → Some o ≡ slice_get xs n → (rest : List ℕ) × (drop n xs ≡ o ∷ rest)
read_drop [] zero o e = absurd (cc)
read_drop [] (suc n) o e = absurd (cc)
read_drop (x ∷ xs) zero o e = let h : o ≡ x = cc in (xs, rw h refl)
read_drop (x ∷ xs) (suc n) o e = read_drop xs n o e

pub none_drop : (xs : List ℕ) (n : ℕ) → None ≡ slice_get xs n → drop n xs ≡ []
none_drop [] zero e = refl
none_drop [] (suc n) e = refl
none_drop (x ∷ xs) zero e = absurd (cc)
none_drop (x ∷ xs) (suc n) e = none_drop xs n e

-- ---- what choices cover

covered_begins : (p : ProblemValue) (c path : List ℕ) → (more : List ℕ) × (covered_from p c path ≡ c ++ more)
unfolding taken
covered_begins p c [] = ([], sym (append-nil c))
covered_begins p c (o ∷ path) =
    let i = covered_begins p (taken p c o) path in
    ((choice p c ∷ others (choice p c) (option_at p o)) ++ i.0, i.1 ∙ append_assoc c (choice p c ∷ others (choice p c) (option_at p o)) i.0)

pub covered_more : (p : ProblemValue) (path : List ℕ) (i : ℕ) → IsValid p path → i < length path → length (covered_by p (take (i + 1) path)) ≡ length (covered_by p (take i path)) + length (option_at p (get_or path i 0))
covered_more p path i v l =
    let s = front p (take i path) (drop (suc i) path) (get_or path i 0) (subst (IsValid p) (parted path i l) v) in
    ap (λ q. length (covered_by p q)) (take_more path i 0 l) ∙ ap (length {A = ℕ}) (covered_by_push p (take i path) (get_or path i 0)) ∙ length-taken p (covered_by p (take i path)) (get_or path i 0) s.1

-- a part of the choices covers a beginning
pub covered_part : (p : ProblemValue) (q r : List ℕ) → length (covered_by p q) ≤ length (covered_by p (q ++ r))
unfolding covered_by
covered_part p q r =
    let b = covered_begins p (covered_from p [] q) r in
    let e = ap (length {A = ℕ}) (covered_join p [] q r ∙ b.1) ∙ length-append (covered_from p [] q) b.0 in omega arith

-- a state covers what its path covers first
state_begins : (p : ProblemValue) (l : Label) (path : List ℕ) (k : Cursor) → FitsAt p l path k → (more : List ℕ) × (covered_at p l path k ≡ covered_by p path ++ more)
unfolding taken
state_begins p X5 path k f = (item_after p path ∷ [], refl)
state_begins p X7 path k f = (item_after p path ∷ [], refl)
state_begins p X6 path (At o) f = (choice p (covered_by p path) ∷ others (choice p (covered_by p path)) (option_at p o), refl)
state_begins p X6 path _ f = absurd f
state_begins p _ path k f = ([], sym (append-nil (covered_by p path)))

-- below a choice the item stands behind what the choices before it cover
below_choice : (p : ProblemValue) (q after : List ℕ) (o : ℕ) → (more : List ℕ) × (covered_by p (q ++ o ∷ after) ≡ covered_by p q ++ item_after p q ∷ more)
unfolding covered_by taken
below_choice p q after o =
    let b = covered_begins p (taken p (covered_from p [] q) o) after in
    let c = covered_from p [] q in
    (others (choice p c) (option_at p o) ++ b.0, covered_join p [] q (o ∷ after) ∙ b.1 ∙ append_assoc c (choice p c ∷ others (choice p c) (option_at p o)) b.0)

at_cursor : (p : ProblemValue) (l : Label) (path : List ℕ) (o : ℕ) → FitsAt p l path (At o) → (more : List ℕ) × (covered_at p l path (At o) ≡ covered_by p path ++ item_after p path ∷ more)
unfolding taken
at_cursor p X5 path o f = ([], refl)
at_cursor p X6 path o f = (others (item_after p path) (option_at p o), refl)
at_cursor p _ path o f = absurd f

-- a state covers at least what the choices of a beginning of its path cover
pub covered_within : (p : ProblemValue) (s : StateValue) (n : ℕ) → Fits p s → length (covered_by p (take n s.path)) ≤ length (covered_in p s)
unfolding covered_in
covered_within p s n f =
    let a = state_begins p s.label s.path s.cursor f in
    let b = ap (length {A = ℕ}) a.1 ∙ length-append (covered_by p s.path) a.0 in
    let c = subst (λ q. length (covered_by p (take n s.path)) ≤ length (covered_by p q)) (take-append-drop n s.path) (covered_part p (take n s.path) (drop n s.path)) in
    omega arith

-- the item chosen at a level of a state stands on the covered list behind what the choices before that level cover
pub covered_front : (p : ProblemValue) (s : StateValue) (level o : ℕ) (rest : List ℕ) → Fits p s → drop level (choices s) ≡ o ∷ rest → (more : List ℕ) × (covered_in p s ≡ covered_by p (take level (choices s)) ++ item_after p (take level (choices s)) ∷ more)
unfolding covered_in
covered_front p s level o rest f e = step (choice_at s level o rest e)
  where
    step : IsChoiceAt s (take level (choices s)) o → (more : List ℕ) × (covered_in p s ≡ covered_by p (take level (choices s)) ++ item_after p (take level (choices s)) ∷ more)
    step (inl a) =
        let q = take level (choices s) in
        let c = state_begins p s.label s.path s.cursor f in
        let b = below_choice p (take level (choices s)) a.0 o in
        (b.0 ++ c.0, c.1 ∙ ap (λ d. d ++ c.0) (ap (covered_by p) a.1 ∙ b.1) ∙ append_assoc (covered_by p q) (item_after p q ∷ b.0) c.0)
    step (inr a) =
        rw a.0 (subst (λ k. (more : List ℕ) × (covered_at p s.label s.path k ≡ covered_by p s.path ++ item_after p s.path ∷ more)) (sym a.1)
        (at_cursor p s.label s.path o (subst (λ k. FitsAt p s.label s.path k) a.1 f)))

-- ---- what is left

-- what the covered list tells of a level where there is a choice
pub record IsAtLevel (p : ProblemValue) (s : StateValue) (level o : ℕ) (item : ℕ) : Type 0 where
  pub valid : IsValid p (take level (choices s))
  pub within : length (covered_by p (take level (choices s))) < length (covered_in p s)
  pub before : take (length (covered_by p (take level (choices s)))) (covered_in p s) ≡ covered_by p (take level (choices s))
  pub place : get_or (covered_in p s) (length (covered_by p (take level (choices s)))) 0 ≡ item
  pub member : has (list_of p (covered_in p s) item) o ≡ true
  pub left : filter (λ k. nat_lt o k) (list_of p (covered_in p s) item) ≡ left_above p level s

pub at_level : (p : ProblemValue) (s : StateValue) (level o : ℕ) → IsProblem p → Fits p s → Some o ≡ slice_get (choices s) level → IsAtLevel p s level o (item_after p (take level (choices s)))
at_level p s level o sound f e =
    let d = read_drop (choices s) level o e in
    let q = take level (choices s) in
    let c = chosen_is p s level o d.0 f d.1 in
    let w = covered_front p s level o d.0 f d.1 in
    let l = level_is p (take level (choices s)) sound c.valid c.choice.active in
    let here : list_of p (covered_in p s) (item_after p q) ≡ remaining_after p q = ap (λ c. list_of p c (item_after p q)) w.1 ∙ l.list_covered w.0 in
    record {
      valid = c.valid;
      within = let n = ap (length {A = ℕ}) w.1 ∙ length-append (covered_by p q) (item_after p q ∷ w.0) in omega arith;
      before = ap (take (length (covered_by p q))) w.1 ∙ take_at (covered_by p q) (item_after p q ∷ w.0) (length (covered_by p q)) refl;
      place = ap (λ c. get_or c (length (covered_by p q)) 0) w.1 ∙ l.place w.0 0;
      member = ap (λ xs. has xs o) here ∙ c.choice.left;
      left = ap (filter (λ k. nat_lt o k)) here ∙ ap (left_after p q) (sym d.1);
    }

pub none_left : (p : ProblemValue) (s : StateValue) (level : ℕ) → None ≡ slice_get (choices s) level → [] ≡ left_above p level s
none_left p s level e = ap (left_after p (take level (choices s))) (sym (none_drop (choices s) level e))

pub untried_left : (p : ProblemValue) (end s : StateValue) (level : ℕ) → filter (is_before_end p end (take level (choices s))) (left_above p level s) ≡ untried p end level s
untried_left p end s level = look (drop level (choices s)) refl
  where
    look : (rest : List ℕ) → drop level (choices s) ≡ rest → filter (is_before_end p end (take level (choices s))) (left_above p level s) ≡ untried p end level s
    look [] e = rw e refl
    look (o ∷ rest) e = rw e refl

-- ---- whether one option is left

has_kept : (test : ℕ → Bool) (xs : List ℕ) (x : ℕ) → has (filter test xs) x ≡ (test x && has xs x)
has_kept test xs x =
    both_ways (has (filter test xs) x) (test x && has xs x)
    (λ h. let m = has_filter_in test xs x h in and_from (test x) (has xs x) m.0 m.1)
    (λ h. let m = and_parts (test x) (has xs x) h in has_filter test xs x m.0 m.1)

-- an option is left for an item where it has the item and none that is covered
remaining_tested : (p : ProblemValue) (c : List ℕ) (j o : ℕ) → 0 < o → o ≤ length p.options → is_remaining c j (option_at p o) ≡ has (remaining p c j) o
remaining_tested p c j o some within =
    both_ways (is_remaining c j (option_at p o)) (has (remaining p c j) o)
    (λ h. remaining_from p c j o h some within)
    (λ h. (remaining_in p c j o h).0)

pub left_tested : (p : ProblemValue) (q : List ℕ) (o item : ℕ) (before option : List ℕ) (test : Bool) → 0 < o → o ≤ length p.options
    → before ≡ covered_by p q → item ≡ item_after p q → option ≡ option_at p o → test ≡ is_remaining before item option
    → test ≡ has (remaining_after p q) o
left_tested p q o item before option test some within b i k e = e ∙ rw (b, i, k) (remaining_tested p (covered_by p q) (item_after p q) o some within)

module _ (p : ProblemValue) (s : StateValue) (level choice o : ℕ) (here : Some choice ≡ slice_get (choices s) level) where
  abbrev pub q : List ℕ
  q = take level (choices s)

  left_has : has (left_above p level s) o ≡ (nat_lt choice o && has (remaining_after p q) o)
  left_has =
      let d = read_drop (choices s) level choice here in
      ap (λ rest. has (left_after p q rest) o) d.1 ∙ has_kept (λ k. nat_lt choice k) (remaining_after p q) o

  -- it is above the choice, so it is left above the choice where it is left
  pub left_where : choice < o → has (remaining_after p q) o ≡ has (left_above p level s) o
  left_where l = sym (left_has ∙ rw (lt-ltb choice o l) refl)

  -- the choice itself, and what stands below it, isn't left above it
  pub not_left_below : o ≤ choice → false ≡ has (left_above p level s) o
  not_left_below l = sym (left_has ∙ and_left (nat_lt choice o) (has (remaining_after p q) o) (le-ltb choice o l))

  -- what is no option isn't left
  pub not_left_past : length p.options < o → false ≡ has (left_above p level s) o
  not_left_past l = sym (left_has ∙ and_right (nat_lt choice o) (has (remaining_after p q) o) (none (has (remaining_after p q) o) refl))
    where
      none : (b : Bool) → has (remaining_after p q) o ≡ b → b ≡ false
      none false e = refl
      none true e = absurd (past e)
        where
          past : has (remaining_after p q) o ≡ true → ⊥
          past e = let m = (remaining_in p (covered_by p q) (item_after p q) o e).2 in omega arith

-- where there is no choice nothing is untried
pub none_without : (p : ProblemValue) (end s : StateValue) (level : ℕ) → None ≡ slice_get (choices s) level → None ≡ slice_get (untried p end level s) 0
none_without p end s level e = ap (λ rest. slice_get (untried_after p end (take level (choices s)) rest) 0) (sym (none_drop (choices s) level e))

-- whether an option that is left above the choice is untried is told by its cut
pub untried_has : (p : ProblemValue) (end s : StateValue) (level o : ℕ) → has (left_above p level s) o ≡ true
    → has (untried p end level s) o ≡ is_before_end p end (take level (choices s)) o
untried_has p end s level o h =
    ap (λ xs. has xs o) (sym (untried_left p end s level)) ∙ has_kept (is_before_end p end (take level (choices s))) (left_above p level s) o
    ∙ rw h (and-true (is_before_end p end (take level (choices s)) o))

-- its cut is a state of the search
pub one_left_fits : (p : ProblemValue) (s : StateValue) (level o : ℕ) → Fits p s → has (left_above p level s) o ≡ true → Fits p (at X5 (take level (choices s)) (At o))
one_left_fits p s level o f h = look (drop level (choices s)) refl h
  where
    look : (rest : List ℕ) → drop level (choices s) ≡ rest → has (left_after p (take level (choices s)) rest) o ≡ true → Fits p (at X5 (take level (choices s)) (At o))
    look [] e h = absurd (cc)
    look (c ∷ rest) e h =
        let b = later_one p s (take level (choices s)) c o (chosen_is p s level c rest f e) h in
        rw (cut_is (take level (choices s)) o) at (cut_fits p (take level (choices s) ++ o ∷ []) b.cut)

-- each option left above a choice makes a cut
pub left_fit : (p : ProblemValue) (s : StateValue) (level : ℕ) → Fits p s → All (λ k. Fits p (at X5 (take level (choices s)) (At k))) (left_above p level s)
left_fit p s level f = all_members _ (left_above p level s) (λ k h. one_left_fits p s level k f h)

-- where something is left there is a choice
pub left_some : (p : ProblemValue) (s : StateValue) (level : ℕ) (xs : List ℕ) → xs ≡ left_above p level s → (length xs ≡ 0 → ⊥) → level < length (choices s)
left_some p s level xs e h = step (cases_lt level (length (choices s)))
  where
    step : (level < length (choices s)) ⊎ (length (choices s) ≤ level) → level < length (choices s)
    step (inl l) = l
    step (inr l) = let d : xs ≡ [] = e ∙ ap (left_after p (take level (choices s))) (drop_all level (choices s) l) in absurd (h (ap (length {A = ℕ}) d))

-- what a test for an empty list says of what is left
pub left_unless : (p : ProblemValue) (s : StateValue) (level : ℕ) (xs : List ℕ) → xs ≡ left_above p level s → (empty : Bool) → empty ≡ (length xs == 0) → empty ≡ false → level < length (choices s)
left_unless p s level [] e empty is not = absurd (cc)
left_unless p s level (x ∷ xs) e empty is not = left_some p s level (x ∷ xs) e (λ none. absurd (cc))

pub none_untried : (p : ProblemValue) (end s : StateValue) (level : ℕ) (xs : List ℕ) → xs ≡ left_above p level s → (empty : Bool) → empty ≡ (length xs == 0) → empty ≡ true → untried p end level s ≡ []
none_untried p end s level xs e empty is holds =
    let nothing : xs ≡ [] = nil_from_length xs (eqb-true (length xs) 0 (sym is ∙ holds)) in
    let u = untried_left p end s level in
    sym (rw (← e, nothing) at u)

-- the test of a cut
pub cut_tested : (p : ProblemValue) (end : StateValue) (q : List ℕ) (o : ℕ) (test : Bool) → Fits p (at X5 q (At o)) → Fits p end → IsTrue test ↔ ComesBefore p (at X5 q (At o)) end → test ≡ is_before_end p end q o
cut_tested p end q o test f g t =
    let u = test_is_order p (at X5 q (At o)) end f g in
    both_ways test (comes_before p (at X5 q (At o)) end) (λ h. u.1 (t.0 h)) (λ h. t.1 (u.0 h)) ∙ ap (λ s. comes_before p s end) (sym (cut_is q o))

pub covered_upto : (p : ProblemValue) (path : List ℕ) (n : ℕ) → length (covered_by p (take n path)) ≤ length (covered_by p path)
covered_upto p path n = subst (λ q. length (covered_by p (take n path)) ≤ length (covered_by p q)) (take-append-drop n path) (covered_part p (take n path) (drop n path))

pub level_known : (p : ProblemValue) (s : StateValue) (level : ℕ) → IsProblem p → Fits p s → level < length (choices s) → (o : ℕ) × IsAtLevel p s level o (item_after p (take level (choices s)))
level_known p s level sound f l = (get_or (choices s) level 0, at_level p s level (get_or (choices s) level 0) sound f (sym (slice_get-get_or (choices s) level 0 l)))
