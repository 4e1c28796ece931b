-- The valid paths that leave no item active are the exact covers, each once.
use Rattle.std.proofs.Common.{◌≡◌, ℕ, zero, suc, ◌<◌, ◌≤◌, ◌⊎◌, Bool, true, false, not, List, [], ◌∷◌, ◌++◌, length, refl, sym, ap, ◌∙◌, inl, inr, arith, le_refl}
use Rattle.std.specs.List.{list_any}
use Rattle.std.proofs.lemmas.Bool.{false≢true, and_from, cases_Bool, cases_eq, cases_order, ne_eqb, not_from_false, both_ways, false_from_ne_true, true_from_ne_false}
use Rattle.shared_words.specs.Lists.{has}
use Rattle.cover_problem.specs.Problem.{ProblemValue, option_at}
use Rattle.cover_problem.specs.Covering.{active, choice}
use Rattle.cover_problem.specs.Path.{others, taken, IsChoice, covered_from, IsValidFrom}
use Rattle.cover_problem.specs.ExactCover.{IsExactCover}
use Rattle.cover_problem.proofs.MemberLemmas.{has_cases, has_here, has_later, has_append_cases, has_append_left, has_append_right, none_member, none_from, has_some}
use Rattle.cover_problem.proofs.PathLemmas.{IsTaken, choice_has, choice_falls, others_in, others_has, covered_from_push, valid_from_push}
use Rattle.cover_problem.proofs.ActiveLemmas.{active_in, active_from}
use Rattle.cover_problem.proofs.RemainingLemmas.{remaining_from, choice_active}

-- ---- one choice

pub taken_keeps : (p : ProblemValue) (c : List ℕ) (o i : ℕ) → has c i ≡ true → has (taken p c o) i ≡ true
unfolding taken
taken_keeps p c o i h = has_append_left c (choice p c ∷ others (choice p c) (option_at p o)) i h

pub taken_covers : (p : ProblemValue) (c : List ℕ) (o i : ℕ) → IsChoice p c o → has (option_at p o) i ≡ true → has (taken p c o) i ≡ true
unfolding taken
taken_covers p c o i h m = has_append_right c (choice p c ∷ others (choice p c) (option_at p o)) i (others_has (choice p c) (option_at p o) i m (choice_has p c o h).item)

pub taken_cases : (p : ProblemValue) (c : List ℕ) (o i : ℕ) → IsChoice p c o → has (taken p c o) i ≡ true → (has c i ≡ true) ⊎ (has (option_at p o) i ≡ true)
unfolding taken
taken_cases p c o i h m = step (has_append_cases c (choice p c ∷ others (choice p c) (option_at p o)) i m)
  where
    within : (choice p c ≡ i) ⊎ (has (others (choice p c) (option_at p o)) i ≡ true) → has (option_at p o) i ≡ true
    within (inl e) = rw e at ((choice_has p c o h).item)
    within (inr n) = others_in (choice p c) (option_at p o) i (choice_has p c o h).item n

    step : (has c i ≡ true) ⊎ (has (choice p c ∷ others (choice p c) (option_at p o)) i ≡ true) → (has c i ≡ true) ⊎ (has (option_at p o) i ≡ true)
    step (inl a) = inl a
    step (inr b) = inr (within (has_cases (choice p c) (others (choice p c) (option_at p o)) i b))

-- ---- a path

pub valid_split : (p : ProblemValue) (c path more : List ℕ) → IsValidFrom p c (path ++ more) → IsValidFrom p c path × IsValidFrom p (covered_from p c path) more
valid_split p c [] more v = (tt, v)
valid_split p c (o ∷ path) more v = let r = valid_split p (taken p c o) path more v.1 in ((v.0, r.0), r.1)

pub covered_join : (p : ProblemValue) (c path more : List ℕ) → covered_from p c (path ++ more) ≡ covered_from p (covered_from p c path) more
covered_join p c [] more = refl
covered_join p c (o ∷ path) more = covered_join p (taken p c o) path more

pub path_range : (p : ProblemValue) (c path : List ℕ) (o : ℕ) → IsValidFrom p c path → has path o ≡ true → (0 < o) × (o ≤ length p.options)
path_range p c [] o v h = absurd (false≢true h)
path_range p c (x ∷ path) o v h = step (path_range p (taken p c x) path o v.1) (has_cases x path o h)
  where
    step : (has path o ≡ true → (0 < o) × (o ≤ length p.options)) → (x ≡ o) ⊎ (has path o ≡ true) → (0 < o) × (o ≤ length p.options)
    step ih (inl e) = let t = choice_has p c x v.0 in rw e at (let r : (0 < x) × (x ≤ length p.options) = (t.some, t.within) in r)
    step ih (inr i) = ih i

pub covered_keeps : (p : ProblemValue) (c path : List ℕ) (i : ℕ) → has c i ≡ true → has (covered_from p c path) i ≡ true
covered_keeps p c [] i h = h
covered_keeps p c (o ∷ path) i h = covered_keeps p (taken p c o) path i (taken_keeps p c o i h)

-- no option of the path has an item that was covered before it
pub path_apart : (p : ProblemValue) (c path : List ℕ) (b i : ℕ) → IsValidFrom p c path → has path b ≡ true → has c i ≡ true → has (option_at p b) i ≡ false
path_apart p c [] b i v h m = absurd (false≢true h)
path_apart p c (x ∷ path) b i v h m = step (λ n. path_apart p (taken p c x) path b i v.1 n (taken_keeps p c x i m)) (has_cases x path b h)
  where
    here : has (option_at p x) i ≡ false
    here = false_from_ne_true (has (option_at p x) i) (λ n. both_ways (has c i) (none_member (has c) (option_at p x) i (choice_has p c x v.0).free n) m)

    step : (has path b ≡ true → has (option_at p b) i ≡ false) → (x ≡ b) ⊎ (has path b ≡ true) → has (option_at p b) i ≡ false
    step ih (inl e) = rw e at here
    step ih (inr n) = ih n

-- what a path covers is what was covered before, and its options' items
pub path_covers : (p : ProblemValue) (c path : List ℕ) (i : ℕ) → IsValidFrom p c path → has (covered_from p c path) i ≡ true → (has c i ≡ true) ⊎ ((o : ℕ) × (has path o ≡ true) × (has (option_at p o) i ≡ true))
path_covers p c [] i v h = inl h
path_covers p c (x ∷ path) i v h = step (path_covers p (taken p c x) path i v.1 h)
  where
    found : (has c i ≡ true) ⊎ (has (option_at p x) i ≡ true) → (has c i ≡ true) ⊎ ((o : ℕ) × (has (x ∷ path) o ≡ true) × (has (option_at p o) i ≡ true))
    found (inl a) = inl a
    found (inr b) = inr (x, has_here x path, b)

    step : (has (taken p c x) i ≡ true) ⊎ ((o : ℕ) × (has path o ≡ true) × (has (option_at p o) i ≡ true)) → (has c i ≡ true) ⊎ ((o : ℕ) × (has (x ∷ path) o ≡ true) × (has (option_at p o) i ≡ true))
    step (inl a) = found (taken_cases p c x i v.0 a)
    step (inr b) = inr (b.0, has_later x path b.0 b.1, b.2)

pub path_item : (p : ProblemValue) (c path : List ℕ) (o i : ℕ) → IsValidFrom p c path → has path o ≡ true → has (option_at p o) i ≡ true → has (covered_from p c path) i ≡ true
path_item p c [] o i v h m = absurd (false≢true h)
path_item p c (x ∷ path) o i v h m = step (λ n. path_item p (taken p c x) path o i v.1 n m) (has_cases x path o h)
  where
    step : (has path o ≡ true → has (covered_from p (taken p c x) path) i ≡ true) → (x ≡ o) ⊎ (has path o ≡ true) → has (covered_from p (taken p c x) path) i ≡ true
    step ih (inl e) = covered_keeps p (taken p c x) path i (taken_covers p c x i v.0 (rw e m))
    step ih (inr n) = ih n

-- no two options of a path share an item
pub path_once : (p : ProblemValue) (c path : List ℕ) (i a b : ℕ) → IsValidFrom p c path → has path a ≡ true → has path b ≡ true → has (option_at p a) i ≡ true → has (option_at p b) i ≡ true → a ≡ b
path_once p c [] i a b v h k m n = absurd (false≢true h)
path_once p c (x ∷ path) i a b v h k m n = step (λ s t. path_once p (taken p c x) path i a b v.1 s t m n) (has_cases x path a h) (has_cases x path b k)
  where
    apart : (y : ℕ) → has path y ≡ true → has (option_at p x) i ≡ true → has (option_at p y) i ≡ true → ⊥
    apart y s t u = both_ways (has (option_at p y) i) (path_apart p (taken p c x) path y i v.1 s (taken_covers p c x i v.0 t)) u

    step : (has path a ≡ true → has path b ≡ true → a ≡ b) → (x ≡ a) ⊎ (has path a ≡ true) → (x ≡ b) ⊎ (has path b ≡ true) → a ≡ b
    step ih (inl e) (inl f) = sym e ∙ f
    step ih (inl e) (inr t) = absurd (apart b t (rw e m) n)
    step ih (inr s) (inl f) = absurd (apart a s (rw f n) m)
    step ih (inr s) (inr t) = ih s t

-- an option is chosen once on a path
pub path_new : (p : ProblemValue) (c path : List ℕ) (o : ℕ) → IsChoice p c o → IsValidFrom p (taken p c o) path → has path o ≡ false
path_new p c path o h v = false_from_ne_true (has path o) (λ m. both_ways (has (option_at p o) (choice p c)) (path_apart p (taken p c o) path o (choice p c) v m (taken_covers p c o (choice p c) h (choice_has p c o h).item)) (choice_has p c o h).item)

-- each option of a path has an item that was active
pub path_useful : (p : ProblemValue) (c path : List ℕ) (o : ℕ) → IsValidFrom p c path → has path o ≡ true → (i : ℕ) × (0 < i) × (i ≤ p.primary) × (has (option_at p o) i ≡ true)
path_useful p c [] o v h = absurd (false≢true h)
path_useful p c (x ∷ path) o v h = step (path_useful p (taken p c x) path o v.1) (has_cases x path o h)
  where
    here : IsTaken p c x → (i : ℕ) × (0 < i) × (i ≤ p.primary) × (has (option_at p x) i ≡ true)
    here t = let r = active_in p c (choice p c) t.chosen in (choice p c, r.1, r.2, t.item)

    step : (has path o ≡ true → (i : ℕ) × (0 < i) × (i ≤ p.primary) × (has (option_at p o) i ≡ true)) → (x ≡ o) ⊎ (has path o ≡ true) → (i : ℕ) × (0 < i) × (i ≤ p.primary) × (has (option_at p o) i ≡ true)
    step ih (inl e) = rw e at (here (choice_has p c x v.0))
    step ih (inr n) = ih n

-- where no item is active, each primary item is covered
pub none_active : (p : ProblemValue) (c : List ℕ) (i : ℕ) → length (active p c) ≡ 0 → 0 < i → i ≤ p.primary → has c i ≡ true
none_active p c i e a b = true_from_ne_false (has c i) (λ n. let l = has_some (active p c) i (active_from p c i n a b) in omega arith)

-- ---- paths and covers

pub path_is_cover : (p : ProblemValue) (path : List ℕ) → IsValidFrom p [] path → length (active p (covered_from p [] path)) ≡ 0 → IsExactCover p (has path)
path_is_cover p path v e = record {
  options = λ o h. path_range p [] path o v h;
  covers = λ i a b. found i (path_covers p [] path i v (none_active p (covered_from p [] path) i e a b));
  once = λ i a b h k m n. path_once p [] path i a b v h k m n;
  useful = λ o h. path_useful p [] path o v h;
}
  where
    found : (i : ℕ) → (has [] i ≡ true) ⊎ ((o : ℕ) × (has path o ≡ true) × (has (option_at p o) i ≡ true)) → (o : ℕ) × (has path o ≡ true) × (has (option_at p o) i ≡ true)
    found i (inl a) = absurd (false≢true a)
    found i (inr b) = b

-- a valid path of options of the set, with no item active after it
pub record IsPathOf (p : ProblemValue) (set : ℕ → Bool) (path : List ℕ) : Type 0 where
  pub valid : IsValidFrom p [] path
  pub within : (o : ℕ) → has path o ≡ true → set o ≡ true

-- the option of the set that has the chosen item is left for it
next_option : (p : ProblemValue) (set : ℕ → Bool) → IsExactCover p set → (path : List ℕ) → IsPathOf p set path → 0 < length (active p (covered_from p [] path)) → (o : ℕ) × IsChoice p (covered_from p [] path) o × (set o ≡ true)
next_option p set s path is l = found (s.covers (choice p (covered_from p [] path)) (active_in p (covered_from p [] path) (choice p (covered_from p [] path)) chosen).1 (active_in p (covered_from p [] path) (choice p (covered_from p [] path)) chosen).2)
  where
    chosen : has (active p (covered_from p [] path)) (choice p (covered_from p [] path)) ≡ true
    chosen = choice_active p (covered_from p [] path) l

    clash : (o x : ℕ) → set o ≡ true → has (option_at p o) (choice p (covered_from p [] path)) ≡ true → has (option_at p o) x ≡ true → (has [] x ≡ true) ⊎ ((b : ℕ) × (has path b ≡ true) × (has (option_at p b) x ≡ true)) → ⊥
    clash o x t m n (inl a) = false≢true a
    clash o x t m n (inr b) =
        let e : o ≡ b.0 = s.once x o b.0 t (is.within b.0 b.1) n b.2 in
        both_ways (has (covered_from p [] path) (choice p (covered_from p [] path))) (active_in p (covered_from p [] path) (choice p (covered_from p [] path)) chosen).0 (path_item p [] path b.0 (choice p (covered_from p [] path)) is.valid b.1 (rw e at m))

    found : ((o : ℕ) × (set o ≡ true) × (has (option_at p o) (choice p (covered_from p [] path)) ≡ true)) → (o : ℕ) × IsChoice p (covered_from p [] path) o × (set o ≡ true)
    found r =
        let free = none_from (has (covered_from p [] path)) (option_at p r.0) (λ x n. false_from_ne_true (has (covered_from p [] path) x) (λ k. clash r.0 x r.1 r.2 n (path_covers p [] path x is.valid k))) in
        let range = s.options r.0 r.1 in
        (r.0, record { active = l; left = remaining_from p (covered_from p [] path) (choice p (covered_from p [] path)) r.0 (and_from (has (option_at p r.0) (choice p (covered_from p [] path))) (not (list_any (has (covered_from p [] path)) (option_at p r.0))) r.2 (not_from_false (list_any (has (covered_from p [] path)) (option_at p r.0)) free)) range.0 range.1 }, r.1)

grow : (p : ProblemValue) (set : ℕ → Bool) → IsExactCover p set → (fuel : ℕ) (path : List ℕ) → IsPathOf p set path → length (active p (covered_from p [] path)) ≤ fuel → (r : List ℕ) × IsPathOf p set r × (length (active p (covered_from p [] r)) ≡ 0)
grow p set s zero path is l = (path, is, omega arith)
grow p set s (suc fuel) path is l = step (λ o. grow p set s fuel (path ++ o ∷ [])) (cases_order (length (active p (covered_from p [] path))) 0)
  where
    member : (o : ℕ) → set o ≡ true → (x : ℕ) → (has path x ≡ true) ⊎ (has (o ∷ []) x ≡ true) → set x ≡ true
    member o t x (inl a) = is.within x a
    member o t x (inr b) = last (has_cases o [] x b)
      where
        last : (o ≡ x) ⊎ (has [] x ≡ true) → set x ≡ true
        last (inl e) = rw e at t
        last (inr n) = absurd (false≢true n)

    longer : ((o : ℕ) → IsPathOf p set (path ++ o ∷ []) → length (active p (covered_from p [] (path ++ o ∷ []))) ≤ fuel → (r : List ℕ) × IsPathOf p set r × (length (active p (covered_from p [] r)) ≡ 0)) → ((o : ℕ) × IsChoice p (covered_from p [] path) o × (set o ≡ true)) → (r : List ℕ) × IsPathOf p set r × (length (active p (covered_from p [] r)) ≡ 0)
    longer ih r =
        let falls = choice_falls p (covered_from p [] path) r.0 r.1 in
        let e = ap (λ c. length (active p c)) (covered_from_push p [] path r.0) in
        ih r.0 (record { valid = valid_from_push p [] path r.0 is.valid r.1; within = λ x h. member r.0 r.2 x (has_append_cases path (r.0 ∷ []) x h) }) (omega arith)

    step : ((o : ℕ) → IsPathOf p set (path ++ o ∷ []) → length (active p (covered_from p [] (path ++ o ∷ []))) ≤ fuel → (r : List ℕ) × IsPathOf p set r × (length (active p (covered_from p [] r)) ≡ 0)) → (length (active p (covered_from p [] path)) ≡ 0) ⊎ ((length (active p (covered_from p [] path)) < 0) ⊎ (0 < length (active p (covered_from p [] path)))) → (r : List ℕ) × IsPathOf p set r × (length (active p (covered_from p [] r)) ≡ 0)
    step ih (inl e) = (path, is, e)
    step ih (inr (inl k)) = absurd (omega arith)
    step ih (inr (inr k)) = longer ih (next_option p set s path is k)

pub cover_is_path : (p : ProblemValue) (set : ℕ → Bool) → IsExactCover p set → (path : List ℕ) × IsValidFrom p [] path × (length (active p (covered_from p [] path)) ≡ 0) × ((o : ℕ) → has path o ≡ set o)
cover_is_path p set s = finish (grow p set s (length (active p [])) [] (record { valid = tt; within = λ o h. absurd (false≢true h) }) (le_refl (length (active p []))))
  where
    finish : ((r : List ℕ) × IsPathOf p set r × (length (active p (covered_from p [] r)) ≡ 0)) → (path : List ℕ) × IsValidFrom p [] path × (length (active p (covered_from p [] path)) ≡ 0) × ((o : ℕ) → has path o ≡ set o)
    finish r = (r.0, r.1.valid, r.2, λ o. same o (cases_Bool (has r.0 o)) (cases_Bool (set o)))
      where
        whole : (o : ℕ) → set o ≡ true → ((i : ℕ) × (0 < i) × (i ≤ p.primary) × (has (option_at p o) i ≡ true)) → has r.0 o ≡ true
        whole o t u = found (path_covers p [] r.0 u.0 r.1.valid (none_active p (covered_from p [] r.0) u.0 r.2 u.1 u.2))
          where
            found : (has [] u.0 ≡ true) ⊎ ((b : ℕ) × (has r.0 b ≡ true) × (has (option_at p b) u.0 ≡ true)) → has r.0 o ≡ true
            found (inl a) = absurd (false≢true a)
            found (inr b) = let e : o ≡ b.0 = s.once u.0 o b.0 t (r.1.within b.0 b.1) u.3 b.2 in rw e b.1

        same : (o : ℕ) → (has r.0 o ≡ true) ⊎ (has r.0 o ≡ false) → (set o ≡ true) ⊎ (set o ≡ false) → has r.0 o ≡ set o
        same o (inl a) (inl b) = a ∙ sym b
        same o (inl a) (inr b) = absurd (both_ways (set o) b (r.1.within o a))
        same o (inr a) (inl b) = absurd (both_ways (has r.0 o) a (whole o b (s.useful o b)))
        same o (inr a) (inr b) = a ∙ sym b

-- two paths of one set, with no item active after them, are one
pub path_of_cover : (p : ProblemValue) (c q r : List ℕ) → IsValidFrom p c q → IsValidFrom p c r → length (active p (covered_from p c q)) ≡ 0 → length (active p (covered_from p c r)) ≡ 0 → ((o : ℕ) → has q o ≡ has r o) → q ≡ r
path_of_cover p c [] [] v w a b e = refl
path_of_cover p c [] (y ∷ r) v w a b e = let k = w.0.active in absurd (omega arith)
path_of_cover p c (x ∷ q) [] v w a b e = let k = v.0.active in absurd (omega arith)
path_of_cover p c (x ∷ q) (y ∷ r) v w a b e = step (path_of_cover p (taken p c x) q r v.1) same
  where
    same : x ≡ y
    same = path_once p c (x ∷ q) (choice p c) x y v (has_here x q) (e y ∙ has_here y r) (choice_has p c x v.0).item (choice_has p c y w.0).item

    tails : has q x ≡ false → has r x ≡ false → (o : ℕ) → (x ≡ o) ⊎ (x ≡ o → ⊥) → has (x ∷ q) o ≡ has (x ∷ r) o → has q o ≡ has r o
    tails m n o (inl f) g = rw f at (m ∙ sym n)
    tails m n o (inr f) g = let h = ne_eqb x o f in rw h at g

    step : (IsValidFrom p (taken p c x) r → length (active p (covered_from p (taken p c x) q)) ≡ 0 → length (active p (covered_from p (taken p c x) r)) ≡ 0 → ((o : ℕ) → has q o ≡ has r o) → q ≡ r) → x ≡ y → x ∷ q ≡ y ∷ r
    step ih f =
        let w' : IsValidFrom p c (x ∷ r) = rw f w in
        let b' : length (active p (covered_from p c (x ∷ r))) ≡ 0 = rw f b in
        let e' : (o : ℕ) → has (x ∷ q) o ≡ has (x ∷ r) o = λ o. e o ∙ ap (λ (z : ℕ). has (z ∷ r) o) (sym f) in
        let g : q ≡ r = ih w'.1 a b' (λ o. tails (path_new p c q x v.0 v.1) (path_new p c r x w'.0 w'.1) o (cases_eq x o) (e' o)) in
        rw (f, g) refl
