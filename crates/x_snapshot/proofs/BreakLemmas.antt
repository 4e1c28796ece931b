-- Breakpoints of which none comes twice.
use Rattle.std.proofs.Common.{◌≡◌, ℕ, suc, ◌+◌, ◌<◌, Bool, true, false, not, cond, ◌&&◌, ◌||◌, List, [], ◌∷◌, ◌++◌, length, take, drop, get_or, refl, sym, ◌∙◌, ap, drop-cons}
use Rattle.std.specs.List.{list_any, list_all}
use Rattle.std.specs.Cmp.{nat_eq_equiv}
use Rattle.std.proofs.lemmas.Bool.{and_parts, and_from, or_parts, or_from, or_right, not-true, not_from_false}
use Rattle.std.proofs.lemmas.List.{take_more, take-append-drop}
use Rattle.std.proofs.lemmas.List.Folds.{list_any-append}
use Rattle.x_texts.specs.declared.breakpoint.Break.{Break}
use Rattle.x_texts.specs.declared.breakpoint.Break.TheVariants as at
use Rattle.x_texts.specs.contracts.breakpoint.BreakPartialEq.TheImpl.{eq-value}
use Rattle.cover_problem.specs.Problem.{ProblemValue}
use Rattle.x_texts.specs.Breaks.{is_break, is_same, are_new, are_breaks}

pub same_sym : (a b : Break) → is_same a b ≡ is_same b a
same_sym (at.Level m) (at.Level n) = nat_eq_equiv.symm m n
same_sym (at.Level m) (at.Option n) = refl
same_sym (at.Level m) (at.Item n) = refl
same_sym (at.Level m) at.Visit = refl
same_sym (at.Option m) (at.Level n) = refl
same_sym (at.Option m) (at.Option n) = nat_eq_equiv.symm m n
same_sym (at.Option m) (at.Item n) = refl
same_sym (at.Option m) at.Visit = refl
same_sym (at.Item m) (at.Level n) = refl
same_sym (at.Item m) (at.Option n) = refl
same_sym (at.Item m) (at.Item n) = nat_eq_equiv.symm m n
same_sym (at.Item m) at.Visit = refl
same_sym at.Visit (at.Level n) = refl
same_sym at.Visit (at.Option n) = refl
same_sym at.Visit (at.Item n) = refl
same_sym at.Visit at.Visit = refl

-- one more that isn't there yet
pub are_new_push : (bs : List Break) (b : Break) → are_new bs ≡ true → list_any (is_same b) bs ≡ false → are_new (bs ++ b ∷ []) ≡ true
are_new_push [] b n h = refl
are_new_push (x ∷ xs) b n h =
    let p = and_parts (not (list_any (is_same x) xs)) (are_new xs) n in
    let q = or_parts (is_same b x) (list_any (is_same b) xs) h in
    let r : list_any (is_same x) (xs ++ b ∷ []) ≡ false =
    list_any-append (is_same x) xs (b ∷ []) ∙ or_from _ _ (not-true _ p.0) (or_from _ _ (same_sym x b ∙ q.0) refl) in
    and_from _ _ (not_from_false _ r) (are_new_push xs b p.1 q.1)

any_there : (t : Break → Bool) (xs : List Break) (b : Break) (rest : List Break) → t b ≡ true → list_any t (xs ++ b ∷ rest) ≡ true
any_there t [] b rest h = rw h refl
any_there t (x ∷ xs) b rest h = or_right (t x) (list_any t (xs ++ b ∷ rest)) (any_there t xs b rest h)

and_false : (v w : Bool) → w ≡ false → (v && w) ≡ false
and_false true w h = h
and_false false w h = refl

not_new_step : (x b : Break) (xs rest : List Break) (v : Bool) → is_same b x ≡ v → (v || list_any (is_same b) xs) ≡ true → (list_any (is_same b) xs ≡ true → are_new (xs ++ b ∷ rest) ≡ false) → are_new (x ∷ (xs ++ b ∷ rest)) ≡ false
not_new_step x b xs rest true e h later =
    let there : list_any (is_same x) (xs ++ b ∷ rest) ≡ true = any_there (is_same x) xs b rest (same_sym x b ∙ e) in
    rw there refl
not_new_step x b xs rest false e h later = and_false (not (list_any (is_same x) (xs ++ b ∷ rest))) (are_new (xs ++ b ∷ rest)) (later h)

-- one that is there already
pub not_new : (front : List Break) (b : Break) (rest : List Break) → list_any (is_same b) front ≡ true → are_new (front ++ b ∷ rest) ≡ false
not_new [] b rest h = cc
not_new (x ∷ xs) b rest h = not_new_step x b xs rest (is_same b x) refl h (not_new xs b rest)

-- the derived test is the definition's
pub eq_is : (a b : Break) → eq-value.it a b ≡ is_same a b
eq_is (at.Level m) (at.Level n) = refl
eq_is (at.Level m) (at.Option n) = refl
eq_is (at.Level m) (at.Item n) = refl
eq_is (at.Level m) at.Visit = refl
eq_is (at.Option m) (at.Level n) = refl
eq_is (at.Option m) (at.Option n) = refl
eq_is (at.Option m) (at.Item n) = refl
eq_is (at.Option m) at.Visit = refl
eq_is (at.Item m) (at.Level n) = refl
eq_is (at.Item m) (at.Option n) = refl
eq_is (at.Item m) (at.Item n) = refl
eq_is (at.Item m) at.Visit = refl
eq_is at.Visit (at.Level n) = refl
eq_is at.Visit (at.Option n) = refl
eq_is at.Visit (at.Item n) = refl
eq_is at.Visit at.Visit = refl

pub any_same : (b : Break) (xs : List Break) → list_any (eq-value.it b) xs ≡ list_any (is_same b) xs
any_same b [] = refl
any_same b (x ∷ xs) = rw (eq_is b x, any_same b xs) refl

-- what a set says that compares by it, where it holds the first i of these
module _ (bs keys : List Break) (i : ℕ) (d : Break) (within : i < length bs) (are : keys ≡ take i bs) where
  pub taken_again : (p : ProblemValue) → list_any (eq-value.it (get_or bs i d)) keys ≡ true → are_breaks p bs ≡ false
  taken_again p h =
      let there : list_any (is_same (get_or bs i d)) (take i bs) ≡ true = sym (any_same (get_or bs i d) (take i bs)) ∙ ap (list_any (eq-value.it (get_or bs i d))) (sym are) ∙ h in
      let parts : take i bs ++ get_or bs i d ∷ drop (suc i) bs ≡ bs = ap (λ back. take i bs ++ back) (sym (drop-cons bs i d within)) ∙ take-append-drop i bs in
      and_false (list_all (is_break p) bs) (are_new bs) (ap are_new (sym parts) ∙ not_new (take i bs) (get_or bs i d) (drop (suc i) bs) there)

  module _ (new : list_any (eq-value.it (get_or bs i d)) keys ≡ false) where
    pub keys_taken : (more : List Break) → more ≡ cond (list_any (eq-value.it (get_or bs i d)) keys) keys (keys ++ get_or bs i d ∷ []) → more ≡ take (i + 1) bs
    keys_taken more h = h ∙ rw (new, are) (sym (take_more bs i d within))

    pub still_new : are_new (take i bs) ≡ true → are_new (take (i + 1) bs) ≡ true
    still_new so_far =
        let absent : list_any (is_same (get_or bs i d)) (take i bs) ≡ false = sym (any_same (get_or bs i d) (take i bs)) ∙ ap (list_any (eq-value.it (get_or bs i d))) (sym are) ∙ new in
        ap are_new (take_more bs i d within) ∙ are_new_push (take i bs) (get_or bs i d) so_far absent
