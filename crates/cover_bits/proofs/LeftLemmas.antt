-- The options left once more items are covered.
use Rattle.std.proofs.Common.{◌≡◌, ℕ, ◌+◌, ◌≤◌, ◌==◌, nat_lt, Bool, true, false, not, ◌&&◌, ◌||◌, List, [], ◌∷◌, ◌++◌, length, take, drop, refl, sym, ap, ap₂, ◌∙◌, append_assoc, append-nil}
use Rattle.std.specs.List.{list_any, list_all}
use Rattle.std.proofs.lemmas.Bool.{and_parts}
use Rattle.std.proofs.Math.Bool.{or-true}
use Rattle.std.proofs.lemmas.List.{take-append-drop, take-take}
use Rattle.std.proofs.lemmas.List.Folds.{list_all-append}
use Rattle.shared_words.specs.Lists.{has}
use Rattle.cover_problem.specs.Problem.{ProblemValue, option_at, is_item}
use Rattle.cover_problem.proofs.MemberLemmas.{has-append, nat_eq_sym}
use Rattle.cover_bits.specs.declared.sets.Part.{Part}
use Rattle.cover_bits.specs.Bits.{is_left, AreLeft, AreLeftBut}
use Rattle.cover_bits.proofs.BitLemmas.{and-yes}

any_push : (c option : List ℕ) (i : ℕ) → list_any (has (c ++ i ∷ [])) option ≡ (list_any (has c) option || has option i)
any_push c [] i = refl
any_push c (x ∷ xs) i = ap₂ (λ a b. a || b) (has-append c (i ∷ []) x) (any_push c xs i) ∙ by (has c x) (i == x) (x == i) (nat_eq_sym i x) (list_any (has c) xs) (has xs i)
  where
    by : (a b d : Bool) → b ≡ d → (e f : Bool) → ((a || (b || false)) || (e || f)) ≡ ((a || e) || (d || f))
    by true b d q e f = refl
    by false true d q e f = rw (sym q) (sym (or-true e))
    by false false d q e f = rw (sym q) refl

pub left_push : (p : ProblemValue) (c : List ℕ) (i k : ℕ) → is_left p (c ++ i ∷ []) k ≡ (is_left p c k && not (has (option_at p (k + 1)) i))
left_push p c i k = ap (λ b. nat_lt k (length p.options) && not b) (any_push c (option_at p (k + 1)) i) ∙ by (nat_lt k (length p.options)) (list_any (has c) (option_at p (k + 1))) (has (option_at p (k + 1)) i)
  where
    by : (a b d : Bool) → (a && not (b || d)) ≡ ((a && not b) && not d)
    by true true d = refl
    by true false d = refl
    by false b d = refl

-- and once several are
pub left_more : (p : ProblemValue) (c more : List ℕ) (k : ℕ) → (is_left p c k && not (list_any (has (option_at p (k + 1))) more)) ≡ is_left p (c ++ more) k
left_more p c [] k = and-yes (is_left p c k) ∙ ap (λ x. is_left p x k) (sym (append-nil c))
left_more p c (i ∷ more) k =
    by (is_left p c k) (has (option_at p (k + 1)) i) (list_any (has (option_at p (k + 1))) more)
    ∙ ap (λ x. x && not (list_any (has (option_at p (k + 1))) more)) (sym (left_push p c i k))
    ∙ left_more p (c ++ i ∷ []) more k ∙ ap (λ x. is_left p x k) (append_assoc c (i ∷ []) more)
  where
    by : (a b d : Bool) → (a && not (b || d)) ≡ ((a && not b) && not d)
    by true true d = refl
    by true false d = refl
    by false b d = refl

-- what was left with the first b covered, for d that are
pub left_but : (p : ProblemValue) (c : List ℕ) (words b d : ℕ) (set : List Part) → b ≤ d → list_all (is_item (length p.names)) c ≡ true → AreLeft p (take b c) words set → AreLeftBut p (take d c) words set (drop b (take d c))
left_but p c words b d set le items left = record {
  placed = left.placed;
  are = λ k. ap (λ x. x && not (list_any (has (option_at p (k + 1))) (drop b (take d c)))) (left.are k)
      ∙ left_more p (take b c) (drop b (take d c)) k
      ∙ ap (λ x. is_left p (x ++ drop b (take d c)) k) (sym (take-take b d c le)) ∙ ap (λ x. is_left p x k) (take-append-drop b (take d c));
  items = (and_parts (list_all (is_item (length p.names)) (take b (take d c))) (list_all (is_item (length p.names)) (drop b (take d c))) (sym (list_all-append (is_item (length p.names)) (take b (take d c)) (drop b (take d c))) ∙ ap (list_all (is_item (length p.names))) (take-append-drop b (take d c)) ∙ front)).1;
}
  where
    front : list_all (is_item (length p.names)) (take d c) ≡ true
    front = (and_parts (list_all (is_item (length p.names)) (take d c)) (list_all (is_item (length p.names)) (drop d c)) (sym (list_all-append (is_item (length p.names)) (take d c) (drop d c)) ∙ ap (list_all (is_item (length p.names))) (take-append-drop d c) ∙ items)).0
