-- Lemmas on the places of the options, and on a list that grows.
use Rattle.std.proofs.Common.{◌≡◌, ℕ, zero, suc, ◌+◌, ◌-◌, ◌<◌, ◌≤◌, ◌^◌, ◌⊎◌, inl, inr, ◌==◌, true, false, nat_le, ◌&&◌, List, [], ◌∷◌, ◌++◌, length, get_or, sym, ap, ◌∙◌, subst, arith}
use Rattle.std.proofs.lemmas.Bool.{and_parts, cases_eq, cases_lt, eq-eqb, ne_eqb, leb-true}
use Rattle.cover_problem.specs.Problem.{ProblemValue, IsProblem, option_at, size_of}
use Rattle.cover_problem.proofs.CoveredLemmas.{covered_none}
use Rattle.cover_problem.proofs.TableLemmas.{covered_short}
use Rattle.cover_links.specs.Layout.{node_index, spacer_of, start_of, place_after}
use Rattle.cover_links.proofs.LayoutLemmas.{IsNode, next_place, index_below, spacer_low, start_last, start_below}

pub size_small : (p : ProblemValue) → IsProblem p → size_of p ≤ 8388608
size_small p s = leb-true (size_of p) 8388608 (and_parts (nat_le (length p.names) 65535 && nat_le (length p.options) 262143) (nat_le (size_of p) 8388608) s.small).1

pub few_items : (p : ProblemValue) → IsProblem p → length p.names ≤ 65535
few_items p s = (covered_short p [] s (covered_none p)).1

-- a node stands among those of its option
pub place_between : (p : ProblemValue) (j k : ℕ) → IsNode p j k → (start_of p (k - 1) ≤ node_index p j k) × (node_index p j k < spacer_of p k)
place_between p j zero n = absurd (omega (arith, n.some))
place_between p j (suc k) n =
    let e : k ≡ suc k - 1 = omega arith in
    let b = index_below (option_at p (suc k)) j n.has_item in
    subst (λ m. (start_of p m ≤ node_index p j (suc k)) × (node_index p j (suc k) < spacer_of p (suc k))) e (omega arith, omega arith)

-- the place after it is that of a node of the option too
pub after_between : (start end x : ℕ) → start ≤ x → x < end → (start ≤ place_after start end x) × (place_after start end x < end)
after_between start end x a b = pick (cases_eq (x + 1) end)
  where
    pick : (x + 1 ≡ end) ⊎ (x + 1 ≡ end → ⊥) → (start ≤ place_after start end x) × (place_after start end x < end)
    pick (inl e) = let f : x + 1 == end ≡ true = eq-eqb (x + 1) end e in rw f (omega arith, omega arith)
    pick (inr ne) = let f : x + 1 == end ≡ false = ne_eqb (x + 1) end ne in rw f (omega arith, omega (arith, ne))

pub next_low : (p : ProblemValue) (j k : ℕ) → IsProblem p → IsNode p j k → next_place p j k < 2 ^ 28
next_low p j k problem n =
    let b = place_between p j k n in let a = (after_between (start_of p (k - 1)) (spacer_of p k) (node_index p j k) b.0 b.1).1 in
    let s = (spacer_low p k n.some n.within).1 in let z = size_small p problem in omega arith

pub start_most : (p : ProblemValue) (k : ℕ) → k ≤ length p.options → start_of p k ≤ size_of p
start_most p k le = pick (cases_lt k (length p.options))
  where
    pick : (k < length p.options) ⊎ (length p.options ≤ k) → start_of p k ≤ size_of p
    pick (inl l) = let a = start_below p k (length p.options) l (omega arith) in let b = start_last p in omega arith
    pick (inr l) = let e : k ≡ length p.options = omega arith in let a = ap (start_of p) e in let b = start_last p in omega arith

-- one more number at the end of a list whose n-th number is f n
pub pushed_each : (f : ℕ → ℕ) (xs : List ℕ) (n x : ℕ) → length xs ≡ n → ((i : ℕ) → i < n → get_or xs i 0 ≡ f i) → x ≡ f n → (i : ℕ) → i ≤ n → get_or (xs ++ x ∷ []) i 0 ≡ f i
pushed_each f [] n x l each e zero le = e ∙ ap f (sym l)
pushed_each f [] n x l each e (suc i) le = absurd (omega arith)
pushed_each f (y ∷ ys) zero x l each e i le = absurd (omega arith)
pushed_each f (y ∷ ys) (suc n) x l each e zero le = each 0 (omega arith)
pushed_each f (y ∷ ys) (suc n) x l each e (suc i) le = pushed_each (λ k. f (suc k)) ys n x (omega arith) (λ k h. each (suc k) (omega arith)) e i (omega arith)
