-- The block of the covered items stands for them, and uncovering the last one gives the block before.
use Rattle.std.proofs.Common.{◌≡◌, ℕ, inl, ◌==◌, nat_lt, nat_le, Bool, true, not, ◌&&◌, List, [], ◌∷◌, ◌++◌, length, filter, map, reverse, refl, sym, ap, ◌∙◌, subst, arith, append_assoc, append-nil}
use mathlib.Core.List.{reverse-cons}
use Rattle.std.specs.List.{before_first}
use Rattle.std.proofs.lemmas.Bool.{and_from, lt-ltb, le-leb}
use Rattle.shared_words.specs.Lists.{has, numbers}
use Rattle.cover_problem.specs.Problem.{ProblemValue, IsProblem, option_at}
use Rattle.cover_problem.specs.Covering.{active, remaining, is_remaining, list_of}
use Rattle.cover_problem.specs.Coverable.{IsUncovered}
use Rattle.cover_problem.specs.Table.{IsCoveredList}
use Rattle.cover_problem.proofs.MemberLemmas.{filter_agree_on}
use Rattle.cover_problem.proofs.NumberLemmas.{has_numbers_in}
use Rattle.cover_problem.proofs.CoveredLemmas.{covered_middle}
use Rattle.cover_links.specs.declared.entry.TableEntry.{TableEntry}
use Rattle.cover_links.specs.Hiding.{item_covered, item_uncovered, all_covered}
use Rattle.cover_links.specs.Fresh.{fresh}
use Rattle.cover_links.specs.Layout.{node_index}
use Rattle.cover_links.specs.Ring.{IsRing}
use Rattle.cover_links.specs.StandsFor.{IsListWalk, block_of, BlockStands, UncoverRestores}
use Rattle.cover_links.proofs.HidingLemmas.{Stands, down_at, up_at, left_at, right_at}
use Rattle.cover_links.proofs.ListWalk.{IsChain, chain_from}
use Rattle.cover_links.proofs.Covered.{shown_of, active_of, active_is}
use Rattle.cover_links.proofs.CoverStep.{CoverDone, cover_done}
use Rattle.cover_links.proofs.BuiltLemmas.{fresh_stands}

-- ---- the block of the covered items

covered_stands : (p : ProblemValue) → IsProblem p → (c more : List ℕ) (es : List TableEntry) → IsCoveredList p (c ++ more) → Stands p (shown_of p c) (active_of p c) es
    → Stands p (shown_of p (c ++ more)) (active_of p (c ++ more)) (all_covered es more)
covered_stands p problem c [] es a s = subst (λ d. Stands p (shown_of p d) (active_of p d) es) (sym (append-nil c)) s
covered_stands p problem c (i ∷ more) es a s =
    let d = cover_done p c i es problem (covered_middle p c i more a) s in
    let same = append_assoc c (i ∷ []) more in
    subst (λ d. Stands p (shown_of p d) (active_of p d) (all_covered (item_covered es i) more)) same (covered_stands p problem (c ++ i ∷ []) more (item_covered es i) (subst (IsCoveredList p) (sym same) a) d.stands)

pub links_stand : (p : ProblemValue) (c : List ℕ) → IsProblem p → IsCoveredList p c → Stands p (shown_of p c) (active_of p c) (block_of p c)
unfolding block_of
links_stand p c problem a = covered_stands p problem [] c (fresh p) a (fresh_stands p problem)

covered_push : (es : List TableEntry) (c : List ℕ) (i : ℕ) → all_covered es (c ++ i ∷ []) ≡ item_covered (all_covered es c) i
covered_push es [] i = refl
covered_push es (j ∷ c) i = covered_push (item_covered es j) c i

pub block_push : (p : ProblemValue) (c : List ℕ) (i : ℕ) → block_of p (c ++ i ∷ []) ≡ item_covered (block_of p c) i
unfolding block_of
block_push p c i = covered_push (fresh p) c i

pub block_none : (p : ProblemValue) → block_of p [] ≡ fresh p
unfolding block_of
block_none p = refl

pub step_done : (p : ProblemValue) (c : List ℕ) (i : ℕ) → IsProblem p → IsCoveredList p c → IsUncovered p c i → CoverDone p c i (block_of p c)
step_done p c i problem a u = cover_done p c i (block_of p c) problem u (links_stand p c problem a)

pub uncover_restores : UncoverRestores
uncover_restores p c i problem a u = ap (λ es. item_uncovered es i) (block_push p c i) ∙ (step_done p c i problem a u).back

-- ---- the lists of the definitions

pub shown_list : (p : ProblemValue) (c : List ℕ) (j : ℕ) → filter (shown_of p c j) (numbers (length p.options) 1) ≡ list_of p c j
unfolding shown_of list_of remaining
shown_list p c j =
    filter_agree_on (λ k. (nat_lt 0 k && nat_le k (length p.options)) && is_remaining (before_first (λ x. x == j) c) j (option_at p k)) (λ k. is_remaining (before_first (λ x. x == j) c) j (option_at p k)) (numbers (length p.options) 1)
    (λ k h. let r = has_numbers_in (length p.options) 1 k h in
    let f : (nat_lt 0 k && nat_le k (length p.options)) ≡ true = and_from (nat_lt 0 k) (nat_le k (length p.options)) (lt-ltb 0 k (omega arith)) (le-leb k (length p.options) (omega arith)) in
    ap (λ b. b && is_remaining (before_first (λ x. x == j) c) j (option_at p k)) f)

pub active_list : (p : ProblemValue) (c : List ℕ) → filter (active_of p c) (numbers p.primary 1) ≡ active p c
unfolding active_of active
active_list p c =
    filter_agree_on (λ i. (nat_lt 0 i && nat_le i p.primary) && not (has c i)) (λ i. not (has c i)) (numbers p.primary 1)
    (λ i h. let r = has_numbers_in p.primary 1 i h in
    let f : (nat_lt 0 i && nat_le i p.primary) ≡ true = and_from (nat_lt 0 i) (nat_le i p.primary) (lt-ltb 0 i (omega arith)) (le-leb i p.primary (omega arith)) in
    ap (λ b. b && not (has c i)) f)

-- ---- walks

walk_forth : (t : ℕ → Bool) (at next prev : ℕ → ℕ) → IsRing t at next prev → (rs : List ℕ) (x : ℕ) → IsChain t x rs → IsListWalk next (at x) (map at rs) (at 0)
walk_forth t at next prev r [] x c = (r x 0 c).0
walk_forth t at next prev r (k ∷ rs) x c = ((r x k c.0).0, walk_forth t at next prev r rs k c.1)

walk_more : (link : ℕ → ℕ) (xs : List ℕ) (a y b : ℕ) → IsListWalk link a xs y → link y ≡ b → IsListWalk link a (xs ++ y ∷ []) b
walk_more link [] a y b w e = (w, e)
walk_more link (x ∷ xs) a y b w e = (w.0, walk_more link xs x y b w.1 e)

reverse_first : (x : ℕ) (xs : List ℕ) → reverse (x ∷ xs) ≡ reverse xs ++ x ∷ []
reverse_first x xs = reverse-cons x xs

walk_back : (t : ℕ → Bool) (at next prev : ℕ → ℕ) → IsRing t at next prev → (rs : List ℕ) (x : ℕ) → IsChain t x rs → IsListWalk prev (at 0) (reverse (map at rs)) (at x)
walk_back t at next prev r [] x c = (r x 0 c).1
walk_back t at next prev r (k ∷ rs) x c =
    subst (λ l. IsListWalk prev (at 0) l (at x)) (sym (reverse_first (at k) (map at rs))) (walk_more prev (reverse (map at rs)) (at 0) (at k) (at x) (walk_back t at next prev r rs k c.1) (r x k c.0).1)

same_map : (xs : List ℕ) → map (λ x. x) xs ≡ xs
same_map [] = refl
same_map (x ∷ xs) = ap (λ l. x ∷ l) (same_map xs)

pub block_stands : BlockStands
block_stands p c problem a =
    let s = links_stand p c problem a in
    let row : IsChain (active_of p c) 0 (active p c) = subst (λ l. IsChain (active_of p c) 0 l) (active_list p c)
    (chain_from (active_of p c) p.primary (λ z h. let q = active_is p c z h in (q.0, q.1)) p.primary 1 0 (omega arith) (inl refl) (omega arith) (λ z h l. l)) in
    let column : (j : ℕ) → IsChain (shown_of p c j) 0 (list_of p c j) = λ j. subst (λ l. IsChain (shown_of p c j) 0 l) (shown_list p c j)
    (chain_from (shown_of p c j) (length p.options) (λ z h. let q = s.shown_are j z h in (q.some, q.within)) (length p.options) 1 0 (omega arith) (inl refl) (omega arith) (λ z h l. l)) in
    record {
      items = subst (λ l. IsListWalk (right_at (block_of p c)) 0 l 0) (same_map (active p c)) (walk_forth (active_of p c) (λ i. i) (right_at (block_of p c)) (left_at (block_of p c)) s.row (active p c) 0 row);
      items_back = subst (λ l. IsListWalk (left_at (block_of p c)) 0 (reverse l) 0) (same_map (active p c)) (walk_back (active_of p c) (λ i. i) (right_at (block_of p c)) (left_at (block_of p c)) s.row (active p c) 0 row);
      nodes = λ j pos le. walk_forth (shown_of p c j) (node_index p j) (down_at (block_of p c)) (up_at (block_of p c)) (s.rings j pos le) (list_of p c j) 0 (column j);
      nodes_back = λ j pos le. walk_back (shown_of p c j) (node_index p j) (down_at (block_of p c)) (up_at (block_of p c)) (s.rings j pos le) (list_of p c j) 0 (column j);
      lengths = λ j pos le. s.counts j pos le ∙ ap length (shown_list p c j);
    }
