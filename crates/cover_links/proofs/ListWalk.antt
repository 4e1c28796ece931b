-- Hiding the options of an item's list, from the first one down, and the way back from the last one up.
use Rattle.std.proofs.Common.{◌≡◌, ℕ, zero, suc, ◌+◌, ◌<◌, ◌≤◌, ◌⊎◌, inl, inr, Bool, true, false, List, [], ◌∷◌, length, filter, refl, sym, ap, ◌∙◌, subst, arith}
use Rattle.std.proofs.lemmas.Bool.{cases_eq, cases_Bool, cases_lt, both_ways, false≢true}
use Rattle.shared_words.specs.Lists.{has, are_distinct, numbers}
use Rattle.cover_problem.specs.Problem.{ProblemValue, IsProblem, option_at}
use Rattle.cover_problem.proofs.MemberLemmas.{has_cases, has_here, has_later}
use Rattle.cover_links.specs.declared.entry.TableEntry.{TableEntry}
use Rattle.cover_links.specs.Hiding.{hidden, list_hidden, list_unhidden}
use Rattle.cover_links.specs.Safety.{CanHideList, CanUnhideList}
use Rattle.cover_links.specs.Ring.{Follows}
use Rattle.cover_links.specs.Layout.{node_index}
use Rattle.cover_links.proofs.LayoutLemmas.{IsNode}
use Rattle.cover_links.proofs.HidingLemmas.{Stands, down_at, up_at}
use Rattle.cover_links.proofs.RunLemmas.{option_gone, HideDone, hide_done, column_kept, option_stays, option_was}

-- the first of a list, or 0
abbrev pub first_of : List ℕ → ℕ
first_of [] = 0
first_of (k ∷ rs) = k

-- the last of a list, or x
abbrev pub last_from : ℕ → List ℕ → ℕ
last_from x [] = x
last_from x (k ∷ rs) = last_from k rs

-- from x on each is the one after the one before it, and after the last the ring closes
abbrev pub IsChain : (ℕ → Bool) → ℕ → List ℕ → Type 0
IsChain t x [] = Follows t x 0
IsChain t x (k ∷ rs) = Follows t x k × IsChain t k rs

pub chain_next : (t : ℕ → Bool) (x : ℕ) (rs : List ℕ) → IsChain t x rs → Follows t x (first_of rs)
chain_next t x [] c = c
chain_next t x (k ∷ rs) c = c.0

pub chain_last : (t : ℕ → Bool) (x : ℕ) (rs : List ℕ) → IsChain t x rs → Follows t (last_from x rs) 0
chain_last t x [] c = c
chain_last t x (k ∷ rs) c = chain_last t k rs c.1

-- the members from a on make a chain
pub chain_from : (t : ℕ → Bool) (m : ℕ) → ((z : ℕ) → t z ≡ true → (0 < z) × (z ≤ m)) → (n a x : ℕ) → a + n ≡ suc m → (x ≡ 0) ⊎ (t x ≡ true) → x < a → ((z : ℕ) → t z ≡ true → x < z → a ≤ z) → IsChain t x (filter t (numbers n a))
chain_from t m within zero a x e from lt least = record { from = from; to = inr (refl, λ z h. pick z h (cases_lt x z)) }
  where
    pick : (z : ℕ) → t z ≡ true → (x < z) ⊎ (z ≤ x) → z ≤ x
    pick z h (inl l) = let a = least z h l in let b = (within z h).1 in absurd (omega arith)
    pick z h (inr l) = l
chain_from t m within (suc n) a x e from lt least = step (chain_from t m within n (suc a)) (cases_Bool (t a))
  where
    past : t a ≡ false → (z : ℕ) → t z ≡ true → x < z → suc a ≤ z
    past f z h l = pick (cases_eq a z)
      where
        pick : (a ≡ z) ⊎ (a ≡ z → ⊥) → suc a ≤ z
        pick (inl g) = absurd (both_ways (t z) (subst (λ n. t n ≡ false) g f) h)
        pick (inr ne) = let r = least z h l in omega (arith, ne)

    step : ((y : ℕ) → suc a + n ≡ suc m → (y ≡ 0) ⊎ (t y ≡ true) → y < suc a → ((z : ℕ) → t z ≡ true → y < z → suc a ≤ z) → IsChain t y (filter t (numbers n (suc a)))) → (t a ≡ true) ⊎ (t a ≡ false) → IsChain t x (filter t (numbers (suc n) a))
    step ih (inl h) = rw h (record { from = from; to = inl (h, lt, least) }, ih a (omega arith) (inr h) (omega arith) (λ z g l. l))
    step ih (inr h) = rw h (ih x (omega arith) from (omega arith) (past h))

-- ---- the walk

-- shown, but for the other items of these options
abbrev pub list_gone : ProblemValue → ℕ → (ℕ → ℕ → Bool) → List ℕ → ℕ → ℕ → Bool
list_gone p i shown [] = shown
list_gone p i shown (k ∷ rs) = list_gone p i (option_gone p i shown k) rs

-- from the block es, where the walk stands at the place x of the item i's list and the options of rs come next
pub record ListDone (p : ProblemValue) (i : ℕ) (shown : ℕ → ℕ → Bool) (active : ℕ → Bool) (es : List TableEntry) (x : ℕ) (rs : List ℕ) : Type 0 where
  pub stands : Stands p shown active (list_hidden es (node_index p i (first_of rs)) (length rs))
  pub can : CanHideList es (node_index p i (first_of rs)) (length rs)
  pub back : (m : ℕ) → list_unhidden (list_hidden es (node_index p i (first_of rs)) (length rs)) (node_index p i (last_from x rs)) (length rs + m) ≡ list_unhidden es (node_index p i x) m
  pub back_can : (m : ℕ) → CanUnhideList es (node_index p i x) m → CanUnhideList (list_hidden es (node_index p i (first_of rs)) (length rs)) (node_index p i (last_from x rs)) (length rs + m)

-- one option, and the rest
module _ (p : ProblemValue) (active : ℕ → Bool) (problem : IsProblem p) (i : ℕ) (pos : 0 < i) (le : i ≤ length p.names) (shown : ℕ → ℕ → Bool) (es : List TableEntry) (s : Stands p shown active es)
    (k : ℕ) (rs : List ℕ) (x : ℕ) (chain : IsChain (shown i) x (k ∷ rs)) (shown' : ℕ → ℕ → Bool) (mine : shown' i ≡ shown i) (d : HideDone p shown' active es (node_index p i k)) (final : ℕ → ℕ → Bool) (rest : ListDone p i final active (hidden es (node_index p i k)) k rs) where
  abbrev q : ℕ
  q = node_index p i k

  abbrev mid : List TableEntry
  mid = hidden es q

  next_chain : IsChain (shown' i) k rs
  next_chain = subst (λ f. IsChain f k rs) (sym mine) chain.1

  down_is : down_at mid q ≡ node_index p i (first_of rs)
  down_is = ((d.stands).rings i pos le k (first_of rs) (chain_next (shown' i) k rs next_chain)).0

  up_is : up_at es q ≡ node_index p i x
  up_is = (s.rings i pos le x k chain.0).1

  end_is : list_hidden es q (suc (length rs)) ≡ list_hidden mid (node_index p i (first_of rs)) (length rs)
  end_is = ap (λ n. list_hidden mid n (length rs)) down_is

  pub walk_step : ListDone p i final active es x (k ∷ rs)
  walk_step = record {
    stands = subst (λ fs. Stands p final active fs) (sym end_is) rest.stands;
    can = (d.can, subst (λ n. CanHideList mid n (length rs)) (sym down_is) rest.can);
    back = λ m.
        let e : suc (length rs) + m ≡ length rs + suc m = omega arith in
        (λ j. list_unhidden (end_is j) (node_index p i (last_from k rs)) (e j)) ∙ rest.back (suc m) ∙ (λ j. list_unhidden (d.back j) (up_at (d.back j) q) m) ∙ ap (λ n. list_unhidden es n m) up_is;
    back_can = λ m c.
        let e : length rs + suc m ≡ suc (length rs) + m = omega arith in
        let here : CanUnhideList mid q (suc m) = (d.back_can, subst (λ (w : List TableEntry × ℕ). CanUnhideList w.0 w.1 m) (λ j. (sym d.back j, (sym up_is ∙ sym (λ l. up_at (d.back l) q)) j)) c) in
        subst (λ (w : List TableEntry × ℕ). CanUnhideList w.0 (node_index p i (last_from k rs)) w.1) (λ j. (sym end_is j, e j)) (rest.back_can (suc m) here);
  }

pub list_done : (p : ProblemValue) (active : ℕ → Bool) → IsProblem p → (i : ℕ) → 0 < i → i ≤ length p.names → (rs : List ℕ) (shown : ℕ → ℕ → Bool) (es : List TableEntry) (x : ℕ) → Stands p shown active es → IsChain (shown i) x rs → are_distinct rs ≡ true
    → ((k : ℕ) → has rs k ≡ true → IsNode p i k) → ((k : ℕ) → has rs k ≡ true → (j : ℕ) → has (option_at p k) j ≡ true → shown j k ≡ true)
    → ListDone p i (list_gone p i shown rs) active es x rs
list_done p active problem i pos le [] shown es x s chain d nodes all = record { stands = s; can = tt; back = λ m. (λ j. list_unhidden es (node_index p i x) ((let e : 0 + m ≡ m = omega arith in e) j)); back_can = λ m c. subst (λ n. CanUnhideList es (node_index p i x) n) (let e : m ≡ 0 + m = omega arith in e) c }
list_done p active problem i pos le (zero ∷ rs) shown es x s chain d nodes all = absurd (let n = nodes zero (has_here zero rs) in omega (arith, n.some))
list_done p active problem i pos le (suc k ∷ rs) shown es x s chain d nodes all =
    let n = nodes (suc k) (has_here (suc k) rs) in
    let h = hide_done p active problem i k (omega (arith, n.within)) n.has_item shown es s (all (suc k) (has_here (suc k) rs)) in
    let mine = column_kept p active problem i k (omega (arith, n.within)) n.has_item shown in
    walk_step p active problem i pos le shown es s (suc k) rs x chain (option_gone p i shown (suc k)) mine h (list_gone p i shown (suc k ∷ rs))
    (list_done p active problem i pos le rs (option_gone p i shown (suc k)) (hidden es (node_index p i (suc k))) (suc k) h.stands (subst (λ f. IsChain f (suc k) rs) (sym mine) chain.1) (apart d).1
    (λ m g. nodes m (has_later (suc k) rs m g)) (λ m g j f. stays m j (apart d).0 g ∙ all m (has_later (suc k) rs m g) j f))
  where
    apart : are_distinct (suc k ∷ rs) ≡ true → (has rs (suc k) ≡ false) × (are_distinct rs ≡ true)
    apart e = pick (has rs (suc k)) refl
      where
        pick : (b : Bool) → has rs (suc k) ≡ b → (has rs (suc k) ≡ false) × (are_distinct rs ≡ true)
        pick true g = absurd (false≢true (rw g at e))
        pick false g = (g, rw g at e)

    stays : (m j : ℕ) → has rs (suc k) ≡ false → has rs m ≡ true → option_gone p i shown (suc k) j m ≡ shown j m
    stays m j no_k g =
        let ne : m ≡ suc k → ⊥ = λ e. both_ways (has rs (suc k)) no_k (subst (λ z. has rs z ≡ true) e g) in
        option_stays p i shown (suc k) j m ne

-- ---- what is left

-- the list of the item itself
pub list_column : (p : ProblemValue) (active : ℕ → Bool) → IsProblem p → (i : ℕ) (rs : List ℕ) (shown : ℕ → ℕ → Bool) → ((k : ℕ) → has rs k ≡ true → IsNode p i k) → list_gone p i shown rs i ≡ shown i
list_column p active problem i [] shown nodes = refl
list_column p active problem i (zero ∷ rs) shown nodes = absurd (let n = nodes zero (has_here zero rs) in omega (arith, n.some))
list_column p active problem i (suc k ∷ rs) shown nodes =
    let n = nodes (suc k) (has_here (suc k) rs) in
    list_column p active problem i rs (option_gone p i shown (suc k)) (λ m g. nodes m (has_later (suc k) rs m g)) ∙ column_kept p active problem i k (omega (arith, n.within)) n.has_item shown

-- the other options
pub list_stays : (p : ProblemValue) (i : ℕ) (rs : List ℕ) (shown : ℕ → ℕ → Bool) (j m : ℕ) → has rs m ≡ false → list_gone p i shown rs j m ≡ shown j m
list_stays p i [] shown j m h = refl
list_stays p i (k ∷ rs) shown j m h = step (list_stays p i rs (option_gone p i shown k) j m) (cases_eq m k)
  where
    step : (has rs m ≡ false → list_gone p i (option_gone p i shown k) rs j m ≡ option_gone p i shown k j m) → (m ≡ k) ⊎ (m ≡ k → ⊥) → list_gone p i (option_gone p i shown k) rs j m ≡ shown j m
    step ih (inl e) = absurd (both_ways (has (k ∷ rs) m) h (subst (λ n. has (n ∷ rs) m ≡ true) e (has_here m rs)))
    step ih (inr ne) = ih (pick (has rs m) refl) ∙ option_stays p i shown k j m ne
      where
        pick : (b : Bool) → has rs m ≡ b → has rs m ≡ false
        pick true e = absurd (both_ways (has (k ∷ rs) m) h (has_later k rs m e))
        pick false e = e

-- what is left was shown, and is no other node of these options
pub list_was : (p : ProblemValue) (i : ℕ) (rs : List ℕ) (shown : ℕ → ℕ → Bool) (j m : ℕ) → ((k : ℕ) → has rs k ≡ true → IsNode p i k) → has (option_at p m) j ≡ true → list_gone p i shown rs j m ≡ true → (shown j m ≡ true) × ((j ≡ i → ⊥) → has rs m ≡ true → ⊥)
list_was p i [] shown j m nodes hj h = (h, λ ne g. false≢true g)
list_was p i (k ∷ rs) shown j m nodes hj h =
    let r = list_was p i rs (option_gone p i shown k) j m (λ n g. nodes n (has_later k rs n g)) hj h in
    let n = nodes k (has_here k rs) in
    let o = option_was p i shown k j m n.has_item hj r.0 in
    (o.0, λ ne g. pick (r.1 ne) (o.1 ne) (has_cases k rs m g))
  where
    pick : (has rs m ≡ true → ⊥) → (m ≡ k → ⊥) → (k ≡ m) ⊎ (has rs m ≡ true) → ⊥
    pick a b (inl e) = b (sym e)
    pick a b (inr g) = a g
