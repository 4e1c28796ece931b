-- What a block stands for: which nodes are in their lists, and which items are in the row of active items. A node that is in its
-- list can be hidden, and hiding it is undone by unhiding it.
use Rattle.std.proofs.Common.{◌≡◌, ℕ, suc, ◌+◌, ◌-◌, ◌*◌, ◌<◌, ◌≤◌, ◌^◌, ◌⊎◌, inl, inr, ◌==◌, Bool, true, false, cond, unwrap_or, List, length, filter, refl, sym, ap, ◌∙◌, subst, arith}
use Rattle.std.proofs.lemmas.Bool.{cases_eq, eq-eqb, ne_eqb}
use Rattle.std.proofs.lemmas.List.Sums.{length-filter, count_by-le-length}
use Rattle.shared_words.specs.Lists.{numbers, above, below}
use Rattle.cover_problem.specs.Problem.{ProblemValue, IsProblem, size_of}
use Rattle.cover_problem.proofs.HolderLemmas.{few_options}
use Rattle.cover_problem.proofs.NumberLemmas.{length-numbers}
use Rattle.cover_links.specs.declared.entry.TableEntry.{TableEntry}
use Rattle.cover_links.specs.Entries.{entry_at, next_bytes, changed, one_less, one_more, unlinked, relinked, IsLinked}
use Rattle.cover_links.specs.Hiding.{node_hidden, node_unhidden}
use Rattle.cover_links.specs.Safety.{IsInside, CanHideNode, CanUnhideNode}
use Rattle.cover_links.specs.Ring.{Follows, IsRing, but_for}
use Rattle.cover_links.specs.Layout.{node_index, spacer_of}
use Rattle.cover_links.proofs.EntryLemmas.{length-changed, kept, at_changed, at_other, length-unlinked}
use Rattle.cover_links.proofs.SwapLemmas.{IsTouched, AreApart}
use Rattle.cover_links.proofs.RestoreLemmas.{cancel, relink_restores, unlinked_leaves, unlinked_kept}
use Rattle.cover_links.proofs.RingLemmas.{Leaves, leaves_next, leaves_prev, ring_kept, ring_without, next_is, prev_is, count_without, without_ne, next_member}
use Rattle.cover_links.proofs.LayoutLemmas.{IsNode, next_place, place_high, place_low, place_apart, spacer_low}

-- the four links and the first field, by index
abbrev pub down_at : List TableEntry → ℕ → ℕ
down_at es x = (entry_at es x).down

abbrev pub up_at : List TableEntry → ℕ → ℕ
up_at es x = (entry_at es x).up

abbrev pub left_at : List TableEntry → ℕ → ℕ
left_at es x = (entry_at es x).left

abbrev pub right_at : List TableEntry → ℕ → ℕ
right_at es x = (entry_at es x).right

abbrev pub top_at : List TableEntry → ℕ → ℕ
top_at es x = (entry_at es x).top

-- the bytes before the next node of an option
abbrev pub bytes_at : List TableEntry → ℕ → ℕ
bytes_at es x = next_bytes (entry_at es x)

-- a list has fewer nodes than a word counts
pub few : (p : ProblemValue) (t : ℕ → Bool) → IsProblem p → length (filter t (numbers (length p.options) 1)) ≤ 262143
few p t problem =
    let n = count_by-le-length t (numbers (length p.options) 1) in let f = length-filter t (numbers (length p.options) 1) in
    let l = length-numbers (length p.options) 1 in let m = few_options p problem in omega arith

-- the entries of a problem: `shown j k` says that the node of the item j in the option k is in its list, and `active` which
-- items are in the row
pub record Stands (p : ProblemValue) (shown : ℕ → ℕ → Bool) (active : ℕ → Bool) (es : List TableEntry) : Type 0 where
  pub size : length es ≡ size_of p
  pub header : top_at es 0 ≡ 0
  pub shown_are : (j k : ℕ) → shown j k ≡ true → IsNode p j k
  pub rings : (j : ℕ) → 0 < j → j ≤ length p.names → IsRing (shown j) (node_index p j) (down_at es) (up_at es)
  pub counts : (j : ℕ) → 0 < j → j ≤ length p.names → top_at es j ≡ length (filter (shown j) (numbers (length p.options) 1))
  pub tops : (j k : ℕ) → IsNode p j k → top_at es (node_index p j k) ≡ j
  pub nexts : (j k : ℕ) → IsNode p j k → bytes_at es (node_index p j k) ≡ next_place p j k * 16
  pub spacers : (k : ℕ) → 0 < k → k ≤ length p.options → top_at es (spacer_of p k) ≡ k
  pub blanks : (k : ℕ) → 0 < k → k ≤ length p.options → bytes_at es (spacer_of p k) ≡ 0
  pub row : IsRing active (λ i. i) (right_at es) (left_at es)
  pub aside : (i : ℕ) → p.primary < i → i ≤ length p.names → (right_at es i ≡ i) × (left_at es i ≡ i)
  pub actives : (i : ℕ) → active i ≡ true → (0 < i) × (i ≤ p.primary)

-- shown, but for the item j in the option k
unfoldable pub minus : (ℕ → ℕ → Bool) → ℕ → ℕ → ℕ → ℕ → Bool
minus shown j k i = cond (i == j) (but_for (shown i) k) (shown i)

pub minus_here : (shown : ℕ → ℕ → Bool) (j k i : ℕ) → i ≡ j → minus shown j k i ≡ but_for (shown i) k
unfolding minus
minus_here shown j k i e = let f : i == j ≡ true = eq-eqb i j e in rw f refl

pub minus_other : (shown : ℕ → ℕ → Bool) (j k i : ℕ) → (i ≡ j → ⊥) → minus shown j k i ≡ shown i
unfolding minus
minus_other shown j k i ne = let f : i == j ≡ false = ne_eqb i j ne in rw f refl

-- what is left was shown, and is another node
pub minus_was : (shown : ℕ → ℕ → Bool) (j k i m : ℕ) → minus shown j k i m ≡ true → (shown i m ≡ true) × (i ≡ j → m ≡ k → ⊥)
minus_was shown j k i m h = step (cases_eq i j)
  where
    step : (i ≡ j) ⊎ (i ≡ j → ⊥) → (shown i m ≡ true) × (i ≡ j → m ≡ k → ⊥)
    step (inl e) = let w = without_ne (shown i) k m (subst (λ (f : ℕ → Bool). f m ≡ true) (minus_here shown j k i e) h) in (w.0, λ d. w.1)
    step (inr ne) = (subst (λ (f : ℕ → Bool). f m ≡ true) (minus_other shown j k i ne) h, λ d. absurd (ne d))

module _ (p : ProblemValue) (shown : ℕ → ℕ → Bool) (active : ℕ → Bool) (es : List TableEntry) (problem : IsProblem p) (s : Stands p shown active es) where
  -- the numbers that a column may have
  pub column_within : (j k : ℕ) → shown j k ≡ true → (0 < k) × (k ≤ length p.options)
  column_within j k h = let n = s.shown_are j k h in (n.some, n.within)

  -- a member of a ring, or its head, lies in the block
  ring_inside : (j : ℕ) → j ≤ length p.names → (k : ℕ) → (k ≡ 0) ⊎ (shown j k ≡ true) → node_index p j k < length es
  ring_inside j le k (inl e) = subst (λ n. node_index p j n < length es) (sym e) (let z = s.size in omega arith)
  ring_inside j le k (inr h) = let z = s.size in let l = place_low p j k (s.shown_are j k h) in omega arith

  -- the head of the item j, or a node of its list
  abbrev pub IsInList : ℕ → ℕ → Type 0
  IsInList j x = (m : ℕ) × ((m ≡ 0) ⊎ (shown j m ≡ true)) × (x ≡ node_index p j m)

  -- no entry stands in two lists
  lists_apart : (i j : ℕ) → (i ≡ j → ⊥) → i ≤ length p.names → j ≤ length p.names → (x : ℕ) → IsInList i x → IsInList j x → ⊥
  lists_apart i j ne li lj x a b = pick a.0 b.0 a.1 b.1 (sym a.2 ∙ b.2)
    where
      pick : (m n : ℕ) → (m ≡ 0) ⊎ (shown i m ≡ true) → (n ≡ 0) ⊎ (shown j n ≡ true) → node_index p i m ≡ node_index p j n → ⊥
      pick m n (inl e) (inl f) h = ne ((λ v. node_index p i (sym e v)) ∙ h ∙ (λ v. node_index p j (f v)))
      pick m n (inl e) (inr g) h = let z = place_high p j n (s.shown_are j n g) in let f : i ≡ node_index p j n = (λ v. node_index p i (sym e v)) ∙ h in absurd (omega arith)
      pick m n (inr g) (inl f) h = let z = place_high p i m (s.shown_are i m g) in let f : node_index p i m ≡ j = h ∙ (λ v. node_index p j (f v)) in absurd (omega arith)
      pick m n (inr g) (inr f) h = ne (place_apart p i m j n (s.shown_are i m g) (s.shown_are j n f) h).0

  -- a node that is shown
  module _ (j k : ℕ) (pos : 0 < j) (le : j ≤ length p.names) (h : shown j k ≡ true) where
    abbrev q : ℕ
    q = node_index p j k

    abbrev k0 : ℕ
    k0 = unwrap_or (below k (filter (shown j) (numbers (length p.options) 1))) 0

    abbrev k1 : ℕ
    k1 = unwrap_or (above k (filter (shown j) (numbers (length p.options) 1))) 0

    before : Follows (shown j) k0 k
    before = prev_is (shown j) (length p.options) (column_within j) k h

    after : Follows (shown j) k k1
    after = next_is (shown j) (length p.options) (column_within j) k (inr h)

    node : IsNode p j k
    node = s.shown_are j k h

    up_is : up_at es q ≡ node_index p j k0
    up_is = (s.rings j pos le k0 k before).1

    down_is : down_at es q ≡ node_index p j k1
    down_is = (s.rings j pos le k k1 after).0

    up_low : up_at es q < length es
    up_low = subst (λ n. n < length es) (sym up_is) (ring_inside j le k0 (before.from))

    down_low : down_at es q < length es
    down_low = subst (λ n. n < length es) (sym down_is) (ring_inside j le k1 (next_member (shown j) k k1 after.to))

    pub node_linked : IsLinked es q
    node_linked = record {
      above = up_low;
      below = down_low;
      from_above = ap (down_at es) up_is ∙ (s.rings j pos le k0 k before).0;
      from_below = ap (up_at es) down_is ∙ (s.rings j pos le k k1 after).1;
    }

    top_is : top_at es q ≡ j
    top_is = s.tops j k node

    low : q < length es
    low = let z = s.size in let l = place_low p j k node in omega arith

    head_low : j < length es
    head_low = let z = s.size in let l = place_low p j k node in let b = place_high p j k node in omega arith

    head_apart : q ≡ j → ⊥
    head_apart e = let b = place_high p j k node in absurd (omega arith)

    -- what hiding the node touches stands in its list
    pub touched_in : (x : ℕ) → IsTouched es q x → IsInList j x
    touched_in x (inl e) = (k, inr h, e)
    touched_in x (inr (inl e)) = (k0, before.from, e ∙ up_is)
    touched_in x (inr (inr (inl e))) = (k1, next_member (shown j) k k1 after.to, e ∙ down_is)
    touched_in x (inr (inr (inr e))) = (0, inl refl, e ∙ top_is)

    -- the block without the node
    abbrev gone : List TableEntry
    gone = changed one_less (unlinked es q) j

    gone_is : node_hidden es q ≡ gone
    unfolding node_hidden
    gone_is = ap (changed one_less (unlinked es q)) top_is

    gone_down : (y : ℕ) → down_at gone y ≡ down_at (unlinked es q) y
    gone_down y = kept (λ e. e.down) one_less (λ e. refl) (unlinked es q) j y

    gone_up : (y : ℕ) → up_at gone y ≡ up_at (unlinked es q) y
    gone_up y = kept (λ e. e.up) one_less (λ e. refl) (unlinked es q) j y

    gone_left : (y : ℕ) → left_at gone y ≡ left_at es y
    gone_left y = kept (λ e. e.left) one_less (λ e. refl) (unlinked es q) j y ∙ unlinked_kept es q (λ e. e.left) (λ n e. refl) (λ n e. refl) y

    gone_right : (y : ℕ) → right_at gone y ≡ right_at es y
    gone_right y = kept (λ e. e.right) one_less (λ e. refl) (unlinked es q) j y ∙ unlinked_kept es q (λ e. e.right) (λ n e. refl) (λ n e. refl) y

    gone_bytes : (y : ℕ) → bytes_at gone y ≡ bytes_at es y
    gone_bytes y = λ v. gone_left y v + gone_right y v * 65536

    unlinked_top : (y : ℕ) → top_at (unlinked es q) y ≡ top_at es y
    unlinked_top y = unlinked_kept es q (λ e. e.top) (λ n e. refl) (λ n e. refl) y

    gone_top : (y : ℕ) → (y ≡ j → ⊥) → top_at gone y ≡ top_at es y
    gone_top y ne = ap (λ (e : TableEntry). e.top) (at_other one_less (unlinked es q) j y ne) ∙ unlinked_top y

    gone_head : top_at gone j ≡ top_at es j - 1
    gone_head = ap (λ (e : TableEntry). e.top) (at_changed one_less (unlinked es q) j (subst (λ n. j < n) (sym (length-unlinked es q)) head_low)) ∙ ap (λ n. n - 1) (unlinked_top j)

    gone_length : length gone ≡ length es
    gone_length = length-changed one_less (unlinked es q) j ∙ length-unlinked es q

    taken_out : Leaves (down_at es) (up_at es) (down_at (unlinked es q)) (up_at (unlinked es q)) q
    taken_out = unlinked_leaves es q node_linked

    leaves : Leaves (down_at es) (up_at es) (down_at gone) (up_at gone) q
    leaves = subst (λ (w : (ℕ → ℕ) × (ℕ → ℕ)). Leaves (down_at es) (up_at es) w.0 w.1 q) (λ i. (λ y. sym (gone_down y) i, λ y. sym (gone_up y) i)) taken_out

    some : suc (length (filter (but_for (shown j) k) (numbers (length p.options) 1))) ≡ length (filter (shown j) (numbers (length p.options) 1))
    some = count_without (shown j) k (length p.options) 1 h node.some (let w = node.within in omega arith)

    other_ring : (i : ℕ) → 0 < i → i ≤ length p.names → (i ≡ j) ⊎ (i ≡ j → ⊥) → IsRing (minus shown j k i) (node_index p i) (down_at gone) (up_at gone)
    other_ring i a b (inl e) =
        subst (λ f. IsRing f (node_index p i) (down_at gone) (up_at gone)) (sym (minus_here shown j k i e))
        (ring_without (shown i) (node_index p i) (down_at es) (up_at es) (down_at gone) (up_at gone) k (s.rings i a b)
        (subst (λ n. Leaves (down_at es) (up_at es) (down_at gone) (up_at gone) n) (ap (λ n. node_index p n k) (sym e)) leaves)
        (subst (λ n. shown n k ≡ true) (sym e) h) node.some
        (λ g. head_apart (ap (λ n. node_index p n k) (sym e) ∙ sym g ∙ e)) (λ x hx g. (place_apart p i x i k (s.shown_are i x hx) (subst (λ n. IsNode p n k) (sym e) node) g).1))
    other_ring i a b (inr ne) =
        subst (λ f. IsRing f (node_index p i) (down_at gone) (up_at gone)) (sym (minus_other shown j k i ne))
        (ring_kept (shown i) (node_index p i) (down_at es) (up_at es) (down_at gone) (up_at gone) q (s.rings i a b) leaves
        (λ g. let z = place_high p j k node in absurd (omega arith)) (λ x hx g. ne (place_apart p i x j k (s.shown_are i x hx) node g).0))

    other_count : (i : ℕ) → 0 < i → i ≤ length p.names → (i ≡ j) ⊎ (i ≡ j → ⊥) → top_at gone i ≡ length (filter (minus shown j k i) (numbers (length p.options) 1))
    other_count i a b (inl e) =
        let c = s.counts j pos le in
        let one : top_at es j - 1 ≡ length (filter (but_for (shown j) k) (numbers (length p.options) 1)) = omega (arith, some) in
        ap (top_at gone) e ∙ gone_head ∙ one ∙ ap (λ n. length (filter (but_for (shown n) k) (numbers (length p.options) 1))) (sym e)
        ∙ ap (λ (f : ℕ → Bool). length (filter f (numbers (length p.options) 1))) (sym (minus_here shown j k i e))
    other_count i a b (inr ne) = gone_top i ne ∙ s.counts i a b ∙ ap (λ (f : ℕ → Bool). length (filter f (numbers (length p.options) 1))) (sym (minus_other shown j k i ne))

    gone_stands : Stands p (minus shown j k) active gone
    gone_stands = record {
      size = gone_length ∙ s.size;
      header = gone_top 0 (λ e. absurd (omega arith)) ∙ s.header;
      shown_are = λ i m g. s.shown_are i m (minus_was shown j k i m g).0;
      rings = λ i a b. other_ring i a b (cases_eq i j);
      counts = λ i a b. other_count i a b (cases_eq i j);
      tops = λ i m n. gone_top (node_index p i m) (λ g. let z = place_high p i m n in absurd (omega arith)) ∙ s.tops i m n;
      nexts = λ i m n. gone_bytes (node_index p i m) ∙ s.nexts i m n;
      spacers = λ m a b. gone_top (spacer_of p m) (λ g. let z = spacer_low p m a b in absurd (omega arith)) ∙ s.spacers m a b;
      blanks = λ m a b. gone_bytes (spacer_of p m) ∙ s.blanks m a b;
      row = λ x y f. let r = s.row x y f in (gone_right x ∙ r.0, gone_left y ∙ r.1);
      aside = λ i a b. let r = s.aside i a b in (gone_right i ∙ r.0, gone_left i ∙ r.1);
      actives = s.actives;
    }

    pub node_stands : Stands p (minus shown j k) active (node_hidden es q)
    node_stands = subst (λ fs. Stands p (minus shown j k) active fs) (sym gone_is) gone_stands

    pub node_can : CanHideNode es q
    node_can = record {
      inside = record { here = low; above = up_low; below = down_low };
      item = subst (λ n. n < length es) (sym top_is) head_low;
      some = subst (λ n. 0 < top_at (unlinked es q) n) (sym top_is) (let c = s.counts j pos le in let u = unlinked_top j in omega (arith, some));
    }

    -- ---- and back

    gone_again : changed one_more gone j ≡ unlinked es q
    gone_again =
        cancel one_more one_less (unlinked es q) j
        (let e = entry_at (unlinked es q) j in
        let one : e.top - 1 + 1 ≡ e.top = (let c = s.counts j pos le in let u = unlinked_top j in omega (arith, some)) in
        (λ i. record e { top = one i }))

    gone_top_here : top_at gone q ≡ j
    gone_top_here = gone_top q head_apart ∙ top_is

    pub node_back : node_unhidden (node_hidden es q) q ≡ es
    unfolding node_unhidden
    node_back = (λ i. relinked (changed one_more (gone_is i) (top_at (gone_is i) q)) q) ∙ ap (λ n. relinked (changed one_more gone n) q) gone_top_here ∙ ap (λ fs. relinked fs q) gone_again ∙ relink_restores es q node_linked

    gone_can : CanUnhideNode gone q
    gone_can =
        let here : q < length gone = subst (λ n. q < n) (sym gone_length) low in
        record {
          here = here;
          item = subst (λ n. n < length gone) (sym gone_top_here) (subst (λ n. j < n) (sym gone_length) head_low);
          small = subst (λ n. top_at gone n + 1 < 2 ^ 28) (sym gone_top_here) (let c = s.counts j pos le in let g = gone_head in let f = few p (shown j) problem in omega arith);
          inside = subst (λ fs. IsInside fs q) (sym (ap (changed one_more gone) gone_top_here ∙ gone_again)) (record {
            here = subst (λ n. q < n) (sym (length-unlinked es q)) low;
            above = subst (λ n. n < length (unlinked es q)) (sym (leaves_prev taken_out)) (subst (λ n. up_at es q < n) (sym (length-unlinked es q)) up_low);
            below = subst (λ n. n < length (unlinked es q)) (sym (leaves_next taken_out)) (subst (λ n. down_at es q < n) (sym (length-unlinked es q)) down_low);
          });
        }

    pub back_can : CanUnhideNode (node_hidden es q) q
    back_can = subst (λ fs. CanUnhideNode fs q) (sym gone_is) gone_can

-- ---- two nodes

-- hiding touches nothing of another item's list
pub nodes_apart : (p : ProblemValue) (shown : ℕ → ℕ → Bool) (active : ℕ → Bool) (es : List TableEntry) → IsProblem p → Stands p shown active es → (i j k : ℕ) → (i ≡ j → ⊥)
    → (shown i k ≡ true) × (0 < i) × (i ≤ length p.names) → (shown j k ≡ true) × (0 < j) × (j ≤ length p.names) → AreApart es (node_index p i k) (node_index p j k)
nodes_apart p shown active es problem s i j k ne a b x y m n e =
    lists_apart p shown active es problem s i j ne a.2 b.2 y
    (subst (λ z. IsInList p shown active es problem s i z) e (touched_in p shown active es problem s i k a.1 a.2 a.0 x m))
    (touched_in p shown active es problem s j k b.1 b.2 b.0 y n)
