-- Covering an item: it stays in the block, gives a block that stands for one item more, and is undone by uncovering the item.
use Rattle.std.proofs.Common.{◌≡◌, ℕ, ◌+◌, ◌*◌, ◌<◌, ◌≤◌, ◌⊎◌, inl, inr, Bool, true, false, unwrap_or, List, [], ◌∷◌, ◌++◌, length, filter, refl, sym, ap, ◌∙◌, subst, arith}
use Rattle.std.specs.Cmp.{both_ways as same_test}
use Rattle.std.proofs.lemmas.Bool.{cases_eq, cases_lt}
use Rattle.shared_words.specs.Lists.{has, numbers, above, below}
use Rattle.cover_problem.specs.Problem.{ProblemValue, IsProblem}
use Rattle.cover_problem.specs.Coverable.{IsUncovered}
use Rattle.cover_problem.proofs.MemberLemmas.{has_filter, has_filter_in}
use Rattle.cover_problem.proofs.NumberLemmas.{has_numbers, rises_filter}
use Rattle.cover_links.specs.declared.entry.TableEntry.{TableEntry}
use Rattle.cover_links.specs.Entries.{item_unlinked, item_relinked, IsItemLinked}
use Rattle.cover_links.specs.Hiding.{list_hidden, list_unhidden, options_hidden, item_covered, item_uncovered}
use Rattle.cover_links.specs.Safety.{CanHideList, CanUnhideList, IsItemInside, CanCoverItem, CanUncoverItem}
use Rattle.cover_links.specs.Ring.{Follows, IsRing}
use Rattle.cover_links.specs.Layout.{node_index, spacer_of}
use Rattle.cover_links.proofs.EntryLemmas.{length-item_unlinked}
use Rattle.cover_links.proofs.RestoreLemmas.{item_unlinked_leaves, item_unlinked_kept, row_back}
use Rattle.cover_links.proofs.RingLemmas.{Leaves, leaves_next, leaves_prev, ring_without, next_is, prev_is, next_member}
use Rattle.cover_links.proofs.LayoutLemmas.{IsNode, place_high, spacer_low}
use Rattle.cover_links.proofs.BuildLemmas.{few_items}
use Rattle.cover_links.proofs.HidingLemmas.{Stands, down_at, up_at, left_at, right_at, top_at, bytes_at}
use Rattle.cover_links.proofs.ListWalk.{first_of, last_from, IsChain, chain_from, chain_next, chain_last, list_gone, ListDone, list_done, list_column, list_stays, list_was}
use Rattle.cover_links.proofs.Covered.{shown_of, active_of, active_is, active_when, rises_distinct, same_column, all_shown, still_shown, was_shown, active_aside, active_without}

-- ---- an item leaves the row

-- the row without the item, and the links of all that is no primary item as they were
pub record RowDone (p : ProblemValue) (active : ℕ → Bool) (fs : List TableEntry) (i : ℕ) : Type 0 where
  pub linked : IsItemLinked fs i
  pub ring : IsRing active (λ x. x) (right_at (item_unlinked fs i)) (left_at (item_unlinked fs i))
  pub far : (y : ℕ) → p.primary < y → (right_at (item_unlinked fs i) y ≡ right_at fs y) × (left_at (item_unlinked fs i) y ≡ left_at fs y)

module _ (p : ProblemValue) (c : List ℕ) (i : ℕ) (shown : ℕ → ℕ → Bool) (fs : List TableEntry) (problem : IsProblem p) (u : IsUncovered p c i) (s : Stands p shown (active_of p c) fs) where
  small : (y : ℕ) → (y ≡ 0) ⊎ (active_of p c y ≡ true) → (y ≤ p.primary) × (y < length fs)
  small y (inl e) = let z = s.size in let w = problem.within in (omega arith, omega (arith, u.some, u.within))
  small y (inr h) = let a = active_is p c y h in let z = s.size in let w = problem.within in (a.1, omega arith)

  near : i ≤ p.primary → RowDone p (active_of p (c ++ i ∷ [])) fs i
  near le =
      let t = active_of p c in
      let h = active_when p c i u.some le u.uncovered in
      let within : (z : ℕ) → t z ≡ true → (0 < z) × (z ≤ p.primary) = λ z g. (let a = active_is p c z g in (a.0, a.1)) in
      let x = unwrap_or (below i (filter t (numbers p.primary 1))) 0 in let y = unwrap_or (above i (filter t (numbers p.primary 1))) 0 in
      let before : Follows t x i = prev_is t p.primary within i h in let after : Follows t i y = next_is t p.primary within i (inr h) in
      let a = s.row x i before in let b = s.row i y after in
      let lefts : left_at fs i ≡ x = a.1 in let rights : right_at fs i ≡ y = b.0 in
      let low = small x before.from in let high = small y (next_member (active_of p c) i y after.to) in
      let left_low : left_at fs i < length fs = subst (λ n. n < length fs) (sym lefts) low.1 in
      let right_low : right_at fs i < length fs = subst (λ n. n < length fs) (sym rights) high.1 in
      let linked : IsItemLinked fs i = record { before = left_low; after = right_low; from_before = ap (right_at fs) lefts ∙ a.0; from_after = ap (left_at fs) rights ∙ b.1 } in
      let leaves = item_unlinked_leaves fs i linked in
      let pos = u.some in
      record {
        linked = linked;
        ring = subst (λ f. IsRing f (λ z. z) (right_at (item_unlinked fs i)) (left_at (item_unlinked fs i))) (sym (active_without p c i u.uncovered))
            (ring_without t (λ z. z) (right_at fs) (left_at fs) (right_at (item_unlinked fs i)) (left_at (item_unlinked fs i)) i s.row leaves h u.some (λ e. absurd (omega arith)) (λ z g e. e));
        far = λ z l. (leaves.next_kept z (λ e. absurd (omega arith)), leaves.prev_kept z (λ e. absurd (omega arith)));
      }

  -- an item that names itself
  aside : p.primary < i → RowDone p (active_of p (c ++ i ∷ [])) fs i
  aside l = record {
    linked = linked;
    ring = subst (λ f. IsRing f (λ n. n) (right_at (item_unlinked fs i)) (left_at (item_unlinked fs i))) (sym (active_aside p c i u.uncovered l))
        (λ x y f. let r = s.row x y f in (rights x (cases_eq x i) ∙ r.0, lefts y (cases_eq y i) ∙ r.1));
    far = λ y g. (rights y (cases_eq y i), lefts y (cases_eq y i));
  }
    where
      own : (right_at fs i ≡ i) × (left_at fs i ≡ i)
      own = s.aside i l u.within

      here : i < length fs
      here = let w = u.within in let z = s.size in omega arith

      linked : IsItemLinked fs i
      linked = record { before = subst (λ n. n < length fs) (sym own.1) here; after = subst (λ n. n < length fs) (sym own.0) here; from_before = ap (right_at fs) own.1 ∙ own.0; from_after = ap (left_at fs) own.0 ∙ own.1 }

      leaves : Leaves (right_at fs) (left_at fs) (right_at (item_unlinked fs i)) (left_at (item_unlinked fs i)) i
      leaves = item_unlinked_leaves fs i linked

      rights : (y : ℕ) → (y ≡ i) ⊎ (y ≡ i → ⊥) → right_at (item_unlinked fs i) y ≡ right_at fs y
      rights y (inr ne) = leaves.next_kept y (λ e. ne (e ∙ own.1))
      rights y (inl e) = ap (right_at (item_unlinked fs i)) e ∙ leaves_next leaves ∙ ap (right_at fs) (sym e)

      lefts : (y : ℕ) → (y ≡ i) ⊎ (y ≡ i → ⊥) → left_at (item_unlinked fs i) y ≡ left_at fs y
      lefts y (inr ne) = leaves.prev_kept y (λ e. ne (e ∙ own.0))
      lefts y (inl e) = ap (left_at (item_unlinked fs i)) e ∙ leaves_prev leaves ∙ ap (left_at fs) (sym e)

  pub row_done : RowDone p (active_of p (c ++ i ∷ [])) fs i
  row_done = pick (cases_lt p.primary i)
    where
      pick : (p.primary < i) ⊎ (i ≤ p.primary) → RowDone p (active_of p (c ++ i ∷ [])) fs i
      pick (inl l) = aside l
      pick (inr l) = near l

  gs : List TableEntry
  gs = item_unlinked fs i

  pub row_stands : Stands p shown (active_of p (c ++ i ∷ [])) (item_unlinked fs i)
  row_stands =
      let r = row_done in let w = problem.within in
      let downs : (y : ℕ) → down_at (item_unlinked fs i) y ≡ down_at fs y = item_unlinked_kept fs i (λ e. e.down) (λ k e. refl) (λ k e. refl) in
      let ups : (y : ℕ) → up_at (item_unlinked fs i) y ≡ up_at fs y = item_unlinked_kept fs i (λ e. e.up) (λ k e. refl) (λ k e. refl) in
      let far_bytes : (y : ℕ) → p.primary < y → bytes_at (item_unlinked fs i) y ≡ bytes_at fs y = λ y h v. (r.far y h).1 v + (r.far y h).0 v * 65536 in
      let tops : (y : ℕ) → top_at (item_unlinked fs i) y ≡ top_at fs y = item_unlinked_kept fs i (λ e. e.top) (λ k e. refl) (λ k e. refl) in
      record {
        size = length-item_unlinked fs i ∙ s.size;
        header = tops 0 ∙ s.header;
        shown_are = s.shown_are;
        rings = λ j a b x y f. let q = s.rings j a b x y f in (downs (node_index p j x) ∙ q.0, ups (node_index p j y) ∙ q.1);
        counts = λ j a b. tops j ∙ s.counts j a b;
        tops = λ j k n. tops (node_index p j k) ∙ s.tops j k n;
        nexts = λ j k n. far_bytes (node_index p j k) (let h = place_high p j k n in omega arith) ∙ s.nexts j k n;
        spacers = λ k a b. tops (spacer_of p k) ∙ s.spacers k a b;
        blanks = λ k a b. far_bytes (spacer_of p k) (let h = (spacer_low p k a b).0 in omega arith) ∙ s.blanks k a b;
        row = r.ring;
        aside = λ x a b. (let f = r.far x a in let q = s.aside x a b in (f.0 ∙ q.0, f.1 ∙ q.1));
        actives = λ x h. (let a = active_is p (c ++ i ∷ []) x h in (a.0, a.1));
      }

-- ---- the whole step

pub record CoverDone (p : ProblemValue) (c : List ℕ) (i : ℕ) (es : List TableEntry) : Type 0 where
  pub stands : Stands p (shown_of p (c ++ i ∷ [])) (active_of p (c ++ i ∷ [])) (item_covered es i)
  pub can : CanCoverItem es i
  pub back : item_uncovered (item_covered es i) i ≡ es
  pub back_can : CanUncoverItem (item_covered es i) i

module _ (p : ProblemValue) (c : List ℕ) (i : ℕ) (es : List TableEntry) (problem : IsProblem p) (u : IsUncovered p c i) (s : Stands p (shown_of p c) (active_of p c) es) where
  abbrev column : ℕ → Bool
  column = shown_of p c i

  -- the options of the item's list
  abbrev rs : List ℕ
  rs = filter column (numbers (length p.options) 1)

  within : (z : ℕ) → column z ≡ true → (0 < z) × (z ≤ length p.options)
  within z h = let n = s.shown_are i z h in (n.some, n.within)

  chain : IsChain column 0 rs
  chain = chain_from column (length p.options) within (length p.options) 1 0 (omega arith) (inl refl) (omega arith) (λ z h l. l)

  listed : (k : ℕ) → has rs k ≡ true → column k ≡ true
  listed k h = (has_filter_in column (numbers (length p.options) 1) k h).0

  nodes : (k : ℕ) → has rs k ≡ true → IsNode p i k
  nodes k h = s.shown_are i k (listed k h)

  walk : ListDone p i (list_gone p i (shown_of p c) rs) (active_of p c) es 0 rs
  walk = list_done p (active_of p c) problem i u.some u.within rs (shown_of p c) es 0 s chain (rises_distinct 1 rs (rises_filter column (length p.options) 1)) nodes (λ k h j o. all_shown p c i u.uncovered k j (listed k h) o)

  final_is : list_gone p i (shown_of p c) rs ≡ shown_of p (c ++ i ∷ [])
  final_is = λ z j k. (step j k (cases_eq j i)) z
    where
      mine : list_gone p i (shown_of p c) rs i ≡ shown_of p (c ++ i ∷ []) i
      mine = list_column p (active_of p c) problem i rs (shown_of p c) nodes ∙ sym (same_column p c i u.uncovered)

      step : (j k : ℕ) → (j ≡ i) ⊎ (j ≡ i → ⊥) → list_gone p i (shown_of p c) rs j k ≡ shown_of p (c ++ i ∷ []) j k
      step j k (inl e) = (λ z. list_gone p i (shown_of p c) rs (e z) k) ∙ ap (λ (f : ℕ → Bool). f k) mine ∙ (λ z. shown_of p (c ++ i ∷ []) (sym e z) k)
      step j k (inr ne) = same_test _ _ to from
        where
          in_list : column k ≡ true → has rs k ≡ true
          in_list h = let w = within k h in has_filter column (numbers (length p.options) 1) k h (has_numbers (length p.options) 1 k w.0 (omega arith))

          -- a node that is left is a node
          is_node : (b : Bool) → has rs k ≡ b → list_gone p i (shown_of p c) rs j k ≡ true → IsNode p j k
          is_node b e h = (walk.stands).shown_are j k h

          to : list_gone p i (shown_of p c) rs j k ≡ true → shown_of p (c ++ i ∷ []) j k ≡ true
          to h =
              let n = is_node (has rs k) refl h in let w = list_was p i rs (shown_of p c) j k nodes n.has_item h in
              still_shown p c i u.uncovered j k ne w.0 (λ g. w.1 ne (in_list g))

          from : shown_of p (c ++ i ∷ []) j k ≡ true → list_gone p i (shown_of p c) rs j k ≡ true
          from h =
              let w = was_shown p c i u.uncovered j k ne h in
              list_stays p i rs (shown_of p c) j k (pick (has rs k) refl w.1) ∙ w.0
            where
              pick : (b : Bool) → has rs k ≡ b → (column k ≡ true → ⊥) → has rs k ≡ false
              pick true e out = absurd (out (listed k e))
              pick false e out = e

  abbrev fs : List TableEntry
  fs = list_hidden es (node_index p i (first_of rs)) (length rs)

  fs_stands : Stands p (shown_of p (c ++ i ∷ [])) (active_of p c) fs
  fs_stands = subst (λ f. Stands p f (active_of p c) fs) final_is walk.stands

  down_is : down_at es i ≡ node_index p i (first_of rs)
  down_is = (s.rings i u.some u.within 0 (first_of rs) (chain_next column 0 rs chain)).0

  top_is : top_at es i ≡ length rs
  top_is = s.counts i u.some u.within

  options_is : options_hidden es i ≡ fs
  unfolding options_hidden
  options_is = λ z. list_hidden es (down_is z) (top_is z)

  row : RowDone p (active_of p (c ++ i ∷ [])) fs i
  row = row_done p c i (shown_of p (c ++ i ∷ [])) fs problem u fs_stands

  covered_is : item_covered es i ≡ item_unlinked fs i
  unfolding item_covered
  covered_is = ap (λ gs. item_unlinked gs i) options_is

  here : (f : ℕ → ℕ → Bool) (t : ℕ → Bool) (gs : List TableEntry) → Stands p f t gs → i < length gs
  here f t gs w = let z = w.size in let l = u.within in omega arith

  can : CanCoverItem es i
  can = record {
    small = (let w = u.within in let f = few_items p problem in omega arith);
    here = here (shown_of p c) (active_of p c) es s;
    options = subst (λ (w : ℕ × ℕ). CanHideList es w.0 w.1) (λ z. (sym down_is z, sym top_is z)) walk.can;
    row = subst (λ gs. IsItemInside gs i) (sym options_is) (record { here = here (shown_of p (c ++ i ∷ [])) (active_of p c) fs fs_stands; before = (row.linked).before; after = (row.linked).after });
  }

  -- ---- and back

  again : item_relinked (item_unlinked fs i) i ≡ fs
  again = row_back fs i row.linked

  column_again : shown_of p (c ++ i ∷ []) i ≡ column
  column_again = same_column p c i u.uncovered

  up_is : up_at fs i ≡ node_index p i (last_from 0 rs)
  up_is = (fs_stands.rings i u.some u.within (last_from 0 rs) 0 (subst (λ f. Follows f (last_from 0 rs) 0) (sym column_again) (chain_last column 0 rs chain))).1

  top_again : top_at fs i ≡ length rs + 0
  top_again = fs_stands.counts i u.some u.within ∙ ap (λ (f : ℕ → Bool). length (filter f (numbers (length p.options) 1))) column_again ∙ (let e : length rs ≡ length rs + 0 = omega arith in e)

  back : item_uncovered (item_unlinked fs i) i ≡ es
  unfolding item_uncovered
  back = (λ z. list_unhidden (again z) (up_at (again z) i) (top_at (again z) i)) ∙ (λ z. list_unhidden fs (up_is z) (top_again z)) ∙ walk.back 0

  back_can : CanUncoverItem (item_unlinked fs i) i
  back_can = record {
    small = (let w = u.within in let f = few_items p problem in omega arith);
    row = record {
      here = subst (λ n. i < n) (sym (length-item_unlinked fs i)) (here (shown_of p (c ++ i ∷ [])) (active_of p c) fs fs_stands);
      before = subst (λ n. n < length (item_unlinked fs i)) (sym (leaves_prev (item_unlinked_leaves fs i row.linked))) (subst (λ n. left_at fs i < n) (sym (length-item_unlinked fs i)) (row.linked).before);
      after = subst (λ n. n < length (item_unlinked fs i)) (sym (leaves_next (item_unlinked_leaves fs i row.linked))) (subst (λ n. right_at fs i < n) (sym (length-item_unlinked fs i)) (row.linked).after);
    };
    options = subst (λ (w : List TableEntry × ℕ × ℕ). CanUnhideList w.0 w.1 w.2) (λ z. (sym again z, (sym up_is ∙ (λ l. up_at (sym again l) i)) z, (sym top_again ∙ (λ l. top_at (sym again l) i)) z)) (walk.back_can 0 tt);
  }

  pub cover_done : CoverDone p c i es
  cover_done = record {
    stands = subst (λ gs. Stands p (shown_of p (c ++ i ∷ [])) (active_of p (c ++ i ∷ [])) gs) (sym covered_is) (row_stands p c i (shown_of p (c ++ i ∷ [])) fs problem u fs_stands);
    can = can;
    back = ap (λ gs. item_uncovered gs i) covered_is ∙ back;
    back_can = subst (λ gs. CanUncoverItem gs i) (sym covered_is) back_can;
  }
