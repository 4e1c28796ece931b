-- Of the packings that differ by equal pieces that change places exactly one keeps them in order.
use Rattle.std.proofs.Common.{◌≡◌, ℕ, List, map, length, Bool, true, false, inl, inr, refl, sym, ap, ap₂, subst, ◌∙◌, arith}
use Rattle.std.specs.Cmp.{both_ways as same_tests}
use Rattle.std.specs.List.Sorted.{IsStrictlySortedBy}
use Rattle.std.proofs.lemmas.Bool.{cases_Bool, both_ways}
use Rattle.std.proofs.lemmas.List.{length-map}
use Rattle.poly_cells.specs.Coordinates.{Coordinates}
use Rattle.poly_cells.specs.Sets.{IsIn}
use Rattle.poly_cells.proofs.SetLemmas.{in_append_left, in_append_cases, in_map, in_from_map, same_members}
use Rattle.poly_cells.proofs.MemberLemmas.{in_flat_map, same_at}
use Rattle.poly_texts.specs.Puzzle.{PuzzleValue, IsPuzzle, equal_names}
use Rattle.poly_place.specs.Packings.{ChoiceValue, choice_with, neighbours, pairs, IsPacking}
use Rattle.poly_place.specs.Swaps.{AreEqual, IsSwap, CountSwapsOnce}
use Rattle.poly_place.proofs.PairLemmas.{in_group}
use Rattle.poly_place.proofs.LeavingsLemmas.{IsSplit, split_by, uses, used_from, from_used}
use Rattle.poly_place.proofs.PlacedLemmas.{has_shapes, layable, in_layable}
use Rattle.poly_place.proofs.EqualLemmas.{by_first, first_total, rising_neighbours, is_grouped, grouped_in, in_grouped}
use Rattle.poly_place.proofs.LaidLemmas.{neighbours_left, same_front, is_apart, one_group, equal_known, pick, pick_is, laid}
use Rattle.poly_place.proofs.OrderedLemmas.{swapped, swap, swapped_packs}

module _ (p : PuzzleValue) (z : IsPuzzle p) where
  -- ---- no other packing in order comes of it

  -- an equal piece is one of the group
  equal_in : (g : List ℕ) (m n : ℕ) → IsIn g (equal_names p) → IsIn m g → AreEqual p m n → IsIn n g
  equal_in g m n i j e =
      elim e [
        | inl same ↦ subst (λ (q : ℕ). IsIn q g) same j
        | inr h ↦ subst (λ (s : List ℕ). IsIn n s) (one_group p z h.0 g m h.1 i h.2 j) h.3
      ]

  -- one that is in no group is the same
  equal_alone : (m n : ℕ) → is_grouped p m ≡ false → AreEqual p m n → m ≡ n
  equal_alone m n f e =
      elim e [
        | inl same ↦ same
        | inr h ↦ let t = in_grouped p m h.0 h.1 h.2 in cc
      ]

  module _ (other : ChoiceValue → Bool) (k : IsPacking p other) where
    -- what a group is laid on, in the order of its names
    lies : ℕ → List Coordinates
    lies n = (pick p z other n).cells

    other_has : (c : ChoiceValue) → other c ≡ true → IsIn c (layable p)
    other_has c h = in_layable p (has_shapes p z) c (k.placed c h)

    -- those of a group that are used are its first ones
    firsts : (g : List ℕ) → IsIn g (equal_names p) → IsSplit (uses p other) g
    firsts g i =
        split_by (uses p other) g
        (λ m n pair t. from_used p other other_has m (k.in_turn m n (in_flat_map neighbours (m, n) g (equal_names p) i pair) (used_from p other n t)))

    in_firsts : (g : List ℕ) (i : IsIn g (equal_names p)) (n : ℕ) → IsIn n g → uses p other n ≡ true → IsIn n (firsts g i).yes
    in_firsts g i n j t =
        let split = firsts g i in
        elim (in_append_cases n split.yes split.no (subst (λ (ns : List ℕ). IsIn n ns) split.whole j)) [
          | inl l ↦ l
          | inr r ↦ absurd (both_ways (uses p other n) (split.fail n r) t)
        ]

    from_firsts : (g : List ℕ) (i : IsIn g (equal_names p)) (n : ℕ) → IsIn n (firsts g i).yes → IsIn n g × (uses p other n ≡ true)
    from_firsts g i n j =
        let split = firsts g i in
        (subst (λ (ns : List ℕ). IsIn n ns) (sym split.whole) (in_append_left n split.yes split.no j), split.pass n j)

    lies_rise : (g : List ℕ) (i : IsIn g (equal_names p)) → IsStrictlySortedBy by_first (map lies (firsts g i).yes)
    unfolding lies
    lies_rise g i =
        let split = firsts g i in
        rising_neighbours by_first first_total lies split.yes
        (λ m n pair.
        let both = in_group m n split.yes pair in
        let one = laid p z other (is_apart p other k) m (split.pass m both.0) in
        let two = laid p z other (is_apart p other k) n (split.pass n both.1) in
        let there = subst (λ (ns : List ℕ). IsIn (m, n) (neighbours ns)) (sym split.whole) (neighbours_left m n split.yes split.no pair) in
        k.ordered (pick p z other m) (pick p z other n) one.0 two.0
        (subst (λ (q : ℕ). IsIn (q, (pick p z other n).name) (pairs p)) (sym one.1) (subst (λ (q : ℕ). IsIn (m, q) (pairs p)) (sym two.1) (in_flat_map neighbours (m, n) g (equal_names p) i there))))

  module _ (chosen other another : ChoiceValue → Bool) (a : IsPacking p other) (s : IsSwap p chosen other) (b : IsPacking p another) (t : IsSwap p chosen another) where
    -- what the one lays the other lays
    carried : (c : ChoiceValue) → other c ≡ true → (d : ChoiceValue) × (another d ≡ true) × (d.cells ≡ c.cells) × (e : ChoiceValue) × AreEqual p c.name e.name × AreEqual p e.name d.name
    carried c h =
        let e = s.back c h in
        let d = t.forth e.0 e.1 in
        (d.0, d.1, d.2 ∙ e.2, e.0, e.3, d.3)

    lies_there : (g : List ℕ) (i : IsIn g (equal_names p)) (vs : List Coordinates) → IsIn vs (map (lies other a) (firsts other a g i).yes) → IsIn vs (map (lies another b) (firsts another b g i).yes)
    unfolding lies
    lies_there g i vs j =
        let m = in_from_map (lies other a) vs (firsts other a g i).yes j in
        let from = from_firsts other a g i m.0 m.1 in
        let there = laid p z other (is_apart p other a) m.0 from.1 in
        let d = carried (pick p z other m.0) there.0 in
        let here = equal_in g d.3.name d.0.name i (equal_in g (pick p z other m.0).name d.3.name i (subst (λ (q : ℕ). IsIn q g) (sym there.1) from.0) d.4) d.5 in
        let is = pick_is p z another (is_apart p another b) d.0 d.1 (equal_known p z g d.0.name i here).2 in
        let first = in_firsts another b g i d.0.name here (from_used p another (other_has another b) d.0.name (d.0, d.1, refl)) in
        subst (λ (ws : List Coordinates). IsIn ws (map (lies another b) (firsts another b g i).yes)) (ap (λ (c : ChoiceValue). c.cells) is ∙ d.2 ∙ sym m.2)
        (in_map (lies another b) d.0.name (firsts another b g i).yes first)

  module _ (chosen other another : ChoiceValue → Bool) (a : IsPacking p other) (s : IsSwap p chosen other) (b : IsPacking p another) (t : IsSwap p chosen another) where
    -- the same ones of a group are used, and they lie on the same cells
    same_lists : (g : List ℕ) (i : IsIn g (equal_names p)) → map (lies other a) (firsts other a g i).yes ≡ map (lies another b) (firsts another b g i).yes
    same_lists g i =
        same_members first_total (map (lies other a) (firsts other a g i).yes) (map (lies another b) (firsts another b g i).yes) (lies_rise other a g i) (lies_rise another b g i)
        (lies_there chosen other another a s b t g i) (lies_there chosen another other b t a s g i)

    same_firsts : (g : List ℕ) (i : IsIn g (equal_names p)) → (firsts other a g i).yes ≡ (firsts another b g i).yes
    same_firsts g i =
        let one = firsts other a g i in
        let two = firsts another b g i in
        let long = ap length (same_lists g i) in
        let first = length-map one.yes (lies other a) in
        let second = length-map two.yes (lies another b) in
        same_front one.yes two.yes one.no two.no (sym one.whole ∙ two.whole) (omega (arith, long, first, second))

    one_way : (c : ChoiceValue) → other c ≡ true → another c ≡ true
    unfolding lies
    one_way c h =
        elim (cases_Bool (is_grouped p c.name)) [
          | inl q ↦
              let g = grouped_in p c.name q in
              let first = in_firsts other a g.group g.there c.name g.member (from_used p other (other_has other a) c.name (c, h, refl)) in
              let lists = same_lists g.group g.there ∙ ap (map (lies another b)) (sym (same_firsts g.group g.there)) in
              let same = same_at (lies other a) (lies another b) (firsts other a g.group g.there).yes lists c.name first in
              let is = pick_is p z other (is_apart p other a) c h (equal_known p z g.group c.name g.there g.member).2 in
              let used = (from_firsts another b g.group g.there c.name (subst (λ (ns : List ℕ). IsIn c.name ns) (same_firsts g.group g.there) first)).1 in
              let there = laid p z another (is_apart p another b) c.name used in
              let cells : (pick p z another c.name).cells ≡ c.cells = sym same ∙ ap (λ (d : ChoiceValue). d.cells) is in
              subst (λ (d : ChoiceValue). another d ≡ true) (ap₂ choice_with there.1 cells) there.0
          | inr f ↦
              let d = carried chosen other another a s b t c h in
              let one = equal_alone c.name d.3.name f d.4 in
              let two = equal_alone d.3.name d.0.name (subst (λ (n : ℕ). is_grouped p n ≡ false) one f) d.5 in
              subst (λ (e : ChoiceValue). another e ≡ true) (ap₂ choice_with (sym (one ∙ two)) d.2) d.1
        ]

  pub count_swaps_once : CountSwapsOnce p
  count_swaps_once = record {
    apart = λ chosen k. is_apart p chosen k;
    once = λ chosen k. record {
      some = (swapped p z chosen k, swapped_packs p z chosen k, swap p z chosen k);
      one = λ other another a s b t c. same_tests (other c) (another c) (one_way chosen other another a s b t c) (one_way chosen another other b t a s c);
    };
  }
