-- A puzzle has one number of packings; with spare copies it is the sum of those with fixed numbers of copies.
use Rattle.std.proofs.Common.{◌≡◌, ℕ, ◌+◌, ◌≤◌, List, [], ◌∷◌, ◌++◌, map, filter, length, sum_by, Bool, not, inl, inr, refl, sym, ap, ap₂, subst, ◌∙◌, arith}
use Rattle.std.proofs.lemmas.List.{length-append, length-map}
use Rattle.std.proofs.lemmas.List.Sums.{sum_by-cons}
use Rattle.poly_cells.specs.Sets.{IsIn}
use Rattle.poly_cells.proofs.SetLemmas.{in_append_left, in_append_right, in_append_cases, in_map, in_from_map}
use Rattle.poly_cells.proofs.MemberLemmas.{same_function}
use Rattle.poly_texts.specs.Kinds.{KindValue}
use Rattle.poly_texts.specs.Puzzle.{PuzzleValue, IsPuzzle, has_name}
use Rattle.shared_words.specs.Lists.{has}
use Rattle.poly_place.specs.Packings.{ChoiceValue, IsPacking, SetStandsFor}
use Rattle.poly_place.specs.Chosen.{is_among, chosen_by}
use Rattle.poly_place.specs.Ranges.{AreSpareEnds, fixed_without}
use Rattle.poly_place.specs.Counts.{NoTwoAre, HaveSameChoices, AreAllPackings, IsPackingCount, HaveSameNames, spare_ends, AreAllCovers, CountsAreOne, CoversAreCounted, EndsAreListed, RangesAddUp}
use Rattle.poly_place.proofs.UnlikeLemmas.{unlike_append, unlike_map, IsLikeness, at_most}
use Rattle.poly_place.proofs.PackingLemmas.{are_packings}
use Rattle.poly_place.proofs.ChosenLemmas.{cover_packs, cover_stands}
use Rattle.poly_place.proofs.RangeLemmas.{are_sums}
use Rattle.poly_place.proofs.EndLemmas.{all_ends}

-- ---- one number of packings

-- of each list of choices
abbrev Any : List ChoiceValue → Type 0
Any cs = Unit {0}

same_choices : IsLikeness Any HaveSameChoices
same_choices = record {
  back = λ a b g h s c. sym (s c);
  onward = λ a b c g h i s t d. s d ∙ t d;
}

few : (p : PuzzleValue) (xs ys : List (List ChoiceValue)) → AreAllPackings p xs → AreAllPackings p ys → length xs ≤ length ys
few p xs ys a b = at_most Any HaveSameChoices same_choices xs ys (λ x i. tt) (λ y i. tt) a.once (λ x i. b.complete (is_among x) (a.sound x i))

pub one_count : CountsAreOne
one_count p m n a b =
    let up = few p a.0 b.0 a.1 b.1 in
    let down = few p b.0 a.0 b.1 a.1 in
    let first = a.2 in
    let second = b.2 in
    omega (arith, up, down, first, second)

-- ---- exact covers

covers_lists : (p : PuzzleValue) → IsPuzzle p → (paths : List (List ℕ)) → AreAllCovers p paths → AreAllPackings p (map (chosen_by p) paths)
covers_lists p z paths a = record {
  sound = λ cs i.
      let q = in_from_map (chosen_by p) cs paths i in
      subst (λ (ds : List ChoiceValue). IsPacking p (is_among ds)) (sym q.2) (cover_packs p z q.0 (a.sound q.0 q.1));
  complete = λ chosen k.
      let set = (are_packings p z).some_cover chosen k in
      let q = a.complete set.0 ((are_packings p z).covers set.0 chosen set.1 k) in
      let stands = subst (λ (test : ℕ → Bool). SetStandsFor p test chosen) (sym (same_function (has q.0) set.0 q.2)) set.1 in (
        chosen_by p q.0,
        in_map (chosen_by p) q.0 paths q.1,
        (are_packings p z).one_packing (has q.0) (is_among (chosen_by p q.0)) chosen (cover_stands p z q.0 (a.sound q.0 q.1)) stands,
      );
  once = unlike_map (λ q r. (o : ℕ) → has q o ≡ has r o) HaveSameChoices (chosen_by p) paths (λ q r i j s.
      (are_packings p z).one_cover (has q) (has r) (is_among (chosen_by p q)) (cover_stands p z q (a.sound q i))
      (subst (λ (test : ChoiceValue → Bool). SetStandsFor p (has r) test) (same_function (is_among (chosen_by p r)) (is_among (chosen_by p q)) (λ c. sym (s c)))
      (cover_stands p z r (a.sound r j)))) a.once;
}

pub covers_are_counted : CoversAreCounted
covers_are_counted p paths z a = (map (chosen_by p) paths, covers_lists p z paths a, length-map paths (chosen_by p))

-- ---- the packings with fixed numbers, put together

-- each way has its number of packings
abbrev AreCounted : PuzzleValue → (List ℕ → ℕ) → List (List ℕ) → Type 0
AreCounted p count ways = (gone : List ℕ) → IsIn gone ways → IsPackingCount (fixed_without gone p) (count gone)

module _ (p : PuzzleValue) (count : List ℕ → ℕ) where
  abbrev together : (ways : List (List ℕ)) → AreCounted p count ways → List (List ChoiceValue)
  together [] h = []
  together (w ∷ ws) h = (h w (inl refl)).0 ++ together ws (λ g i. h g (inr i))

  sum_is : (ways : List (List ℕ)) (h : AreCounted p count ways) → length (together ways h) ≡ sum_by count ways
  sum_is [] h = refl
  sum_is (w ∷ ws) h =
      length-append (h w (inl refl)).0 (together ws (λ g i. h g (inr i))) ∙ ap₂ (λ (a b : ℕ). a + b) (h w (inl refl)).2 (sum_is ws (λ g i. h g (inr i))) ∙ sym (sum_by-cons count w ws)

  from_together : (ways : List (List ℕ)) (h : AreCounted p count ways) (cs : List ChoiceValue) → IsIn cs (together ways h)
      → (gone : List ℕ) × IsIn gone ways × IsPacking (fixed_without gone p) (is_among cs)
  from_together [] h cs i = absurd i
  from_together (w ∷ ws) h cs i =
      elim (in_append_cases cs (h w (inl refl)).0 (together ws (λ g j. h g (inr j))) i) [
        | inl l ↦ (w, inl refl, (h w (inl refl)).1.sound cs l)
        | inr r ↦ let rest = from_together ws (λ g j. h g (inr j)) cs r in (rest.0, inr rest.1, rest.2)
      ]

  to_together : (ways : List (List ℕ)) (h : AreCounted p count ways) (gone : List ℕ) (chosen : ChoiceValue → Bool) → IsIn gone ways → IsPacking (fixed_without gone p) chosen
      → (cs : List ChoiceValue) × IsIn cs (together ways h) × ((c : ChoiceValue) → is_among cs c ≡ chosen c)
  to_together [] h gone chosen i k = absurd i
  to_together (w ∷ ws) h gone chosen i k =
      elim i [
        | inl e ↦
            let cs = (h w (inl refl)).1.complete chosen (subst (λ (g : List ℕ). IsPacking (fixed_without g p) chosen) e k) in
            (cs.0, in_append_left cs.0 (h w (inl refl)).0 (together ws (λ g j. h g (inr j))) cs.1, cs.2)
        | inr r ↦
            let cs = to_together ws (λ g j. h g (inr j)) gone chosen r k in
            (cs.0, in_append_right cs.0 (h w (inl refl)).0 (together ws (λ g j. h g (inr j))) cs.1, cs.2)
      ]

  unlike : IsPuzzle p → (ways : List (List ℕ)) (h : AreCounted p count ways) → ((gone : List ℕ) → IsIn gone ways → AreSpareEnds p gone) → NoTwoAre HaveSameNames ways
      → NoTwoAre HaveSameChoices (together ways h)
  unlike z [] h ends a = tt
  unlike z (w ∷ ws) h ends a =
      unlike_append HaveSameChoices (h w (inl refl)).0 (together ws (λ g i. h g (inr i))) (h w (inl refl)).1.once (unlike z ws (λ g i. h g (inr i)) (λ g i. ends g (inr i)) a.1)
      (λ cs ds i j s.
      let there = from_together ws (λ g k. h g (inr k)) ds j in
      let first = (h w (inl refl)).1.sound cs i in
      let second : IsPacking (fixed_without there.0 p) (is_among cs) =
      subst (λ (test : ChoiceValue → Bool). IsPacking (fixed_without there.0 p) test) (same_function (is_among ds) (is_among cs) (λ c. sym (s c))) there.2 in
      a.0 there.0 there.1 ((are_sums p z).one w there.0 (is_among cs) (ends w (inl refl)) (ends there.0 (inr there.1)) first second))

-- the same copies left out, by another list
same_fixed : (p : PuzzleValue) (gone more : List ℕ) → HaveSameNames gone more → fixed_without gone p ≡ fixed_without more p
same_fixed p gone more h = ap (λ (test : ℕ → Bool). without test) (same_function (has_name gone) (has_name more) h)
  where
    without : (ℕ → Bool) → PuzzleValue
    without test = record p { kinds = map (λ (k : KindValue). record k { symbols = filter (λ n. not (test n)) k.symbols; spare = 0 }) p.kinds }

all_together : (p : PuzzleValue) (z : IsPuzzle p) (count : List ℕ → ℕ) (h : AreCounted p count (spare_ends p)) → AreAllPackings p (together p count (spare_ends p) h)
all_together p z count h =
    let ends = all_ends p z in
    record {
      sound = λ cs i. let there = from_together p count (spare_ends p) h cs i in (are_sums p z).back there.0 (is_among cs) (ends.sound there.0 there.1) there.2;
      complete = λ chosen k.
          let gone = (are_sums p z).forth chosen k in
          let way = ends.complete gone.0 gone.1 in
          to_together p count (spare_ends p) h way.0 chosen way.1
          (subst (λ (q : PuzzleValue). IsPacking q chosen) (sym (same_fixed p way.0 gone.0 way.2)) gone.2);
      once = unlike p count z (spare_ends p) h (λ gone i. ends.sound gone i) ends.once;
    }

pub ranges_add_up : RangesAddUp
ranges_add_up p count z h n =
    let sum : IsPackingCount p (sum_by count (spare_ends p)) = (together p count (spare_ends p) h, all_together p z count h, sum_is p count (spare_ends p) h) in (
      λ k. one_count p n (sum_by count (spare_ends p)) k sum,
      λ e. subst (λ (m : ℕ). IsPackingCount p m) (sym e) sum,
    )

pub ends_are_listed : EndsAreListed
ends_are_listed p z = all_ends p z
