-- Steps of the loops that make forms, images and carriers.
use Rattle.std.proofs.Common.{◌≡◌, ℕ, ◌+◌, ◌<◌, ◌≤◌, ◌||◌, ◌↔◌, Bool, true, List, [], ◌∷◌, ◌++◌, map, length, get_or, take, drop, inl, inr, refl, sym, ap, ap₂, subst, ◌∙◌}
use Rattle.std.specs.List.{list_any}
use Rattle.std.proofs.lemmas.List.{at_drop_more, drop_all, take_all, map_more}
use Rattle.poly_cells.specs.Coordinates.{Coordinates, IsInGrid}
use Rattle.poly_cells.specs.Turns.{turn}
use Rattle.poly_cells.specs.Sets.{IsIn}
use Rattle.poly_cells.specs.Shapes.{IsShape, corner, moved, moved_back}
use Rattle.poly_cells.specs.Images.{HasSymmetry}
use Rattle.poly_cells.proofs.SetLemmas.{in_map, in_from_map, in_append_left, in_append_right, in_append_cases, take_next}
use Rattle.poly_cells.specs.CellTests.{is_same, has_cell}
use Rattle.poly_place.specs.declared.alike.Group.{Group}
use Rattle.poly_place.specs.Packings.{place_of}
use Rattle.poly_place.specs.Classes.{is_member}
use Rattle.poly_place.specs.ClassCount.{image_in, images_in}
use Rattle.poly_place.specs.Forms.{carrier, IsKept, AreCarriers, lesser, form_by, least_from}
use Rattle.poly_place.proofs.CarryLemmas.{image_stays}
use Rattle.poly_cells.proofs.CellTestLemmas.{is_same_symmetric}
use mathlib.Core.List.{map-map}

-- what is left of a list from the item on
from_here : {X : Type 0} (xs : List X) (i : ℕ) (x : X) → i < length xs → x ≡ get_or xs i x → drop i xs ≡ x ∷ drop (i + 1) xs
from_here {X} xs i x lt is = at_drop_more (λ ys. ys) xs i x lt ∙ ap (λ (y : X). y ∷ drop (i + 1) xs) (sym is)

-- ---- cells in lists

pub has_turned : (vs : List Coordinates) (v : Coordinates) → list_any (λ w. is_same w v) vs ≡ has_cell vs v
has_turned [] v = refl
has_turned (w ∷ ws) v = ap₂ (λ a b. a || b) (is_same_symmetric w v) (has_turned ws v)

-- ---- the least form

pub least_step : {V : Type 0} (f : V → List ℕ) (numbers best after total : List ℕ) (gs : List V) (i : ℕ) (g : V) → i < length gs → g ≡ get_or gs i g
    → after ≡ lesser (form_by numbers (f g)) best → least_from numbers best (map f (drop i gs)) ≡ total → least_from numbers after (map f (drop (i + 1) gs)) ≡ total
unfolding least_from
least_step {V} f numbers best after total gs i g lt is made so =
    ap (λ (b : List ℕ). least_from numbers b (map f (drop (i + 1) gs))) made
    ∙ ap (λ (hs : List V). least_from numbers best (map f hs)) (sym (from_here gs i g lt is)) ∙ so

pub least_done : {V : Type 0} (f : V → List ℕ) (numbers best total : List ℕ) (gs : List V) (i : ℕ) → length gs ≤ i → least_from numbers best (map f (drop i gs)) ≡ total → best ≡ total
unfolding least_from
least_done {V} f numbers best total gs i end so =
    sym (ap (λ (hs : List V). least_from numbers best (map f hs)) (drop_all i gs end)) ∙ so

-- ---- images

pub images_are : (vs : List Coordinates) (n : ℕ) (ts : List Coordinates) (low high : Coordinates) → ts ≡ map (turn n) vs → low ≡ corner ts → high ≡ corner vs
    → map (λ v. moved high (moved_back low v)) ts ≡ images_in vs n
unfolding image_in
images_are vs n ts low high t l h =
    ap₂ (λ (a b : Coordinates). map (λ v. moved a (moved_back b v)) ts) h (l ∙ ap corner t)
    ∙ ap (map (λ v. moved (corner vs) (moved_back (corner (map (turn n) vs)) v))) t
    ∙ map-map (λ v. moved (corner vs) (moved_back (corner (map (turn n) vs)) v)) (turn n) vs

pub images_in_grid : (vs : List Coordinates) (n : ℕ) (ts : List Coordinates) (low high : Coordinates) → IsShape vs → HasSymmetry n vs → ts ≡ map (turn n) vs → low ≡ corner ts → high ≡ corner vs
    → (v : Coordinates) → IsIn v ts → IsInGrid (moved high (moved_back low v))
images_in_grid vs n ts low high s h t l k v i =
    let there = in_map (λ u. moved high (moved_back low u)) v ts i in
    let image : IsIn (moved high (moved_back low v)) (images_in vs n) = subst (λ (us : List Coordinates). IsIn (moved high (moved_back low v)) us) (images_are vs n ts low high t l k) there in
    let u = in_from_map (image_in vs n) (moved high (moved_back low v)) vs image in
    s.limits (moved high (moved_back low v)) (subst (λ c. IsIn c vs) (sym u.2) (image_stays vs n s h u.0 u.1))

-- ---- carriers

-- exactly the carriers of those of the numbers that are kept
abbrev pub AreSome : Group → List Coordinates → List Coordinates → List ℕ → List (List ℕ) → Type 0
AreSome group vs ms ns gs = (g : List ℕ) → IsIn g gs ↔ ((n : ℕ) × IsIn n ns × IsKept group vs ms n × (g ≡ carrier vs n))

pub some_more : (group : Group) (vs ms : List Coordinates) (ns : List ℕ) (i n : ℕ) (gs hs : List (List ℕ)) → i < length ns → n ≡ get_or ns i n → hs ≡ gs ++ carrier vs n ∷ [] → IsKept group vs ms n
    → AreSome group vs ms (take i ns) gs → AreSome group vs ms (take (i + 1) ns) hs
some_more group vs ms ns i n gs hs lt is made kept so =
    let grown : take (i + 1) ns ≡ take i ns ++ n ∷ [] = take_next ns i n lt is in
    λ g. (
      (λ j. elim (in_append_cases g gs (carrier vs n ∷ []) (subst (IsIn g) made j)) [
        | inl l ↦ let m = (so g).0 l in (m.0, subst (IsIn m.0) (sym grown) (in_append_left m.0 (take i ns) (n ∷ []) m.1), m.2, m.3)
        | inr r ↦ elim r [ inl e ↦ (n, subst (IsIn n) (sym grown) (in_append_right n (take i ns) (n ∷ []) (inl refl)), kept, e) | inr none ↦ absurd none ]
      ]),
      (λ h. subst (IsIn g) (sym made) (elim (in_append_cases h.0 (take i ns) (n ∷ []) (subst (IsIn h.0) grown h.1)) [
        | inl l ↦ in_append_left g gs (carrier vs n ∷ []) ((so g).1 (h.0, l, h.2, h.3))
        | inr r ↦ elim r [ inl e ↦ in_append_right g gs (carrier vs n ∷ []) (inl (h.3 ∙ ap (carrier vs) e)) | inr none ↦ absurd none ]
      ])),
    )

pub some_same : (group : Group) (vs ms : List Coordinates) (ns : List ℕ) (i n : ℕ) (gs hs : List (List ℕ)) → i < length ns → n ≡ get_or ns i n → hs ≡ gs → (IsKept group vs ms n → ⊥)
    → AreSome group vs ms (take i ns) gs → AreSome group vs ms (take (i + 1) ns) hs
some_same group vs ms ns i n gs hs lt is made kept so =
    let grown : take (i + 1) ns ≡ take i ns ++ n ∷ [] = take_next ns i n lt is in
    λ g. (
      (λ j. let m = (so g).0 (subst (IsIn g) made j) in (m.0, subst (IsIn m.0) (sym grown) (in_append_left m.0 (take i ns) (n ∷ []) m.1), m.2, m.3)),
      (λ h. subst (IsIn g) (sym made) (elim (in_append_cases h.0 (take i ns) (n ∷ []) (subst (IsIn h.0) grown h.1)) [
        | inl l ↦ (so g).1 (h.0, l, h.2, h.3)
        | inr r ↦ elim r [ inl e ↦ absurd (kept (subst (IsKept group vs ms) e h.2)) | inr none ↦ absurd none ]
      ])),
    )

pub some_all : (group : Group) (vs ms : List Coordinates) (ns : List ℕ) (i : ℕ) (gs : List (List ℕ)) → length ns ≤ i → ((n : ℕ) → IsIn n ns ↔ ((n < 48) × HasSymmetry n vs))
    → AreSome group vs ms (take i ns) gs → AreCarriers group vs ms gs
some_all group vs ms ns i gs end exactly so g = (
  (λ j. let m = (so g).0 j in (m.0, m.2, m.3)),
  (λ h. (so g).1 (h.0, subst (IsIn h.0) (sym (take_all i ns end)) ((exactly h.0).1 (h.1.limit, h.1.symmetry)), h.1, h.2)),
)

-- the symmetry is kept exactly where the marks are the same
pub kept_by : (group : Group) (vs ms : List Coordinates) (n : ℕ) (cells images : List Coordinates) (marks : List Bool) → cells ≡ vs → images ≡ images_in cells n → marks ≡ map (has_cell ms) cells
    → (n < 48) × HasSymmetry n vs → is_member group n ≡ true → map (has_cell ms) images ≡ marks → IsKept group vs ms n
kept_by group vs ms n cells images marks c i m is member same = record {
  limit = is.0;
  member = member;
  symmetry = is.1;
  optional =
      ap (λ (us : List Coordinates). map (has_cell ms) (images_in us n)) (sym c) ∙ ap (map (has_cell ms)) (sym i) ∙ same ∙ m ∙ ap (map (has_cell ms)) c;
}

pub marks_by : (group : Group) (vs ms : List Coordinates) (n : ℕ) (cells images : List Coordinates) (marks : List Bool) → cells ≡ vs → images ≡ images_in cells n → marks ≡ map (has_cell ms) cells
    → IsKept group vs ms n → map (has_cell ms) images ≡ marks
marks_by group vs ms n cells images marks c i m kept =
    ap (map (has_cell ms)) (i ∙ ap (λ (us : List Coordinates). images_in us n) c) ∙ kept.optional ∙ ap (map (has_cell ms)) (sym c) ∙ sym m

pub carrier_by : (vs : List Coordinates) (n : ℕ) (cells images : List Coordinates) (places : List ℕ) → cells ≡ vs → images ≡ images_in cells n → places ≡ map (place_of cells) images → places ≡ carrier vs n
carrier_by vs n cells images places c i p =
    p ∙ ap (map (place_of cells)) i ∙ ap (λ (us : List Coordinates). carrier us n) c

-- ---- one more item of a list

pub one_more : {X Y : Type 0} (f : X → Y) (xs : List X) (i : ℕ) (x : X) (y : Y) (before after : List Y) → i < length xs → x ≡ get_or xs i x → y ≡ f x → after ≡ before ++ y ∷ [] → before ≡ map f (take i xs)
    → after ≡ map f (take (i + 1) xs)
one_more {X} {Y} f xs i x y before after lt is made grown so =
    grown
    ∙ ap₂ (λ (ys : List Y) (z : Y). ys ++ z ∷ []) so (made ∙ ap f is)
    ∙ sym (map_more f xs i x lt)
