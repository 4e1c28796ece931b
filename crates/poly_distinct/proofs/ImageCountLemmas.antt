-- The sets of cells to which symmetries bring cells are as many as the lists to which their carriers bring the places.
use Rattle.std.proofs.Common.{◌≡◌, ℕ, ◌+◌, ◌<◌, true, Option, List, [], ◌∷◌, ◌++◌, map, filter, take, length, get_or, vec_items, inl, inr, refl, sym, ap, ap₂, subst, ◌∙◌, arith}
use Rattle.std.specs.Global.{Vec}
use Rattle.std.proofs.lemmas.List.{map-append}
use Rattle.std.proofs.lemmas.List.Elements.{filter-append}
use Rattle.std.specs.Ordering.{nat_cmp}
use Rattle.std.proofs.lemmas.Cmp.{tied_itself}
use Rattle.poly_cells.specs.Coordinates.{Coordinates, coordinates_cmp}
use Rattle.poly_cells.specs.Sets.{IsIn, in_order}
use Rattle.poly_cells.proofs.SetLemmas.{in_map, in_from_map, in_from_order, in_to_order, in_order_rises, take_next}
use Rattle.poly_cells.proofs.MemberLemmas.{in_filter, in_from_filter}
use Rattle.poly_place.specs.Lists.{lists_of}
use Rattle.poly_texts.specs.Puzzle.{PuzzleValue, IsPuzzle}
use Rattle.poly_place.specs.declared.alike.Group.{Group}
use Rattle.poly_place.specs.Placements.{cells_cmp}
use Rattle.poly_place.specs.Packings.{Thing, place_of}
use Rattle.poly_place.specs.ClassCount.{image_in}
use Rattle.poly_place.specs.Forms.{IsKept, AreBelow, AreCarriers, carrier, carried, forms_cmp}
use Rattle.poly_place.proofs.OrderLemmas.{cells_total, cells_exact}
use Rattle.poly_place.proofs.KeyLemmas.{forms_total, forms_exact}
use Rattle.poly_place.proofs.PlacedLemmas.{has_shapes}
use Rattle.poly_place.proofs.WalkLemmas.{item_in}
use Rattle.poly_place.proofs.DistinctLemmas.{distinct_rising}
use Rattle.poly_distinct.specs.Distinct.{image_of, images_by}
use Rattle.poly_distinct.specs.Moves.{HavePlaces, LiesInside, fixed_place, images_at, kept_at, leaves_place, leaves_thing}
use Rattle.poly_distinct.proofs.MovesLemmas.{AreInside, same_orders, carried_is, images_inside, leaves_is, kept_there, there_kept}
use Rattle.poly_distinct.proofs.NewLemmas.{no_longer}

-- ---- one carrier after the other

pub one_place : (fixed : Option ℕ) (places : List ℕ) (cs : List (Vec ℕ)) (i : ℕ) (c : Vec ℕ) (shown : List ℕ) → HavePlaces fixed places (lists_of cs) → i < length cs → c ≡ get_or cs i c → shown ≡ vec_items c
    → HavePlaces fixed places (shown ∷ [])
one_place fixed places cs i c shown h lt at is =
    let member : IsIn (vec_items c) (lists_of cs) = in_map vec_items c cs (item_in cs i c lt at) in
    record {
      each = λ g j. elim j [ inl e ↦ subst (λ (vs : List ℕ). AreBelow (length vs) places) (sym (e ∙ is)) (h.each (vec_items c) member) | inr none ↦ absurd none ];
      one = λ g j k e. elim j [ inl f ↦ subst (λ (vs : List ℕ). k < length vs) (sym (f ∙ is)) (h.one (vec_items c) member k e) | inr none ↦ absurd none ];
    }

pub images_next : (fixed : Option ℕ) (places : List ℕ) (cs : List (Vec ℕ)) (i : ℕ) (c : Vec ℕ) (shown : List ℕ) (old new : List (List ℕ)) → i < length cs → c ≡ get_or cs i c → shown ≡ vec_items c
    → old ≡ images_at fixed places (lists_of (take i cs)) → new ≡ old ++ images_at fixed places (shown ∷ []) → new ≡ images_at fixed places (lists_of (take (i + 1) cs))
images_next fixed places cs i c shown old new lt at is so push =
    let f = λ (g : List ℕ). in_order nat_cmp (carried g places) in
    let test = leaves_place fixed in
    push ∙ ap₂ (λ (us : List (List ℕ)) (g : List ℕ). us ++ images_at fixed places (g ∷ [])) so is
    ∙ sym (ap (images_at fixed places) (ap lists_of (take_next cs i c lt at) ∙ map-append vec_items (take i cs) (c ∷ []))
    ∙ ap (map f) (filter-append test (lists_of (take i cs)) (vec_items c ∷ []))
    ∙ map-append f (filter test (lists_of (take i cs))) (filter test (vec_items c ∷ [])))

module _ (p : PuzzleValue) (z : IsPuzzle p) (group : Group) (gs : List (List ℕ)) (all : AreCarriers group p.region p.maybe_cells gs) (t : Thing) (inside : LiesInside p t)
    (cells : List Coordinates) (within : AreInside p.region cells) where
  abbrev at : Coordinates → ℕ
  at = place_of p.region

  -- the symmetries, the sets of cells, and the lists of places
  abbrev ns : List ℕ
  ns = kept_at p group t

  abbrev images : List (List Coordinates)
  images = map (λ n. image_of p.region n cells) ns

  abbrev lists : List (List ℕ)
  lists = images_at (fixed_place p.region t) (map at cells) gs

  -- the list has the places of the set
  abbrev ArePlacesOf : List Coordinates → List ℕ → Type 0
  ArePlacesOf us ks = ks ≡ map at us

  image_inside : (n : ℕ) → IsKept group p.region p.maybe_cells n → AreInside p.region (image_of p.region n cells)
  image_inside n k v i = images_inside p z group gs all n k cells within v (in_from_order coordinates_cmp v (map (image_in p.region n) cells) i)

  brought : (n : ℕ) → IsKept group p.region p.maybe_cells n → in_order nat_cmp (carried (carrier p.region n) (map at cells)) ≡ map at (image_of p.region n cells)
  brought n k = carried_is p.region (has_shapes p z).region n cells within (images_inside p z group gs all n k cells within)

  -- a set, with the symmetry that brings the cells there
  from_set : (us : List Coordinates) → IsIn us (in_order cells_cmp images) → (n : ℕ) × IsKept group p.region p.maybe_cells n × (leaves_thing p t n ≡ true) × IsIn n ns × (us ≡ image_of p.region n cells)
  from_set us i =
      let n = in_from_map (λ n. image_of p.region n cells) us ns (in_from_order cells_cmp us images i) in
      let k = there_kept p z group gs all t n.0 n.1 in
      (n.0, k.0, k.1, n.1, n.2)

  set_inside : (us : List Coordinates) → IsIn us (in_order cells_cmp images) → AreInside p.region us
  set_inside us i = let n = from_set us i in subst (λ (vs : List Coordinates). AreInside p.region vs) (sym n.4) (image_inside n.0 n.1)

  forth : (us : List Coordinates) → IsIn us (in_order cells_cmp images) → (ks : List ℕ) × IsIn ks (in_order forms_cmp lists) × ArePlacesOf us ks
  forth us i =
      let n = from_set us i in
      let g = carrier p.region n.0 in
      let stays = leaves_is p z group gs all t inside n.0 n.1 ∙ n.2 in
      let member = in_filter (leaves_place (fixed_place p.region t)) g gs ((all g).1 (n.0, n.1, refl)) stays in (
        in_order nat_cmp (carried g (map at cells)),
        in_to_order forms_exact (in_order nat_cmp (carried g (map at cells))) lists (in_map (λ (h : List ℕ). in_order nat_cmp (carried h (map at cells))) g (filter (leaves_place (fixed_place p.region t)) gs) member),
        brought n.0 n.1 ∙ ap (λ (vs : List Coordinates). map at vs) (sym n.4),
      )

  back : (ks : List ℕ) → IsIn ks (in_order forms_cmp lists) → (us : List Coordinates) × IsIn us (in_order cells_cmp images) × ArePlacesOf us ks
  back ks i =
      let g = in_from_map (λ (h : List ℕ). in_order nat_cmp (carried h (map at cells))) ks (filter (leaves_place (fixed_place p.region t)) gs) (in_from_order forms_cmp ks lists i) in
      let f = in_from_filter (leaves_place (fixed_place p.region t)) g.0 gs g.1 in
      let n = (all g.0).0 f.0 in
      let stays = sym (leaves_is p z group gs all t inside n.0 n.1) ∙ ap (leaves_place (fixed_place p.region t)) (sym n.2) ∙ f.1 in
      let us = image_of p.region n.0 cells in (
        us,
        in_to_order cells_exact us images (in_map (λ n. image_of p.region n cells) n.0 ns (kept_there p z group gs all t n.0 n.1 stays)),
        g.2 ∙ ap (λ (h : List ℕ). in_order nat_cmp (carried h (map at cells))) n.2 ∙ brought n.0 n.1,
      )

  -- no two sets have the same places
  told : (us vs : List Coordinates) (ks : List ℕ) → IsIn us (in_order cells_cmp images) → IsIn vs (in_order cells_cmp images) → ArePlacesOf us ks → ArePlacesOf vs ks → us ≡ vs
  told us vs ks i j a b =
      cells_exact us vs (sym (same_orders p.region (has_shapes p z).region us vs (set_inside us i) (set_inside vs j))
      ∙ ap₂ forms_cmp (sym a) (sym b) ∙ tied_itself forms_total ks)

  pub as_many_images : length (in_order forms_cmp lists) ≡ length (images_by p.region ns cells)
  as_many_images =
      let here = no_longer ArePlacesOf (in_order cells_cmp images) (in_order forms_cmp lists) (distinct_rising cells_total (in_order cells_cmp images) (in_order_rises cells_total images)) forth
      (λ us vs ks i j k a b. told us vs ks i j a b) in
      let there = no_longer (λ (ks : List ℕ) (us : List Coordinates). ArePlacesOf us ks) (in_order forms_cmp lists) (in_order cells_cmp images)
      (distinct_rising forms_total (in_order forms_cmp lists) (in_order_rises forms_total lists)) back
      (λ ks ls us i j k a b. a ∙ sym b) in
      omega (arith, here, there)

  -- by what the code has
  pub images_counted : (fixed : Option ℕ) (ks : List ℕ) (hs : List (List ℕ)) → fixed ≡ fixed_place p.region t → ks ≡ map at cells → hs ≡ gs → (found put : List (List ℕ))
      → found ≡ images_at fixed ks hs → put ≡ in_order forms_cmp found → length put ≡ length (images_by p.region ns cells)
  images_counted fixed ks hs f k h found put made ordered =
      ap (λ (us : List (List ℕ)). length us)
      (ordered ∙ ap (in_order forms_cmp)
      (made ∙ ap (λ (o : Option ℕ). images_at o ks hs) f ∙ ap₂ (λ (ms : List ℕ) (us : List (List ℕ)). images_at (fixed_place p.region t) ms us) k h))
      ∙ as_many_images
