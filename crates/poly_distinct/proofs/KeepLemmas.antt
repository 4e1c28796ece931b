-- Which symmetries keep the pieces: each rotation, and each reflection where pieces are exchanged for their mirror images.
use Rattle.std.proofs.Common.{◌≡◌, ℕ, ◌<◌, true, false, List, ◌⊎◌, inl, inr, refl, sym, ap, ap₂, subst, ◌∙◌, arith}
use Rattle.std.proofs.Math.Bool.{beq}
use Rattle.std.specs.Cmp.{booleans_Decides}
use Rattle.std.proofs.lemmas.Bool.{cases_Bool, cond-true, cond-false}
use Rattle.poly_cells.specs.Coordinates.{Coordinates}
use Rattle.poly_cells.specs.Points.{Point, point, translated}
use Rattle.poly_cells.specs.Symmetries.{matrix, sent_by, is_rotation}
use Rattle.poly_cells.specs.Products.{composed}
use Rattle.poly_cells.specs.Sets.{IsIn}
use Rattle.poly_cells.specs.Shapes.{IsShape}
use Rattle.poly_cells.specs.Images.{IsImage}
use Rattle.poly_cells.proofs.SetLemmas.{in_map}
use Rattle.poly_cells.proofs.MemberLemmas.{in_from_range, in_to_range}
use Rattle.poly_cells.proofs.Tables.{all_below, pairs}
use Rattle.poly_cells.proofs.SymmetryTables.{composed_in, is_composed, rotation_composed}
use Rattle.poly_cells.proofs.GroupLemmas.{rotation_from_in, in_from_rotation}
use Rattle.poly_texts.specs.Puzzle.{PuzzleValue, IsPuzzle, pieces_of, mirrored_names, has_name}
use Rattle.poly_place.specs.declared.alike.Group.{Group}
use Rattle.poly_place.specs.declared.alike.Group.TheVariants.{Rotations, Symmetries}
use Rattle.poly_place.specs.Placements.{turns_by}
use Rattle.poly_place.specs.Packings.{turns_of}
use Rattle.poly_place.specs.ClassCount.{image_in}
use Rattle.poly_place.specs.Forms.{IsKept}
use Rattle.poly_distinct.specs.Distinct.{image_of, CarriesPieces, Mirrors}
use Rattle.poly_place.proofs.PlacedLemmas.{has_shapes}
use Rattle.poly_place.proofs.CarryLemmas.{one_after, image_point}
use Rattle.poly_distinct.proofs.ImagePackingLemmas.{stays, in_image, from_image}

-- ---- images of images

image_on : (a b : ℕ) → a < 48 → b < 48 → (d e : Point) (us vs ws : List Coordinates) → IsImage b e us vs → IsImage a d vs ws → IsImage (composed a b) (translated d (sent_by a e)) us ws
image_on a b la lb d e us vs ws first second =
    let is = is_composed a b la lb in
    record {
      onto = λ w i.
          let v = second.onto w i in
          let u = first.onto v.0 v.1 in
          (u.0, u.1, v.2 ∙ ap (λ x. translated d (sent_by a x)) u.2 ∙ one_after a b (composed a b) is d e (point u.0));
      into = λ u i.
          let v = first.into u i in
          let w = second.into v.0 v.1 in
          (w.0, w.1, w.2 ∙ ap (λ x. translated d (sent_by a x)) v.2 ∙ one_after a b (composed a b) is d e (point u));
    }

module _ (group : Group) (region ms : List Coordinates) (n : ℕ) (s : IsShape region) (k : IsKept group region ms n) (cells : List Coordinates) (inside : (v : Coordinates) → IsIn v cells → IsIn v region) where
  region_image : IsImage n (k.symmetry.0) cells (image_of region n cells)
  region_image = record {
    onto = λ w i.
        let v = from_image group region ms n s k w cells i in
        (v.0, v.1, ap point v.2 ∙ image_point region n s k.symmetry.0 k.symmetry.1 v.0 (inside v.0 v.1));
    into = λ v i. (image_in region n v, in_image group region ms n s k v cells i, image_point region n s k.symmetry.0 k.symmetry.1 v (inside v i));
  }

  image_inside : (w : Coordinates) → IsIn w (image_of region n cells) → IsIn w region
  image_inside w i =
      let v = from_image group region ms n s k w cells i in
      subst (λ (u : Coordinates). IsIn u region) (sym v.2) (stays group region ms n s k v.0 (inside v.0 v.1))

-- ---- turns

-- a symmetry is a rotation where both or neither of two are whose composition it is
all_parities : all_below 48 (λ a. all_below 48 (λ b. beq (is_rotation (composed a b)) (beq (is_rotation a) (is_rotation b)))) ≡ true
unfolding matrix composed is_rotation
all_parities = refl

parity_composed : (a b : ℕ) → a < 48 → b < 48 → is_rotation (composed a b) ≡ beq (is_rotation a) (is_rotation b)
parity_composed a b la lb = (booleans_Decides (is_rotation (composed a b)) (beq (is_rotation a) (is_rotation b))).0 (pairs 48 (λ a b. beq (is_rotation (composed a b)) (beq (is_rotation a) (is_rotation b))) all_parities a b la lb)

-- where the piece may be reflected it is turned by all symmetries, and else by the rotations
turns_all : (p : PuzzleValue) (name m : ℕ) → has_name (mirrored_names p) name ≡ true → m < 48 → IsIn m (turns_of p name)
turns_all p name m h lt = subst (λ (g : Group). IsIn m (turns_by g)) (sym (cond-true (has_name (mirrored_names p) name) Symmetries Rotations h)) (in_to_range m 0 48 (omega arith) (omega arith))

turns_rotation : (p : PuzzleValue) (name m : ℕ) → m < 48 → is_rotation m ≡ true → IsIn m (turns_of p name)
turns_rotation p name m lt r =
    elim (cases_Bool (has_name (mirrored_names p) name)) [
      | inl h ↦ turns_all p name m h lt
      | inr h ↦ subst (λ (g : Group). IsIn m (turns_by g)) (sym (cond-false (has_name (mirrored_names p) name) Symmetries Rotations h)) (in_from_rotation m lt r)
    ]

-- what turns it is a symmetry, and a rotation where it may not be reflected
turn_is : (p : PuzzleValue) (name m : ℕ) → IsIn m (turns_of p name) → (m < 48) × ((has_name (mirrored_names p) name ≡ true) ⊎ (is_rotation m ≡ true))
turn_is p name m i =
    elim (cases_Bool (has_name (mirrored_names p) name)) [
      | inl h ↦
          let there = subst (λ (g : Group). IsIn m (turns_by g)) (cond-true (has_name (mirrored_names p) name) Symmetries Rotations h) i in
          let lt = in_from_range m 0 48 there in
          (omega (arith, lt), inl h)
      | inr h ↦
          let r = rotation_from_in m (subst (λ (g : Group). IsIn m (turns_by g)) (cond-false (has_name (mirrored_names p) name) Symmetries Rotations h) i) in
          (r.0, inr r.1)
    ]

module _ (p : PuzzleValue) (z : IsPuzzle p) (group : Group) (n : ℕ) (k : IsKept group p.region p.maybe_cells n) where
  shape : IsShape p.region
  shape = (has_shapes p z).region

  -- rotations keep each piece
  pub rotation_keeps : is_rotation n ≡ true → CarriesPieces p (λ name. name) n
  rotation_keeps r = record {
    placed = λ name piece cells i a.
        let m = a.symmetry in
        let t = turn_is p name m a.turned in (
          piece,
          i,
          record {
            symmetry = composed n m;
            by = translated k.symmetry.0 (sent_by n a.by);
            turned = elim t.1 [
              | inl h ↦ turns_all p name (composed n m) h (composed_in n m k.limit t.0)
              | inr h ↦ turns_rotation p name (composed n m) (composed_in n m k.limit t.0) (rotation_composed n m k.limit t.0 r h)
            ];
            image = image_on n m k.limit t.0 k.symmetry.0 a.by piece cells (image_of p.region n cells) a.image (region_image group p.region p.maybe_cells n shape k cells a.inside);
            inside = image_inside group p.region p.maybe_cells n shape k cells a.inside;
          },
        );
    needed = λ name i. refl;
    any = λ name i. refl;
    spare = λ name i. refl;
    equal = λ a b i j e. e;
    apart = λ a b i j e. e;
    onto = λ b i. (b, i, refl);
  }

  -- and reflections where pieces are exchanged for their mirror images
  pub reflection_keeps : (s : ℕ → ℕ) → Mirrors p s → is_rotation n ≡ false → CarriesPieces p s n
  reflection_keeps s y r = record {
    placed = λ name piece cells i a.
        let m = a.symmetry in
        let t = turn_is p name m a.turned in
        let other = y.shapes name piece i in
        let b = other.2 in
        let l = b.symmetry in
        let nm = composed n m in
        let nm_in = composed_in n m k.limit t.0 in (
          other.0,
          other.1,
          record {
            symmetry = composed nm l;
            by = translated (translated k.symmetry.0 (sent_by n a.by)) (sent_by nm b.by);
            turned = by_case piece name m l i t b.limit b.reflects;
            image = image_on nm l nm_in b.limit (translated k.symmetry.0 (sent_by n a.by)) b.by other.0 piece (image_of p.region n cells) b.image
                (image_on n m k.limit t.0 k.symmetry.0 a.by piece cells (image_of p.region n cells) a.image (region_image group p.region p.maybe_cells n shape k cells a.inside));
            inside = image_inside group p.region p.maybe_cells n shape k cells a.inside;
          },
        );
    needed = y.needed;
    any = y.any;
    spare = y.spare;
    equal = y.equal;
    apart = y.apart;
    onto = y.onto;
  }
    where
      by_case : (piece : List Coordinates) (name m l : ℕ) → IsIn (name, piece) (pieces_of p) → (m < 48) × ((has_name (mirrored_names p) name ≡ true) ⊎ (is_rotation m ≡ true)) → l < 48
          → (is_rotation l ≡ false) ⊎ (has_name (mirrored_names p) (s name) ≡ true) → IsIn (composed (composed n m) l) (turns_of p (s name))
      by_case piece name m l i t ll f =
          let same = y.mirrored name (in_map (λ (x : ℕ × List Coordinates). x.0) (name, piece) (pieces_of p) i) in
          let nm_in = composed_in n m k.limit t.0 in
          let all_in = composed_in (composed n m) l nm_in ll in
          elim f [
            | inr h ↦ turns_all p (s name) (composed (composed n m) l) h all_in
            | inl h ↦ elim t.1 [
              | inl g ↦ turns_all p (s name) (composed (composed n m) l) (same ∙ g) all_in
              | inr g ↦
                  let odd : is_rotation (composed n m) ≡ false = parity_composed n m k.limit t.0 ∙ ap₂ beq r g in
                  turns_rotation p (s name) (composed (composed n m) l) all_in (parity_composed (composed n m) l nm_in ll ∙ ap₂ beq odd h)
            ]
          ]
