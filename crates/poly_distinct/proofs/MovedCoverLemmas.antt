-- Each packing is brought to a packing by each symmetry that keeps the region, its optional cells and the pieces, once equal pieces are
-- in order again.
use Rattle.std.proofs.Common.{◌≡◌, ℕ, Bool, List, refl, sym, ap, subst, ◌∙◌}
use Rattle.poly_cells.specs.Coordinates.{Coordinates}
use Rattle.poly_cells.specs.Sets.{IsIn}
use Rattle.poly_cells.proofs.SetLemmas.{in_map, in_from_map}
use Rattle.shared_words.specs.Lists.{has}
use Rattle.cover_problem.proofs.CoverLemmas.{cover_is_path}
use Rattle.poly_texts.specs.Puzzle.{PuzzleValue, IsPuzzle}
use Rattle.poly_place.specs.declared.alike.Group.{Group}
use Rattle.poly_place.specs.Packings.{ChoiceValue, IsPacking, packing_problem, SetStandsFor}
use Rattle.poly_place.specs.Chosen.{is_among, chosen_by, packing_value}
use Rattle.poly_place.specs.Classes.{AreAlike}
use Rattle.poly_place.specs.Swaps.{AreEqual}
use Rattle.poly_place.specs.Forms.{IsKept}
use Rattle.poly_distinct.specs.Distinct.{IsPath, IsMoved, CarriesPieces, image_choice, image_choices}
use Rattle.poly_place.proofs.PlacedLemmas.{has_shapes}
use Rattle.poly_place.proofs.PackingLemmas.{are_packings, one_packing}
use Rattle.poly_place.proofs.ChosenLemmas.{cover_packs, cover_stands, in_from_among, among_from_in}
use Rattle.poly_place.proofs.SwapLemmas.{count_swaps_once}
use Rattle.poly_place.proofs.ClassLemmas.{alike}
use Rattle.poly_distinct.proofs.ImagePackingLemmas.{images_pack}
use Rattle.poly_place.proofs.PartLemmas.{AreApart}
use Rattle.poly_distinct.proofs.LaidLemmas.{parts_alike}

module _ (p : PuzzleValue) (z : IsPuzzle p) where
  -- a path for each packing
  path_of_packing : (chosen : ChoiceValue → Bool) → IsPacking p chosen → (r : List ℕ) × IsPath p r × ((c : ChoiceValue) → is_among (chosen_by p r) c ≡ chosen c)
  path_of_packing chosen a =
      let laws = are_packings p z in
      let set = laws.some_cover chosen a in
      let cover = laws.covers set.0 chosen set.1 a in
      let path = cover_is_path (packing_problem p) set.0 cover in
      let r = path.0 in
      let same : (o : ℕ) → has r o ≡ set.0 o = path.3 in
      let there : IsPath p r = record {
        options = λ o h. cover.options o (sym (same o) ∙ h);
        covers = λ i b c. let o = cover.covers i b c in (o.0, same o.0 ∙ o.1, o.2);
        once = λ i b c h g. cover.once i b c (sym (same b) ∙ h) (sym (same c) ∙ g);
        useful = λ o h. cover.useful o (sym (same o) ∙ h);
      } in
      let stands : SetStandsFor p (has r) chosen = record {
        within = λ o h. set.1.within o (sym (same o) ∙ h);
        forth = λ o h. set.1.forth o (sym (same o) ∙ h);
        back = λ c h. let o = set.1.back c h in (o.0, same o.0 ∙ o.1, o.2, o.3);
        left = λ o past within. ((λ h. (set.1.left o past within).0 (sym (same o) ∙ h)), (λ h. same o ∙ (set.1.left o past within).1 h));
      } in
      (r, there, λ c. one_packing p (has r) (is_among (chosen_by p r)) chosen (cover_stands p z r there) stands c)

  apart_in : (q : List ℕ) → IsPath p q → AreApart (chosen_by p q)
  apart_in q e v c d i j k l = (cover_packs p z q e).apart v c d (among_from_in (chosen_by p q) c i) (among_from_in (chosen_by p q) d j) k l

  pub inside_of : (q : List ℕ) → IsPath p q → (c : ChoiceValue) → IsIn c (chosen_by p q) → (v : Coordinates) → IsIn v c.cells → IsIn v p.region
  inside_of q e c i v j = ((cover_packs p z q e).placed c (among_from_in (chosen_by p q) c i)).placed.inside v j

  module _ (group : Group) (n : ℕ) (k : IsKept group p.region p.maybe_cells n) (s : ℕ → ℕ) (keeps : CarriesPieces p s n) (q : List ℕ) (e : IsPath p q) where
    pub moved_path : (r : List ℕ) × IsPath p r × IsMoved p s n q r
    moved_path =
        let cs = chosen_by p q in
        let swaps = count_swaps_once p z in
        let images = images_pack p z group n k s keeps cs (swaps.apart (is_among cs) (cover_packs p z q e)) in
        let other = (swaps.once (is_among (image_choices p s n cs)) images).some in
        let r = path_of_packing other.0 other.1 in (
          r.0,
          r.1,
          record {
            forth = λ c i.
                let d = other.2.forth (image_choice p s n c) (among_from_in (image_choices p s n cs) (image_choice p s n c) (in_map (image_choice p s n) c cs i)) in
                (d.0, in_from_among (chosen_by p r.0) d.0 (r.2 d.0 ∙ d.1), d.2, d.3);
            back = λ d i.
                let b = other.2.back d (sym (r.2 d) ∙ among_from_in (chosen_by p r.0) d i) in
                let c = in_from_map (image_choice p s n) b.0 cs (in_from_among (image_choices p s n cs) b.0 b.1) in
                (c.0, c.1, sym b.2 ∙ ap (λ (x : ChoiceValue). x.cells) c.2, subst (λ (x : ChoiceValue). AreEqual p d.name x.name) c.2 b.3);
          },
        )

    -- and it is alike
    pub moved_alike : (r : List ℕ) → IsPath p r → IsMoved p s n q r → AreAlike group (packing_value p q) (packing_value p r)
    moved_alike r f m =
        alike group (packing_value p q) (packing_value p r) (has_shapes p z).region refl refl (
          n,
          k,
          parts_alike group p.region p.maybe_cells n (has_shapes p z).region k (chosen_by p q) (chosen_by p r) (inside_of q e) (apart_in q e) (apart_in r f)
              (record {
                forth = λ c i. let d = m.forth c i in (d.0, d.1, d.2);
                back = λ d i. let c = m.back d i in (c.0, c.1, c.2);
              }),
        )
