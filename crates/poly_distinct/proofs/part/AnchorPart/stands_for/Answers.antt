use Rattle.std.proofs.Common.{ℕ, List, length, sym, ap, subst, ◌∙◌}
use Rattle.shared_words.specs.Lists.{has}
use Rattle.shared_words.specs.Answers.{Returns}
use Rattle.cover_problem.specs.ExactCover.{IsExactCover}
use Rattle.poly_cells.specs.Coordinates.{Coordinates}
use Rattle.poly_cells.specs.Sets.{IsIn}
use Rattle.poly_distinct.specs.Distinct.{images_by}
use Rattle.poly_distinct.specs.Moves.{thing_of}
use Rattle.poly_distinct.specs.UpTo.{PartValue, part_with, part_problem, symmetries_in, stands_for_in}
use Rattle.poly_distinct.proofs.PartLemmas.{within_at, whole_one, whole_covers_one, cells_shown, cells_in_region, moves_lie, moves_keep, stands_is}
use Rattle.poly_distinct.proofs.part.AnchorPart.stands_for.Goals as goal

pub whole_path-requires : goal.whole_path-requires
whole_path-requires c =
    let e = subst (λ (a : PartValue). IsExactCover (part_problem a) (has c.args.path.now)) (sym c.self.view_is) c.requires in
    within_at (part_with c.self.inside.compiled.now c.self.inside.group (thing_of c.self.inside.anchor)) c.self.invariant.sound c.self.inside.numbers.items _ c.args.path.now c.self.invariant.numbers_are c.as_slice.ensures.value e

pub packing_of-requires : goal.packing_of-requires
packing_of-requires c =
    let e = subst (λ (a : PartValue). IsExactCover (part_problem a) (has c.args.path.now)) (sym c.self.view_is) c.requires in
    let a = part_with c.self.inside.compiled.now c.self.inside.group (thing_of c.self.inside.anchor) in
    let w = whole_one a _ _ c.args.path.now _ _ c.self.invariant.numbers_are c.as_slice.ensures.value c.in_ok-whole.ensures c.as_slice-2.ensures.value in
    whole_covers_one a c.self.invariant.sound c.args.path.now c.as_slice-2.result.now w e

pub image_count-requires-clause-anchor : goal.image_count-requires-clause-anchor
image_count-requires-clause-anchor c = moves_lie (part_with c.self.inside.compiled.now c.self.inside.group (thing_of c.self.inside.anchor)) _ _ _ c.self.invariant

pub image_count-requires-clause-inside : goal.image_count-requires-clause-inside
image_count-requires-clause-inside c =
    let e = subst (λ (a : PartValue). IsExactCover (part_problem a) (has c.args.path.now)) (sym c.self.view_is) c.requires in
    let a = part_with c.self.inside.compiled.now c.self.inside.group (thing_of c.self.inside.anchor) in
    let w = whole_one a _ _ c.args.path.now _ _ c.self.invariant.numbers_are c.as_slice.ensures.value c.in_ok-whole.ensures c.as_slice-2.ensures.value in
    let cells = cells_shown a c.args.path.now c.as_slice-2.result.now w c.in_ok-packing.packing c.in_ok-packing.ensures.value c.placements.result.now c.placements.ensures c.first_cells-cells.result.now c.first_cells-cells.ensures in
    moves_keep a _ _ _ c.self.invariant c.first_cells-cells.result.now (λ v i. cells_in_region a c.self.invariant.sound c.self.invariant.anchor c.args.path.now e v (subst (IsIn v) cells i))

pub returns : goal.returns
returns c =
    let a = part_with c.self.inside.compiled.now c.self.inside.group (thing_of c.self.inside.anchor) in
    let w = whole_one a _ _ c.args.path.now _ _ c.self.invariant.numbers_are c.as_slice.ensures.value c.in_ok-whole.ensures c.as_slice-2.ensures.value in
    let cells = cells_shown a c.args.path.now c.as_slice-2.result.now w c.in_ok-packing.packing c.in_ok-packing.ensures.value c.placements.result.now c.placements.ensures c.first_cells-cells.result.now c.first_cells-cells.ensures in
    subst (λ (n : ℕ). Returns c.image_count.result n)
    (stands_is a _ _ _ c.self.invariant c.first_cells-cells.result.now ∙ ap (λ (us : List Coordinates). length (images_by a.puzzle.region (symmetries_in a) us)) cells
    ∙ ap (λ (b : PartValue). stands_for_in b c.args.path.now) c.self.view_is) c.image_count.ensures
