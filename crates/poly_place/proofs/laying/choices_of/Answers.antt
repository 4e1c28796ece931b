use Rattle.std.proofs.Common.{◌≡◌, ◌<◌, ◌||◌, ◌&&◌, ◌++◌, ◌∷◌, [], ℕ, Bool, List, length, sym, ap, ap₂, subst, ◌∙◌, rules}
use Rattle.std.specs.List.{list_any}
use Rattle.std.proofs.lemmas.Iterator.Consumers.{YieldsList-turn}
use Rattle.std.proofs.lemmas.Iterator.Adapters.{YieldsList-from_vec}
use Rattle.poly_cells.specs.Coordinates.{Coordinates}
use Rattle.poly_cells.specs.Sets.{IsIn}
use Rattle.poly_cells.proofs.SetLemmas.{in_at}
use Rattle.poly_texts.specs.Puzzle.{PuzzleValue, is_needed}
use Rattle.poly_place.specs.Tables.{has_bit}
use Rattle.poly_place.specs.Packings.{ChoiceValue, choice_with, first_cell, has_room_for, may_be_chosen}
use Rattle.poly_place.proofs.ChoiceLemmas.{useful_is, placed_first, mapped_kept, mapped_left}
use Rattle.poly_place.proofs.laying.choices_of.Goals as goal
use Rattle.poly_place.proofs.laying.choices_of.Goals.{In-Some, After-may_be_chosen}

-- the cells are one of the placements
member : (c : In-Some) → IsIn c.in-Some.cells c.in_ok-sets.sets.items
member c =
    let turn =
    YieldsList-turn (YieldsList-from_vec {s = c.into_iter-cells-iterator.result} c.in_ok-sets.sets.items (search rules) (search rules)) c.loop-cells.yielded c.loop-cells.cells-iterator c.loop-cells.yielded_by
    c.next.result c.next.new.self c.in-Some.cells c.in-Some.is c.next.ensures.steps in
    subst (λ s. IsIn s c.in_ok-sets.sets.items) (sym turn.1) (in_at c.in_ok-sets.sets.items _ _ turn.0)

-- the test is that of the choice
test : (c : After-may_be_chosen) → c.may_be_chosen.result ≡ may_be_chosen c.args.numbers.now (choice_with c.args.name c.in-Some.cells)
test c =
    c.may_be_chosen.ensures
    ∙ ap (λ (vs : List Coordinates). (c.is_needed-is_needed.result || list_any (has_bit c.args.filled.now) vs) && has_room_for c.args.numbers.now c.following-following.result vs) c.cells-in-loop-cells.ensures.value
    ∙ ap₂ (λ (a b : Bool). a && b)
    (useful_is c.args.numbers.now c.args.filled.now c.args.name c.in-Some.cells c.is_needed-is_needed.result c.requires (c.is_needed-is_needed.ensures ∙ ap (λ (p : PuzzleValue). is_needed p c.args.name) c.puzzle-puzzle.ensures))
    (ap (λ (k : ℕ). has_room_for c.args.numbers.now k c.in-Some.cells) c.following-following.ensures)

pub may_be_chosen-requires-clause-some : goal.may_be_chosen-requires-clause-some
may_be_chosen-requires-clause-some c = subst (λ (vs : List Coordinates). 0 < length vs) (sym c.cells-in-loop-cells.ensures.value) c.cells-in-loop-cells.ensures.shape.some

pub may_be_chosen-requires-clause-inside : goal.may_be_chosen-requires-clause-inside
may_be_chosen-requires-clause-inside c =
    let i = member (goal.at.may_be_chosen-requires-clause-inside c).In-Some in
    let first = placed_first _ _ _ c.in_ok-sets.sets.items c.in-Some.cells c.in_ok-sets.ensures.exactly i c.cells-in-loop-cells.ensures.shape.some in
    subst (λ (vs : List Coordinates). IsIn (first_cell vs) c.args.numbers.now.region) (sym c.cells-in-loop-cells.ensures.value)
    (subst (λ (vs : List Coordinates). IsIn (first_cell c.in-Some.cells) vs) (c.region.ensures.value ∙ ap (λ (p : PuzzleValue). p.region) c.puzzle-puzzle.ensures) first)

pub loop-cells-preserved-in-Continue-branch-2 : goal.loop-cells-preserved-in-Continue-branch-2
loop-cells-preserved-in-Continue-branch-2 c = record {
  can_next = tt;
  is_finite = tt;
  same =
      mapped_kept (choice_with c.args.name) (may_be_chosen c.args.numbers.now) c.loop-cells.yielded c.in-Some.cells [] c.loop-cells.choices.items _
      (sym (test (goal.at.loop-cells-preserved-in-Continue-branch-2 c).After-may_be_chosen) ∙ c.if-may_be_chosen.true)
      (c.in_ok-push.ensures.items ∙ ap (λ (d : ChoiceValue). c.loop-cells.choices.items ++ d ∷ []) c.new.ensures) c.loop-cells.invariant.same;
}

pub loop-cells-preserved : goal.loop-cells-preserved
loop-cells-preserved c = record {
  can_next = tt;
  is_finite = tt;
  same =
      mapped_left (choice_with c.args.name) (may_be_chosen c.args.numbers.now) c.loop-cells.yielded c.in-Some.cells [] c.loop-cells.choices.items
      (sym (test (goal.at.loop-cells-preserved c).After-may_be_chosen) ∙ c.if-may_be_chosen.false) c.loop-cells.invariant.same;
}
