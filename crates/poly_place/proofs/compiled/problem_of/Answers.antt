use Rattle.std.proofs.Common.{◌∙◌, ℕ, List, ◌++◌, ap, ap₂, ◌+◌, arith, length, map, vec_items}
use Rattle.std.specs.Global.{Vec}
use Rattle.std.proofs.lemmas.List.{map-append}
use Rattle.std.specs.String.{string_bytes}
use Rattle.poly_place.specs.Compiled.{left_out}
use Rattle.poly_place.proofs.CountLemmas.{are_few, needed_count}
use Rattle.poly_place.proofs.MadeLemmas.{AreParts, parts_make, not_faulty}
use Rattle.poly_place.proofs.compiled.problem_of.Goals as goal
use Rattle.poly_place.proofs.compiled.problem_of.Goals.{After-new}

-- the parts of the problem
parts : (c : After-new) → AreParts c.args.numbers.now (map string_bytes c.in_ok-names.names.items) (length c.args.pieces.now + length c.args.cells.now) (map vec_items c.append.new.self.items)
parts c = record {
  names_are = c.in_ok-names.ensures;
  primary_is =
      let count = needed_count c.args.numbers.now in
      let a = ap length c.requires.pieces in
      let b = ap length c.requires.cells in
      omega arith;
  options_are =
      ap (λ (os : List (Vec ℕ)). map vec_items os) c.in_ok-append.ensures.items ∙ map-append vec_items c.in_ok-options.options.items c.in_ok-leavings.leavings.items
      ∙ ap₂ (λ (xs ys : List (List ℕ)). xs ++ ys) c.in_ok-options.ensures c.in_ok-leavings.ensures;
}

pub overflow_cast-primary : goal.overflow_cast-primary
overflow_cast-primary c =
    let few = are_few c.args.numbers.now c.requires.puzzle in
    let a = ap length c.requires.pieces in
    let b = ap length c.requires.cells in
    omega arith

pub returns-in-Ok : goal.returns-in-Ok
returns-in-Ok c =
    let m = parts_make c.args.numbers.now c.requires.puzzle _ _ _ (parts (goal.at.returns-in-Ok c).After-new) c.requires.small in
    let given = c.in-Ok.ensures.made in
    cc

pub unreachable-requires : goal.unreachable-requires
unreachable-requires c =
    let m = parts_make c.args.numbers.now c.requires.puzzle _ _ _ (parts (goal.at.unreachable-requires c).After-new) c.requires.small in
    not_faulty _ c.in-Fault.field-0 _ _ m c.in-Fault.is c.in-Err.ensures.refused

pub all_options-requires-clause-primary : goal.all_options-requires-clause-primary
all_options-requires-clause-primary c =
    let count = needed_count c.args.numbers.now in
    let a = ap length c.requires.pieces in
    let b = ap length c.requires.cells in
    omega arith

pub leaving_options-requires-clause-primary : goal.leaving_options-requires-clause-primary
leaving_options-requires-clause-primary c =
    let count = needed_count c.args.numbers.now in
    let a = ap length c.requires.pieces in
    let b = ap length c.requires.cells in
    omega arith

pub leaving_options-requires-clause-lefts : goal.leaving_options-requires-clause-lefts
leaving_options-requires-clause-lefts c = ap (map vec_items) c.as_slice.ensures.value ∙ c.in_ok-lefts.ensures ∙ ap left_out c.puzzle.ensures
