use Rattle.std.proofs.Common.{◌≡◌, ℕ, List, map, ap₂, sym, subst, ◌∙◌}
use Rattle.shared_words.specs.Lists.{has}
use Rattle.poly_place.specs.Packings.{ChoiceValue, IsPacking, SetStandsFor}
use Rattle.poly_place.specs.Chosen.{AreInPieceOrder, ComeByPiece, choice_numbered, numbering, chosen_by, is_among}
use Rattle.poly_place.proofs.ChosenLemmas.{numbered, cover_stands, cover_packs}
use Rattle.poly_place.proofs.PieceOrderLemmas.{placed_by_piece, placed_in_order}
use Rattle.poly_place.proofs.packing.packing_of.Goals as goal
use Rattle.poly_place.proofs.packing.packing_of.Goals.{In_ok-placements}

-- the choices are those of the path
here : (c : In_ok-placements) → c.in_ok-placements.placements.items ≡ chosen_by c.args.compiled.now c.args.path.now
here c =
    c.in_ok-placements.ensures
    ∙ ap₂ (λ (cs : List ChoiceValue) (ns : List ℕ). map (choice_numbered cs) (numbering cs ns)) c.choices.ensures.value (c.as_slice.ensures.value ∙ c.in_ok-numbers.ensures)

pub chosen-requires : goal.chosen-requires
chosen-requires c = numbered c.args.compiled.now c.args.path.now _ c.requires (c.as_slice.ensures.value ∙ c.in_ok-numbers.ensures)

pub returns-clause-packs : goal.returns-clause-packs
returns-clause-packs c =
    subst (λ (cs : List ChoiceValue). IsPacking c.args.compiled.now (is_among cs)) (sym (here (goal.at.returns-clause-packs c).In_ok-placements))
    (cover_packs c.args.compiled.now c.choices.ensures.puzzle c.args.path.now c.requires)

pub returns-clause-stands : goal.returns-clause-stands
returns-clause-stands c =
    subst (λ (cs : List ChoiceValue). SetStandsFor c.args.compiled.now (has c.args.path.now) (is_among cs)) (sym (here (goal.at.returns-clause-stands c).In_ok-placements))
    (cover_stands c.args.compiled.now c.choices.ensures.puzzle c.args.path.now c.requires)

pub returns-clause-order : goal.returns-clause-order
returns-clause-order c =
    λ none.
    subst (λ (cs : List ChoiceValue). AreInPieceOrder c.args.compiled.now cs) (sym (here (goal.at.returns-clause-order c).In_ok-placements))
    (placed_in_order c.args.compiled.now c.choices.ensures.puzzle c.args.path.now c.requires none)

pub returns-clause-by_piece : goal.returns-clause-by_piece
returns-clause-by_piece c =
    subst (λ (cs : List ChoiceValue). ComeByPiece c.args.compiled.now cs) (sym (here (goal.at.returns-clause-by_piece c).In_ok-placements))
    (placed_by_piece c.args.compiled.now c.choices.ensures.puzzle c.args.path.now c.requires)
