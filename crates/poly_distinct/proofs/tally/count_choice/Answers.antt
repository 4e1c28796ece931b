use Rattle.std.proofs.Common.{ℕ, List, length, map, ap, subst, ◌∙◌}
use Rattle.poly_cells.specs.Sets.{IsIn}
use Rattle.poly_place.specs.Packings.{place_of}
use Rattle.poly_distinct.specs.Counts.{AreMore}
use Rattle.poly_distinct.proofs.LeftInLemmas.{choice_inside}
use Rattle.poly_distinct.proofs.TallyLemmas.{places_distinct, places_within, places_below, firsts_distinct, firsts_within}
use Rattle.poly_distinct.proofs.tally.count_choice.Goals as goal

pub places_of-requires : goal.places_of-requires
places_of-requires c v i = choice_inside c.args.moves.now.puzzle c.requires.puzzle c.args.choice.now c.requires.member v (subst (IsIn v) c.cells.ensures i)

pub add_at-requires-clause-distinct : goal.add_at-requires-clause-distinct
add_at-requires-clause-distinct c =
    places_distinct c.args.moves.now c.requires.puzzle c.args.choice.now c.requires.member c.as_slice.result.now
    (c.as_slice.ensures.value ∙ c.in_ok-places.ensures ∙ ap (map (place_of c.args.moves.now.puzzle.region)) c.cells.ensures)

pub add_at-requires-clause-within : goal.add_at-requires-clause-within
add_at-requires-clause-within c =
    places_within c.args.moves.now c.requires.puzzle c.args.choice.now c.requires.member c.as_slice.result.now (length c.args.options.now)
    (c.as_slice.ensures.value ∙ c.in_ok-places.ensures ∙ ap (map (place_of c.args.moves.now.puzzle.region)) c.cells.ensures) c.requires.options.long

pub add_at-requires-clause-room : goal.add_at-requires-clause-room
add_at-requires-clause-room c k h = c.requires.options.room k h

pub first_among-requires : goal.first_among-requires
first_among-requires c =
    places_below c.args.moves.now c.requires.puzzle c.args.choice.now c.requires.member c.as_slice-2.result.now
    (c.as_slice-2.ensures.value ∙ c.in_ok-places.ensures ∙ ap (map (place_of c.args.moves.now.puzzle.region)) c.cells.ensures)

pub add_at-requires-2-clause-distinct : goal.add_at-requires-2-clause-distinct
add_at-requires-2-clause-distinct c =
    firsts_distinct c.args.moves.now c.requires.puzzle c.args.choice.now c.requires.member c.as_slice-3.result.now
    (c.as_slice-3.ensures.value ∙ c.in_ok-firsts.ensures c.args.choice.now.cells (record {
      inside = choice_inside c.args.moves.now.puzzle c.requires.puzzle c.args.choice.now c.requires.member;
      places_are = c.as_slice-2.ensures.value ∙ c.in_ok-places.ensures ∙ ap (map (place_of c.args.moves.now.puzzle.region)) c.cells.ensures;
    }))

pub add_at-requires-2-clause-within : goal.add_at-requires-2-clause-within
add_at-requires-2-clause-within c =
    firsts_within c.args.moves.now c.requires.puzzle c.args.choice.now c.requires.member c.as_slice-3.result.now (length c.args.kept.now)
    (c.as_slice-3.ensures.value ∙ c.in_ok-firsts.ensures c.args.choice.now.cells (record {
      inside = choice_inside c.args.moves.now.puzzle c.requires.puzzle c.args.choice.now c.requires.member;
      places_are = c.as_slice-2.ensures.value ∙ c.in_ok-places.ensures ∙ ap (map (place_of c.args.moves.now.puzzle.region)) c.cells.ensures;
    })) c.requires.kept.long

pub add_at-requires-2-clause-room : goal.add_at-requires-2-clause-room
add_at-requires-2-clause-room c k h = c.requires.kept.room k h

pub returns-clause-options : goal.returns-clause-options
returns-clause-options c =
    subst (λ (ps : List ℕ). AreMore c.args.options.now c.add_at.new.counts ps)
    (c.as_slice.ensures.value ∙ c.in_ok-places.ensures ∙ ap (map (place_of c.args.moves.now.puzzle.region)) c.cells.ensures) c.add_at.ensures

pub returns-clause-kept : goal.returns-clause-kept
returns-clause-kept c =
    subst (λ (ps : List ℕ). AreMore c.args.kept.now c.add_at-2.new.counts ps)
    (c.as_slice-3.ensures.value ∙ c.in_ok-firsts.ensures c.args.choice.now.cells (record {
      inside = choice_inside c.args.moves.now.puzzle c.requires.puzzle c.args.choice.now c.requires.member;
      places_are = c.as_slice-2.ensures.value ∙ c.in_ok-places.ensures ∙ ap (map (place_of c.args.moves.now.puzzle.region)) c.cells.ensures;
    })) c.add_at-2.ensures
