use Rattle.std.proofs.Common.{◌≡◌, ◌∙◌, ℕ, List, IfSome, Option, ap, map, subst, sym, length, vec_items}
use Rattle.std.specs.Global.{Vec}
use Rattle.poly_place.specs.Packings.{ChoiceValue, problem_fits}
use Rattle.poly_place.specs.Compiled.{LaysWithin, has_room_beside}
use Rattle.poly_place.proofs.RoomLemmas.{room_is}
use Rattle.poly_place.proofs.room.choices_within.Goals as goal
use Rattle.poly_place.proofs.room.choices_within.Goals.{After-has_room_beside}

-- the answer tells whether there is room
tells : (c : After-has_room_beside) → c.has_room_beside.result ≡ problem_fits c.args.puzzle.now
tells c =
    let laid = subst (λ (found : Option (Vec ChoiceValue × ℕ)). IfSome found (λ r. LaysWithin c.args.puzzle.now (length r.0.items) (r.1))) c.in-Some.is c.in_ok-choices.ensures.room in
    c.has_room_beside.ensures
    ∙ ap (λ (n : ℕ). has_room_beside n c.in-Some.entries (map vec_items c.as_slice.result.now)) (c.len.ensures ∙ c.in-Some.choices.ok.0)
    ∙ ap (λ (lefts : List (List ℕ)). has_room_beside (length c.in-Some.choices.items) c.in-Some.entries lefts) (ap (map vec_items) c.as_slice.ensures.value ∙ c.in_ok-lefts.ensures)
    ∙ room_is c.args.puzzle.now (length c.in-Some.choices.items) c.in-Some.entries laid

pub returns-then-not-has_room_beside-clause-none : goal.returns-then-not-has_room_beside-clause-none
returns-then-not-has_room_beside-clause-none c = sym (tells (goal.at.returns-then-not-has_room_beside-clause-none c).After-has_room_beside) ∙ c.if-not-has_room_beside.true

pub returns-clause-fits : goal.returns-clause-fits
returns-clause-fits c = sym (tells (goal.at.returns-clause-fits c).After-has_room_beside) ∙ c.if-not-has_room_beside.false
