use Rattle.std.proofs.Common.{◌∙◌, length, sym, ap, subst}
use Rattle.lab_history.specs.declared.entry.Call.TheVariants as call
use Rattle.lab_book.specs.Calls.{leased_reply}
use Rattle.lab_desk.specs.Seats.{AllStand, are_of_workers}
use Rattle.lab_desk.proofs.DeskLemmas.{others, same_problem, same_branch, same_first, opens, standing, crewed, stepped, answered_at, taken_index, held, kept, refusal, refusal_held, refusal_kept}
use Rattle.lab_desk.proofs.locked.Locked.take_held.Goals.{in-Ok, in-Err}
use Rattle.lab_desk.proofs.locked.Locked.take_held.Goals as goal

pub follow-requires-clause-others : goal.follow-requires-clause-others
follow-requires-clause-others g c = λ j apart.
    others _ _ _ _ _ (call.TakeHeld c.args.id) (stepped c.take_held-answer.result leased_reply (λ f. f) _ _ _ (call.TakeHeld c.args.id) c.take_held-answer.ensures.made c.take_held-answer.ensures.refused) c.args.self.now.opened c.args.self.now.known j (λ same. apart (same ∙ sym (c.seat.inside.same)))

pub invariant_of-self : goal.invariant_of-self
invariant_of-self g c = record {
  same = same_problem _ _ _ _ _ (call.TakeHeld c.args.id) (stepped c.take_held-answer.result leased_reply (λ f. f) _ _ _ (call.TakeHeld c.args.id) c.take_held-answer.ensures.made c.take_held-answer.ensures.refused) c.args.self.now.opened c.args.self.now.known ∙ c.args.self.now.same;
  branch = same_branch _ _ _ _ _ (call.TakeHeld c.args.id) (stepped c.take_held-answer.result leased_reply (λ f. f) _ _ _ (call.TakeHeld c.args.id) c.take_held-answer.ensures.made c.take_held-answer.ensures.refused) c.args.self.now.opened c.args.self.now.known ∙ c.args.self.now.branch;
  first = same_first _ _ _ _ _ (call.TakeHeld c.args.id) (stepped c.take_held-answer.result leased_reply (λ f. f) _ _ _ (call.TakeHeld c.args.id) c.take_held-answer.ensures.made c.take_held-answer.ensures.refused) c.args.self.now.opened c.args.self.now.known ∙ c.args.self.now.first;
  opened = opens _ _ _ _ _ (call.TakeHeld c.args.id) (stepped c.take_held-answer.result leased_reply (λ f. f) _ _ _ (call.TakeHeld c.args.id) c.take_held-answer.ensures.made c.take_held-answer.ensures.refused) c.args.self.now.opened c.args.self.now.known;
  known = c.follow.ensures.keeper;
  stand = subst (λ es. AllStand g.L.Desking.opening es c.take_held-answer.new.self.tiles) (sym c.follow.ensures.keeper)
      (standing _ _ _ _ _ (call.TakeHeld c.args.id) (stepped c.take_held-answer.result leased_reply (λ f. f) _ _ _ (call.TakeHeld c.args.id) c.take_held-answer.ensures.made c.take_held-answer.ensures.refused) c.args.self.now.opened c.args.self.now.known c.is_sound.ensures.tiling.numbered c.is_sound-2.ensures.tiling.numbered (λ x no. absurd no) c.args.self.now.stand);
  crew = ap (are_of_workers g.L.Desking.parts) c.follow.ensures.keeper ∙ crewed _ _ _ _ _ (call.TakeHeld c.args.id) (stepped c.take_held-answer.result leased_reply (λ f. f) _ _ _ (call.TakeHeld c.args.id) c.take_held-answer.ensures.made c.take_held-answer.ensures.refused) c.args.self.now.opened c.args.self.now.known g.L.Desking.parts c.seat.inside.one c.args.self.now.crew;
}

pub returns-clause-noted : goal.returns-clause-noted
returns-clause-noted g c = elim c.match-answer.branch [
  | in-Ok w ↦ rw (w.result-is, ← c.seat.view_is) (answered_at _ _ _ c.take_held-answer.new.self _ (call.TakeHeld c.args.id) c.args.self.now.opened c.args.self.now.known c.seat.inside.part.number (c.seat.inside.same) c.seat.inside.part.mine c.follow.new.part.mine c.follow.ensures.agreed c.follow.ensures.part _ _ (taken_index _ _ _ _ w.in-Ok.answer w.in-Ok.ensures.made) w.in-Ok.ensures.made)
  | in-Err w ↦ rw w.result-is tt
]

pub returns-clause-held : goal.returns-clause-held
returns-clause-held g c = elim c.match-answer.branch [
  | in-Ok w ↦ rw (w.result-is, ← c.seat.view_is) (held _ _ _ c.take_held-answer.new.self _ (call.TakeHeld c.args.id) c.args.self.now.opened c.args.self.now.known c.seat.inside.part.number (c.seat.inside.same) c.seat.inside.part.mine c.follow.new.part.mine c.follow.ensures.agreed c.follow.ensures.part _ w.in-Ok.ensures.made, tt)
  | in-Err w ↦ rw (w.result-is, ← c.seat.view_is) (tt, refusal_held _ _ _ c.take_held-answer.new.self _ (call.TakeHeld c.args.id) c.args.self.now.opened c.args.self.now.known c.seat.inside.part.number (c.seat.inside.same) c.seat.inside.part.mine c.follow.new.part.mine c.follow.ensures.agreed c.follow.ensures.part _ w.in-Err.ensures.refused)
]

pub returns-clause-room : goal.returns-clause-room
returns-clause-room g c = elim c.match-answer.branch [
  | in-Ok w ↦ rw (w.result-is, ← c.seat.view_is) (kept _ _ _ c.take_held-answer.new.self _ (call.TakeHeld c.args.id) c.args.self.now.opened c.args.self.now.known c.seat.inside.part.number (c.seat.inside.same) c.seat.inside.part.mine c.follow.new.part.mine c.follow.ensures.agreed c.follow.ensures.part _ w.in-Ok.ensures.made)
  | in-Err w ↦ rw w.result-is tt
]

pub returns-clause-refused : goal.returns-clause-refused
returns-clause-refused g c = (
  length c.args.self.now.book.history,
  elim c.match-answer.branch [
    | in-Ok w ↦ rw w.result-is tt
    | in-Err w ↦ rw (w.result-is, ← c.seat.view_is) (refusal _ _ _ c.take_held-answer.new.self _ (call.TakeHeld c.args.id) c.args.self.now.opened c.args.self.now.known c.seat.inside.part.number (c.seat.inside.same) c.seat.inside.part.mine c.follow.new.part.mine c.follow.ensures.agreed c.follow.ensures.part _ w.in-Err.ensures.refused)
  ],
)

pub returns-clause-room_stays : goal.returns-clause-room_stays
returns-clause-room_stays g c = elim c.match-answer.branch [
  | in-Ok w ↦ rw w.result-is tt
  | in-Err w ↦ rw (w.result-is, ← c.seat.view_is) (refusal_kept _ _ _ c.take_held-answer.new.self _ (call.TakeHeld c.args.id) c.args.self.now.opened c.args.self.now.known c.seat.inside.part.number (c.seat.inside.same) c.seat.inside.part.mine c.follow.new.part.mine c.follow.ensures.agreed c.follow.ensures.part _ w.in-Err.ensures.refused)
]
