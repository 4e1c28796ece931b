use Rattle.std.proofs.Common.{◌∙◌, ◌<◌, cond, length, refl, sym, ap, subst, true≢false}
use Rattle.lab_history.specs.declared.entry.Reply.TheVariants as reply
use Rattle.std.proofs.Common.{◌-◌}
use Rattle.lab_history.specs.Ending.{call_of_end}
use Rattle.lab_desk.specs.Record.{SeatValue, kept_from, holds}
use Rattle.lab_desk.specs.Seats.{AllStand, are_of_workers}
use Rattle.lab_desk.proofs.DeskLemmas.{others, same_problem, same_branch, same_first, opens, standing, crewed, stepped, answered, held, kept, refusal, refusal_held, refusal_kept, left_of_end, ends_of_end, held_current, own_end}
use Rattle.lab_desk.proofs.locked.Locked.end.Goals.{in-Ok, in-Err}
use Rattle.lab_desk.proofs.locked.Locked.end.Goals as goal

pub follow-requires-clause-others : goal.follow-requires-clause-others
follow-requires-clause-others g c = λ j apart.
    others _ _ _ _ _ (call_of_end c.args.ending c.args.lease) (stepped c.end-answer.result (λ _. reply.Done) (λ r. r.fault) _ _ _ (call_of_end c.args.ending c.args.lease) c.end-answer.ensures.made c.end-answer.ensures.refused) c.args.self.now.opened c.args.self.now.known j (λ same. apart (same ∙ sym (c.seat.inside.same ∙ ap (λ (s : SeatValue). s.number) c.seat.view_is ∙ sym c.requires)))

pub invariant_of-self : goal.invariant_of-self
invariant_of-self g c = record {
  same = same_problem _ _ _ _ _ (call_of_end c.args.ending c.args.lease) (stepped c.end-answer.result (λ _. reply.Done) (λ r. r.fault) _ _ _ (call_of_end c.args.ending c.args.lease) c.end-answer.ensures.made c.end-answer.ensures.refused) c.args.self.now.opened c.args.self.now.known ∙ c.args.self.now.same;
  branch = same_branch _ _ _ _ _ (call_of_end c.args.ending c.args.lease) (stepped c.end-answer.result (λ _. reply.Done) (λ r. r.fault) _ _ _ (call_of_end c.args.ending c.args.lease) c.end-answer.ensures.made c.end-answer.ensures.refused) c.args.self.now.opened c.args.self.now.known ∙ c.args.self.now.branch;
  first = same_first _ _ _ _ _ (call_of_end c.args.ending c.args.lease) (stepped c.end-answer.result (λ _. reply.Done) (λ r. r.fault) _ _ _ (call_of_end c.args.ending c.args.lease) c.end-answer.ensures.made c.end-answer.ensures.refused) c.args.self.now.opened c.args.self.now.known ∙ c.args.self.now.first;
  opened = opens _ _ _ _ _ (call_of_end c.args.ending c.args.lease) (stepped c.end-answer.result (λ _. reply.Done) (λ r. r.fault) _ _ _ (call_of_end c.args.ending c.args.lease) c.end-answer.ensures.made c.end-answer.ensures.refused) c.args.self.now.opened c.args.self.now.known;
  known = c.follow.ensures.keeper;
  stand = subst (λ es. AllStand g.L.Desking.opening es c.end-answer.new.self.tiles) (sym c.follow.ensures.keeper)
      (standing _ _ _ _ _ (call_of_end c.args.ending c.args.lease) (stepped c.end-answer.result (λ _. reply.Done) (λ r. r.fault) _ _ _ (call_of_end c.args.ending c.args.lease) c.end-answer.ensures.made c.end-answer.ensures.refused) c.args.self.now.opened c.args.self.now.known c.is_sound.ensures.tiling.numbered c.is_sound-2.ensures.tiling.numbered (own_end c.args.ending c.args.lease _ refl) c.args.self.now.stand);
  crew = ap (are_of_workers g.L.Desking.parts) c.follow.ensures.keeper ∙ crewed _ _ _ _ _ (call_of_end c.args.ending c.args.lease) (stepped c.end-answer.result (λ _. reply.Done) (λ r. r.fault) _ _ _ (call_of_end c.args.ending c.args.lease) c.end-answer.ensures.made c.end-answer.ensures.refused) c.args.self.now.opened c.args.self.now.known g.L.Desking.parts (subst (λ k. k < g.L.Desking.parts) (sym (c.requires ∙ sym (ap (λ (s : SeatValue). s.number) c.seat.view_is))) c.seat.inside.one) c.args.self.now.crew;
}

pub returns-clause-noted : goal.returns-clause-noted
returns-clause-noted g c = (
  length c.args.self.now.book.history,
  elim c.match-answer.branch [
    | in-Ok w ↦ rw (w.result-is, ← c.requires, ← c.seat.view_is) (answered _ _ _ c.end-answer.new.self _ (call_of_end c.args.ending c.args.lease) c.args.self.now.opened c.args.self.now.known c.seat.inside.part.number (c.seat.inside.same ∙ ap (λ (s : SeatValue). s.number) c.seat.view_is ∙ sym c.requires) c.seat.inside.part.mine c.follow.new.part.mine c.follow.ensures.agreed c.follow.ensures.part _ w.in-Ok.ensures.made)
    | in-Err w ↦ rw w.result-is tt
  ],
)

pub returns-clause-held : goal.returns-clause-held
returns-clause-held g c = elim c.match-answer.branch [
  | in-Ok w ↦ rw (w.result-is, ← c.seat.view_is) (held _ _ _ c.end-answer.new.self _ (call_of_end c.args.ending c.args.lease) c.args.self.now.opened c.args.self.now.known c.seat.inside.part.number (c.seat.inside.same ∙ ap (λ (s : SeatValue). s.number) c.seat.view_is ∙ sym c.requires) c.seat.inside.part.mine c.follow.new.part.mine c.follow.ensures.agreed c.follow.ensures.part _ w.in-Ok.ensures.made ∙ left_of_end c.args.ending c.args.lease _, tt)
  | in-Err w ↦ rw (w.result-is, ← c.seat.view_is) (tt, refusal_held _ _ _ c.end-answer.new.self _ (call_of_end c.args.ending c.args.lease) c.args.self.now.opened c.args.self.now.known c.seat.inside.part.number (c.seat.inside.same ∙ ap (λ (s : SeatValue). s.number) c.seat.view_is ∙ sym c.requires) c.seat.inside.part.mine c.follow.new.part.mine c.follow.ensures.agreed c.follow.ensures.part _ w.in-Err.ensures.refused)
]

pub returns-clause-room : goal.returns-clause-room
returns-clause-room g c = elim c.match-answer.branch [
  | in-Ok w ↦ rw (w.result-is, ← c.seat.view_is) (kept _ _ _ c.end-answer.new.self _ (call_of_end c.args.ending c.args.lease) c.args.self.now.opened c.args.self.now.known c.seat.inside.part.number (c.seat.inside.same ∙ ap (λ (s : SeatValue). s.number) c.seat.view_is ∙ sym c.requires) c.seat.inside.part.mine c.follow.new.part.mine c.follow.ensures.agreed c.follow.ensures.part _ w.in-Ok.ensures.made ∙ ap (λ t. cond t (kept_from 0 c.seat.inside.part.mine - 1) (kept_from 0 c.seat.inside.part.mine)) (ends_of_end c.args.ending c.args.lease))
  | in-Err w ↦ rw w.result-is tt
]

pub returns-clause-refused : goal.returns-clause-refused
returns-clause-refused g c = (
  length c.args.self.now.book.history,
  elim c.match-answer.branch [
    | in-Ok w ↦ rw w.result-is tt
    | in-Err w ↦ rw (w.result-is, ← c.requires, ← c.seat.view_is) (refusal _ _ _ c.end-answer.new.self _ (call_of_end c.args.ending c.args.lease) c.args.self.now.opened c.args.self.now.known c.seat.inside.part.number (c.seat.inside.same ∙ ap (λ (s : SeatValue). s.number) c.seat.view_is ∙ sym c.requires) c.seat.inside.part.mine c.follow.new.part.mine c.follow.ensures.agreed c.follow.ensures.part _ w.in-Err.ensures.refused)
  ],
)

pub returns-clause-room_stays : goal.returns-clause-room_stays
returns-clause-room_stays g c = elim c.match-answer.branch [
  | in-Ok w ↦ rw w.result-is tt
  | in-Err w ↦ rw (w.result-is, ← c.seat.view_is) (refusal_kept _ _ _ c.end-answer.new.self _ (call_of_end c.args.ending c.args.lease) c.args.self.now.opened c.args.self.now.known c.seat.inside.part.number (c.seat.inside.same ∙ ap (λ (s : SeatValue). s.number) c.seat.view_is ∙ sym c.requires) c.seat.inside.part.mine c.follow.new.part.mine c.follow.ensures.agreed c.follow.ensures.part _ w.in-Err.ensures.refused)
]

pub returns-clause-current : goal.returns-clause-current
returns-clause-current g c mark h =
    let is = held_current g.L.Desking.opening c.args.self.now.keeper.all c.args.self.now.book c.seat.inside.part.number c.args.lease c.seat.inside.part.mine (sym (c.seat.inside.same ∙ ap (λ (s : SeatValue). s.number) c.seat.view_is ∙ sym c.requires)) c.follow.ensures.agreed c.args.self.now.stand
    (ap (λ (s : SeatValue). holds s.notes c.args.lease) c.seat.view_is ∙ h) in
    elim c.match-answer.branch [
      | in-Ok w ↦ rw w.result-is refl
      | in-Err w ↦ absurd (true≢false (sym (w.in-Err.ensures.current mark is)))
    ]
