use Rattle.std.proofs.Common.{◌∙◌, sym, ap, subst, refl, arith, length}
use Rattle.x_steps.specs.Walk.{IsAtCut}
use Rattle.x_steps.proofs.WalkLemmas.{walks_open, walks_room, walks_on}
use Rattle.x_steps.proofs.machine.Machine.walk.Goals as goal

pub round-round-requires : goal.round-round-requires
round-round-requires g c =
    let moved = c.is_move.ensures.0 c.loop-self-test.true in
    let levels = c.loop-self.invariant.walk.counted.levels in
    let names = ap (λ p. length p.names) c.loop-self.invariant.same in
    let asked = c.requires.levels in
    record {
      goes_on = walks_open _ _ _ _ _ _ _ _ _ c.loop-self.invariant (λ d. c.in_default.not-Done (ap (λ m. m.state.label) c.self.view_is ∙ d)) moved;
      some = omega arith;
      levels = omega arith;
      room = walks_room _ _ _ _ _ _ _ _ _ c.loop-self.invariant c.requires.room;
    }

pub loop-self-preserved : goal.loop-self-preserved
loop-self-preserved g c =
    let free : IsAtCut c.loop-self.self.state c.args.end.now → ⊥ = λ h. (let x = c.is_at_cut.ensures.1 (subst (λ m. IsAtCut m.state c.args.end.now) (sym c.self-in-loop-self.view_is) h) in let y = c.if-not-is_at_cut.true in cc) in
    walks_on _ _ _ _ _ _ _ _ _ c.loop-self.invariant _ _ _ _ _ refl c.round-round.ensures.problem (c.is_move.ensures.0 c.loop-self-test.true) free c.round-round.ensures.round
