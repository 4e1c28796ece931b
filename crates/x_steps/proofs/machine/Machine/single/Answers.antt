use Rattle.std.proofs.Common.{◌∙◌, ap, sym, length, arith, refl}
use Rattle.x_steps.proofs.RoundLemmas.{level_counted}
use Rattle.x_steps.proofs.machine.Machine.single.Goals as goal

pub count_level-requires-clause-within : goal.count_level-requires-clause-within
count_level-requires-clause-within g c =
    let below = level_counted _ _ _ _ _ c.self.invariant _ c.self.view_is _ refl (sym (ap (λ m. m.state.label) c.self.view_is) ∙ c.in-X2.is) _ c.requires.levels in
    let path = ap (λ m. length m.state.path) c.self.view_is in omega (arith, c.self.inside.state.path.ok.0)
