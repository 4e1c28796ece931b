use Rattle.std.proofs.lemmas.Bool.{eqb-true}
use Rattle.std.proofs.lemmas.List.{length-take-le}
use mir.Syntax.{w8}
use Rattle.prefixes.proofs.StepLemmas.{same_step}
use Rattle.packed_rows.proofs.draft.same_step.Goals as goal

pub returns : goal.returns
returns c t =
    same_step w8 _ _ (length-take-le 64 c.args.one.now c.requires.long) (length-take-le 64 c.args.other.now c.requires.other_long) (eqb-true _ _ t)
