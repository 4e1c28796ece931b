use Rattle.std.proofs.Common.{length, refl, sym, arith, eqb-true, ◌∙◌}
use Rattle.std.proofs.lemmas.Bool.{eqb-false}
use Rattle.x_branches.proofs.CutLemmas.{cut_parted, no_cut_starts}
use Rattle.x_branches.proofs.position.Position.at_cut.Goals as goal

pub returns : goal.returns
returns c =
    let some = eqb-false (length c.args.choices.now) 0 (sym c.is_empty.ensures ∙ c.if-is_empty.false) in
    cut_parted _ _ _ _ (omega (arith, some)) refl c.split_at.ensures.front c.split_at.ensures.back

pub returns-then-is_empty : goal.returns-then-is_empty
returns-then-is_empty c =
    c.first.ensures ∙ no_cut_starts c.args.choices.now (eqb-true (length c.args.choices.now) 0 (sym c.is_empty.ensures ∙ c.if-is_empty.true))
