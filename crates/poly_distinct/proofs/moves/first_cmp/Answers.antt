use Rattle.std.proofs.Common.{sym, ap, ◌∙◌}
use Rattle.std.specs.Option.{option_copied}
use Rattle.poly_distinct.proofs.FirstImageLemmas.{begins_at}
use Rattle.poly_distinct.proofs.moves.first_cmp.Goals as goal

pub returns-in-Some : goal.returns-in-Some
returns-in-Some c = begins_at _ _ c.args.places.now _ _ c.least_image.ensures (sym (ap option_copied c.in-Some.is) ∙ c.first.ensures.value) c.cmp.ensures
