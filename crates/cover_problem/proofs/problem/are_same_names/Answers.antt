use Rattle.std.proofs.Common.{◌∙◌, sym}
use Rattle.std.proofs.Common.{bytes_eq}
use Rattle.std.specs.Cmp.Derive.Mapped.{pointwise-map}
use Rattle.cover_problem.proofs.problem.are_same_names.Goals as goal

pub returns : goal.returns
returns c = c.eq.ensures ∙ sym (pointwise-map (λ n. n.bytes) bytes_eq c.args.names.now c.args.others.now)
