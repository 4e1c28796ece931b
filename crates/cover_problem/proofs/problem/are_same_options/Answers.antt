use Rattle.std.proofs.Common.{bytes_eq}
use Rattle.std.specs.Cmp.Lexicographic.{pointwise, pointwise_decides, bytes_decides}
use Rattle.std.proofs.lemmas.Bool.Decides.{same_from_decides}
use Rattle.cover_problem.proofs.problem.are_same_options.Goals as goal

pub returns : goal.returns
returns c = same_from_decides c.same.result (pointwise bytes_eq c.args.options.now c.args.others.now) c.same.ensures (pointwise_decides bytes_decides c.args.options.now c.args.others.now)
