use Rattle.std.proofs.Common.{◌∙◌, lit<}
use Rattle.cover_problem.specs.declared.plain.TheConstants.{NEVER}
use Rattle.cover_problem.proofs.TableLemmas.{holders_within, first_from}
use Rattle.cover_problem.proofs.plain.PlainTableTable.first_option.Goals as goal

pub first_in-requires : goal.first_in-requires
first_in-requires c = holders_within c.args.self.now c.args.item c.row-time.result.0.now c.row-time.ensures.options

pub returns : goal.returns
returns c = c.first_in.ensures ∙ first_from c.args.self.now c.args.item c.row-time.result.0.now c.row-time.ensures.options NEVER c.row-time.result.1 c.row-time.ensures.problem c.row-time.ensures.distinct (lit< tt) c.row-time.ensures.time
