use Rattle.std.proofs.Common.{◌∙◌, lit<, arith}
use Rattle.cover_problem.specs.declared.plain.TheConstants.{NEVER}
use Rattle.cover_problem.specs.Plain.{was_in}
use Rattle.cover_problem.proofs.TableLemmas.{holders_within, count_from}
use Rattle.cover_problem.proofs.HolderLemmas.{count_small}
use Rattle.cover_problem.proofs.plain.PlainTableTable.len.Goals as goal

pub count_in-requires : goal.count_in-requires
count_in-requires c = holders_within c.args.self.now c.args.item c.row-time.result.0.now c.row-time.ensures.options

pub overflow_cast-result : goal.overflow_cast-result
overflow_cast-result c =
    let few = count_small c.args.self.now c.args.item c.row-time.result.0.now (was_in NEVER c.args.self.now c.row-time.result.1) c.row-time.ensures.problem c.row-time.ensures.options in
    let e = c.count_in.ensures in
    omega arith

pub returns : goal.returns
returns c = c.count_in.ensures ∙ count_from c.args.self.now c.args.item c.row-time.result.0.now c.row-time.ensures.options NEVER c.row-time.result.1 c.row-time.ensures.problem c.row-time.ensures.distinct (lit< tt) c.row-time.ensures.time
