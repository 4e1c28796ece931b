use Rattle.std.proofs.Common.{◌<◌, ◌≤◌, ◌∙◌, length, lit<, arith}
use Rattle.std.proofs.lemmas.List.Elements.{All-drop}
use Rattle.cover_problem.specs.declared.plain.TheConstants.{NEVER}
use Rattle.cover_problem.proofs.TableLemmas.{in_list, plain_at, holders_rise, holders_within, next_from}
use Rattle.cover_problem.proofs.WalkLemmas.{rest_is}
use Rattle.cover_problem.proofs.HolderLemmas.{few_options}
use Rattle.cover_problem.proofs.plain.PlainTableTable.next_option.Goals as goal

pub row-time-requires-clause-some : goal.row-time-requires-clause-some
row-time-requires-clause-some c = (in_list c.args.self.now.problem c.args.self.now.covered c.args.item c.args.option (plain_at c.self.view_is c.self.invariant).sound c.requires).0

pub row-time-requires-clause-within : goal.row-time-requires-clause-within
row-time-requires-clause-within c = (in_list c.args.self.now.problem c.args.self.now.covered c.args.item c.args.option (plain_at c.self.view_is c.self.invariant).sound c.requires).1

pub overflow_add-option : goal.overflow_add-option
overflow_add-option c =
    let l = in_list c.args.self.now.problem c.args.self.now.covered c.args.item c.args.option c.row-time.ensures.problem c.requires in
    let a = l.3 in
    let m = few_options c.args.self.now.problem c.row-time.ensures.problem in
    omega arith

pub place_below-place-requires : goal.place_below-place-requires
place_below-place-requires c = holders_rise c.args.self.now c.args.item c.row-time.result.0.now c.row-time.ensures.options

pub first_in-requires : goal.first_in-requires
first_in-requires c = rw rest_is (All-drop (λ k. (0 < k) × (k ≤ length c.args.self.now.problem.options)) c.place_below-place.result c.row-time.result.0.now (holders_within c.args.self.now c.args.item c.row-time.result.0.now c.row-time.ensures.options))

pub returns : goal.returns
returns c =
    rw (rest_is, c.place_below-place.ensures.count) at c.first_in.ensures ∙ next_from c.args.self.now c.args.item c.row-time.result.0.now c.row-time.ensures.options NEVER c.row-time.result.1 c.row-time.ensures.problem c.row-time.ensures.distinct (lit< tt) c.row-time.ensures.time c.args.option
