use Rattle.cover_problem.proofs.PathLemmas.{choice_has}
use Rattle.cover_counts.proofs.KeyLemmas.{option_key}
use Rattle.cover_counts.proofs.SearchLemmas.{taken_choice, is_in, tried_on, left_falls}
use Rattle.cover_counts.proofs.search.try_option.Goals as goal

pub option-requires-clause-some : goal.option-requires-clause-some
option-requires-clause-some g c = (choice_has _ _ _ (taken_choice _ _ _ _ c.requires.top c.requires.next)).some

pub option-requires-clause-within : goal.option-requires-clause-within
option-requires-clause-within g c = (choice_has _ _ _ (taken_choice _ _ _ _ c.requires.top c.requires.next)).within

pub pass-requires-clause-key : goal.pass-requires-clause-key
pass-requires-clause-key g c =
    option_key _ (g.T.Table.covered_list c.args.table.now) _ _ _ _ _ (taken_choice _ _ _ _ c.requires.top c.requires.next) c.items.ensures.count c.option.ensures c.requires.top.key (c.key_with-key.ensures _)

pub arrive-requires-clause-key : goal.arrive-requires-clause-key
arrive-requires-clause-key g c =
    rw c.enter.ensures.covered
    (option_key _ (g.T.Table.covered_list c.args.table.now) _ _ _ _ _ (taken_choice _ _ _ _ c.requires.top c.requires.next) c.items.ensures.count c.option.ensures c.requires.top.key (c.key_with-key.ensures _))

pub enter-requires-clause-choice : goal.enter-requires-clause-choice
enter-requires-clause-choice g c = taken_choice _ _ _ _ c.requires.top c.requires.next

pub go_on-requires-clause-behind : goal.go_on-requires-clause-behind
go_on-requires-clause-behind g c = (
  g.T.Table.covered_list c.args.table.now,
  rw (c.in_ok-pass.ensures.same c.if-branch.false) (is_in _ _ _ _ _ _ c.requires.at c.requires.top c.requires.next c.enter.ensures.covered),
)

pub returns-in-None-clause-back : goal.returns-in-None-clause-back
returns-in-None-clause-back g c =
    c.go_on.ensures.back (g.T.Table.covered_list c.args.table.now) (rw (c.in_ok-pass.ensures.same c.if-branch.false) (is_in _ _ _ _ _ _ c.requires.at c.requires.top c.requires.next c.enter.ensures.covered))

pub returns-in-None-clause-gone : goal.returns-in-None-clause-gone
returns-in-None-clause-gone g c =
    let same = c.in_ok-pass.ensures.same c.if-branch.false in
    tried_on _ _ _ c.pass.new.top _ _ _ (rw same c.requires.top) (rw same c.requires.next) c.enter.ensures.covered (rw c.in-None.is at c.in_ok-open.ensures.known) c.go_on.ensures.item c.go_on.ensures.key c.go_on.ensures.below
    (c.go_on.ensures.next (g.T.Table.covered_list c.args.table.now) (rw same (is_in _ _ _ _ _ _ c.requires.at c.requires.top c.requires.next c.enter.ensures.covered)))

pub returns-in-None-clause-fewer : goal.returns-in-None-clause-fewer
returns-in-None-clause-fewer g c =
    left_falls _ _ _ _ _ (taken_choice _ _ _ _ c.requires.top c.requires.next) c.requires.next
    (c.go_on.ensures.next (g.T.Table.covered_list c.args.table.now) (rw (c.in_ok-pass.ensures.same c.if-branch.false) (is_in _ _ _ _ _ _ c.requires.at c.requires.top c.requires.next c.enter.ensures.covered)))
