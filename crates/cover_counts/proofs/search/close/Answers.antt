use Rattle.cover_counts.proofs.KeptLemmas.{key_tells}
use Rattle.cover_counts.proofs.SearchLemmas.{is_in_parent, counted_on, has_next, left_falls, taken_all}
use Rattle.cover_counts.proofs.search.close.Goals as goal

pub go_on-requires-clause-behind : goal.go_on-requires-clause-behind
go_on-requires-clause-behind g c = (c.requires.counted.0, is_in_parent _ _ _ _ _ _ c.requires.counted.1 c.in-Some.is)

pub returns-in-Some-clause-kept : goal.returns-in-Some-clause-kept
returns-in-Some-clause-kept g c =
    let k = c.requires.counted.1 in
    c.keep.ensures _ c.requires.kept (key_tells _ _ _ _ c.requires.at.covered k.top.key (taken_all _ _ _ k.top k.none))

pub returns-in-None-clause-kept : goal.returns-in-None-clause-kept
returns-in-None-clause-kept g c = has_next _ _ _ _ _ c.requires.counted.1 c.in-None.is

pub returns-in-Some-clause-back : goal.returns-in-Some-clause-back
returns-in-Some-clause-back g c = λ d k. c.go_on.ensures.back d (is_in_parent _ _ _ _ _ _ k c.in-Some.is)

pub returns-in-None-clause-back : goal.returns-in-None-clause-back
returns-in-None-clause-back g c = λ d k. has_next _ _ _ _ _ k c.in-None.is

pub returns-in-Some-clause-gone : goal.returns-in-Some-clause-gone
returns-in-Some-clause-gone g c = λ d k.
    counted_on _ _ _ _ _ _ _ _ k c.in-Some.is c.in_ok-add_deeper.ensures c.go_on.ensures.item c.go_on.ensures.key c.go_on.ensures.below (c.go_on.ensures.next d (is_in_parent _ _ _ _ _ _ k c.in-Some.is))

pub returns-in-None-clause-gone : goal.returns-in-None-clause-gone
returns-in-None-clause-gone g c = λ d k. has_next _ _ _ _ _ k c.in-None.is

pub returns-in-Some-clause-fewer : goal.returns-in-Some-clause-fewer
returns-in-Some-clause-fewer g c =
    let w = c.requires.counted in
    let i = is_in_parent _ _ _ _ _ _ w.1 c.in-Some.is in
    left_falls _ w.0 _ _ _ i.choice c.in-Some.is (c.go_on.ensures.next w.0 i)

pub returns-in-None-clause-fewer : goal.returns-in-None-clause-fewer
returns-in-None-clause-fewer g c = has_next _ _ _ _ _ c.requires.counted.1 c.in-None.is
