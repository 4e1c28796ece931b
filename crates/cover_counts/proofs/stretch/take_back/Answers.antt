use Rattle.std.proofs.Common.{◌∙◌}
use Rattle.cover_counts.proofs.StretchLemmas.{entered_back, left_again, next_back, ends}
use Rattle.cover_counts.proofs.stretch.take_back.Goals as goal

pub go_up-requires-clause-behind : goal.go_up-requires-clause-behind
go_up-requires-clause-behind g c = (_, entered_back _ _ _ _ _ _ c.requires.stands c.requires.label c.in-Some.ensures.items)

pub returns-in-Some-clause-stands : goal.returns-in-Some-clause-stands
returns-in-Some-clause-stands g c =
    let back = c.go_up.ensures.back _ (entered_back _ _ _ _ _ _ c.requires.stands c.requires.label c.in-Some.ensures.items) in
    left_again _ _ _ _ _ _ c.requires.stands c.requires.label c.in-Some.ensures.items _ _ _ c.go_up.ensures.at back c.turn.ensures

pub returns-in-Some-clause-next : goal.returns-in-Some-clause-next
returns-in-Some-clause-next g c = c.turn.ensures ∙ next_back _ _ _ _ c.requires.label c.in-Some.ensures.items

pub returns-in-None-clause-next : goal.returns-in-None-clause-next
returns-in-None-clause-next g c = ends _ _ _ _ _ c.requires.label c.in-None.ensures.items c.args.state.now.path.ok.0 c.in-None.ensures.cases.0 c.turn-in-None.ensures
