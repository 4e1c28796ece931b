use Rattle.std.proofs.Common.{◌++◌, ap, sym, ◌∙◌, refl, inr, append-nil}
use Rattle.x_steps.specs.Walk.{visit_told}
use Rattle.x_branches.specs.Runner.{without_level}
use Rattle.x_branches.proofs.WalkedLemmas.{not_first, visit_noted, visit_there, path_within, counted_there, walked_back, none_noted}
use Rattle.x_branches.proofs.runner.walk.walk_noted.Goals as goal

pub returns-then-keep_visit-clause-visits : goal.returns-then-keep_visit-clause-visits
returns-then-keep_visit-clause-visits g c =
    let w = c.in-Ok.ensures in
    let noted = visit_noted _ _ _ _ _ _ _ (record { reaches = w.steps; moves = w.moves; tells = w.event; counted = w.levels }) in
    c.if-keep_visit.ensures.kept refl ∙ ap (λ vs. c.args.visits.now ++ vs) (ap (λ t. visit_told c.in-Ok.walk.event t.path) c.state.ensures.state ∙ sym noted)

pub unreachable-requires-in_default-back : goal.unreachable-requires-in_default-back
unreachable-requires-in_default-back g c =
    let w = c.in-Ok.ensures in
    not_first _ _ _ _ _ _ _ c.requires.fits (record { reaches = w.steps; moves = w.moves; tells = w.event; counted = w.levels }) (c.if-keep_visit.ensures.at_visit refl) (c.in_default-back.ensures.first.0 refl)

pub discount-requires : goal.discount-requires
discount-requires g c =
    let w = c.in-Ok.ensures in
    let here = c.state-2.ensures.state ∙ (rw w.problem at c.in-Ok-back.ensures.state) in
    record {
      within = λ _. path_within _ _ _ _ _ _ _ _ (rw w.problem at c.state.ensures.problem) c.requires.fits (record { reaches = w.steps; moves = w.moves; tells = w.event; counted = w.levels }) (c.if-keep_visit.ensures.at_visit refl) c.requires.levels here;
      some = λ _. counted_there _ _ _ _ _ _ _ _ (rw w.problem at c.state.ensures.problem) c.requires.fits (record { reaches = w.steps; moves = w.moves; tells = w.event; counted = w.levels }) (c.if-keep_visit.ensures.at_visit refl) c.requires.levels here;
    }

pub returns-clause-walk : goal.returns-clause-walk
returns-clause-walk g c =
    let w = c.in-Ok.ensures in
    walked_back _ _ _ _ _ _ _ _ (rw w.problem at c.state.ensures.problem) c.requires.fits (record { reaches = w.steps; moves = w.moves; tells = w.event; counted = w.levels }) (c.if-keep_visit.ensures.at_visit refl) c.requires.levels
    (rw w.problem at c.in-Ok-back.ensures.state) _ (c.discount.ensures ∙ ap (without_level c.walk.new.counts) c.state-2.ensures.state)

pub returns-clause-visits : goal.returns-clause-visits
returns-clause-visits g c =
    let w = c.in-Ok.ensures in
    let none = none_noted _ _ _ _ _ _ _ _ (rw w.problem at c.state.ensures.problem) c.requires.fits (record { reaches = w.steps; moves = w.moves; tells = w.event; counted = w.levels }) (c.if-keep_visit.ensures.at_visit refl) c.requires.levels
    (rw w.problem at c.in-Ok-back.ensures.state) _ (c.discount.ensures ∙ ap (without_level c.walk.new.counts) c.state-2.ensures.state) in
    c.if-keep_visit.ensures.unchanged refl ∙ sym (append-nil c.args.visits.now) ∙ ap (λ vs. c.args.visits.now ++ vs) (sym none)

pub returns-clause-stops : goal.returns-clause-stops
returns-clause-stops g c =
    let w = c.in-Ok.ensures in
    inr (inr (inr (visit_there _ _ _ _ _ _ _ _ (rw w.problem at c.state.ensures.problem) c.requires.fits (record { reaches = w.steps; moves = w.moves; tells = w.event; counted = w.levels }) (c.if-keep_visit.ensures.at_visit refl) c.requires.levels
    (rw w.problem at c.in-Ok-back.ensures.state))))
