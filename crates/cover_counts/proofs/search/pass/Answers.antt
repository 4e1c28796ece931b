use Rattle.std.proofs.Common.{refl}
use Rattle.cover_problem.proofs.PathLemmas.{covered_taken}
use Rattle.cover_counts.proofs.BelowLemmas.{known_gains}
use Rattle.cover_counts.proofs.SearchLemmas.{taken_choice, tried_on, next_in, next_is, left_falls}
use Rattle.cover_counts.proofs.search.pass.Goals as goal

pub next_option-top-requires : goal.next_option-top-requires
next_option-top-requires g c = next_in _ _ (g.T.Table.covered_list c.args.table.now) _ _ _ c.requires.at refl c.requires.top.item (taken_choice _ _ _ _ c.requires.top c.requires.next)

pub returns-in_ok-add_deeper-in-Some-clause-gone : goal.returns-in_ok-add_deeper-in-Some-clause-gone
returns-in_ok-add_deeper-in-Some-clause-gone g c = λ known.
    let is = taken_choice _ _ _ _ c.requires.top c.requires.next in
    tried_on _ _ _ _ _ _ _ c.requires.top c.requires.next refl
    (known_gains _ _ _ _ _ (rw c.in-Some.is at (c.find.ensures _ _ c.requires.kept (covered_taken _ _ _ c.requires.at.problem c.requires.at.covered is) c.requires.key)) c.in_ok-add_deeper-in-Some.ensures) refl refl refl
    (next_is _ _ _ _ _ _ _ c.requires.at refl c.requires.top.item is c.next_option-top.ensures)

pub returns-in_ok-add_deeper-in-Some-clause-fewer : goal.returns-in_ok-add_deeper-in-Some-clause-fewer
returns-in_ok-add_deeper-in-Some-clause-fewer g c = λ known.
    let is = taken_choice _ _ _ _ c.requires.top c.requires.next in
    left_falls _ _ _ _ _ is c.requires.next (next_is _ _ _ _ _ _ _ c.requires.at refl c.requires.top.item is c.next_option-top.ensures)
