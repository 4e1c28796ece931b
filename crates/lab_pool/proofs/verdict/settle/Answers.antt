use Rattle.lab_book_laws.specs.Searched.{IsSearched}
use Rattle.lab_pool.specs.Pool.{OnlyHeld}
use Rattle.lab_pool.proofs.DoneLemmas.{still_searched, none_was_held, else_finished, given_some, told, denied}
use Rattle.lab_pool.proofs.verdict.settle.Goals as goal

pub returns-then-finished-clause-none_held : goal.returns-then-finished-clause-none_held
returns-then-finished-clause-none_held c =
    none_was_held c.args.book c.args.book (still_searched c.args.book c.requires.none_waits c.requires.none_leased)
    (told c.finished.result c.if-finished.true c.finished.ensures)

pub returns-then-finished-clause-searched : goal.returns-then-finished-clause-searched
returns-then-finished-clause-searched c = still_searched c.args.book c.requires.none_waits c.requires.none_leased

pub returns-clause-held : goal.returns-clause-held
returns-clause-held c =
    λ e. given_some (OnlyHeld c.args.book) c.refuse.result.given c.args.book c.refuse.ensures.given
    (still_searched c.args.book c.requires.none_waits c.requires.none_leased).tiles

pub returns-clause-held_searched : goal.returns-clause-held_searched
returns-clause-held_searched c =
    λ e. given_some (IsSearched c.args.book) c.refuse.result.given c.args.book c.refuse.ensures.given
    (still_searched c.args.book c.requires.none_waits c.requires.none_leased)

pub returns-clause-some_held : goal.returns-clause-some_held
returns-clause-some_held c =
    λ e n. denied c.finished.result c.if-finished.false c.finished.ensures
    (else_finished c.args.book c.args.book (still_searched c.args.book c.requires.none_waits c.requires.none_leased) n)
