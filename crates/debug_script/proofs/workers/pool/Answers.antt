use Rattle.std.proofs.Common.{◌≡◌, ◌++◌, ◌∙◌, List, ℕ, Result, Ok, Err, IfErr, ap, sym, subst}
use Rattle.std.specs.Prelude.{IsErrAnd}
use Rattle.lab_book.specs.Book.{BookValue}
use Rattle.lab_book_laws.specs.Searched.{IsSearched}
use Rattle.debug_laws.specs.AlikeSessions.{AreSoundAlike}
use Rattle.x_debug.specs.Session.{SessionValue}
use Rattle.lab_pool.specs.declared.fault.PoolFault.{PoolFault}
use Rattle.debug_script.specs.declared.fault.JobFault.{JobFault}
use Rattle.debug_script.specs.declared.fault.JobFault.TheVariants.{OutOfMemory}
use Rattle.debug_script.specs.PoolAnswer.{none_held, answer_pool}
use Rattle.debug_script.specs.Refusals.{IsWantOrPool}
use Rattle.debug_script.proofs.PoolLemmas.{some_leased, no_leased, none_open, refused_alike, searched_alike, searched_text}
use Rattle.debug_script.proofs.workers.pool.Goals as goal

pub returns-then-has_leased-clause-text : goal.returns-then-has_leased-clause-text
returns-then-has_leased-clause-text g c = λ f k.
    let some = some_leased c.args.session c.book.result.now c.book.ensures.book c.if-has_leased.ensures in
    c.in_ok-refuse_open.ensures ∙ ap (λ (l : List ℕ). c.args.text.now.items ++ l) (refused_alike c.args.session f k some).text

pub returns-then-has_leased-clause-session : goal.returns-then-has_leased-clause-session
returns-then-has_leased-clause-session g c = λ f k.
    let some = some_leased c.args.session c.book.result.now c.book.ensures.book c.if-has_leased.ensures in
    (refused_alike c.args.session f k some).sessions

pub unreachable-requires : goal.unreachable-requires
unreachable-requires g c =
    let none = no_leased c.args.session c.book.result.now c.book.ensures.book c.if-has_leased.ensures in
    none_open c.args.session.book c.args.session.worker c.book.ensures.seat none c.in_default.ensures.one_open

pub returns-clause-text : goal.returns-clause-text
returns-clause-text g c = λ f k.
    let none = no_leased c.args.session c.book.result.now c.book.ensures.book c.if-has_leased.ensures in
    searched_text c.args.session f k c.in_ok-book.book c.in_ok-book.all c.args.text.now.items c.append.new.text.items none
    (subst (λ (b : BookValue). IsSearched b c.in_ok-book.book) c.in-Ok.ensures.book c.in_ok-book.ensures.searched)
    c.in_ok-book.ensures.tiling
    (c.in_ok-book.ensures.all ∙ ap none_held c.in-Ok.ensures.book)
    (c.in_ok-append.ensures ∙ ap (λ (l : List ℕ). c.args.text.now.items ++ l) c.pool_line.ensures)

pub returns-clause-session : goal.returns-clause-session
returns-clause-session g c = λ f k.
    let none = no_leased c.args.session c.book.result.now c.book.ensures.book c.if-has_leased.ensures in
    subst (λ (s : SessionValue). AreSoundAlike s (answer_pool f).session) (sym c.on_book-left.ensures)
    (searched_alike c.args.session f k c.in_ok-book.book none
    (subst (λ (b : BookValue). IsSearched b c.in_ok-book.book) c.in-Ok.ensures.book c.in_ok-book.ensures.searched)
    c.in_ok-book.ensures.tiling).sessions

-- where memory ran out
wanting : {A : Type 0} (May : PoolFault → Type 0) (r : Result A JobFault) → IsErrAnd r (λ f. f ≡ OutOfMemory) → IfErr r (IsWantOrPool May)
wanting May (Ok a) h = tt
wanting May (Err f) h = rw h tt

pub returns-in_err-append-clause-why : goal.returns-in_err-append-clause-why
returns-in_err-append-clause-why g c = wanting _ c.from_residual-in_err-append.result c.from_residual-in_err-append.ensures.1
