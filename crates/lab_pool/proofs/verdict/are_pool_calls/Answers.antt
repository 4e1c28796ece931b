use Rattle.std.proofs.Common.{◌≡◌, ◌∙◌, ◌<◌, Bool, length, sym, true, false, arith}
use Rattle.std.proofs.lemmas.List.Sums.{list_all-from_AllPass}
use Rattle.std.proofs.lemmas.Bool.{false≢true}
use Rattle.lab_history.specs.declared.entry.Entry.{Entry}
use Rattle.lab_history.specs.Kinds.{kind_of}
use Rattle.lab_book.proofs.PlaceLemmas.{passes, fails, told}
use Rattle.lab_book_laws.specs.Searched.{is_pool_call}
use Rattle.lab_pool.proofs.verdict.are_pool_calls.Goals as goal

pub returns-then-not-is_pool_call : goal.returns-then-not-is_pool_call
returns-then-not-is_pool_call c =
    let p : Entry → Bool = λ e. is_pool_call e.call in
    let within : c.asking.place < length c.args.history.now = omega arith in
    let here = told (λ (e : Entry). c.kind.result ≡ kind_of e.call) (λ e. p e ≡ false) _
    (λ e is. sym (c.is_pool_call.ensures e.call is) ∙ c.if-not-is_pool_call.true) c.kind.ensures in
    (λ no. absurd (false≢true no), λ all. sym (fails p c.args.history.now c.asking.place within here) ∙ c.asking.invariant ∙ list_all-from_AllPass p _ all)

pub asking-preserved : goal.asking-preserved
asking-preserved c =
    let p : Entry → Bool = λ e. is_pool_call e.call in
    let within : c.asking.place < length c.args.history.now = omega arith in
    let here = told (λ (e : Entry). c.kind.result ≡ kind_of e.call) (λ e. p e ≡ true) _
    (λ e is. sym (c.is_pool_call.ensures e.call is) ∙ c.if-not-is_pool_call.false) c.kind.ensures in
    passes p c.args.history.now c.asking.place within here ∙ c.asking.invariant
