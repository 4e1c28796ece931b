use Rattle.std.proofs.Common.{◌≡◌, drop}
use Rattle.std.specs.List.{list_all}
use Rattle.lab_history.specs.declared.entry.Entry.{Entry}
use Rattle.lab_book_laws.specs.Searched.{is_pool_call}
use Rattle.lab_pool.proofs.verdict.are_pool_calls.Given as goal

abbrev pub invariant-asking : goal.invariant-asking
invariant-asking l = list_all (λ (e : Entry). is_pool_call e.call) (drop l.place l.history) ≡ list_all (λ (e : Entry). is_pool_call e.call) (drop l.from l.history)
