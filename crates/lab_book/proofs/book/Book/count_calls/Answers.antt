use Rattle.std.proofs.Common.{arith}
use Rattle.lab_book.proofs.CountLemmas.{count_book}
use Rattle.lab_book.proofs.book.Book.count_calls.Goals as goal

pub returns : goal.returns
returns c =
    let count = count_book _ c.self.invariant.sound in
    rw (← c.self.view_is) (omega (arith, count, c.len-calls.ensures))
