use Rattle.lab_book.proofs.StepLemmas.{whole_run}
use Rattle.lab_book.proofs.book.Book.new.Goals as goal

pub started-requires : goal.started-requires
started-requires c = rw c.new.ensures.items (whole_run _)
