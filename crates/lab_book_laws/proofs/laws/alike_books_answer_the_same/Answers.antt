use Rattle.lab_book_laws.proofs.CallLemmas.{call_alike, lease_any_alike}
use Rattle.lab_book_laws.proofs.laws.alike_books_answer_the_same.Goals as goal

pub returns-clause-alike : goal.returns-clause-alike
returns-clause-alike c = λ a b v w i j g h d s t k n. (call_alike a b k s t v w i j g h n d).0

pub returns-clause-tile : goal.returns-clause-tile
returns-clause-tile c = λ a b v w i j g h d s t k n. (call_alike a b k s t v w i j g h n d).1

pub returns-clause-any : goal.returns-clause-any
returns-clause-any c = λ a b v w s t k. lease_any_alike a b k s t v w
