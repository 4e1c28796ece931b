use Rattle.lab_book.proofs.IndexLemmas.{waits_first}
use Rattle.lab_book.proofs.tiles.Tiles.next_waiting.Goals as goal

pub invariant_of-self : goal.invariant_of-self
invariant_of-self c =
    let k = c.self.invariant in
    let first = rw (← c.self.view_is) at c.in_ok-i.ensures.place in
    record {
      numbered = k.numbered;
      index = k.index;
      waits_from = waits_first _ _ first;
      waiting_are = k.waiting_are;
      leased_are = k.leased_are;
      totals_are = k.totals_are;
    }
