use Rattle.packed_rows.proofs.RopeLemmas.{spelled_next}
use Rattle.packed_rows.proofs.reader.Reader.next.Goals as goal

pub invariant_of-self : goal.invariant_of-self
invariant_of-self c = spelled_next c.first.result _ _ c.self.invariant c.first.ensures.number c.first.ensures.fewer
