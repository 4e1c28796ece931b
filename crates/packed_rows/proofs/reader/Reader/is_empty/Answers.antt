use Rattle.std.proofs.Common.{◌≡◌, ◌↔◌, [], IsTrue, ◌∙◌, sym, subst}
use Rattle.packed_rows.proofs.RopeLemmas.{no_number}
use Rattle.packed_rows.proofs.reader.Reader.is_empty.Goals as goal

pub returns : goal.returns
returns c =
    let p = c.part.ensures in let e = c.copy.ensures in
    subst (λ ns. IsTrue c.is_empty.result ↔ (ns ≡ [])) c.self.view_is
    (no_number c.is_empty.result _ c.part.result.now _ c.self.invariant (sym e ∙ p.parts) (λ h. sym e ∙ p.end h) c.is_empty.ensures)
