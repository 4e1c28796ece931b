use Rattle.std.proofs.Common.{◌++◌, ◌∙◌, refl, sym, ap}
use Rattle.std.proofs.lemmas.List.{append_cancel_left}
use Rattle.packed_rows.proofs.rope.same.Goals as goal

pub comparing-preserved : goal.comparing-preserved
comparing-preserved c =
    let i = c.comparing.invariant in let p = c.part-part-in-comparing.ensures in let b = c.if-not-begins.ensures.yes refl in
    let part = c.comparing.part.now in
    record {
      yes = λ h. i.yes (ap (λ xs. part ++ xs) (p.parts ∙ h) ∙ sym b);
      no = λ h. sym p.parts ∙ append_cancel_left part _ _ (i.no h ∙ b);
      end = λ h. sym p.parts ∙ p.end h;
    }
