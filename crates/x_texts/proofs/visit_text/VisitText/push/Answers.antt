use Rattle.std.proofs.Common.{ℕ, List, ◌≡◌, ◌++◌, ◌∷◌, [], ap, ◌∙◌, subst, arith}
use Rattle.std.specs.Prelude.{OnOk}
use Rattle.text_lines.specs.Writing.{line_text}
use Rattle.x_texts.specs.Words.{visit_words}
use Rattle.x_texts.specs.Written.{visits_said}
use Rattle.x_texts.proofs.EndLemmas.{AreSmall, each_small}
use Rattle.x_texts.proofs.WrittenLemmas.{still_lines, visit_added}
use Rattle.x_texts.proofs.visit_text.VisitText.push.Goals.{After-extend_from_slice}
use Rattle.x_texts.proofs.visit_text.VisitText.push.Goals as goal

-- the line that is put is the visit's
line : (c : After-extend_from_slice) → c.bytes.result.now ≡ line_text (visit_words c.args.path.now)
line c = c.bytes.ensures ∙ ap (λ path. line_text (visit_words path)) c.in_ok-turn.ensures.turned

small : (c : After-extend_from_slice) → AreSmall c.args.path.now
small c = each_small c.args.path.now (λ k. omega (arith, (c.type_inv.path k).fits))

pub invariant_of-self-2 : goal.invariant_of-self-2
invariant_of-self-2 c =
    still_lines c.extend_from_slice.result c.self.inside.text.items c.bytes.result.now c.extend_from_slice.new.self.items c.args.path.now c.self.invariant (small c) (line c)
    c.extend_from_slice.ensures.items

pub returns-clause-added : goal.returns-clause-added
returns-clause-added c =
    subst (λ (vs : List (List ℕ)). OnOk c.extend_from_slice.result (visits_said c.extend_from_slice.new.self.items ≡ vs ++ c.args.path.now ∷ [])) c.self.view_is
    (visit_added c.extend_from_slice.result c.self.inside.text.items c.bytes.result.now c.extend_from_slice.new.self.items c.args.path.now c.self.invariant (small c) (line c)
    c.extend_from_slice.ensures.items)
