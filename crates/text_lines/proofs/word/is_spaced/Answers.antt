use Rattle.std.proofs.Common.{arith, ◌≡◌, ◌||◌, ◌==◌, not, get_or, true}
use Rattle.std.proofs.lemmas.Bool.{or_left, or_right}
use Rattle.std.proofs.lemmas.Bool.Decides.{nat_tests}
use Rattle.text_lines.proofs.SpacedLemmas.{misplaced, ends_spaced}
use Rattle.text_lines.proofs.word.is_spaced.Goals as goal
use Rattle.text_lines.proofs.word.is_spaced.Goals.{then-wants_word, else-wants_word}

wrong : (c : goal.Then-byte-ne32) → (c.loop-byte.wants_word || not (get_or c.args.line.now c.loop-byte.byte-index 0 == 32)) ≡ true
wrong c = elim c.if-wants_word.branch [
  | then-wants_word w ↦ or_left _ _ w.if-wants_word.true
  | else-wants_word w ↦ or_right c.loop-byte.wants_word (not (get_or c.args.line.now c.loop-byte.byte-index 0 == 32)) (grind (arith, nat_tests))
]

pub returns-then-byte-ne32 : goal.returns-then-byte-ne32
returns-then-byte-ne32 c =
    (λ h. cc, λ h. absurd (misplaced c.args.line.now c.loop-byte.wants_word c.loop-byte.byte-index c.loop-byte.invariant c.loop-byte-test.true (rw c.is_blank.ensures at c.if-is_blank.true) (wrong c) h))

pub returns-else-is_empty : goal.returns-else-is_empty
returns-else-is_empty c = ends_spaced c.args.line.now c.loop-byte.wants_word c.loop-byte.byte-index c.loop-byte.invariant c.loop-byte-test.false (grind arith)
