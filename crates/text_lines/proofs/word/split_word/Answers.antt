use Rattle.std.proofs.Common.{arith, ◌≡◌, ◌<◌, length, ◌∷◌}
use Rattle.text_lines.specs.Lines.{words_of}
use Rattle.text_lines.proofs.WordLemmas.{first_word, no_word}
use Rattle.text_lines.proofs.word.split_word.Goals as goal

taken : (c : goal.After-split_at) → (words_of c.args.said.now ≡ c.split_at.result.0.now ∷ words_of c.split_at.result.1.now) × (length c.split_at.result.1.now < length c.args.said.now)
taken c = first_word c.args.said.now c.past_blanks-after.result.now _ _ c.past_blanks-after.ensures (grind arith) (rw (← c.word_len.ensures.front) c.split_at.ensures.front) (rw (← c.word_len.ensures.front) c.split_at.ensures.back)

pub returns-then-is_empty-clause-none : goal.returns-then-is_empty-clause-none
returns-then-is_empty-clause-none c = no_word c.args.said.now c.past_blanks-after.result.now c.past_blanks-after.ensures (grind arith)

pub returns-clause-some : goal.returns-clause-some
returns-clause-some c = (taken c).0

pub returns-clause-shorter : goal.returns-clause-shorter
returns-clause-shorter c = (taken c).1
