use Rattle.std.proofs.Common.{◌∙◌}
use Rattle.text_lines.proofs.FirstByteLemmas.{first_place}
use Rattle.text_lines.proofs.line.newline_at.Goals as goal

pub returns-clause-first : goal.returns-clause-first
returns-clause-first c = c.unwrap_or.ensures ∙ first_place _ _ _ c.memchr.ensures
