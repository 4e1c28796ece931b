use Rattle.std.proofs.Common.{arith}
use Rattle.text_lines.proofs.LineLemmas.{cut_line_more, cut_line_last}
use Rattle.text_lines.proofs.line.split_line.Goals as goal

pub returns-in-empty-clause-lines : goal.returns-in-empty-clause-lines
returns-in-empty-clause-lines c = cut_line_last _ _ _ _ c.newline_at.ensures.first c.split_at.ensures.front c.split_at.ensures.back c.requires (omega arith)

pub returns-in-len1-up-clause-lines : goal.returns-in-len1-up-clause-lines
returns-in-len1-up-clause-lines c = cut_line_more _ _ _ _ c.newline_at.ensures.first c.split_at.ensures.front c.split_at.ensures.back c.requires
