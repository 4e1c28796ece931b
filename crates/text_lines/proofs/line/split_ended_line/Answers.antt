use Rattle.std.proofs.Common.{arith}
use Rattle.text_lines.proofs.LineLemmas.{cut_first, cut_none, cut_some}
use Rattle.text_lines.proofs.line.split_ended_line.Goals as goal

pub returns-in-empty-clause-none : goal.returns-in-empty-clause-none
returns-in-empty-clause-none c = cut_none _ _ _ _ c.newline_at.ensures.first c.split_at.ensures.front c.split_at.ensures.back (omega arith)

pub returns-in-len1-up-clause-some : goal.returns-in-len1-up-clause-some
returns-in-len1-up-clause-some c = cut_some _ _ _ _ c.newline_at.ensures.first c.split_at.ensures.front c.split_at.ensures.back c.in-len1-up.len_at_least

pub returns-in-len1-up-clause-first : goal.returns-in-len1-up-clause-first
returns-in-len1-up-clause-first c = cut_first _ _ _ _ c.newline_at.ensures.first c.split_at.ensures.front c.split_at.ensures.back
