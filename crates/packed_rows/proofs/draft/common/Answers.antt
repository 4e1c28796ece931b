use Rattle.packed_rows.proofs.PieceLemmas.{common_rest}
use Rattle.packed_rows.proofs.draft.common.Goals as goal

pub returns : goal.returns
returns c = common_rest _ _ _ _ _ _ c.common_steps-done.ensures c.split_at.ensures.back c.split_at-2.ensures.back c.common_bytes.ensures
