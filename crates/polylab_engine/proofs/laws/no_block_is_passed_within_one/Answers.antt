use Rattle.std.proofs.Common.{ℕ, ◌+◌, ◌^◌, ◌<◌, arith}
use Rattle.polylab_engine.specs.Account.{PassesBlock}
use Rattle.polylab_engine.proofs.laws.no_block_is_passed_within_one.Goals as goal

pub returns : goal.returns
returns c = none where
  none : (old more : ℕ) → old + more < 2 ^ 32 → PassesBlock old (old + more) → ⊥
  none old more within (blocks, before, reached) = absurd (omega (arith, within, before, reached))
