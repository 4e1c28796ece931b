use Rattle.std.proofs.Common.{◌≡◌, true, ◌++◌, length}
use Rattle.x_debug.specs.Session.{SessionValue}
use Rattle.debug_laws.specs.AlikeSessions.{AreSoundAlike}
use Rattle.debug_script.specs.Input.{raw_lines}
use Rattle.debug_script.specs.Refusals.{has_pool}
use Rattle.debug_script.specs.Replies.{debug_replies}
use Rattle.debug_script.proofs.ReplyLemmas.{IsAnswering}
use Rattle.debug_script.proofs.answers.answer_lines.Given as goal

-- whatever alike session stands for the first one: what is said, and what is answered to the lines that are left, is what it answers;
-- and the lines that are left are of the first ones
abbrev pub invariant-loop-rest : goal.invariant-loop-rest
invariant-loop-rest g l =
    ((f : SessionValue) → AreSoundAlike l.initial.session f
    → IsAnswering (l.initial.text.items ++ debug_replies f 0 (raw_lines l.commands)) l.session l.text.items l.rest)
    × (has_pool (raw_lines l.rest) ≡ true → has_pool (raw_lines l.commands) ≡ true)

abbrev pub decreases-loop-rest : goal.decreases-loop-rest
decreases-loop-rest g l = length l.rest
