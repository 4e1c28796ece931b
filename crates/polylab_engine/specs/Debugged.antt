-- What `debug` writes: the replies to the commands that follow a problem's text (`debug_output`).
--
-- Example: over the small problem the command `branches` has the reply `branch start to end leased`. proofs/JobExamples.antt computes it.
use Rattle.std.specs.Prelude.{ℕ, List}
use Rattle.cover_problem.specs.Problem.{ProblemValue}
use Rattle.x_debug.specs.Session.{fresh_session}
use Rattle.debug_script.specs.Replies.{debug_replies}

-- the replies to these command lines, in a session that is at the start of a problem's run
unfoldable pub debug_output : List (List ℕ) → ProblemValue → List ℕ
debug_output lines p = debug_replies (fresh_session p) 0 lines
