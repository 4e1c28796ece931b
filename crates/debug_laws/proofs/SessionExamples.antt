-- The examples of specs/AlikeSessions.antt and specs/PlayedSessions.antt, computed on the two books of lab_book_laws/proofs/AlikeExamples.antt: the tile behind the cut 4 is
-- open in both, and one closed tile goes up to there in the one, two in the other.
use Rattle.std.proofs.Common.{◌≡◌, suc, zero, Some, None, [], ◌∷◌, codes, refl, arith}
use Rattle.cover_problem.proofs.CoverExamples.{small}
use Rattle.x_branches.specs.Runner.{runner_at}
use Rattle.x_branches.specs.Branch.{first_of}
use Rattle.x_texts.specs.declared.breakpoint.Break.TheVariants.{Visit}
use Rattle.lab_book.specs.declared.status.Status.TheVariants.{Leased}
use Rattle.lab_history.specs.declared.grant.Grant.{Grant}
use Rattle.lab_book.specs.Book.{BookValue}
use Rattle.debug_language.specs.declared.question.Question.TheVariants.{Show, Branches}
use Rattle.debug_language.specs.Reader.{command_from}
use Rattle.x_debug.specs.Session.{SessionValue, session_on}
use Rattle.x_debug.specs.Commands.{deed_of}
use Rattle.x_debug.specs.Questions.{lines_asked, question_lines}
use Rattle.lab_book_laws.proofs.AlikeExamples.{cut, in_two, in_three}
use Rattle.debug_laws.specs.AlikeSessions.{AreAlikeSessions, IsSoundSession}
use Rattle.debug_laws.specs.PlayedSessions.{all_acts}

-- worker 0 stands at the mark of the tile behind the cut 4, and visits are a breakpoint
abbrev session_of : BookValue → Grant → SessionValue
session_of b lease = record {
  book = b;
  worker = Some (record { grant = lease; runner = runner_at small (record { lo = cut 4; hi = None }) (first_of (cut 4)) });
  breaks = Visit ∷ [];
}

-- by the id 1 in the one book, by the id 2 in the other
abbrev one : SessionValue
one = session_of (in_two (Leased 0 3)) (record { id = 1; worker = 0; index = 3 })

abbrev other : SessionValue
other = session_of (in_three (Leased 0 7)) (record { id = 2; worker = 0; index = 7 })

are_alike : AreAlikeSessions one other
are_alike = record { book = record { problem = refl; branch = refl; first = refl; tiles = refl }; runner = refl; breaks = refl }

-- they tell the same of the open branch, and of the branches that are not closed
same_show : lines_asked one Show ≡ lines_asked other Show
unfolding question_lines
same_show = refl

same_branches : lines_asked one Branches ≡ lines_asked other Branches
unfolding question_lines
same_branches = refl

-- a session without an open branch is alike to neither
not_alike : ¬ AreAlikeSessions one (session_on (in_two (Leased 0 3)))
not_alike k = let e = k.runner in absurd (cc)

-- nor is it sound, as a tile of its book is leased
not_sound : ¬ IsSoundSession (session_on (in_two (Leased 0 3)))
not_sound h = let e : suc zero ≡ zero = h.leased in absurd (omega arith)

-- ---- specs/PlayedSessions.antt

-- `show` is no act, and a line that is no command is none
no_acts : (s : SessionValue) → all_acts s (codes "show" ∷ codes "dance" ∷ []) ≡ []
unfolding deed_of command_from
no_acts s = refl
