-- The example of specs/Replies.antt.
use Rattle.std.proofs.Common.{◌≡◌, [], ◌∷◌, ◌++◌, codes, Some, None, refl}
use Rattle.std.specs.Fmt.{digits}
use Rattle.text_lines.specs.Writing.{line_text}
use Rattle.debug_language.specs.declared.words.Standing.TheVariants.{Waiting}
use Rattle.debug_language.specs.Replies.{standing_words}

from_four : line_text (standing_words (Some (4 ∷ [])) None Waiting) ≡ codes "branch 4 to end waiting" ++ 10 ∷ []
unfolding digits
from_four = refl
