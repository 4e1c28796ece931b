-- How the pieces of a line are used, how many symbols the line has, and which of them name pieces.
--
-- Example: `any piece AB` names the piece A, whose copies are shown by A and B in turn; `copies AB` names two pieces.
-- proofs/GrammarExamples.antt computes it.
use Rattle.std.specs.Prelude.{ℕ, ◌==◌, nat_lt, nat_le, Bool, true, false, List, take}
use Rattle.poly_texts.specs.declared.usage.Usage.{Usage}
use Rattle.poly_texts.specs.declared.usage.Usage.TheVariants as usages

-- one piece, which has to be used once
abbrev pub is_once : Usage → Bool
is_once usages.Once = true
is_once usages.Maybe = false
is_once usages.Any = false
is_once usages.Copies = false

-- one piece, which may be left out
abbrev pub is_maybe : Usage → Bool
is_maybe usages.Once = false
is_maybe usages.Maybe = true
is_maybe usages.Any = false
is_maybe usages.Copies = false

-- one piece, which may be used any number of times
abbrev pub is_repeatable : Usage → Bool
is_repeatable usages.Once = false
is_repeatable usages.Maybe = false
is_repeatable usages.Any = true
is_repeatable usages.Copies = false

-- several equal pieces
abbrev pub are_copies : Usage → Bool
are_copies usages.Once = false
are_copies usages.Maybe = false
are_copies usages.Any = false
are_copies usages.Copies = true

-- a line may have that many symbols
abbrev pub are_so_many : Usage → ℕ → Bool
are_so_many usages.Once n = n == 1
are_so_many usages.Maybe n = n == 1
are_so_many usages.Any n = nat_lt 0 n
are_so_many usages.Copies n = nat_lt 1 n

-- that many of the n pieces of a line may be left out as spare ones
abbrev pub may_spare : Usage → ℕ → ℕ → Bool
may_spare usages.Once spare n = spare == 0
may_spare usages.Maybe spare n = spare == 0
may_spare usages.Any spare n = spare == 0
may_spare usages.Copies spare n = nat_le spare n

-- of the symbols of a line those that name pieces: all of them, or the first one where the others only show copies
abbrev pub pieces_named : Usage → List ℕ → List ℕ
pieces_named usages.Once symbols = symbols
pieces_named usages.Maybe symbols = symbols
pieces_named usages.Any symbols = take 1 symbols
pieces_named usages.Copies symbols = symbols
