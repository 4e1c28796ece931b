-- Where a search that is run by hand stops: at a level, at an option, at the choice of an item, at a visit.
--
-- Example: over a problem of one item and two options, `level 1`, `option 2`, `item 1` and `visit` are breakpoints; `level 2`,
-- `option 0` and `item 2` are none. proofs/WordExamples.antt computes it.
use Rattle.std.specs.Prelude.{◌==◌, nat_le, Bool, true, false, not, ◌&&◌, List, [], ◌∷◌, length}
use Rattle.std.specs.List.{list_any, list_all}
use Rattle.cover_problem.specs.Problem.{ProblemValue, is_item}
use Rattle.x_texts.specs.declared.breakpoint.Break.{Break}
use Rattle.x_texts.specs.declared.breakpoint.Break.TheVariants as at

-- whether it can be met in a search of the problem: a level of its run, an option of it, an item of it
abbrev pub is_break : ProblemValue → Break → Bool
is_break p (at.Level n) = nat_le n (length p.names)
is_break p (at.Option k) = is_item (length p.options) k
is_break p (at.Item i) = is_item (length p.names) i
is_break p at.Visit = true

-- whether two of them are the same: of the same kind, and with the same number
abbrev pub is_same : Break → Break → Bool
is_same (at.Level m) (at.Level n) = m == n
is_same (at.Option m) (at.Option n) = m == n
is_same (at.Item m) (at.Item n) = m == n
is_same at.Visit at.Visit = true
is_same _ _ = false

-- whether none comes twice
abbrev pub are_new : List Break → Bool
are_new [] = true
are_new (b ∷ bs) = not (list_any (is_same b) bs) && are_new bs

-- whether these can be the breakpoints of a snapshot: each can be met, and none comes twice
abbrev pub are_breaks : ProblemValue → List Break → Bool
are_breaks p breaks = list_all (is_break p) breaks && are_new breaks
