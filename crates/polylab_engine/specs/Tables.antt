-- Which table a search has: the one that is asked for, or else dancing links, or bit sets where they have room.
--
-- Example: where bit sets are asked for, two workers have them for the small problem, and 149,797 would have no table, since theirs had no
-- room together; as many who ask for none have links. proofs/TableExamples.antt computes it.
use Rattle.std.specs.Prelude.{ℕ, Option, Some, None}
use Rattle.cover_problem.specs.Problem.{ProblemValue}
use Rattle.cover_bits.specs.Rule.{TablesFit}
use Rattle.polylab_engine.specs.declared.tables.TableKind.{TableKind}
use Rattle.polylab_engine.specs.declared.tables.TableKind.TheVariants.{Links, Bits}

-- the table of a search by so many workers, where this one was asked for; none where bit sets were and have no room
abbrev pub IsTableFor : ProblemValue → ℕ → Option TableKind → Option TableKind → Type 0
IsTableFor p workers None (Some Bits) = TablesFit p workers
IsTableFor p workers None (Some Links) = Unit {0}
IsTableFor p workers (Some Bits) (Some Bits) = TablesFit p workers
IsTableFor p workers (Some Bits) None = TablesFit p workers → ⊥
IsTableFor p workers (Some Links) (Some Links) = Unit {0}
IsTableFor p workers _ _ = ⊥
