-- The examples of specs/Tables.antt, on the small problem.
use Rattle.std.proofs.Common.{Some, None, lit≤, arith}
use Rattle.cover_problem.proofs.CoverExamples.{small}
use Rattle.polylab_engine.specs.declared.tables.TableKind.TheVariants.{Links, Bits}
use Rattle.polylab_engine.specs.Tables.{IsTableFor}

links_are_free : IsTableFor small 149797 None (Some Links)
links_are_free = tt

bits_have_room : IsTableFor small 2 None (Some Bits)
bits_have_room = lit≤ tt

-- so many are not given bits
bits_are_too_many : IsTableFor small 149797 None (Some Bits) → ⊥
bits_are_too_many room = omega arith

bits_are_asked : IsTableFor small 2 (Some Bits) (Some Bits)
bits_are_asked = lit≤ tt

bits_have_no_room : IsTableFor small 149797 (Some Bits) None
bits_have_no_room room = omega arith
