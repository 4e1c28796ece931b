-- Where a search stands, by whichever table, and by which one it is.
use Rattle.std.specs.Prelude.{◌≡◌, Option, is_none}
use Rattle.std.specs.Option.{ForSome}
use Rattle.x_steps.specs.Machine.{MachineValue}
use Rattle.polylab_engine.specs.declared.searcher.AnyMachine.{AnyMachine}
use Rattle.polylab_engine.specs.declared.searcher.AnyMachine.TheVariants.{Links, Bits}
use Rattle.polylab_engine.specs.declared.searcher.Searcher.{Searcher}
use Rattle.polylab_engine.specs.declared.tables.TableKind.{TableKind}
use Rattle.polylab_engine.specs.declared.tables.TableKind.TheVariants as kinds

-- the position of a machine with one of the tables
abbrev pub machine_value : AnyMachine → MachineValue
machine_value (Links m) = m
machine_value (Bits m) = m

-- the position of a search
abbrev pub stands : Searcher → MachineValue
stands s = machine_value s.machine

-- the table of a machine
abbrev pub kind_of : AnyMachine → TableKind
kind_of (Links m) = kinds.Links
kind_of (Bits m) = kinds.Bits

-- a search has the table that was asked for, if one was, and else may take the other one later
pub record HasTable (asked : Option TableKind) (s : Searcher) : Type 0 where
  pub kind : ForSome asked (λ kind. kind_of s.machine ≡ kind)
  pub free : s.is_free ≡ is_none asked
