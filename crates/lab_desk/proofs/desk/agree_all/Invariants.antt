use Rattle.std.proofs.Common.{◌≡◌, ◌<◌, ℕ, Some, length}
use Rattle.std.specs.Prelude.{slice_get}
use Rattle.lab_desk.specs.Record.{SeatValue, notes_of}
use Rattle.lab_desk.proofs.desk.agree_all.Given as goal

abbrev pub invariant-agreeing : goal.invariant-agreeing
invariant-agreeing g l = (l.seats ≡ l.initial.seats) × (l.keeper.all ≡ l.initial.keeper.all)
    × ((i : ℕ) (s : SeatValue) → i < l.k → slice_get l.seats i ≡ Some s → s.notes ≡ notes_of s.number (length g.L.Desking.opening) l.initial.keeper.all)
