-- Desks (`DeskValue`), and what the notes of their seats say of a history: seats as they are made (`AreNewSeats`), that each number is one
-- seat's (`HaveAllNumbers`), that their notes are a history's entries (`AreRecords`), and whether these are of so many workers
-- (`are_of_workers`). What a desk is made of (`BlankValue`), and that the leases which a history leaves to its workers are current
-- (`AllStand`).
--
-- Example: the seats 1 and 0 have all numbers below 2. Entries of the workers 0 and 1 are of workers below 2, and not below 1.
-- proofs/DeskExamples.antt computes it.
use Rattle.std.specs.Prelude.{◌≡◌, ◌<◌, ◌==◌, ℕ, nat_lt, Bool, List, [], slice_get, count_by, drop, length, true, Some}
use Rattle.std.specs.List.{list_all}
use Rattle.lab_book.specs.Calls.{is_current}
use Rattle.lab_history.specs.declared.grant.Grant.{Grant}
use Rattle.lab_history.specs.declared.entry.Entry.{Entry}
use Rattle.atomic_table.specs.Seated.{TableId}
use Rattle.lab_book.specs.Tile.{TileValue}
use Rattle.lab_desk.specs.Record.{SeatValue, notes_of, holds}

-- a desk, as its callers know it: how many seats it has
pub record DeskValue : Type 0 where
  pub seats : ℕ

-- seats as a desk makes them: each has its place's number, no note, and no lease
abbrev pub AreNewSeats : List SeatValue → Type 0
AreNewSeats seats = (k : ℕ) (s : SeatValue) → slice_get seats k ≡ Some s → s ≡ record { number = k; notes = []; kept = 0 }

-- how many of these seats have a number
abbrev pub seats_of : ℕ → List SeatValue → ℕ
seats_of number seats = count_by (λ (s : SeatValue). s.number == number) seats

-- each number below n is that of just one seat
abbrev pub HaveAllNumbers : ℕ → List SeatValue → Type 0
HaveAllNumbers n seats = (k : ℕ) → k < n → seats_of k seats ≡ 1

-- the notes of each seat are the entries of its number, from an index on
abbrev pub AreRecords : ℕ → List Entry → List SeatValue → Type 0
AreRecords from entries seats = (i : ℕ) (s : SeatValue) → slice_get seats i ≡ Some s → s.notes ≡ notes_of s.number from entries

-- the notes of each seat are the entries of its number in a history, from an index on
abbrev pub AreRecordsFrom : ℕ → List Entry → List SeatValue → Type 0
AreRecordsFrom from history seats = AreRecords from (drop from history) seats

-- the same, from where these entries end that the history begins with
abbrev pub AreRecordsAfter : List Entry → List Entry → List SeatValue → Type 0
AreRecordsAfter opening history seats = AreRecordsFrom (length opening) history seats

-- whether each entry is of a worker below n
abbrev pub are_of_workers : ℕ → List Entry → Bool
are_of_workers n entries = list_all (λ (e : Entry). nat_lt e.worker n) entries

-- each entry of a history, from an index on, is of a worker below n
abbrev pub AreOfWorkers : ℕ → ℕ → List Entry → Type 0
AreOfWorkers from n history = are_of_workers n (drop from history) ≡ true

-- each entry of a history behind those that it begins with is of a worker who has one of n seats
abbrev pub AreOfSeatsAfter : List Entry → ℕ → List Entry → Type 0
AreOfSeatsAfter opening n history = AreOfWorkers (length opening) n history

-- each lease that the entries since an opening leave to its worker is the current one of its tile
abbrev pub AllStand : List Entry → List Entry → List TileValue → Type 0
AllStand opening entries ts = (g : Grant) → holds (notes_of g.worker (length opening) entries) g ≡ true → is_current ts g ≡ true

-- these are all of so many seats: each number is that of just one
pub record AreAllSeats (n : ℕ) (seats : List SeatValue) : Type 0 where
  pub count : length seats ≡ n
  pub numbers : HaveAllNumbers n seats

-- a blank desk, as its callers know it: by which table it is told from others, and for how many seats it is
pub record BlankValue : Type 0 where
  pub name : TableId
  pub parts : ℕ
