-- A history: `HistoryValue`, its entries and the room that is kept.
--
-- Example: a history of one entry, with room for the entry that ends its lease. proofs/HistoryExamples.antt computes it.
use Rattle.std.specs.Prelude.{ℕ, List}
use Rattle.lab_history.specs.declared.entry.Entry.{Entry}

-- entries, and for how many more room is kept
pub record HistoryValue : Type 0 where
  pub entries : List Entry
  pub kept : ℕ
