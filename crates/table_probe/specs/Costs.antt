-- What a stretch of a search costs by either table, from six counts.
--
-- Example: two choices that look at 10 items, 5 nodes hidden, and a word left at each look and at 3 options tried, cost links 180 and bits 181.
-- proofs/CostExamples.antt computes it.
use Rattle.std.specs.Prelude.{ℕ, ◌+◌, ◌*◌}
use Rattle.table_probe.specs.declared.costs.Costs.{Costs}

-- what dancing links pay: for each item that is looked at, and for each node that is hidden
abbrev pub links_cost : Costs → ℕ
links_cost c = 10 * c.looked + 16 * c.hidden

-- what bit sets pay: for each choice, for each word of an item that is looked at, for each word of a set that is written anew, and for
-- each word of the row of active items
abbrev pub bits_cost : Costs → ℕ
bits_cost c = 50 * c.chosen + 3 * c.looked_words + 5 * c.written_words + 18 * c.row_words
