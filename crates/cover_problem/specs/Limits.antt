-- The greatest problem that is taken, in numerals: the constants of the code are proved to keep to them.
use Rattle.std.specs.Prelude.{ℕ}

-- the most items of a problem
abbrev pub most_items : ℕ
most_items = 65535

-- the most options of a problem
abbrev pub most_options : ℕ
most_options = 262143

-- the most entries of a problem's table: a header, the items, the nodes and the spacers
abbrev pub most_entries : ℕ
most_entries = 8388608

-- the most characters of an item's name
abbrev pub most_name_bytes : ℕ
most_name_bytes = 8
