-- The entries of a row of places.
use Rattle.std.specs.Prelude.{◌≡◌, List, [], ◌∷◌, map, Option, Some, None}
use Rattle.cover_links.specs.declared.entry.TableEntry.{TableEntry}

-- the entries that are there
abbrev pub values : List (Option TableEntry) → List TableEntry
values [] = []
values (None ∷ cs) = values cs
values (Some e ∷ cs) = e ∷ values cs

-- each place holds one
unfoldable pub IsFull : List (Option TableEntry) → Type 0
IsFull cs = cs ≡ map Some (values cs)
