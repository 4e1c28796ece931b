-- What a table of bit sets keeps beside the problem and the list of the covered items.
-- TAOCP volume 4B, section 7.2.2.1; its lists are sets here. The bit k stands for the option numbered k + 1, or the item numbered k + 1.
--
-- Example: in the small problem a set of options takes one word. The column of d has the bits 1, 3 and 5, for the options 2, 4 and 6.
-- With nothing covered the set is 63, all six options. Once a is covered it is 53, the options 1, 3, 5 and 6: those of 63 that aren't in
-- the column of a. What it shares with the column of d is the option 6. proofs/BitExamples.antt computes it.
use Rattle.std.specs.Prelude.{ℕ, ◌≡◌, ◌<◌, ◌≤◌, ◌+◌, ◌-◌, ◌*◌, ◌^◌, min, nat_lt, Bool, true, not, ◌&&◌, List, [], length, take, drop, map, slice_index_or}
use Rattle.std.specs.List.{list_any, list_all, All}
use Rattle.shared_words.specs.Lists.{has, numbers, RisesFrom}
use Rattle.cover_problem.specs.Problem.{ProblemValue, IsProblem, option_at, is_item}
use Rattle.cover_problem.specs.Table.{IsCoveredList}
use Rattle.cover_bits.specs.declared.lists.ItemList.{ItemList}
use Rattle.cover_bits.specs.declared.sets.Part.{Part}
use Rattle.cover_bits.specs.Parts.{words_for, in_row, in_parts, in_both, ArePlaced, ones_of_both}

-- the row at place i among rows of so many words
abbrev pub row_at : ℕ → ℕ → List ℕ → List ℕ
row_at words i rows = take words (drop (i * words) rows)

-- the set at place d among rows with room for so many parts
abbrev pub set_at : ℕ → List Part → List ℕ → ℕ → List Part
set_at words parts counts d = take (slice_index_or counts d 0) (drop (d * words) parts)

-- whether the option is left once the items c are covered
abbrev pub is_left : ProblemValue → List ℕ → ℕ → Bool
is_left p c k = nat_lt k (length p.options) && not (list_any (has c) (option_at p (k + 1)))

-- the parts are those of the options left once the items c are covered
pub record AreLeft (p : ProblemValue) (c : List ℕ) (words : ℕ) (set : List Part) : Type 0 where
  pub placed : ArePlaced 0 words set
  pub are : (k : ℕ) → in_parts set k ≡ is_left p c k

-- and with the options of the items that are gone taken out of them, they are those of the options left
pub record AreLeftBut (p : ProblemValue) (c : List ℕ) (words : ℕ) (set : List Part) (gone : List ℕ) : Type 0 where
  pub placed : ArePlaced 0 words set
  pub are : (k : ℕ) → (in_parts set k && not (list_any (has (option_at p (k + 1))) gone)) ≡ is_left p c k
  pub items : list_all (is_item (length p.names)) gone ≡ true

-- the rows tell for each item which options have it
abbrev pub AreColumns : ProblemValue → ℕ → List ℕ → Type 0
AreColumns p words columns = (i k : ℕ) → i < length p.names → k < 64 * words
    → in_row columns (i * (64 * words) + k) ≡ has (option_at p (k + 1)) (i + 1)

-- the row tells which items are active
abbrev pub AreActive : ProblemValue → List ℕ → List ℕ → Type 0
AreActive p c active = (k : ℕ) → in_row active k ≡ (nat_lt k p.primary && not (has c (k + 1)))

-- the fields are those of the problem, with these items covered and room for all: of each number d of covered items, up to now, the base is
-- the number whose set was the last one written then
pub record IsBits (p : ProblemValue) (options primary words : ℕ) (columns : List ℕ) (parts : List Part)
    (counts bases active covered : List ℕ) (room : ℕ) : Type 0 where
  pub sound : IsProblem p
  pub options_are : options ≡ length p.options
  pub primary_is : primary ≡ p.primary
  pub words_are : words ≡ words_for (length p.options)
  pub columns_long : length columns ≡ length p.names * words
  pub columns_are : AreColumns p words columns
  pub parts_long : length parts ≡ (length p.names + 1) * words
  pub counts_long : length counts ≡ length p.names + 1
  pub bases_long : length bases ≡ length p.names + 1
  pub few : (d : ℕ) → slice_index_or counts d 0 ≤ words
  pub below : (d : ℕ) → d ≤ length covered → slice_index_or bases d 0 ≤ d
  pub rise : (d e : ℕ) → d ≤ e → e ≤ length covered → slice_index_or bases d 0 ≤ slice_index_or bases e 0
  pub sets_are : (d : ℕ) → d ≤ length covered
      → AreLeft p (take (slice_index_or bases d 0) covered) words (set_at words parts counts (slice_index_or bases d 0))
  pub active_long : length active ≡ words_for (length p.names)
  pub active_are : AreActive p covered active
  pub distinct : IsCoveredList p covered
  pub fits : length p.names ≤ room

-- the columns have that of the item i
abbrev pub HasColumn : ℕ → List ℕ → ℕ → Type 0
HasColumn words columns i = (0 < i) × ((i - 1) * words + words ≤ length columns)

-- the column of the item at a place, or of the first one where there are not so many
abbrev pub column_at : ℕ → List ℕ → List ℕ → ℕ → List ℕ
column_at words columns items place = row_at words (slice_index_or items place (slice_index_or items 0 0) - 1) columns

-- whether the option k is in the column of one of these items
abbrev pub in_columns : ℕ → List ℕ → List ℕ → ℕ → Bool
in_columns words columns items k = list_any (λ i. in_row columns ((i - 1) * (64 * words) + k)) items

-- the parts are those of the options of a set that have none of these items
pub record IsWithout (words : ℕ) (columns items : List ℕ) (set next : List Part) : Type 0 where
  pub placed : ArePlaced 0 words next
  pub are : (k : ℕ) → k < 64 * words → in_parts next k ≡ (in_parts set k && not (in_columns words columns items k))

-- the set at `depth` is written: the options of the set at `base` that have none of these items; the sets up to `base` stay
pub record IsNextSet (words base depth : ℕ) (columns items : List ℕ) (parts parts2 : List Part) (counts counts2 : List ℕ)
    : Type 0 where
  pub parts_long : length parts2 ≡ length parts
  pub counts_long : length counts2 ≡ length counts
  pub few : (d : ℕ) → slice_index_or counts2 d 0 ≤ words
  pub set : IsWithout words columns items (set_at words parts counts base) (set_at words parts2 counts2 depth)
  pub counts_same : (d : ℕ) → d ≤ base → slice_index_or counts2 d 0 ≡ slice_index_or counts d 0
  pub before : take ((base + 1) * words) parts2 ≡ take ((base + 1) * words) parts

-- the parts lie within the column, and the items that are gone have columns
pub record IsReadable (list : ItemList) : Type 0 where
  pub placed : ArePlaced 0 (length list.column.now) list.parts.now
  pub few : length list.parts.now ≤ length list.column.now
  pub small : 64 * length list.column.now < 2 ^ 32
  pub gone : All (HasColumn (length list.column.now) list.columns.now) list.gone.now

-- whether an option is in the list
abbrev pub in_list : ItemList → ℕ → Bool
in_list list k =
    in_both list.parts.now list.column.now k && not (in_columns (length list.column.now) list.columns.now list.gone.now k)

-- it is the list of these options
pub record IsListOf (xs : List ℕ) (list : ItemList) : Type 0 where
  pub sound : IsReadable list
  pub rises : RisesFrom 1 xs
  pub are : (k : ℕ) → in_list list k ≡ has xs (k + 1)
  pub count : list.gone.now ≡ [] → ones_of_both list.parts.now list.column.now ≡ length xs

-- the word at place v of the set of all numbers below n
abbrev pub full_word : ℕ → ℕ → ℕ
full_word n v = 2 ^ (min (n - 64 * v) 64) - 1

-- the parts of the set of all numbers below n
abbrev pub full_set : ℕ → ℕ → List Part
full_set n words = map (λ v. record { word = full_word n v; place = v }) (numbers words 0)
