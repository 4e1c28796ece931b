-- At which piece or cell choices are left out.
--
-- Example: in the row of three cells with the pieces A of two cells and B of one, half a turn keeps A one of its two choices, and B two
-- of its three. A keeps the least part, and no item has fewer options than two: A is the anchor.
use Rattle.std.specs.Prelude.{ℕ, ◌*◌, ◌==◌, nat_lt, Bool, false, not, ◌&&◌, cond, List, ◌++◌, map, filter, length, Option, Some, None}
use Rattle.std.specs.Prelude.{option_map}
use Rattle.std.specs.Prelude.{find}
use Rattle.std.specs.List.{list_all}
use Rattle.poly_texts.specs.Puzzle.{PuzzleValue, pieces_of, equal_names, names_of, has_name, is_needed}
use Rattle.shared_words.specs.Lists.{has, numbers}
use Rattle.cover_problem.specs.Problem.{ProblemValue}
use Rattle.poly_place.specs.declared.alike.Group.{Group}
use Rattle.poly_place.specs.declared.alike.Group.TheVariants.{Rotations}
use Rattle.poly_place.specs.Packings.{ChoiceValue, Thing, a_piece, a_cell, a_node, every_choice, packing_problem}
use Rattle.poly_place.specs.Compiled.{filled_cells}
use Rattle.poly_distinct.specs.declared.anchor.Anchor.{Anchor}
use Rattle.poly_distinct.specs.declared.anchor.Anchor.TheVariants.{Piece, Cell}
use Rattle.poly_distinct.specs.Distinct.{is_at, is_least}
use Rattle.poly_distinct.specs.Exchange.{mirror_name, has_mirrors}
use Rattle.poly_distinct.specs.Moves.{thing_of, kept_at}

-- ---- the symmetries at a thing

-- whether reflections may be used there: pieces have mirror images, and a piece is its own
abbrev pub may_reflect : PuzzleValue → Thing → Bool
may_reflect p (a_piece name) = has_mirrors p && (mirror_name p name == name)
may_reflect p (a_cell v) = has_mirrors p
may_reflect p (a_node name h) = false

-- the group whose symmetries may be used there
abbrev pub group_at : PuzzleValue → Group → Thing → Group
group_at p group t = cond (may_reflect p t) group Rotations

-- those of them that keep the region, its optional cells, and the thing
abbrev pub symmetries_at : PuzzleValue → Group → Thing → List ℕ
symmetries_at p group t = kept_at p (group_at p group t) t

-- ---- what is kept

-- an anchor, how many choices there are at it, and how many of these are kept
pub record TallyValue : Type 0 where
  pub anchor : Anchor
  pub options : ℕ
  pub kept : ℕ

-- whether the choice is there, and none of these symmetries brings its cells to lesser ones
abbrev pub is_kept_at : PuzzleValue → List ℕ → Thing → ChoiceValue → Bool
is_kept_at p ns t c = is_at t c && is_least p.region ns c.cells

-- how many choices are at an anchor, and how many of them are kept by these symmetries
abbrev pub tally_by : PuzzleValue → List ℕ → Anchor → TallyValue
tally_by p ns a = record {
  anchor = a;
  options = length (filter (is_at (thing_of a)) (every_choice p));
  kept = length (filter (is_kept_at p ns (thing_of a)) (every_choice p));
}

-- and by those that may be used there
abbrev pub anchor_tally : PuzzleValue → Group → Anchor → TallyValue
anchor_tally p group a = tally_by p (symmetries_at p group (thing_of a)) a

-- whether no other piece is equal to the one with this name
abbrev pub is_alone : PuzzleValue → ℕ → Bool
is_alone p name = list_all (λ group. not (has_name group name)) (equal_names p)

-- whether the piece is laid in each packing, and no other one is equal to it
abbrev pub is_single : PuzzleValue → ℕ → Bool
is_single p name = is_needed p name && is_alone p name

-- the pieces that are so
abbrev pub single_pieces : PuzzleValue → List Anchor
single_pieces p = map Piece (filter (is_single p) (names_of (pieces_of p)))

-- they and the cells that have to be filled, in the order of the items
abbrev pub anchors_of : PuzzleValue → List Anchor
anchors_of p = single_pieces p ++ map Cell (filled_cells p)

-- whether something is left out there
abbrev pub leaves_out : TallyValue → Bool
leaves_out a = nat_lt a.kept a.options

-- the anchors at which something is left out, with how much
abbrev pub tallies_of : PuzzleValue → Group → List TallyValue
tallies_of p group = filter leaves_out (map (anchor_tally p group) (anchors_of p))

-- ---- which one

-- whether the part of its choices that a keeps is less than b's
abbrev pub less_part : TallyValue → TallyValue → Bool
less_part a b = nat_lt (a.kept * b.options) (b.kept * a.options)

-- whether a keeps fewer choices than b, and whether it keeps more
abbrev pub fewer : TallyValue → TallyValue → Bool
fewer a b = nat_lt a.kept b.kept

abbrev pub more : TallyValue → TallyValue → Bool
more a b = nat_lt b.kept a.kept

-- the second of these tests, or the first
abbrev pub better_by : Bool → TallyValue → TallyValue → Bool
better_by most = cond most more fewer

-- whether none of the others is better
abbrev pub none_better : (TallyValue → TallyValue → Bool) → List TallyValue → TallyValue → Bool
none_better better others a = list_all (λ b. not (better b a)) others

-- the first of the best
abbrev pub first_best : (TallyValue → TallyValue → Bool) → List TallyValue → Option TallyValue
first_best better all = find (none_better better all) all

-- those that keep the least part of their choices
abbrev pub least_parts : List TallyValue → List TallyValue
least_parts all = filter (none_better less_part all) all

-- how many options have an item
abbrev pub options_with : ProblemValue → ℕ → ℕ
options_with q i = length (filter (λ o. has o i) q.options)

-- whether each item that has to be covered has more options than so many
abbrev pub is_below_all : ProblemValue → ℕ → Bool
is_below_all q n = list_all (λ i. nat_lt n (options_with q i)) (numbers q.primary 1)

-- the first one if it passes the test, and else the second
abbrev pub if_passes : (TallyValue → Bool) → Option TallyValue → Option TallyValue → Option TallyValue
if_passes test None other = None
if_passes test (Some a) other = cond (test a) (Some a) other

-- of some the one that keeps the fewest choices, if each item has more options; and else the one that keeps the most
abbrev pub chosen_of : ProblemValue → List TallyValue → Option TallyValue
chosen_of q all = if_passes (λ a. is_below_all q a.kept) (first_best fewer all) (first_best more all)

-- the required thing at which choices are left out: of those that keep the least part of their choices the one that keeps the fewest,
-- if each required item has more options, and else the one that keeps the most; the first of equals; none where nothing is left out
unfoldable pub anchor_of : PuzzleValue → Group → Option Thing
anchor_of p group = option_map (λ a. thing_of a.anchor) (chosen_of (packing_problem p) (least_parts (tallies_of p group)))
