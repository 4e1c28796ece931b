-- Which piece takes the place of which where packings are reflected.
--
-- Example: of two screws A and B that are mirror images of one another each takes the place of the other. Where both are turned forms of
-- one another, neither has a mirror image, and packings can't be reflected.
use Rattle.std.specs.Prelude.{ℕ, ◌==◌, Bool, true, false, not, ◌&&◌, ◌||◌, List, [], map, filter, length, Option, option_map, unwrap_or}
use Rattle.std.specs.Prelude.{find}
use Rattle.std.specs.List.{list_any, range_with_len, position_or_len, take_while}
use Rattle.std.specs.Ordering.{is_eq}
use Rattle.std.proofs.Math.Bool.{beq}
use Rattle.poly_cells.specs.Coordinates.{Coordinates}
use Rattle.poly_cells.specs.Shapes.{turned}
use Rattle.poly_cells.specs.Symmetries.{is_rotation}
use Rattle.poly_texts.specs.Puzzle.{PuzzleValue, pieces_of, mirrored_names, equal_names, has_name, is_needed, is_spare}
use Rattle.poly_place.specs.Placements.{cells_cmp}
use Rattle.poly_place.specs.Packings.{is_any}
use Rattle.poly_distinct.specs.Distinct.{are_mirrors}

-- how a piece may be used: whether it may be reflected, has to be used, and may be used any number of times; and of the group of equal
-- pieces to which it belongs how many come before it, how many there are, and how many are spare
pub record RoleValue : Type 0 where
  pub mirrored : Bool
  pub needed : Bool
  pub any : Bool
  pub place : ℕ
  pub mates : ℕ
  pub spares : ℕ

-- the first group that has the name, or none
abbrev pub first_group : List (List ℕ) → ℕ → List ℕ
first_group groups name = unwrap_or (find (λ group. has_name group name) groups) []

-- the group of equal pieces to which one belongs, or none
abbrev pub mates_of : PuzzleValue → ℕ → List ℕ
mates_of p name = first_group (equal_names p) name

-- how the piece may be used
abbrev pub role_of : PuzzleValue → ℕ → RoleValue
role_of p name = record {
  mirrored = has_name (mirrored_names p) name;
  needed = is_needed p name;
  any = is_any p name;
  place = position_or_len (λ n. n == name) (mates_of p name);
  mates = length (mates_of p name);
  spares = length (filter (is_spare p) (mates_of p name));
}

-- whether two pieces may be used alike
abbrev pub same_role : RoleValue → RoleValue → Bool
same_role a b =
    beq a.mirrored b.mirrored && (beq a.needed b.needed && (beq a.any b.any
    && ((a.place == b.place) && ((a.mates == b.mates) && (a.spares == b.spares)))))

-- a piece with its name; the forms of it that may be laid, and those of its mirror image; and how it may be used
pub record FormedValue : Type 0 where
  pub name : ℕ
  pub cells : List Coordinates
  pub forms : List (List Coordinates)
  pub images : List (List Coordinates)
  pub role : RoleValue

-- the piece turned by each of the symmetries that pass a test
abbrev pub forms_by : (ℕ → Bool) → List Coordinates → List (List Coordinates)
forms_by test piece = map (λ n. turned n piece) (filter test (range_with_len 0 48))

-- whether the symmetry is a rotation, or not, or any where both are taken
abbrev pub takes_symmetry : Bool → Bool → ℕ → Bool
takes_symmetry rotations both n = beq (is_rotation n) rotations || both

-- a piece of the puzzle so
abbrev pub formed_piece : PuzzleValue → ℕ × List Coordinates → FormedValue
formed_piece p named = record {
  name = named.0;
  cells = named.1;
  forms = forms_by (takes_symmetry true (has_name (mirrored_names p) (named.0))) (named.1);
  images = forms_by (takes_symmetry false (has_name (mirrored_names p) (named.0))) (named.1);
  role = role_of p (named.0);
}

-- the puzzle's pieces so
abbrev pub formed_pieces : PuzzleValue → List FormedValue
formed_pieces p = map (formed_piece p) (pieces_of p)

-- whether a piece is one of these forms
abbrev pub has_form : List (List Coordinates) → List Coordinates → Bool
has_form forms piece = list_any (λ form. is_eq (cells_cmp form piece)) forms

-- whether l is k turned, and may be used as k
abbrev pub is_like : FormedValue → FormedValue → Bool
is_like k l = has_form l.forms k.cells && same_role l.role k.role

-- whether k is the mirror image of l, turned, and l may be used as k
abbrev pub is_image : FormedValue → FormedValue → Bool
is_image k l = has_form l.images k.cells && same_role l.role k.role

-- how many like pieces come before a piece
abbrev pub rank_among : List FormedValue → FormedValue → ℕ
rank_among ks k = length (filter (is_like k) (take_while (λ l. not (l.name == k.name)) ks))

-- the piece that stands among the mirror images of a piece where it stands itself among those that are like it
abbrev pub image_of_piece : List FormedValue → FormedValue → Option FormedValue
image_of_piece ks k = find (λ l. is_image k l && (rank_among ks l == rank_among ks k)) ks

-- the name of that piece, or of the piece itself where there is none
abbrev pub partner : List FormedValue → FormedValue → ℕ
partner ks k = unwrap_or (option_map (λ l. l.name) (image_of_piece ks k)) k.name

-- each name with the one that takes its place
abbrev pub pairs_of : List FormedValue → List (ℕ × ℕ)
pairs_of ks = map (λ k. (k.name, partner ks k)) ks

-- the second of the pair with this name as its first, or the name itself where there is none
abbrev pub second_of : List (ℕ × ℕ) → ℕ → ℕ
second_of pairs name = unwrap_or (option_map (λ (pair : ℕ × ℕ). pair.1) (find (λ (pair : ℕ × ℕ). pair.0 == name) pairs)) name

-- the name that takes the place of a name if packings are reflected: that of the piece which is its mirror image turned and may be
-- used as it; of several, each its own
unfoldable pub mirror_name : PuzzleValue → ℕ → ℕ
mirror_name p = second_of (pairs_of (formed_pieces p))

-- whether that brings all pieces to their mirror images, so that packings may be reflected
unfoldable pub has_mirrors : PuzzleValue → Bool
has_mirrors p = are_mirrors p (mirror_name p)
