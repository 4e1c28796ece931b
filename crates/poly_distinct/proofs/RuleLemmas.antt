-- The symmetries that may be used at an anchor are the allowed ones.
use Rattle.std.proofs.Common.{◌≡◌, ℕ, ◌==◌, Bool, true, false, ◌&&◌, ◌||◌, cond, List, [], ◌∷◌, ◌++◌, map, filter, refl, sym, ap, ap₂, ◌∙◌}
use Rattle.std.specs.List.{list_all, range_with_len}
use Rattle.poly_cells.specs.Symmetries.{is_rotation}
use Rattle.poly_texts.specs.Puzzle.{PuzzleValue}
use Rattle.poly_place.specs.declared.alike.Group.{Group}
use Rattle.poly_place.specs.declared.alike.Group.TheVariants.{Rotations, Symmetries}
use Rattle.poly_place.specs.Packings.{Thing, a_piece, a_cell, a_node}
use Rattle.poly_place.specs.Classes.{is_member}
use Rattle.poly_distinct.specs.Distinct.{IsAnchor, allowed, is_allowed, keeps_region}
use Rattle.poly_distinct.specs.Exchange.{mirror_name, has_mirrors}
use Rattle.poly_distinct.specs.declared.anchor.Anchor.{Anchor}
use Rattle.poly_distinct.specs.Moves.{MovesValue, thing_of, kept_at, leaves_thing}
use Rattle.poly_distinct.specs.declared.anchor.Anchor.TheVariants.{Cell}
use Rattle.poly_distinct.specs.Counts.{cell_tally}
use Rattle.poly_distinct.specs.Rule.{TallyValue, anchor_of, anchors_of, chosen_of, group_at, least_parts, leaves_out, may_reflect, single_pieces, symmetries_at, tallies_of, tally_by, anchor_tally}
use Rattle.std.specs.Prelude.{Option, option_map}
use Rattle.std.proofs.lemmas.List.{map-append}
use Rattle.std.proofs.lemmas.List.Elements.{filter-append}
use Rattle.cover_problem.specs.Problem.{ProblemValue}
use Rattle.poly_cells.proofs.MemberLemmas.{all_pass, in_from_filter}
use Rattle.poly_place.specs.Compiled.{filled_cells}
use Rattle.poly_place.specs.Packings.{packing_problem}

same_filter : {X : Type 0} (f g : X → Bool) → ((x : X) → f x ≡ g x) → (xs : List X) → filter f xs ≡ filter g xs
same_filter f g h [] = refl
same_filter {X} f g h (x ∷ xs) = ap₂ (λ b (ys : List X). cond b (x ∷ ys) ys) (h x) (same_filter f g h xs)

-- whether a group has a symmetry that is a rotation or isn't
abbrev member : Group → Bool → Bool
member Rotations r = r
member Symmetries r = true

member_is : (group : Group) (n : ℕ) → is_member group n ≡ member group (is_rotation n)
member_is Rotations n = refl
member_is Symmetries n = refl

-- at a cell: r tells a rotation, m whether pieces are mirrored, x whether the region is kept, and l whether the cell is
cell_case : (group : Group) (r m x l : Bool) → ((member group r && x) && ((r || m) && l)) ≡ ((member (cond m group Rotations) r && x) && l)
cell_case Rotations true true x l = refl
cell_case Rotations true false x l = refl
cell_case Rotations false true x l = refl
cell_case Rotations false false x l = refl
cell_case Symmetries true true x l = refl
cell_case Symmetries true false x l = refl
cell_case Symmetries false true x l = refl
cell_case Symmetries false false true l = refl
cell_case Symmetries false false false l = refl

-- at a piece: e tells whether it is its own mirror image
piece_case : (group : Group) (r m e x : Bool) → ((member group r && x) && ((r || m) && (r || e))) ≡ ((member (cond (m && e) group Rotations) r && x) && true)
piece_case Rotations true true true x = refl
piece_case Rotations true true false x = refl
piece_case Rotations true false e x = refl
piece_case Rotations false true true x = refl
piece_case Rotations false true false x = refl
piece_case Rotations false false e x = refl
piece_case Symmetries true true true x = refl
piece_case Symmetries true true false x = refl
piece_case Symmetries true false e x = refl
piece_case Symmetries false true true x = refl
piece_case Symmetries false true false true = refl
piece_case Symmetries false true false false = refl
piece_case Symmetries false false e true = refl
piece_case Symmetries false false e false = refl

-- the two tests agree
tests_agree : (p : PuzzleValue) (group : Group) (t : Thing) → IsAnchor p t → (n : ℕ)
    → is_allowed p group (has_mirrors p) (mirror_name p) t n ≡ (keeps_region p (group_at p group t) n && leaves_thing p t n)
tests_agree p group (a_piece name) a n =
    ap (λ b. (b && keeps_region p Symmetries n) && ((is_rotation n || has_mirrors p) && (is_rotation n || (mirror_name p name == name)))) (member_is group n)
    ∙ piece_case group (is_rotation n) (has_mirrors p) (mirror_name p name == name) (keeps_region p Symmetries n)
    ∙ ap (λ b. (b && keeps_region p Symmetries n) && true) (sym (member_is (group_at p group (a_piece name)) n))
tests_agree p group (a_cell v) a n =
    ap (λ b. (b && keeps_region p Symmetries n) && ((is_rotation n || has_mirrors p) && leaves_thing p (a_cell v) n)) (member_is group n)
    ∙ cell_case group (is_rotation n) (has_mirrors p) (keeps_region p Symmetries n) (leaves_thing p (a_cell v) n)
    ∙ ap (λ b. (b && keeps_region p Symmetries n) && leaves_thing p (a_cell v) n) (sym (member_is (group_at p group (a_cell v)) n))
tests_agree p group (a_node name h) a n = absurd a

pub allowed_is : (p : PuzzleValue) (group : Group) (t : Thing) → IsAnchor p t → allowed p group (has_mirrors p) (mirror_name p) t ≡ symmetries_at p group t
unfolding allowed kept_at
allowed_is p group t a =
    same_filter (is_allowed p group (has_mirrors p) (mirror_name p) t) (λ n. keeps_region p (group_at p group t) n && leaves_thing p t n) (tests_agree p group t a) (range_with_len 0 48)

-- ---- the tally of an anchor

abbrev pub moves_with : PuzzleValue → Group → MovesValue
moves_with p group = record { puzzle = p; group = group }

tally_case : (p : PuzzleValue) (group : Group) (a : Anchor) (b : Bool)
    → tally_by (cond b (moves_with p group) (moves_with p Rotations)).puzzle
    (kept_at (cond b (moves_with p group) (moves_with p Rotations)).puzzle (cond b (moves_with p group) (moves_with p Rotations)).group (thing_of a)) a
    ≡ tally_by p (kept_at p (cond b group Rotations) (thing_of a)) a
tally_case p group a true = refl
tally_case p group a false = refl

pub tally_is : (p : PuzzleValue) (group : Group) (a : Anchor) (m : MovesValue) → m ≡ cond (may_reflect p (thing_of a)) (moves_with p group) (moves_with p Rotations)
    → tally_by m.puzzle (kept_at m.puzzle m.group (thing_of a)) a ≡ anchor_tally p group a
tally_is p group a m e =
    ap (λ (n : MovesValue). tally_by n.puzzle (kept_at n.puzzle n.group (thing_of a)) a) e ∙ tally_case p group a (may_reflect p (thing_of a))

-- the moves at a thing, by those that the code has
pub moves_case : (p q : PuzzleValue) (b : PuzzleValue → Bool) (m all turns : MovesValue) → q ≡ p → all.puzzle ≡ p → turns ≡ moves_with p Rotations → m ≡ cond (b q) all turns
    → m ≡ cond (b p) (moves_with p all.group) (moves_with p Rotations)
moves_case p q b m all turns e f g h =
    h ∙ ap (λ (r : PuzzleValue). cond (b r) all turns) e
    ∙ ap₂ (λ (x y : MovesValue). cond (b p) x y) (ap (λ (r : PuzzleValue). moves_with r all.group) f) g

-- ---- all tallies

made_twice : {X Y Z : Type 0} (f : Y → Z) (g : X → Y) (h : X → Z) (xs : List X) → ((x : X) → h x ≡ f (g x)) → map h xs ≡ map f (map g xs)
made_twice f g h [] e = refl
made_twice {X} {Y} {Z} f g h (x ∷ xs) e = ap₂ (λ (y : Z) (ys : List Z). y ∷ ys) (e x) (made_twice f g h xs e)

-- those of pieces and those of cells
pub all_tallies : (p : PuzzleValue) (group : Group) (m : MovesValue) → m ≡ cond (has_mirrors p) (moves_with p group) (moves_with p Rotations) → (pieces all : List TallyValue)
    → pieces ≡ filter leaves_out (map (anchor_tally p group) (single_pieces p)) → all ≡ pieces ++ filter leaves_out (map (cell_tally m) (filled_cells p)) → all ≡ tallies_of p group
all_tallies p group m e pieces all f g =
    g
    ∙ ap₂ (λ (xs ys : List TallyValue). xs ++ ys) f
    (ap (filter leaves_out) (made_twice (anchor_tally p group) Cell (cell_tally m) (filled_cells p) (λ v. tally_is p group (Cell v) m e)))
    ∙ sym (ap (filter leaves_out) (map-append (anchor_tally p group) (single_pieces p) (map Cell (filled_cells p)))
    ∙ filter-append leaves_out (map (anchor_tally p group) (single_pieces p)) (map (anchor_tally p group) (map Cell (filled_cells p))))

-- at each of them something is left out
pub all_leave_out : (p : PuzzleValue) (group : Group) (all : List TallyValue) → all ≡ tallies_of p group → list_all leaves_out all ≡ true
all_leave_out p group all e =
    ap (list_all leaves_out) e
    ∙ all_pass leaves_out (tallies_of p group) (λ t i. (in_from_filter leaves_out t (map (anchor_tally p group) (anchors_of p)) i).1)

-- the anchor is that of the chosen one
pub anchor_by : (p : PuzzleValue) (group : Group) (q : ProblemValue) (found : Option TallyValue) (least all : List TallyValue) → found ≡ chosen_of q least → q ≡ packing_problem p → least ≡ least_parts all
    → all ≡ tallies_of p group → option_map (λ a. thing_of a.anchor) found ≡ anchor_of p group
unfolding anchor_of
anchor_by p group q found least all c e l a =
    ap (option_map (λ (t : TallyValue). thing_of t.anchor)) (c ∙ ap₂ (λ (r : ProblemValue) (ts : List TallyValue). chosen_of r ts) e (l ∙ ap least_parts a))
