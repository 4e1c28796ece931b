-- The names of items are names, and different.
use Rattle.std.proofs.Common.{◌≡◌, ℕ, ◌<◌, ◌/◌, ◌%◌, List, [], ◌∷◌, Bool, true, not, ◌==◌, refl, sym, ap, ap₂, subst, arith, bytes_eq}
use Rattle.std.specs.List.{list_any}
use Rattle.std.specs.Cmp.Lexicographic.{bytes_decides}
use Rattle.std.proofs.lemmas.Bool.{and_from, or_left, not_from_false, agree_below_at, false_from_ne_true}
use Rattle.std.proofs.lemmas.Bool.Decides.{nat_tests}
use Rattle.poly_cells.specs.Coordinates.{Coordinates, IsInGrid}
use Rattle.poly_cells.specs.Sets.{IsIn}
use Rattle.poly_cells.proofs.CoordinateLemmas.{same_coordinates}
use Rattle.poly_cells.specs.CellWords.{symbol, cell_word}
use Rattle.cover_problem.specs.Problem.{is_name, is_name_byte, are_new}
use Rattle.poly_cells.proofs.MemberLemmas.{some_passes}
use Rattle.poly_texts.specs.Words as words
use Rattle.poly_place.specs.Packings.{Thing, a_piece, a_cell, a_node, node_word, thing_name}
use Rattle.poly_place.proofs.DistinctLemmas.{IsDistinct}

-- ---- tests

none_from : {X : Type 0} (test : X → Bool) (xs : List X) → ((x : X) → IsIn x xs → test x ≡ true → ⊥) → not (list_any test xs) ≡ true
none_from test xs h = not_from_false _ (false_from_ne_true _ (λ t. let x = some_passes test xs t in h x.0 x.1 x.2))

-- ---- names

low_symbol : (n : ℕ) → n < 32 → is_name_byte (symbol n) ≡ true
low_symbol n h = agree_below_at (λ k. is_name_byte (symbol k)) (λ k. true) 32 n refl h

pub piece_named : (n : ℕ) → words.is_name n ≡ true → is_name (n ∷ []) ≡ true
piece_named n h =
    let byte : is_name_byte n ≡ true = or_left (words.is_name n) (n == 95) h in
    and_from (is_name_byte n) true byte refl

pub cell_named : (v : Coordinates) → IsInGrid v → is_name (cell_word v) ≡ true
cell_named v h =
    let x = low_symbol v.x (let a = h.x_in in omega arith) in
    let y = low_symbol v.y (let a = h.y_in in omega arith) in
    let w = low_symbol v.z (let a = h.z_in in omega arith) in
    and_from (is_name_byte (symbol v.x)) _ x (and_from (is_name_byte (symbol v.y)) _ y (and_from (is_name_byte (symbol v.z)) true w refl))

pub node_named : (n h : ℕ) → words.is_name n ≡ true → h < 4096 → is_name (node_word n h) ≡ true
node_named n h name lt =
    let byte : is_name_byte n ≡ true = or_left (words.is_name n) (n == 95) name in
    let x = low_symbol (h / 1024) (omega arith) in
    let y = low_symbol (h / 32 % 32) (omega arith) in
    let w = low_symbol (h % 32) (omega arith) in
    and_from (is_name_byte n) _ byte (and_from true _ refl
    (and_from (is_name_byte (symbol (h / 1024))) _ x (and_from (is_name_byte (symbol (h / 32 % 32))) _ y (and_from (is_name_byte (symbol (h % 32))) true w refl))))

symbol_same : (m n : ℕ) → symbol m ≡ symbol n → m ≡ n
symbol_same m n e = grind (arith, nat_tests)

three_same : (g h : ℕ) → g / 1024 ≡ h / 1024 → g / 32 % 32 ≡ h / 32 % 32 → g % 32 ≡ h % 32 → g ≡ h
three_same g h a b c = omega arith

pub name_same : (a b : Thing) → thing_name a ≡ thing_name b → a ≡ b
name_same (a_piece m) (a_piece n) e = let s : m ≡ n = cc in ap a_piece s
name_same (a_cell v) (a_cell w) e =
    let x : symbol v.x ≡ symbol w.x = cc in
    let y : symbol v.y ≡ symbol w.y = cc in
    let u : symbol v.z ≡ symbol w.z = cc in
    ap a_cell (same_coordinates v.x v.y v.z w.x w.y w.z (symbol_same v.x w.x x) (symbol_same v.y w.y y) (symbol_same v.z w.z u))
name_same (a_node m g) (a_node n h) e =
    let s : m ≡ n = cc in
    let x : symbol (g / 1024) ≡ symbol (h / 1024) = cc in
    let y : symbol (g / 32 % 32) ≡ symbol (h / 32 % 32) = cc in
    let u : symbol (g % 32) ≡ symbol (h % 32) = cc in
    ap₂ a_node s (three_same g h (symbol_same _ _ x) (symbol_same _ _ y) (symbol_same _ _ u))
name_same (a_piece m) (a_cell w) e = cc
name_same (a_piece m) (a_node n h) e = cc
name_same (a_cell v) (a_piece n) e = cc
name_same (a_cell v) (a_node n h) e = cc
name_same (a_node m g) (a_piece n) e = cc
name_same (a_node m g) (a_cell w) e = cc

pub new_from : (names : List (List ℕ)) → IsDistinct names → are_new names ≡ true
new_from [] d = refl
new_from (name ∷ names) d =
    and_from (not (list_any (bytes_eq name) names)) (are_new names)
    (none_from (bytes_eq name) names (λ x i h. d.0 (subst (λ (y : List ℕ). IsIn y names) (sym ((bytes_decides name x).0 h)) i))) (new_from names d.1)
