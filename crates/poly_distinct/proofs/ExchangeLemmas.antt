-- The exchange of names as the code computes it: tests over the pieces with their forms are tests over the puzzle.
use Rattle.std.proofs.Common.{◌≡◌, ℕ, suc, ◌+◌, ◌<◌, ◌≤◌, ◌==◌, Bool, true, false, not, ◌&&◌, ◌||◌, cond, List, [], ◌∷◌, map, filter, length, get_or, take, drop, refl, sym, ap, ap₂, ◌∙◌, arith}
use Rattle.std.specs.Prelude.{find, option_map, unwrap_or}
use Rattle.std.specs.List.{list_all, list_any, prefix_len, range_with_len, take_while}
use Rattle.std.specs.Ordering.{is_eq}
use Rattle.std.proofs.Math.Bool.{beq}
use Rattle.std.proofs.lemmas.List.{at_drop_more, drop_all}
use Rattle.std.proofs.lemmas.List.Folds.{list_all-map}
use Rattle.poly_cells.specs.Coordinates.{Coordinates}
use Rattle.poly_cells.specs.Shapes.{turned}
use Rattle.poly_cells.specs.Symmetries.{is_rotation}
use Rattle.poly_texts.specs.Puzzle.{PuzzleValue, pieces_of, mirrored_names, names_of, has_name}
use Rattle.poly_place.specs.Placements.{cells_cmp}
use Rattle.poly_distinct.specs.Distinct.{is_mirrored, mirrors_pieces, keeps_flags, tells_names, are_mirrors}
use Rattle.poly_distinct.specs.Exchange.{FormedValue, RoleValue, mirror_name, has_mirrors, formed_piece, formed_pieces, pairs_of, role_of, second_of, has_form, forms_by, is_like, rank_among, takes_symmetry}

-- ---- the first of a list that passes a test

-- what the first has that passes the test, or another value
abbrev pub first_of : {X Y : Type 0} → (X → Y) → (X → Bool) → Y → List X → Y
first_of f test d xs = unwrap_or (option_map f (find test xs)) d

-- ---- tests over lists

pub same_all : {X : Type 0} (f g : X → Bool) → ((x : X) → f x ≡ g x) → (xs : List X) → list_all f xs ≡ list_all g xs
same_all f g h [] = refl
same_all f g h (x ∷ xs) = ap₂ (λ a b. a && b) (h x) (same_all f g h xs)

pub same_any : {X : Type 0} (f g : X → Bool) → ((x : X) → f x ≡ g x) → (xs : List X) → list_any f xs ≡ list_any g xs
same_any f g h [] = refl
same_any f g h (x ∷ xs) = ap₂ (λ a b. a || b) (h x) (same_any f g h xs)

pub any_map : {X Y : Type 0} (f : Y → Bool) (g : X → Y) (xs : List X) → list_any f (map g xs) ≡ list_any (λ x. f (g x)) xs
any_map f g [] = refl
any_map f g (x ∷ xs) = ap (λ b. f (g x) || b) (any_map f g xs)

any_kept : {X Y : Type 0} (f : Y → Bool) (g : X → Y) (x : X) (b : Bool) (xs ys : List X) → list_any f (map g ys) ≡ list_any f (map g xs)
    → list_any f (map g (cond b (x ∷ ys) ys)) ≡ ((b && f (g x)) || list_any f (map g xs))
any_kept f g x true xs ys h = ap (λ b. f (g x) || b) h
any_kept f g x false xs ys h = h

-- a test of the images of those that are kept
pub any_filtered : {X Y : Type 0} (f : Y → Bool) (g : X → Y) (keep : X → Bool) (xs : List X) → list_any f (map g (filter keep xs)) ≡ list_any (λ x. keep x && f (g x)) xs
any_filtered f g keep [] = refl
any_filtered f g keep (x ∷ xs) =
    any_kept f g x (keep x) (filter keep xs) (filter keep xs) refl ∙ ap (λ b. (keep x && f (g x)) || b) (any_filtered f g keep xs)

-- ---- mirror images

reflects : (r b : Bool) → (beq r false || b) ≡ (not r || b)
reflects true b = refl
reflects false b = refl

-- a piece is among the forms of the other one's mirror image where it is its mirror image
pub image_is : (p : PuzzleValue) (name : ℕ) (cells piece : List Coordinates) → has_form (forms_by (takes_symmetry false (has_name (mirrored_names p) name)) cells) piece ≡ is_mirrored p name cells piece
image_is p name cells piece =
    any_filtered (λ form. is_eq (cells_cmp form piece)) (λ n. turned n cells) (takes_symmetry false (has_name (mirrored_names p) name)) (range_with_len 0 48)
    ∙ same_any (λ n. takes_symmetry false (has_name (mirrored_names p) name) n && is_eq (cells_cmp (turned n cells) piece))
    (λ n. (not (is_rotation n) || has_name (mirrored_names p) name) && is_eq (cells_cmp (turned n cells) piece))
    (λ n. ap (λ b. b && is_eq (cells_cmp (turned n cells) piece)) (reflects (is_rotation n) (has_name (mirrored_names p) name))) (range_with_len 0 48)

-- whether one of these stands for the piece that takes the place of one
abbrev pub has_mirror : List FormedValue → (ℕ → ℕ) → FormedValue → Bool
has_mirror ks s k = list_any (λ l. (l.name == s k.name) && has_form l.images k.cells) ks

mirror_is : (p : PuzzleValue) (s : ℕ → ℕ) (named : ℕ × List Coordinates) → has_mirror (formed_pieces p) s (formed_piece p named) ≡ list_any (λ other. (other.0 == s (named.0)) && is_mirrored p (other.0) (other.1) (named.1)) (pieces_of p)
mirror_is p s named =
    any_map (λ l. (l.name == s (named.0)) && has_form l.images (named.1)) (formed_piece p) (pieces_of p)
    ∙ same_any (λ (other : ℕ × List Coordinates). (other.0 == s (named.0)) && has_form (formed_piece p other).images (named.1))
    (λ (other : ℕ × List Coordinates). (other.0 == s (named.0)) && is_mirrored p (other.0) (other.1) (named.1))
    (λ (other : ℕ × List Coordinates). ap (λ b. (other.0 == s (named.0)) && b) (image_is p (other.0) (other.1) (named.1))) (pieces_of p)

pub mirrors_are : (p : PuzzleValue) (s : ℕ → ℕ) → list_all (has_mirror (formed_pieces p) s) (formed_pieces p) ≡ mirrors_pieces p s
mirrors_are p s =
    list_all-map (has_mirror (formed_pieces p) s) (formed_piece p) (pieces_of p)
    ∙ same_all (λ (named : ℕ × List Coordinates). has_mirror (formed_pieces p) s (formed_piece p named))
    (λ (named : ℕ × List Coordinates). list_any (λ other. (other.0 == s (named.0)) && is_mirrored p (other.0) (other.1) (named.1)) (pieces_of p))
    (mirror_is p s) (pieces_of p)

-- ---- names

pub all_names : (p : PuzzleValue) (f : ℕ → Bool) → list_all (λ (k : FormedValue). f k.name) (formed_pieces p) ≡ list_all f (names_of (pieces_of p))
all_names p f =
    list_all-map (λ (k : FormedValue). f k.name) (formed_piece p) (pieces_of p) ∙ sym (list_all-map f (λ (n : ℕ × List Coordinates). n.0) (pieces_of p))

pub any_name : (p : PuzzleValue) (f : ℕ → Bool) → list_any (λ (k : FormedValue). f k.name) (formed_pieces p) ≡ list_any f (names_of (pieces_of p))
any_name p f =
    any_map (λ (k : FormedValue). f k.name) (formed_piece p) (pieces_of p) ∙ sym (any_map f (λ (n : ℕ × List Coordinates). n.0) (pieces_of p))

-- ---- all four tests

pub tests_are : (p : PuzzleValue) (s : ℕ → ℕ) (ks : List FormedValue) → ks ≡ formed_pieces p
    → (list_all (has_mirror ks s) ks
    && (list_all (λ (k : FormedValue). keeps_flags p s k.name) ks
    && (list_all (λ (k : FormedValue). list_all (λ (l : FormedValue). tells_names p s k.name l.name) ks) ks
    && list_all (λ (k : FormedValue). list_any (λ (l : FormedValue). s l.name == k.name) ks) ks))) ≡ are_mirrors p s
unfolding are_mirrors
tests_are p s ks e =
    ap (λ (js : List FormedValue). list_all (has_mirror js s) js
    && (list_all (λ (k : FormedValue). keeps_flags p s k.name) js
    && (list_all (λ (k : FormedValue). list_all (λ (l : FormedValue). tells_names p s k.name l.name) js) js
    && list_all (λ (k : FormedValue). list_any (λ (l : FormedValue). s l.name == k.name) js) js))) e
    ∙ ap₂ (λ a b. a && b) (mirrors_are p s)
    (ap₂ (λ a b. a && b) (all_names p (keeps_flags p s))
    (ap₂ (λ a b. a && b)
    (same_all (λ (k : FormedValue). list_all (λ (l : FormedValue). tells_names p s k.name l.name) (formed_pieces p)) (λ (k : FormedValue). list_all (tells_names p s k.name) (names_of (pieces_of p)))
    (λ (k : FormedValue). all_names p (tells_names p s k.name)) (formed_pieces p)
    ∙ all_names p (λ a. list_all (tells_names p s a) (names_of (pieces_of p))))
    (same_all (λ (k : FormedValue). list_any (λ (l : FormedValue). s l.name == k.name) (formed_pieces p)) (λ (k : FormedValue). list_any (λ a. s a == k.name) (names_of (pieces_of p)))
    (λ (k : FormedValue). any_name p (λ a. s a == k.name)) (formed_pieces p)
    ∙ all_names p (λ b. list_any (λ a. s a == b) (names_of (pieces_of p))))))

pub four : (a b c d e f g h : Bool) → a ≡ e → b ≡ f → c ≡ g → d ≡ h → (a && (b && (c && d))) ≡ (e && (f && (g && h)))
four a b c d e f g h p q r s = ap₂ (λ x y. x && y) p (ap₂ (λ x y. x && y) q (ap₂ (λ x y. x && y) r s))

-- ---- what is kept

pub name_is : (p : PuzzleValue) (pairs : List (ℕ × ℕ)) (name : ℕ) → pairs ≡ pairs_of (formed_pieces p) → second_of pairs name ≡ mirror_name p name
unfolding mirror_name
name_is p pairs name e = ap (λ (qs : List (ℕ × ℕ)). second_of qs name) e

pub whole_is : (p : PuzzleValue) (pairs : List (ℕ × ℕ)) → pairs ≡ pairs_of (formed_pieces p) → are_mirrors p (second_of pairs) ≡ has_mirrors p
unfolding mirror_name has_mirrors
whole_is p pairs e = ap (λ (qs : List (ℕ × ℕ)). are_mirrors p (second_of qs)) e

abbrev pub formed_with : ℕ → List Coordinates → List (List Coordinates) → List (List Coordinates) → RoleValue → FormedValue
formed_with name piece forms images role = record { name = name; cells = piece; forms = forms; images = images; role = role }

pub formed_is : (p : PuzzleValue) (name : ℕ) (piece copy : List Coordinates) (forms images : List (List Coordinates)) (role : RoleValue) (both : Bool) → copy ≡ piece → both ≡ has_name (mirrored_names p) name
    → forms ≡ forms_by (takes_symmetry true both) piece → images ≡ forms_by (takes_symmetry false both) piece → role ≡ role_of p name
    → formed_with name copy forms images role ≡ formed_piece p (name, piece)
formed_is p name piece copy forms images role both c b f i r =
    ap (λ (vs : List Coordinates). formed_with name vs forms images role) c
    ∙ ap (λ (fs : List (List Coordinates)). formed_with name piece fs images role) (f ∙ ap (λ (x : Bool). forms_by (takes_symmetry true x) piece) b)
    ∙ ap (λ (fs : List (List Coordinates)). formed_with name piece (forms_by (takes_symmetry true (has_name (mirrored_names p) name)) piece) fs role) (i ∙ ap (λ (x : Bool). forms_by (takes_symmetry false x) piece) b)
    ∙ ap (formed_with name piece (forms_by (takes_symmetry true (has_name (mirrored_names p) name)) piece) (forms_by (takes_symmetry false (has_name (mirrored_names p) name)) piece)) r

-- one more passes a test, or fails
pub all_next : {X : Type 0} (test : X → Bool) (xs : List X) (i : ℕ) (x : X) (b : Bool) → i < length xs → x ≡ get_or xs i x → test x ≡ b → list_all test (drop i xs) ≡ (b && list_all test (drop (i + 1) xs))
all_next test xs i x b lt is t = at_drop_more (list_all test) xs i x lt ∙ ap (λ c. c && list_all test (drop (i + 1) xs)) (ap test (sym is) ∙ t)

pub all_end : {X : Type 0} (test : X → Bool) (xs : List X) (i : ℕ) → length xs ≤ i → true ≡ list_all test (drop i xs)
all_end test xs i le = ap (list_all test) (sym (drop_all i xs le))

-- ---- how many like pieces come before a piece

counted : (b : Bool) (x : FormedValue) (ys : List FormedValue) (one : ℕ) → one ≡ cond b 1 0 → length (cond b (x ∷ ys) ys) ≡ one + length ys
counted true x ys one e = omega (arith, e)
counted false x ys one e = omega (arith, e)

at_most_one : (b : Bool) (one : ℕ) → one ≡ cond b 1 0 → one ≤ 1
at_most_one true one e = omega (arith, e)
at_most_one false one e = omega (arith, e)

took : {X : Type 0} (test : X → Bool) (x : X) (xs : List X) → test x ≡ true → take_while test (x ∷ xs) ≡ x ∷ take_while test xs
took test x xs h =
    ap (λ (b : Bool). take (cond b (1 + prefix_len test xs) 0) (x ∷ xs)) h
    ∙ ap (λ (n : ℕ). take n (x ∷ xs)) (let e : 1 + prefix_len test xs ≡ suc (prefix_len test xs) = omega arith in e)

-- one piece more that isn't the one itself
pub rank_next : (ks : List FormedValue) (k x : FormedValue) (i n one : ℕ) (b : Bool) → i < length ks → x ≡ get_or ks i x → (x.name == k.name) ≡ false → is_like k x ≡ b → one ≡ cond b 1 0
    → (n + rank_among (drop i ks) k ≡ rank_among ks k) × (n ≤ i) → (n + one + rank_among (drop (i + 1) ks) k ≡ rank_among ks k) × (n + one ≤ i + 1)
rank_next ks k x i n one b lt is other like e so =
    let other_than : FormedValue → Bool = λ l. not (l.name == k.name) in
    let rest = take_while other_than (drop (i + 1) ks) in
    let next : rank_among (drop i ks) k ≡ one + rank_among (drop (i + 1) ks) k =
    ap (λ (js : List FormedValue). rank_among js k) (at_drop_more (λ (ys : List FormedValue). ys) ks i x lt ∙ ap (λ (y : FormedValue). y ∷ drop (i + 1) ks) (sym is))
    ∙ ap (λ (ys : List FormedValue). length (filter (is_like k) ys)) (took other_than x (drop (i + 1) ks) (ap not other))
    ∙ ap (λ (c : Bool). length (cond c (x ∷ filter (is_like k) rest) (filter (is_like k) rest))) like
    ∙ counted b x (filter (is_like k) rest) one e in
    let sum = so.0 in
    let low = so.1 in
    let most = at_most_one b one e in
    (omega (arith, sum, next), omega (arith, low, most))
