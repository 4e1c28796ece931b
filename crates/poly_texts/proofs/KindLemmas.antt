-- Kinds whose symbols are different: what is told of a piece is told by its kind.
use Rattle.std.proofs.Common.{inl, inr, ◌≡◌, ◌<◌, ℕ, ◌==◌, ◌-◌, ◌||◌, List, [], ◌∷◌, ◌++◌, take, drop, flat_map, length, Bool, true, false, refl, sym, ap, ap₂, ◌∙◌, subst}
use Rattle.std.specs.List.{list_all, list_any}
use Rattle.std.specs.Cmp.{both_ways as same_tests}
use Rattle.std.proofs.lemmas.Bool.{false_from_ne_true, both_ways}
use Rattle.std.proofs.lemmas.Grind.{flat_map-append}
use Rattle.std.proofs.lemmas.List.{map-append, take-append-drop}
use Rattle.std.proofs.lemmas.List.Folds.{list_any-append}
use Rattle.poly_cells.specs.Coordinates.{Coordinates}
use Rattle.poly_cells.specs.Sets.{IsIn}
use Rattle.poly_cells.proofs.MemberLemmas.{in_flat_map, in_from_flat_map, all_pass, passes}
use Rattle.poly_cells.proofs.SetLemmas.{in_append_left, in_append_right, in_from_map}
use Rattle.poly_texts.specs.Words.{is_name}
use Rattle.poly_texts.specs.Kinds.{KindValue, given_if, kind_names, kind_pieces, kind_spare}
use Rattle.poly_texts.specs.Puzzle.{symbols_in, names_of, has_name, are_new, AreKinds}
use Rattle.poly_texts.proofs.FreshLemmas.{has_in, in_has, named_own, named_keeps, shapes_named, new_apart, new_first, new_joined}

-- *members*

pub in_if : {X : Type 0} (b : Bool) (x : X) (xs : List X) → IsIn x (given_if b xs) → (b ≡ true) × IsIn x xs
in_if true x xs i = (refl, i)
in_if false x xs i = absurd i

pub if_in : {X : Type 0} (b : Bool) (x : X) (xs : List X) → b ≡ true → IsIn x xs → IsIn x (given_if b xs)
if_in true x xs e i = i
if_in false x xs e i = cc

-- what tells names of a kind, each of which is a symbol of it
abbrev pub IsOwn : (KindValue → List ℕ) → Type 0
IsOwn f = (k : KindValue) (n : ℕ) → IsIn n (f k) → IsIn n k.symbols

pub names_own : IsOwn kind_names
names_own k n i = named_own k.usage k.symbols n i

pub given_own : (test : KindValue → Bool) → IsOwn (λ k. given_if (test k) (kind_names k))
given_own test k n i = names_own k n (in_if (test k) n (kind_names k) i).1

pub spare_own : IsOwn kind_spare
spare_own k n i = subst (λ (ns : List ℕ). IsIn n ns) (take-append-drop (length k.symbols - k.spare) k.symbols) (in_append_right n (take (length k.symbols - k.spare) k.symbols) (kind_spare k) i)

pub own_among : (f : KindValue → List ℕ) → IsOwn f → (ks : List KindValue) (n : ℕ) → IsIn n (flat_map f ks) → IsIn n (symbols_in ks)
own_among f own ks n i = let k = in_from_flat_map f n ks i in in_flat_map (λ j. j.symbols) n k.0 ks k.1 (own k.0 n k.2)

-- *kinds with different symbols*

pub new_rest : (k : KindValue) (ks : List KindValue) → are_new (symbols_in (k ∷ ks)) ≡ true → are_new (symbols_in ks) ≡ true
new_rest k ks h = (new_apart k.symbols (symbols_in ks) h).0

pub not_later : (k : KindValue) (ks : List KindValue) → are_new (symbols_in (k ∷ ks)) ≡ true → (n : ℕ) → IsIn n k.symbols → IsIn n (symbols_in ks) → ⊥
not_later k ks h n i j = both_ways (has_name (symbols_in ks) n) ((new_apart k.symbols (symbols_in ks) h).1 n i) (has_in (symbols_in ks) n j)

-- a symbol is in one kind alone
pub one_kind : (ks : List KindValue) → are_new (symbols_in ks) ≡ true → (k j : KindValue) (n : ℕ) → IsIn k ks → IsIn j ks → IsIn n k.symbols → IsIn n j.symbols → k ≡ j
one_kind [] h k j n i l a b = absurd i
one_kind (m ∷ ks) h k j n i l a b =
    elim i [
      | inl p ↦ elim l [
        | inl q ↦ p ∙ sym q
        | inr q ↦ absurd (not_later m ks h n (subst (λ (x : KindValue). IsIn n x.symbols) p a) (in_flat_map (λ x. x.symbols) n j ks q b))
      ]
      | inr p ↦ elim l [
        | inl q ↦ absurd (not_later m ks h n (subst (λ (x : KindValue). IsIn n x.symbols) q b) (in_flat_map (λ x. x.symbols) n k ks p a))
        | inr q ↦ one_kind ks (new_rest m ks h) k j n p q a b
      ]
    ]

pub kind_new : (ks : List KindValue) → are_new (symbols_in ks) ≡ true → (k : KindValue) → IsIn k ks → are_new k.symbols ≡ true
kind_new [] h k i = absurd i
kind_new (j ∷ ks) h k i =
    elim i [
      | inl e ↦ subst (λ (x : KindValue). are_new x.symbols ≡ true) (sym e) (new_first j.symbols (symbols_in ks) h)
      | inr r ↦ kind_new ks (new_rest j ks h) k r
    ]

-- of a symbol of a kind, all kinds together tell what that kind tells
pub told_by : (ks : List KindValue) → are_new (symbols_in ks) ≡ true → (f : KindValue → List ℕ) → IsOwn f → (k : KindValue) → IsIn k ks → (n : ℕ) → IsIn n k.symbols → has_name (flat_map f ks) n ≡ has_name (f k) n
told_by ks new f own k there n i =
    same_tests (has_name (flat_map f ks) n) (has_name (f k) n)
    (λ t.
    let j = in_from_flat_map f n ks (in_has (flat_map f ks) n t) in
    let same = one_kind ks new j.0 k n j.1 there (own j.0 n j.2) i in
    has_in (f k) n (subst (λ (x : KindValue). IsIn n (f x)) same j.2))
    (λ t. has_in (flat_map f ks) n (in_flat_map f n k ks there (in_has (f k) n t)))

-- names that are told are new where symbols are
pub told_new : (f : KindValue → List ℕ) → IsOwn f → ((k : KindValue) → are_new k.symbols ≡ true → are_new (f k) ≡ true) → (ks : List KindValue) → are_new (symbols_in ks) ≡ true → are_new (flat_map f ks) ≡ true
told_new f own keeps [] h = refl
told_new f own keeps (k ∷ ks) h =
    new_joined (f k) (flat_map f ks) (keeps k (new_first k.symbols (symbols_in ks) h)) (told_new f own keeps ks (new_rest k ks h))
    (λ n i. false_from_ne_true _ (λ t. not_later k ks h n (own k n i) (own_among f own ks n (in_has (flat_map f ks) n t))))

-- what kinds tell, one kind after the other
pub told_any : (f : KindValue → List ℕ) (ks : List KindValue) (n : ℕ) → list_any (λ k. has_name (f k) n) ks ≡ has_name (flat_map f ks) n
told_any f [] n = refl
told_any f (k ∷ ks) n = ap (λ b. has_name (f k) n || b) (told_any f ks n) ∙ sym (list_any-append (λ m. m == n) (f k) (flat_map f ks))

-- of a name that no piece has, nothing is told
pub told_none : (f : KindValue → List ℕ) (ks : List KindValue) (n : ℕ) → ((k : KindValue) → IsIn k ks → IsIn n (f k) → IsIn n (kind_names k)) → has_name (flat_map kind_names ks) n ≡ false → has_name (flat_map f ks) n ≡ false
told_none f ks n own none = false_from_ne_true _ (λ t.
    let k = in_from_flat_map f n ks (in_has (flat_map f ks) n t) in
    both_ways (has_name (flat_map kind_names ks) n) none (has_in (flat_map kind_names ks) n (in_flat_map kind_names n k.0 ks k.1 (own k.0 k.1 k.2))))

pub given_has : (b : Bool) (ns : List ℕ) (n : ℕ) → IsIn n ns → has_name (given_if b ns) n ≡ b
given_has true ns n i = has_in ns n i
given_has false ns n i = refl

-- *the pieces of kinds*

pub names_flat : (ks : List KindValue) → names_of (flat_map kind_pieces ks) ≡ flat_map kind_names ks
names_flat [] = refl
names_flat (k ∷ ks) =
    map-append (λ p. p.0) (kind_pieces k) (flat_map kind_pieces ks) ∙ ap₂ (λ (ns ms : List ℕ). ns ++ ms) (shapes_named (kind_names k) k.cells) (names_flat ks)

pub names_are : (ks : List KindValue) → AreKinds ks → list_all is_name (names_of (flat_map kind_pieces ks)) ≡ true
names_are ks are =
    rw names_flat (all_pass is_name (flat_map kind_names ks) (λ n i. let k = in_from_flat_map kind_names n ks i in passes is_name k.0.symbols (are k.0 k.1).named n (names_own k.0 n k.2)))

pub names_new : (ks : List KindValue) → are_new (symbols_in ks) ≡ true → are_new (names_of (flat_map kind_pieces ks)) ≡ true
names_new ks new = rw names_flat (told_new kind_names names_own (λ k h. named_keeps k.usage k.symbols h) ks new)

-- the kind of a piece
pub piece_in : (ks : List KindValue) (n : ℕ) (cells : List Coordinates) → IsIn (n, cells) (flat_map kind_pieces ks) → (k : KindValue) × IsIn k ks × IsIn n (kind_names k) × (cells ≡ k.cells)
piece_in ks n cells i =
    let k = in_from_flat_map kind_pieces (n, cells) ks i in
    let m = in_from_map (λ j. (j, k.0.cells)) (n, cells) (kind_names k.0) k.2 in
    (k.0, k.1, subst (λ j. IsIn j (kind_names k.0)) (sym (ap (λ (q : ℕ × List Coordinates). q.0) m.2)) m.1, ap (λ (q : ℕ × List Coordinates). q.1) m.2)
