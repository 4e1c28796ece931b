-- The loops that show a packing in layers.
use Rattle.std.proofs.Common.{Option, ◌%◌, ◌≡◌, ℕ, zero, suc, ◌+◌, ◌-◌, ◌<◌, ◌≤◌, max, List, [], ◌∷◌, ◌++◌, length, get_or, set, take, drop, map, Bool, true, false, cond, ◌||◌, nat_lt, Some, ◌⊎◌, inl, inr, refl, sym, ap, ap₂, subst, ◌∙◌, arith, append_assoc, append-nil, replicate, find, option_map, unwrap_or}
use Rattle.std.specs.List.{range_with_len}
use Rattle.std.proofs.Math.Nat.{mod-lt}
use Rattle.std.proofs.lemmas.Grind.{flat_map-append}
use Rattle.std.proofs.lemmas.List.{map-append, get_or-set_same, get_or-set_other, get_or_default, length-set, length-replicate, get_or-replicate, drop_more, drop_all, take_at}
use Rattle.text_lines.specs.Writing.{spaced, line_text, text_of}
use Rattle.poly_cells.specs.Coordinates.{Coordinates, coordinates, IsInGrid}
use Rattle.poly_cells.proofs.CoordinateLemmas.{same_coordinates, is_same_Decides}
use Rattle.poly_cells.specs.CellTests.{is_same, has_cell}
use Rattle.poly_place.specs.Packings.{ChoiceValue}
use Rattle.poly_place.specs.Tables.{bit_index}
use Rattle.poly_place.specs.Layers.{greatest, far_corner, in_turn, symbol_over, ground, AreSymbols, painted}
use Rattle.poly_place.proofs.TableLemmas.{bit_index_same, low, cell_more}
use Rattle.std.proofs.lemmas.Bool.{ltb-true, ltb-false, cases_Bool}
use Rattle.poly_texts.proofs.CellLemmas.{range_more}
use Rattle.poly_cells.proofs.SetLemmas.{take_next}

-- ---- the far corner

greatest_push : (part : Coordinates → ℕ) (vs : List Coordinates) (v : Coordinates) → greatest part (vs ++ v ∷ []) ≡ max (greatest part vs) (part v)
greatest_push part [] v = omega arith
greatest_push part (w ∷ ws) v = omega (arith, greatest_push part ws v)

far_push : (vs : List Coordinates) (v : Coordinates) (x y z : ℕ) → coordinates x y z ≡ far_corner vs → far_corner (vs ++ v ∷ []) ≡ coordinates (max x v.x) (max y v.y) (max z v.z)
far_push vs v x y z h =
    same_coordinates _ _ _ _ _ _
    (greatest_push (λ w. w.x) vs v ∙ ap (λ (w : Coordinates). max w.x v.x) (sym h))
    (greatest_push (λ w. w.y) vs v ∙ ap (λ (w : Coordinates). max w.y v.y) (sym h))
    (greatest_push (λ w. w.z) vs v ∙ ap (λ (w : Coordinates). max w.z v.z) (sym h))

pub far_more : (vs : List Coordinates) (i : ℕ) (v : Coordinates) (x y z : ℕ) → i < length vs → v ≡ get_or vs i v → coordinates x y z ≡ far_corner (take i vs)
    → coordinates (max x v.x) (max y v.y) (max z v.z) ≡ far_corner (take (i + 1) vs)
far_more vs i v x y z lt is h =
    sym (ap far_corner (take_next vs i v lt is) ∙ far_push (take i vs) v x y z h)

-- ---- ranges, one number more

-- the numbers from a up to i, and one more
pub range_next : (a i : ℕ) → a ≤ i → range_with_len a (i + 1 - a) ≡ range_with_len a (i - a) ++ i ∷ []
range_next a i h =
    ap (range_with_len a) (omega (arith, h)) ∙ range_more a (i - a) ∙ ap (λ (k : ℕ). range_with_len a (i - a) ++ k ∷ []) (omega (arith, h))

-- ---- words with spaces between them, one more

-- whether there is a word
abbrev IsLater : List (List ℕ) → Bool → Type 0
IsLater [] true = ⊥
IsLater [] false = Unit {0}
IsLater (w ∷ ws) true = Unit {0}
IsLater (w ∷ ws) false = ⊥

spaced_push : (w : List ℕ) (ws : List (List ℕ)) (v : List ℕ) → spaced ((w ∷ ws) ++ v ∷ []) ≡ spaced (w ∷ ws) ++ 32 ∷ v
spaced_push w [] v = refl
spaced_push w (u ∷ ws) v =
    ap (λ (bs : List ℕ). w ++ 32 ∷ bs) (spaced_push u ws v) ∙ sym (append_assoc w (32 ∷ spaced (u ∷ ws)) (32 ∷ v))

-- the end of a range's loop
pub range_ends : (a b i : ℕ) → (i ≤ b + 1) ⊎ (i ≡ a) → b + 1 ≤ i → i - a ≡ b + 1 - a
range_ends a b i (inl h) e = omega (arith, h, e)
range_ends a b i (inr h) e = omega (arith, h, e)

-- one word more, with a space before it unless it is the first
pub word_next : (f : ℕ → List ℕ) (a i : ℕ) (is_later : Bool) (start before gap after : List ℕ) → a ≤ i → is_later ≡ nat_lt a i → before ≡ start ++ spaced (map f (range_with_len a (i - a)))
    → gap ≡ cond is_later (before ++ 32 ∷ []) before → after ≡ gap ++ f i → after ≡ start ++ spaced (map f (range_with_len a (i + 1 - a)))
word_next f a i is_later start before gap after h test so sep push =
    push ∙ ap (λ (bs : List ℕ). bs ++ f i) sep
    ∙ by_words (map f (range_with_len a (i - a))) is_later (same is_later test) so
    ∙ ap (λ (ws : List (List ℕ)). start ++ spaced ws) (sym (ap (map f) (range_next a i h) ∙ map-append f (range_with_len a (i - a)) (i ∷ [])))
  where
    by_words : (ws : List (List ℕ)) (b : Bool) → IsLater ws b → before ≡ start ++ spaced ws → cond b (before ++ 32 ∷ []) before ++ f i ≡ start ++ spaced (ws ++ f i ∷ [])
    by_words [] true e s = absurd e
    by_words [] false e s = ap (λ (bs : List ℕ). bs ++ f i) (s ∙ append-nil start)
    by_words (w ∷ ws) false e s = absurd e
    by_words (w ∷ ws) true e s =
        ap (λ (bs : List ℕ). (bs ++ 32 ∷ []) ++ f i) s ∙ ap (λ (bs : List ℕ). bs ++ f i) (append_assoc start (spaced (w ∷ ws)) (32 ∷ []))
        ∙ append_assoc start (spaced (w ∷ ws) ++ 32 ∷ []) (f i)
        ∙ ap (λ (bs : List ℕ). start ++ bs) (append_assoc (spaced (w ∷ ws)) (32 ∷ []) (f i) ∙ sym (spaced_push w ws (f i)))

    later : (n : ℕ) (b : Bool) → (b ≡ true → 0 < n) → (b ≡ false → n ≡ 0) → IsLater (map f (range_with_len a n)) b
    later zero true some none = let h = some refl in absurd (omega (arith, h))
    later zero false some none = tt
    later (suc n) true some none = tt
    later (suc n) false some none = let h = none refl in absurd (omega (arith, h))

    same : (b : Bool) → b ≡ nat_lt a i → IsLater (map f (range_with_len a (i - a))) b
    same b e =
        later (i - a) b (λ t. let l = ltb-true a i (sym e ∙ t) in omega (arith, l)) (λ n. let l = ltb-false a i (sym e ∙ n) in omega (arith, l))

-- a loop that adds a symbol for each number
pub symbol_next : (f : ℕ → ℕ) (a i : ℕ) (start before after : List ℕ) → a ≤ i → before ≡ start ++ map f (range_with_len a (i - a)) → after ≡ before ++ f i ∷ []
    → after ≡ start ++ map f (range_with_len a (i + 1 - a))
symbol_next f a i start before after h so push =
    push ∙ ap (λ (bs : List ℕ). bs ++ f i ∷ []) so ∙ append_assoc start (map f (range_with_len a (i - a))) (f i ∷ [])
    ∙ ap (λ (bs : List ℕ). start ++ bs) (sym (ap (map f) (range_next a i h) ∙ map-append f (range_with_len a (i - a)) (i ∷ [])))

-- a loop that adds a line for each number
pub line_next : (f : ℕ → List (List ℕ)) (a i : ℕ) (start before after : List ℕ) → a ≤ i → before ≡ start ++ text_of (map f (range_with_len a (i - a))) → after ≡ before ++ line_text (f i)
    → after ≡ start ++ text_of (map f (range_with_len a (i + 1 - a)))
line_next f a i start before after h so push =
    push ∙ ap (λ (bs : List ℕ). bs ++ line_text (f i)) so ∙ append_assoc start (text_of (map f (range_with_len a (i - a)))) (line_text (f i))
    ∙ ap (λ (bs : List ℕ). start ++ bs)
    (sym (ap (λ (ks : List ℕ). text_of (map f ks)) (range_next a i h) ∙ ap text_of (map-append f (range_with_len a (i - a)) (i ∷ []))
    ∙ flat_map-append line_text (map f (range_with_len a (i - a))) (f i ∷ []) ∙ ap (λ (bs : List ℕ). text_of (map f (range_with_len a (i - a))) ++ bs) (append-nil (line_text (f i)))))

-- ---- symbols

pub shown_alike : (f g : Coordinates → ℕ) (t : List ℕ) → ((v : Coordinates) → f v ≡ g v) → AreSymbols f t → AreSymbols g t
shown_alike f g t e s = record { long = s.long; shows = λ v h. s.shows v h ∙ e v; ascii = s.ascii }

set_ascii : (t : List ℕ) (k b j : ℕ) → b < 128 → ((i : ℕ) → get_or t i 0 < 128) → get_or (set t k b) j 0 < 128
set_ascii [] k b j h all = all j
set_ascii (x ∷ xs) zero b zero h all = h
set_ascii (x ∷ xs) zero b (suc j) h all = all (suc j)
set_ascii (x ∷ xs) (suc k) b zero h all = all zero
set_ascii (x ∷ xs) (suc k) b (suc j) h all = set_ascii xs k b j h (λ i. all (suc i))

-- one cell more is shown by the symbol
pub painted_more : (f : Coordinates → ℕ) (vs : List Coordinates) (i : ℕ) (v : Coordinates) (t new : List ℕ) (b k : ℕ) → i < length vs → v ≡ get_or vs i v → IsInGrid v → b < 128 → k ≡ bit_index v → new ≡ set t k b
    → AreSymbols (painted f (take i vs) b) t → AreSymbols (painted f (take (i + 1) vs) b) new
painted_more f vs i v t new b k lt is h ascii at made s =
    shown_alike (λ w. cond (is_same w v) b (painted f (take i vs) b w)) (painted f (take (i + 1) vs) b) new same
    (record {
      long = ap length (made ∙ ap (λ j. set t j b) at) ∙ length-set t (bit_index v) b ∙ s.long;
      shows = λ w g.
          ap (λ (us : List ℕ). get_or us (bit_index w) 0) (made ∙ ap (λ j. set t j b) at)
          ∙ elim (cases_Bool (is_same w v)) [
            | inl e ↦
                ap (λ (j : ℕ). get_or (set t (bit_index v) b) j 0) (ap bit_index ((is_same_Decides w v).0 e))
                ∙ get_or-set_same t (bit_index v) b 0 (let l = low v h in let n = s.long in omega (arith, l, n))
                ∙ sym (ap (λ c. cond c b (painted f (take i vs) b w)) e)
            | inr e ↦
                get_or-set_other t (bit_index v) (bit_index w) b 0 (λ q. let y = (is_same_Decides w v).1 (bit_index_same w v g h q) in cc)
                ∙ s.shows w g ∙ sym (ap (λ c. cond c b (painted f (take i vs) b w)) e)
          ];
      ascii = λ j. subst (λ (us : List ℕ). get_or us j 0 < 128) (sym made) (set_ascii t k b j ascii s.ascii);
    })
  where
    over : (p q : Bool) (c d : ℕ) → cond q c (cond p c d) ≡ cond (p || q) c d
    over true true c d = refl
    over true false c d = refl
    over false true c d = refl
    over false false c d = refl

    same : (w : Coordinates) → cond (is_same w v) b (painted f (take i vs) b w) ≡ painted f (take (i + 1) vs) b w
    same w =
        over (has_cell (take i vs) w) (is_same w v) b (f w)
        ∙ ap (λ c. cond c b (f w))
        (sym (cell_more (take i vs) v w) ∙ sym (ap (λ (us : List Coordinates). has_cell us w) (take_next vs i v lt is)))

-- the symbol of a number, modulo how many there are
pub turn_is : (found : Option (List ℕ)) (word : List ℕ) (k i name symbol : ℕ) → Some word ≡ found → i ≡ k % length word → 0 < length word → symbol ≡ get_or word i symbol → symbol ≡ in_turn found k name
turn_is found word k i name symbol e at some is =
    subst (λ (o : Option (List ℕ)). symbol ≡ in_turn o k name) e
    (is ∙ get_or_default word i symbol 0 (subst (λ (j : ℕ). j < length word) (sym at) (mod-lt k some)) ∙ ap (λ (j : ℕ). get_or word j 0) at)

-- points show nothing
pub points_shown : (n : ℕ) (t : List ℕ) → t ≡ replicate n 46 → n ≡ 32768 → AreSymbols (λ v. 46) t
points_shown n t is all = record {
  long = ap length is ∙ length-replicate n 46 ∙ all;
  shows = λ v h. ap (λ (us : List ℕ). get_or us (bit_index v) 0) is ∙ get_or-replicate n (bit_index v) 46 0 (let l = low v h in omega (arith, l, all));
  ascii = λ i. subst (λ (us : List ℕ). get_or us i 0 < 128) (sym is) (all_points n i);
}
  where
    all_points : (m i : ℕ) → get_or (replicate m 46) i 0 < 128
    all_points zero i = omega arith
    all_points (suc m) zero = omega arith
    all_points (suc m) (suc i) = all_points m i

-- the placements from the k-th on, and one more before them
pub over_one : (shown : ChoiceValue → ℕ) (cs : List ChoiceValue) (g : Coordinates → ℕ) (c : ChoiceValue) (v : Coordinates) → painted (symbol_over shown cs g) c.cells (shown c) v ≡ symbol_over shown (c ∷ cs) g v
over_one shown cs g c v = by_test (has_cell c.cells v)
  where
    by_test : (b : Bool) → cond b (shown c) (symbol_over shown cs g v) ≡ unwrap_or (option_map shown (cond b (Some c) (find (λ (d : ChoiceValue). has_cell d.cells v) cs))) (g v)
    by_test true = refl
    by_test false = refl

-- a vector that a slice of it was written into
pub written_symbols : (f : Coordinates → ℕ) (t old : List ℕ) (n : ℕ) → n ≡ length t → AreSymbols f t → AreSymbols f (take n (t ++ drop (length t) old))
written_symbols f t old n e s = subst (AreSymbols f) (sym (take_at t (drop (length t) old) n (sym e))) s

-- the region shown over the points, with no placement
pub ground_shown : (shown : ChoiceValue → ℕ) (region : List Coordinates) (cs : List ChoiceValue) (vs : List Coordinates) (t : List ℕ) → vs ≡ region → AreSymbols (painted (λ v. 46) vs 95) t
    → AreSymbols (symbol_over shown (drop (length cs - 0) cs) (ground region)) t
ground_shown shown region cs vs t e s =
    shown_alike (painted (λ v. 46) vs 95) (symbol_over shown (drop (length cs - 0) cs) (ground region)) t
    (λ v. ap (λ (us : List Coordinates). ground us v) e ∙ sym (ap (λ (ds : List ChoiceValue). symbol_over shown ds (ground region) v) (drop_all (length cs - 0) cs (omega arith)))) s

-- one placement more is shown
pub over_next : (shown : ChoiceValue → ℕ) (cs : List ChoiceValue) (k : ℕ) (c : ChoiceValue) (g : Coordinates → ℕ) (t : List ℕ) → k < length cs → c ≡ get_or cs (length cs - 1 - k) c
    → AreSymbols (painted (symbol_over shown (drop (length cs - k) cs) g) c.cells (shown c)) t → AreSymbols (symbol_over shown (drop (length cs - (k + 1)) cs) g) t
over_next shown cs k c g t lt is s =
    shown_alike (painted (symbol_over shown (drop (length cs - k) cs) g) c.cells (shown c)) (symbol_over shown (drop (length cs - (k + 1)) cs) g) t
    (λ v. over_one shown (drop (length cs - k) cs) g c v ∙ ap (λ (ds : List ChoiceValue). symbol_over shown ds g v) (sym one)) s
  where
    one : drop (length cs - (k + 1)) cs ≡ c ∷ drop (length cs - k) cs
    one =
        drop_more cs (length cs - (k + 1)) c (omega (arith, lt))
        ∙ ap₂ (λ (d : ChoiceValue) (n : ℕ). d ∷ drop n cs) (ap (λ (j : ℕ). get_or cs j c) (omega arith) ∙ sym is) (omega (arith, lt))
