-- Rows, and the bytes of many numbers.
use Rattle.std.proofs.Common.{◌≡◌, ℕ, zero, suc, Some, ◌^◌, ◌<◌, ◌≤◌, All, map, List, [], ◌∷◌, ◌++◌, length, take, drop, get_or, refl, sym, ap, ◌∙◌, subst, arith, length-append, append_assoc}
use Rattle.std.proofs.lemmas.List.{append-nil, map-append, length-map, length-take-le}
use Rattle.std.proofs.Math.Seq.{take-append_seam}
use Rattle.std.proofs.lemmas.List.Elements.{All-push, All-pop}
use Rattle.std.proofs.lemmas.Grind.{flat_map-append}
use Rattle.std.specs.List.{flat_map}
use Rattle.packed_rows.specs.Numbers.{bytes_of, numbers_of, IsWhole, IsSpelled, IsRow}
use Rattle.packed_rows.specs.Pieces.{row_bytes, AreSpans, Grows, span_of}
use Rattle.cover_problem.specs.FlatLists.{lists_at, start_at, IsParted}
use Rattle.packed_rows.specs.Rows.{rows_bytes, rows_at, KeepsPieces}
use Rattle.packed_rows.proofs.NumberLemmas.{reads_number, none, whole_put}
use Rattle.packed_rows.proofs.PieceLemmas.{places_more, bytes_grow, place_placed, place_bytes}
use Rattle.cover_problem.proofs.FlatListLemmas.{push_parted, push_lists, popped, length-lists, IsList, list_is}

pub length-rows : (block places ends : List ℕ) → length (rows_at block places ends) ≡ length ends
length-rows block places ends =
    length-map (rows_bytes block places ends) numbers_of ∙ length-map (lists_at places 0 ends) (row_bytes block) ∙ length-lists places 0 ends

-- the numbers of many numbers' bytes
reads_list : (ns : List ℕ) → All (λ n. n < 2 ^ 64) ns → numbers_of (flat_map bytes_of ns) ≡ ns
reads_list [] a = none
reads_list (n ∷ ns) a =
    reads_number n (flat_map bytes_of ns) (a 0 0 (omega arith))
    ∙ ap (λ ms. n ∷ ms) (reads_list ns (λ k d l. a (suc k) d (omega arith)))

pub reads_all : (bs ns : List ℕ) → IsWhole bs → All (λ n. n < 2 ^ 64) ns → numbers_of (bs ++ flat_map bytes_of ns) ≡ numbers_of bs ++ ns
reads_all bs ns w a = w (flat_map bytes_of ns) ∙ ap (λ ms. numbers_of bs ++ ms) (reads_list ns a)

pub spelled_all : (bs ns : List ℕ) → IsWhole bs → IsSpelled bs → All (λ n. n < 2 ^ 64) ns → IsSpelled (bs ++ flat_map bytes_of ns)
spelled_all bs ns w s a =
    ap (λ cs. cs ++ flat_map bytes_of ns) s ∙ sym (flat_map-append bytes_of (numbers_of bs) ns)
    ∙ ap (flat_map bytes_of) (sym (reads_all bs ns w a))

-- ---- one row more

-- the rows that are there keep their bytes
same_bytes : (block more : List ℕ) (lists : List (List ℕ)) → All (AreSpans (length block)) lists → map (row_bytes (block ++ more)) lists ≡ map (row_bytes block) lists
same_bytes block more [] a = refl
same_bytes block more (l ∷ ls) a =
    (λ j. bytes_grow block more l (a 0 [] (omega arith)) j ∷ same_bytes block more ls (λ k d h. a (suc k) d (omega arith)) j)

-- what is kept then, and which rows there are
pub record IsAdded (block places ends row : List ℕ) (before : List (List ℕ)) : Type 0 where
  pub keeps : KeepsPieces block places ends
  pub rows : rows_at block places ends ≡ before ++ row ∷ []

pub one_more : (block places ends next new_block new_places new_ends bytes : List ℕ) → KeepsPieces block places ends → Grows block new_block
    → new_places ≡ places ++ next → new_ends ≡ ends ++ length new_places ∷ [] → AreSpans (length new_block) next
    → row_bytes new_block next ≡ bytes → IsSpelled bytes
    → IsAdded new_block new_places new_ends (numbers_of bytes) (rows_at block places ends)
one_more block places ends next new_block new_places new_ends bytes k g p e a b s =
    let there : new_ends ≡ ends ++ length (places ++ next) ∷ [] = e ∙ ap (λ (ps : List ℕ). ends ++ length ps ∷ []) p in
    let lists : lists_at new_places 0 new_ends ≡ lists_at places 0 ends ++ next ∷ [] =
    (λ j. lists_at (p j) 0 (there j)) ∙ push_lists places next 0 ends k.parted in
    let longer : length block ≤ length new_block = let n = length-append block g.0 in let m = ap length g.1 in omega arith in
    let old : map (row_bytes new_block) (lists_at places 0 ends) ≡ rows_bytes block places ends =
    ap (λ b. map (row_bytes b) (lists_at places 0 ends)) g.1 ∙ same_bytes block g.0 (lists_at places 0 ends) k.placed in
    let all : rows_bytes new_block new_places new_ends ≡ rows_bytes block places ends ++ bytes ∷ [] =
    ap (map (row_bytes new_block)) lists ∙ map-append (row_bytes new_block) (lists_at places 0 ends) (next ∷ [])
    ∙ (λ j. old j ++ b j ∷ []) in
    record {
      keeps = record {
        parted = subst (λ (w : List ℕ × List ℕ). IsParted w.0 0 w.1) (λ j. (sym p j, sym there j)) (push_parted places next 0 ends k.parted);
        placed = subst (All (AreSpans (length new_block))) (sym lists)
            (All-push (AreSpans (length new_block)) (lists_at places 0 ends) next
            (λ i d l. places_more (length block) (length new_block) (get_or (lists_at places 0 ends) i d) longer (k.placed i d l)) a);
        spelled = subst (All IsSpelled) (sym all) (All-push IsSpelled (rows_bytes block places ends) bytes k.spelled s);
      };
      rows = ap (map numbers_of) all ∙ map-append numbers_of (rows_bytes block places ends) (bytes ∷ []);
    }

-- the same of vectors to which room was added
pub one_pushed : (block places ends roomy_block roomy_places roomy_ends draft lent new_block new_places new_ends bytes : List ℕ) → KeepsPieces block places ends
    → roomy_block ≡ block → roomy_places ≡ places → roomy_ends ≡ ends → Grows roomy_block new_block → lent ≡ draft → new_places ≡ roomy_places ++ lent
    → new_ends ≡ roomy_ends ++ length new_places ∷ [] → AreSpans (length new_block) draft → row_bytes new_block draft ≡ bytes → IsSpelled bytes
    → IsAdded new_block new_places new_ends (numbers_of bytes) (rows_at block places ends)
one_pushed block places ends roomy_block roomy_places roomy_ends draft lent new_block new_places new_ends bytes k rb rp re g d p e a b s =
    one_more block places ends draft new_block new_places new_ends bytes k (subst (λ xs. Grows xs new_block) rb g) (p ∙ (λ j. rp j ++ d j))
    (e ∙ ap (λ xs. xs ++ length new_places ∷ []) re) a b s

-- a row in one piece
pub one_piece : (block bytes new : List ℕ) → new ≡ block ++ bytes
    → (AreSpans (length new) (span_of (length block) (length bytes))) × (row_bytes new (span_of (length block) (length bytes)) ≡ bytes)
one_piece block bytes new e =
    let n = length-append block bytes in let m = ap length e in (
      place_placed (length new) (length block) (length bytes) (omega arith),
      place_bytes new (length block) (length bytes) ∙ ap (λ b. take (length bytes) (drop (length block) b)) e ∙ at_end block bytes,
    )
  where
    at_end : (block bytes : List ℕ) → take (length bytes) (drop (length block) (block ++ bytes)) ≡ bytes
    at_end [] bytes = take_whole bytes
      where
        take_whole : (xs : List ℕ) → take (length xs) xs ≡ xs
        take_whole [] = refl
        take_whole (x ∷ xs) = ap (λ ys. x ∷ ys) (take_whole xs)
    at_end (x ∷ block) bytes = at_end block bytes

-- ---- the row at a place

pub record IsHere (block places ends : List ℕ) (k : ℕ) : Type 0 where
  pub end : k < length ends
  pub list : IsList places 0 ends k
  pub placed : AreSpans (length block) (get_or (lists_at places 0 ends) k [])
  pub spelled : IsSpelled (row_bytes block (get_or (lists_at places 0 ends) k []))
  pub row : get_or (rows_at block places ends) k [] ≡ numbers_of (row_bytes block (get_or (lists_at places 0 ends) k []))

get_or-map : (f : List ℕ → List ℕ) (lists : List (List ℕ)) (k : ℕ) (d : List ℕ) → k < length lists → get_or (map f lists) k d ≡ f (get_or lists k [])
get_or-map f [] k d l = absurd (omega arith)
get_or-map f (x ∷ xs) zero d l = refl
get_or-map f (x ∷ xs) (suc k) d l = get_or-map f xs k d (omega arith)

pub row_here : (block places ends : List ℕ) (rows : List (List ℕ)) (k : ℕ) → KeepsPieces block places ends → rows_at block places ends ≡ rows → k < length rows
    → IsHere block places ends k
row_here block places ends rows k p e l =
    let n = length-rows block places ends in let m = ap length e in
    let q = length-lists places 0 ends in let r = length-map (lists_at places 0 ends) (row_bytes block) in
    let w : k < length ends = omega arith in
    let wl : k < length (lists_at places 0 ends) = omega arith in
    let wb : k < length (rows_bytes block places ends) = omega arith in
    let here = get_or-map (row_bytes block) (lists_at places 0 ends) k [] wl in
    record {
      end = w;
      list = list_is places 0 ends k p.parted w;
      placed = p.placed k [] wl;
      spelled = subst IsSpelled here (p.spelled k [] wb);
      row = get_or-map numbers_of (rows_bytes block places ends) k [] wb ∙ ap numbers_of here;
    }

-- one row more, in one piece
pub one_piece_more : (block places ends row more new_block new_places new_ends : List ℕ) → KeepsPieces block places ends → IsRow row → All (λ n. n < 2 ^ 64) more
    → new_block ≡ block ++ (row ++ flat_map bytes_of more) → new_places ≡ places ++ span_of (length block) (length (row ++ flat_map bytes_of more))
    → new_ends ≡ ends ++ length new_places ∷ [] → IsAdded new_block new_places new_ends (numbers_of row ++ more) (rows_at block places ends)
one_piece_more block places ends row more new_block new_places new_ends k r a b p e =
    let bytes = row ++ flat_map bytes_of more in
    let piece = one_piece block bytes new_block b in
    subst (λ ns. IsAdded new_block new_places new_ends ns (rows_at block places ends)) (reads_all row more r.whole a)
    (one_more block places ends (span_of (length block) (length bytes)) new_block new_places new_ends bytes k (bytes, b) p e piece.0 piece.1
    (spelled_all row more r.whole r.spelled a))

-- many numbers more in a row
pub whole_all : (bs ns : List ℕ) → IsRow bs → All (λ n. n < 2 ^ 64) ns → IsRow (bs ++ flat_map bytes_of ns)
whole_all bs [] w a = subst IsRow (sym (append-nil bs)) w
whole_all bs (n ∷ ns) w a =
    subst IsRow (append_assoc bs (bytes_of n) (flat_map bytes_of ns))
    (whole_all (bs ++ bytes_of n) ns (whole_put bs n w (a 0 0 (omega arith))) (λ k d l. a (suc k) d (omega arith)))

-- ---- one row less

-- what is kept then, of the first places and ends
pub record IsLess (block places ends : List ℕ) (e k : ℕ) : Type 0 where
  pub keeps : KeepsPieces block (take e places) (take k ends)
  pub rows : rows_at block (take e places) (take k ends) ≡ take k (rows_at block places ends)

pub one_less : (block places ends : List ℕ) (e k : ℕ) → KeepsPieces block places ends → suc k ≡ length ends → e ≡ start_at 0 (take k ends) k
    → IsLess block places ends e k
one_less block places ends e k p n h =
    let r = popped places ends e k p.parted n h in
    let all : rows_bytes block places ends ≡ rows_bytes block (take e places) (take k ends) ++ row_bytes block r.last ∷ [] =
    ap (map (row_bytes block)) r.lists ∙ map-append (row_bytes block) (lists_at (take e places) 0 (take k ends)) (r.last ∷ []) in
    let rows : rows_at block places ends ≡ rows_at block (take e places) (take k ends) ++ numbers_of (row_bytes block r.last) ∷ [] =
    ap (map numbers_of) all ∙ map-append numbers_of (rows_bytes block (take e places) (take k ends)) (row_bytes block r.last ∷ []) in
    let long : length (rows_at block (take e places) (take k ends)) ≡ k =
    length-rows block (take e places) (take k ends) ∙ length-take-le k ends (omega arith) in
    record {
      keeps = record {
        parted = r.parted;
        placed = (All-pop (AreSpans (length block)) (lists_at places 0 ends) (lists_at (take e places) 0 (take k ends)) (Some r.last) r.lists p.placed).0;
        spelled = (All-pop IsSpelled (rows_bytes block places ends) (rows_bytes block (take e places) (take k ends)) (Some (row_bytes block r.last)) all p.spelled).0;
      };
      rows = sym (ap (take k) rows ∙ ap (λ n. take n (rows_at block (take e places) (take k ends) ++ numbers_of (row_bytes block r.last) ∷ [])) (sym long)
          ∙ take-append_seam (rows_at block (take e places) (take k ends)) (numbers_of (row_bytes block r.last) ∷ []));
    }
