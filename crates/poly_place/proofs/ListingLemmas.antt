-- Packings that are listed one by one.
use Rattle.std.proofs.Common.{◌≡◌, ℕ, ◌+◌, ◌<◌, List, [], ◌∷◌, ◌++◌, length, get_or, take, sym, ap, ◌∙◌, arith, append_assoc, append-nil}
use Rattle.std.proofs.lemmas.List.{take_more, length-take-le}
use Rattle.poly_texts.specs.Puzzle.{PuzzleValue}
use Rattle.poly_place.specs.Listing.{packing_text, packings_from}

packings_push : (p : PuzzleValue) (n : ℕ) (paths : List (List ℕ)) (path : List ℕ) → packings_from p n (paths ++ path ∷ []) ≡ packings_from p n paths ++ packing_text p (n + length paths) path
packings_push p n [] path = append-nil (packing_text p n path) ∙ ap (λ (k : ℕ). packing_text p k path) (omega arith)
packings_push p n (q ∷ paths) path =
    ap (λ (bs : List ℕ). packing_text p n q ++ bs) (packings_push p (n + 1) paths path ∙ ap (λ (k : ℕ). packings_from p (n + 1) paths ++ packing_text p k path) (omega arith))
    ∙ sym (append_assoc (packing_text p n q) (packings_from p (n + 1) paths) (packing_text p (n + length (q ∷ paths)) path))

-- a packing more
pub packing_more : (p : PuzzleValue) (paths : List (List ℕ)) (k : ℕ) (path start before after : List ℕ) → k < length paths → path ≡ get_or paths k [] → after ≡ before ++ packing_text p (k + 1) path
    → before ≡ start ++ packings_from p 1 (take k paths) → after ≡ start ++ packings_from p 1 (take (k + 1) paths)
packing_more p paths k path start before after lt is push so =
    push ∙ ap (λ (bs : List ℕ). bs ++ packing_text p (k + 1) path) so ∙ append_assoc start (packings_from p 1 (take k paths)) (packing_text p (k + 1) path)
    ∙ ap (λ (bs : List ℕ). start ++ bs)
    (sym (ap (packings_from p 1) (take_more paths k [] lt ∙ ap (λ (q : List ℕ). take k paths ++ q ∷ []) (sym is)) ∙ packings_push p 1 (take k paths) path
    ∙ ap (λ (n : ℕ). packings_from p 1 (take k paths) ++ packing_text p n path) (let n = length-take-le k paths (omega (arith, lt)) in omega (arith, n))))
