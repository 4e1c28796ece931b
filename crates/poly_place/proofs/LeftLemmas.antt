-- What is left out, one by one.
use Rattle.std.proofs.Common.{◌≡◌, ℕ, ◌+◌, ◌<◌, ◌≤◌, List, [], ◌∷◌, ◌++◌, map, length, get_or, take, drop, Bool, cond, refl, sym, ap, subst, ◌∙◌, arith, append_assoc, vec_items}
use Rattle.std.specs.List.{list_all}
use Rattle.std.specs.Global.{Vec}
use Rattle.std.proofs.lemmas.List.{drop_more, take-append-drop, map-append}
use Rattle.std.proofs.lemmas.List.Sums.{sum_by-append}
use Rattle.poly_cells.specs.Sets.{IsIn}
use Rattle.poly_cells.proofs.SetLemmas.{in_from_map, take_next}
use Rattle.poly_texts.specs.Puzzle.{PuzzleValue, IsPuzzle}
use Rattle.poly_place.specs.Packings.{leavings}
use Rattle.poly_place.specs.Compiled.{left_from, left_out, leaving_entries}
use Rattle.poly_place.proofs.LeavingsLemmas.{IsCopy, leaving_is, left_copy}
use Rattle.poly_place.proofs.MadeLemmas.{left_out_is}

-- ---- the ends of groups

left_step : (test : ℕ → Bool) (xs rest : List ℕ) (n : ℕ) → xs ≡ n ∷ rest → left_from test xs ≡ cond (list_all test xs) (xs ∷ []) [] ++ left_from test rest
left_step test xs rest n e = subst (λ (l : List ℕ). left_from test l ≡ cond (list_all test l) (l ∷ []) [] ++ left_from test rest) (sym e) refl

pub left_more : (test : ℕ → Bool) (group : List ℕ) (k : ℕ) (b : Bool) (rest : List ℕ) (start before after : List (List ℕ)) → k < length group → rest ≡ drop k group → b ≡ list_all test rest
    → after ≡ before ++ cond b (rest ∷ []) [] → before ++ left_from test (drop k group) ≡ start ++ left_from test group
    → after ++ left_from test (drop (k + 1) group) ≡ start ++ left_from test group
left_more test group k b rest start before after lt is told push so =
    let later = left_from test (drop (k + 1) group) in
    let step = left_step test (drop k group) (drop (k + 1) group) (get_or group k 0) (drop_more group k 0 lt) in
    ap (λ (qs : List (List ℕ)). qs ++ later) push
    ∙ append_assoc before (cond b (rest ∷ []) []) later
    ∙ ap (λ (qs : List (List ℕ)). before ++ (qs ++ later)) (ap (λ c. cond c (rest ∷ []) []) told ∙ ap (λ (l : List ℕ). cond (list_all test l) (l ∷ []) []) is)
    ∙ ap (λ (qs : List (List ℕ)). before ++ qs) (sym step)
    ∙ so

-- ---- the items of what is left out

pub left_members : (p : PuzzleValue) → IsPuzzle p → (names : List ℕ) → IsIn names (left_out p) → (n : ℕ) → IsIn n names → IsCopy p n
left_members p z names i n j =
    let parts = in_from_map (λ (q : List ℕ × List ℕ). q.1) names (leavings p) (subst (λ (ls : List (List ℕ)). IsIn names ls) (left_out_is p) i) in
    left_copy p z parts.0 (leaving_is p parts.0 parts.1) n (subst (λ (ns : List ℕ). IsIn n ns) parts.2 j)

pub entries_next : (lefts : List (Vec ℕ)) (i : ℕ) (left : Vec ℕ) → i < length lefts → left ≡ get_or lefts i left
    → leaving_entries (map vec_items (take (i + 1) lefts)) ≡ leaving_entries (map vec_items (take i lefts)) + (length left.items + 1)
entries_next lefts i left lt is =
    let all = sum_by-append (λ (names : List ℕ). length names + 1) (map vec_items (take i lefts)) (left.items ∷ []) in
    let same = ap leaving_entries (ap (map vec_items) (take_next lefts i left lt is) ∙ map-append vec_items (take i lefts) (left ∷ [])) in
    omega (arith, all, same)

pub entries_upto : (lefts : List (Vec ℕ)) (k : ℕ) → leaving_entries (map vec_items (take k lefts)) ≤ leaving_entries (map vec_items lefts)
entries_upto lefts k =
    let all = sum_by-append (λ (names : List ℕ). length names + 1) (map vec_items (take k lefts)) (map vec_items (drop k lefts)) in
    let same = ap leaving_entries (sym (map-append vec_items (take k lefts) (drop k lefts)) ∙ ap (map vec_items) (take-append-drop k lefts)) in
    omega (arith, all, same)
