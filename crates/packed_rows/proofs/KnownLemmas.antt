-- A list whose bytes are known: fewer steps of it, and a step more.
use Rattle.std.proofs.Common.{◌≡◌, ℕ, zero, suc, ◌*◌, ◌<◌, ◌≤◌, List, [], ◌∷◌, ◌++◌, length, take, drop, get_or, refl, sym, ap, ◌∙◌, arith}
use Rattle.std.proofs.lemmas.List.{length-take-le, take-take, take-append-drop}
use Rattle.std.proofs.Math.Seq.{take-append_seam}
use Rattle.std.proofs.lemmas.Grind.{flat_map-append}
use Rattle.std.specs.List.{flat_map}
use Rattle.cover_problem.specs.FlatLists.{start_at}
use Rattle.packed_rows.specs.Numbers.{bytes_of}
use Rattle.packed_rows.specs.Known.{IsKnown}

-- ---- places of steps

get_or-front : (xs ys : List ℕ) (k : ℕ) → k < length xs → get_or (xs ++ ys) k 0 ≡ get_or xs k 0
get_or-front [] ys k l = absurd (omega arith)
get_or-front (x ∷ xs) ys zero l = refl
get_or-front (x ∷ xs) ys (suc k) l = get_or-front xs ys k (omega arith)

start_front : (xs ys : List ℕ) (k : ℕ) → k ≤ length xs → start_at 0 (xs ++ ys) k ≡ start_at 0 xs k
start_front xs ys zero l = refl
start_front xs ys (suc k) l = get_or-front xs ys k (omega arith)

start_taken : (xs : List ℕ) (n k : ℕ) → k ≤ n → n ≤ length xs → start_at 0 (take n xs) k ≡ start_at 0 xs k
start_taken xs n k l m =
    let t = length-take-le n xs m in
    sym (start_front (take n xs) (drop n xs) k (omega arith)) ∙ ap (λ ys. start_at 0 ys k) (take-append-drop n xs)

-- ---- fewer steps

pub known_kept : (ns bs es : List ℕ) (s e : ℕ) → IsKnown ns bs es → s ≤ length es → e ≡ start_at 0 es s
    → IsKnown (take (64 * s) ns) (take e bs) (take s es)
known_kept ns bs es s e k l h =
    let n = k.steps in
    let front = flat_map bytes_of (take (64 * s) ns) in let back = flat_map bytes_of (drop (64 * s) ns) in
    let all : bs ≡ front ++ back =
    k.spelled ∙ ap (flat_map bytes_of) (sym (take-append-drop (64 * s) ns)) ∙ flat_map-append bytes_of (take (64 * s) ns) (drop (64 * s) ns) in
    let end : e ≡ length front = h ∙ k.places s l in
    let few = length-take-le s es l in
    record {
      spelled = (λ j. take (end j) (all j)) ∙ take-append_seam front back;
      steps = length-take-le (64 * s) ns (omega arith) ∙ ap (λ m. 64 * m) (sym few);
      places = λ i m. start_taken es s i (omega arith) l ∙ k.places i (omega arith)
          ∙ ap (λ xs. length (flat_map bytes_of xs)) (sym (take-take (64 * i) (64 * s) ns (omega arith)));
    }
