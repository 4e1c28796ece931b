-- Lists that a function is mapped over, as a loop goes along them.
use Rattle.std.proofs.Common.{◌≡◌, refl, sym, ap, ◌∙◌, ℕ, suc, ◌+◌, ◌<◌, ◌≤◌, List, [], ◌∷◌, ◌++◌, map, length, get_or, take, drop, Result, Ok, Err, add-one, drop-cons, take-suc, drop_of_length-le}
use Rattle.std.specs.List.{AllZip}
use Rattle.text_lines.specs.Each.{each}
use Rattle.text_lines.proofs.EachLemmas.{each_goes, each_stops, each_ends}
use Rattle.std.proofs.lemmas.List.{map-append}

-- the same along a list that a function is mapped over, as a loop has it
module _ {S X Y F : Type 0} (step : S → Y → Result S F) (f : X → Y) (xs : List X) (i : ℕ) (s : S) (all : Result S F) (so_far : each step s (map f (drop i xs)) ≡ all) where
  module _ (x : X) (more : i < length xs) (at : x ≡ get_or xs i x) where
    first_is : map f (drop i xs) ≡ f x ∷ map f (drop (suc i) xs)
    first_is = ap (map f) (drop-cons xs i x more) ∙ ap (λ y. f y ∷ map f (drop (suc i) xs)) (sym at)

    pub mapped_goes : (t : S) → step s (f x) ≡ Ok t → each step t (map f (drop (i + 1) xs)) ≡ all
    mapped_goes t h = rw add-one (each_goes step s (map f (drop i xs)) all so_far (f x) (map f (drop (suc i) xs)) t first_is h)

    pub mapped_stops : (e : F) → step s (f x) ≡ Err e → all ≡ Err e
    mapped_stops e h = each_stops step s (map f (drop i xs)) all so_far (f x) (map f (drop (suc i) xs)) e first_is h

  pub mapped_ends : length xs ≤ i → all ≡ Ok s
  mapped_ends h = each_ends step s (map f (drop i xs)) all so_far (ap (map f) (drop_of_length-le xs h))

pub map_more : {X Y : Type 0} (f : X → Y) (xs : List X) (i : ℕ) (x : X) → i < length xs → x ≡ get_or xs i x → map f (take (i + 1) xs) ≡ map f (take i xs) ++ f x ∷ []
map_more f xs i x more at = rw (add-one i) (ap (map f) (take-suc xs i x more) ∙ map-append f (take i xs) (get_or xs i x ∷ []) ∙ ap (λ y. map f (take i xs) ++ f y ∷ []) (sym at))

pub zip_map : {X Y : Type 0} (f : X → Y) (R : X → X → Type 0) → ((x y : X) → R x y → f y ≡ f x) → (xs ys : List X) → AllZip R xs ys → map f ys ≡ map f xs
zip_map f R same [] [] h = refl
zip_map f R same [] (y ∷ ys) h = absurd h
zip_map f R same (x ∷ xs) [] h = absurd h
zip_map f R same (x ∷ xs) (y ∷ ys) h = ap (λ z. z ∷ map f ys) (same x y h.0) ∙ ap (λ zs. f x ∷ zs) (zip_map f R same xs ys h.1)
