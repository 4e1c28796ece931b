-- The place of an item in an option, and the items covered and uncovered one after the other.
use Rattle.std.proofs.Common.{◌≡◌, ℕ, ◌+◌, ◌<◌, ◌==◌, List, [], ◌∷◌, ◌++◌, length, true, arith, sym, ap, ◌∙◌, append_assoc, length-append, min, refl}
use Rattle.std.proofs.lemmas.List.{length-take, same_from_push}
use Rattle.std.specs.List.{position_or_len, before_first, after_first}
use Rattle.shared_words.specs.Lists.{has}
use Rattle.cover_problem.proofs.PartLemmas.{parts_are}

pub place_within : (i : ℕ) (option : List ℕ) → has option i ≡ true → position_or_len (λ x. x == i) option < length option
place_within i option h =
    let place = position_or_len (λ x. x == i) option in
    let whole : length option ≡ length (before_first (λ x. x == i) option ++ i ∷ after_first (λ x. x == i) option) = ap (length {A = ℕ}) (parts_are i option h) in
    let parts = length-append (before_first (λ x. x == i) option) (i ∷ after_first (λ x. x == i) option) in
    let front : length (before_first (λ x. x == i) option) ≡ min place (length option) = length-take place option in
    omega arith

last_part : (xs : List ℕ) → 0 < length xs → (ys : List ℕ) × (y : ℕ) × (xs ≡ ys ++ y ∷ [])
last_part [] h = absurd (omega arith)
last_part (x ∷ []) h = ([], x, refl)
last_part (x ∷ z ∷ xs) h = let r = last_part (z ∷ xs) (omega arith) in (x ∷ r.0, r.1, ap (λ l. x ∷ l) r.2)

-- a list that ends with `back`, without its last member
pub back_shorter : (front back new : List ℕ) (x : ℕ) → front ++ back ≡ new ++ x ∷ [] → 0 < length back → (less : List ℕ) × (back ≡ less ++ x ∷ []) × (new ≡ front ++ less)
back_shorter front back new x e h =
    let r = last_part back h in
    let joined : (front ++ r.0) ++ r.1 ∷ [] ≡ new ++ x ∷ [] = append_assoc front r.0 (r.1 ∷ []) ∙ ap (λ l. front ++ l) (sym r.2) ∙ e in
    let same = same_from_push _ _ _ _ joined in
    (r.0, r.2 ∙ ap (λ y. r.0 ++ y ∷ []) same.1, sym same.0)

-- of `all`, `done` of the last `count` are uncovered
pub record Uncovers (all now : List ℕ) (count done : ℕ) : Type 0 where
  pub front : List ℕ
  pub back : List ℕ
  pub gone : List ℕ
  pub standing : now ≡ front ++ back
  pub whole : all ≡ (front ++ back) ++ gone
  pub left : length back + done ≡ count
  pub uncovered : length gone ≡ done

pub uncovers_more : (all now new : List ℕ) (count done x : ℕ) → Uncovers all now count done → done < count → now ≡ new ++ x ∷ [] → Uncovers all new count (done + 1)
uncovers_more all now new count done x u more e =
    let some : 0 < length u.back = let l = u.left in omega arith in
    let less = back_shorter u.front u.back new x (sym u.standing ∙ e) some in
    let shorter : length u.back ≡ length less.0 + 1 = ap (length {A = ℕ}) less.1 ∙ length-append less.0 (x ∷ []) in
    record {
      front = u.front;
      back = less.0;
      gone = x ∷ u.gone;
      standing = less.2;
      whole = u.whole ∙ ap (λ l. (u.front ++ l) ++ u.gone) less.1 ∙ ap (λ l. l ++ u.gone) (sym (append_assoc u.front less.0 (x ∷ []))) ∙ append_assoc (u.front ++ less.0) (x ∷ []) u.gone;
      left = let l = u.left in omega arith;
      uncovered = let l = u.uncovered in omega arith;
    }
