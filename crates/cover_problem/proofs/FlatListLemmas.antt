-- Lists of numbers in one flat list.
use Rattle.std.proofs.Common.{◌≡◌, Bool, true, ◌&&◌, bytes_eq, Decides, ℕ, zero, suc, ◌+◌, ◌-◌, ◌<◌, ◌≤◌, All, map, List, [], ◌∷◌, ◌++◌, length, take, drop, get_or, refl, sym, ap, ◌∙◌, subst, arith, length-append, take-suc}
use Rattle.std.proofs.lemmas.List.{drop-append-le, take-append-le, length-drop, length-take-le, take_all, take-take, drop-take, drop_all}
use Rattle.std.proofs.Math.Seq.{drop-append-add}
use Rattle.std.proofs.lemmas.List.Elements.{All-cons}
use Rattle.std.proofs.lemmas.List.Folds.{drop_split}
use Rattle.std.proofs.lemmas.Bool.{and_parts, and_from}
use Rattle.std.specs.Cmp.Lexicographic.{bytes_decides}
use Rattle.cover_problem.specs.FlatLists.{lists_at, start_at, IsParted}

pub length-lists : (numbers : List ℕ) (a : ℕ) (ends : List ℕ) → length (lists_at numbers a ends) ≡ length ends
length-lists numbers a [] = refl
length-lists numbers a (end ∷ ends) = ap suc (length-lists numbers end ends)

-- the list at a place
pub record IsList (numbers : List ℕ) (a : ℕ) (ends : List ℕ) (k : ℕ) : Type 0 where
  pub order : start_at a ends k ≤ get_or ends k 0
  pub within : get_or ends k 0 ≤ length numbers
  pub list : get_or (lists_at numbers a ends) k [] ≡ take (get_or ends k 0 - start_at a ends k) (drop (start_at a ends k) numbers)

pub list_is : (numbers : List ℕ) (a : ℕ) (ends : List ℕ) (k : ℕ) → IsParted numbers a ends → k < length ends → IsList numbers a ends k
list_is numbers a [] k p l = absurd (omega arith)
list_is numbers a (end ∷ ends) zero p l = record { order = p.0; within = p.1; list = refl }
list_is numbers a (end ∷ ends) (suc zero) p l = let r = list_is numbers end ends zero p.2 (omega arith) in record { order = r.order; within = r.within; list = r.list }
list_is numbers a (end ∷ ends) (suc (suc k)) p l = let r = list_is numbers end ends (suc k) p.2 (omega arith) in record { order = r.order; within = r.within; list = r.list }

-- the same at a list of lists
pub list_here : (numbers ends : List ℕ) (lists : List (List ℕ)) (k : ℕ) → IsParted numbers 0 ends → lists_at numbers 0 ends ≡ lists → k < length lists → (k < length ends) × IsList numbers 0 ends k
list_here numbers ends lists k p e l =
    let n = length-lists numbers 0 ends in let m = ap length e in
    let w : k < length ends = omega arith in (w, list_is numbers 0 ends k p w)

-- within a list the default is none
pub same_default : (xs : List ℕ) (k d e : ℕ) → k < length xs → get_or xs k d ≡ get_or xs k e
same_default [] k d e l = absurd (omega arith)
same_default (x ∷ xs) zero d e l = refl
same_default (x ∷ xs) (suc k) d e l = same_default xs k d e (omega arith)

-- one list more at the end
pub push_parted : (numbers list : List ℕ) (a : ℕ) (ends : List ℕ) → IsParted numbers a ends → IsParted (numbers ++ list) a (ends ++ length (numbers ++ list) ∷ [])
push_parted numbers list a [] p = let n = length-append numbers list in (omega arith, omega arith, refl)
push_parted numbers list a (end ∷ ends) p = let n = length-append numbers list in let q = p.1 in (p.0, omega arith, push_parted numbers list end ends p.2)

pub push_lists : (numbers list : List ℕ) (a : ℕ) (ends : List ℕ) → IsParted numbers a ends → lists_at (numbers ++ list) a (ends ++ length (numbers ++ list) ∷ []) ≡ lists_at numbers a ends ++ list ∷ []
push_lists numbers list a [] p =
    let n = length-append numbers list in
    let rest : drop a (numbers ++ list) ≡ list = drop-append-le a numbers list (omega arith) ∙ ap (λ l. l ++ list) (drop_all a numbers (omega arith)) in
    ap (λ l. l ∷ []) (ap (take (length (numbers ++ list) - a)) rest ∙ take_all (length (numbers ++ list) - a) list (omega arith))
push_lists numbers list a (end ∷ ends) p =
    let n = length-drop a numbers in let q = p.0 in let r = p.1 in
    let same : take (end - a) (drop a (numbers ++ list)) ≡ take (end - a) (drop a numbers) =
    ap (take (end - a)) (drop-append-le a numbers list (omega arith)) ∙ take-append-le (end - a) (drop a numbers) list (omega arith) in
    ap (λ l. l ∷ lists_at (numbers ++ list) end (ends ++ length (numbers ++ list) ∷ [])) same ∙ ap (λ l. take (end - a) (drop a numbers) ∷ l) (push_lists numbers list end ends p.2)

-- the ends of the second of two lists, in both together
pub append_parted : (xs ys : List ℕ) (a : ℕ) (es fs : List ℕ) → IsParted xs a es → IsParted ys 0 fs → IsParted (xs ++ ys) a (es ++ map (λ e. length xs + e) fs)
append_parted xs ys a [] fs p q = moved xs ys 0 fs a (p ∙ (let n : length xs ≡ length xs + 0 = omega arith in n)) q
  where
    moved : (xs ys : List ℕ) (b : ℕ) (fs : List ℕ) (a : ℕ) → a ≡ length xs + b → IsParted ys b fs → IsParted (xs ++ ys) a (map (λ e. length xs + e) fs)
    moved xs ys b [] a e q = let n = length-append xs ys in omega arith
    moved xs ys b (f ∷ fs) a e q = let n = length-append xs ys in let r = q.0 in let s = q.1 in (omega arith, omega arith, moved xs ys f fs (length xs + f) refl q.2)
append_parted xs ys a (e ∷ es) fs p q = let n = length-append xs ys in let r = p.1 in (p.0, omega arith, append_parted xs ys e es fs p.2 q)

moved_lists : (xs ys : List ℕ) (b : ℕ) (fs : List ℕ) → lists_at (xs ++ ys) (length xs + b) (map (λ e. length xs + e) fs) ≡ lists_at ys b fs
moved_lists xs ys b [] = refl
moved_lists xs ys b (f ∷ fs) =
    let w : (length xs + f) - (length xs + b) ≡ f - b = omega arith in
    (λ j. take (w j) (drop-append-add xs ys b j) ∷ lists_at (xs ++ ys) (length xs + f) (map (λ e. length xs + e) fs)) ∙ ap (λ l. take (f - b) (drop b ys) ∷ l) (moved_lists xs ys f fs)

pub append_lists : (xs ys : List ℕ) (a : ℕ) (es fs : List ℕ) → IsParted xs a es → lists_at (xs ++ ys) a (es ++ map (λ e. length xs + e) fs) ≡ lists_at xs a es ++ lists_at ys 0 fs
append_lists xs ys a [] fs p = (let e : a ≡ length xs + 0 = p ∙ (let n : length xs ≡ length xs + 0 = omega arith in n) in ap (λ b. lists_at (xs ++ ys) b (map (λ e. length xs + e) fs)) e) ∙ moved_lists xs ys 0 fs
append_lists xs ys a (e ∷ es) fs p =
    let n = length-drop a xs in let q = p.0 in let r = p.1 in
    let same : take (e - a) (drop a (xs ++ ys)) ≡ take (e - a) (drop a xs) =
    ap (take (e - a)) (drop-append-le a xs ys (omega arith)) ∙ take-append-le (e - a) (drop a xs) ys (omega arith) in
    ap (λ l. l ∷ lists_at (xs ++ ys) e (es ++ map (λ e. length xs + e) fs)) same ∙ ap (λ l. take (e - a) (drop a xs) ∷ l) (append_lists xs ys e es fs p.2)

-- no end is past the list's
pub ends_within : (xs : List ℕ) (a : ℕ) (es : List ℕ) → IsParted xs a es → All (λ e. e ≤ length xs) es
ends_within xs a [] p = λ k d l. absurd (omega arith)
ends_within xs a (e ∷ es) p = All-cons (λ e. e ≤ length xs) e es p.1 (ends_within xs e es p.2)

-- ---- a list without its last list

abbrev end_of : ℕ → List ℕ → ℕ
end_of a [] = a
end_of a (e ∷ es) = end_of e es

end_is : (a : ℕ) (es : List ℕ) → start_at a es (length es) ≡ end_of a es
end_is a [] = refl
end_is a (e ∷ []) = refl
end_is a (e ∷ f ∷ es) = end_is e (f ∷ es)

popped_end : (xs : List ℕ) (a : ℕ) (es : List ℕ) (l : ℕ) → IsParted xs a (es ++ l ∷ []) → (a ≤ end_of a es) × (end_of a es ≤ length xs)
popped_end xs a [] l p = let q = p.0 in let r = p.1 in (omega arith, omega arith)
popped_end xs a (e ∷ es) l p = let q = p.0 in let r = popped_end xs e es l p.2 in let s = r.0 in (omega arith, r.1)

popped_parted : (xs : List ℕ) (a : ℕ) (es : List ℕ) (l e : ℕ) → IsParted xs a (es ++ l ∷ []) → end_of a es ≡ e → IsParted (take e xs) a es
popped_parted xs a [] l e p h = let b = popped_end xs a [] l p in let c = b.1 in let n = length-take-le e xs (omega arith) in omega arith
popped_parted xs a (f ∷ es) l e p h =
    let b = popped_end xs f es l p.2 in let c = b.0 in let d = b.1 in let n = length-take-le e xs (omega arith) in
    (p.0, omega arith, popped_parted xs f es l e p.2 h)

kept_list : (xs : List ℕ) (a f e : ℕ) → a ≤ f → f ≤ e → take (f - a) (drop a xs) ≡ take (f - a) (drop a (take e xs))
kept_list xs a f e p q =
    let w : a + (e - a) ≡ e = omega arith in
    sym (ap (take (f - a)) (ap (λ n. drop a (take n xs)) (sym w) ∙ drop-take a (e - a) xs) ∙ take-take (f - a) (e - a) (drop a xs) (omega arith))

popped_lists : (xs : List ℕ) (a : ℕ) (es : List ℕ) (l e : ℕ) → IsParted xs a (es ++ l ∷ []) → end_of a es ≡ e → lists_at xs a (es ++ l ∷ []) ≡ lists_at (take e xs) a es ++ take (l - e) (drop e xs) ∷ []
popped_lists xs a [] l e p h = ap (λ b. take (l - b) (drop b xs) ∷ []) h
popped_lists xs a (f ∷ es) l e p h =
    let b = popped_end xs f es l p.2 in let c = b.0 in
    ap (λ q. q ∷ lists_at xs f (es ++ l ∷ [])) (kept_list xs a f e p.0 (omega arith)) ∙ ap (λ qs. take (f - a) (drop a (take e xs)) ∷ qs) (popped_lists xs f es l e p.2 h)

-- the first k lists of k + 1
pub record IsPopped (xs es : List ℕ) (e k : ℕ) : Type 0 where
  pub parted : IsParted (take e xs) 0 (take k es)
  pub last : List ℕ
  pub lists : lists_at xs 0 es ≡ lists_at (take e xs) 0 (take k es) ++ last ∷ []

pub popped : (xs es : List ℕ) (e k : ℕ) → IsParted xs 0 es → suc k ≡ length es → e ≡ start_at 0 (take k es) k → IsPopped xs es e k
popped xs es e k p n h =
    let whole : es ≡ take k es ++ get_or es k 0 ∷ [] = sym (take_all (suc k) es (omega arith)) ∙ take-suc es k 0 (omega arith) in
    let m : length (take k es) ≡ k = length-take-le k es (omega arith) in
    let end : end_of 0 (take k es) ≡ e = sym (end_is 0 (take k es)) ∙ ap (start_at 0 (take k es)) m ∙ sym h in
    let q : IsParted xs 0 (take k es ++ get_or es k 0 ∷ []) = subst (IsParted xs 0) whole p in
    record {
      parted = popped_parted xs 0 (take k es) (get_or es k 0) e q end;
      last = take (get_or es k 0 - e) (drop e xs);
      lists = ap (lists_at xs 0) whole ∙ popped_lists xs 0 (take k es) (get_or es k 0) e q end;
    }

-- ---- two flat lists of the same lists

-- the lists tell the numbers from the first on, and the ends
flat_parts : (xs ys : List ℕ) (a b : ℕ) (es fs : List ℕ) → a ≡ b → IsParted xs a es → IsParted ys b fs → lists_at xs a es ≡ lists_at ys b fs → (drop a xs ≡ drop b ys) × (es ≡ fs)
flat_parts xs ys a b [] [] h p q s = (drop_all a xs (omega arith) ∙ sym (drop_all b ys (omega arith)), refl)
flat_parts xs ys a b [] (f ∷ fs) h p q s = cc
flat_parts xs ys a b (e ∷ es) [] h p q s = cc
flat_parts xs ys a b (e ∷ es) (f ∷ fs) h p q s =
    let first : take (e - a) (drop a xs) ≡ take (f - b) (drop b ys) = cc in
    let others : lists_at xs e es ≡ lists_at ys f fs = cc in
    let n = length-drop a xs in let m = length-drop b ys in
    let p0 = p.0 in let p1 = p.1 in let q0 = q.0 in let q1 = q.1 in
    let long = length-take-le (e - a) (drop a xs) (omega arith) in let wide = length-take-le (f - b) (drop b ys) (omega arith) in
    let size = ap length first in
    let end : e ≡ f = omega arith in
    let r = flat_parts xs ys e f es fs end p.2 q.2 others in
    (drop_split xs a e p0 ∙ (λ j. first j ++ r.0 j) ∙ sym (drop_split ys b f q0), (λ j. end j ∷ r.1 j))

-- so the numbers and the ends are the same exactly where the lists are
pub same_flat : (xs ys es fs : List ℕ) (ls ms : List (List ℕ)) (r : Bool) → IsParted xs 0 es → IsParted ys 0 fs → lists_at xs 0 es ≡ ls → lists_at ys 0 fs ≡ ms → r ≡ (bytes_eq xs ys && bytes_eq es fs) → Decides r (ls ≡ ms)
same_flat xs ys es fs ls ms r p q s t e = (equal, test)
  where
    equal : r ≡ true → ls ≡ ms
    equal h =
        let a = and_parts (bytes_eq xs ys) (bytes_eq es fs) (sym e ∙ h) in
        let same : xs ≡ ys = (bytes_decides xs ys).0 a.0 in
        let same_ends : es ≡ fs = (bytes_decides es fs).0 a.1 in
        sym s ∙ (λ j. lists_at (same j) 0 (same_ends j)) ∙ t

    test : ls ≡ ms → r ≡ true
    test h =
        let parts = flat_parts xs ys 0 0 es fs refl p q (s ∙ h ∙ sym t) in
        e ∙ and_from (bytes_eq xs ys) (bytes_eq es fs) ((bytes_decides xs ys).1 parts.0) ((bytes_decides es fs).1 parts.1)
