-- What can't be said of a stream.
use Rattle.std.proofs.Common.{◌≡◌, ℕ, zero, suc, ◌+◌, ◌<◌, ◌≤◌, false, true, Some, None, List, [], ◌∷◌, ◌++◌, length, map, ap, sym, ◌∙◌, subst, arith, length-append}
use Rattle.std.specs.Prelude.{Option}
use Rattle.std.specs.Io.KnownBytes.{Consumes}
use Rattle.std.proofs.lemmas.Bool.{false≢true}
use Rattle.byte_streams.specs.Stream.{Stream, HasFailed}
use Rattle.byte_streams.specs.Input.{most_input}

-- what is joined to one list is the same if the joined lists are
same_behind : (old xs ys : List (Option ℕ)) → old ++ xs ≡ old ++ ys → xs ≡ ys
same_behind [] xs ys e = e
same_behind (x ∷ old) xs ys e = let tail : old ++ xs ≡ old ++ ys = cc in same_behind old xs ys tail

pub last_failure : (old : List (Option ℕ)) (answer : Option ℕ) (counts : List ℕ) → old ++ None ∷ answer ∷ [] ≡ old ++ (map Some counts ++ None ∷ []) → ⊥
last_failure old answer [] e = let n = ap (length {A = Option ℕ}) (same_behind old (None ∷ answer ∷ []) (None ∷ []) e) in omega (arith, n)
last_failure old answer (x ∷ counts) e = let same : None ∷ answer ∷ [] ≡ Some x ∷ (map Some counts ++ None ∷ []) = same_behind old (None ∷ answer ∷ []) (Some x ∷ (map Some counts ++ None ∷ [])) e in cc

pub no_failure : (old : List (Option ℕ)) (counts : List ℕ) → old ≡ old ++ (map Some counts ++ None ∷ []) → ⊥
no_failure old counts e =
    let n = ap (length {A = Option ℕ}) e in
    let a = length-append old (map Some counts ++ None ∷ []) in
    let b = length-append (map Some counts) (None ∷ []) in
    omega (arith, n, a, b)

pub not_failed : (s : Stream) → s.failed ≡ false → HasFailed s → ⊥
not_failed s e h = false≢true (sym e ∙ h)

pub one_list : (n : ℕ) (old new : Stream) (before left came bytes : List ℕ) → old.bytes ≡ Some before → new.bytes ≡ Some left → before ≡ came ++ left → most_input < n + length came → Consumes old.bytes new.bytes bytes → n + length bytes ≤ most_input → ⊥
one_list n old new before left came bytes a b e more c few =
    let same : before ≡ bytes ++ left = rw (a, b) at c in
    let x = ap length same in
    let y = ap length e in
    let v = length-append bytes left in
    let w = length-append came left in
    omega (arith, x, y, v, w, more, few)
