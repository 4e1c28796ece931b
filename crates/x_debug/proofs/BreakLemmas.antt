-- The breakpoints of a session are ones of a snapshot: each can be met, and none comes twice.
use Rattle.std.proofs.Common.{◌≡◌, ℕ, ◌+◌, ◌<◌, Bool, true, false, cond, List, [], ◌∷◌, ◌++◌, length, take, get_or, refl, sym, ◌∙◌, ap, subst}
use Rattle.std.specs.List.{list_any, list_all, IsDistinct, AllByRecursion}
use Rattle.std.proofs.lemmas.Bool.{and_from, not_from_false}
use Rattle.std.proofs.lemmas.Map.Keys.{IsDistinct-head, IsDistinct-tail}
use Rattle.cover_problem.specs.Problem.{ProblemValue}
use Rattle.x_texts.specs.declared.breakpoint.Break.{Break}
use Rattle.x_texts.specs.contracts.breakpoint.BreakPartialEq.TheImpl.{eq-value}
use Rattle.x_texts.specs.Breaks.{is_break, is_same, are_new, are_breaks}
use Rattle.x_snapshot.proofs.BreakLemmas.{eq_is, taken_again, keys_taken}

none_same : (b : Break) (bs : List Break) → AllByRecursion (λ (c : Break). eq-value.it b c ≡ false) bs → list_any (is_same b) bs ≡ false
none_same b [] h = refl
none_same b (c ∷ cs) h = rw (sym (eq_is b c) ∙ h.0) (none_same b cs h.1)

each_new : (bs : List Break) → IsDistinct eq-value.it bs → are_new bs ≡ true
each_new [] h = refl
each_new (b ∷ bs) h = and_from _ _ (not_from_false _ (none_same b bs (IsDistinct-head eq-value.it b bs h))) (each_new bs (IsDistinct-tail eq-value.it b bs h))

pub set_is_breaks : (p : ProblemValue) (bs : List Break) → list_all (is_break p) bs ≡ true → IsDistinct eq-value.it bs → are_breaks p bs ≡ true
set_is_breaks p bs met new = and_from _ _ met (each_new bs new)

-- breakpoints that are set one after the other, of which none comes twice
pub set_one_more : (p : ProblemValue) (bs items keys more : List Break) (i : ℕ) (d : Break) → are_breaks p bs ≡ true → items ≡ bs → i < length items → keys ≡ take i bs
    → more ≡ cond (list_any (eq-value.it (get_or items i d)) keys) keys (keys ++ get_or items i d ∷ []) → more ≡ take (i + 1) bs
set_one_more p bs items keys more i d fine same within are made = by (list_any (eq-value.it (get_or bs i d)) keys) refl
  where
    here : i < length bs
    here = subst (λ (xs : List Break). i < length xs) same within

    by : (v : Bool) → list_any (eq-value.it (get_or bs i d)) keys ≡ v → more ≡ take (i + 1) bs
    by true e = absurd (let no_breaks = taken_again bs keys i d here are p e in cc)
    by false e = keys_taken bs keys i d here are e more (made ∙ ap (λ (xs : List Break). cond (list_any (eq-value.it (get_or xs i d)) keys) keys (keys ++ get_or xs i d ∷ [])) same)
