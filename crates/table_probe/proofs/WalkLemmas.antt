-- A walk along a rising list of numbers up to n, from each to the next.
use Rattle.std.proofs.Common.{◌≡◌, ℕ, ◌+◌, ◌-◌, ◌<◌, ◌≤◌, true, Option, Some, None, List, sym, subst, arith, IfSome}
use Rattle.shared_words.specs.Lists.{has, above, RisesFrom}
use Rattle.cover_problem.proofs.RisingLemmas.{above_is}

-- how much of the numbers up to n is ahead of the next one
abbrev pub ahead : ℕ → Option ℕ → ℕ
ahead n None = 0
ahead n (Some k) = n + 1 - k

-- the next one is in the list, if there is one
abbrev pub IsNextIn : List ℕ → Option ℕ → Type 0
IsNextIn xs next = IfSome next (λ k. has xs k ≡ true)

pub next_in : (xs : List ℕ) (next : Option ℕ) (o : ℕ) → IsNextIn xs next → next ≡ Some o → has xs o ≡ true
next_in xs next o i e = let h : IsNextIn xs (Some o) = subst (IsNextIn xs) e i in h

pub nearer : (n : ℕ) (xs : List ℕ) (next after : Option ℕ) (o : ℕ) → RisesFrom 1 xs → ((k : ℕ) → has xs k ≡ true → k ≤ n) → IsNextIn xs next → next ≡ Some o → after ≡ above o xs → ahead n after < ahead n next
nearer n xs next after o r w i e a = subst (λ (x : Option ℕ). ahead n after < ahead n x) (sym e) (step after a)
  where
    within : o ≤ n
    within = w o (next_in xs next o i e)

    step : (x : Option ℕ) → x ≡ above o xs → ahead n x < n + 1 - o
    step None b = let l = within in omega arith
    step (Some k) b = let m = (above_is o 1 xs k r (sym b)).more in let l = within in omega arith
