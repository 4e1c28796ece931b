-- The fault that is found in a cover text is the one of the first line with a fault, or that no line is an `items` line.
use Rattle.std.proofs.Common.{◌≡◌, ◌<◌, inl, inr, ◌⊎◌, ℕ, List, true, false, nat_lt, Result, Ok, Err, sym, refl, arith, ltb-false, le-ltb}
use Rattle.text_lines.specs.Lines.{lines_of}
use Rattle.text_lines.specs.Reading.{IsFirstFault, IsFaultOfWhole}
use Rattle.text_lines.proofs.ResultLemmas.{err_is, no_value, chosen}
use Rattle.text_lines.proofs.FirstFaultLemmas as first_faults
use Rattle.cover_problem.specs.declared.fault.Fault.{Fault}
use Rattle.cover_problem.specs.declared.fault.Fault.TheVariants.{NoItemLine}
use Rattle.cover_problem.specs.Problem.{ProblemValue}
use Rattle.cover_problem.specs.Reading.{nothing, line, with_items, problem_of, LacksItems}

pub first_fault : (text : List ℕ) (f : Fault) (n : ℕ) → 0 < n → problem_of text ≡ Err (f, n) → IsFirstFault line nothing (lines_of text) f n
unfolding problem_of
first_fault text f n some h = first_faults.first_fault line nothing with_items (lines_of text) f n some h

pub from_first_fault : (text : List ℕ) (f : Fault) (n : ℕ) → IsFirstFault line nothing (lines_of text) f n → problem_of text ≡ Err (f, n)
unfolding problem_of
from_first_fault text f n first = first_faults.from_first_fault line nothing with_items (lines_of text) f n first

-- the whole text has a fault where it has no primary item
without_items : (p : ProblemValue) (f : Fault) → with_items p ≡ Err f → (f ≡ NoItemLine) × (p.primary ≡ 0)
without_items p f h = by (chosen (nat_lt 0 p.primary) (Ok p) (Err NoItemLine) (Err f) h)
  where
    by : ((nat_lt 0 p.primary ≡ true) × (◌≡◌ {A = Result ProblemValue Fault} (Ok p) (Err f))) ⊎ ((nat_lt 0 p.primary ≡ false) × (◌≡◌ {A = Result ProblemValue Fault} (Err NoItemLine) (Err f))) → (f ≡ NoItemLine) × (p.primary ≡ 0)
    by (inl e) = absurd (no_value p f e.1)
    by (inr e) = let l = ltb-false 0 p.primary e.0 in (sym (err_is NoItemLine f e.1), omega arith)

pub whole_fault : (text : List ℕ) (f : Fault) → problem_of text ≡ Err (f, 0) → (f ≡ NoItemLine) × LacksItems text
unfolding problem_of
whole_fault text f h = step (first_faults.whole_fault line nothing with_items (lines_of text) f h)
  where
    step : IsFaultOfWhole line nothing with_items (lines_of text) f → (f ≡ NoItemLine) × LacksItems text
    step (p, n, read, e) = let w = without_items p f e in (w.0, (p, n, read, w.1))

pub from_whole_fault : (text : List ℕ) (f : Fault) → (f ≡ NoItemLine) × LacksItems text → problem_of text ≡ Err (f, 0)
unfolding problem_of
from_whole_fault text f (e, (p, n, read, none)) =
    let l : nat_lt 0 p.primary ≡ false = le-ltb 0 p.primary (omega arith) in
    let w : with_items p ≡ Err f = rw (e, l) refl in
    first_faults.from_whole_fault line nothing with_items (lines_of text) f (p, n, read, w)
