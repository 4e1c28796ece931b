use Rattle.std.proofs.Common.{length, ap, arith}
use Rattle.cover_problem.specs.Problem.{ProblemValue}
use Rattle.cover_problem.proofs.RemainingLemmas.{list_in, list_rises}
use Rattle.cover_problem.proofs.WalkLemmas.{above_in}
use Rattle.table_probe.proofs.WalkLemmas.{next_in, nearer}
use Rattle.table_probe.proofs.words.Words.cover.Goals as goal

pub first_option-next-requires : goal.first_option-next-requires
first_option-next-requires g c =
    let same = ap (λ (p : ProblemValue). length p.names) c.requires.serves.same in
    let some = c.requires.serves.some in
    let within = c.requires.serves.within in
    record { some = omega arith; within = omega arith }

pub loop-next-init : goal.loop-next-init
loop-next-init g c = record { words = c.requires.words; next = above_in _ _ _ c.first_option-next.ensures }

pub lose-requires : goal.lose-requires
lose-requires g c =
    let i = list_in _ _ _ _ (next_in _ _ _ c.loop-next.invariant.next c.in-Some.is) in
    let same = ap (λ (p : ProblemValue). length p.options) c.requires.serves.same in
    let some = i.1 in
    let within = i.2 in
    record { words = c.loop-next.invariant.words; some = omega arith; within = omega arith }

pub next_option-next-requires : goal.next_option-next-requires
next_option-next-requires g c = next_in _ _ _ c.loop-next.invariant.next c.in-Some.is

pub loop-next-preserved : goal.loop-next-preserved
loop-next-preserved g c = record { words = c.lose.ensures; next = above_in _ _ _ c.next_option-next.ensures }

pub loop-next-smaller : goal.loop-next-smaller
loop-next-smaller g c =
    nearer _ _ _ _ _ (list_rises _ _ _) (λ k h. (list_in _ _ _ k h).2) c.loop-next.invariant.next c.in-Some.is c.next_option-next.ensures
