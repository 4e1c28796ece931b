use Rattle.std.proofs.Common.{arith}
use Rattle.x_steps.proofs.MachineLemmas.{retries, retry_option_in, others_count, can_uncover, mid_some, mid_has, cursor_in, goes, kept_at}
use Rattle.x_steps.proofs.machine.Machine.retry.Goals as goal

pub option-requires : goal.option-requires
option-requires g c = let w = retry_option_in _ _ _ _ _ _ _ (cursor_in c.self.view_is c.requires.cursor) (kept_at c.self.view_is c.requires.label c.self.invariant) in record { some = w.0; within = w.1 }

pub overflow_sub-others : goal.overflow_sub-others
overflow_sub-others g c = let count = others_count _ _ _ _ _ _ _ (cursor_in c.self.view_is c.requires.cursor) (kept_at c.self.view_is c.requires.label c.self.invariant) in rw c.option.ensures (omega arith)

pub uncover_last-requires : goal.uncover_last-requires
uncover_last-requires g c =
    can_uncover _ _ _ _ _ _ _ (cursor_in c.self.view_is c.requires.cursor) c.option.ensures (kept_at c.self.view_is c.requires.label c.self.invariant)

pub last_covered-item-requires : goal.last_covered-item-requires
last_covered-item-requires g c =
    mid_some _ _ _ _ _ _ _ (cursor_in c.self.view_is c.requires.cursor) _ c.option.ensures c.uncover_last.ensures.covered (kept_at c.self.view_is c.requires.label c.self.invariant)

pub next_option-requires : goal.next_option-requires
next_option-requires g c =
    mid_has _ _ _ _ _ _ _ (cursor_in c.self.view_is c.requires.cursor) _ c.option.ensures c.uncover_last.ensures.covered _ _ c.last_covered-item.ensures c.uncover_last.ensures.same_problem (kept_at c.self.view_is c.requires.label c.self.invariant)

pub invariant_of-self : goal.invariant_of-self
invariant_of-self g c =
    rw c.go.ensures (retries _ _ _ _ _ _ _ (cursor_in c.self.view_is c.requires.cursor) _ c.option.ensures c.uncover_last.ensures.covered _ _ _ _ c.last_covered-item.ensures c.uncover_last.ensures.same_problem c.next_option.ensures c.cursor_at-cursor.ensures (kept_at c.self.view_is c.requires.label c.self.invariant)).keeps

pub returns : goal.returns
returns g c =
    rw c.go.ensures (goes c.self.view_is c.requires.label (retries _ _ _ _ _ _ _ (cursor_in c.self.view_is c.requires.cursor) _ c.option.ensures c.uncover_last.ensures.covered _ _ _ _ c.last_covered-item.ensures c.uncover_last.ensures.same_problem c.next_option.ensures c.cursor_at-cursor.ensures (kept_at c.self.view_is c.requires.label c.self.invariant)))
