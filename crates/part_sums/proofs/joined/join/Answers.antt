use Rattle.std.proofs.Common.{◌≡◌, List, Result, Ok, Err, IfOk, ℕ, ◌∙◌}
use Rattle.std.specs.Global.{Vec}
use Rattle.x_snapshot.specs.Snapshot.{SnapshotValue}
use Rattle.part_sums.specs.declared.total.Counted.{Counted}
use Rattle.part_sums.specs.Parts.{CountedPart, IsJoined, EachJoined, sum_text}
use Rattle.part_sums.proofs.JoinLemmas.{one_sum}
use Rattle.part_sums.proofs.RefusalLemmas.{begin_refused, only_memory}
use Rattle.part_sums.proofs.FoundLemmas.{begin_fault_found}
use Rattle.part_sums.proofs.joined.join.Goals as goal

-- the whole that was read is one
some_whole : {E : Type 0} (r : Result (Vec ℕ) E) (text : List ℕ) (v : SnapshotValue) (counted : Counted) → IfOk r (λ lines. (qs : List CountedPart) × IsJoined text v qs × (lines.items ≡ sum_text counted v qs))
    → IfOk r (λ lines. (w : SnapshotValue) × (qs : List CountedPart) × IsJoined text w qs × (lines.items ≡ sum_text counted w qs))
some_whole (Ok lines) text v counted h = (v, h.0, h.1, h.2)
some_whole (Err e) text v counted h = tt

-- whichever whole and parts are named
each_sum : {E : Type 0} (r : Result (Vec ℕ) E) (text : List ℕ) (v : SnapshotValue) (counted : Counted) → IfOk r (λ lines. (qs : List CountedPart) × IsJoined text v qs × (lines.items ≡ sum_text counted v qs))
    → EachJoined text (λ w qs. IfOk r (λ lines. lines.items ≡ sum_text counted w qs))
each_sum (Ok lines) text v counted h w qs j = h.2 ∙ one_sum text v w h.0 qs counted h.1 j
each_sum (Err e) text v counted h w qs j = tt

pub returns-in-Err-clause-always : goal.returns-in-Err-clause-always
returns-in-Err-clause-always c = λ v parts j. rw c.in_line.ensures (only_memory c.args.text.now _ (begin_refused c.args.text.now c.in-Err.refusal c.in-Err.ensures) v parts j)

pub returns-in-Err-clause-refused : goal.returns-in-Err-clause-refused
returns-in-Err-clause-refused c = rw c.in_line.ensures (begin_refused c.args.text.now c.in-Err.refusal c.in-Err.ensures)

pub returns-clause-sum : goal.returns-clause-sum
returns-clause-sum c = some_whole c.join_parts.result c.args.text.now _ c.args.counted c.join_parts.ensures.sum

pub returns-clause-every : goal.returns-clause-every
returns-clause-every c = each_sum c.join_parts.result c.args.text.now _ c.args.counted c.join_parts.ensures.sum

pub returns-in-Err-clause-found : goal.returns-in-Err-clause-found
returns-in-Err-clause-found c = rw c.in_line.ensures (begin_fault_found c.args.text.now c.args.counted c.in-Err.refusal c.in-Err.ensures)
