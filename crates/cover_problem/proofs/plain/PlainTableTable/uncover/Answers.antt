use Rattle.std.proofs.Common.{◌∙◌, ap, vec_len, vec_capacity, arith}
use Rattle.cover_problem.proofs.TableLemmas.{plain_at, popped, plain_uncovered, times_long}
use Rattle.cover_problem.proofs.CoveredLemmas.{covered_last}
use Rattle.cover_problem.proofs.plain.PlainTableTable.uncover.Goals as goal

pub overflow_sub-item : goal.overflow_sub-item
overflow_sub-item c = let h = plain_at c.self.view_is c.self.invariant in (covered_last c.args.self.now.problem c.requires.0 c.args.item (rw c.requires.1 at h.distinct)).some

pub index_mut-requires : goal.index_mut-requires
index_mut-requires c =
    let h = plain_at c.self.view_is c.self.invariant in
    let q = covered_last c.args.self.now.problem c.requires.0 c.args.item (rw c.requires.1 at h.distinct) in
    let l = times_long h in
    let o = c.self.inside.times.ok.0 in
    let a = q.some in let b = q.within in
    omega arith

pub invariant_of-self : goal.invariant_of-self
invariant_of-self c =
    let same = ap (λ s. s.covered) c.self.view_is in
    plain_uncovered c.self.invariant c.args.item (vec_capacity c.pop.new.self) c.pop.new.self.items
    (popped c.self.inside.covered.items c.requires.0 c.pop.new.self.items c.args.item (vec_len c.self.inside.covered) (same ∙ c.requires.1) c.self.inside.covered.ok.0 c.pop.ensures.rest)
    (let f = c.pop.ensures.capacity in omega arith)
