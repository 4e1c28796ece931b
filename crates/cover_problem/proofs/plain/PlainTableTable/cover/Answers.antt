use Rattle.std.proofs.Common.{◌∙◌, ap, length, vec_capacity, arith}
use Rattle.shared_words.specs.Lists.{has}
use Rattle.cover_problem.proofs.TableLemmas.{plain_at, plain_covered, times_long, covered_short}
use Rattle.cover_problem.proofs.CoveredLemmas.{covered_room}
use Rattle.cover_problem.proofs.plain.PlainTableTable.cover.Goals as goal

pub overflow_cast-time : goal.overflow_cast-time
overflow_cast-time c =
    let h = c.self.invariant in
    let s = covered_short c.self.inside.problem.value c.self.inside.covered.items h.sound h.distinct in
    let a = s.0 in let b = s.1 in
    let e = c.len-time.ensures in
    let o = c.self.inside.covered.ok.0 in
    omega arith

pub index_mut-requires : goal.index_mut-requires
index_mut-requires c =
    let l = times_long (plain_at c.self.view_is c.self.invariant) in
    let o = c.self.inside.times.ok.0 in
    let r = c.requires.some in let w = c.requires.within in
    omega arith

pub push_within-requires : goal.push_within-requires
push_within-requires c =
    let h = plain_at c.self.view_is c.self.invariant in
    let r = covered_room c.args.self.now.problem c.args.self.now.covered c.args.item h.distinct (record { some = c.requires.some; within = c.requires.within; uncovered = c.requires.uncovered }) in
    let f = h.fits in
    let same = ap (λ s. length s.covered) c.self.view_is in
    let o = c.self.inside.covered.ok.0 in
    omega arith

pub invariant_of-self : goal.invariant_of-self
invariant_of-self c =
    let names = ap (λ s. length s.problem.names) c.self.view_is in
    let covered = ap (λ s. has s.covered c.args.item) c.self.view_is in
    let w = c.requires.within in
    plain_covered c.self.invariant c.args.item c.len-time.result (vec_capacity c.push_within.new.items) c.push_within.new.items.items
    c.requires.some (omega arith) (covered ∙ c.requires.uncovered) (c.len-time.ensures ∙ c.self.inside.covered.ok.0) c.push_within.ensures.items c.push_within.ensures.room
