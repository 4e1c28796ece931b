use Rattle.std.proofs.Common.{arith}
use Rattle.cover_problem.proofs.CoveredLemmas.{covered_most}
use Rattle.cover_bits.proofs.table.BitTable.settle.Goals as goal

pub index-requires : goal.index-requires
index-requires c =
    let h = c.self.invariant in
    let m = covered_most c.self.inside.problem.value c.self.inside.covered.items h.distinct in
    let b = h.bases_long in
    let o = c.self.inside.covered.ok.0 in let q = c.self.inside.bases.ok.0 in let e = c.len-depth.ensures in
    omega arith
