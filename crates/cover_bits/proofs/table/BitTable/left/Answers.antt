use Rattle.std.proofs.Common.{ap, arith, length, subst, take_all}
use Rattle.cover_bits.specs.Parts.{words_for}
use Rattle.cover_bits.specs.Bits.{AreLeftBut}
use Rattle.cover_bits.proofs.table.BitTable.left.Goals as goal

pub left_at-requires : goal.left_at-requires
left_at-requires c =
    let f = ap (λ s. length s.covered) c.self.view_is in
    let o = c.self.inside.covered.ok.0 in let e = c.len.ensures in
    omega arith

pub returns : goal.returns
returns c =
    let f = ap (λ s. length s.covered) c.self.view_is in
    let o = c.self.inside.covered.ok.0 in let e = c.len.ensures in
    subst (λ x. AreLeftBut c.args.self.now.problem x (words_for (length c.args.self.now.problem.options)) c.left_at.result.0.now c.left_at.result.1.now)
    (take_all c.len.result c.args.self.now.covered (omega arith)) c.left_at.ensures
