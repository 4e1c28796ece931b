use Rattle.std.proofs.Common.{subst, arith}
use Rattle.poly_distinct.specs.UpTo.{PartValue, IsPart, part_problem}
use Rattle.poly_distinct.proofs.PartLemmas.{cover_at, within_at, paths_more}
use Rattle.poly_distinct.proofs.part.AnchorPart.whole_paths.Goals as goal

pub whole_path-requires : goal.whole_path-requires
whole_path-requires c =
    let m = subst (λ (a : PartValue). IsPart a c.self.inside.moves c.self.inside.numbers.items c.self.inside.problem) c.self.view_is c.self.invariant in
    within_at c.args.self.now m.sound c.self.inside.numbers.items _ _ m.numbers_are c.as_slice.ensures.value
    (cover_at (part_problem c.args.self.now) c.args.visits.now c.loop-k.k _ c.requires (let t = c.loop-k-test.true in let e = c.len-k-end.ensures in omega (arith, t, e)) c.list.ensures)

pub loop-k-preserved : goal.loop-k-preserved
loop-k-preserved c =
    let m = subst (λ (a : PartValue). IsPart a c.self.inside.moves c.self.inside.numbers.items c.self.inside.problem) c.self.view_is c.self.invariant in
    paths_more c.args.self.now c.self.inside.numbers.items _ m.numbers_are c.as_slice.ensures.value c.args.visits.now c.loop-k.k _ _ _ _ _ (let t = c.loop-k-test.true in let e = c.len-k-end.ensures in omega (arith, t, e))
    c.list.ensures c.in_ok-path.ensures c.as_slice-in-loop-k.ensures.value c.loop-k.invariant c.in_ok-push.ensures.added
