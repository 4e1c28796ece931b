use Rattle.std.proofs.Common.{◌≡◌, ◌++◌, ◌∷◌, [], None, replicate, ap, ◌∙◌, arith}
use Rattle.lab_world.proofs.WorldLemmas.{replicate_more}
use Rattle.lab_world.proofs.world.without_tiles.Goals as goal

pub loop-made-preserved : goal.loop-made-preserved
loop-made-preserved g c = record {
  all = c.push_reserved.ensures.items ∙ ap (λ xs. xs ++ None ∷ []) c.loop-made.invariant.all ∙ replicate_more c.loop-made.made None;
  room = omega arith;
}

pub returns : goal.returns
returns g c =
    let all : c.loop-made.made ≡ c.args.workers = omega arith in
    c.loop-made.invariant.all ∙ ap (λ k. replicate k None) all
