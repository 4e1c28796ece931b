use Rattle.std.proofs.Common.{◌-◌, ◌∙◌, ap, sym, refl, [], length, arith}
use Rattle.x_codes.specs.StateCode.{paths_at, paths_of, paths_rest}
use Rattle.x_codes.proofs.StateLemmas.{paths_after, paths_count, no_paths, none_after, all_paths, all_after}
use Rattle.x_codes.proofs.reading.skip_paths.Goals as goal

pub skipping-init : goal.skipping-init
unfolding paths_of paths_rest
skipping-init c = record {
  within = omega arith;
  count = rw (c.number-told.ensures.number, c.number-told.ensures.rest) refl;
  rest = rw (c.number-told.ensures.number, c.number-told.ensures.rest) refl;
}

pub returns-in_default-clause-count : goal.returns-in_default-clause-count
returns-in_default-clause-count c =
    let n = ap length (no_paths c.skipping.left [] _ c.in_default.ensures.0) in
    let s = c.skipping.invariant.count in
    omega (arith, c.skipping.invariant.within)

pub returns-in_default-clause-rest : goal.returns-in_default-clause-rest
returns-in_default-clause-rest c = c.in_default.ensures.1 ∙ sym (none_after c.skipping.left _ c.in_default.ensures.0) ∙ c.skipping.invariant.rest

pub skipping-preserved : goal.skipping-preserved
skipping-preserved c = record {
  within = omega (arith, c.skipping.invariant.within);
  count =
      let n = paths_count c.in-Some.n c.skipping.left _ _ c.in-Some.ensures c.skipping-test.true in
      let e = ap (λ l. length (paths_at (c.skipping.left - 1) [] l)) c.skip_next.ensures in
      let s = c.skipping.invariant.count in
      omega (arith, c.skipping-test.true);
  rest = rw c.skip_next.ensures
      (sym (paths_after c.in-Some.n c.skipping.left _ _ c.in-Some.ensures c.skipping-test.true) ∙ c.skipping.invariant.rest);
}

pub returns-clause-count : goal.returns-clause-count
returns-clause-count c =
    let n = ap length (all_paths c.skipping.left [] c.skipping.reader c.skipping-test.false) in
    let s = c.skipping.invariant.count in
    omega (arith, c.skipping-test.false)

pub returns-clause-rest : goal.returns-clause-rest
returns-clause-rest c = sym (all_after c.skipping.left c.skipping.reader c.skipping-test.false) ∙ c.skipping.invariant.rest
