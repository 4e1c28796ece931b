use Rattle.std.proofs.Common.{◌++◌, ◌∷◌, [], ◌∙◌, ap, sym, refl, append-nil}
use Rattle.x_codes.specs.StateCode.{paths_of, paths_rest}
use Rattle.x_codes.proofs.StateLemmas.{paths_step, paths_after, no_paths, none_after, all_paths, all_after}
use Rattle.x_codes.proofs.reading.read_paths.Goals as goal

pub reading-init : goal.reading-init
unfolding paths_of paths_rest
reading-init c = rw (c.new-path.ensures.items, c.number-left.ensures.number, c.number-left.ensures.rest) (record { paths = refl; rest = refl })

pub returns-in_default-clause-paths : goal.returns-in_default-clause-paths
returns-in_default-clause-paths c =
    sym (append-nil c.reading.paths) ∙ ap (λ l. c.reading.paths ++ l) (sym (no_paths c.reading.left _ _ c.in_default.ensures.0)) ∙ c.reading.invariant.paths

pub returns-in_default-clause-rest : goal.returns-in_default-clause-rest
returns-in_default-clause-rest c = c.in_default.ensures.1 ∙ sym (none_after c.reading.left _ c.in_default.ensures.0) ∙ c.reading.invariant.rest

pub reading-preserved : goal.reading-preserved
reading-preserved c =
    let list = c.in_ok-read_next.ensures.list in
    let pushed = c.in_ok-push.ensures.added ∙ ap (λ l. c.reading.paths ++ l ∷ []) c.deref.ensures.value in
    record {
      paths = rw (pushed, c.in_ok-read_next.ensures.rest)
          (sym (paths_step c.in-Some.n c.reading.left c.reading.paths _ _ _ _ c.in-Some.ensures c.reading-test.true list) ∙ c.reading.invariant.paths);
      rest = rw c.in_ok-read_next.ensures.rest
          (sym (paths_after c.in-Some.n c.reading.left _ _ c.in-Some.ensures c.reading-test.true) ∙ c.reading.invariant.rest);
    }

pub returns-clause-paths : goal.returns-clause-paths
returns-clause-paths c =
    sym (append-nil c.reading.paths) ∙ ap (λ l. c.reading.paths ++ l) (sym (all_paths c.reading.left _ c.reading.reader c.reading-test.false)) ∙ c.reading.invariant.paths

pub returns-clause-rest : goal.returns-clause-rest
returns-clause-rest c = sym (all_after c.reading.left c.reading.reader c.reading-test.false) ∙ c.reading.invariant.rest
