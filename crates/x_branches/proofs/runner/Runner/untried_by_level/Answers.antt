use Rattle.std.proofs.Common.{◌≡◌, ◌++◌, ◌∷◌, [], ℕ, length, sym, ap, ap₂, ◌∙◌, arith}
use Rattle.cover_problem.proofs.PathLemmas.{covered_by_none}
use Rattle.x_branches.specs.Refusals.{untried_in}
use Rattle.x_branches.proofs.LevelLemmas.{untried_below, one_level_more, listed_more}
use Rattle.x_branches.proofs.runner.Runner.untried_by_level.Goals as goal

pub listing-init : goal.listing-init
listing-init g c = record { lists_are = c.new-lists.ensures; count = sym (ap (length {A = ℕ}) (covered_by_none _)) }

pub listing-preserved : goal.listing-preserved
listing-preserved g c =
    listed_more _ _ _ _ _ _ _ c.listing.invariant c.in_ok-untried.ensures c.pass_level-item.ensures.covered
    (c.in_ok-push.ensures.added ∙ ap (λ xs. c.listing.lists ++ xs ∷ []) c.deref-in-listing.ensures.value)

pub returns : goal.returns
returns g c =
    let r = c.args.self.now in
    let last : c.listing.level ≡ length c.path-path.result.now = omega (arith, c.listing-test.false, c.listing.auto.level-end) in
    let size : length c.path-path.result.now ≡ length r.position.path = ap (length {A = ℕ}) c.path-path.ensures in
    let lists = c.listing.invariant.lists_are ∙ ap (untried_below r) (last ∙ size) in
    let options = c.deref-2.ensures.value ∙ c.in_ok-untried-2.ensures ∙ ap (untried_in r) size in
    c.in_ok-push-2.ensures.added ∙ ap₂ (λ xs o. xs ++ o ∷ []) lists options ∙ one_level_more r (length r.position.path)
