use Rattle.std.proofs.Common.{ap}
use Rattle.cover_problem.proofs.MapLemmas.{zip_map}
use Rattle.cover_problem.proofs.problem.Problem.copy.Goals as goal

pub invariant_of-result : goal.invariant_of-result
invariant_of-result c =
    let names = zip_map (λ n. n.bytes) _ (λ x y h. ap (λ s. s.bytes) h) c.self.inside.names.keys c.in_ok-names.names.keys c.in_ok-names.ensures.cases in
    rw (names, c.in_ok-options.ensures) c.self.invariant

pub returns : goal.returns
returns c =
    let names = zip_map (λ n. n.bytes) _ (λ x y h. ap (λ s. s.bytes) h) c.self.inside.names.keys c.in_ok-names.names.keys c.in_ok-names.ensures.cases in
    rw (names, c.in_ok-options.ensures) c.self.view_is
