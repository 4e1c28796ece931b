-- Where a call is refused that gives back what it was given.
use Rattle.std.specs.Prelude.{◌≡◌, Result, IfErr}
use Rattle.cover_problem.specs.declared.fault.Refused.{Refused}

-- where the call is refused with this fault, the claim is true
abbrev pub IfRefused : {X F G : Type 0} → Result X (Refused F G) → F → Type 0 → Type 0
IfRefused result fault claim = IfErr result (λ r. r.fault ≡ fault → claim)
