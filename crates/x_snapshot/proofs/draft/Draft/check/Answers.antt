use Rattle.std.proofs.Common.{◌≡◌, Ok, Err, OnOk, subst, refl}
use Rattle.std.specs.Prelude.{IfErr}
use Rattle.x_snapshot.specs.declared.fault.SnapshotFault.TheVariants.{OutOfMemory}
use Rattle.x_snapshot.specs.Snapshot.{SnapshotValue, parts_value}
use Rattle.x_snapshot.specs.Judged.{judged_parts}
use Rattle.x_snapshot.proofs.JudgedLemmas.{judged_sound, judged_fault}
use Rattle.x_snapshot.proofs.draft.Draft.check.Goals as goal

pub returns-clause-sound : goal.returns-clause-sound
returns-clause-sound c =
    subst (λ (v : SnapshotValue). OnOk c.check_position.result (judged_parts v ≡ Ok v)) c.self.view_is
    (judged_sound c.check_position.result c.self.inside.problem
    (parts_value c.self.inside.problem c.self.inside.lo c.self.inside.hi c.self.inside.state c.self.inside.breaks.items) refl
    c.check_position.ensures.on_run c.check_position.ensures.inside)

pub returns-clause-fault : goal.returns-clause-fault
returns-clause-fault c =
    subst (λ (v : SnapshotValue). IfErr c.check_position.result (λ f. (f ≡ OutOfMemory → ⊥) → judged_parts v ≡ Err f)) c.self.view_is
    (judged_fault c.check_position.result c.self.inside.problem
    (parts_value c.self.inside.problem c.self.inside.lo c.self.inside.hi c.self.inside.state c.self.inside.breaks.items) refl
    c.check_position.ensures.refused)
