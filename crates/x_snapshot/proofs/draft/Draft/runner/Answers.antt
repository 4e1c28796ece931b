use Rattle.std.proofs.Common.{◌≡◌, Ok, Err, OnOk, subst, sym, ap, ◌∙◌}
use Rattle.std.specs.Prelude.{IfErr}
use Rattle.x_snapshot.specs.declared.fault.SnapshotFault.TheVariants.{OutOfMemory}
use Rattle.x_snapshot.specs.Snapshot.{SnapshotValue, parts_value}
use Rattle.x_snapshot.specs.Judged.{judged_parts}
use Rattle.x_snapshot.proofs.JudgedLemmas.{judged_sound, judged_fault}
use Rattle.x_snapshot.proofs.draft.Draft.runner.Goals as goal

pub returns-clause-sound : goal.returns-clause-sound
returns-clause-sound g c =
    subst (λ (v : SnapshotValue). OnOk c.runner_at.result (judged_parts v ≡ Ok v)) c.self.view_is
    (judged_sound c.runner_at.result c.args.problem.now
    (parts_value c.self.inside.problem c.self.inside.lo c.self.inside.hi c.self.inside.state c.self.inside.breaks.items) (sym (ap (λ (v : SnapshotValue). v.problem) c.self.view_is ∙ c.requires))
    c.runner_at.ensures.on_run c.runner_at.ensures.inside)

pub returns-clause-fault : goal.returns-clause-fault
returns-clause-fault g c =
    subst (λ (v : SnapshotValue). IfErr c.runner_at.result (λ f. (f ≡ OutOfMemory → ⊥) → judged_parts v ≡ Err f)) c.self.view_is
    (judged_fault c.runner_at.result c.args.problem.now
    (parts_value c.self.inside.problem c.self.inside.lo c.self.inside.hi c.self.inside.state c.self.inside.breaks.items) (sym (ap (λ (v : SnapshotValue). v.problem) c.self.view_is ∙ c.requires))
    c.runner_at.ensures.refused)
