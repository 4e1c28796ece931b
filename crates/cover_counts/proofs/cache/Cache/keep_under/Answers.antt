use Rattle.cover_counts.specs.Kept.{AreSoundSlots}
use Rattle.cover_counts.proofs.KeptLemmas.{copy_tells}
use Rattle.cover_counts.proofs.cache.Cache.keep_under.Goals as goal
use Rattle.cover_counts.proofs.cache.Cache.keep_under.Goals.{then-len-capacity, else-len-capacity}

pub returns-then-place-len : goal.returns-then-place-len
returns-then-place-len c = λ p a t.
    let s : AreSoundSlots p c.if-len-capacity.self.places.items = elim c.if-len-capacity.branch [ then-len-capacity w ↦ rw (w.self-is, w.grow.ensures) a | else-len-capacity w ↦ rw w.self-is a ] in
    let e = c.fitted.ensures in
    c.replace.ensures p s (copy_tells p _ _ _ (rw c.in-Ok.is at e.visits) (rw c.in-Ok.is at e.low) (rw c.in-Ok.is at e.high) t)

pub returns-else-place-len : goal.returns-else-place-len
returns-else-place-len c = λ p a t.
    let s : AreSoundSlots p c.if-len-capacity.self.places.items = elim c.if-len-capacity.branch [ then-len-capacity w ↦ rw (w.self-is, w.grow.ensures) a | else-len-capacity w ↦ rw w.self-is a ] in
    let e = c.fitted.ensures in
    c.add.ensures p s (copy_tells p _ _ _ (rw c.in-Ok.is at e.visits) (rw c.in-Ok.is at e.low) (rw c.in-Ok.is at e.high) t)
