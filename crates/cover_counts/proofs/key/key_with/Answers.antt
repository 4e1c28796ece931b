use Rattle.cover_counts.proofs.KeyLemmas.{ok_key}
use Rattle.cover_counts.proofs.key.key_with.Goals as goal

pub returns-in-Some : goal.returns-in-Some
returns-in-Some c = λ d key. rw c.ok.ensures.value (ok_key _ _ _ (c.longer_key.ensures d (rw c.deref.ensures.value (rw c.in-Some.is at key))))
