-- What a contract sees of a source or a sink of bytes, and what happens to it.
use Rattle.std.specs.Prelude.{ℕ, ◌≡◌, ◌<◌, ◌⊎◌, Bool, true, List, [], ◌∷◌, ◌++◌, All, map, Option, Some, None, is_none, Result, take}
use Rattle.std.specs.List.{list_any}
use Rattle.std.specs.Result.{result_ok}
use Rattle.std.specs.Io.KnownBytes.{Appends, Keeps, ReadConsumes, WriteAppends}

-- the bytes that a source has left or a sink holds, where they are known, whether a read or a write has failed, and of each
-- answer so far how many bytes it told, or none where it was a failure
pub record Stream : Type 0 where
  pub bytes : Option (List ℕ)
  pub failed : Bool
  pub answers : List (Option ℕ)

-- a read of this source, or a write to this sink, has failed
abbrev pub HasFailed : Stream → Type 0
HasFailed s = s.failed ≡ true

-- one of the answers was a failure
abbrev pub has_failure : List (Option ℕ) → Bool
has_failure answers = list_any is_none answers

-- a stream has failed where one of its answers was a failure, and nowhere else
abbrev pub IsToldByAnswers : Stream → Type 0
IsToldByAnswers s = s.failed ≡ has_failure s.answers

-- how many bytes this answer tells, or that it is a failure, is noted behind the others
abbrev pub NotesCount : {E : Type 0} → List (Option ℕ) → List (Option ℕ) → Result ℕ E → Type 0
NotesCount old new answer = new ≡ old ++ result_ok answer ∷ []

-- there is one answer more, which is the one that was handed out
abbrev pub AnswersOnce : {E : Type 0} → Stream → Stream → Result ℕ E → Type 0
AnswersOnce old new answer = NotesCount old.answers new.answers answer

-- behind the old answers stand some counts of bytes above 0, and then these
abbrev pub CountsThen : List (Option ℕ) → List (Option ℕ) → List (Option ℕ) → Type 0
CountsThen old new last = (counts : List ℕ) × All (λ n. 0 < n) counts × (new ≡ old ++ (map Some counts ++ last))

-- each call told some bytes: none failed, and none told that there are no more
abbrev pub CountsAlone : Stream → Stream → Type 0
CountsAlone old new = CountsThen old.answers new.answers []

-- each call told some bytes but the last, which failed: none followed the one that failed
abbrev pub StopsAtFailure : Stream → Stream → Type 0
StopsAtFailure old new = CountsThen old.answers new.answers (None ∷ [])

-- the bytes that were read are gone from the source
abbrev pub LosesRead : {E : Type 0} → Stream → Stream → Result ℕ E → List ℕ → Type 0
LosesRead old new answer chunk = ReadConsumes old.bytes new.bytes answer chunk

-- the bytes that were written are behind those that the sink had
abbrev pub GainsWritten : {E : Type 0} → Stream → Stream → Result ℕ E → List ℕ → Type 0
GainsWritten old new answer text = WriteAppends old.bytes new.bytes answer text

-- no call failed from old to new
abbrev pub IsSound : Stream → Stream → Type 0
IsSound old new = new.failed ≡ old.failed

-- old and new are the same to a reader
abbrev pub Stays : Stream → Stream → Type 0
Stays old new = Keeps old.bytes new.bytes × IsSound old new

-- the sink took the whole text
abbrev pub TakesAll : Stream → Stream → List ℕ → Type 0
TakesAll old new text = Appends old.bytes new.bytes text × IsSound old new

-- the sink failed, and took a beginning of the text
abbrev pub TakesPart : Stream → Stream → List ℕ → Type 0
TakesPart old new text = ((n : ℕ) × Appends old.bytes new.bytes (take n text)) × HasFailed new

-- the text was written: it is whole unless the sink failed
abbrev pub Takes : Stream → Stream → List ℕ → Type 0
Takes old new text = TakesAll old new text ⊎ TakesPart old new text
