-- Reading the whole input.
use Rattle.std.specs.Prelude.{ℕ, ◌≡◌, ◌+◌, ◌<◌, ◌≤◌, ◌++◌, List, [], ◌∷◌, Some, IfSome, length, ⊤}
use Rattle.std.specs.Io.KnownBytes.{Consumes}
use Rattle.byte_streams.specs.declared.input.InputFault.{InputFault}
use Rattle.byte_streams.specs.declared.input.InputFault.TheVariants.{Failed, PastLimit, OutOfMemory}
use Rattle.byte_streams.specs.Stream.{Stream, HasFailed, IsSound, CountsThen, CountsAlone, StopsAtFailure}

-- the most bytes that are read
abbrev pub most_input : ℕ
most_input = 134217728

-- the bytes that the source had, where they are known, are more than are read
abbrev pub GoesPastLimit : Stream → Type 0
GoesPastLimit s = IfSome s.bytes (λ bytes. most_input < length bytes)

-- the bytes that the source handed out stand behind those that the text had
abbrev pub BringsBytes : Stream → Stream → List ℕ → List ℕ → Type 0
BringsBytes old new before text = (came : List ℕ) × (text ≡ before ++ came) × Consumes old.bytes new.bytes came

-- the text is all that the source had, where that is known
abbrev pub IsAllOf : List ℕ → Stream → Type 0
IsAllOf text s = IfSome s.bytes (λ bytes. text ≡ bytes)

-- why the input of a source was not read
abbrev pub StopsReading : Stream → Stream → InputFault → Type 0
StopsReading old new Failed = HasFailed new
StopsReading old new PastLimit = GoesPastLimit old × IsSound old new
StopsReading old new OutOfMemory = IsSound old new

-- each read told some bytes but the last, which told the end: none followed the one that told it
abbrev pub StopsAtEnd : Stream → Stream → Type 0
StopsAtEnd old new = CountsThen old.answers new.answers (Some 0 ∷ [])

-- where the input was not read, no read followed one that failed, and none had told the end
abbrev pub AsksNoMore : Stream → Stream → InputFault → Type 0
AsksNoMore old new Failed = StopsAtFailure old new
AsksNoMore old new PastLimit = CountsAlone old new
AsksNoMore old new OutOfMemory = CountsAlone old new

-- the bytes that the source handed out, where they are known, are no more than are read
abbrev pub StaysWithinLimit : Stream → Stream → Type 0
StaysWithinLimit old new = (came : List ℕ) × Consumes old.bytes new.bytes came × (length came ≤ most_input)

-- memory is told to be refused only where the bytes that came are within the limit
abbrev pub LacksMemoryWithin : Stream → Stream → InputFault → Type 0
LacksMemoryWithin old new OutOfMemory = StaysWithinLimit old new
LacksMemoryWithin old new _ = ⊤

-- why a read stopped, where so many bytes had come before it: a failure, more bytes than are read, or want of memory for no more
abbrev pub StopsAfter : ℕ → Stream → Stream → InputFault → Type 0
StopsAfter n old new Failed = HasFailed new
StopsAfter n old new PastLimit =
    ((came : List ℕ) × Consumes old.bytes new.bytes came × (most_input < n + length came)) × IsSound old new
StopsAfter n old new OutOfMemory =
    ((came : List ℕ) × Consumes old.bytes new.bytes came × (n + length came ≤ most_input)) × IsSound old new
