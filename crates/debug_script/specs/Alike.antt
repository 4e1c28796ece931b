-- What is said in the place of any sound session that is alike, and left of it.
use Rattle.std.specs.Prelude.{ℕ, List, Result, OnOk}
use Rattle.std.specs.Global.{Vec}
use Rattle.text_lines.specs.Writes.{Writes}
use Rattle.x_debug.specs.Session.{SessionValue}
use Rattle.debug_laws.specs.AlikeSessions.{AreSoundAlike}

-- unless it has an error, a call says what each sound session says that is alike to this one
abbrev pub SaysAlike : {X E : Type 0} → Result X E → Vec ℕ → Vec ℕ → SessionValue → (SessionValue → List ℕ) → Type 0
SaysAlike result old new s said = OnOk result ((f : SessionValue) → AreSoundAlike s f → Writes old new (said f))

-- a session that is left is alike to what is left of each sound session that is alike to the one there was
abbrev pub StaysAlike : SessionValue → SessionValue → (SessionValue → SessionValue) → Type 0
StaysAlike s t left = (f : SessionValue) → AreSoundAlike s f → AreSoundAlike t (left f)
