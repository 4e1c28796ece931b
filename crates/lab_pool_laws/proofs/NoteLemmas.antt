-- What can't be noted.
use Rattle.std.proofs.Common.{◌≡◌, ℕ, List, [], ◌∷◌, ◌++◌, map, ap, sym, ◌∙◌, Result, Ok, Err}
use Rattle.std.specs.Prelude.{OnOk}
use Rattle.std.proofs.lemmas.List.{append_cancel_left}
use Rattle.lab_history.specs.declared.grant.Grant.{Grant}
use Rattle.lab_history.specs.declared.entry.Call.TheVariants as call
use Rattle.lab_history.specs.declared.entry.Reply.TheVariants as reply
use Rattle.lab_history.specs.declared.kind.CallKind.{CallKind}
use Rattle.lab_history.specs.declared.kind.CallKind.TheVariants as kind
use Rattle.lab_history.specs.Kinds.{kind_of}
use Rattle.lab_desk.specs.declared.seat.Noted.{Noted}
use Rattle.lab_desk.specs.Record.{SeatValue, Notes, noted, call_entry}

-- no list of notes ends in one if it is empty
none_last : (before : List Noted) (n : Noted) → [] ≡ before ++ n ∷ [] → ⊥
none_last [] n e = absurd (cc)
none_last (m ∷ before) n e = absurd (cc)

pub nothing_noted : (s : SeatValue) (g : Grant) (i : ℕ) (before : List Noted) → s.notes ≡ [] → Notes i before s.notes s.number (call.Abandon g) reply.Done → ⊥
nothing_noted s g i before none n = none_last before (noted i (call_entry s.number (call.Abandon g) reply.Done)) (sym none ∙ n)

-- what the calls of notes ask for
abbrev asked : List Noted → List CallKind
asked ns = map (λ (n : Noted). kind_of n.entry.call) ns

parked_alone
    : (old new : SeatValue) (g : Grant) (i j : ℕ) → Notes i old.notes new.notes old.number (call.Park g) reply.Done
    → Notes j old.notes new.notes old.number (call.Close g) reply.Done → ⊥
parked_alone old new g i j parked closed =
    let same = append_cancel_left old.notes (noted i (call_entry old.number (call.Park g) reply.Done) ∷ []) (noted j (call_entry old.number (call.Close g) reply.Done) ∷ []) (sym parked ∙ closed) in
    let e : kind.Park ∷ [] ≡ kind.Close ∷ [] = ap asked same in
    absurd (cc)

pub parked_then
    : (old new : SeatValue) (g : Grant) (i j n : ℕ) (result : Result ℕ ℕ) → result ≡ Ok n
    → Notes i old.notes new.notes old.number (call.Park g) reply.Done → OnOk result (Notes j old.notes new.notes old.number (call.Close g) reply.Done) → ⊥
parked_then old new g i j n (Ok m) is parked closed = parked_alone old new g i j parked closed
parked_then old new g i j n (Err f) is parked closed = absurd (cc)
