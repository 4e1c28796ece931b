-- What the seats know of one deque, all together.
--
-- Example: of the pushed tickets 7 and 9 one seat took 7, and 9 is left in the deque (computed in proofs/RuleExamples.antt).
use Rattle.std.specs.Prelude.{◌≡◌, ℕ, ◌+◌, ◌==◌, List, [], ◌∷◌, cond}
use Rattle.lab_tickets.specs.declared.rule.Tally.{Tally}

-- what a seat has pushed to a deque, and what it took from it, each in order
abbrev pub tally : List ℕ → List ℕ → Tally
tally pushed taken = record { pushed = pushed; taken = taken }

-- how often a ticket stands in a list
abbrev pub times : ℕ → List ℕ → ℕ
times x [] = 0
times x (y ∷ ys) = cond (x == y) 1 0 + times x ys

-- how often a ticket stands among those that the seats took from the deque
abbrev pub times_taken : ℕ → List Tally → ℕ
times_taken x [] = 0
times_taken x (v ∷ vs) = times x v.taken + times_taken x vs

-- what the deque's owner pushed: its tally comes first
abbrev pub pushed_of : List Tally → List ℕ
pushed_of [] = []
pushed_of (v ∷ vs) = v.pushed

-- how often a ticket stands among them
abbrev pub times_pushed : ℕ → List Tally → ℕ
times_pushed x tallies = times x (pushed_of tallies)

-- the rule: each ticket stands among the owner's pushed ones as often as in the deque and among those that any seat took, together
abbrev pub Balanced : List ℕ → List Tally → Type 0
Balanced items tallies = (x : ℕ) → times x (pushed_of tallies) ≡ times x items + times_taken x tallies

-- what is true of each ticket, wherever the rule holds: of the tickets in the deque and of what its seats did
abbrev pub EachTicket : (List ℕ → List Tally → ℕ → Type 0) → Type 0
EachTicket P = (items : List ℕ) (tallies : List Tally) → Balanced items tallies → (x : ℕ) → P items tallies x

-- the same of an empty deque: of what its seats did
abbrev pub EachTicketOfEmpty : (List Tally → ℕ → Type 0) → Type 0
EachTicketOfEmpty P = (tallies : List Tally) → Balanced [] tallies → (x : ℕ) → P tallies x
