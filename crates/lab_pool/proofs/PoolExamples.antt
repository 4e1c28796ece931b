-- The examples of specs/Faults.antt and specs/Pool.antt, on the small problem.
use Rattle.std.proofs.Common.{◌≡◌, ◌<◌, ℕ, suc, true, false, Some, None, Option, List, [], ◌∷◌, length, Result, Err, inl, inr, codes, refl, ap, arith}
use Rattle.x_steps.specs.StateValue.{done}
use Rattle.x_branches.specs.Branch.{first_of}
use Rattle.lab_book.specs.declared.status.Status.TheVariants.{Waiting, Held, Leased}
use Rattle.lab_history.specs.declared.grant.Grant.{Grant}
use Rattle.lab_history.specs.declared.entry.Call.{Call}
use Rattle.lab_history.specs.declared.entry.Call.TheVariants as call
use Rattle.lab_history.specs.declared.entry.Reply.{Reply}
use Rattle.lab_history.specs.declared.entry.Reply.TheVariants as reply
use Rattle.lab_history.specs.declared.entry.Entry.{Entry}
use Rattle.lab_book.specs.Book.{BookValue, leased_in, waiting_in}
use Rattle.lab_book.specs.Tile.{TileValue}
use Rattle.lab_book_laws.specs.AlikeBooks.{open_tiles, held_tiles}
use Rattle.lab_book_laws.specs.Searched.{searched, ArePoolCalls}
use Rattle.lab_book_laws.proofs.AlikeExamples.{cut, in_two}
use Rattle.cover_problem.specs.declared.fault.Refused.{Refused}
use Rattle.lab_pool.specs.declared.fault.PoolFault.{PoolFault}
use Rattle.lab_pool.specs.declared.fault.PoolFault.TheVariants as faults
use Rattle.lab_pool.specs.Faults.{number_of, name_of}
use Rattle.lab_pool.specs.Pool.{GoesOn, GivenBack, OnlyHeld, IsDone, IsUnexplained, IsBadCount, IfFault, GivesBack, FaultWhere, IfGiven}
use Rattle.lab_pool.specs.Pool.{NoneAt, SomeAt, IfMismatch, LacksThread}

-- ---- specs/Faults.antt

its_number : number_of faults.Held ≡ 3
its_number = refl

its_name : name_of faults.Held ≡ codes "Held"
its_name = refl

-- ---- specs/Pool.antt

-- worker 0's lease of the tile behind the cut 4
abbrev lease : Grant
lease = record { id = 1; worker = 0; index = 0 }

abbrev by_zero : Call → Reply → Entry
by_zero c r = record { worker = 0; call = c; reply = r }

-- it is leased, posted in one stretch, and closed
abbrev entries : List Entry
entries =
    by_zero call.LeaseAny (reply.Leased lease (Some (4 ∷ [])) None (first_of (cut 4)) 0)
    ∷ by_zero (call.Post lease (first_of (cut 4)) done true) (reply.Posted false 0)
    ∷ by_zero (call.Close lease) reply.Done ∷ []

-- the book that is left
abbrev finished : BookValue
finished = record (searched (in_two Waiting)) { history = entries }

goes_on : GoesOn (in_two Waiting) finished
goes_on = record { problem = refl; branch = refl; first = refl; history = refl }

given_back : GivenBack (in_two Waiting) finished
given_back = record { on = goes_on; free = refl }

none_open : OnlyHeld (in_two Waiting) finished
none_open = refl

its_calls : ArePoolCalls entries
its_calls (suc (suc (suc k))) d h = absurd (omega (arith, h))
its_calls _ d h = refl

is_done : IsDone 0 finished
is_done = record { calls = its_calls; none_waits = refl; none_leased = refl }

held_stays_open : OnlyHeld (in_two Held) (searched (in_two Held))
held_stays_open = refl

-- an answer that refuses for a held tile
abbrev held_answer : Result ℕ (Refused PoolFault ℕ)
held_answer = Err (record { fault = faults.Held; given = 0 })

-- a book that has lost its entries doesn't go on
loses_entries : ¬ GoesOn finished (in_two Waiting)
loses_entries h = let e : length {A = Entry} [] ≡ length entries = ap (λ (l : List Entry). length l) h.history in omega (arith, e)

-- with a leased tile no book comes back
still_leased : ¬ GivenBack (in_two Waiting) (in_two (Leased 0 3))
still_leased h = let e : leased_in (in_two (Leased 0 3)).tiles ≡ 0 = h.free in omega (arith, e)

-- 33 workers are too many, and 32 are not
too_many : IsBadCount 33
too_many = inr (omega arith)

enough : ¬ IsBadCount 32
enough (inl e) = omega arith
enough (inr l) = omega arith

-- where a tile is held, the call isn't refused for what can't be
not_there : ¬ FaultWhere held_answer faults.Held ⊥
not_there h = h.0 refl

-- nor is it refused for a thread
no_other : ¬ FaultWhere held_answer faults.NoThread Unit
no_other h = let e : number_of faults.Held ≡ number_of faults.NoThread = ap number_of (h.1 tt) in omega (arith, e)

-- a tile that waits is more than what was held
one_waits : ¬ OnlyHeld (in_two Waiting) (in_two Waiting)
one_waits h =
    let e : length (open_tiles (in_two Waiting).tiles) ≡ length (held_tiles (in_two Waiting).tiles) = ap (length {A = TileValue}) h in
    omega (arith, e)

-- and a pool isn't done with it
not_done : ¬ IsDone 0 (in_two Waiting)
not_done h = let e : waiting_in (in_two Waiting).tiles ≡ 0 = h.none_waits in omega (arith, e)

-- a leased tile isn't explained, even if memory and a thread were refused
unexplained : IsUnexplained 0 true true (in_two (Leased 0 3))
unexplained = let some : 0 < leased_in (in_two (Leased 0 3)).tiles = omega arith in inl (inl some)

-- what a pool is done with is
explained : ¬ IsUnexplained 0 false false finished
explained (inl (inl l)) = let none : 0 < leased_in finished.tiles = l in omega (arith, none)
explained (inl (inr other)) = other its_calls
explained (inr w) = let none : 0 < waiting_in finished.tiles = w.0 in omega (arith, none)

-- answers that refuse for a held tile, or since the tiles aren't explained, and give something back, or nothing
abbrev refused_with : PoolFault → Option ℕ → Result ℕ (Refused PoolFault (Option ℕ))
refused_with fault given = Err (record { fault = fault; given = given })

-- the number that came back, or 9
abbrev number_given : Option ℕ → ℕ
number_given None = 9
number_given (Some n) = n

-- at Held something comes back, and it is what was handed in
not_another : ¬ GivesBack (refused_with faults.Held (Some 0)) 1
not_another h = let e : 0 ≡ 1 = ap number_given (h (λ f. absurd (cc))) in omega (arith, e)

-- nothing else may come back at that fault
not_of_another : ¬ IfFault (refused_with faults.Held (Some 0)) faults.Held (λ n. n ≡ 1)
not_of_another h = let e : 0 ≡ 1 = h refl in omega (arith, e)

-- nor at any fault
not_given : ¬ IfGiven (refused_with faults.Held (Some 0)) (λ n. n ≡ 1)
not_given h = let e : 0 ≡ 1 = h in omega (arith, e)

-- where something came back, it isn't so that nothing did
some_came : ¬ NoneAt (refused_with faults.Held (Some 0)) faults.Held
some_came h = let e : 0 ≡ 9 = ap number_given (h refl) in omega (arith, e)

-- and where nothing came back, it isn't so that something did
none_came : ¬ SomeAt (refused_with faults.Held None) faults.Held
none_came h = h refl refl

-- a Mismatch isn't told for what can't be
not_mismatched : ¬ IfMismatch (refused_with faults.Mismatch None) ⊥
not_mismatched h = h refl

-- where memory was refused, it isn't a thread that was lacking
memory_too : ¬ LacksThread true true
memory_too h = let e : true ≡ false = h.0 in absurd (cc)
