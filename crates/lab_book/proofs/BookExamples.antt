-- The examples of tiles, books and their counts, computed on the small problem: c e, a d g, b c f, a d f, b g, d e g. Its
-- item a has the options 2 and 4, and 4 5 1 is its one visit.
use Rattle.std.proofs.Common.{◌≡◌, ℕ, zero, suc, ◌<◌, ◌≤◌, true, false, None, List, [], ◌∷◌, slice_index, refl, arith}
use Rattle.cover_problem.specs.Covering.{active, remaining, choice}
use Rattle.cover_problem.specs.Path.{IsValid, taken, covered_by}
use Rattle.cover_problem.proofs.CoverExamples.{small}
use Rattle.x_steps.specs.declared.state.Label.TheVariants.{X2, X3, X5, X8, Done}
use Rattle.x_steps.specs.declared.state.Cursor.TheVariants as cursor
use Rattle.x_steps.specs.declared.state.Cursor.TheVariants.{At}
use Rattle.x_steps.specs.StateValue.{StateValue, at, start, done}
use Rattle.x_steps.specs.Steps.{Fits, next}
use Rattle.x_steps.specs.Run.{after, ReachesIn, steps_between, visits_between, levels}
use Rattle.x_steps.specs.Levels.{without_last_zeros, trimmed_levels}
use Rattle.x_steps.specs.Rank.{rank}
use Rattle.x_steps.proofs.RunLemmas.{steps_between_is}
use Rattle.x_steps.proofs.StretchLemmas.{steps_between_none}
use Rattle.x_branches.specs.Cut.{cut_state}
use Rattle.x_branches.specs.Branch.{whole_run}
use Rattle.x_branches.specs.RunOrder.{comes_before}
use Rattle.x_branches.specs.Stretch.{StretchValue}
use Rattle.lab_book.specs.declared.status.Status.TheVariants.{Waiting, Held, Leased}
use Rattle.lab_history.specs.declared.grant.Grant.{Grant}
use Rattle.lab_history.specs.declared.fault.BookFault.TheVariants.{UnknownBranch, StaleLease, NotAtEnd}
use Rattle.lab_history.specs.declared.entry.Call.TheVariants as call
use Rattle.lab_history.specs.declared.entry.Reply.TheVariants as reply
use Rattle.lab_book.specs.States.{same_state}
use Rattle.lab_book.specs.Tile.{TileValue, is_lease, freed_status, mark_of, tile_end}
use Rattle.lab_book.specs.Tiling.{tile_at, no_tile, AreNumbered}
use Rattle.lab_book.specs.Book.{BookValue, new_book, outcome, book_step, split, waiting_in, leased_in}
use Rattle.lab_book.specs.Calls.{Made, next_entry, is_current}
use Rattle.lab_book.specs.Posted.{posted_count, posted_visits, posted_steps, posted_levels}
use Rattle.lab_book.specs.Index.{AreLeast, WaitFrom}
use Rattle.lab_book.specs.Totals.{of_visits, of_steps, of_level, measured_of}

-- ---- specs/Tile.antt

-- two steps on from X1
abbrev two_on : StateValue
two_on = at X3 [] cursor.None

-- a tile of the whole run, of which these stretches are posted
abbrev tile_of : List StretchValue → TileValue
tile_of xs = record { id = 0; branch = whole_run; status = Waiting; stop = false; first = start; stretches = xs }

first_mark : mark_of (tile_of []) ≡ start
first_mark = refl

its_mark : mark_of (tile_of (record { problem = small; from = start; to = two_on } ∷ [])) ≡ two_on
its_mark = refl

its_end : tile_end (tile_of []) ≡ done
its_end = refl

is_the_lease : is_lease (Leased 1 7) (record { id = 0; worker = 1; index = 7 }) ≡ true
is_the_lease = refl

is_an_old_one : is_lease (Leased 1 7) (record { id = 0; worker = 1; index = 3 }) ≡ false
is_an_old_one = refl

held_then : freed_status true ≡ Held
held_then = refl

-- ---- specs/States.antt

same : same_state (at X5 (4 ∷ []) (At 5)) (at X5 (4 ∷ []) (At 5)) ≡ true
unfolding same_state
same = refl

not_same : same_state (at X5 (4 ∷ []) (At 5)) (at X5 (4 ∷ []) cursor.Past) ≡ false
unfolding same_state
not_same = refl

-- ---- specs/Book.antt

-- the new book of the whole run
abbrev whole : BookValue
whole = new_book small whole_run start

-- once worker 0 has leased its tile
abbrev leased : BookValue
leased = book_step whole 0 call.LeaseAny

-- by this lease
abbrev its_lease : Grant
its_lease = record { id = 0; worker = 0; index = 0 }

leases : (outcome whole 0 call.LeaseAny).reply ≡ reply.Leased its_lease None None start 0
unfolding outcome
leases = refl

-- Done doesn't come before X3
not_past : comes_before small done two_on ≡ false
unfolding comes_before rank
not_past = rw (steps_between_none small done two_on (omega arith)) refl

posts : (outcome leased 0 (call.Post its_lease start two_on true)).reply ≡ reply.Posted false 0
unfolding outcome same_state
posts = rw not_past refl

-- nothing is posted yet, so that a stretch has to begin at X1
posts_late : (outcome leased 0 (call.Post its_lease two_on two_on true)).reply ≡ reply.Refused (StaleLease start)
unfolding outcome same_state
posts_late = refl

not_closed : (outcome leased 0 (call.Close its_lease)).reply ≡ reply.Refused NotAtEnd
unfolding outcome same_state
not_closed = refl

none_such : (outcome whole 0 (call.Lease 5)).reply ≡ reply.Refused UnknownBranch
unfolding outcome
none_such = refl

-- parted at the cut 4
abbrev parted : List TileValue
parted = (split leased (4 ∷ []) 0).tiles

one_waits : waiting_in parted ≡ 1
unfolding outcome
one_waits = refl

one_leased : leased_in parted ≡ 1
unfolding outcome
one_leased = refl

-- ---- specs/Calls.antt

makes : Made whole leased 0 call.LeaseAny (reply.Leased its_lease None None start 0)
unfolding outcome
makes = record { book = refl; reply = refl }

adds : leased.history ≡ next_entry whole 0 call.LeaseAny ∷ []
adds = refl

current : is_current leased.tiles its_lease ≡ true
unfolding outcome
current = refl

not_current : is_current whole.tiles its_lease ≡ false
not_current = refl

-- ---- specs/Posted.antt

-- X2 with the path of the visit, and X8 after it
abbrev at_cover : StateValue
at_cover = at X2 (4 ∷ 5 ∷ 1 ∷ []) cursor.None

abbrev past_cover : StateValue
past_cover = at X8 (4 ∷ 5 ∷ 1 ∷ []) cursor.None

cover_fits : Fits small at_cover
unfolding IsValid covered_by taken choice active remaining
cover_fits = (record { active = omega arith; left = refl }, (record { active = omega arith; left = refl }, (record { active = omega arith; left = refl }, tt)))

reaches_one : ReachesIn small at_cover past_cover 1
unfolding next covered_by taken choice active remaining
reaches_one = record { ends = refl; goes_on = goes_on }
  where
    goes_on : (i : ℕ) → i < 1 → (after small i at_cover).label ≡ Done → ⊥
    goes_on zero l e = cc
    goes_on (suc i) l e = absurd (omega arith)

steps_there : steps_between small at_cover past_cover ≡ 1
steps_there = steps_between_is small at_cover past_cover 1 cover_fits reaches_one

-- that step is posted
abbrev at_visit : List TileValue
at_visit = tile_of (record { problem = small; from = at_cover; to = past_cover } ∷ []) ∷ []

one_posted : posted_count at_visit ≡ 1
one_posted = refl

one_step : posted_steps at_visit ≡ 1
one_step = rw steps_there refl

its_visits : posted_visits at_visit ≡ (4 ∷ 5 ∷ 1 ∷ []) ∷ []
unfolding visits_between next covered_by taken choice active remaining
its_visits = rw steps_there refl

its_levels : posted_levels small at_visit ≡ 0 ∷ 0 ∷ 0 ∷ 1 ∷ []
unfolding without_last_zeros next
its_levels = rw steps_there refl

-- ---- specs/Totals.antt

one_visited : measured_of of_visits at_visit ≡ 1
unfolding visits_between next covered_by taken choice active remaining
one_visited = rw steps_there refl

one_taken : measured_of of_steps at_visit ≡ 1
one_taken = rw steps_there refl

one_at_level_three : measured_of (of_level 3) at_visit ≡ 1
unfolding trimmed_levels levels without_last_zeros next
one_at_level_three = rw steps_there refl

-- ---- specs/Tiling.antt

second : (tile_at parted 1).first ≡ at X5 [] (At 4)
unfolding cut_state
second = refl

none_there : tile_at parted 2 ≡ no_tile
unfolding outcome
none_there = refl

numbered : AreNumbered parted
unfolding outcome
numbered = record { below = below; once = once }
  where
    below : (i : ℕ) → i < 2 → (tile_at parted i).id < 2
    below zero l = omega arith
    below (suc zero) l = omega arith
    below (suc (suc i)) l = absurd (omega arith)

    once : (i j : ℕ) → i < 2 → j < 2 → (tile_at parted i).id ≡ (tile_at parted j).id → i ≡ j
    once zero zero l m e = refl
    once zero (suc zero) l m e = absurd (omega (arith, e))
    once (suc zero) zero l m e = absurd (omega (arith, e))
    once (suc zero) (suc zero) l m e = refl
    once (suc (suc i)) j l m e = absurd (omega arith)
    once i (suc (suc j)) l m e = absurd (omega arith)

-- ---- specs/Index.antt

-- the ids 0 and 1 stand at the places 0 and 1, so not before 0 either
least : AreLeast (0 ∷ 0 ∷ []) parted
unfolding outcome
least = record { long = refl; least = least_at }
  where
    least_at : (i : ℕ) → i < 2 → slice_index (0 ∷ 0 ∷ []) (tile_at parted i).id ≤ i
    least_at zero l = omega arith
    least_at (suc zero) l = omega arith
    least_at (suc (suc i)) l = absurd (omega arith)

-- the tile at the place 0 is leased
from_one : WaitFrom 1 parted
unfolding outcome
from_one zero l m = refl
from_one (suc i) l m = absurd (omega arith)
