-- A book: the tiles of a problem's run, and the history of the calls (`BookValue`); what each call does to it.
--
-- A call looks for its tile (`tile_place`, `first_waiting`, `checked`, `found`); what stands against it is told by `status_fault`,
-- `lease_fault`, `stretch_fault`, `cut_fault`, `end_fault`, `ending_fault`, `retract_fault` and `mark_fault`; else it changes the tiles:
-- `lent`, `posted`, `split`, `retracted`, and `settled` for `freed`, `closed`, `put_back` and `asked_to_stop`. `outcome` is what each call
-- answers and makes of the tiles, and `book_step` the book after it. `new_book` is the first book, `replayed` a history's calls from a book
-- on, `IsBook` what is true of every book, and `KeepsBook` what one keeps.
--
-- Example: worker 0 leases the one tile of the small problem's new book, from start to end, with its mark at X1, and then none waits. By
-- that lease a post of the stretch from X1 to X3 is accepted; one that begins at X3 is refused, `StaleLease` with the mark X1, and to close
-- the tile is refused as `NotAtEnd`. A tile 5 is an `UnknownBranch`. Split at the cut 4, the book has one leased tile and one that waits.
-- proofs/BookExamples.antt computes it.
use Rattle.std.specs.Prelude.{ℕ, ◌≡◌, ◌+◌, ◌-◌, ◌==◌, Bool, true, false, not, Option, Some, None, is_some, unwrap_or, option_map, Result}
use Rattle.std.specs.Prelude.{Ok, Err, List, [], ◌∷◌, ◌++◌, length, take, drop, slice_set, count_by, if◌then◌else◌}
use Rattle.std.specs.List.{position}
use Rattle.cover_problem.specs.Problem.{ProblemValue}
use Rattle.x_steps.specs.declared.state.State.{State}
use Rattle.x_steps.specs.StateValue.{StateValue}
use Rattle.x_steps.specs.StateView.{state_value}
use Rattle.x_branches.specs.declared.branch.Branch.{Branch}
use Rattle.x_branches.specs.Cut.{CutPath, cut_state}
use Rattle.x_branches.specs.RunOrder.{comes_before}
use Rattle.x_branches.specs.Stretch.{StretchValue}
use Rattle.lab_book.specs.declared.status.Status.{Status}
use Rattle.lab_book.specs.declared.status.Status.TheVariants as status
use Rattle.lab_history.specs.declared.grant.Grant.{Grant}
use Rattle.lab_history.specs.declared.ending.Ending.{Ending}
use Rattle.lab_history.specs.declared.ending.Ending.TheVariants as ending
use Rattle.lab_history.specs.declared.fault.BookFault.{BookFault}
use Rattle.lab_history.specs.declared.fault.BookFault.TheVariants.{UnknownBranch, NotWaiting, StaleLease, ForeignProblem, NotAfterMark}
use Rattle.lab_history.specs.declared.fault.BookFault.TheVariants.{BeyondEnd, NotAMark, NotAtEnd, NothingToRetract}
use Rattle.lab_history.specs.declared.entry.Call.{Call}
use Rattle.lab_history.specs.declared.entry.Call.TheVariants as call
use Rattle.lab_history.specs.declared.entry.Reply.{Reply}
use Rattle.lab_history.specs.declared.entry.Reply.TheVariants as reply
use Rattle.lab_history.specs.declared.entry.Entry.{Entry}
use Rattle.lab_book.specs.States.{same_state}
use Rattle.lab_book.specs.Tile.{TileValue, is_waiting, is_held, is_leased, is_closed, is_free, is_lease, freed_status, asked_status}
use Rattle.lab_book.specs.Tile.{mark_of, tile_end}
use Rattle.lab_book.specs.Tiling.{tile_at, IsTiling}

-- a book: a branch of a problem's run with its first mark, the tiles that part it, and the history
pub record BookValue : Type 0 where
  pub problem : ProblemValue
  pub branch : Branch
  pub first : StateValue
  pub tiles : List TileValue
  pub history : List Entry

-- its tiles are a tiling of its branch
abbrev pub IsTiled : BookValue → Type 0
IsTiled b = IsTiling b.problem b.branch b.first b.tiles

-- ---- what a call does

-- how many tiles wait
abbrev pub waiting_in : List TileValue → ℕ
waiting_in ts = count_by (λ t. is_waiting t.status) ts

-- how many are leased
abbrev pub leased_in : List TileValue → ℕ
leased_in ts = count_by (λ t. is_leased t.status) ts

-- what a call answers, and what it makes of the tiles
pub record Outcome : Type 0 where
  pub reply : Reply
  pub tiles : List TileValue

-- the first tile with an id
abbrev pub tile_place : ℕ → List TileValue → Option ℕ
tile_place id ts = position (λ t. t.id == id) ts

-- the first tile that waits
abbrev pub first_waiting : List TileValue → Option ℕ
first_waiting ts = position (λ t. is_waiting t.status) ts

-- a place, unless something stands against it
abbrev pub unless : ℕ → Option BookFault → Result ℕ BookFault
unless i None = Ok i
unless i (Some f) = Err f

-- the place of the tile that was looked for, or the fault: none was found, or what the check says of the one that was
abbrev pub checked : List TileValue → (TileValue → Option BookFault) → Option ℕ → Result ℕ BookFault
checked ts check None = Err UnknownBranch
checked ts check (Some i) = unless i (check (tile_at ts i))

-- the place of the tile with an id, or why the call is refused: no tile has it, or what the check says of the tile
abbrev pub found : List TileValue → ℕ → (TileValue → Option BookFault) → Result ℕ BookFault
found ts id check = checked ts check (tile_place id ts)

-- the last stretch, if there is one
abbrev pub last_stretch : List StretchValue → Option StretchValue
last_stretch [] = None
last_stretch (x ∷ xs) = Some (unwrap_or (last_stretch xs) x)

-- the stretches up to the first mark that is this state, if one is
-- (here with stretch x before them)
abbrev pub with_stretch : StretchValue → Option (List StretchValue) → Option (List StretchValue)
with_stretch x None = None
with_stretch x (Some xs) = Some (x ∷ xs)

-- of the stretches that lead on from this mark, those up to the first mark that is state s; None where no mark is
abbrev pub stretches_to : StateValue → StateValue → List StretchValue → Option (List StretchValue)
stretches_to s mark [] = if same_state s mark then Some [] else None
stretches_to s mark (x ∷ xs) = if same_state s mark then Some [] else with_stretch x (stretches_to s x.to xs)

-- the fault where a test fails, else what the next tests say
abbrev pub else_fault : Bool → BookFault → Option BookFault → Option BookFault
else_fault test f next = if test then next else Some f

-- a tile has to stand so
abbrev pub status_fault : Bool → TileValue → Option BookFault
status_fault right t = else_fault right NotWaiting None

-- a tile must not be closed
abbrev pub open_fault : TileValue → Option BookFault
open_fault t = status_fault (not (is_closed t.status)) t

-- a lease has to be the tile's current one
abbrev pub lease_fault : Grant → TileValue → Option BookFault → Option BookFault
lease_fault g t next = else_fault (is_lease t.status g) (StaleLease (mark_of t)) next

-- then a stretch has to be the problem's, to begin at the mark, and to end within the tile
abbrev pub stretch_fault : ProblemValue → StateValue → StateValue → Bool → TileValue → Option BookFault
stretch_fault p from to same t =
    else_fault same ForeignProblem (else_fault (same_state from (mark_of t)) (StaleLease (mark_of t))
    (else_fault (not (comes_before p (tile_end t) to)) BeyondEnd None))

-- a cut has to be the problem's, after the mark and before the end
abbrev pub cut_fault : ProblemValue → List ℕ → Bool → TileValue → Option BookFault
cut_fault p path same t =
    else_fault same ForeignProblem (else_fault (comes_before p (mark_of t) (cut_state path)) NotAfterMark
    (else_fault (comes_before p (cut_state path) (tile_end t)) BeyondEnd None))

-- a tile to be closed has to be posted up to its end
abbrev pub end_fault : TileValue → Option BookFault
end_fault t = else_fault (same_state (mark_of t) (tile_end t)) NotAtEnd None

-- what stands against an end of a tile's lease, by how it is ended: nothing, unless it is closed
abbrev pub ending_fault : Ending → TileValue → Option BookFault
ending_fault ending.Close t = end_fault t
ending_fault e t = None

-- a tile whose last stretch is taken out has to have one
abbrev pub retract_fault : TileValue → Option BookFault
retract_fault t = else_fault (is_some (last_stretch t.stretches)) NothingToRetract None

-- a tile that goes back to a state has to wait or be held, and to have that mark
abbrev pub mark_fault : StateValue → TileValue → Option BookFault
mark_fault s t = else_fault (is_free t.status) NotWaiting (else_fault (is_some (stretches_to s t.first t.stretches)) NotAMark None)

-- what stands against a post of a stretch to a tile of a book, by a lease that is the tile's
abbrev pub post_fault : BookValue → StretchValue → Bool → TileValue → Option BookFault
post_fault b x same t = stretch_fault b.problem x.from x.to same t

-- and against a split of it at a cut
abbrev pub split_fault : BookValue → CutPath → Bool → TileValue → Option BookFault
split_fault b cut same t = cut_fault b.problem cut.path same t

-- the place of the tile that a lease is of, or why the call is refused: no tile has its id, the lease isn't the tile's current one,
-- or what the check says of the tile
abbrev pub found_by : List TileValue → Grant → (TileValue → Option BookFault) → Result ℕ BookFault
found_by ts g check = found ts g.id (λ t. lease_fault g t (check t))

-- the place of the tile that goes back to a state, or why it doesn't
abbrev pub back_place : List TileValue → ℕ → State → Result ℕ BookFault
back_place ts id s = found ts id (mark_fault (state_value s))

-- the outcome of a call that is refused with fault f: these tiles stay as they are
abbrev pub refused : List TileValue → BookFault → Outcome
refused ts f = record { reply = reply.Refused f; tiles = ts }

-- the change at the place that was found, or the refusal
abbrev pub made_at : List TileValue → (ℕ → Outcome) → Result ℕ BookFault → Outcome
made_at ts change (Ok i) = change i
made_at ts change (Err f) = refused ts f

-- the choices of a cut, if there is one
abbrev pub cut_path : Option CutPath → Option (List ℕ)
cut_path cut = option_map (λ (c : CutPath). c.path) cut

-- a tile is leased by the entry that comes next
abbrev pub lent_tile : TileValue → ℕ → ℕ → TileValue
lent_tile t w index = record t { status = status.Leased w index; stop = false }

-- the outcome of a lease of the tile at i to worker w: the reply gives the lease, the tile's cuts and its mark, and says how many
-- tiles wait now
abbrev pub lent : BookValue → ℕ → ℕ → Outcome
lent b w i =
    let t = tile_at b.tiles i in
    let ts = slice_set b.tiles i (lent_tile t w (length b.history)) in
    record {
      reply = reply.Leased (record { id = t.id; worker = w; index = length b.history }) (cut_path t.branch.lo) (cut_path t.branch.hi)
          (mark_of t) (waiting_in ts);
      tiles = ts;
    }

-- the first waiting tile is leased, if one waits
abbrev pub lent_any : BookValue → ℕ → Option ℕ → Outcome
lent_any b w None = record { reply = reply.NoneWaits; tiles = b.tiles }
lent_any b w (Some i) = lent b w i

-- a stretch is added to a tile
abbrev pub posted_tile : TileValue → StretchValue → TileValue
posted_tile t x = record t { stretches = t.stretches ++ x ∷ [] }

-- the outcome of a post of the stretch between two states, for the tile at i: it has the stretch now, and the reply says whether
-- it is asked to stop, and how many tiles wait
abbrev pub posted : BookValue → StateValue → StateValue → ℕ → Outcome
posted b from to i =
    let t = tile_at b.tiles i in
    let ts = slice_set b.tiles i (posted_tile t (record { problem = b.problem; from = from; to = to })) in
    record { reply = reply.Posted t.stop (waiting_in ts); tiles = ts }

-- a tile ends at a cut, and a new one goes on from there: its id is the number of tiles before
abbrev pub head_tile : TileValue → CutPath → TileValue
head_tile t cut = record t { branch = record { lo = t.branch.lo; hi = Some cut } }

-- the new tile: it goes from the cut to the end of tile t, waits, has the cut as its first mark, and nothing of it is posted
abbrev pub tail_tile : ℕ → TileValue → CutPath → TileValue
tail_tile id t cut = record {
  id = id;
  branch = record { lo = Some cut; hi = t.branch.hi };
  status = status.Waiting;
  stop = false;
  first = cut_state cut.path;
  stretches = [];
}

-- the tile that a split at a cut takes, as it is made before: it ends where the split one will
abbrev pub ended_tile : CutPath → TileValue
ended_tile cut = record {
  id = 0;
  branch = record { lo = None; hi = Some cut };
  status = status.Waiting;
  stop = false;
  first = cut_state cut.path;
  stretches = [];
}

-- both tiles that tile t becomes: up to the cut, and from there on with the new id
abbrev pub split_tiles : TileValue → ℕ → CutPath → List TileValue
split_tiles t id cut = head_tile t cut ∷ tail_tile id t cut ∷ []

-- tiles of which the one at a place was split at a cut: both its parts stand where it stood
abbrev pub tiles_split : List TileValue → ℕ → CutPath → List TileValue
tiles_split ts i cut = take i ts ++ split_tiles (tile_at ts i) (length ts) cut ++ drop (i + 1) ts

-- the outcome of a split at a cut, by its choices, for the tile at i: both its parts stand where it stood, and the reply is the id
-- of the new one
abbrev pub split : BookValue → List ℕ → ℕ → Outcome
split b path i = record {
  reply = reply.Split (length b.tiles);
  tiles = take i b.tiles ++ split_tiles (tile_at b.tiles i) (length b.tiles) (record { problem = b.problem; path = path })
      ++ drop (i + 1) b.tiles;
}

-- the last stretch is taken out
abbrev pub retracted_tile : TileValue → TileValue
retracted_tile t = record t { stretches = take (length t.stretches - 1) t.stretches }

-- so many of its first stretches are kept
abbrev pub kept_tile : ℕ → TileValue → TileValue
kept_tile count t = record t { stretches = take count t.stretches }

-- the outcome where the last stretch of the tile at i, which has one, is taken out: the reply says from where to where it went
abbrev pub retracted : BookValue → ℕ → Outcome
retracted b i =
    let t = tile_at b.tiles i in
    let x = unwrap_or (last_stretch t.stretches) (record { problem = b.problem; from = t.first; to = t.first }) in
    record {
      reply = reply.Retracted x.from x.to;
      tiles = slice_set b.tiles i (retracted_tile t);
    }

-- a tile is changed, and the answer is that it is done
abbrev pub settled : BookValue → (TileValue → TileValue) → ℕ → Outcome
settled b change i = record { reply = reply.Done; tiles = slice_set b.tiles i (change (tile_at b.tiles i)) }

-- a tile is given up: it waits, or is held where a stop was asked for
abbrev pub freed : TileValue → TileValue
freed t = record t { status = freed_status t.stop }

-- a tile is closed
abbrev pub closed : TileValue → TileValue
closed t = record t { status = status.Closed }

-- a tile goes back to its first mark that is this state
abbrev pub put_back : StateValue → TileValue → TileValue
put_back s t = record t { stretches = unwrap_or (stretches_to s t.first t.stretches) t.stretches }

-- a tile is asked to stop
abbrev pub asked_to_stop : TileValue → TileValue
asked_to_stop t = record t { status = asked_status t.status; stop = true }

-- a tile stands so from now on
abbrev pub with_status : Status → TileValue → TileValue
with_status s t = record t { status = s }

-- and is asked to stop, or isn't
abbrev pub settled_tile : Status → Bool → TileValue → TileValue
settled_tile s stop t = record t { status = s; stop = stop }

-- what each call does, the first refusal first
unfoldable pub outcome : BookValue → ℕ → Call → Outcome
outcome b w (call.Lease id) = made_at b.tiles (lent b w) (found b.tiles id (λ t. status_fault (is_waiting t.status) t))
outcome b w call.LeaseAny = lent_any b w (first_waiting b.tiles)
outcome b w (call.TakeHeld id) = made_at b.tiles (lent b w) (found b.tiles id (λ t. status_fault (is_held t.status) t))
outcome b w (call.Post g from to same) =
    made_at b.tiles (posted b from to) (found b.tiles g.id (λ t. lease_fault g t (stretch_fault b.problem from to same t)))
outcome b w (call.Split g path same) = made_at b.tiles (split b path)
    (found b.tiles g.id (λ t. lease_fault g t (cut_fault b.problem path same t)))
outcome b w (call.Retract g) = made_at b.tiles (retracted b) (found b.tiles g.id (λ t. lease_fault g t (retract_fault t)))
outcome b w (call.Park g) = made_at b.tiles (settled b freed) (found b.tiles g.id (λ t. lease_fault g t None))
outcome b w (call.Abandon g) = made_at b.tiles (settled b freed) (found b.tiles g.id (λ t. lease_fault g t None))
outcome b w (call.Close g) = made_at b.tiles (settled b closed) (found b.tiles g.id (λ t. lease_fault g t (end_fault t)))
outcome b w (call.PutBack id s) = made_at b.tiles (settled b (put_back s)) (found b.tiles id (mark_fault s))
outcome b w (call.RequestStop id) = made_at b.tiles (settled b asked_to_stop)
    (found b.tiles id open_fault)

-- one call: the tiles change as it says, and the history gains its entry
abbrev pub book_step : BookValue → ℕ → Call → BookValue
book_step b w c = record {
  problem = b.problem;
  branch = b.branch;
  first = b.first;
  tiles = (outcome b w c).tiles;
  history = b.history ++ record { worker = w; call = c; reply = (outcome b w c).reply } ∷ [];
}

-- ---- books

-- the one tile of a book as it was first made: it waits, and nothing of it is posted
abbrev pub whole_tile : Branch → StateValue → TileValue
whole_tile branch first = record { id = 0; branch = branch; status = status.Waiting; stop = false; first = first; stretches = [] }

-- the book of a branch of a problem's run as it is first made, with this first mark: one tile, and no history
abbrev pub new_book : ProblemValue → Branch → StateValue → BookValue
new_book p branch first = record { problem = p; branch = branch; first = first; tiles = whole_tile branch first ∷ []; history = [] }

-- a book as it was first made
abbrev pub first_book : BookValue → BookValue
first_book b = new_book b.problem b.branch b.first

-- the fold of the calls of a history, from a book on
abbrev pub replayed : BookValue → List Entry → BookValue
replayed b [] = b
replayed b (e ∷ es) = replayed (book_step b e.worker e.call) es

-- what is true of every book: its tiles are a tiling of its branch, and it is the replay of its history, with each reply, from
-- the book that was first made
pub record IsBook (b : BookValue) : Type 0 where
  pub tiling : IsTiling b.problem b.branch b.first b.tiles
  pub replay : replayed (new_book b.problem b.branch b.first) b.history ≡ b

-- what a book keeps: room is kept for as many entries as there are tiles leased
pub record KeepsBook (b : BookValue) (kept : ℕ) : Type 0 where
  pub sound : IsBook b
  pub room : kept ≡ leased_in b.tiles
