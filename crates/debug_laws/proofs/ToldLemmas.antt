-- What an act is told that calls the book, where the book answers alike; and what is read of a seat, which is its runner.
use Rattle.std.proofs.Common.{◌≡◌, ℕ, ◌<◌, Option, Some, None, List, [], ◌∷◌, ◌++◌, length, refl, sym, ap, ◌∙◌}
use Rattle.std.specs.List.{slice_get}
use Rattle.std.proofs.lemmas.List.{length-set}
use Rattle.std.proofs.lemmas.Option.{slice_get-get_or}
use Rattle.x_steps.specs.StateValue.{StateValue}
use Rattle.x_branches.specs.Runner.{RunnerValue}
use Rattle.lab_history.specs.declared.entry.Entry.{Entry}
use Rattle.lab_history.specs.declared.entry.Call.{Call}
use Rattle.lab_history.specs.declared.entry.Call.TheVariants as call
use Rattle.lab_history.specs.declared.entry.Reply.{Reply}
use Rattle.lab_history.specs.declared.entry.Reply.TheVariants as reply
use Rattle.lab_book.specs.Tile.{TileValue}
use Rattle.lab_book.specs.Tiling.{tile_at, no_tile}
use Rattle.lab_book.specs.Book.{BookValue, outcome, book_step, settled, asked_to_stop, open_fault, mark_fault}
use Rattle.lab_book.specs.Book as book
use Rattle.lab_world.specs.Worker.{WorkerValue}
use Rattle.lab_world.specs.World.{called}
use Rattle.lab_book_laws.specs.AlikeCalls.{anonymous_reply}
use Rattle.lab_book_laws.proofs.PoolCallLemmas.{made_leaves}
use Rattle.debug_acts.specs.Lines.{state_line}
use Rattle.debug_acts.specs.Tiles.{tile_line}
use Rattle.debug_acts.specs.declared.answer.Told.{Told}
use Rattle.debug_acts.specs.declared.answer.Told.TheVariants as told
use Rattle.debug_acts.specs.Answer.{reply_refusals, entry_refusals, lines_or, retracted_lines, rest_line, worker_place, worker_retracted, worker_parted, tile_lines, done_lines, turn_lines}
use Rattle.x_debug.specs.Questions.{runner_of}

-- ---- what is read of a seat is its runner

pub same_runner : (v w : WorkerValue) → runner_of (Some v) ≡ runner_of (Some w) → v.runner ≡ w.runner
same_runner v w e = cc

-- what says the same of the same runner, and the same of none
pub seen_alike : {X : Type 0} (f : Option WorkerValue → X) (n : X) (at : RunnerValue → X) → f None ≡ n
    → ((w : WorkerValue) → f (Some w) ≡ at w.runner) → (x y : Option WorkerValue) → runner_of x ≡ runner_of y → f x ≡ f y
seen_alike f n at none some None None e = refl
seen_alike f n at none some None (Some w) e = absurd (cc)
seen_alike f n at none some (Some v) None e = absurd (cc)
seen_alike f n at none some (Some v) (Some w) e = some v ∙ ap at (same_runner v w e) ∙ sym (some w)

-- ---- what an act is answered that calls the book

last_entry : {X : Type 0} (xs : List X) (x : X) → slice_get (xs ++ x ∷ []) (length xs) ≡ Some x
last_entry [] x = refl
last_entry (y ∷ xs) x = last_entry xs x

module _ (b : BookValue) (w : ℕ) (c : Call) (becomes : Reply → Option WorkerValue) (what : Told) where
  abbrev its_reply : Reply
  its_reply = (outcome b w c).reply

  pub called_lines : turn_lines what (called b w c becomes)
      ≡ lines_or (reply_refusals its_reply) (done_lines what (book_step b w c) (becomes its_reply))
  called_lines =
      ap (λ (e : Option Entry). lines_or (entry_refusals e) (done_lines what (book_step b w c) (becomes its_reply)))
      (last_entry b.history (record { worker = w; call = c; reply = its_reply }))

-- ids and leases aren't read
refusals_seen : (z : Reply) → reply_refusals z ≡ reply_refusals (anonymous_reply z)
refusals_seen (reply.Leased g lo hi mark n) = refl
refusals_seen _ = refl

module _ (b c : BookValue) (v w : ℕ) (p q : Call) (f g : Reply → Option WorkerValue)
    (same : anonymous_reply (outcome b v p).reply ≡ anonymous_reply (outcome c w q).reply) where
  pub told_alike : (what also : Told) → done_lines what (book_step b v p) (f (outcome b v p).reply) ≡ done_lines also (book_step c w q) (g (outcome c w q).reply)
      → turn_lines what (called b v p f) ≡ turn_lines also (called c w q g)
  told_alike what also d =
      let refusals = refusals_seen (outcome b v p).reply ∙ ap reply_refusals same ∙ sym (refusals_seen (outcome c w q).reply) in
      called_lines b v p f what ∙ (λ j. lines_or (refusals j) (d j)) ∙ sym (called_lines c w q g also)

-- whether it is told of a worker
abbrev pub IsOfWorker : Told → Type 0
IsOfWorker (told.Tile i) = ⊥
IsOfWorker _ = Unit {0}

pub done_seen : (what : Told) → IsOfWorker what → (b c : BookValue) (x y : Option WorkerValue) → runner_of x ≡ runner_of y
    → done_lines what b x ≡ done_lines what c y
done_seen told.Place of b c = seen_alike worker_place [] (λ r. state_line r.position ∷ []) refl (λ w. refl)
done_seen told.Retracted of b c = seen_alike worker_retracted [] retracted_lines refl (λ w. refl)
done_seen (told.Parted before) of b c = seen_alike (λ x. worker_parted x before) [] (λ r. rest_line r before ∷ []) refl (λ w. refl)
done_seen (told.Tile i) of b c = absurd of

-- ---- the tile at a place

-- a call leaves as many tiles
pub stop_length : (b : BookValue) (id : ℕ) → length (outcome b 0 (call.RequestStop id)).tiles ≡ length b.tiles
unfolding outcome
stop_length b id =
    made_leaves (λ (ts : List TileValue). length ts ≡ length b.tiles) b.tiles refl (settled b asked_to_stop) id open_fault
    (λ i l n. length-set b.tiles i _)

pub back_length : (b : BookValue) (id : ℕ) (mark : StateValue) → length (outcome b 0 (call.PutBack id mark)).tiles ≡ length b.tiles
unfolding outcome
back_length b id mark =
    made_leaves (λ (ts : List TileValue). length ts ≡ length b.tiles) b.tiles refl (settled b (book.put_back mark)) id (mark_fault mark)
    (λ i l n. length-set b.tiles i _)

pub tile_shown : (ts : List TileValue) (i : ℕ) → i < length ts → tile_lines (slice_get ts i) ≡ tile_line (tile_at ts i) ∷ []
tile_shown ts i l = ap tile_lines (slice_get-get_or ts i no_tile l)
