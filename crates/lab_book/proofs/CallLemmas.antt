-- What each call is, once its place is found or it is refused.
use Rattle.std.proofs.Common.{◌≡◌, ℕ, Bool, Option, Result, Ok, List, refl, sym, ap, ◌∙◌, inr, not}
use Rattle.x_steps.specs.StateValue.{StateValue}
use Rattle.lab_book.specs.declared.status.Status.{Status}
use Rattle.lab_history.specs.declared.grant.Grant.{Grant}
use Rattle.lab_history.specs.declared.ending.Ending.{Ending}
use Rattle.lab_history.specs.declared.ending.Ending.TheVariants as ending
use Rattle.lab_history.specs.Ending.{call_of_end}
use Rattle.lab_history.specs.declared.fault.BookFault.{BookFault}
use Rattle.lab_history.specs.declared.entry.Call.{Call}
use Rattle.lab_history.specs.declared.entry.Call.TheVariants as call
use Rattle.lab_book.specs.Tile.{TileValue, is_waiting, is_held, ended_status, is_closed}
use Rattle.lab_book.specs.Tiling.{tile_at}
use Rattle.lab_book.specs.Book.{BookValue, Outcome, outcome, found, found_by, status_fault, lease_fault, stretch_fault, cut_fault}
use Rattle.lab_book.specs.Book.{made_at, lent, lent_any, first_waiting, posted, split, settled, with_status, ending_fault, asked_to_stop}
use Rattle.lab_book.specs.Book.{retracted, retract_fault, put_back, mark_fault}
use Rattle.lab_book.specs.Calls.{Judged}
use Rattle.lab_book.proofs.BookLemmas.{judged_ok}

-- the change at the place that was found
pub call_made : (b : BookValue) (w : ℕ) (c : Call) (change : ℕ → Outcome) (r s : Result ℕ BookFault) (i : ℕ)
    → outcome b w c ≡ made_at b.tiles change s → Judged r s → r ≡ Ok i → outcome b w c ≡ change i
call_made b w c change r s i o j e = o ∙ ap (made_at b.tiles change) (judged_ok r s i j e)

-- what each call does, by the place that it finds
module _ (b : BookValue) (w : ℕ) where
  pub lease_is : (id : ℕ) → outcome b w (call.Lease id)
      ≡ made_at b.tiles (lent b w) (found b.tiles id (λ t. status_fault (is_waiting t.status) t))
  unfolding outcome
  lease_is id = refl

  pub held_is : (id : ℕ) → outcome b w (call.TakeHeld id)
      ≡ made_at b.tiles (lent b w) (found b.tiles id (λ t. status_fault (is_held t.status) t))
  unfolding outcome
  held_is id = refl

  pub any_is : (r : Option ℕ) → r ≡ first_waiting b.tiles → outcome b w call.LeaseAny ≡ lent_any b w r
  unfolding outcome
  any_is r e = ap (lent_any b w) (sym e)

  -- an end of a lease, by how it is ended
  pub end_is : (e : Ending) (g : Grant) → outcome b w (call_of_end e g)
      ≡ made_at b.tiles (settled b (λ (t : TileValue). record t { status = ended_status e t.stop })) (found_by b.tiles g (ending_fault e))
  unfolding outcome
  end_is ending.Park g = refl
  end_is ending.Abandon g = refl
  end_is ending.Close g = refl

  pub stop_is : (id : ℕ) → outcome b w (call.RequestStop id)
      ≡ made_at b.tiles (settled b asked_to_stop) (found b.tiles id (λ t. status_fault (not (is_closed t.status)) t))
  unfolding outcome
  stop_is id = refl

  pub retract_is : (g : Grant) → outcome b w (call.Retract g)
      ≡ made_at b.tiles (retracted b) (found b.tiles g.id (λ t. lease_fault g t (retract_fault t)))
  unfolding outcome
  retract_is g = refl

  pub put_back_is : (id : ℕ) (s : StateValue)
      → outcome b w (call.PutBack id s) ≡ made_at b.tiles (settled b (put_back s)) (found b.tiles id (mark_fault s))
  unfolding outcome
  put_back_is id s = refl

  pub put_back_ok : (id : ℕ) (mark s : StateValue) (i : ℕ) → mark ≡ s → found b.tiles id (mark_fault s) ≡ Ok i
      → outcome b w (call.PutBack id mark) ≡ settled b (put_back s) i
  put_back_ok id mark s i m e = rw m (call_made b w (call.PutBack id s) (settled b (put_back s)) (Ok i) _ i (put_back_is id s) (inr (sym e))
      refl)

  pub post_is : (g : Grant) (from to : StateValue) (same : Bool) → outcome b w (call.Post g from to same)
      ≡ made_at b.tiles (posted b from to) (found b.tiles g.id (λ t. lease_fault g t (stretch_fault b.problem from to same t)))
  unfolding outcome
  post_is g from to same = refl

  pub split_is : (g : Grant) (path : List ℕ) (same : Bool) → outcome b w (call.Split g path same)
      ≡ made_at b.tiles (split b path) (found b.tiles g.id (λ t. lease_fault g t (cut_fault b.problem path same t)))
  unfolding outcome
  split_is g path same = refl

  -- a lease whose end nothing stands against
  pub ended : (e : Ending) (g : Grant) (r : Result ℕ BookFault) (i : ℕ) (s : Status) → Judged r (found_by b.tiles g (ending_fault e))
      → r ≡ Ok i → s ≡ ended_status e (tile_at b.tiles i).stop → outcome b w (call_of_end e g) ≡ settled b (with_status s) i
  ended e g r i s j h q = call_made b w (call_of_end e g) _ r _ i (end_is e g) j h ∙ rw q refl
