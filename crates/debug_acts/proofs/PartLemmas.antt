-- What an act is answered that took its turn, and the line of the tile at a place.
use Rattle.std.proofs.Common.{◌≡◌, ℕ, true, false, Option, Result, Ok, Err, List, [], ◌∷◌, ◌++◌, length, OnOk, refl, sym, ap, ◌∙◌, arith, nat_lt, ◌<◌, append-nil, ltb-true, ltb-false}
use Rattle.std.specs.List.{slice_get}
use Rattle.std.proofs.lemmas.Option.{slice_get-get_or, slice_get_past}
use Rattle.text_lines.specs.Writing.{text_of}
use Rattle.lab_book.specs.Tile.{TileValue}
use Rattle.lab_book.specs.Tiling.{tile_at, no_tile}
use Rattle.lab_book.specs.Book.{BookValue}
use Rattle.lab_world.specs.declared.event.Act.{Act}
use Rattle.lab_world.specs.declared.event.WorldReply.{WorldReply}
use Rattle.lab_world.specs.Worker.{WorkerValue}
use Rattle.lab_world.specs.World.{Turned, turn_of}
use Rattle.debug_acts.specs.Tiles.{tile_line}
use Rattle.debug_acts.specs.Answer.{refusals, is_done, lines_or, tile_lines, done_lines, told_lines}
use Rattle.debug_acts.specs.declared.answer.Told.{Told}

-- what an act that took its turn is answered
module _ (b c : BookValue) (x y : Option WorkerValue) (a : Act) (v : WorldReply) (t : Turned (turn_of b x 0 a) v c y) (what : Told) where
  same_refusals : refusals c v ≡ refusals (turn_of b x 0 a).book (turn_of b x 0 a).reply
  same_refusals = λ j. refusals (t.book j) (t.reply j)

  same_done : done_lines what c y ≡ done_lines what (turn_of b x 0 a).book (turn_of b x 0 a).worker
  same_done = λ j. done_lines what (t.book j) (t.worker j)

  told_is : told_lines b x a what ≡ lines_or (refusals c v) (done_lines what c y)
  told_is = λ j. lines_or (sym same_refusals j) (sym same_done j)

  or_done : (ls done : List (List (List ℕ))) → is_done ls ≡ true → (ls ≡ []) × (lines_or ls done ≡ done)
  or_done [] done e = (refl, refl)
  or_done (l ∷ ls) done e = absurd (cc)

  or_refused : (ls done : List (List (List ℕ))) → is_done ls ≡ false → lines_or ls done ≡ ls
  or_refused [] done e = absurd (cc)
  or_refused (l ∷ ls) done e = refl

  pub refused_told : (old new : List ℕ) → is_done (refusals c v) ≡ false → new ≡ old ++ text_of (refusals c v)
      → new ≡ old ++ text_of (told_lines b x a what)
  refused_told old new e h =
      h ∙ ap (λ (ls : List (List (List ℕ))). old ++ text_of ls) (sym (or_refused (refusals c v) (done_lines what c y) e) ∙ sym told_is)

  pub done_told : {X E : Type 0} (r : Result X E) (old mid new : List ℕ) → is_done (refusals c v) ≡ true → mid ≡ old ++ text_of (refusals c v)
      → OnOk r (new ≡ mid ++ text_of (done_lines what c y)) → OnOk r (new ≡ old ++ text_of (told_lines b x a what))
  done_told (Ok z) old mid new e h k =
      let none = or_done (refusals c v) (done_lines what c y) e in
      let here : mid ≡ old = h ∙ ap (λ (ls : List (List (List ℕ))). old ++ text_of ls) none.0 ∙ append-nil old in
      k ∙ ap (λ (s : List ℕ). s ++ text_of (done_lines what c y)) here
      ∙ ap (λ (ls : List (List (List ℕ))). old ++ text_of ls) (sym none.1 ∙ sym told_is)
  done_told (Err f) old mid new e h k = tt

-- ---- the tile at a place

pub is_within : (ts : List TileValue) (i : ℕ) → nat_lt i (length ts) ≡ true → i < length ts
is_within ts i e = ltb-true i (length ts) e

pub tile_there : (ts : List TileValue) (i : ℕ) → nat_lt i (length ts) ≡ true → tile_lines (slice_get ts i) ≡ tile_line (tile_at ts i) ∷ []
tile_there ts i e = ap tile_lines (slice_get-get_or ts i no_tile (is_within ts i e))

pub no_tile_text : (ts : List TileValue) (i : ℕ) (old : List ℕ) → nat_lt i (length ts) ≡ false
    → old ≡ old ++ text_of (tile_lines (slice_get ts i))
no_tile_text ts i old e =
    sym (ap (λ (o : Option TileValue). old ++ text_of (tile_lines o)) (slice_get_past ts i (omega (arith, ltb-false i (length ts) e)))
    ∙ append-nil old)
