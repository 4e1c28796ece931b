-- What alike sessions show of a tile, and which tile a cut or an id names in them.
use Rattle.std.proofs.Common.{◌≡◌, ℕ, ◌&&◌, not, Bool, true, false, Option, Some, None, List, [], ◌∷◌, map}
use Rattle.std.proofs.Common.{refl, sym, ap, ap₂, ◌∙◌}
use Rattle.std.proofs.lemmas.Bool.{and_parts, not-true}
use Rattle.cover_problem.specs.Problem.{ProblemValue}
use Rattle.lab_book.specs.declared.status.Status.{Status}
use Rattle.lab_book.specs.declared.status.Status.TheVariants as status
use Rattle.lab_history.specs.declared.grant.Grant.{Grant}
use Rattle.lab_history.specs.declared.entry.Reply.{Reply}
use Rattle.lab_history.specs.declared.entry.Reply.TheVariants as reply
use Rattle.lab_book.specs.Tile.{TileValue, is_closed, is_leased, is_lease}
use Rattle.lab_book.specs.Tiling.{tile_at}
use Rattle.lab_book.specs.Book.{BookValue, cut_path}
use Rattle.lab_world.specs.Worker.{WorkerValue, lent_worker}
use Rattle.lab_world.proofs.HoldLemmas.{own_lease}
use Rattle.debug_language.specs.Replies.{standing_words}
use Rattle.debug_acts.specs.Tiles.{standing_of, tile_line, same_cut, is_begun_at, place_at}
use Rattle.lab_book_laws.specs.AlikeBooks.{AreAlikeBooks, anonymous_status, anonymous_tile}
use Rattle.lab_book_laws.specs.AlikeCalls.{Correspond, NameSameTile, anonymous_reply}
use Rattle.lab_book_laws.proofs.StatusLemmas.{closed_seen, leased_seen}
use Rattle.lab_book_laws.proofs.PlaceLemmas.{Meet, first_meet}
use Rattle.x_debug.specs.Questions.{runner_of}

-- ---- the lines of tiles

standing_seen : (s : Status) → standing_of (anonymous_status s) ≡ standing_of s
standing_seen status.Waiting = refl
standing_seen _ = refl

line_seen : (t : TileValue) → tile_line (anonymous_tile t) ≡ tile_line t
line_seen t = ap (standing_words (cut_path t.branch.lo) (cut_path t.branch.hi)) (standing_seen t.status)

pub lines_seen : (ts : List TileValue) → map tile_line (map anonymous_tile ts) ≡ map tile_line ts
lines_seen [] = refl
lines_seen (t ∷ ts) = ap₂ (λ (l : List (List ℕ)) (ls : List (List (List ℕ))). l ∷ ls) (line_seen t) (lines_seen ts)

pub same_line : (t u : TileValue) → anonymous_tile t ≡ anonymous_tile u → tile_line t ≡ tile_line u
same_line t u e = sym (line_seen t) ∙ ap tile_line e ∙ line_seen u

-- ---- the tile that a cut names

begun_seen : (lo : Option (List ℕ)) (t : TileValue) → is_begun_at lo (anonymous_tile t) ≡ is_begun_at lo t
begun_seen lo t = ap (λ (b : Bool). not b && same_cut (cut_path t.branch.lo) lo) (closed_seen t.status)

begun_open : (lo : Option (List ℕ)) (t : TileValue) → is_begun_at lo t ≡ true → is_closed t.status ≡ false
begun_open lo t e = not-true _ (and_parts (not (is_closed t.status)) (same_cut (cut_path t.branch.lo) lo) e).0

pub place_meet : (lo : Option (List ℕ)) (a b : BookValue) → AreAlikeBooks a b → Meet a.tiles b.tiles (place_at lo a.tiles) (place_at lo b.tiles)
place_meet lo a b k = first_meet (is_begun_at lo) (begun_seen lo) (begun_open lo) a.tiles b.tiles k.tiles

-- ---- a tile is named by its id

abbrev pub leaser : Status → ℕ
leaser (status.Leased w i) = w
leaser s = 0

abbrev pub leased_at : Status → ℕ
leased_at (status.Leased w i) = i
leased_at s = 0

-- its current lease, if it is leased
abbrev pub naming : TileValue → Grant
naming t = record { id = t.id; worker = leaser t.status; index = leased_at t.status }

is_named : (t : TileValue) → is_lease t.status (naming t) ≡ is_leased t.status
is_named t = by t.status
  where
    by : (s : Status) → is_lease s (record { id = t.id; worker = leaser s; index = leased_at s }) ≡ is_leased s
    by status.Waiting = refl
    by status.Held = refl
    by (status.Leased w i) = own_lease (status.Leased w i) (record { id = t.id; worker = w; index = i }) refl
    by status.Closed = refl

pub names_same : (a b : BookValue) (i j : ℕ) → Correspond a.tiles i b.tiles j
    → NameSameTile a i (naming (tile_at a.tiles i)) b j (naming (tile_at b.tiles j))
names_same a b i j p = record {
  places = p;
  id = refl;
  also_id = refl;
  current =
      is_named (tile_at a.tiles i)
      ∙ sym (leased_seen (tile_at a.tiles i).status)
      ∙ ap (λ (t : TileValue). is_leased t.status) p.tile
      ∙ leased_seen (tile_at b.tiles j).status
      ∙ sym (is_named (tile_at b.tiles j));
}

-- ---- what is read of a reply

pub runner_seen : (p : ProblemValue) (x : Reply) → runner_of (lent_worker p x) ≡ runner_of (lent_worker p (anonymous_reply x))
runner_seen p (reply.Leased g lo hi mark n) = refl
runner_seen p _ = refl

-- ---- whether a branch is open

pub both_open : (x y : Option WorkerValue) → runner_of x ≡ runner_of y → (P : Option WorkerValue → Option WorkerValue → Type 0) → P None None
    → ((v w : WorkerValue) → x ≡ Some v → y ≡ Some w → v.runner ≡ w.runner → P (Some v) (Some w)) → P x y
both_open None None e P none some = none
both_open None (Some w) e P none some = absurd (cc)
both_open (Some v) None e P none some = absurd (cc)
both_open (Some v) (Some w) e P none some = some v w refl refl (cc)
