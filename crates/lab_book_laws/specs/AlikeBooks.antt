-- Books that are alike: of the same problem, branch and first mark, with the same open tiles in the same order. An open tile is one
-- that isn't closed; its id and its lease don't count. How the closed rest is parted, and the history, may differ.
--
-- Example: in one book of the small problem a closed tile goes up to the cut 4, and worker 0 has leased the tile behind it; in another
-- two closed tiles meet at the cut 2, and worker 1 has leased the tile behind the cut 4, which has another id. They are alike.
-- proofs/AlikeExamples.antt computes it.
use Rattle.std.specs.Prelude.{ℕ, ◌≡◌, not, List, map, filter}
use Rattle.lab_book.specs.declared.status.Status.{Status}
use Rattle.lab_book.specs.declared.status.Status.TheVariants.{Leased}
use Rattle.lab_book.specs.Tile.{TileValue, is_closed, is_held}
use Rattle.lab_book.specs.Book.{BookValue, IsTiled}
use Rattle.lab_book.specs.Posted.{posted_levels}

-- how a tile stands, without the worker and the index of its lease
abbrev pub anonymous_status : Status → Status
anonymous_status (Leased w i) = Leased 0 0
anonymous_status s = s

-- a tile without its id and its lease: 0 stands for both
abbrev pub anonymous_tile : TileValue → TileValue
anonymous_tile t = record t { id = 0; status = anonymous_status t.status }

-- the tiles that are not closed, in their order
abbrev pub open_tiles : List TileValue → List TileValue
open_tiles ts = filter (λ t. not (is_closed t.status)) ts

-- the tiles that are held, in their order
abbrev pub held_tiles : List TileValue → List TileValue
held_tiles ts = filter (λ t. is_held t.status) ts

-- how many states X2 a book's posted stretches have at each level
abbrev pub levels_told : BookValue → List ℕ
levels_told b = posted_levels b.problem b.tiles

-- the open tiles without their ids and leases
abbrev pub open_part : List TileValue → List TileValue
open_part ts = map anonymous_tile (open_tiles ts)

-- two books of the same branch of a problem's run, from the same first mark on, with the same open part
pub record AreAlikeBooks (a b : BookValue) : Type 0 where
  pub problem : a.problem ≡ b.problem
  pub branch : a.branch ≡ b.branch
  pub first : a.first ≡ b.first
  pub tiles : open_part a.tiles ≡ open_part b.tiles

-- where two books are alike, this is the same of both
abbrev pub BooksAgree : {A : Type 0} → BookValue → BookValue → (BookValue → A) → Type 0
BooksAgree a b f = AreAlikeBooks a b → f a ≡ f b

-- where they are alike and tiled, it is
abbrev pub TilingsAgree : {A : Type 0} → BookValue → BookValue → (BookValue → A) → Type 0
TilingsAgree a b f = IsTiled a → IsTiled b → BooksAgree a b f
