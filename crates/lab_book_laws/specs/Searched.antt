-- A book whose waiting tiles are searched to their ends: each in one stretch, or by a pool in whatever stretches and tiles.
--
-- Example: where a closed tile of the small problem's run goes up to the cut 4, and the tile behind it waits, the searched book has two
-- closed tiles, the second with the one stretch from the cut to Done. A pool may part it at the cut 4 5, and leave three.
-- proofs/AlikeExamples.antt computes them.
use Rattle.std.specs.Prelude.{◌≡◌, Bool, true, false, List, [], map, if◌then◌else◌}
use Rattle.std.specs.List.{AllPass}
use Rattle.cover_problem.specs.Problem.{ProblemValue}
use Rattle.lab_history.specs.declared.entry.Call.{Call}
use Rattle.lab_history.specs.declared.entry.Call.TheVariants as call
use Rattle.lab_history.specs.declared.entry.Entry.{Entry}
use Rattle.lab_book.specs.Tile.{TileValue, is_waiting, mark_of, tile_end}
use Rattle.lab_book.specs.Book.{BookValue, posted_tile, closed, waiting_in, leased_in, replayed}
use Rattle.lab_book.specs.Posted.{IsFinished}
use Rattle.lab_book_laws.specs.AlikeBooks.{open_tiles, held_tiles, AreAlikeBooks}

-- a waiting tile is searched: it has one stretch more, from its mark to its end, and is closed
abbrev pub searched_tile : ProblemValue → TileValue → TileValue
searched_tile p t =
    if is_waiting t.status
    then closed (posted_tile t (record { problem = p; from = mark_of t; to = tile_end t }))
    else t

-- each waiting tile of a book is
abbrev pub searched : BookValue → BookValue
searched b = record b { tiles = map (searched_tile b.problem) b.tiles }

-- what a pool makes of a book where it leaves no tile that waits or is leased: one of the same branch of the same problem's run, whose
-- open tiles are the held ones of the old book, as they were
pub record IsSearched (old new : BookValue) : Type 0 where
  pub problem : new.problem ≡ old.problem
  pub branch : new.branch ≡ old.branch
  pub first : new.first ≡ old.first
  pub tiles : open_tiles new.tiles ≡ held_tiles old.tiles

-- whether a call is one that a pool makes: it takes no held tile, puts none back, and asks none to stop
abbrev pub is_pool_call : Call → Bool
is_pool_call (call.TakeHeld id) = false
is_pool_call (call.PutBack id mark) = false
is_pool_call (call.RequestStop id) = false
is_pool_call c = true

-- all entries are of such calls
abbrev pub ArePoolCalls : List Entry → Type 0
ArePoolCalls es = AllPass (λ e. is_pool_call e.call) es

-- no tile of a book waits
abbrev pub NoneWaits : BookValue → Type 0
NoneWaits b = waiting_in b.tiles ≡ 0

-- none is leased
abbrev pub NoneLeased : BookValue → Type 0
NoneLeased b = leased_in b.tiles ≡ 0

-- none is held
abbrev pub NoneHeld : BookValue → Type 0
NoneHeld b = held_tiles b.tiles ≡ []

-- what a pool makes of book a, if it is book c, is alike to the searched book b, where a and b are alike and no tile of b is leased
abbrev pub MakesAlike : BookValue → BookValue → BookValue → Type 0
MakesAlike a b c = AreAlikeBooks a b → NoneLeased b → IsSearched a c → AreAlikeBooks c (searched b)

-- where all tiles of a book are closed, which is of the same branch of the same problem's run as an old one, from the same first mark on,
-- this is true
abbrev pub IfFinishes : BookValue → BookValue → Type 0 → Type 0
IfFinishes old new P = new.problem ≡ old.problem → new.branch ≡ old.branch → new.first ≡ old.first → IsFinished new → P

-- what is true of each book without a leased tile and of what a pool's calls make of it
abbrev pub EachPooled : (BookValue → BookValue → Type 0) → Type 0
EachPooled P = (old : BookValue) (es : List Entry) → NoneLeased old → ArePoolCalls es → P old (replayed old es)
