-- The examples of specs/AlikeBooks.antt, AlikeCalls.antt and Searched.antt, computed on the small problem: c e, a d g, b c f, a d f,
-- b g, d e g. Its item a has the options 2 and 4, so the cuts 2 and 4 part its run in three.
use Rattle.std.proofs.Common.{◌≡◌, ℕ, false, Option, Some, None, List, [], ◌∷◌, refl, ap, arith}
use Rattle.std.proofs.lemmas.Bool.{false≢true}
use Rattle.cover_problem.proofs.CoverExamples.{small}
use Rattle.x_steps.specs.StateValue.{start}
use Rattle.x_branches.specs.Cut.{CutPath}
use Rattle.x_branches.specs.Branch.{first_of, end_of}
use Rattle.lab_book.specs.declared.status.Status.{Status}
use Rattle.lab_book.specs.declared.status.Status.TheVariants.{Waiting, Held, Leased, Closed}
use Rattle.lab_book.specs.Tile.{TileValue, is_held}
use Rattle.lab_book.specs.Tiling.{tile_at}
use Rattle.lab_book.specs.Book.{BookValue}
use Rattle.lab_book_laws.specs.AlikeBooks.{AreAlikeBooks}
use Rattle.lab_book_laws.specs.AlikeCalls.{Correspond, NameSameTile}
use Rattle.lab_book_laws.specs.Searched.{searched, IsSearched}

-- the cut at an option of the item a
pub cut : ℕ → Option CutPath
cut o = Some (record { problem = small; path = o ∷ [] })

-- a closed tile between two cuts, posted in one stretch
abbrev closed_tile : ℕ → Option CutPath → Option CutPath → TileValue
closed_tile id lo hi = record {
  id = id;
  branch = record { lo = lo; hi = hi };
  status = Closed;
  stop = false;
  first = first_of lo;
  stretches = record { problem = small; from = first_of lo; to = end_of hi } ∷ [];
}

-- the tile behind the cut 4, of which nothing is posted
abbrev last_tile : ℕ → Status → TileValue
last_tile id status = record {
  id = id;
  branch = record { lo = cut 4; hi = None };
  status = status;
  stop = false;
  first = first_of (cut 4);
  stretches = [];
}

-- a book of the whole run
abbrev book_of : List TileValue → BookValue
book_of ts = record { problem = small; branch = record { lo = None; hi = None }; first = start; tiles = ts; history = [] }

-- one closed tile up to the cut 4, and a tile behind it
abbrev pub in_two : Status → BookValue
in_two status = book_of (closed_tile 0 None (cut 4) ∷ last_tile 1 status ∷ [])

-- two closed tiles that meet at the cut 2, and a tile behind them
abbrev pub in_three : Status → BookValue
in_three status = book_of (closed_tile 0 None (cut 2) ∷ closed_tile 1 (cut 2) (cut 4) ∷ last_tile 2 status ∷ [])

-- the tile behind the cut 4 is leased, by one worker in the one book, and by another in the other
alike : AreAlikeBooks (in_two (Leased 0 3)) (in_three (Leased 1 7))
alike = record { problem = refl; branch = refl; first = refl; tiles = refl }

-- the second tile of the one book and the third of the other correspond
third_is_second : Correspond (in_two (Leased 0 3)).tiles 1 (in_three (Leased 1 7)).tiles 2
third_is_second = record {
  within = omega arith;
  also_within = omega arith;
  not_closed = refl;
  tile = refl;
  before = refl;
  behind = refl;
}

-- and both leases name it: by the id 1 in the one book, by the id 2 in the other
both_name_it : NameSameTile (in_two (Leased 0 3)) 1 (record { id = 1; worker = 0; index = 3 }) (in_three (Leased 1 7)) 2
    (record { id = 2; worker = 1; index = 7 })
both_name_it = record { places = third_is_second; id = refl; also_id = refl; current = refl }

-- where it waits in the one and is held in the other, they are not alike
not_alike : ¬ AreAlikeBooks (in_two Waiting) (in_three Held)
not_alike k = false≢true (ap (λ (ts : List TileValue). is_held (tile_at ts 0).status) k.tiles)

-- searched, the tile behind the cut 4 has one stretch, up to Done
searched_in_two : searched (in_two Waiting) ≡ book_of (closed_tile 0 None (cut 4) ∷ closed_tile 1 (cut 4) None ∷ [])
searched_in_two = refl

-- a held tile stays as it is
held_stays : searched (in_two Held) ≡ in_two Held
held_stays = refl

-- where a pool parts the tile behind the cut 4 at the cut 4 5, the book is searched still
later : Option CutPath
later = Some (record { problem = small; path = 4 ∷ 5 ∷ [] })

parted : IsSearched (in_two Waiting) (book_of (closed_tile 0 None (cut 4) ∷ closed_tile 1 (cut 4) later ∷ closed_tile 2 later None ∷ []))
parted = record { problem = refl; branch = refl; first = refl; tiles = refl }
