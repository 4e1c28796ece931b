-- What a call does to alike books, at the places of the same open tile.
--
-- Example: in the two books of AlikeBooks.antt the second tile of the one and the third of the other are the tile behind the cut 4, so
-- their places, 1 and 2, correspond, and the leases of both workers name it. proofs/AlikeExamples.antt computes it.
use Rattle.std.specs.Prelude.{ℕ, suc, ◌≡◌, ◌<◌, false, List, length, take, drop}
use Rattle.lab_history.specs.declared.grant.Grant.{Grant}
use Rattle.lab_history.specs.declared.entry.Call.{Call}
use Rattle.lab_history.specs.declared.entry.Call.TheVariants as call
use Rattle.lab_history.specs.declared.entry.Reply.{Reply}
use Rattle.lab_history.specs.declared.entry.Reply.TheVariants as reply
use Rattle.lab_book.specs.Tile.{TileValue, is_closed, is_lease}
use Rattle.lab_book.specs.Tiling.{tile_at, IsTiling}
use Rattle.lab_book.specs.Book.{BookValue, Outcome, outcome, IsTiled}
use Rattle.lab_book_laws.specs.AlikeBooks.{anonymous_tile, open_part, AreAlikeBooks}

-- the tile at place i of some tiles is that at place j of others, but for its id and its lease
abbrev pub AreAlikeAt : List TileValue → ℕ → List TileValue → ℕ → Type 0
AreAlikeAt ts i us j = anonymous_tile (tile_at ts i) ≡ anonymous_tile (tile_at us j)

-- place i of some tiles and place j of others correspond: the same open tile stands there, but for its id and its lease, and so do the
-- open tiles before it and behind it
pub record Correspond (ts : List TileValue) (i : ℕ) (us : List TileValue) (j : ℕ) : Type 0 where
  pub within : i < length ts
  pub also_within : j < length us
  pub not_closed : is_closed (tile_at ts i).status ≡ false
  pub tile : AreAlikeAt ts i us j
  pub before : open_part (take i ts) ≡ open_part (take j us)
  pub behind : open_part (drop (suc i) ts) ≡ open_part (drop (suc j) us)

-- the same open tile stands at place i of a book and at place j of another
abbrev pub IsSameTile : BookValue → ℕ → BookValue → ℕ → Type 0
IsSameTile a i b j = Correspond a.tiles i b.tiles j

-- where an open tile stands at place i of a book, this is true
abbrev pub IfOpen : BookValue → ℕ → Type 0 → Type 0
IfOpen b i P = i < length b.tiles → is_closed (tile_at b.tiles i).status ≡ false → P

-- where book b is tiled and books a and b are alike, an open tile at place i of a is the one at place j of b, where both begin at the
-- same cut
abbrev pub IsFoundByCut : BookValue → ℕ → BookValue → ℕ → Type 0
IsFoundByCut a i b j =
    IsTiled b → AreAlikeBooks a b → IfOpen a i (j < length b.tiles →
    (tile_at a.tiles i).branch.lo ≡ (tile_at b.tiles j).branch.lo → IsSameTile a i b j)

-- the tile at place i of a book has its place in another
abbrev pub HasPlaceIn : BookValue → ℕ → BookValue → Type 0
HasPlaceIn a i b = (j : ℕ) × IsSameTile a i b j

-- where the books are alike, an open tile of the one has its place in the other
abbrev pub IfAlikeHasPlace : BookValue → ℕ → BookValue → Type 0
IfAlikeHasPlace a i b = AreAlikeBooks a b → IfOpen a i (HasPlaceIn a i b)

-- and it has no second one
abbrev pub HasOnePlace : BookValue → ℕ → BookValue → ℕ → ℕ → Type 0
HasOnePlace a i b j k = IsSameTile a i b j → IsSameTile a i b k → j ≡ k

-- leases g and h name the same open tile of two books, which stands at i in the one and at j in the other: each has the tile's id
-- there, and either both are the current lease, or neither
pub record NameSameTile (a : BookValue) (i : ℕ) (g : Grant) (b : BookValue) (j : ℕ) (h : Grant)
    : Type 0 where
  pub places : Correspond a.tiles i b.tiles j
  pub id : g.id ≡ (tile_at a.tiles i).id
  pub also_id : h.id ≡ (tile_at b.tiles j).id
  pub current : is_lease (tile_at a.tiles i).status g ≡ is_lease (tile_at b.tiles j).status h

-- a call, with this lease or its id in place of its own
abbrev pub addressed : Grant → Call → Call
addressed g (call.Lease id) = call.Lease g.id
addressed g call.LeaseAny = call.LeaseAny
addressed g (call.TakeHeld id) = call.TakeHeld g.id
addressed g (call.Post h from to same) = call.Post g from to same
addressed g (call.Split h path same) = call.Split g path same
addressed g (call.Retract h) = call.Retract g
addressed g (call.Park h) = call.Park g
addressed g (call.Abandon h) = call.Abandon g
addressed g (call.Close h) = call.Close g
addressed g (call.PutBack id mark) = call.PutBack g.id mark
addressed g (call.RequestStop id) = call.RequestStop g.id

-- a book's reply without ids and leases
abbrev pub anonymous_reply : Reply → Reply
anonymous_reply (reply.Leased g lo hi mark n) =
    reply.Leased (record { id = 0; worker = 0; index = 0 }) lo hi mark n
anonymous_reply (reply.Split id) = reply.Split 0
anonymous_reply r = r

-- the outcomes of two calls, one of book a and one of book b: the same open part, and the same reply but for ids and leases; and the
-- one book's tiles are a tiling where the other's are
pub record AreAlikeOutcomes (a b : BookValue) (o q : Outcome) : Type 0 where
  pub tiles : open_part o.tiles ≡ open_part q.tiles
  pub reply : anonymous_reply o.reply ≡ anonymous_reply q.reply
  pub tiling : IsTiling a.problem a.branch a.first o.tiles →
      IsTiling b.problem b.branch b.first q.tiles

-- where two books are alike and tiled, call c of the one, by worker v, has the same outcome as call d of the other, by worker w
abbrev pub AnswerAlike : BookValue → ℕ → Call → BookValue → ℕ → Call → Type 0
AnswerAlike a v c b w d =
    IsTiled a → IsTiled b → AreAlikeBooks a b → AreAlikeOutcomes a b (outcome a v c) (outcome b w d)

-- the same where worker v of the one and worker w of the other lease any tile
abbrev pub LeaseAnyAlike : BookValue → ℕ → BookValue → ℕ → Type 0
LeaseAnyAlike a v b w = AnswerAlike a v call.LeaseAny b w call.LeaseAny

-- what is true of each call of two books that are alike and tiled, at the places of the same open tile, by its id or a lease: of the books,
-- of those places and of the two outcomes
abbrev pub EachSameCall : (BookValue → BookValue → ℕ → ℕ → Outcome → Outcome → Type 0) → Type 0
EachSameCall P =
    (a b : BookValue) (v w i j : ℕ) (g h : Grant) (c : Call) → IsTiled a → IsTiled b → AreAlikeBooks a b →
    NameSameTile a i g b j h → P a b i j (outcome a v (addressed g c)) (outcome b w (addressed h c))
