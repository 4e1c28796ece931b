-- Of alike books the same open tiles pass a test that doesn't look at ids and leases, and as many.
use Rattle.std.proofs.Common.{◌≡◌, Bool, true, false, not, List, [], ◌∷◌, length, map, filter, refl, sym, ap, ◌∙◌}
use Rattle.std.proofs.lemmas.Bool.{false≢true}
use Rattle.std.proofs.lemmas.List.{length-map}
use Rattle.std.proofs.lemmas.List.Sums.{length-filter}
use Rattle.lab_book.specs.declared.status.Status.{Status}
use Rattle.lab_book.specs.Tile.{TileValue, is_closed, is_held, is_leased, is_waiting}
use Rattle.lab_book.specs.Book.{leased_in, waiting_in}
use Rattle.lab_book_laws.specs.AlikeBooks.{anonymous_status, anonymous_tile, held_tiles, open_part}
use Rattle.lab_book_laws.proofs.FilterLemmas.{kept, left_out}
use Rattle.lab_book_laws.proofs.SeenLemmas.{seen_more, seen_less}
use Rattle.lab_book_laws.proofs.StatusLemmas.{is_open_tile, held_seen, leased_seen, waiting_seen, held_open, leased_open, waiting_open}

-- of a test that open tiles alone pass, whatever their ids and leases
module _ (stands : Status → Bool) (same : (s : Status) → stands (anonymous_status s) ≡ stands s)
    (open_alone : (s : Status) → stands s ≡ true → not (is_closed s) ≡ true) where
  abbrev passes : TileValue → Bool
  passes t = stands t.status

  -- those that pass it are seen among the open ones
  pub of_open : (ts : List TileValue) → map anonymous_tile (filter passes ts) ≡ filter passes (open_part ts)
  of_open [] = refl
  of_open (t ∷ ts) = by (passes t) (is_open_tile t) refl refl (of_open ts)
    where
      by : (b c : Bool) → passes t ≡ b → is_open_tile t ≡ c → map anonymous_tile (filter passes ts) ≡ filter passes (open_part ts)
          → map anonymous_tile (filter passes (t ∷ ts)) ≡ filter passes (open_part (t ∷ ts))
      by true true e f r =
          ap (map anonymous_tile) (kept passes t ts e)
          ∙ ap (λ (us : List TileValue). anonymous_tile t ∷ us) r
          ∙ sym (ap (filter passes) (seen_more is_open_tile anonymous_tile t ts f)
          ∙ kept passes (anonymous_tile t) (open_part ts) (same t.status ∙ e))
      by true false e f r = absurd (false≢true (sym f ∙ open_alone t.status e))
      by false true e f r =
          ap (map anonymous_tile) (left_out passes t ts e)
          ∙ r
          ∙ sym (ap (filter passes) (seen_more is_open_tile anonymous_tile t ts f)
          ∙ left_out passes (anonymous_tile t) (open_part ts) (same t.status ∙ e))
      by false false e f r =
          ap (map anonymous_tile) (left_out passes t ts e) ∙ r ∙ sym (ap (filter passes) (seen_less is_open_tile anonymous_tile t ts f))

  pub as_many : (ts us : List TileValue) → open_part ts ≡ open_part us → length (filter passes ts) ≡ length (filter passes us)
  as_many ts us e =
      sym (length-map (filter passes ts) anonymous_tile)
      ∙ ap length (of_open ts ∙ ap (filter passes) e ∙ sym (of_open us))
      ∙ length-map (filter passes us) anonymous_tile

pub held_alike : (ts us : List TileValue) → open_part ts ≡ open_part us → length (held_tiles ts) ≡ length (held_tiles us)
held_alike ts us e = as_many (λ (s : Status). is_held s) held_seen held_open ts us e

pub leased_alike : (ts us : List TileValue) → open_part ts ≡ open_part us → leased_in ts ≡ leased_in us
leased_alike ts us e =
    sym (length-filter (λ (t : TileValue). is_leased t.status) ts)
    ∙ as_many (λ (s : Status). is_leased s) leased_seen leased_open ts us e
    ∙ length-filter (λ (t : TileValue). is_leased t.status) us

pub waiting_alike : (ts us : List TileValue) → open_part ts ≡ open_part us → waiting_in ts ≡ waiting_in us
waiting_alike ts us e =
    sym (length-filter (λ (t : TileValue). is_waiting t.status) ts)
    ∙ as_many (λ (s : Status). is_waiting s) waiting_seen (λ s h. ap not (waiting_open s h)) ts us e
    ∙ length-filter (λ (t : TileValue). is_waiting t.status) us
