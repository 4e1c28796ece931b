-- Tests of how a tile stands: which are the same without the worker and the index of a lease, and which go together.
use Rattle.std.proofs.Common.{◌≡◌, Bool, true, false, not, refl, sym, ap, ◌∙◌}
use Rattle.std.proofs.lemmas.Bool.{false≢true}
use Rattle.lab_book.specs.declared.status.Status.{Status}
use Rattle.lab_book.specs.declared.status.Status.TheVariants.{Waiting, Held, Leased, Closed}
use Rattle.lab_book.specs.Tile.{TileValue, Stands, is_closed, is_waiting, is_held, is_leased, is_free, asked_status, mark_of, tile_end}
use Rattle.lab_book_laws.specs.AlikeBooks.{anonymous_status, anonymous_tile}

-- whether a tile is open, and whether it is held
abbrev pub is_open_tile : TileValue → Bool
is_open_tile t = not (is_closed t.status)

abbrev pub is_held_tile : TileValue → Bool
is_held_tile t = is_held t.status

-- ---- what is seen

pub closed_seen : (s : Status) → is_closed (anonymous_status s) ≡ is_closed s
closed_seen Waiting = refl
closed_seen _ = refl

pub waiting_seen : (s : Status) → is_waiting (anonymous_status s) ≡ is_waiting s
waiting_seen Waiting = refl
waiting_seen _ = refl

pub held_seen : (s : Status) → is_held (anonymous_status s) ≡ is_held s
held_seen Waiting = refl
held_seen _ = refl

pub leased_seen : (s : Status) → is_leased (anonymous_status s) ≡ is_leased s
leased_seen Waiting = refl
leased_seen _ = refl

pub free_seen : (s : Status) → is_free (anonymous_status s) ≡ is_free s
free_seen Waiting = refl
free_seen _ = refl

pub asked_seen : (s : Status) → asked_status (anonymous_status s) ≡ anonymous_status (asked_status s)
asked_seen Waiting = refl
asked_seen _ = refl

pub stands_seen : (s : Status) (t u : TileValue) → t.stop ≡ u.stop → mark_of t ≡ mark_of u → tile_end t ≡ tile_end u
    → Stands (anonymous_status s) t → Stands s u
stands_seen (Leased w i) t u e m n h = tt
stands_seen Closed t u e m n h = sym m ∙ h ∙ n
stands_seen _ t u e m n h = sym e ∙ h

pub seen_stands : (s : Status) (t u : TileValue) → t.stop ≡ u.stop → mark_of t ≡ mark_of u → tile_end t ≡ tile_end u
    → Stands s t → Stands (anonymous_status s) u
seen_stands (Leased w i) t u e m n h = tt
seen_stands Closed t u e m n h = sym m ∙ h ∙ n
seen_stands _ t u e m n h = sym e ∙ h

pub same_closed : (t u : TileValue) → anonymous_tile t ≡ anonymous_tile u → is_closed t.status ≡ is_closed u.status
same_closed t u e = sym (closed_seen t.status) ∙ ap (λ (v : TileValue). is_closed v.status) e ∙ closed_seen u.status

-- ---- which tests go together

pub closed_is : (s : Status) → is_closed s ≡ true → s ≡ Closed
closed_is Closed e = refl
closed_is _ e = absurd (false≢true e)

pub held_open : (s : Status) → is_held s ≡ true → not (is_closed s) ≡ true
held_open Held e = refl
held_open _ e = absurd (false≢true e)

pub leased_open : (s : Status) → is_leased s ≡ true → not (is_closed s) ≡ true
leased_open (Leased w i) e = refl
leased_open _ e = absurd (false≢true e)

pub waiting_open : (s : Status) → is_waiting s ≡ true → is_closed s ≡ false
waiting_open Waiting e = refl
waiting_open _ e = absurd (false≢true e)

pub waiting_not_held : (s : Status) → is_waiting s ≡ true → is_held s ≡ false
waiting_not_held Waiting e = refl
waiting_not_held _ e = absurd (false≢true e)

pub else_closed : (s : Status) → is_waiting s ≡ false → is_held s ≡ false → is_leased s ≡ false → not (is_closed s) ≡ false
else_closed Waiting a b c = absurd (false≢true (sym a))
else_closed Held a b c = absurd (false≢true (sym b))
else_closed (Leased w i) a b c = absurd (false≢true (sym c))
else_closed Closed a b c = refl
