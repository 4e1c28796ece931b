-- One place is taken out of the row and put back. A row of room for entries is room for an array of them.
use mathlib.Core.Path.{◌≡◌, refl, sym}
use Prim.Native.Nat.{ℕ, zero, suc, ◌+◌, ◌*◌, ◌<◌}
use native.Mathlib.Omega.{arith}
use native.Mathlib.Nat.{zero-mul, suc-mul}
use mathlib.Core.List.{List, [], ◌∷◌}
use lib.ListN.{length, set, get_or, replicate}
use seplogic.Ra.Ura.{Ura}
use mir.Syntax.{ty_array}
use base.Fraction.{full_share}
use base.Fml.{Fml, Lft, ftrue, fsep, fat, froom}
use base.Logic.{ent, sep}
use mir.Val.{Val}
use types.Logic.{Logic, sem}
use types.Kit.{‵, ◌⊛◌, some, ◌$◌, ◌∵◌, !, qed, by, move, keep, drop, use1, use2, pick, split, frame, fsplit, fjoin, rewrite, done}
use borrow.Table.OneValue.{part_out}
use Rattle.std.specs.Prelude.{Option, Some, None}
use Rattle.std_alloc.proofs.RawLayout.{as_raw}
use Rattle.cover_links.specs.declared.entry.TableEntry.{TableEntry}
use Rattle.cover_links.specs.contracts.entry.TableEntry.{the_row}
use Rattle.cover_links.specs.Ownership.{entry_type, entry_size, slot_own, slots_own, slot_lent, slots_lent}

-- the row but for the place at an index
abbrev pub besides : ℕ → ℕ → List (Option TableEntry) → ℕ → Fml
besides b o [] i = ftrue
besides b o (c ∷ cs) zero = slots_own b (o + entry_size) cs
besides b o (c ∷ cs) (suc i) = fsep (slot_own b o c) (besides b (o + entry_size) cs i)

next_place : (i o : ℕ) → i * entry_size + (o + entry_size) ≡ suc i * entry_size + o
next_place i o = omega (arith, suc-mul i entry_size)

first_place : (o : ℕ) → o ≡ 0 * entry_size + o
first_place o = omega (arith, zero-mul entry_size)

-- as many bytes before them, as many places
pub same_place : (i j : ℕ) → i * entry_size ≡ j * entry_size → i ≡ j
same_place i j h = let e : i * 16 ≡ j * 16 = h in omega arith

pub filled_within : (cs : List (Option TableEntry)) (i : ℕ) (e : TableEntry) → get_or cs i None ≡ Some e → i < length cs
filled_within [] i e h = cc
filled_within (c ∷ cs) zero e h = omega arith
filled_within (c ∷ cs) (suc i) e h = omega (arith, filled_within cs i e h)

module _ {M : Type 1} {𝓤 : Ura M} (𝓛 : Logic 𝓤) (b : ℕ) where
  open 𝓛 use {H}

  pub place_out : (o : ℕ) (cs : List (Option TableEntry)) (i : ℕ) → i < length cs
      → ent 𝓤 (sem 𝓛 (slots_own b o cs)) (sep 𝓤 (sem 𝓛 (slot_own b (i * entry_size + o) (get_or cs i None))) (sem 𝓛 (besides b o cs i)))
  place_out o [] i lt = absurd (omega arith)
  place_out o (c ∷ cs) zero lt =
      qed 𝓛 (‵ (slots_own b o (c ∷ cs)) ∷ []) ∵ fsplit ! $ rewrite ! 0 (λ (k : ℕ). ‵ (slot_own b k c)) (first_place o) refl $ frame ! $ done !
  place_out o (c ∷ cs) (suc i) lt =
      qed 𝓛 (‵ (slots_own b o (c ∷ cs)) ∷ []) ∵ fsplit ! $ move ! (1 ∷ []) $
      use1 𝓛 (‵ (slot_own b (i * entry_size + (o + entry_size)) (get_or cs i None)) ⊛ ‵ (besides b (o + entry_size) cs i)) (place_out (o + entry_size) cs i (omega arith)) $ split ! $
      rewrite ! 0 (λ (k : ℕ). ‵ (slot_own b k (get_or cs i None))) (next_place i o) refl $ frame ! $ move ! (1 ∷ 0 ∷ []) $ fjoin ! $ done !

  pub place_in : (o : ℕ) (cs : List (Option TableEntry)) (i : ℕ) (d : Option TableEntry) → i < length cs
      → ent 𝓤 (sep 𝓤 (sem 𝓛 (slot_own b (i * entry_size + o) d)) (sem 𝓛 (besides b o cs i))) (sem 𝓛 (slots_own b o (set cs i d)))
  place_in o [] i d lt = absurd (omega arith)
  place_in o (c ∷ cs) zero d lt =
      qed 𝓛 (‵ (slot_own b (0 * entry_size + o) d) ∷ ‵ (slots_own b (o + entry_size) cs) ∷ []) ∵
      rewrite ! 0 (λ (k : ℕ). ‵ (slot_own b k d)) (sym (first_place o)) refl $ fjoin ! $ done !
  place_in o (c ∷ cs) (suc i) d lt =
      qed 𝓛 (‵ (slot_own b (suc i * entry_size + o) d) ∷ ‵ (besides b o (c ∷ cs) (suc i)) ∷ []) ∵
      rewrite ! 0 (λ (k : ℕ). ‵ (slot_own b k d)) (sym (next_place i o)) refl $ move ! (1 ∷ []) $ fsplit ! $ move ! (2 ∷ 1 ∷ []) $
      use2 𝓛 (‵ (slots_own b (o + entry_size) (set cs i d))) (place_in (o + entry_size) cs i d (omega arith)) $ move ! (1 ∷ 0 ∷ []) $ fjoin ! $ done !

  -- whatever a place holds, it is room for an entry
  pub to_room : (o : ℕ) (c : Option TableEntry) → ent 𝓤 (sem 𝓛 (slot_own b o c)) (H.room entry_type b o)
  to_room o (Some e) =
      qed 𝓛 (‵ (slot_own b o (Some e)) ∷ []) ∵
      use1 𝓛 (some (λ (v : Val). ‵ (fat full_share entry_type b o v) ⊛ ‵ ((the_row).own_val e (v ∷ [])))) (part_out 𝓛 the_row refl full_share e b o) $ pick ! (λ v. split ! $ move ! (1 ∷ []) $ drop ! $
      by ! (𝓛.laws.at_room entry_type b o v))
  to_room o None = 𝓛.laws.raw-room entry_type b o

  pub rows_of_room : (n o : ℕ) → ent 𝓤 (H.room (ty_array entry_type n) b o) (sem 𝓛 (slots_own b o (replicate n None)))
  rows_of_room zero o = qed 𝓛 (‵ (froom (ty_array entry_type 0) b o) ∷ []) ∵ keep ! [] $ done !
  rows_of_room (suc n) o =
      qed 𝓛 (‵ (froom (ty_array entry_type (suc n)) b o) ∷ []) ∵
      use1 𝓛 (‵ (froom entry_type b o) ⊛ ‵ (froom (ty_array entry_type n) b (o + entry_size))) (𝓛.laws.room_uncons entry_type n b o) $ split ! $
      as_raw ! entry_type b o $ frame ! $ by ! (rows_of_room n (o + entry_size))

  pub room_of_rows : (cs : List (Option TableEntry)) (o : ℕ) → ent 𝓤 (sem 𝓛 (slots_own b o cs)) (H.room (ty_array entry_type (length cs)) b o)
  room_of_rows [] o = 𝓛.laws.room_nil entry_type b o
  room_of_rows (c ∷ cs) o =
      qed 𝓛 (‵ (slot_own b o c) ∷ ‵ (slots_own b (o + entry_size) cs) ∷ []) ∵
      use1 𝓛 (‵ (froom entry_type b o)) (to_room o c) $ move ! (1 ∷ []) $
      use1 𝓛 (‵ (froom (ty_array entry_type (length cs)) b (o + entry_size))) (room_of_rows cs (o + entry_size)) $ move ! (1 ∷ []) $ by ! (𝓛.laws.room_cons entry_type (length cs) b o)

  pub place_seen : (κ : Lft) (o : ℕ) (cs : List (Option TableEntry)) (i : ℕ) → i < length cs
      → ent 𝓤 (sem 𝓛 (slots_lent b o cs κ)) (sem 𝓛 (slot_lent b (i * entry_size + o) (get_or cs i None) κ))
  place_seen κ o [] i lt = absurd (omega arith)
  place_seen κ o (c ∷ cs) zero lt =
      qed 𝓛 (‵ (slots_lent b o (c ∷ cs) κ) ∷ []) ∵ fsplit ! $ keep ! (0 ∷ []) $ rewrite ! 0 (λ (k : ℕ). ‵ (slot_lent b k c κ)) (first_place o) refl $ done !
  place_seen κ o (c ∷ cs) (suc i) lt =
      qed 𝓛 (‵ (slots_lent b o (c ∷ cs) κ) ∷ []) ∵ fsplit ! $ keep ! (1 ∷ []) $
      use1 𝓛 (‵ (slot_lent b (i * entry_size + (o + entry_size)) (get_or cs i None) κ)) (place_seen κ (o + entry_size) cs i (omega arith)) $
      rewrite ! 0 (λ (k : ℕ). ‵ (slot_lent b k (get_or cs i None) κ)) (next_place i o) refl $ done !
