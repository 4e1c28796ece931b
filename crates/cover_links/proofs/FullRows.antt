-- Lemmas on rows of places that all hold an entry.
use Rattle.std.proofs.Common.{◌≡◌, ℕ, zero, suc, ◌+◌, ◌<◌, List, [], ◌∷◌, length, get_or, set, map, replicate, refl, sym, ap, ◌∙◌, arith, Option, Some, None}
use Rattle.cover_links.specs.declared.entry.TableEntry.{TableEntry}
use Rattle.cover_links.specs.Slots.{values, IsFull}
use Rattle.cover_links.specs.Entries.{blank, entry_at}
use Rattle.std.proofs.lemmas.List.{length-replicate}

values_some : (es : List TableEntry) → values (map Some es) ≡ es
values_some [] = refl
values_some (e ∷ es) = ap (λ l. e ∷ l) (values_some es)

length_some : (es : List TableEntry) → length (map Some es) ≡ length es
length_some [] = refl
length_some (e ∷ es) = ap suc (length_some es)

get_some : (es : List TableEntry) (i : ℕ) → i < length es → get_or (map Some es) i None ≡ Some (get_or es i blank)
get_some [] i lt = absurd (omega arith)
get_some (e ∷ es) zero lt = refl
get_some (e ∷ es) (suc i) lt = get_some es i (omega arith)

set_some : (es : List TableEntry) (i : ℕ) (e : TableEntry) → set (map Some es) i (Some e) ≡ map Some (set es i e)
set_some [] i e = refl
set_some (x ∷ es) zero e = refl
set_some (x ∷ es) (suc i) e = ap (λ l. Some x ∷ l) (set_some es i e)

pub full_length : (cs : List (Option TableEntry)) → IsFull cs → length (values cs) ≡ length cs
unfolding IsFull
full_length cs full = sym (length_some (values cs)) ∙ ap length (sym full)

-- what is read
pub full_get : (cs : List (Option TableEntry)) (i : ℕ) → IsFull cs → i < length (values cs) → get_or cs i None ≡ Some (entry_at (values cs) i)
unfolding IsFull
full_get cs i full lt = ap (λ (l : List (Option TableEntry)). get_or l i None) full ∙ get_some (values cs) i lt

-- what is written
pub full_set : (cs : List (Option TableEntry)) (i : ℕ) (e : TableEntry) → IsFull cs → values (set cs i (Some e)) ≡ set (values cs) i e
unfolding IsFull
full_set cs i e full = ap (λ (l : List (Option TableEntry)). values (set l i (Some e))) full ∙ ap values (set_some (values cs) i e) ∙ values_some (set (values cs) i e)

pub set_full : (cs : List (Option TableEntry)) (i : ℕ) (e : TableEntry) → IsFull cs → IsFull (set cs i (Some e))
unfolding IsFull
set_full cs i e full =
    ap (λ (l : List (Option TableEntry)). set l i (Some e)) full ∙ set_some (values cs) i e ∙ ap (λ (l : List TableEntry). map Some l) (sym (full_set cs i e full))

-- a row that is filled from its start: the first n places hold the entry
unfoldable pub filled : ℕ → ℕ → TableEntry → List (Option TableEntry)
filled zero rest e = replicate rest None
filled (suc n) rest e = Some e ∷ filled n rest e

pub filled_none : (len : ℕ) (e : TableEntry) → filled 0 len e ≡ replicate len None
unfolding filled
filled_none len e = refl

pub filled_one : (n rest : ℕ) (e : TableEntry) → set (filled n (suc rest) e) n (Some e) ≡ filled (suc n) rest e
unfolding filled
filled_one zero rest e = refl
filled_one (suc n) rest e = ap (λ l. Some e ∷ l) (filled_one n rest e)

pub filled_all : (n : ℕ) (e : TableEntry) → filled n 0 e ≡ map Some (replicate n e)
unfolding filled
filled_all zero e = refl
filled_all (suc n) e = ap (λ l. Some e ∷ l) (filled_all n e)

pub filled_values : (n : ℕ) (e : TableEntry) → values (filled n 0 e) ≡ replicate n e
filled_values n e = ap values (filled_all n e) ∙ values_some (replicate n e)

pub filled_full : (n : ℕ) (e : TableEntry) → IsFull (filled n 0 e)
unfolding IsFull
filled_full n e = filled_all n e ∙ ap (λ l. map Some l) (sym (filled_values n e))

pub filled_length : (n rest : ℕ) (e : TableEntry) → length (filled n rest e) ≡ n + rest
unfolding filled
filled_length zero rest e = length-replicate {A = Option TableEntry} rest None ∙ omega arith
filled_length (suc n) rest e = omega (arith, filled_length n rest e)
