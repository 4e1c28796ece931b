-- A call that is made keeps what is true of a book.
use Rattle.std.proofs.Common.{◌≡◌, ℕ, ◌⊎◌, Bool, true, false, Option, Some, None, Result, Ok, Err, List, [], ◌∷◌, ◌++◌, refl, sym, ap, ◌∙◌}
use Rattle.std.proofs.Common.{subst, inl, inr}
use Rattle.lab_history.specs.declared.grant.Grant.{Grant}
use Rattle.lab_history.specs.declared.fault.BookFault.{BookFault}
use Rattle.lab_history.specs.declared.fault.BookFault.TheVariants.{OutOfMemory}
use Rattle.lab_history.specs.declared.entry.Call.{Call}
use Rattle.lab_history.specs.declared.entry.Reply.{Reply}
use Rattle.lab_history.specs.declared.entry.Entry.{Entry}
use Rattle.lab_book.specs.Tile.{TileValue, is_lease}
use Rattle.lab_book.specs.Tiling.{tile_at, IsTiling}
use Rattle.lab_book.specs.Book.{BookValue, Outcome, outcome, book_step, new_book, replayed, leased_in, found, checked, unless, tile_place}
use Rattle.lab_book.specs.Book.{lease_fault, else_fault, made_at, refused, IsBook, KeepsBook}
use Rattle.lab_book.specs.Calls.{Made, Judged}

-- ---- the fold of the calls

replayed_push : (b : BookValue) (es : List Entry) (e : Entry) → replayed b (es ++ e ∷ []) ≡ book_step (replayed b es) e.worker e.call
replayed_push b [] e = refl
replayed_push b (x ∷ xs) e = replayed_push (book_step b x.worker x.call) xs e

step_is_book : (b : BookValue) (w : ℕ) (c : Call) → IsBook b → IsTiling b.problem b.branch b.first (outcome b w c).tiles
    → IsBook (book_step b w c)
step_is_book b w c i t = record {
  tiling = t;
  replay = replayed_push (new_book b.problem b.branch b.first) b.history (record { worker = w; call = c; reply = (outcome b w c).reply })
      ∙ ap (λ (x : BookValue). book_step x w c) i.replay;
}

-- a book after a call, in its parts
abbrev with_parts : BookValue → List TileValue → List Entry → BookValue
with_parts b ts h = record { problem = b.problem; branch = b.branch; first = b.first; tiles = ts; history = h }

module _ (b : BookValue) (w : ℕ) (c : Call) (r : Reply) (o : Outcome) (ts : List TileValue) (h : List Entry) (is : outcome b w c ≡ o)
    (answer : r ≡ o.reply) (tiles : ts ≡ o.tiles) (history : h ≡ b.history ++ record { worker = w; call = c; reply = r } ∷ []) where
  step_is : with_parts b ts h ≡ book_step b w c
  step_is =
      let t : ts ≡ (outcome b w c).tiles = tiles ∙ ap (λ (o : Outcome). o.tiles) (sym is) in
      let a : r ≡ (outcome b w c).reply = answer ∙ ap (λ (o : Outcome). o.reply) (sym is) in
      let e : h ≡ b.history ++ record { worker = w; call = c; reply = (outcome b w c).reply } ∷ [] = history
      ∙ ap (λ (r : Reply). b.history ++ record { worker = w; call = c; reply = r } ∷ []) a in
      λ i. with_parts b (t i) (e i)

  pub made_by : Made b (record { problem = b.problem; branch = b.branch; first = b.first; tiles = ts; history = h }) w c r
  made_by = record { book = step_is; reply = answer ∙ ap (λ (o : Outcome). o.reply) (sym is) }

  pub kept_by : (kept left : ℕ) → KeepsBook b kept → IsTiling b.problem b.branch b.first o.tiles → left ≡ leased_in ts
      → KeepsBook (record { problem = b.problem; branch = b.branch; first = b.first; tiles = ts; history = h }) left
  kept_by kept left k t l = record {
    sound = subst IsBook (sym step_is) (step_is_book b w c k.sound
        (subst (λ (o : Outcome). IsTiling b.problem b.branch b.first o.tiles) (sym is) t));
    room = l;
  }

-- ---- the place that a call finds

-- an answer that isn't OutOfMemory is the right one
pub judged_ok : (r s : Result ℕ BookFault) (i : ℕ) → Judged r s → r ≡ Ok i → s ≡ Ok i
judged_ok r s i (inl a) e = absurd (cc)
judged_ok r s i (inr a) e = sym a ∙ e

-- a fault that was found is OutOfMemory, or the call's refusal
pub judged_err : (b : BookValue) (w : ℕ) (c : Call) (change : ℕ → Outcome) (r s : Result ℕ BookFault) (f : BookFault)
    → outcome b w c ≡ made_at b.tiles change s → Judged r s → r ≡ Err f → (f ≡ OutOfMemory) ⊎ (outcome b w c ≡ refused b.tiles f)
judged_err b w c change r s f o (inl a) e = inl (cc)
judged_err b w c change r s f o (inr a) e = inr (o ∙ ap (made_at b.tiles change) (sym a ∙ e))

-- the same of a fault that is judged by itself
pub judged_fault : (b : BookValue) (w : ℕ) (c : Call) (change : ℕ → Outcome) (s : Result ℕ BookFault) (f : BookFault)
    → outcome b w c ≡ made_at b.tiles change s → (f ≡ OutOfMemory) ⊎ (s ≡ Err f)
    → (f ≡ OutOfMemory) ⊎ (outcome b w c ≡ refused b.tiles f)
judged_fault b w c change s f o (inl a) = inl a
judged_fault b w c change s f o (inr a) = inr (o ∙ ap (made_at b.tiles change) a)

-- what is found and then passes further checks of the tile
pub found_more : (ts : List TileValue) (g : Grant) (more : TileValue → Option BookFault) (i : ℕ)
    → found ts g.id (λ t. lease_fault g t None) ≡ Ok i → found ts g.id (λ t. lease_fault g t (more t)) ≡ unless i (more (tile_at ts i))
found_more ts g more i = by (tile_place g.id ts)
  where
    at : (j : ℕ) (b : Bool) (f : BookFault) (next : Option BookFault) → unless j (else_fault b f None) ≡ Ok i
        → (j ≡ i) × (unless j (else_fault b f next) ≡ unless j next)
    at j true f next e = (cc, refl)
    at j false f next e = absurd (cc)

    by : (place : Option ℕ) → checked ts (λ t. lease_fault g t None) place ≡ Ok i
        → checked ts (λ t. lease_fault g t (more t)) place ≡ unless i (more (tile_at ts i))
    by None e = absurd (cc)
    by (Some j) e =
        let a = at j (is_lease (tile_at ts j).status g) _ (more (tile_at ts j)) e in
        a.1 ∙ ap (λ (k : ℕ). unless k (more (tile_at ts k))) a.0
