-- What a loop over a list needs of `each`, and the laws of it.
use Rattle.std.proofs.Common.{◌≡◌, List, [], ◌∷◌, ◌++◌, refl, sym, ◌∙◌, ap, Result, Ok, Err}
use Rattle.text_lines.specs.Each.{each, ◌>>=◌, GoesThrough, Fails}
use Rattle.text_lines.proofs.ResultLemmas.{ok_is, bind_ok}

-- a loop that has come to the state s with xs to go, where the whole gives `all`
module _ {S X F : Type 0} (step : S → X → Result S F) (s : S) (xs : List X) (all : Result S F) (so_far : each step s xs ≡ all) where
  -- one step that goes on
  pub each_goes : (x : X) (more : List X) (t : S) → xs ≡ x ∷ more → step s x ≡ Ok t → each step t more ≡ all
  unfolding each
  each_goes x more t e goes = sym (rw e (rw goes refl)) ∙ so_far

  -- one step that has a fault
  pub each_stops : (x : X) (more : List X) (f : F) → xs ≡ x ∷ more → step s x ≡ Err f → all ≡ Err f
  unfolding each
  each_stops x more f e fails = sym so_far ∙ rw e (rw fails refl)

  -- nothing to go
  pub each_ends : xs ≡ [] → all ≡ Ok s
  unfolding each
  each_ends e = sym so_far ∙ rw e refl

-- *steps that gave something*

-- the first step did, and the others from what it left
pub each_parts : {S X F : Type 0} (step : S → X → Result S F) (s : S) (x : X) (xs : List X) (y : S) → each step s (x ∷ xs) ≡ Ok y → (t : S) × (step s x ≡ Ok t) × (each step t xs ≡ Ok y)
unfolding each
each_parts step s x xs y h = bind_ok (step s x) (λ t. each step t xs) y h

pub each_none : {S X F : Type 0} (step : S → X → Result S F) (s y : S) → each step s [] ≡ Ok y → s ≡ y
unfolding each
each_none step s y h = ok_is s y h

-- *the laws*

module _ {S X F : Type 0} (step : S → X → Result S F) where
  -- first some, then the others from what they left
  pub each-append : (xs ys : List X) (s : S) → each step s (xs ++ ys) ≡ (each step s xs >>= λ t. each step t ys)
  unfolding each
  each-append [] ys s = refl
  each-append (x ∷ xs) ys s = append_step xs ys (step s x) (each-append xs ys)
    where
      append_step : (xs ys : List X) (r : Result S F) → ((s : S) → each step s (xs ++ ys) ≡ (each step s xs >>= λ t. each step t ys)) → (r >>= λ u. each step u (xs ++ ys)) ≡ ((r >>= λ u. each step u xs) >>= λ t. each step t ys)
      append_step xs ys (Ok u) h = h u
      append_step xs ys (Err f) h = refl

  leads_step : (x : X) (xs : List X) (s t : S) (r : Result S F) → step s x ≡ r → ((u : S) → each step u xs ≡ Ok t → GoesThrough step u xs t) → (r >>= λ u. each step u xs) ≡ Ok t → GoesThrough step s (x ∷ xs) t
  leads_step x xs s t (Ok u) e later h = (u, e, later u h)
  leads_step x xs s t (Err f) e later h = cc

  pub leads : (xs : List X) (s t : S) → each step s xs ≡ Ok t → GoesThrough step s xs t
  unfolding each
  leads [] s t h = cc
  leads (x ∷ xs) s t h = leads_step x xs s t (step s x) refl (λ u. leads xs u t) h

  pub from_leads : (xs : List X) (s t : S) → GoesThrough step s xs t → each step s xs ≡ Ok t
  unfolding each
  from_leads [] s t h = ap (λ u. Ok u) h
  from_leads (x ∷ xs) s t (u, e, later) = rw e (from_leads xs u t later)

  fails_later : (x : X) (xs : List X) (s u : S) (f : F) → step s x ≡ Ok u → Fails step u xs f → Fails step s (x ∷ xs) f
  unfolding each
  fails_later x xs s u f e (front, y, rest, t, parts, goes, stops) = (x ∷ front, y, rest, t, ap (λ ys. x ∷ ys) parts, rw e goes, stops)

  fails_step : (x : X) (xs : List X) (s : S) (f : F) (r : Result S F) → step s x ≡ r → ((u : S) → each step u xs ≡ Err f → Fails step u xs f) → (r >>= λ u. each step u xs) ≡ Err f → Fails step s (x ∷ xs) f
  unfolding each
  fails_step x xs s f (Ok u) e later h = fails_later x xs s u f e (later u h)
  fails_step x xs s f (Err g) e later h = ([], x, xs, s, refl, refl, e ∙ h)

  pub fails : (xs : List X) (s : S) (f : F) → each step s xs ≡ Err f → Fails step s xs f
  unfolding each
  fails [] s f h = cc
  fails (x ∷ xs) s f h = fails_step x xs s f (step s x) refl (λ u. fails xs u f) h

  pub from_fails : (xs : List X) (s : S) (f : F) → Fails step s xs f → each step s xs ≡ Err f
  unfolding each
  from_fails xs s f (front, x, rest, t, parts, goes, stops) = rw parts (each-append front (x ∷ rest) s ∙ rw goes (rw stops refl))

  -- what holds of each step's fault holds of the fault that is found
  pub each_fault : (Q : F → Type 0) → ((s : S) (x : X) (f : F) → step s x ≡ Err f → Q f) → (xs : List X) (s : S) (f : F) → each step s xs ≡ Err f → Q f
  each_fault Q each_has xs s f h = found (fails xs s f h)
    where
      found : Fails step s xs f → Q f
      found (front, x, rest, t, parts, goes, stops) = each_has t x f stops

  -- one step, and none
  pub each_step : (s t : S) (x : X) (xs : List X) → step s x ≡ Ok t → each step s (x ∷ xs) ≡ each step t xs
  unfolding each
  each_step s t x xs h = rw h refl

  pub each_nothing : (s : S) → each step s [] ≡ Ok s
  unfolding each
  each_nothing s = refl
