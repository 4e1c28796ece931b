-- Many stretches, each as a row and what stands beside it.
use Rattle.std.proofs.Common.{◌≡◌, ℕ, zero, suc, Some, ◌<◌, List, [], ◌∷◌, ◌++◌, length, replicate, take, get_or, slice_get, refl, sym, ap, ◌∙◌, subst, arith, append_assoc}
use Rattle.std.proofs.lemmas.List.{append-nil}
use Rattle.x_steps.specs.StateValue.{StateValue}
use Rattle.x_codes.specs.StateCode.{path_code, paths_code, paths_of, paths_rest, state_code, state_of, state_rest}
use Rattle.x_codes.specs.StateCode.{after_code, after_of, ReadsPath, ReadsPaths, ReadsState, ReadsAfter}
use Rattle.x_branches.specs.Stretch.{StretchValue, KeepsStretch, HeadValue, KeepsRow, KeepsRows}
use Rattle.x_branches.specs.Stretch.{counts_of, counts_rest, kept_value, kept_values, kept_ends, kept_visits, kept_levels, visits_of_stretch, levels_of_stretch}

-- as many as there are rows
pub kept_long : (hs : List HeadValue) (rows : List (List ℕ)) → KeepsRows hs rows → (length hs ≡ length rows) × (length (kept_values hs rows) ≡ length rows)
kept_long [] [] k = (refl, refl)
kept_long (h ∷ hs) [] k = absurd k
kept_long [] (ns ∷ rows) k = absurd k
kept_long (h ∷ hs) (ns ∷ rows) k = let r = kept_long hs rows k.1 in (ap suc r.0, ap suc r.1)

-- one more
pub kept_more : (hs : List HeadValue) (rows : List (List ℕ)) (h : HeadValue) (ns : List ℕ) → KeepsRows hs rows → KeepsRow h.problem ns h.steps
    → KeepsRows (hs ++ h ∷ []) (rows ++ ns ∷ []) × (kept_values (hs ++ h ∷ []) (rows ++ ns ∷ []) ≡ kept_values hs rows ++ kept_value h.problem ns ∷ [])
kept_more [] [] h ns k r = ((r, tt), refl)
kept_more (g ∷ hs) [] h ns k r = absurd k
kept_more [] (ms ∷ rows) h ns k r = absurd k
kept_more (g ∷ hs) (ms ∷ rows) h ns k r =
    let m = kept_more hs rows h ns k.1 r in ((k.0, m.0), ap (λ xs. kept_value g.problem ms ∷ xs) m.1)

-- the one at a place
pub record IsKept (hs : List HeadValue) (rows : List (List ℕ)) (k : ℕ) (h : HeadValue) : Type 0 where
  pub row : KeepsRow h.problem (get_or rows k []) h.steps
  pub value : slice_get (kept_values hs rows) k ≡ Some (kept_value h.problem (get_or rows k []))

pub kept_at : (hs : List HeadValue) (rows : List (List ℕ)) (k : ℕ) (h d : HeadValue) → KeepsRows hs rows → k < length hs → h ≡ get_or hs k d → IsKept hs rows k h
kept_at [] [] k h d r l e = absurd (omega arith)
kept_at (g ∷ hs) [] k h d r l e = absurd r
kept_at [] (ms ∷ rows) k h d r l e = absurd r
kept_at (g ∷ hs) (ms ∷ rows) zero h d r l e =
    record {
      row = subst (λ (x : HeadValue). KeepsRow x.problem ms x.steps) (sym e) r.0;
      value = ap (λ (x : HeadValue). Some (kept_value x.problem ms)) (sym e);
    }
kept_at (g ∷ hs) (ms ∷ rows) (suc k) h d r l e = let i = kept_at hs rows k h d r.1 (omega arith) e in record { row = i.row; value = i.value }

-- the first ones
pub kept_first : (k : ℕ) (hs : List HeadValue) (rows : List (List ℕ)) → KeepsRows hs rows
    → KeepsRows (take k hs) (take k rows) × (kept_values (take k hs) (take k rows) ≡ take k (kept_values hs rows))
kept_first zero hs rows k = (tt, refl)
kept_first (suc n) [] [] k = (tt, refl)
kept_first (suc n) (h ∷ hs) [] k = absurd k
kept_first (suc n) [] (ns ∷ rows) k = absurd k
kept_first (suc n) (h ∷ hs) (ns ∷ rows) k =
    let r = kept_first n hs rows k.1 in ((k.0, r.0), ap (λ xs. kept_value h.problem ns ∷ xs) r.1)

-- ---- one stretch

-- the row of a stretch tells it
pub keeps_packed : (s : StretchValue) (ns : List ℕ) (steps : ℕ) (visits : List (List ℕ)) (levels : List ℕ) → KeepsStretch s.problem s.from s.to steps visits levels
    → kept_value s.problem ns ≡ s → kept_visits ns ≡ visits_of_stretch s → kept_levels ns ≡ levels_of_stretch s → KeepsRow s.problem ns steps
keeps_packed s ns steps visits levels k e v l =
    let whole = subst (λ (x : StretchValue). KeepsStretch x.problem x.from x.to steps visits levels) (sym e) k in
    record {
      order = whole.order;
      steps_are = whole.steps_are;
      visits_are = v ∙ ap visits_of_stretch (sym e);
      levels_are = l ∙ ap levels_of_stretch (sym e);
    }

-- what a row tells that was put part by part
pub record IsPacked (ns : List ℕ) (vs : List (List ℕ)) (ls : List ℕ) (s t : StateValue) : Type 0 where
  pub visits : kept_visits ns ≡ vs
  pub levels : kept_levels ns ≡ ls
  pub from : state_of (kept_ends ns) ≡ s
  pub to : after_of (state_of (kept_ends ns)).path (state_rest (kept_ends ns)) ≡ t

pub packed_is : (zeros : ℕ) (front counts levels : List ℕ) (visits : List (List ℕ)) (from to : StateValue) (before none one two three four ns : List ℕ)
    → levels ≡ front ++ counts → front ≡ replicate zeros 0 → ReadsPath counts → ReadsPaths visits → ReadsState from → ReadsAfter before to → before ≡ from.path
    → none ≡ [] → one ≡ none ++ zeros ∷ [] → two ≡ one ++ path_code counts → three ≡ two ++ paths_code visits → four ≡ three ++ state_code from
    → ns ≡ four ++ after_code before to → IsPacked ns visits levels from to
packed_is zeros front counts levels visits from to before none one two three four ns l f rl rv rf rt b e0 e1 e2 e3 e4 e5 =
    let last = after_code before to in
    let ends = state_code from ++ (last ++ []) in
    let told = paths_code visits ++ ends in
    let whole : ns ≡ zeros ∷ (path_code counts ++ told) =
    e5 ∙ ap (λ xs. xs ++ last) (e4 ∙ ap (λ xs. xs ++ state_code from) (e3 ∙ ap (λ xs. xs ++ paths_code visits)
    (e2 ∙ ap (λ xs. xs ++ path_code counts) (e1 ∙ ap (λ xs. xs ++ zeros ∷ []) e0))))
    ∙ append_assoc (zeros ∷ (path_code counts ++ paths_code visits)) (state_code from) last
    ∙ ap (λ xs. zeros ∷ xs) (append_assoc (path_code counts) (paths_code visits) (state_code from ++ last))
    ∙ ap (λ xs. zeros ∷ (path_code counts ++ (paths_code visits ++ (state_code from ++ xs)))) (sym (append-nil last)) in
    let after_counts : counts_rest ns ≡ told = ap counts_rest whole ∙ (rl told).1 in
    let after_visits : kept_ends ns ≡ ends = ap paths_rest after_counts ∙ (rv ends).1 in
    let first : state_of (kept_ends ns) ≡ from = ap state_of after_visits ∙ (rf (last ++ [])).0 in
    record {
      visits = ap paths_of after_counts ∙ (rv ends).0;
      levels = ap counts_of whole ∙ ap (λ xs. replicate zeros 0 ++ xs) (rl told).0
          ∙ sym (l ∙ ap (λ xs. xs ++ counts) f);
      from = first;
      to = (λ j. after_of ((ap (λ (s : StateValue). s.path) first ∙ sym b) j) ((ap state_rest after_visits ∙ (rf (last ++ [])).1) j)) ∙ (rt []).0;
    }
