-- What was posted of a tiling is told by its open tiles: between them all is posted.
use Rattle.std.proofs.Common.{◌≡◌, ℕ, ◌+◌, ◌≤◌, Bool, true, false, not, Option, Some, List, [], ◌∷◌, ◌++◌, length, map, refl, sym, ap}
use Rattle.std.proofs.Common.{ap₂, ◌∙◌}
use Rattle.std.proofs.Common.{subst, arith, append-nil, append_assoc}
use Rattle.std.specs.List.{sum_by}
use Rattle.std.proofs.lemmas.List.Concat.{flat_map-cons}
use Rattle.std.proofs.lemmas.List.Sums.{sum_by-cons}
use Rattle.shared_words.specs.Lists.{numbers}
use Rattle.cover_problem.specs.Problem.{ProblemValue}
use Rattle.x_steps.specs.StateValue.{StateValue}
use Rattle.x_steps.specs.Steps.{Fits}
use Rattle.x_steps.specs.Levels.{without_last_zeros}
use Rattle.x_steps.specs.Run.{visits_between, steps_between, states_between, level_count}
use Rattle.x_steps.specs.Rank.{rank}
use Rattle.x_steps.proofs.BetweenLemmas.{visits_between_self, visits_between_join, steps_between_self, steps_between_join}
use Rattle.x_steps.proofs.BetweenLemmas.{states_between_self, level_count_between}
use Rattle.x_branches.specs.Cut.{CutPath, cut_state}
use Rattle.x_branches.specs.Branch.{end_of}
use Rattle.x_branches.specs.Stretch.{StretchValue}
use Rattle.lab_book.specs.declared.status.Status.TheVariants.{Closed}
use Rattle.lab_book.specs.Tile.{TileValue, IsTile, is_closed, mark_of, tile_end}
use Rattle.lab_book.specs.Tiling.{AreTiles, IsTiling}
use Rattle.lab_book.specs.Book.{BookValue}
use Rattle.lab_book.specs.Posted.{stretch_visits, posted_visits, posted_steps, posted_level, posted_levels}
use Rattle.lab_book.proofs.TileLemmas.{end_fits}
use Rattle.lab_book.proofs.PostedLemmas.{Reaches, joined_is, closed_end, tile_first, tile_up}
use Rattle.lab_book_laws.specs.AlikeBooks.{AreAlikeBooks, anonymous_tile, open_tiles}
use Rattle.lab_book_laws.proofs.FilterLemmas.{kept, left_out}
use Rattle.lab_book_laws.proofs.StatusLemmas.{is_open_tile, closed_is}

-- ---- the next mark that isn't passed

-- where the first of these tiles begins, or else the end
pub next_mark : List TileValue → StateValue → StateValue
next_mark [] e = e
next_mark (t ∷ ts) e = t.first

open_more : (t : TileValue) (ts : List TileValue) → is_closed t.status ≡ false → open_tiles (t ∷ ts) ≡ t ∷ open_tiles ts
open_more t ts e = kept is_open_tile t ts (ap not e)

open_less : (t : TileValue) (ts : List TileValue) → is_closed t.status ≡ true → open_tiles (t ∷ ts) ≡ open_tiles ts
open_less t ts e = left_out is_open_tile t ts (ap not e)

-- the tiles up to there are closed: it is reached from the first mark
module _ (p : ProblemValue) where
  begins_there : (first : StateValue) (t : TileValue) → IsTile p t → t.first ≡ first → Reaches p first t.first
  begins_there first t i e = subst (λ (s : StateValue). Reaches p s t.first) e
      (record { from = end_fits p _ t.first i.begins; to = end_fits p _ t.first i.begins; up = omega arith })

  pub mark_reached : (lo : Option CutPath) (first : StateValue) (ts : List TileValue) (hi : Option CutPath) → AreTiles p lo first ts hi
      → Reaches p first (next_mark (open_tiles ts) (end_of hi))
  unfolding next_mark
  mark_reached lo first [] hi a = absurd a
  mark_reached lo first (t ∷ []) hi a = by (is_closed t.status) refl
    where
      by : (b : Bool) → is_closed t.status ≡ b → Reaches p first (next_mark (open_tiles (t ∷ [])) (end_of hi))
      by true e = subst (λ (os : List TileValue). Reaches p first (next_mark os (end_of hi))) (sym (open_less t [] e))
          (subst (λ (x : StateValue × Option CutPath). Reaches p x.0 (end_of x.1)) (λ j. (a.1 j, a.3 j))
          (record {
            from = tile_first p t a.2 (closed_is t.status e);
            to = end_fits p (mark_of t) (tile_end t) a.2.within;
            up = tile_up p t a.2 (closed_is t.status e);
          }))
      by false e = subst (λ (os : List TileValue). Reaches p first (next_mark os (end_of hi))) (sym (open_more t [] e))
          (begins_there first t a.2 a.1)
  mark_reached lo first (t ∷ u ∷ ts) hi a = by (is_closed t.status) refl (mark_reached (Some a.3) (cut_state a.3.path) (u ∷ ts) hi a.5)
    where
      by : (b : Bool) → is_closed t.status ≡ b → Reaches p (cut_state a.3.path) (next_mark (open_tiles (u ∷ ts)) (end_of hi))
          → Reaches p first (next_mark (open_tiles (t ∷ u ∷ ts)) (end_of hi))
      by true e r =
          let here : rank p t.first ≤ rank p (cut_state a.3.path) =
          subst (λ (h : Option CutPath). rank p t.first ≤ rank p (end_of h)) a.4 (tile_up p t a.2 (closed_is t.status e)) in
          let more = r.up in
          subst (λ (os : List TileValue). Reaches p first (next_mark os (end_of hi))) (sym (open_less t (u ∷ ts) e))
          (subst (λ (s : StateValue). Reaches p s (next_mark (open_tiles (u ∷ ts)) (end_of hi))) a.1
          (record { from = tile_first p t a.2 (closed_is t.status e); to = r.to; up = omega arith }))
      by false e r = subst (λ (os : List TileValue). Reaches p first (next_mark os (end_of hi))) (sym (open_more t (u ∷ ts) e))
          (begins_there first t a.2 a.1)

-- ---- what tells of two states, and adds up where stretches join

module _ {M : Type 0} (plus : M → M → M) (nil : M) (plus_nil : (m : M) → plus m nil ≡ m) (nil_plus : (m : M) → plus nil m ≡ m)
    (assoc : (a b c : M) → plus (plus a b) c ≡ plus a (plus b c)) (of : ProblemValue → StateValue → StateValue → M)
    (none : (p : ProblemValue) (s : StateValue) → Fits p s → of p s s ≡ nil)
    (join : (p : ProblemValue) (s t u : StateValue) → Fits p s → Fits p t → Fits p u → rank p s ≤ rank p t → rank p t ≤ rank p u
    → of p s u ≡ plus (of p s t) (of p t u))
    (all : List StretchValue → M) (all_none : all [] ≡ nil)
    (all_more : (x : StretchValue) (xs : List StretchValue) → all (x ∷ xs) ≡ plus (of x.problem x.from x.to) (all xs)) where
  -- from a state to an end, by the open tiles between: all up to the first one, what is posted of it, and so on from its end
  abbrev told : ProblemValue → StateValue → List TileValue → StateValue → M
  told p s [] e = of p s e
  told p s (t ∷ ts) e = plus (of p s t.first) (plus (all t.stretches) (told p (tile_end t) ts e))

  -- ids and leases tell nothing
  told_anonymous : (p : ProblemValue) (s : StateValue) (ts : List TileValue) (e : StateValue)
      → told p s (map anonymous_tile ts) e ≡ told p s ts e
  told_anonymous p s [] e = refl
  told_anonymous p s (t ∷ ts) e = ap (λ (m : M). plus (of p s t.first) (plus (all t.stretches) m)) (told_anonymous p (tile_end t) ts e)

  -- a state on the way
  told_from : (p : ProblemValue) (s m : StateValue) (ts : List TileValue) (e : StateValue) → Fits p s → Fits p m → Fits p (next_mark ts e)
      → rank p s ≤ rank p m → rank p m ≤ rank p (next_mark ts e) → plus (of p s m) (told p m ts e) ≡ told p s ts e
  unfolding next_mark
  told_from p s m [] e f g h a b = sym (join p s m e f g h a b)
  told_from p s m (t ∷ ts) e f g h a b =
      sym (assoc (of p s m) (of p m t.first) (plus (all t.stretches) (told p (tile_end t) ts e)))
      ∙ ap (λ (x : M). plus x (plus (all t.stretches) (told p (tile_end t) ts e))) (sym (join p s m t.first f g h a b))

  module _ (posted : List TileValue → M) (posted_none : posted [] ≡ nil)
      (posted_more : (t : TileValue) (ts : List TileValue) → posted (t ∷ ts) ≡ plus (all t.stretches) (posted ts)) where
    -- a tile that is closed goes from its first mark to its end
    whole : (p : ProblemValue) (t : TileValue) → IsTile p t → t.status ≡ Closed → all t.stretches ≡ of p t.first (tile_end t)
    whole p t i closed =
        joined_is plus nil plus_nil of none join all all_none all_more p t.first t.stretches i.joins (tile_first p t i closed)
        ∙ ap (of p t.first) (closed_end p t i closed)

    -- an open tile that begins where it is told from
    told_open : (p : ProblemValue) (first : StateValue) (t : TileValue) (ts : List TileValue) (e : StateValue) → IsTile p t
        → t.first ≡ first
        → told p first (t ∷ ts) e ≡ plus (all t.stretches) (told p (tile_end t) ts e)
    told_open p first t ts e i is =
        let rest = plus (all t.stretches) (told p (tile_end t) ts e) in
        ap (λ (s : StateValue). plus (of p s t.first) rest) (sym is)
        ∙ ap (λ (m : M). plus m rest) (none p t.first (end_fits p _ t.first i.begins))
        ∙ nil_plus rest

    pub posted_told : (p : ProblemValue) (lo : Option CutPath) (first : StateValue) (ts : List TileValue) (hi : Option CutPath)
        → AreTiles p lo first ts hi → posted ts ≡ told p first (open_tiles ts) (end_of hi)
    posted_told p lo first [] hi a = absurd a
    posted_told p lo first (t ∷ []) hi a =
        posted_more t [] ∙ ap (plus (all t.stretches)) posted_none ∙ plus_nil (all t.stretches) ∙ by (is_closed t.status) refl
      where
        by : (b : Bool) → is_closed t.status ≡ b → all t.stretches ≡ told p first (open_tiles (t ∷ [])) (end_of hi)
        by true e = whole p t a.2 (closed_is t.status e) ∙ ap₂ (λ (s : StateValue) (h : Option CutPath). of p s (end_of h)) a.1 a.3
            ∙ ap (λ (os : List TileValue). told p first os (end_of hi)) (sym (open_less t [] e))
        by false e =
            sym (plus_nil (all t.stretches))
            ∙ ap (plus (all t.stretches)) (sym (none p (tile_end t) (end_fits p (mark_of t) (tile_end t) a.2.within)))
            ∙ ap (λ (h : Option CutPath). plus (all t.stretches) (of p (tile_end t) (end_of h))) a.3
            ∙ sym (told_open p first t [] (end_of hi) a.2 a.1)
            ∙ ap (λ (os : List TileValue). told p first os (end_of hi)) (sym (open_more t [] e))
    posted_told p lo first (t ∷ u ∷ ts) hi a =
        posted_more t (u ∷ ts)
        ∙ ap (plus (all t.stretches)) (posted_told p (Some a.3) (cut_state a.3.path) (u ∷ ts) hi a.5)
        ∙ by (is_closed t.status) refl (mark_reached p (Some a.3) (cut_state a.3.path) (u ∷ ts) hi a.5)
      where
        by : (b : Bool) → is_closed t.status ≡ b → Reaches p (cut_state a.3.path) (next_mark (open_tiles (u ∷ ts)) (end_of hi))
            → plus (all t.stretches) (told p (cut_state a.3.path) (open_tiles (u ∷ ts)) (end_of hi))
            ≡ told p first (open_tiles (t ∷ u ∷ ts)) (end_of hi)
        by true e r =
            let here : all t.stretches ≡ of p first (cut_state a.3.path) =
            whole p t a.2 (closed_is t.status e) ∙ ap₂ (λ (s : StateValue) (h : Option CutPath). of p s (end_of h)) a.1 a.4 in
            let up : rank p first ≤ rank p (cut_state a.3.path) =
            subst (λ (x : StateValue × Option CutPath). rank p x.0 ≤ rank p (end_of x.1)) (λ j. (a.1 j, a.4 j))
            (tile_up p t a.2 (closed_is t.status e)) in
            let fits : Fits p first = subst (Fits p) a.1 (tile_first p t a.2 (closed_is t.status e)) in
            ap (λ (m : M). plus m (told p (cut_state a.3.path) (open_tiles (u ∷ ts)) (end_of hi))) here
            ∙ told_from p first (cut_state a.3.path) (open_tiles (u ∷ ts)) (end_of hi) fits r.from r.to up r.up
            ∙ ap (λ (os : List TileValue). told p first os (end_of hi)) (sym (open_less t (u ∷ ts) e))
        by false e r =
            ap (λ (h : Option CutPath). plus (all t.stretches) (told p (end_of h) (open_tiles (u ∷ ts)) (end_of hi))) (sym a.4)
            ∙ sym (told_open p first t (open_tiles (u ∷ ts)) (end_of hi) a.2 a.1)
            ∙ ap (λ (os : List TileValue). told p first os (end_of hi)) (sym (open_more t (u ∷ ts) e))

    -- of alike tilings the same was posted
    pub posted_alike : (a b : BookValue) → IsTiling a.problem a.branch a.first a.tiles → IsTiling b.problem b.branch b.first b.tiles
        → AreAlikeBooks a b → posted a.tiles ≡ posted b.tiles
    posted_alike a b s t k =
        posted_told a.problem a.branch.lo a.first a.tiles a.branch.hi s.tiles
        ∙ sym (told_anonymous a.problem a.first (open_tiles a.tiles) (end_of a.branch.hi))
        ∙ (λ j. told (k.problem j) (k.first j) (k.tiles j) (end_of (k.branch j).hi))
        ∙ told_anonymous b.problem b.first (open_tiles b.tiles) (end_of b.branch.hi)
        ∙ sym (posted_told b.problem b.branch.lo b.first b.tiles b.branch.hi t.tiles)

-- ---- visits, steps and levels

module _ (a b : BookValue) (s : IsTiling a.problem a.branch a.first a.tiles) (t : IsTiling b.problem b.branch b.first b.tiles)
    (k : AreAlikeBooks a b) where
  pub visits_alike : posted_visits a.tiles ≡ posted_visits b.tiles
  visits_alike =
      posted_alike (λ (vs ws : List (List ℕ)). vs ++ ws) [] append-nil (λ ws. refl) append_assoc visits_between visits_between_self
      visits_between_join stretch_visits refl (flat_map-cons (λ (x : StretchValue). visits_between x.problem x.from x.to))
      posted_visits refl (flat_map-cons (λ (t : TileValue). stretch_visits t.stretches)) a b s t k

  sum_alike : (of : ProblemValue → StateValue → StateValue → ℕ) → ((p : ProblemValue) (s : StateValue) → Fits p s → of p s s ≡ 0)
      → ((p : ProblemValue) (s t u : StateValue) → Fits p s → Fits p t → Fits p u → rank p s ≤ rank p t → rank p t ≤ rank p u
      → of p s u ≡ of p s t + of p t u)
      → sum_by (λ (t : TileValue). sum_by (λ (x : StretchValue). of x.problem x.from x.to) t.stretches) a.tiles
      ≡ sum_by (λ (t : TileValue). sum_by (λ (x : StretchValue). of x.problem x.from x.to) t.stretches) b.tiles
  sum_alike of none join =
      let told_of = λ (x : StretchValue). of x.problem x.from x.to in
      posted_alike (λ (m n : ℕ). m + n) 0 (λ n. omega arith) (λ n. omega arith) (λ m n o. omega arith) of none join (sum_by told_of) refl
      (sum_by-cons told_of) (sum_by (λ (t : TileValue). sum_by told_of t.stretches)) refl
      (sum_by-cons (λ (t : TileValue). sum_by told_of t.stretches)) a b s t k

  pub steps_alike : posted_steps a.tiles ≡ posted_steps b.tiles
  steps_alike = sum_alike steps_between steps_between_self
      (λ p s t u f g h x y. let e = steps_between_join p s t u f g h x y in omega arith)

  level_alike : (level : ℕ) → posted_level a.tiles level ≡ posted_level b.tiles level
  level_alike level =
      sum_alike (λ p s t. level_count (states_between p s t) level) (λ p s f. ap (λ ss. level_count ss level) (states_between_self p s f))
      (λ p s t u f g h x y. level_count_between p s t u level f g h x y)

  pub levels_alike : posted_levels a.problem a.tiles ≡ posted_levels b.problem b.tiles
  levels_alike = λ j. without_last_zeros (map (λ (level : ℕ). level_alike level j) (numbers (length (k.problem j).names + 1) 0))
