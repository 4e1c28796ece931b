-- The posted visits rise in path order: they are some of the visits from the first mark to the end.
use Rattle.std.proofs.Common.{◌≡◌, ℕ, ◌≤◌, ◌⊎◌, Option, Some, List, [], ◌∷◌, ◌++◌, refl, sym, ap, ◌∙◌, subst, inl, inr, arith, append_assoc}
use Rattle.std.proofs.lemmas.List.Concat.{flat_map-cons}
use Rattle.cover_problem.specs.Problem.{ProblemValue}
use Rattle.x_steps.specs.StateValue.{StateValue}
use Rattle.x_steps.specs.Steps.{Fits}
use Rattle.x_steps.specs.Order.{PathLess, AllAfter, PathsRise}
use Rattle.x_steps.specs.Run.{visits_between, steps_between}
use Rattle.x_steps.specs.Rank.{rank}
use Rattle.x_steps.proofs.BetweenLemmas.{visits_between_join}
use Rattle.x_steps.proofs.RunLemmas.{leads_to}
use Rattle.x_steps.proofs.VisitLemmas.{visits_rise_from}
use Rattle.x_branches.specs.Cut.{CutPath, cut_state}
use Rattle.x_branches.specs.Branch.{end_of}
use Rattle.lab_book.specs.Tile.{TileValue, IsTile, mark_of, tile_end}
use Rattle.lab_book.specs.Tiling.{AreTiles}
use Rattle.lab_book.specs.Posted.{stretch_visits, posted_visits}
use Rattle.lab_book.proofs.TileLemmas.{end_fits, end_after, led_rank}
use Rattle.lab_book.proofs.PostedLemmas.{Reaches, joined_visits}

-- ---- some of a list, in its order

AreSome : List (List ℕ) → List (List ℕ) → Type 0
AreSome [] ys = Unit {0}
AreSome (x ∷ xs) [] = ⊥
AreSome (x ∷ xs) (y ∷ ys) = ((x ≡ y) × AreSome xs ys) ⊎ AreSome (x ∷ xs) ys

none_some : (ys : List (List ℕ)) → AreSome [] ys
unfolding AreSome
none_some ys = tt

some_behind : (xs before ys : List (List ℕ)) → AreSome xs ys → AreSome xs (before ++ ys)
unfolding AreSome
some_behind [] before ys h = tt
some_behind (x ∷ xs) [] ys h = h
some_behind (x ∷ xs) (y ∷ before) ys h = inr (some_behind (x ∷ xs) before ys h)

some_join : (front xs ys : List (List ℕ)) → AreSome xs ys → AreSome (front ++ xs) (front ++ ys)
unfolding AreSome
some_join [] xs ys h = h
some_join (x ∷ front) xs ys h = inl (refl, some_join front xs ys h)

some_after : (q : List ℕ) (xs ys : List (List ℕ)) → AreSome xs ys → AllAfter q ys → AllAfter q xs
unfolding AreSome
some_after q [] ys h a = tt
some_after q (x ∷ xs) [] h a = absurd h
some_after q (x ∷ xs) (y ∷ ys) (inl h) a = (subst (PathLess q) (sym h.0) a.0, some_after q xs ys h.1 a.1)
some_after q (x ∷ xs) (y ∷ ys) (inr h) a = some_after q (x ∷ xs) ys h a.1

some_rise : (xs ys : List (List ℕ)) → AreSome xs ys → PathsRise ys → PathsRise xs
unfolding AreSome
some_rise [] ys h r = tt
some_rise (x ∷ xs) [] h r = absurd h
some_rise (x ∷ xs) (y ∷ ys) (inl h) r = (
  subst (λ (q : List ℕ). AllAfter q xs) (sym h.0) (some_after y xs ys h.1 r.0),
  some_rise xs ys h.1 r.1,
)
some_rise (x ∷ xs) (y ∷ ys) (inr h) r = some_rise (x ∷ xs) ys h r.1

-- ---- what was posted

module _ (p : ProblemValue) (t : TileValue) (i : IsTile p t) where
  first_fits : Fits p t.first
  first_fits = end_fits p _ t.first i.begins

  last_fits : Fits p (tile_end t)
  last_fits = end_fits p (mark_of t) (tile_end t) i.within

  mark_up : rank p t.first ≤ rank p (mark_of t)
  mark_up = led_rank p t.first t.stretches i.joins first_fits

  tile_reach : Reaches p t.first (tile_end t)
  tile_reach = record {
    from = first_fits;
    to = last_fits;
    up = let a = mark_up in let b = end_after p (mark_of t) (tile_end t) i.within in
        omega arith;
  }

  -- what a tile's stretches visit is visited from its first mark on
  tile_visits : visits_between p t.first (tile_end t) ≡ stretch_visits t.stretches ++ visits_between p (mark_of t) (tile_end t)
  tile_visits =
      visits_between_join p t.first (mark_of t) (tile_end t) first_fits i.within.fits last_fits mark_up
      (end_after p (mark_of t) (tile_end t) i.within)
      ∙ ap (λ vs. vs ++ visits_between p (mark_of t) (tile_end t)) (sym (joined_visits p t.first t.stretches i.joins first_fits))

reach : (p : ProblemValue) (lo : Option CutPath) (first : StateValue) (ts : List TileValue) (hi : Option CutPath)
    → AreTiles p lo first ts hi → Reaches p first (end_of hi)
reach p lo first [] hi a = absurd a
reach p lo first (t ∷ []) hi a = subst (λ (x : StateValue × Option CutPath). Reaches p x.0 (end_of x.1)) (λ j. (a.1 j, a.3 j))
    (tile_reach p t a.2)
reach p lo first (t ∷ u ∷ ts) hi a =
    let rest = reach p (Some a.3) (cut_state a.3.path) (u ∷ ts) hi a.5 in
    let here = subst (λ (x : StateValue × Option CutPath). Reaches p x.0 (end_of x.1)) (λ j. (a.1 j, a.4 j)) (tile_reach p t a.2) in
    let b = here.up in
    let c = rest.up in
    record { from = here.from; to = rest.to; up = omega arith }

some_visits : (p : ProblemValue) (lo : Option CutPath) (first : StateValue) (ts : List TileValue) (hi : Option CutPath)
    → AreTiles p lo first ts hi → AreSome (posted_visits ts) (visits_between p first (end_of hi))
some_visits p lo first [] hi a = absurd a
some_visits p lo first (t ∷ []) hi a =
    subst (λ (x : StateValue × Option CutPath). AreSome (posted_visits (t ∷ [])) (visits_between p x.0 (end_of x.1))) (λ j. (a.1 j, a.3 j))
    (rw (tile_visits p t a.2, flat_map-cons (λ (t : TileValue). stretch_visits t.stretches) t [])
    (some_join (stretch_visits t.stretches) [] _ (none_some _)))
some_visits p lo first (t ∷ u ∷ ts) hi a =
    let rest = reach p (Some a.3) (cut_state a.3.path) (u ∷ ts) hi a.5 in
    let here = subst (λ (x : StateValue × Option CutPath). Reaches p x.0 (end_of x.1)) (λ j. (a.1 j, a.4 j)) (tile_reach p t a.2) in
    let visits : visits_between p first (cut_state a.3.path) ≡ stretch_visits t.stretches ++ visits_between p (mark_of t) (tile_end t) =
    subst (λ (x : StateValue × Option CutPath). visits_between p x.0 (end_of x.1)
    ≡ stretch_visits t.stretches ++ visits_between p (mark_of t) (tile_end t)) (λ j. (a.1 j, a.4 j)) (tile_visits p t a.2) in
    let all = visits_between_join p first (cut_state a.3.path) (end_of hi) here.from rest.from rest.to here.up rest.up
    ∙ ap (λ vs. vs ++ visits_between p (cut_state a.3.path) (end_of hi)) visits
    ∙ append_assoc (stretch_visits t.stretches) (visits_between p (mark_of t) (tile_end t))
    (visits_between p (cut_state a.3.path) (end_of hi)) in
    rw (all, flat_map-cons (λ (t : TileValue). stretch_visits t.stretches) t (u ∷ ts))
    (some_join (stretch_visits t.stretches) (posted_visits (u ∷ ts)) _
    (some_behind (posted_visits (u ∷ ts)) (visits_between p (mark_of t) (tile_end t)) _
    (some_visits p (Some a.3) (cut_state a.3.path) (u ∷ ts) hi a.5)))

pub posted_rise : (p : ProblemValue) (lo : Option CutPath) (first : StateValue) (ts : List TileValue) (hi : Option CutPath)
    → AreTiles p lo first ts hi → PathsRise (posted_visits ts)
unfolding visits_between
posted_rise p lo first ts hi a =
    let r = reach p lo first ts hi a in
    let n = leads_to p first (end_of hi) r.from r.to r.up in
    some_rise (posted_visits ts) (visits_between p first (end_of hi)) (some_visits p lo first ts hi a)
    (visits_rise_from p (steps_between p first (end_of hi)) first r.from n.goes_on)
