-- Where all tiles are closed, what was posted is the whole of the branch from its first mark on.
use Rattle.std.proofs.Common.{◌≡◌, ℕ, suc, ◌+◌, ◌<◌, ◌≤◌, Option, Some, List, [], ◌∷◌, ◌++◌, length, take, get_or, refl, sym, ap, ap₂, ◌∙◌}
use Rattle.std.proofs.Common.{subst, arith, append-nil}
use Rattle.std.specs.List.{flat_map}
use Rattle.std.proofs.lemmas.List.Concat.{flat_map-cons}
use Rattle.std.proofs.lemmas.List.{flat_map_more, take_more, take_all}
use Rattle.cover_problem.specs.Problem.{ProblemValue}
use Rattle.x_steps.specs.StateValue.{StateValue}
use Rattle.x_steps.specs.Steps.{Fits}
use Rattle.x_steps.specs.Run.{visits_between}
use Rattle.x_steps.specs.Rank.{rank}
use Rattle.x_steps.proofs.BetweenLemmas.{visits_between_self, visits_between_join}
use Rattle.x_branches.specs.Cut.{CutPath, cut_state}
use Rattle.x_branches.specs.Branch.{end_of}
use Rattle.x_branches.specs.Stretch.{StretchValue}
use Rattle.lab_book.specs.declared.status.Status.{Status}
use Rattle.lab_book.specs.declared.status.Status.TheVariants.{Closed}
use Rattle.lab_book.specs.Tile.{TileValue, IsTile, Join, Stands, led_to, mark_of, tile_end}
use Rattle.lab_book.specs.Tiling.{AreTiles}
use Rattle.lab_book.specs.Posted.{stretch_visits, posted_visits, AllClosed}
use Rattle.lab_book.proofs.TileLemmas.{end_fits, end_after, led_rank}

-- ---- stretches that join

pub joined_fits : (p : ProblemValue) (s : StateValue) (xs : List StretchValue) → Join p s xs → Fits p s → Fits p (led_to s xs)
joined_fits p s [] j f = f
joined_fits p s (x ∷ xs) j f = joined_fits p x.to xs j.3 (end_fits p s x.to j.2)

-- ---- tiles

-- a closed tile's stretches go from its first mark to its end
module _ (p : ProblemValue) (t : TileValue) (i : IsTile p t) (closed : t.status ≡ Closed) where
  pub closed_end : mark_of t ≡ tile_end t
  closed_end = subst (λ (s : Status). Stands s t) closed i.stands

  pub tile_first : Fits p t.first
  tile_first = end_fits p _ t.first i.begins

  pub tile_up : rank p t.first ≤ rank p (tile_end t)
  tile_up = subst (λ (s : StateValue). rank p t.first ≤ rank p s) closed_end (led_rank p t.first t.stretches i.joins tile_first)

pub first_closed : (t : TileValue) (ts : List TileValue) → AllClosed (t ∷ ts) → t.status ≡ Closed
first_closed t ts c = c 0 t (omega arith)

pub rest_closed : (t : TileValue) (ts : List TileValue) → AllClosed (t ∷ ts) → AllClosed ts
rest_closed t ts c = λ k d l. c (suc k) d (omega arith)

-- what tiles from a first mark to an end tell of the two
pub record Reaches (p : ProblemValue) (first end : StateValue) : Type 0 where
  pub from : Fits p first
  pub to : Fits p end
  pub up : rank p first ≤ rank p end

pub tiles_reach : (p : ProblemValue) (lo : Option CutPath) (first : StateValue) (ts : List TileValue) (hi : Option CutPath)
    → AreTiles p lo first ts hi → AllClosed ts → Reaches p first (end_of hi)
tiles_reach p lo first [] hi a c = absurd a
tiles_reach p lo first (t ∷ []) hi a c =
    subst (λ (x : StateValue × Option CutPath). Reaches p x.0 (end_of x.1)) (λ j. (a.1 j, a.3 j))
    (record {
      from = tile_first p t a.2 (first_closed t [] c);
      to = end_fits p (mark_of t) (tile_end t) a.2.within;
      up = tile_up p t a.2 (first_closed t [] c);
    })
tiles_reach p lo first (t ∷ u ∷ ts) hi a c =
    let rest = tiles_reach p (Some a.3) (cut_state a.3.path) (u ∷ ts) hi a.5 (rest_closed t (u ∷ ts) c) in
    let here : rank p t.first ≤ rank p (cut_state a.3.path) =
    subst (λ (h : Option CutPath). rank p t.first ≤ rank p (end_of h)) a.4 (tile_up p t a.2 (first_closed t (u ∷ ts) c)) in
    let more = rest.up in
    subst (λ (s : StateValue). Reaches p s (end_of hi)) a.1
    (record { from = tile_first p t a.2 (first_closed t (u ∷ ts) c); to = rest.to; up = omega arith })

-- ---- what tells of two states, and adds up where stretches join

module _ {M : Type 0} (plus : M → M → M) (nil : M) (plus_nil : (m : M) → plus m nil ≡ m) (of : ProblemValue → StateValue → StateValue → M)
    (none : (p : ProblemValue) (s : StateValue) → Fits p s → of p s s ≡ nil)
    (join : (p : ProblemValue) (s t u : StateValue) → Fits p s → Fits p t → Fits p u → rank p s ≤ rank p t → rank p t ≤ rank p u
    → of p s u ≡ plus (of p s t) (of p t u))
    (all : List StretchValue → M) (all_none : all [] ≡ nil)
    (all_more : (x : StretchValue) (xs : List StretchValue) → all (x ∷ xs) ≡ plus (of x.problem x.from x.to) (all xs)) where
  -- of stretches, it is told of where they begin and where they lead
  pub joined_is : (p : ProblemValue) (s : StateValue) (xs : List StretchValue) → Join p s xs → Fits p s → all xs ≡ of p s (led_to s xs)
  joined_is p s [] j f = all_none ∙ sym (none p s f)
  joined_is p s (x ∷ xs) j f =
      let g = end_fits p s x.to j.2 in
      let first : of x.problem x.from x.to ≡ of p s x.to = ap₂ (λ (q : ProblemValue) (a : StateValue). of q a x.to) j.0 j.1 in
      all_more x xs
      ∙ ap₂ plus first (joined_is p x.to xs j.3 g)
      ∙ sym (join p s x.to (led_to x.to xs) f g (joined_fits p x.to xs j.3 g) (end_after p s x.to j.2) (led_rank p x.to xs j.3 g))

  tile_is : (p : ProblemValue) (t : TileValue) → IsTile p t → t.status ≡ Closed → all t.stretches ≡ of p t.first (tile_end t)
  tile_is p t i closed = joined_is p t.first t.stretches i.joins (tile_first p t i closed) ∙ ap (of p t.first) (closed_end p t i closed)

  -- and of closed tiles, of the first mark and the end
  module _ (posted : List TileValue → M) (posted_none : posted [] ≡ nil)
      (posted_more : (t : TileValue) (ts : List TileValue) → posted (t ∷ ts) ≡ plus (all t.stretches) (posted ts)) where
    pub closed_is : (p : ProblemValue) (lo : Option CutPath) (first : StateValue) (ts : List TileValue) (hi : Option CutPath)
        → AreTiles p lo first ts hi → AllClosed ts → posted ts ≡ of p first (end_of hi)
    closed_is p lo first [] hi a c = absurd a
    closed_is p lo first (t ∷ []) hi a c =
        posted_more t []
        ∙ ap (plus (all t.stretches)) posted_none
        ∙ plus_nil (all t.stretches)
        ∙ tile_is p t a.2 (first_closed t [] c)
        ∙ ap₂ (λ (s : StateValue) (h : Option CutPath). of p s (end_of h)) a.1 a.3
    closed_is p lo first (t ∷ u ∷ ts) hi a c =
        let rest = tiles_reach p (Some a.3) (cut_state a.3.path) (u ∷ ts) hi a.5 (rest_closed t (u ∷ ts) c) in
        let here : all t.stretches ≡ of p first (cut_state a.3.path) =
        tile_is p t a.2 (first_closed t (u ∷ ts) c) ∙ ap₂ (λ (s : StateValue) (h : Option CutPath). of p s (end_of h)) a.1 a.4 in
        let up : rank p first ≤ rank p (cut_state a.3.path) =
        subst (λ (x : StateValue × Option CutPath). rank p x.0 ≤ rank p (end_of x.1)) (λ j. (a.1 j, a.4 j))
        (tile_up p t a.2 (first_closed t (u ∷ ts) c)) in
        let fits : Fits p first = subst (Fits p) a.1 (tile_first p t a.2 (first_closed t (u ∷ ts) c)) in
        posted_more t (u ∷ ts)
        ∙ ap₂ plus here (closed_is p (Some a.3) (cut_state a.3.path) (u ∷ ts) hi a.5 (rest_closed t (u ∷ ts) c))
        ∙ sym (join p first (cut_state a.3.path) (end_of hi) fits rest.from rest.to up rest.up)

-- ---- visits

pub joined_visits : (p : ProblemValue) (s : StateValue) (xs : List StretchValue) → Join p s xs → Fits p s
    → stretch_visits xs ≡ visits_between p s (led_to s xs)
joined_visits =
    joined_is (λ (vs ws : List (List ℕ)). vs ++ ws) [] append-nil visits_between visits_between_self visits_between_join stretch_visits refl
    (flat_map-cons (λ (x : StretchValue). visits_between x.problem x.from x.to))

pub closed_visits : (p : ProblemValue) (lo : Option CutPath) (first : StateValue) (ts : List TileValue) (hi : Option CutPath)
    → AreTiles p lo first ts hi → AllClosed ts → posted_visits ts ≡ visits_between p first (end_of hi)
closed_visits =
    closed_is (λ (vs ws : List (List ℕ)). vs ++ ws) [] append-nil visits_between visits_between_self visits_between_join stretch_visits refl
    (flat_map-cons (λ (x : StretchValue). visits_between x.problem x.from x.to))
    posted_visits refl (flat_map-cons (λ (t : TileValue). stretch_visits t.stretches))

-- ---- a walk over what was posted

pub visits_more : {X : Type 0} (f : X → List (List ℕ)) (xs : List X) (i : ℕ) (x : X) (base v w u : List (List ℕ)) → i < length xs
    → x ≡ get_or xs i x → v ≡ base ++ flat_map f (take i xs) → w ≡ f x → u ≡ v ++ w → u ≡ base ++ flat_map f (take (i + 1) xs)
visits_more f xs i x base v w u l e a b c =
    c ∙ ap₂ (λ (p q : List (List ℕ)). p ++ q) a b ∙ flat_map_more f base (take i xs) x
    ∙ ap (λ ys. base ++ flat_map f ys) (ap (λ y. take i xs ++ y ∷ []) e ∙ sym (take_more xs i x l))

pub visits_all : {X : Type 0} (f : X → List (List ℕ)) (xs : List X) (i : ℕ) (base v : List (List ℕ)) → length xs ≤ i
    → v ≡ base ++ flat_map f (take i xs) → v ≡ base ++ flat_map f xs
visits_all f xs i base v l a = a ∙ ap (λ ys. base ++ flat_map f ys) (take_all i xs l)
