use Rattle.std.proofs.Common.{◌≡◌, ℕ, ◌<◌, List, [], map, length, get_or, vec_items, sym, ap, ap₂, subst, ◌∙◌, arith, take_all, ◌++◌, ◌∷◌}
use Rattle.std.proofs.lemmas.List.{get_or_default}
use Rattle.poly_cells.specs.Coordinates.{Coordinates}
use Rattle.poly_cells.specs.Shapes.{IsShape}
use Rattle.poly_texts.specs.Puzzle.{PuzzleValue}
use Rattle.poly_place.specs.Chosen.{packing_value}
use Rattle.poly_place.specs.Compiled.{ArePlacesOf}
use Rattle.poly_place.specs.Forms.{key_of, forms_cmp, AreCarriers}
use Rattle.poly_distinct.specs.Distinct.{new_from}
use Rattle.std.specs.Ordering.{is_eq}
use Rattle.poly_place.proofs.ClassLemmas.{carriers_below}
use Rattle.poly_distinct.proofs.KeysTellLemmas.{by_keys}
use Rattle.poly_distinct.proofs.MovesLemmas.{carrier_long}
use Rattle.poly_distinct.proofs.NewsLemmas.{known_more, new_more, new_same}
use Rattle.poly_distinct.proofs.news.distinct_by.Goals as goal
use Rattle.poly_distinct.proofs.news.distinct_by.Goals.{then-branch+in_ok-push, else-branch}

pub key-requires-clause-shape : goal.key-requires-clause-shape
key-requires-clause-shape c = subst IsShape (sym c.cells-cells.ensures.value) c.cells-cells.ensures.shape

pub key-requires-clause-places : goal.key-requires-clause-places
key-requires-clause-places c =
    subst (λ (vs : List Coordinates). ArePlacesOf vs c.places-places.result.now)
    (ap (λ (p : PuzzleValue). p.region) c.requires.moves ∙ sym (c.cells-cells.ensures.value ∙ c.region-region.ensures)) c.places-places.ensures

pub key-requires-clause-carriers : goal.key-requires-clause-carriers
key-requires-clause-carriers c g i =
    let p = c.args.compiled.now in
    let all = subst (λ (q : PuzzleValue). AreCarriers c.args.moves.now.group q.region q.maybe_cells (map vec_items c.carriers-list.result.now)) c.requires.moves c.carriers-list.ensures in
    let shape = subst IsShape c.region-region.ensures c.cells-cells.ensures.shape in
    let cells = sym (c.cells-cells.ensures.value ∙ c.region-region.ensures) in
    let n = (all g).0 i in
    record {
      long = ap (λ (h : List ℕ). length h) n.2 ∙ carrier_long p.region shape n.0 ∙ ap (λ (vs : List Coordinates). length vs) cells;
      below = λ k j. subst (λ (vs : List Coordinates). k < length vs) cells (carriers_below _ _ _ _ shape all g i k j);
    }

pub loop-k-preserved : goal.loop-k-preserved
loop-k-preserved c =
    let key = λ (q : List ℕ). key_of c.cells-cells.result.now (map vec_items c.carriers-list.result.now) (packing_value c.args.compiled.now q) in
    let paths = c.args.paths.now in
    let k = c.loop-k.k in
    let more : k < length paths = let lt = c.loop-k-test.true in let len = c.len-k-end.ensures in omega (arith, lt, len) in
    let x = c.list.result.now in
    let at : x ≡ get_or paths k x = c.list.ensures ∙ get_or_default paths k [] x more in
    let v = c.in_ok-key.key.items in
    let made : v ≡ key x = c.in_ok-key.ensures in
    record {
      news = elim c.if-branch.branch [
        | then-branch+in_ok-push w ↦
            w.news-is
            ∙ new_more key paths k x more at v c.loop-k.news _ _ c.in_ok-insert.field-0 made (c.loop-k.invariant.keys c.in_ok-key.key) c.in_ok-insert.ensures.added w.if-branch.true c.loop-k.invariant.news
            (w.in_ok-push.ensures.added ∙ ap (λ (y : List ℕ). c.loop-k.news ++ y ∷ []) (w.list-then-branch.ensures ∙ sym c.list.ensures))
        | else-branch w ↦
            w.news-is ∙ new_same key paths k x more at v c.loop-k.news _ c.in_ok-insert.field-0 made (c.loop-k.invariant.keys c.in_ok-key.key) c.in_ok-insert.ensures.added w.if-branch.false c.loop-k.invariant.news
      ];
      keys = λ q. known_more key paths k x more at v (vec_items q) _ _ made (c.loop-k.invariant.keys q) (c.in_ok-insert.ensures.updates.0 q);
    }

pub returns : goal.returns
returns c =
    let gs = map vec_items c.carriers-list.result.now in
    let p = c.args.compiled.now in
    let same = λ (cells : List Coordinates) (paths : List (List ℕ)). new_from (λ q r. is_eq (forms_cmp (key_of cells gs (packing_value p q)) (key_of cells gs (packing_value p r)))) [] paths in
    let whole = take_all c.loop-k.k c.args.paths.now (let lt = c.loop-k-test.false in let len = c.len-k-end.ensures in omega (arith, lt, len)) in
    let carriers =
    subst (λ (q : PuzzleValue). AreCarriers c.args.moves.now.group q.region q.maybe_cells gs) c.requires.moves c.carriers-list.ensures in
    c.loop-k.invariant.news ∙ ap₂ same (c.cells-cells.ensures.value ∙ c.region-region.ensures) whole
    ∙ by_keys p c.choices-sound.ensures.puzzle c.args.moves.now.group gs carriers c.args.paths.now
