use Rattle.std.proofs.Common.{◌≡◌, ◌≤◌, ◌<◌, ◌+◌, ℕ, List, ap, ap₂, sym, subst, ◌∙◌, arith, option_map, take_all, ◌++◌, length, refl, inl, inr}
use Rattle.std.specs.Map.Iter.{deref_pair}
use Rattle.poly_cells.specs.Coordinates.{Coordinates}
use Rattle.poly_cells.specs.Sets.{IsIn}
use Rattle.poly_texts.specs.Puzzle.{PuzzleValue, IsPuzzle, pieces_of}
use Rattle.cover_problem.specs.declared.limits.TheConstants.{MOST_ITEMS, MOST_OPTIONS, MOST_ENTRIES}
use Rattle.poly_cells.proofs.MemberLemmas.{in_flat_map}
use Rattle.poly_place.specs.Compiled.{entries_of}
use Rattle.poly_place.proofs.MadeLemmas.{large_is}
use Rattle.poly_place.proofs.CountLemmas.{IsEntry, entry_is}
use Rattle.poly_place.proofs.OptionLemmas.{choices_before, choices_next, choices_all}
use Rattle.poly_place.proofs.RoomLemmas.{IsCounted, counted_next, counted_past, counted_all}
use Rattle.poly_place.specs.Packings.{ChoiceValue, every_choice, choices_of_piece, things}
use Rattle.std.specs.List.{flat_map}
use Rattle.std.proofs.lemmas.List.{length-append}
use Rattle.poly_place.proofs.room.laid_within.Goals as goal
use Rattle.poly_place.proofs.room.laid_within.Goals.{After-unwrap, After-as_slice, After-len-options, After-loop-k, After-pieces-pieces}

-- the piece at hand
entry : (c : After-unwrap) → IsEntry c.pieces-pieces.result.now.entries c.loop-k.k c.unwrap.result.0.now c.unwrap.result.1.now
entry c = entry_is c.pieces-pieces.result.now.entries c.loop-k.k _ _ (sym c.get_index.ensures.entry ∙ ap (option_map deref_pair) c.unwrap.ensures)

-- the choices that are added are those of the piece
chosen : (c : After-as_slice) → c.as_slice.result.now ≡ choices_of_piece c.args.puzzle.now (c.unwrap.result.0.now, c.unwrap.result.1.now)
chosen c =
    c.as_slice.ensures.value ∙ c.in_ok-choices.ensures ∙ ap (λ (p : PuzzleValue). choices_of_piece p (c.unwrap.result.0.now, c.unwrap.result.1.now)) c.requires.numbers

-- all choices so far, with those of the piece
added : (c : After-len-options) → c.append.new.self.items ≡ c.loop-k.all.items ++ c.as_slice.result.now
added c = c.in_ok-append.ensures.items ∙ ap (λ (cs : List ChoiceValue). c.loop-k.all.items ++ cs) (sym c.as_slice.ensures.value)

counted : (c : After-len-options) → c.len-options.result ≡ length c.loop-k.all.items + length c.as_slice.result.now
counted c = c.len-options.ensures ∙ c.append.new.self.ok.0 ∙ ap length (added c) ∙ length-append c.loop-k.all.items c.as_slice.result.now

-- how many things there are
few : (c : After-pieces-pieces) → c.items-items.result ≤ 65535
few c = omega (arith, c.if-items-gt-MOST_ITEMS.false)

-- and they are those of the puzzle
all_items : (c : After-pieces-pieces) → c.items-items.result ≡ length (things c.args.puzzle.now)
all_items c = c.items-items.ensures ∙ ap (λ (p : PuzzleValue). length (things p)) c.requires.numbers

pub returns-then-items-gt-MOST_ITEMS-clause-none : goal.returns-then-items-gt-MOST_ITEMS-clause-none
returns-then-items-gt-MOST_ITEMS-clause-none c =
    large_is c.args.puzzle.now (subst (λ (n : ℕ). MOST_ITEMS < n) (c.items-items.ensures ∙ ap (λ (p : PuzzleValue). length (things p)) c.requires.numbers) c.if-items-gt-MOST_ITEMS.true)

pub entries_with-requires-clause-puzzle : goal.entries_with-requires-clause-puzzle
entries_with-requires-clause-puzzle c = subst IsPuzzle (sym c.requires.numbers) c.requires.puzzle

pub entries_with-requires-clause-members : goal.entries_with-requires-clause-members
entries_with-requires-clause-members c d i =
    let at = goal.at.entries_with-requires-clause-members c in
    let here = entry at.After-unwrap in
    subst (λ (p : PuzzleValue). IsIn d (every_choice p)) (sym c.requires.numbers)
    (subst (λ (cs : List ChoiceValue). IsIn d cs) (choices_all c.args.puzzle.now)
    (in_flat_map (choices_of_piece c.args.puzzle.now) d (c.unwrap.result.0.now, c.unwrap.result.1.now) (pieces_of c.args.puzzle.now)
    (subst (λ (qs : List (ℕ × List Coordinates)). IsIn (c.unwrap.result.0.now, c.unwrap.result.1.now) qs) c.pieces-pieces.ensures.value here.member)
    (subst (λ (cs : List ChoiceValue). IsIn d cs) (chosen at.After-as_slice) i)))

pub overflow_add-entries : goal.overflow_add-entries
overflow_add-entries c = let low = few (goal.at.overflow_add-entries c).After-pieces-pieces in omega (arith, low)

pub loop-k-init : goal.loop-k-init
loop-k-init c =
    let low = few (goal.at.loop-k-init c).After-pieces-pieces in
    record { same = c.new-all.ensures.items; counted = subst (λ (cs : List ChoiceValue). IsCounted c.args.puzzle.now c.pieces-pieces.result.now.entries 0 c.items-items.result (length cs) (c.items-items.result + 2)) (sym c.new-all.ensures.items) (record { count = refl; sum = omega arith; few = omega arith; low = omega (arith, low) }) }

pub returns-then-options-gt-MOST_OPTIONS-clause-none : goal.returns-then-options-gt-MOST_OPTIONS-clause-none
returns-then-options-gt-MOST_OPTIONS-clause-none c =
    let at = goal.at.returns-then-options-gt-MOST_OPTIONS-clause-none c in
    let here = entry at.After-unwrap in
    sym
    (counted_past c.args.puzzle.now c.pieces-pieces.result.now.entries c.loop-k.k c.items-items.result (length c.loop-k.all.items) c.loop-k.entries c.loop-k.invariant.counted (c.unwrap.result.0.now, c.unwrap.result.1.now) here.low here.at
    c.as_slice.result.now (length c.as_slice.result.now) c.in_ok-entries.entries (chosen at.After-as_slice) refl (λ le. c.in_ok-entries.ensures.exact le ∙ ap (λ (p : PuzzleValue). c.loop-k.entries + entries_of p c.as_slice.result.now) c.requires.numbers) c.pieces-pieces.ensures.value
    (all_items at.After-pieces-pieces) (few at.After-pieces-pieces) (λ le. c.in_ok-entries.ensures.past (subst (λ (p : PuzzleValue). c.loop-k.entries + entries_of p c.as_slice.result.now ≤ MOST_ENTRIES) (sym c.requires.numbers) le))
    (elim c.then-options-gt-MOST_OPTIONS.either [ inl h ↦ inl (subst (λ (n : ℕ). MOST_OPTIONS < n) (counted at.After-len-options) h) | inr h ↦ inr h.1 ]))

pub loop-k-preserved : goal.loop-k-preserved
loop-k-preserved c =
    let at = goal.at.loop-k-preserved c in
    let here = entry at.After-unwrap in
    let many = counted at.After-len-options in
    record {
      same =
          added at.After-len-options ∙ ap₂ (λ (xs ys : List ChoiceValue). xs ++ ys) c.loop-k.invariant.same (chosen at.After-as_slice)
          ∙ sym (choices_next c.args.puzzle.now c.pieces-pieces.result.now.entries c.loop-k.k (c.unwrap.result.0.now, c.unwrap.result.1.now) here.low here.at);
      counted =
          subst (λ (n : ℕ). IsCounted c.args.puzzle.now c.pieces-pieces.result.now.entries (c.loop-k.k + 1) c.items-items.result n c.in_ok-entries.entries)
          (sym many ∙ c.len-options.ensures ∙ c.append.new.self.ok.0)
          (counted_next c.args.puzzle.now c.pieces-pieces.result.now.entries c.loop-k.k c.items-items.result (length c.loop-k.all.items) c.loop-k.entries c.loop-k.invariant.counted (c.unwrap.result.0.now, c.unwrap.result.1.now) here.low here.at
          c.as_slice.result.now (length c.as_slice.result.now) c.in_ok-entries.entries (chosen at.After-as_slice) refl (λ le. c.in_ok-entries.ensures.exact le ∙ ap (λ (p : PuzzleValue). c.loop-k.entries + entries_of p c.as_slice.result.now) c.requires.numbers)
          (subst (λ (n : ℕ). n ≤ MOST_OPTIONS) many c.if-options-gt-MOST_OPTIONS.false) c.if-entries-gt-MOST_ENTRIES.false);
    }

-- the choices of all pieces
whole : (c : After-loop-k) → choices_before c.args.puzzle.now c.pieces-pieces.result.now.entries c.loop-k.k ≡ every_choice c.args.puzzle.now
whole c =
    ap (flat_map (choices_of_piece c.args.puzzle.now)) (take_all c.loop-k.k c.pieces-pieces.result.now.entries (omega (arith, c.loop-k-test.false, c.len-k-end.ensures.len)) ∙ c.pieces-pieces.ensures.value)
    ∙ choices_all c.args.puzzle.now

pub returns-clause-choices : goal.returns-clause-choices
returns-clause-choices c = c.loop-k.invariant.same ∙ whole (goal.at.returns-clause-choices c).After-loop-k

pub returns-clause-room : goal.returns-clause-room
returns-clause-room c =
    let at = goal.at.returns-clause-room c in
    counted_all c.args.puzzle.now c.pieces-pieces.result.now.entries c.loop-k.k c.items-items.result (length c.loop-k.all.items) c.loop-k.entries c.loop-k.invariant.counted
    (whole at.After-loop-k) (all_items at.After-pieces-pieces) (few at.After-pieces-pieces)
