-- Counting the choices of a puzzle, piece by piece, up to the limits.
use Rattle.std.proofs.Common.{◌≡◌, ℕ, ◌+◌, ◌<◌, ◌≤◌, List, ◌++◌, length, get_or, false, nat_le, ◌⊎◌, inl, inr, sym, ap, ◌∙◌, arith}
use Rattle.std.proofs.lemmas.Bool.{and_parts, leb-true, false_from_ne_true}
use Rattle.poly_cells.specs.Coordinates.{Coordinates}
use Rattle.poly_texts.specs.Puzzle.{PuzzleValue, pieces_of}
use Rattle.cover_problem.specs.declared.limits.TheConstants.{MOST_OPTIONS, MOST_ENTRIES}
use Rattle.cover_problem.specs.Problem.{is_small}
use Rattle.poly_place.specs.Packings.{ChoiceValue, choices_of_piece, every_choice, things, packing_problem}
use Rattle.poly_place.specs.Compiled.{LaysWithin, left_out, entries_of, has_room, has_room_beside}
use Rattle.poly_place.proofs.OptionLemmas.{choices_before, choices_next, entries_append, no_room_before}
use Rattle.poly_place.proofs.MadeLemmas.{small_is, large_by_choices}
use Rattle.std.proofs.lemmas.List.{length-append}

-- the choices of the first k pieces are counted with their entries, and there is room for them
pub record IsCounted (p : PuzzleValue) (pieces : List (ℕ × List Coordinates)) (k items options entries : ℕ) : Type 0 where
  pub count : options ≡ length (choices_before p pieces k)
  pub sum : entries ≡ items + entries_of p (choices_before p pieces k) + 2
  pub few : options ≤ MOST_OPTIONS
  pub low : entries ≤ MOST_ENTRIES

module _ (p : PuzzleValue) (pieces : List (ℕ × List Coordinates)) (k items options entries : ℕ) (s : IsCounted p pieces k items options entries) (q : ℕ × List Coordinates) (lt : k < length pieces)
    (is : q ≡ get_or pieces k q) (cs : List ChoiceValue) (n e : ℕ) (new : cs ≡ choices_of_piece p q) (many : n ≡ length cs) (exact : e ≤ MOST_ENTRIES → e ≡ entries + entries_of p cs) where
  next : choices_before p pieces (k + 1) ≡ choices_before p pieces k ++ cs
  next = choices_next p pieces k q lt is ∙ ap (λ (ds : List ChoiceValue). choices_before p pieces k ++ ds) (sym new)

  long : length (choices_before p pieces (k + 1)) ≡ options + n
  long = let l = length-append (choices_before p pieces k) cs in let a = ap length next in let c = s.count in omega (arith, l, a, c, many)

  whole : items + entries_of p (choices_before p pieces (k + 1)) + 2 ≡ entries + entries_of p cs
  whole =
      let l = entries_append p (choices_before p pieces k) cs in
      let a = ap (entries_of p) next in
      omega (arith, l, a)

  pub counted_next : options + n ≤ MOST_OPTIONS → e ≤ MOST_ENTRIES → IsCounted p pieces (k + 1) items (options + n) e
  counted_next few low = record { count = sym long; sum = exact low ∙ sym whole; few = few; low = low }

  -- past a limit the problem of the puzzle is too large
  pub counted_past : pieces ≡ pieces_of p → items ≡ length (things p) → items ≤ 65535 → (entries + entries_of p cs ≤ MOST_ENTRIES → e ≤ MOST_ENTRIES)
      → (MOST_OPTIONS < options + n) ⊎ (MOST_ENTRIES < e) → false ≡ is_small (packing_problem p)
  counted_past same all few within past =
      sym (large_by_choices p (omega (arith, all, few)) (ap (λ (m : ℕ). has_room p m (every_choice p)) (sym all) ∙ no_room_before p items pieces (k + 1) same no_room))
    where
      no_room : has_room p items (choices_before p pieces (k + 1)) ≡ false
      no_room =
          false_from_ne_true _ (λ t.
          let parts = and_parts (nat_le (length (choices_before p pieces (k + 1))) MOST_OPTIONS) (nat_le (items + entries_of p (choices_before p pieces (k + 1)) + 2) MOST_ENTRIES) t in
          let a = leb-true (length (choices_before p pieces (k + 1))) MOST_OPTIONS parts.0 in
          let b = leb-true (items + entries_of p (choices_before p pieces (k + 1)) + 2) MOST_ENTRIES parts.1 in
          let l = long in
          let w = whole in
          elim past [ inl h ↦ absurd (omega (arith, a, l, h)) | inr h ↦ let c = within (omega (arith, b, w)) in absurd (omega (arith, c, h)) ])

-- once all are counted, that is how much the options take that lay a piece
pub counted_all : (p : PuzzleValue) (pieces : List (ℕ × List Coordinates)) (k items options entries : ℕ) → IsCounted p pieces k items options entries → choices_before p pieces k ≡ every_choice p
    → items ≡ length (things p) → items ≤ 65535 → LaysWithin p options entries
counted_all p pieces k items options entries s end all few =
    let a = ap length end in
    let b = ap (entries_of p) end in
    let count = s.count in
    let sum = s.sum in
    record { count = omega (arith, a, count); sum = omega (arith, b, all, sum); items = omega (arith, all, few); few = s.few; low = s.low }

-- beside these there is room for the others exactly where the problem is small
pub room_is : (p : PuzzleValue) (options entries : ℕ) → LaysWithin p options entries → has_room_beside options entries (left_out p) ≡ is_small (packing_problem p)
room_is p options entries h =
    ap (λ (n : ℕ). has_room_beside n entries (left_out p)) h.count ∙ ap (λ (n : ℕ). has_room_beside (length (every_choice p)) n (left_out p)) h.sum ∙ sym (small_is p h.items)
