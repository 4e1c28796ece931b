-- The text of a snapshot is within the limit of what is read.
use Rattle.std.proofs.Common.{◌≡◌, ℕ, ◌+◌, ◌*◌, ◌≤◌, Bool, true, false, cond, Option, Some, List, [], ◌∷◌, ◌++◌, length, map, drop, decimal, codes, ap, arith, length-append}
use Rattle.std.proofs.Common as common
use Rattle.std.specs.List.{list_all}
use Rattle.std.proofs.lemmas.Bool.{and_parts}
use Rattle.std.proofs.lemmas.List.{length-map}
use Rattle.std.proofs.lemmas.Fmt.{length-decimal-le}
use Rattle.text_lines.specs.Writing.{text_of}
use Rattle.cover_problem.specs.Problem.{ProblemValue, IsProblem}
use Rattle.cover_problem.specs.Grammar.{maybe_words, option_words, word_lines, written}
use Rattle.x_texts.specs.declared.breakpoint.Break.{Break}
use Rattle.x_texts.specs.Breaks.{is_break, are_new, are_breaks}
use Rattle.x_texts.specs.Words.{cut_words, state_words, break_words}
use Rattle.x_snapshot.specs.Snapshot.{SnapshotValue, IsCutIfAny, IsSnapshot}
use Rattle.x_snapshot.specs.Writer.{needs_second, version_of, head_lines, break_lines, lines_of_breaks, low_words, high_words, position_lines, end_line, snapshot_text}
use Rattle.resume_laws.proofs.LengthLemmas.{within_parts, room, length_line, length_lines, written_length, path_length, state_length}
use Rattle.resume_laws.proofs.BreakLemmas.{breaks_count, breaks_length}

-- ---- the version and the number of the problem's lines

version_length : (b : Bool) → length (decimal (cond b 2 1)) ≤ 1
version_length true = length-decimal-le 1 2 (omega arith) (omega arith) (omega arith)
version_length false = length-decimal-le 1 1 (omega arith) (omega arith) (omega arith)

maybe_count : (names : List (List ℕ)) → length (maybe_words names) ≤ 1
maybe_count [] = omega arith
maybe_count (name ∷ names) = omega arith

lines_count : (p : ProblemValue) → length (word_lines p) ≤ 2 + length p.options
lines_count p =
    let a = length-append (maybe_words (drop p.primary p.names)) (map (option_words p.names) p.options) in
    let b = maybe_count (drop p.primary p.names) in
    let c = length-map p.options (option_words p.names) in omega arith

head_length : (v : SnapshotValue) → IsProblem v.problem → length (text_of (head_lines v)) ≤ 26
head_length v g =
    let version = decimal (version_of v.problem v.breaks) in
    let count = decimal (length (word_lines v.problem)) in
    let a = length_lines (codes "polysnap" ∷ version ∷ []) ((codes "problem" ∷ count ∷ []) ∷ []) in
    let b = length_lines (codes "problem" ∷ count ∷ []) [] in
    let c = length_line (codes "polysnap") (version ∷ []) in
    let d = length_line (codes "problem") (count ∷ []) in
    let e = version_length (needs_second v.problem v.breaks) in
    let w = (within_parts v.problem g).1 in
    let k = lines_count v.problem in
    let f = length-decimal-le 6 (length (word_lines v.problem)) (omega arith) (omega arith) (omega arith) in omega arith

-- ---- the branch and the state

cut_length : (p : ProblemValue) (none : List ℕ) (cut : Option (List ℕ)) → IsProblem p → IsCutIfAny p cut → length none ≤ 5 → room (cut_words none cut) ≤ 6 + 7 * length p.names
cut_length p none common.None g c short = omega arith
cut_length p none (Some path) g c short = let a = path_length p path g c.valid in omega arith

position_length : (v : SnapshotValue) → IsSnapshot v → length (text_of (position_lines v)) ≤ 40 + 21 * length v.problem.names
position_length v s =
    let p = v.problem in
    let low = low_words v.lo in
    let high = high_words v.hi in
    let state = codes "state" ∷ state_words v.state in
    let a = length_lines low (high ∷ state ∷ []) in
    let b = length_lines high (state ∷ []) in
    let c = length_lines state [] in
    let d = length_line (codes "from") (cut_words (codes "start") v.lo) in
    let e = length_line (codes "to") (cut_words (codes "end") v.hi) in
    let f = length_line (codes "state") (state_words v.state) in
    let h = cut_length p (codes "start") v.lo s.problem s.on_run.low (omega arith) in
    let i = cut_length p (codes "end") v.hi s.problem s.on_run.high (omega arith) in
    let j = state_length p v.state s.problem s.on_run.fits in omega arith

-- ---- the breakpoints

count_length : (p : ProblemValue) (bs : List Break) → IsProblem p → are_breaks p bs ≡ true → length (text_of (break_lines p bs)) ≤ 14 + 20 * length bs
count_length p bs g h =
    let count = decimal (length bs) in
    let a = length_lines (codes "breaks" ∷ count ∷ []) (map (break_words p.names) bs) in
    let b = length_line (codes "breaks") (count ∷ []) in
    let c = breaks_length p bs g (and_parts (list_all (is_break p) bs) (are_new bs) h).0 in
    let d = breaks_count p bs h in
    let w = within_parts p g in
    let e = length-decimal-le 6 (length bs) (omega arith) (omega (arith, w.0, w.1)) (omega (arith, w.0, w.1)) in omega arith

breaks_part_length : (p : ProblemValue) (bs : List Break) → IsProblem p → are_breaks p bs ≡ true → length (text_of (lines_of_breaks p bs)) ≤ 14 + 20 * length bs
breaks_part_length p bs g h = by (needs_second p bs)
  where
    by : (b : Bool) → length (text_of (cond b (break_lines p bs) [])) ≤ 14 + 20 * length bs
    by true = count_length p bs g h
    by false = omega arith

-- ---- the whole

pub snapshot_length : (v : SnapshotValue) → IsSnapshot v → length (snapshot_text v) ≤ 134217728
unfolding snapshot_text
snapshot_length v s =
    let p = v.problem in
    let end = text_of end_line in
    let breaks = text_of (lines_of_breaks p v.breaks) in
    let position = text_of (position_lines v) in
    let head = text_of (head_lines v) in
    let a = length-append (head ++ written p ++ position ++ breaks) end in
    let b = length-append (head ++ written p ++ position) breaks in
    let c = length-append (head ++ written p) position in
    let d = length-append head (written p) in
    let e = head_length v s.problem in
    let f = written_length p s.problem in
    let h = position_length v s in
    let i = breaks_part_length p v.breaks s.problem s.breaks in
    let j = breaks_count p v.breaks s.breaks in
    let w = within_parts p s.problem in omega (arith, w.0, w.1)
