-- A snapshot that is written is read again.
use Rattle.std.proofs.Common.{◌≡◌, ◌⊎◌, inl, inr, ℕ, ◌≤◌, ◌<◌, ◌==◌, nat_lt, nat_le, Bool, true, false, not, cond, ◌&&◌, List, [], ◌∷◌, ◌++◌, length, decimal, codes, Option, Some, None, Ok, refl, sym, ◌∙◌, ap, subst, arith, true≢false, lt-ltb, le-leb}
use Rattle.std.specs.List.{list_all}
use Rattle.std.proofs.lemmas.Bool.{and_parts, and_from, or_parts}
use Rattle.std.proofs.lemmas.Bool.Decides.{nat_tests}
use Rattle.text_lines.specs.Writing.{is_word, line_text, text_of}
use Rattle.text_lines.specs.Answers.{IsFaultOf}
use Rattle.text_lines.specs.declared.refusal.Refusal.{Refusal}
use Rattle.text_lines.specs.declared.refusal.Refusal.TheVariants as refusals
use Rattle.text_lines.proofs.ResultLemmas.{ok_is, no_value}
use Rattle.cover_problem.specs.Problem.{ProblemValue, IsProblem}
use Rattle.cover_problem.specs.Covering.{choice}
use Rattle.cover_problem.specs.Path.{IsChoice, IsValidFrom, IsValid, covered_by, taken}
use Rattle.cover_problem.specs.Grammar.{word_lines, written}
use Rattle.cover_problem.proofs.RemainingLemmas.{remaining_in}
use Rattle.cover_problem.proofs.BoundLemmas.{few}
use Rattle.x_steps.specs.declared.state.Label.{Label}
use Rattle.x_steps.specs.declared.state.Label.TheVariants.{X5, X6}
use Rattle.x_steps.specs.declared.state.Cursor.{Cursor}
use Rattle.x_steps.specs.declared.state.Cursor.TheVariants as cursors
use Rattle.x_steps.specs.Steps.{FitsAt, Fits}
use Rattle.x_steps.proofs.OrderLemmas.{fits_valid}
use Rattle.x_texts.specs.declared.breakpoint.Break.{Break}
use Rattle.x_snapshot.specs.declared.fault.SnapshotFault.{SnapshotFault}
use Rattle.x_snapshot.specs.declared.fault.SnapshotFault.TheVariants.{BadHeader, BadState, NotOnRun, OutsideBranch, BadBreak, OutOfMemory}
use Rattle.x_texts.specs.Breaks.{is_break, are_new}
use Rattle.x_snapshot.specs.Snapshot.{SnapshotValue, snapshot_with, IsCutIfAny, IsSnapshot}
use Rattle.x_snapshot.specs.Refusals.{IsRefused}
use Rattle.x_snapshot.specs.Writer.{needs_second, version_of, break_lines, lines_of_breaks, snapshot_text}
use Rattle.x_texts.specs.Words.{cut_words, state_words}
use Rattle.x_snapshot.specs.Reader.{keyed_line, header, cut_from, state_from, end_from, problem_in, position_in, breaks_in, breaks_of_version, checked_end, ended, parts_after, parts_of}
use Rattle.x_snapshot.specs.ReadRefusals.{fault_from}
use Rattle.x_snapshot.proofs.BackLemmas.{some_is, none_some}
use Rattle.x_snapshot.proofs.WholeBack.{Position, position_text, one_printed, two_printed, joined}
use Rattle.x_snapshot.proofs.LineAgain.{is_choice, is_cursor, IsWrittenCut, keyed_line_again, cut_again, cut_is_words, state_again, state_is_words, number_word}
use Rattle.x_snapshot.proofs.ProblemAgain.{problem_again}
use Rattle.x_snapshot.proofs.BreakAgain.{breaks_again}

-- *what is on the run can be written*

module _ (p : ProblemValue) (g : IsProblem p) where
  choice_is : (c : List ℕ) (o : ℕ) → IsChoice p c o → is_choice o ≡ true
  unfolding is_choice
  choice_is c o h =
      let r = remaining_in p c (choice p c) o h.left in
      let some : 0 < o = r.1 in
      let most : o ≤ 262143 = let f = few p g in omega (arith, r.2, f.1) in
      and_from (nat_lt 0 o) (nat_le o 262143) (lt-ltb 0 o some) (le-leb o 262143 most)

  choices_are : (c path : List ℕ) → IsValidFrom p c path → list_all is_choice path ≡ true
  choices_are c [] h = refl
  choices_are c (o ∷ path) h = and_from (is_choice o) (list_all is_choice path) (choice_is c o h.0) (choices_are (taken p c o) path h.1)

  path_is : (path : List ℕ) → IsValid p path → list_all is_choice path ≡ true
  unfolding IsValid
  path_is path h = choices_are [] path h

  cut_is : (cut : Option (List ℕ)) → IsCutIfAny p cut → IsWrittenCut cut
  cut_is None h = record { choices = λ path e. absurd (none_some path e); some = λ path e. absurd (none_some path e) }
  cut_is (Some q) h = record {
    choices = λ path e. subst (λ r. list_all is_choice r ≡ true) (some_is q path e) (path_is q h.valid);
    some = λ path e. subst (λ r. 0 < length r) (some_is q path e) h.some;
  }

  at_is : (l : Label) (path : List ℕ) (o : ℕ) → FitsAt p l path (cursors.At o) → is_choice o ≡ true
  at_is X5 path o f = choice_is (covered_by p path) o f.1
  at_is X6 path o f = choice_is (covered_by p path) o f.1
  at_is _ path o f = absurd f

  cursor_is : (l : Label) (path : List ℕ) (k : Cursor) → FitsAt p l path k → is_cursor k ≡ true
  unfolding is_cursor
  cursor_is l path (cursors.At o) f = at_is l path o f
  cursor_is l path _ f = refl

  -- *the lines of the position*

  position_again : (position : Position) (rest : List ℕ) → IsCutIfAny p position.0 → IsCutIfAny p position.1 → Fits p position.2 → position_in (position_text position rest) ≡ Ok (position, rest)
  unfolding position_in
  position_again position rest low high fits =
      let s = position.2 in
      let path = path_is s.path (fits_valid p s.label s.path s.cursor fits) in
      let cursor = cursor_is s.label s.path s.cursor fits in
      let lo = cut_is position.0 low in
      let hi = cut_is position.1 high in
      let t2 = line_text (codes "state" ∷ state_words s) ++ rest in
      let t1 = line_text (codes "to" ∷ cut_words (codes "end") position.1) ++ t2 in
      rw (
        keyed_line_again BadState (codes "from") (cut_from (codes "start")) (cut_words (codes "start") position.0) t1 position.0 (cut_is_words (codes "start") position.0 refl lo) (cut_again (codes "start") position.0 refl lo),
        keyed_line_again BadState (codes "to") (cut_from (codes "end")) (cut_words (codes "end") position.1) t2 position.1 (cut_is_words (codes "end") position.1 refl hi) (cut_again (codes "end") position.1 refl hi),
        keyed_line_again BadState (codes "state") state_from (state_words s) rest s (state_is_words s cursor path) (state_again s cursor path),
      ) refl

  -- *the version*

  no_breaks : (bs : List Break) → nat_lt 0 (length bs) ≡ false → bs ≡ []
  no_breaks [] h = refl
  no_breaks (b ∷ bs) h = absurd (grind (arith, nat_tests))

  breaks_version_again : (bs : List Break) (rest : List ℕ) → list_all (is_break p) bs ≡ true → are_new bs ≡ true → breaks_of_version (version_of p bs) p (text_of (lines_of_breaks p bs) ++ rest) ≡ Ok (bs, rest)
  unfolding breaks_of_version
  breaks_version_again bs rest met new = step (needs_second p bs) refl
    where
      step : (v : Bool) → needs_second p bs ≡ v → cond (cond v 2 1 == 2) (breaks_in p (text_of (cond v (break_lines p bs) []) ++ rest)) (Ok ([], text_of (cond v (break_lines p bs) []) ++ rest)) ≡ Ok (bs, rest)
      step true e = breaks_again p g bs rest met new
      step false e =
          let nothing : bs ≡ [] = no_breaks bs (or_parts (nat_lt p.primary (length p.names)) (nat_lt 0 (length bs)) e).1 in
          rw nothing refl

-- what is true of the version of parts
record IsVersionOf (p : ProblemValue) (bs : List Break) (n : ℕ) : Type 0 where
  one_of : (n ≡ 1) ⊎ (n ≡ 2)
  small : n ≤ 2
  plain : ((n == 1) && nat_lt p.primary (length p.names)) ≡ false
  spelled : ((n == 2) && not (needs_second p bs)) ≡ false

version_is : (p : ProblemValue) (bs : List Break) → IsVersionOf p bs (version_of p bs)
version_is p bs = step (needs_second p bs) refl
  where
    step : (v : Bool) → needs_second p bs ≡ v → IsVersionOf p bs (cond v 2 1)
    step true e = record { one_of = inr refl; small = omega arith; plain = refl; spelled = ap not e }
    step false e = record { one_of = inl refl; small = omega arith; plain = (or_parts (nat_lt p.primary (length p.names)) (nat_lt 0 (length bs)) e).0; spelled = refl }

header_again : (n : ℕ) → (n ≡ 1) ⊎ (n ≡ 2) → header (decimal n ∷ []) ≡ Ok n
unfolding header
header_again n (inl e) = rw (e, one_printed) refl
header_again n (inr e) = rw (e, two_printed) refl

header_word : (n : ℕ) → n ≤ 2 → list_all is_word (codes "polysnap" ∷ decimal n ∷ []) ≡ true
header_word n h = number_word n (omega arith)

whole_again : (n : ℕ) (p : ProblemValue) (bs : List Break) → ((n == 2) && not (needs_second p bs)) ≡ false → checked_end n p bs [] ≡ Ok tt
unfolding checked_end
whole_again n p bs h = rw h refl

end_again : end_from [] ≡ Ok tt
unfolding end_from
end_again = refl

-- *the whole*

module _ (n : ℕ) (t0 t1 t2 t3 t4 t5 : List ℕ) (p : ProblemValue) (position : Position) (bs : List Break) where
  chained : keyed_line BadHeader (codes "polysnap") header t0 ≡ Ok (n, t1) → problem_in n t1 ≡ Ok (p, t2) → position_in t2 ≡ Ok (position, t3) → breaks_of_version n p t3 ≡ Ok (bs, t4) → keyed_line BadState (codes "end") end_from t4 ≡ Ok (tt, t5) → checked_end n p bs t5 ≡ Ok tt → parts_of t0 ≡ Ok (snapshot_with p position.0 position.1 position.2 bs)
  unfolding parts_of parts_after ended
  chained a b c d e f = rw (a, b, c, d, e, f) refl

-- a snapshot's text says the snapshot
pub parts_again : (v : SnapshotValue) → IsSnapshot v → parts_of (snapshot_text v) ≡ Ok v
unfolding snapshot_text
parts_again v g =
    let p = v.problem in
    let bs = v.breaks in
    let n = version_of p bs in
    let position : Position = (v.lo, v.hi, v.state) in
    let fine = and_parts (list_all (is_break p) bs) (are_new bs) g.breaks in
    let version = version_is p bs in
    let t4 = line_text (codes "end" ∷ []) ++ [] in
    let t3 = text_of (lines_of_breaks p bs) ++ t4 in
    let t2 = position_text position t3 in
    let t1 = line_text (codes "problem" ∷ decimal (length (word_lines p)) ∷ []) ++ (written p ++ t2) in
    let t0 = line_text (codes "polysnap" ∷ decimal n ∷ []) ++ t1 in
    let text_is = joined (codes "polysnap" ∷ decimal n ∷ []) (codes "problem" ∷ decimal (length (word_lines p)) ∷ []) (codes "from" ∷ cut_words (codes "start") v.lo) (codes "to" ∷ cut_words (codes "end") v.hi) (codes "state" ∷ state_words v.state) (codes "end" ∷ []) (written p) (text_of (lines_of_breaks p bs)) t0 t1 t2 t3 t4 [] refl refl refl refl refl refl in
    let read : parts_of t0 ≡ Ok v = chained n t0 t1 t2 t3 t4 [] p position bs
    (keyed_line_again BadHeader (codes "polysnap") header (decimal n ∷ []) t1 n (header_word n version.small) (header_again n version.one_of))
    (problem_again p g.problem n t2 version.one_of version.small version.plain)
    (position_again p g.problem position t3 g.on_run.low g.on_run.high g.on_run.fits)
    (breaks_version_again p g.problem bs t4 fine.0 fine.1)
    (keyed_line_again BadState (codes "end") end_from [] [] tt refl end_again)
    (whole_again n p bs version.spelled) in
    subst (λ t. parts_of t ≡ Ok v) text_is read

-- *which answers are left for the text of a snapshot*

module _ (text : List ℕ) (v : SnapshotValue) (g : IsSnapshot v) (same : text ≡ snapshot_text v) where
  said : parts_of text ≡ Ok v
  said = subst (λ t. parts_of t ≡ Ok v) (sym same) (parts_again v g)

  pub read_as : (s : SnapshotValue) → parts_of text ≡ Ok s → s ≡ v
  read_as s h = ok_is s v (sym h ∙ said)

  pub only_memory : (r : Refusal SnapshotFault) → IsFaultOf r (parts_of text) → fault_from r ≡ OutOfMemory
  only_memory (refusals.Fault f) h = absurd (no_value v f (sym said ∙ h))
  only_memory refusals.OutOfMemory h = refl

  not_refused : (fault : SnapshotFault) → IsRefused v fault → fault ≡ OutOfMemory
  not_refused NotOnRun r = absurd (r.1 g.on_run)
  not_refused OutsideBranch r = absurd (r.1.1 g.inside)
  not_refused BadBreak r = absurd (true≢false (sym g.breaks ∙ r))
  not_refused OutOfMemory r = refl
  not_refused _ r = absurd r

  pub only_memory_left : (s : SnapshotValue) → parts_of text ≡ Ok s → (fault : SnapshotFault) → IsRefused s fault → fault ≡ OutOfMemory
  only_memory_left s h fault r = not_refused fault (subst (λ w. IsRefused w fault) (read_as s h) r)
