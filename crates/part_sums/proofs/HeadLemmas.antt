-- The text of a snapshot before its line `from`, and from there on.
use Rattle.std.proofs.Common.{◌≡◌, ◌⊎◌, inl, inr, ℕ, zero, suc, Option, ◌≤◌, ◌<◌, ◌^◌, ◌==◌, nat_lt, Bool, true, false, not, cond, ◌&&◌, List, [], ◌∷◌, ◌++◌, length, take, drop, map, decimal, codes, Result, Ok, Err, refl, sym, ◌∙◌, ap, ap₂, subst, arith, append_assoc, append-nil}
use Rattle.std.specs.Prelude.{bytes_eq}
use Rattle.std.specs.List.{list_all}
use Rattle.std.specs.Cmp.Lexicographic.{bytes_decides}
use Rattle.std.proofs.lemmas.Bool.{or_parts, false_from_ne_true}
use Rattle.std.proofs.lemmas.Bool.Decides.{nat_tests}
use Rattle.text_lines.specs.Writing.{is_word, spaced, line_text, text_of}
use Rattle.text_lines.specs.Each.{◌>>=◌}
use Rattle.text_lines.proofs.ResultLemmas.{ok_is, no_fault, bind_ok, unrefused, granted}
use Rattle.cover_problem.specs.Problem.{ProblemValue, name_at}
use Rattle.cover_problem.specs.Grammar.{maybe_words, option_words, word_lines, written}
use Rattle.x_steps.specs.StateValue.{StateValue}
use Rattle.x_texts.specs.declared.breakpoint.Break.{Break}
use Rattle.x_snapshot.specs.declared.fault.SnapshotFault.{SnapshotFault}
use Rattle.x_snapshot.specs.declared.fault.SnapshotFault.TheVariants.{BadHeader, BadState, BadBreak, NotOnRun, OutsideBranch, TrailingBytes, Spelling}
use Rattle.x_snapshot.specs.Snapshot.{SnapshotValue, IsSnapshot, snapshot_with}
use Rattle.x_snapshot.specs.Writer.{needs_second, version_of, head_lines, position_lines, lines_of_breaks, end_line, snapshot_text}
use Rattle.x_snapshot.specs.Judged.{is_on_run, is_inside, judged, snapshot_of}
use Rattle.x_snapshot.specs.Reader.{first_line, line_words, after_key, keyed, keyed_line, header, version_in, problem_in, cut_from, state_from, end_from, position_in, count_from, break_of_words, new_break, add_break, next_break, repeated, breaks_from, most_breaks, breaks_in, breaks_of_version, checked_end, ended, parts_after, parts_of}
use Rattle.x_snapshot.proofs.ReadLemmas.{line_back, line_is_one}
use Rattle.x_snapshot.proofs.BackLemmas.{keyed_line_back, end_back}
use Rattle.x_snapshot.proofs.WholeBack.{one_printed, two_printed, parts_back}
use Rattle.x_snapshot.proofs.LineAgain.{keyed_line_again, number_word}
use Rattle.x_snapshot.proofs.ProblemBack.{problem_words}
use Rattle.x_snapshot.proofs.ProblemAgain.{problem_again, lines_few}
use Rattle.x_snapshot.proofs.WholeAgain.{parts_again}
use Rattle.x_snapshot.proofs.JudgedLemmas.{read_judged, on_run_decides, inside_decides}
use Rattle.part_sums.specs.declared.fault.JoinFault.{JoinFault}
use Rattle.part_sums.specs.Parts.{head_text, tail_text}
use Rattle.part_sums.specs.Reading.{end_after, up_to_end}
use Rattle.part_sums.proofs.EndLemmas.{Passes, IsPassed, passes_both, passes_lines, passed_none, passed_both, passed_line, before, end_more}

-- *the head*

-- the head of a version and a problem
abbrev pub head_of : ℕ → ProblemValue → List ℕ
head_of n p = text_of ((codes "polysnap" ∷ decimal n ∷ []) ∷ (codes "problem" ∷ decimal (length (word_lines p)) ∷ []) ∷ []) ++ written p

pub head_is : (v : SnapshotValue) → head_text v ≡ head_of (version_of v.problem v.breaks) v.problem
unfolding head_text
head_is v = refl

-- a head that was written
pub head_written : (v : SnapshotValue) (p : ProblemValue) (breaks : List Break) (version count : ℕ) (t0 t1 t2 t3 : List ℕ) → version ≡ version_of p breaks → count ≡ length (word_lines p) → p ≡ v.problem → breaks ≡ v.breaks
    → t0 ≡ [] → t1 ≡ t0 ++ line_text (codes "polysnap" ∷ decimal version ∷ []) → t2 ≡ t1 ++ line_text (codes "problem" ∷ decimal count ∷ []) → t3 ≡ t2 ++ written p → t3 ≡ head_text v
head_written v p breaks version count t0 t1 t2 t3 a b e f e0 e1 e2 e3 =
    let made : t3 ≡ head_of version p = joined (line_text (codes "polysnap" ∷ decimal version ∷ [])) (line_text (codes "problem" ∷ decimal (length (word_lines p)) ∷ [])) (written p) t0 t1 t2 t3 e0 e1 (rw b at e2) e3 in
    made ∙ ap (λ n. head_of n p) a ∙ ap₂ (λ (q : ProblemValue) (bs : List Break). head_of (version_of q bs) q) e f ∙ sym (head_is v)
  where
    joined : (a b cover t0 t1 t2 t3 : List ℕ) → t0 ≡ [] → t1 ≡ t0 ++ a → t2 ≡ t1 ++ b → t3 ≡ t2 ++ cover → t3 ≡ (a ++ (b ++ [])) ++ cover
    joined a b cover t0 t1 t2 t3 e0 e1 e2 e3 = rw (e3, e2, e1, e0) (simp (append_assoc, append-nil))

-- a snapshot's text is both
pub parted : (v : SnapshotValue) → snapshot_text v ≡ head_text v ++ tail_text v
unfolding snapshot_text head_text tail_text
parted v = flat (text_of (head_lines v)) (written v.problem) (text_of (position_lines v)) (text_of (lines_of_breaks v.problem v.breaks)) (text_of end_line)
  where
    flat : (a b c d e : List ℕ) → a ++ b ++ c ++ d ++ e ≡ (a ++ b) ++ (c ++ d ++ e)
    flat a b c d e = simp append_assoc

record IsVersionOf (p : ProblemValue) (n : ℕ) : Type 0 where
  one_of : (n ≡ 1) ⊎ (n ≡ 2)
  small : n ≤ 2
  plain : ((n == 1) && nat_lt p.primary (length p.names)) ≡ false

version_is : (p : ProblemValue) (bs : List Break) → IsVersionOf p (version_of p bs)
version_is p bs = step (needs_second p bs) refl
  where
    step : (v : Bool) → needs_second p bs ≡ v → IsVersionOf p (cond v 2 1)
    step true e = record { one_of = inr refl; small = omega arith; plain = refl }
    step false e = record { one_of = inl refl; small = omega arith; plain = (or_parts (nat_lt p.primary (length p.names)) (nat_lt 0 (length bs)) e).0 }

header_again : (n : ℕ) → (n ≡ 1) ⊎ (n ≡ 2) → header (decimal n ∷ []) ≡ Ok n
unfolding header
header_again n (inl e) = rw (e, one_printed) refl
header_again n (inr e) = rw (e, two_printed) refl

module _ (v : SnapshotValue) (g : IsSnapshot v) (rest : List ℕ) where
  -- what stands after the first line
  abbrev after_first : List ℕ
  after_first = line_text (codes "problem" ∷ decimal (length (word_lines v.problem)) ∷ []) ++ (written v.problem ++ rest)

  head_parted : head_text v ++ rest ≡ line_text (codes "polysnap" ∷ decimal (version_of v.problem v.breaks) ∷ []) ++ after_first
  head_parted = ap (λ t. t ++ rest) (head_is v) ∙ flat (line_text (codes "polysnap" ∷ decimal (version_of v.problem v.breaks) ∷ [])) (line_text (codes "problem" ∷ decimal (length (word_lines v.problem)) ∷ [])) (written v.problem) rest
    where
      flat : (a b cover rest : List ℕ) → ((a ++ (b ++ [])) ++ cover) ++ rest ≡ a ++ (b ++ (cover ++ rest))
      flat a b cover rest = simp (append_assoc, append-nil)

  pub version_read : version_in (head_text v ++ rest) ≡ Ok (version_of v.problem v.breaks, after_first)
  version_read =
      let n = version_of v.problem v.breaks in
      let i = version_is v.problem v.breaks in
      ap version_in head_parted
      ∙ keyed_line_again BadHeader (codes "polysnap") header (decimal n ∷ []) after_first n (number_word n (let s = i.small in omega (arith, s))) (header_again n i.one_of)

  problem_read : problem_in (version_of v.problem v.breaks) after_first ≡ Ok (v.problem, rest)
  problem_read =
      let i = version_is v.problem v.breaks in
      problem_again v.problem g.problem (version_of v.problem v.breaks) rest i.one_of i.small i.plain

  -- what a head and a text after it are read as
  pub head_read : parts_of (head_text v ++ rest) ≡ parts_after (version_of v.problem v.breaks) v.problem rest
  unfolding parts_of
  head_read = rw (version_read, problem_read) refl

-- *no line of a snapshot but the last is `end`*

key_other : (f : SnapshotFault) (key : List ℕ) → bytes_eq (codes "end") key ≡ false → (line : List ℕ) (words others : List (List ℕ)) → line ≡ codes "end" → line_words f line ≡ Ok words → after_key f key words ≡ Ok others → ⊥
unfolding line_words after_key
key_other f key other line words others e a b =
    let a' : line_words f (codes "end") ≡ Ok words = subst (λ l. line_words f l ≡ Ok words) e a in
    let is : codes "end" ∷ [] ≡ words = ok_is (codes "end" ∷ []) words a' in
    let b' : after_key f key (codes "end" ∷ []) ≡ Ok others = subst (λ ws. after_key f key ws ≡ Ok others) (sym is) b in
    no_fault f others (rw other at b')

keyed_passed : {X : Type 0} (f : SnapshotFault) (key : List ℕ) (form : List (List ℕ) → Result X SnapshotFault) (text : List ℕ) (r : X × List ℕ) → bytes_eq (codes "end") key ≡ false → keyed_line f key form text ≡ Ok r → IsPassed text r.1
unfolding keyed_line keyed
keyed_passed f key form text r other h =
    let a = bind_ok (keyed f key text) (λ line. form line.0 >>= λ said. Ok (said, line.1)) r h in
    let d = bind_ok (form a.0.0) (λ said. Ok (said, a.0.1)) r a.2 in
    let b = bind_ok (first_line text) (λ line. line_words f line.0 >>= λ words. after_key f key words >>= λ others. Ok (others, line.1)) a.0 a.1 in
    let e = bind_ok (line_words f b.0.0) (λ words. after_key f key words >>= λ others. Ok (others, b.0.1)) a.0 b.2 in
    let k = bind_ok (after_key f key e.0) (λ others. Ok (others, b.0.1)) a.0 e.2 in
    let rest : b.0.1 ≡ r.1 = ap (λ s. s.1) (ok_is (k.0, b.0.1) a.0 k.2) ∙ ap (λ s. s.1) (ok_is (d.0, a.0.1) r d.2) in
    let no_end : bytes_eq b.0.0 (codes "end") ≡ false = false_from_ne_true (bytes_eq b.0.0 (codes "end")) (λ same. key_other f key other b.0.0 e.0 k.0 ((bytes_decides b.0.0 (codes "end")).0 same) e.1 k.1) in
    subst (IsPassed text) rest (passed_line text text b.0.0 b.0.1 (passed_none text) (line_back text b.0 b.1) (line_is_one text b.0 b.1) no_end)

position_passed : (text : List ℕ) (r : (Option (List ℕ) × Option (List ℕ) × StateValue) × List ℕ) → position_in text ≡ Ok r → IsPassed text r.1
unfolding position_in
position_passed text r h =
    let a = bind_ok (keyed_line BadState (codes "from") (cut_from (codes "start")) text) (λ lo. keyed_line BadState (codes "to") (cut_from (codes "end")) lo.1 >>= λ hi. keyed_line BadState (codes "state") state_from hi.1 >>= λ state. Ok ((lo.0, hi.0, state.0), state.1)) r h in
    let b = bind_ok (keyed_line BadState (codes "to") (cut_from (codes "end")) a.0.1) (λ hi. keyed_line BadState (codes "state") state_from hi.1 >>= λ state. Ok ((a.0.0, hi.0, state.0), state.1)) r a.2 in
    let c = bind_ok (keyed_line BadState (codes "state") state_from b.0.1) (λ state. Ok ((a.0.0, b.0.0, state.0), state.1)) r b.2 in
    let i = keyed_passed BadState (codes "from") (cut_from (codes "start")) text a.0 refl a.1 in
    let j = keyed_passed BadState (codes "to") (cut_from (codes "end")) a.0.1 b.0 refl b.1 in
    let k = keyed_passed BadState (codes "state") state_from b.0.1 c.0 refl c.1 in
    subst (IsPassed text) (ap (λ s. s.1) (ok_is ((a.0.0, b.0.0, c.0.0), c.0.1) r c.2)) (passed_both text a.0.1 c.0.1 i (passed_both a.0.1 b.0.1 c.0.1 j k))

break_passed : (p : ProblemValue) (bs : List Break) (text : List ℕ) (r : List Break × List ℕ) → add_break p bs text ≡ Ok r → IsPassed text r.1
unfolding add_break
break_passed p bs text r h =
    let a = bind_ok (keyed_line BadBreak (codes "break") (break_of_words p) text) (λ line. new_break bs line.0 >>= λ more. Ok (more, line.1)) r h in
    let b = bind_ok (new_break bs a.0.0) (λ more. Ok (more, a.0.1)) r a.2 in
    subst (IsPassed text) (ap (λ s. s.1) (ok_is (b.0, a.0.1) r b.2)) (keyed_passed BadBreak (codes "break") (break_of_words p) text a.0 refl a.1)

breaks_passed : (p : ProblemValue) (n : ℕ) (s r : List Break × List ℕ) → repeated (next_break p) n s ≡ Ok r → IsPassed s.1 r.1
unfolding repeated
breaks_passed p zero s r h = subst (λ (t : List Break × List ℕ). IsPassed s.1 t.1) (ok_is s r h) (passed_none s.1)
breaks_passed p (suc n) s r h =
    let a = bind_ok (next_break p s) (λ t. repeated (next_break p) n t) r h in
    passed_both s.1 a.0.1 r.1 (break_passed p s.0 s.1 a.0 a.1) (breaks_passed p n a.0 r a.2)

breaks_in_passed : (p : ProblemValue) (text : List ℕ) (r : List Break × List ℕ) → breaks_in p text ≡ Ok r → IsPassed text r.1
unfolding breaks_in
breaks_in_passed p text r h =
    let a = bind_ok (keyed_line BadBreak (codes "breaks") (count_from BadBreak most_breaks) text) (λ count. breaks_from p count.0 count.1) r h in
    passed_both text a.0.1 r.1 (keyed_passed BadBreak (codes "breaks") (count_from BadBreak most_breaks) text a.0 refl a.1) (breaks_passed p a.0.0 ([], a.0.1) r a.2)

version_passed : (version : ℕ) (p : ProblemValue) (text : List ℕ) (r : List Break × List ℕ) → breaks_of_version version p text ≡ Ok r → IsPassed text r.1
unfolding breaks_of_version
version_passed version p text r h = step (version == 2) h
  where
    step : (b : Bool) → cond b (breaks_in p text) (Ok ([], text)) ≡ Ok r → IsPassed text r.1
    step true h = breaks_in_passed p text r h
    step false h = subst (λ (t : List Break × List ℕ). IsPassed text t.1) (ok_is ([], text) r h) (passed_none text)

no_rest : (rest : List ℕ) → nat_lt 0 (length rest) ≡ false → rest ≡ []
no_rest [] h = refl
no_rest (b ∷ bs) h = absurd (grind (arith, nat_tests))

ended_found : (version : ℕ) (p : ProblemValue) (breaks : List Break) (text : List ℕ) (u : Unit {0}) → ended version p breaks text ≡ Ok u → up_to_end text ≡ Ok (text, [])
unfolding ended checked_end end_after
ended_found version p breaks text u h =
    let a = bind_ok (keyed_line BadState (codes "end") end_from text) (λ end. checked_end version p breaks end.1) u h in
    let b = unrefused (nat_lt 0 (length a.0.1)) TrailingBytes (cond ((version == 2) && not (needs_second p breaks)) (Err Spelling) (Ok tt)) u a.2 in
    let k = keyed_line_back BadState (codes "end") end_from text a.0 a.1 in
    let text_is : text ≡ line_text (codes "end" ∷ []) ++ [] = k.2 ∙ ap₂ (λ (ws : List (List ℕ)) (t : List ℕ). line_text (codes "end" ∷ ws) ++ t) (end_back k.0 a.0.0 k.1) (no_rest a.0.1 b.0) in
    subst (λ t. up_to_end t ≡ Ok (t, [])) (sym text_is) refl

-- a text that says the parts after the problem p
pub parts_found : (version : ℕ) (p : ProblemValue) (text : List ℕ) (w : SnapshotValue) → parts_after version p text ≡ Ok w → (up_to_end text ≡ Ok (text, [])) × (w.problem ≡ p)
unfolding parts_after
parts_found version p text w h =
    let a = bind_ok (position_in text) (λ position. breaks_of_version version p position.1 >>= λ breaks. ended version p breaks.0 breaks.1 >>= λ checked. Ok (snapshot_with p position.0.0 position.0.1 position.0.2 breaks.0)) w h in
    let b = bind_ok (breaks_of_version version p a.0.1) (λ breaks. ended version p breaks.0 breaks.1 >>= λ checked. Ok (snapshot_with p a.0.0.0 a.0.0.1 a.0.0.2 breaks.0)) w a.2 in
    let c = bind_ok (ended version p b.0.0 b.0.1) (λ checked. Ok (snapshot_with p a.0.0.0 a.0.0.1 a.0.0.2 b.0.0)) w b.2 in
    let i = passed_both text a.0.1 b.0.1 (position_passed text a.0 a.1) (version_passed version p a.0.1 b.0 b.1) in
    let last = ended_found version p b.0.0 b.0.1 c.0 c.1 in (
      ap up_to_end i.text_is ∙ i.passes b.0.1 ∙ ap (λ r. r >>= before i.front) last ∙ ap (λ t. found t) (sym i.text_is),
      sym (ap (λ (s : SnapshotValue). s.problem) (ok_is (snapshot_with p a.0.0.0 a.0.0.1 a.0.0.2 b.0.0) w c.2)),
    )
  where
    found : List ℕ → Result (List ℕ × List ℕ) JoinFault
    found t = Ok (t, [])

-- *the problem's lines*

items_other : (words : List (List ℕ)) → not (bytes_eq (spaced (codes "items" ∷ words)) (codes "end")) ≡ true
items_other [] = refl
items_other (word ∷ words) = refl

maybe_other : (words : List (List ℕ)) → not (bytes_eq (spaced (codes "maybe" ∷ words)) (codes "end")) ≡ true
maybe_other [] = refl
maybe_other (word ∷ words) = refl

option_other : (words : List (List ℕ)) → not (bytes_eq (spaced (codes "option" ∷ words)) (codes "end")) ≡ true
option_other [] = refl
option_other (word ∷ words) = refl

options_other : (names : List (List ℕ)) (options : List (List ℕ)) → list_all (λ words. not (bytes_eq (spaced words) (codes "end"))) (map (option_words names) options) ≡ true
options_other names [] = refl
options_other names (option ∷ options) = rw (option_other (map (name_at names) option)) (options_other names options)

lines_other : (p : ProblemValue) → list_all (λ words. not (bytes_eq (spaced words) (codes "end"))) (word_lines p) ≡ true
lines_other p = rw (items_other (take p.primary p.names)) (step (drop p.primary p.names))
  where
    step : (names : List (List ℕ)) → list_all (λ words. not (bytes_eq (spaced words) (codes "end"))) (maybe_words names ++ map (option_words p.names) p.options) ≡ true
    step [] = options_other p.names p.options
    step (name ∷ names) = rw (maybe_other (name ∷ names)) (options_other p.names p.options)

head_passes : (v : SnapshotValue) → IsSnapshot v → Passes (head_text v)
unfolding written
head_passes v g =
    let p = v.problem in
    let n = version_of p v.breaks in
    let i = version_is p v.breaks in
    let count = length (word_lines p) in
    let few : count < 2 ^ 64 = (let m = lines_few p g.problem n i.one_of i.plain in let s = i.small in omega (arith, m, s)) in
    let first : list_all is_word (codes "polysnap" ∷ decimal n ∷ []) ≡ true = number_word n (let s = i.small in omega (arith, s)) in
    let second : list_all is_word (codes "problem" ∷ decimal count ∷ []) ≡ true = number_word count few in
    let head = passes_lines ((codes "polysnap" ∷ decimal n ∷ []) ∷ (codes "problem" ∷ decimal count ∷ []) ∷ []) (rw (first, second) refl) refl in
    subst Passes (sym (head_is v)) (passes_both (text_of ((codes "polysnap" ∷ decimal n ∷ []) ∷ (codes "problem" ∷ decimal count ∷ []) ∷ [])) (written p) head (passes_lines (word_lines p) (problem_words p g.problem) (lines_other p)))

-- *a snapshot's text, in front of more*

module _ (v : SnapshotValue) (g : IsSnapshot v) (more : List ℕ) where
  tail_says : parts_after (version_of v.problem v.breaks) v.problem (tail_text v) ≡ Ok v
  tail_says = sym (head_read v g (tail_text v)) ∙ ap parts_of (sym (parted v)) ∙ parts_again v g

  pub tail_ends : up_to_end (tail_text v ++ more) ≡ Ok (tail_text v, more)
  tail_ends = end_more (tail_text v) more (tail_text v, []) (parts_found (version_of v.problem v.breaks) v.problem (tail_text v) v tail_says).0

  pub whole_ends : up_to_end (snapshot_text v ++ more) ≡ Ok (snapshot_text v, more)
  whole_ends =
      let text_is : snapshot_text v ++ more ≡ head_text v ++ (tail_text v ++ more) = ap (λ t. t ++ more) (parted v) ∙ append_assoc (head_text v) (tail_text v) more in
      ap up_to_end text_is ∙ head_passes v g (tail_text v ++ more) ∙ ap (λ r. r >>= before (head_text v)) tail_ends ∙ ap (λ t. found t) (sym (parted v))
    where
      found : List ℕ → Result (List ℕ × List ℕ) JoinFault
      found t = Ok (t, more)

-- *what is judged a snapshot*

judged_back : (r : Result SnapshotValue SnapshotFault) (w : SnapshotValue) → judged r ≡ Ok w → (r ≡ Ok w) × (is_on_run w ≡ true) × (is_inside w ≡ true)
judged_back (Err f) w h = absurd (no_fault f w h)
judged_back (Ok u) w h =
    let a = granted (is_on_run u) NotOnRun (cond (is_inside u) (Ok u) (Err OutsideBranch)) w h in
    let b = granted (is_inside u) OutsideBranch (Ok u) w a.1 in
    let e : u ≡ w = ok_is u w b.1 in
    (b.1, subst (λ x. is_on_run x ≡ true) e a.0, subst (λ x. is_inside x ≡ true) e b.0)

pub record IsSnapshotText (text : List ℕ) (w : SnapshotValue) : Type 0 where
  pub text_is : text ≡ snapshot_text w
  pub says : parts_of text ≡ Ok w
  pub snapshot : IsSnapshot w

pub snapshot_back : (text : List ℕ) (w : SnapshotValue) → snapshot_of text ≡ Ok w → IsSnapshotText text w
snapshot_back text w h =
    let j = judged_back (parts_of text) w h in
    let r = parts_back text w j.0 in
    let on_run = (on_run_decides w).0 j.1 in
    record { text_is = r.text_is; says = j.0; snapshot = record { problem = r.problem; breaks = r.breaks; on_run = on_run; inside = (inside_decides w on_run).0 j.2 } }

pub snapshot_again : (w : SnapshotValue) → IsSnapshot w → snapshot_of (snapshot_text w) ≡ Ok w
snapshot_again w g = read_judged (snapshot_text w) w (parts_again w g) g
