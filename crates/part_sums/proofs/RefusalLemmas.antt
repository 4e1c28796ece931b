-- A text that is refused is that of no whole and its parts.
use Rattle.std.proofs.Common.{◌≡◌, inl, inr, ℕ, ◌+◌, ◌-◌, ◌<◌, ◌≤◌, ◌==◌, nat_le, Bool, true, false, cond, List, [], ◌∷◌, ◌++◌, length, filter, take, drop, decimal, codes, Option, None, Some, Result, Ok, Err, refl, sym, ◌∙◌, ap, ap₂, subst, arith, append_assoc, length-append}
use Rattle.std.specs.Prelude.{bytes_eq}
use Rattle.std.proofs.lemmas.List.{take-append-drop}
use Rattle.std.proofs.lemmas.List.Elements.{filter-append}
use Rattle.std.proofs.Math.Seq.{take-append_seam}
use Rattle.text_lines.specs.Lines.{words_of, is_newline, is_empty}
use Rattle.text_lines.specs.Numbers.{is_decimal, value_after}
use Rattle.text_lines.specs.Writing.{spaced, line_text, text_of}
use Rattle.text_lines.specs.Each.{◌>>=◌}
use Rattle.text_lines.specs.Answers.{in_line, IsFaultOf}
use Rattle.text_lines.specs.declared.refusal.Refusal.{Refusal}
use Rattle.text_lines.specs.declared.refusal.Refusal.TheVariants as refusals
use Rattle.text_lines.specs.declared.refusal.TextRefusal.{TextRefusal}
use Rattle.text_lines.specs.declared.refusal.TextRefusal.TheVariants as texts
use Rattle.text_lines.proofs.EachLemmas.{each_fault}
use Rattle.text_lines.proofs.ResultLemmas.{ok_is, err_is, no_value}
use Rattle.cover_problem.specs.Grammar.{word_lines, written}
use Rattle.x_steps.specs.StateValue.{StateValue}
use Rattle.x_steps.specs.Steps.{Fits}
use Rattle.x_snapshot.specs.declared.fault.SnapshotFault.{SnapshotFault}
use Rattle.x_snapshot.specs.declared.fault.SnapshotFault.TheVariants as snapshots
use Rattle.x_snapshot.specs.Snapshot.{SnapshotValue, IsSnapshot}
use Rattle.x_snapshot.specs.Writer.{version_of, snapshot_text}
use Rattle.x_snapshot.specs.Reader.{first_line, onto_line, only}
use Rattle.x_snapshot.specs.Judged.{snapshot_of}
use Rattle.part_sums.specs.declared.fault.JoinFault.{JoinFault}
use Rattle.part_sums.specs.declared.fault.JoinFault.TheVariants.{NoWhole, Gap, Overlap, Twice, BadAnswer, TooLong, Truncated, BadNumbers}
use Rattle.part_sums.specs.Answers.{counts_with, no_counts, answer_lines, has_numbers_of}
use Rattle.part_sums.specs.Parts.{CountedPart, head_text, tail_text, part_text, parts_text, join_text, last_state, IsCountedPart, PartsJoin, IsJoined}
use Rattle.part_sums.specs.Reading.{end_after, up_to_end, whole_from, part_fault, part_from, whole_in, tail_in, line_from, words_behind, key_words, keyed_words, number_of_word, number_of_only, with_number, numbers_after, last_number, are_levels, levels_from, keyed_number, levels_in, past_end_line, answer_in, part_answer_in, line_after, line_of}
use Rattle.part_sums.specs.Refusals.{IsMisplaced, IsNotJoined, IsMisplacedPart, SaysPlace, IsJoinRefused, HasLine}
use Rattle.part_sums.specs.Taking.{JoiningValue, joining_with, IsTakenRefused, AreTaken, AllTaken, IsOneRefused, IsEndRefused}
use Rattle.part_sums.proofs.HeadLemmas.{head_is, parted}
use Rattle.part_sums.proofs.TailLemmas.{whole_back, whole_again, tail_back}
use Rattle.part_sums.proofs.AnswerLemmas.{part_answer_again}
use Rattle.part_sums.proofs.JoinLemmas.{state_fits, IsUpTo, up_to, part_read, other_parts, no_parts}

-- *which faults say nothing of the order of parts*

abbrev Quiet : JoinFault → Type 0
Quiet f = (text : List ℕ) (line : ℕ) → SaysPlace text f line

-- a fault that is one of these
quiet : (f g : JoinFault) → Quiet g → f ≡ g → Quiet f
quiet f g q e = subst Quiet (sym e) q

end_fault : (pre text : List ℕ) (f : JoinFault) → end_after pre text ≡ Err f → f ≡ Truncated
unfolding end_after
end_fault pre [] f h = sym (err_is Truncated f h)
end_fault pre (b ∷ bs) f h = step (is_newline b) (bytes_eq pre (codes "end")) (end_fault [] bs f) (end_fault (pre ++ b ∷ []) bs f) h
  where
    later : (r : Result (List ℕ × List ℕ) JoinFault) → (r ≡ Err f → f ≡ Truncated) → (r >>= λ t. Ok (onto_line b t)) ≡ Err f → f ≡ Truncated
    later (Ok t) ih h = absurd (no_value (onto_line b t) f h)
    later (Err g) ih h = ih h

    step : (v w : Bool) → (end_after [] bs ≡ Err f → f ≡ Truncated) → (end_after (pre ++ b ∷ []) bs ≡ Err f → f ≡ Truncated)
        → cond v (cond w (Ok (b ∷ [], bs)) (end_after [] bs >>= λ t. Ok (onto_line b t))) (end_after (pre ++ b ∷ []) bs >>= λ t. Ok (onto_line b t)) ≡ Err f → f ≡ Truncated
    step true true g k h = absurd (no_value (b ∷ [], bs) f h)
    step true false g k h = later (end_after [] bs) g h
    step false w g k h = later (end_after (pre ++ b ∷ []) bs) k h

-- a step that can't fail after one whose faults are quiet
after_quiet : {A B : Type 0} (r : Result A JoinFault) (k : A → Result B JoinFault) (f : JoinFault) → ((g : JoinFault) → r ≡ Err g → Quiet g) → ((x : A) → k x ≡ Err f → Quiet f) → (r >>= k) ≡ Err f → Quiet f
after_quiet (Ok x) k f q s h = s x h
after_quiet (Err g) k f q s h = quiet f g (q g refl) (sym (err_is g f h))

fault_is : {B : Type 0} (g f : JoinFault) → Quiet g → ◌≡◌ {A = Result B JoinFault} (Err g) (Err f) → Quiet f
fault_is g f q h = quiet f g q (sym (err_is g f h))

-- a test whose fault is quiet
test_quiet : {B : Type 0} (b : Bool) (r : Result B JoinFault) (g f : JoinFault) → Quiet g → (r ≡ Err f → Quiet f) → cond b r (Err g) ≡ Err f → Quiet f
test_quiet true r g f q k h = k h
test_quiet false r g f q k h = fault_is g f q h

end_quiet : (text : List ℕ) (f : JoinFault) → up_to_end text ≡ Err f → Quiet f
end_quiet text f h = quiet f Truncated (λ _ _. tt) (end_fault [] text f h)

whole_quiet : (r : Result SnapshotValue SnapshotFault) (f : JoinFault) → whole_from r ≡ Err f → Quiet f
whole_quiet (Ok v) f h = absurd (no_value v f h)
whole_quiet (Err g) f h = fault_is NoWhole f (λ _ _. tt) h

part_fault_quiet : (g : SnapshotFault) → Quiet (part_fault g)
part_fault_quiet snapshots.NotOnRun text line = tt
part_fault_quiet snapshots.OutsideBranch text line = tt
part_fault_quiet _ text line = tt

part_quiet : (r : Result SnapshotValue SnapshotFault) (f : JoinFault) → part_from r ≡ Err f → Quiet f
part_quiet (Ok v) f h = absurd (no_value v f h)
part_quiet (Err g) f h = fault_is (part_fault g) f (part_fault_quiet g) h

whole_in_quiet : (text : List ℕ) (f : JoinFault) → whole_in text ≡ Err f → Quiet f
unfolding whole_in
whole_in_quiet text f h =
    after_quiet (up_to_end text) (λ s. whole_from (snapshot_of s.0) >>= λ v. Ok (v, s.1)) f (end_quiet text)
    (λ s. after_quiet (whole_from (snapshot_of s.0)) (λ v. Ok (v, s.1)) f (whole_quiet (snapshot_of s.0)) (λ v k. absurd (no_value (v, s.1) f k))) h

tail_in_quiet : (head text : List ℕ) (f : JoinFault) → tail_in head text ≡ Err f → Quiet f
unfolding tail_in
tail_in_quiet head text f h =
    after_quiet (up_to_end text) (λ s. part_from (snapshot_of (head ++ s.0)) >>= λ w. Ok (w, s.1)) f (end_quiet text)
    (λ s. after_quiet (part_from (snapshot_of (head ++ s.0))) (λ w. Ok (w, s.1)) f (part_quiet (snapshot_of (head ++ s.0))) (λ w k. absurd (no_value (w, s.1) f k))) h

line_quiet : (r : Result (List ℕ × List ℕ) SnapshotFault) (f : JoinFault) → line_from r ≡ Err f → Quiet f
line_quiet (Ok s) f h = absurd (no_value s f h)
line_quiet (Err g) f h = fault_is Truncated f (λ _ _. tt) h

behind_quiet : (key : List ℕ) (words : List (List ℕ)) (f : JoinFault) → words_behind key words ≡ Err f → Quiet f
unfolding words_behind
behind_quiet key [] f h = fault_is BadAnswer f (λ _ _. tt) h
behind_quiet key (word ∷ words) f h = test_quiet (bytes_eq word key) (Ok words) BadAnswer f (λ _ _. tt) (λ k. absurd (no_value words f k)) h

keyed_quiet : (key text : List ℕ) (f : JoinFault) → keyed_words key text ≡ Err f → Quiet f
unfolding keyed_words key_words
keyed_quiet key text f h =
    after_quiet (line_from (first_line text)) (λ line. key_words key line.0 >>= λ words. Ok (words, line.1)) f (line_quiet (first_line text))
    (λ line. after_quiet (key_words key line.0) (λ words. Ok (words, line.1)) f (λ g. test_quiet (bytes_eq line.0 (spaced (words_of line.0))) (words_behind key (words_of line.0)) BadAnswer g (λ _ _. tt) (behind_quiet key (words_of line.0) g)) (λ words k. absurd (no_value (words, line.1) f k))) h

number_quiet : (word : List ℕ) (f : JoinFault) → number_of_word word ≡ Err f → Quiet f
unfolding number_of_word
number_quiet word f h =
    test_quiet (is_decimal word) (cond (nat_le (length word) 1000) (Ok (value_after 0 word)) (Err TooLong)) BadAnswer f (λ _ _. tt)
    (test_quiet (nat_le (length word) 1000) (Ok (value_after 0 word)) TooLong f (λ _ _. tt) (λ k. absurd (no_value (value_after 0 word) f k))) h

only_quiet : (o : Option (List ℕ)) (f : JoinFault) → number_of_only o ≡ Err f → Quiet f
only_quiet None f h = fault_is BadAnswer f (λ _ _. tt) h
only_quiet (Some word) f h = number_quiet word f h

add_quiet : (numbers word : List ℕ) (f : JoinFault) → with_number numbers word ≡ Err f → Quiet f
unfolding with_number
add_quiet numbers word f h = after_quiet (number_of_word word) (λ n. Ok (numbers ++ n ∷ [])) f (number_quiet word) (λ n k. absurd (no_value (numbers ++ n ∷ []) f k)) h

levels_quiet : (numbers : List ℕ) (f : JoinFault) → levels_from numbers ≡ Err f → Quiet f
unfolding levels_from
levels_quiet numbers f h = test_quiet (are_levels numbers) (cond (last_number numbers == 0) (Ok []) (Ok numbers)) BadAnswer f (λ _ _. tt) (none_or (last_number numbers == 0)) h
  where
    none_or : (b : Bool) → ◌≡◌ {A = Result (List ℕ) JoinFault} (cond b (Ok []) (Ok numbers)) (Err f) → Quiet f
    none_or true k = absurd (no_value [] f k)
    none_or false k = absurd (no_value numbers f k)

number_in_quiet : (key text : List ℕ) (f : JoinFault) → keyed_number key text ≡ Err f → Quiet f
unfolding keyed_number
number_in_quiet key text f h =
    after_quiet (keyed_words key text) (λ line. number_of_only (only line.0) >>= λ number. Ok (number, line.1)) f (keyed_quiet key text)
    (λ line. after_quiet (number_of_only (only line.0)) (λ number. Ok (number, line.1)) f (only_quiet (only line.0)) (λ number k. absurd (no_value (number, line.1) f k))) h

levels_in_quiet : (text : List ℕ) (f : JoinFault) → levels_in text ≡ Err f → Quiet f
unfolding levels_in
levels_in_quiet text f h =
    after_quiet (keyed_words (codes "levels") text) (λ line. numbers_after [] line.0 >>= λ numbers. levels_from numbers >>= λ levels. Ok (levels, line.1)) f (keyed_quiet (codes "levels") text)
    (λ line. after_quiet (numbers_after [] line.0) (λ numbers. levels_from numbers >>= λ levels. Ok (levels, line.1)) f (each_fault with_number Quiet add_quiet line.0 [])
    (λ numbers. after_quiet (levels_from numbers) (λ levels. Ok (levels, line.1)) f (levels_quiet numbers) (λ levels k. absurd (no_value (levels, line.1) f k)))) h

end_in_quiet : (text : List ℕ) (f : JoinFault) → past_end_line text ≡ Err f → Quiet f
unfolding past_end_line
end_in_quiet text f h =
    after_quiet (keyed_words (codes "end") text) (λ line. cond (is_empty line.0) (Ok line.1) (Err BadAnswer)) f (keyed_quiet (codes "end") text)
    (λ line. test_quiet (is_empty line.0) (Ok line.1) BadAnswer f (λ _ _. tt) (λ k. absurd (no_value line.1 f k))) h

answer_quiet : (text : List ℕ) (f : JoinFault) → answer_in text ≡ Err f → Quiet f
unfolding answer_in
answer_quiet text f h =
    after_quiet (keyed_number (codes "visits") text) (λ visits. keyed_number (codes "steps") visits.1 >>= λ steps. levels_in steps.1 >>= λ levels. past_end_line levels.1 >>= λ rest. Ok (counts_with visits.0 steps.0 levels.0, rest)) f (number_in_quiet (codes "visits") text)
    (λ visits. after_quiet (keyed_number (codes "steps") visits.1) (λ steps. levels_in steps.1 >>= λ levels. past_end_line levels.1 >>= λ rest. Ok (counts_with visits.0 steps.0 levels.0, rest)) f (number_in_quiet (codes "steps") visits.1)
    (λ steps. after_quiet (levels_in steps.1) (λ levels. past_end_line levels.1 >>= λ rest. Ok (counts_with visits.0 steps.0 levels.0, rest)) f (levels_in_quiet steps.1)
    (λ levels. after_quiet (past_end_line levels.1) (λ rest. Ok (counts_with visits.0 steps.0 levels.0, rest)) f (end_in_quiet levels.1) (λ rest k. absurd (no_value (counts_with visits.0 steps.0 levels.0, rest) f k))))) h

part_answer_quiet : (part : SnapshotValue) (text : List ℕ) (f : JoinFault) → part_answer_in part text ≡ Err f → Quiet f
unfolding part_answer_in
part_answer_quiet part text f h =
    after_quiet (answer_in text) (λ answer. cond (has_numbers_of part.state (last_state part) answer.0) (Ok answer) (Err BadNumbers)) f (answer_quiet text)
    (λ answer. test_quiet (has_numbers_of part.state (last_state part) answer.0) (Ok answer) BadNumbers f (λ _ _. tt) (λ k. absurd (no_value answer f k))) h

-- *lines*

newlines_both : (xs ys : List ℕ) → length (filter is_newline (xs ++ ys)) ≡ length (filter is_newline xs) + length (filter is_newline ys)
newlines_both xs ys = ap length (filter-append is_newline xs ys) ∙ length-append (filter is_newline xs) (filter is_newline ys)

front_lines : (k : ℕ) (text : List ℕ) → length (filter is_newline (take k text)) ≤ length (filter is_newline text)
front_lines k text =
    let all = ap (λ t. length (filter is_newline t)) (sym (take-append-drop k text)) ∙ newlines_both (take k text) (drop k text) in
    omega (arith, all)

line_within : (text rest : List ℕ) (line : ℕ) → line ≡ line_of text rest → (0 < line) × (line ≤ line_after text)
line_within text rest line e = let l = front_lines (length text - length rest) text in (omega (arith, e), omega (arith, e, l))

-- the line of what stands after a front
line_of_front : (text front rest : List ℕ) → text ≡ front ++ rest → line_of text rest ≡ line_after front
line_of_front text front rest e =
    let size : length text - length rest ≡ length front = (let l = ap length e ∙ length-append front rest in omega (arith, l)) in
    ap line_after (ap₂ (λ (k : ℕ) (t : List ℕ). take k t) size e ∙ take-append_seam front rest)

some_line : (words : List (List ℕ)) → 0 < length (filter is_newline (line_text words))
some_line words = let l = newlines_both (spaced words) (10 ∷ []) in let one : length (filter is_newline (10 ∷ [])) ≡ 1 = refl in omega (arith, l, one)

-- a whole has a line
whole_has_line : (v : SnapshotValue) (rest : List ℕ) → 0 < length (filter is_newline (snapshot_text v ++ rest))
whole_has_line v rest =
    let first = codes "polysnap" ∷ decimal (version_of v.problem v.breaks) ∷ [] in
    let others = text_of ((codes "problem" ∷ decimal (length (word_lines v.problem)) ∷ []) ∷ []) in
    let a = some_line first in
    let b = newlines_both (line_text first) others in
    let c = newlines_both (line_text first ++ others) (written v.problem) in
    let d = newlines_both (head_text v) (tail_text v) in
    let e : length (filter is_newline (head_text v)) ≡ length (filter is_newline ((line_text first ++ others) ++ written v.problem)) = ap (λ t. length (filter is_newline t)) (head_is v) in
    let f : length (filter is_newline (snapshot_text v)) ≡ length (filter is_newline (head_text v ++ tail_text v)) = ap (λ t. length (filter is_newline t)) (parted v) in
    let g = newlines_both (snapshot_text v) rest in
    omega (arith, a, b, c, d, e, f, g)

-- *the refusals*

module _ (text rest : List ℕ) (v : SnapshotValue) (g : IsSnapshot v) (h : whole_in text ≡ Ok (v, rest)) (line : ℕ) (f : JoinFault) where
  -- what stands at the front of a text where a part does isn't refused
  not_refused : (mid : JoiningValue) (after : List ℕ) (q : CountedPart) (more : List CountedPart) → Fits v.problem mid.here → IsCountedPart v q → q.snapshot.state ≡ mid.here → after ≡ part_text q ++ parts_text more → IsTakenRefused (head_text v) mid text after (texts.Fault f line) → ⊥
  not_refused mid after q more k i place e (inl ((inl bad), l)) =
      no_value _ f (sym (ap (tail_in (head_text v)) e ∙ part_read v g q (parts_text more) i) ∙ bad)
  not_refused mid after q more k i place e (inl ((inr (part, answer, other)), l)) =
      let read = ok_is _ _ (sym other.tail ∙ ap (tail_in (head_text v)) e ∙ part_read v g q (parts_text more) i) in
      let same : part.state ≡ q.snapshot.state = ap (λ x. x.0.state) read in
      let fits : Fits v.problem part.state = subst (Fits v.problem) (sym same) (state_fits v.problem q.snapshot i.snapshot i.problem) in
      other.apart v.problem k fits (same ∙ place)
  not_refused mid after q more k i place e (inr none) =
      let read = ok_is _ _ (sym none.is_next.tail ∙ ap (tail_in (head_text v)) e ∙ part_read v g q (parts_text more) i) in
      let answer : none.answer ≡ text_of (answer_lines q.counts) ++ parts_text more = ap (λ x. x.1) read in
      let part : none.part ≡ q.snapshot = ap (λ x. x.0) read in
      no_value _ f (sym (ap₂ part_answer_in part answer ∙ part_answer_again q.snapshot q.counts (parts_text more) i.answer i.numbers) ∙ none.read)

  none_joined : (mid : JoiningValue) (after : List ℕ) (i : IsUpTo v (joining_with v.state v.state no_counts) rest mid after) → 0 < length after → IsTakenRefused (head_text v) mid text after (texts.Fault f line) → IsNotJoined text
  none_joined mid after i some r w qs j = step o.1.0 o.1.2 o.1.3
    where
      o : (v ≡ w) × ((more : List CountedPart) × (qs ≡ i.parts ++ more) × (after ≡ parts_text more) × PartsJoin v mid.here more (last_state v))
      o = other_parts text v rest i.parts mid.here after g h i.join i.text_is w qs j

      step : (more : List CountedPart) → after ≡ parts_text more → PartsJoin v mid.here more (last_state v) → ⊥
      step [] e k = let l : length after ≡ 0 = ap length e in omega (arith, l, some)
      step (q ∷ more) e k = not_refused mid after q more i.fits k.0 k.1 e r

  said : (fault : JoinFault) → IsMisplacedPart text fault line → SaysPlace text fault line
  said Gap m = m
  said Overlap m = m
  said Twice m = m
  said _ m = tt

  place_said : (mid : JoiningValue) (after : List ℕ) (i : IsUpTo v (joining_with v.state v.state no_counts) rest mid after) → IsTakenRefused (head_text v) mid text after (texts.Fault f line) → SaysPlace text f line
  place_said mid after i (inl ((inl bad), l)) = tail_in_quiet (head_text v) after f bad text line
  place_said mid after i (inl ((inr (part, answer, other)), l)) =
      let t = tail_back v g after (part, answer) other.tail in
      let text_is : text ≡ join_text v i.parts ++ after = (whole_back text (v, rest) h).0 ∙ ap (λ x. snapshot_text v ++ x) i.text_is ∙ sym (append_assoc (snapshot_text v) (parts_text i.parts) after) in
      let misplaced : IsMisplaced v.problem mid.before mid.here part.state f = other.misplaced v.problem i.fits (state_fits v.problem part t.snapshot t.problem) in
      said f (record {
        whole = v;
        parts = i.parts;
        here = mid.here;
        next = part;
        rest = answer;
        join = i.join;
        snapshot = t.snapshot;
        problem = t.problem;
        text_is = text_is ∙ ap (λ x. join_text v i.parts ++ x) t.text_is;
        line_is = l ∙ line_of_front text (join_text v i.parts) after text_is;
        misplaced = subst (λ (b : StateValue). IsMisplaced v.problem b mid.here part.state f) i.before misplaced;
      })
  place_said mid after i (inr none) = part_answer_quiet none.part none.answer f none.read text line

  has_line : (mid : JoiningValue) (after : List ℕ) → IsTakenRefused (head_text v) mid text after (texts.Fault f line) → (0 < line) × (line ≤ line_after text)
  has_line mid after (inl no_next) = line_within text after line no_next.1
  has_line mid after (inr none) = line_within text none.answer line none.line_is

  one_refused : (n : ℕ) (mid : JoiningValue) (after : List ℕ) → AreTaken (head_text v) n (joining_with v.state v.state no_counts) rest mid after → 0 < length after → IsTakenRefused (head_text v) mid text after (texts.Fault f line)
      → IsJoinRefused text (texts.Fault f line) × HasLine text (texts.Fault f line)
  one_refused n mid after t some r =
      let i = up_to v g n (joining_with v.state v.state no_counts) mid rest after g.on_run.fits t in
      ((none_joined mid after i some r, place_said mid after i r), has_line mid after r)

  end_refused : (n : ℕ) (new : JoiningValue) → AreTaken (head_text v) n (joining_with v.state v.state no_counts) rest new [] → IsEndRefused new v text (texts.Fault f line)
      → IsJoinRefused text (texts.Fault f line) × HasLine text (texts.Fault f line)
  end_refused n new t r =
      let i = up_to v g n (joining_with v.state v.state no_counts) new rest [] g.on_run.fits t in
      let some = whole_has_line v rest in
      let lines : length (filter is_newline text) ≡ length (filter is_newline (snapshot_text v ++ rest)) = ap (λ t. length (filter is_newline t)) (whole_back text (v, rest) h).0 in
      let l = r.2 in (
        (λ w qs j. none_left i w qs j r.0, subst (λ x. SaysPlace text x line) (sym r.1) tt),
        (omega (arith, some, lines, l), omega (arith, l)),
      )
    where
      none_left : (i : IsUpTo v (joining_with v.state v.state no_counts) rest new []) (w : SnapshotValue) (qs : List CountedPart) → IsJoined text w qs → (new.here ≡ last_state v → ⊥) → ⊥
      none_left i w qs j other =
          let o = other_parts text v rest i.parts new.here [] g h i.join i.text_is w qs j in
          other (subst (λ more. PartsJoin v new.here more (last_state v)) (no_parts v g o.1.0 o.1.2) o.1.3)

-- the same of what calls are handed
module _ (text rest head : List ℕ) (v : SnapshotValue) (old : JoiningValue) (h : whole_in text ≡ Ok (v, rest)) (e : head ≡ head_text v) (o : old ≡ joining_with v.state v.state no_counts) where
  pub parts_refused : (r : TextRefusal JoinFault) → IsOneRefused head old text rest r → IsJoinRefused text r × HasLine text r
  parts_refused (texts.Fault f line) (n, mid, after, t, some, r) =
      let g = (whole_back text (v, rest) h).1 in
      one_refused text rest v g h line f n mid after (subst (λ (x : JoiningValue). AreTaken (head_text v) n x rest mid after) o (subst (λ x. AreTaken x n old rest mid after) e t)) some
      (subst (λ x. IsTakenRefused x mid text after (texts.Fault f line)) e r)
  parts_refused texts.OutOfMemory r = (tt, tt)

  pub last_refused : (new : JoiningValue) (r : TextRefusal JoinFault) → AllTaken head old rest new → IsEndRefused new v text r → IsJoinRefused text r × HasLine text r
  last_refused new (texts.Fault f line) (n, t) r =
      let g = (whole_back text (v, rest) h).1 in
      end_refused text rest v g h line f n new (subst (λ (x : JoiningValue). AreTaken (head_text v) n x rest new []) o (subst (λ x. AreTaken x n old rest new []) e t)) r
  last_refused new texts.OutOfMemory t r = (tt, tt)

-- a text that begins with no whole
pub begin_refused : (text : List ℕ) (r : Refusal JoinFault) → IsFaultOf r (whole_in text) → IsJoinRefused text (in_line 1 r)
begin_refused text (refusals.Fault f) h =
    (λ v parts j. no_value _ f (sym (ap whole_in j.text_is ∙ whole_again v (parts_text parts) j.whole) ∙ h), whole_in_quiet text f h text 1)
begin_refused text refusals.OutOfMemory h = tt

-- the text of a whole and its parts is refused by memory alone
pub only_memory : (text : List ℕ) (r : TextRefusal JoinFault) → IsJoinRefused text r → (v : SnapshotValue) (parts : List CountedPart) → IsJoined text v parts → r ≡ texts.OutOfMemory
only_memory text (texts.Fault f line) h v parts j = absurd (h.0 v parts j)
only_memory text texts.OutOfMemory h v parts j = refl
