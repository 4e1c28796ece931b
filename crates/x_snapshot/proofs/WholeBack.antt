-- A text that is read is the text of the snapshot that it says.
use Rattle.std.proofs.Common.{◌≡◌, ◌⊎◌, inl, inr, ℕ, ◌≤◌, ◌==◌, nat_lt, true, false, not, cond, ◌&&◌, List, [], ◌∷◌, ◌++◌, length, decimal, codes, Option, Ok, Err, refl, sym, ◌∙◌, ap, subst, arith, append_assoc, append-nil}
use Rattle.std.specs.List.{list_all}
use Rattle.std.proofs.lemmas.Bool.{and_from, not-false}
use Rattle.std.proofs.lemmas.Fmt.{decimal_digit}
use Rattle.text_lines.specs.Writing.{line_text, text_of}
use Rattle.text_lines.specs.Each.{◌>>=◌}
use Rattle.text_lines.proofs.ResultLemmas.{ok_is, bind_ok, unrefused}
use Rattle.cover_problem.specs.Problem.{ProblemValue, IsProblem}
use Rattle.cover_problem.specs.Grammar.{word_lines, written}
use Rattle.x_steps.specs.StateValue.{StateValue}
use Rattle.x_texts.specs.declared.breakpoint.Break.{Break}
use Rattle.x_snapshot.specs.declared.fault.SnapshotFault.TheVariants.{BadHeader, BadState, TrailingBytes, Spelling}
use Rattle.x_texts.specs.Breaks.{is_break, are_new, are_breaks}
use Rattle.x_snapshot.specs.Snapshot.{SnapshotValue, snapshot_with}
use Rattle.x_snapshot.specs.Writer.{needs_second, version_of, break_lines, lines_of_breaks, snapshot_text}
use Rattle.x_texts.specs.Words.{cut_words, state_words}
use Rattle.x_snapshot.specs.Reader.{keyed_line, header, cut_from, state_from, end_from, problem_in, position_in, breaks_of_version, checked_end, ended, parts_after, parts_of}
use Rattle.x_snapshot.proofs.BackLemmas.{keyed_line_back, header_back, cut_back, state_back, end_back}
use Rattle.x_snapshot.proofs.ProblemBack.{IsProblemText, problem_back}
use Rattle.x_snapshot.proofs.BreakBack.{AreFine, breaks_back}

-- *the branch and the state*

abbrev pub Position : Type 0
Position = Option (List ℕ) × Option (List ℕ) × StateValue

-- the three lines, and what stands after them
abbrev pub position_text : Position → List ℕ → List ℕ
position_text v rest = line_text (codes "from" ∷ cut_words (codes "start") v.0) ++ (line_text (codes "to" ∷ cut_words (codes "end") v.1) ++ (line_text (codes "state" ∷ state_words v.2) ++ rest))

position_back : (text : List ℕ) (r : Position × List ℕ) → position_in text ≡ Ok r → text ≡ position_text r.0 r.1
unfolding position_in
position_back text r h =
    let a = bind_ok (keyed_line BadState (codes "from") (cut_from (codes "start")) text) (λ lo. keyed_line BadState (codes "to") (cut_from (codes "end")) lo.1 >>= λ hi. keyed_line BadState (codes "state") state_from hi.1 >>= λ state. Ok ((lo.0, hi.0, state.0), state.1)) r h in
    let b = bind_ok (keyed_line BadState (codes "to") (cut_from (codes "end")) a.0.1) (λ hi. keyed_line BadState (codes "state") state_from hi.1 >>= λ state. Ok ((a.0.0, hi.0, state.0), state.1)) r a.2 in
    let c = bind_ok (keyed_line BadState (codes "state") state_from b.0.1) (λ state. Ok ((a.0.0, b.0.0, state.0), state.1)) r b.2 in
    let i = keyed_line_back BadState (codes "from") (cut_from (codes "start")) text a.0 a.1 in
    let j = keyed_line_back BadState (codes "to") (cut_from (codes "end")) a.0.1 b.0 b.1 in
    let k = keyed_line_back BadState (codes "state") state_from b.0.1 c.0 c.1 in
    let from : text ≡ line_text (codes "from" ∷ cut_words (codes "start") a.0.0) ++ a.0.1 = i.2 ∙ ap (λ ws. line_text (codes "from" ∷ ws) ++ a.0.1) (cut_back (codes "start") i.0 a.0.0 i.1) in
    let to : a.0.1 ≡ line_text (codes "to" ∷ cut_words (codes "end") b.0.0) ++ b.0.1 = j.2 ∙ ap (λ ws. line_text (codes "to" ∷ ws) ++ b.0.1) (cut_back (codes "end") j.0 b.0.0 j.1) in
    let state : b.0.1 ≡ line_text (codes "state" ∷ state_words c.0.0) ++ c.0.1 = k.2 ∙ ap (λ ws. line_text (codes "state" ∷ ws) ++ c.0.1) (state_back k.0 c.0.0 k.1) in
    let all : text ≡ position_text (a.0.0, b.0.0, c.0.0) c.0.1 = from ∙ ap (λ t. line_text (codes "from" ∷ cut_words (codes "start") a.0.0) ++ t) (to ∙ ap (λ t. line_text (codes "to" ∷ cut_words (codes "end") b.0.0) ++ t) state) in
    subst (λ (v : Position × List ℕ). text ≡ position_text v.0 v.1) (ok_is ((a.0.0, b.0.0, c.0.0), c.0.1) r c.2) all

-- *the end*

no_bytes : (rest : List ℕ) → nat_lt 0 (length rest) ≡ false → rest ≡ []
no_bytes [] h = refl
no_bytes (b ∷ bs) h = absurd (grind (arith, nat_lt))

whole_back : (version : ℕ) (p : ProblemValue) (breaks : List Break) (rest : List ℕ) (u : Unit {0}) → checked_end version p breaks rest ≡ Ok u → (rest ≡ []) × (((version == 2) && not (needs_second p breaks)) ≡ false)
unfolding checked_end
whole_back version p breaks rest u h =
    let a = unrefused (nat_lt 0 (length rest)) TrailingBytes (cond ((version == 2) && not (needs_second p breaks)) (Err Spelling) (Ok tt)) u h in
    let b = unrefused ((version == 2) && not (needs_second p breaks)) Spelling (Ok tt) u a.1 in
    (no_bytes rest a.0, b.0)

-- *the version*

-- the breakpoints of a version that is right for them
record IsVersion (p : ProblemValue) (version : ℕ) (text : List ℕ) (bs : List Break) (rest : List ℕ) : Type 0 where
  text_is : text ≡ text_of (lines_of_breaks p bs) ++ rest
  fine : AreFine p bs
  version_is : version ≡ version_of p bs

first_version : (p : ProblemValue) (text : List ℕ) (r : List Break × List ℕ) → breaks_of_version 1 p text ≡ Ok r → nat_lt p.primary (length p.names) ≡ false → IsVersion p 1 text r.0 r.1
unfolding breaks_of_version
first_version p text r h plain =
    let same : ([], text) ≡ r = ok_is ([], text) r h in
    let needs : needs_second p [] ≡ false = rw plain refl in
    let here : IsVersion p 1 text [] text = record {
      text_is = ap (λ v. text_of (cond v (break_lines p []) []) ++ text) (sym needs);
      fine = record { met = refl; new = refl };
      version_is = ap (λ v. cond v 2 1) (sym needs);
    } in
    subst (λ (v : List Break × List ℕ). IsVersion p 1 text v.0 v.1) same here

second_version : (p : ProblemValue) (text : List ℕ) (r : List Break × List ℕ) → IsProblem p → breaks_of_version 2 p text ≡ Ok r → needs_second p r.0 ≡ true → IsVersion p 2 text r.0 r.1
unfolding breaks_of_version
second_version p text r g h needs =
    let b = breaks_back p g text r h in
    record {
      text_is = b.text_is ∙ ap (λ v. text_of (cond v (break_lines p r.0) []) ++ r.1) (sym needs);
      fine = b.fine;
      version_is = ap (λ v. cond v 2 1) (sym needs);
    }

version_back : (p : ProblemValue) (version : ℕ) (text : List ℕ) (r : List Break × List ℕ) → IsProblem p → (version ≡ 1) ⊎ (version ≡ 2) → breaks_of_version version p text ≡ Ok r → ((version == 1) && nat_lt p.primary (length p.names)) ≡ false → ((version == 2) && not (needs_second p r.0)) ≡ false → IsVersion p version text r.0 r.1
version_back p version text r g (inl e) h plain spelling =
    let here = first_version p text r (subst (λ n. breaks_of_version n p text ≡ Ok r) e h) (subst (λ n. ((n == 1) && nat_lt p.primary (length p.names)) ≡ false) e plain) in
    subst (λ n. IsVersion p n text r.0 r.1) (sym e) here
version_back p version text r g (inr e) h plain spelling =
    let needs : needs_second p r.0 ≡ true = not-false (needs_second p r.0) (subst (λ n. ((n == 2) && not (needs_second p r.0)) ≡ false) e spelling) in
    let here = second_version p text r g (subst (λ n. breaks_of_version n p text ≡ Ok r) e h) needs in
    subst (λ n. IsVersion p n text r.0 r.1) (sym e) here

-- *the whole*

pub one_printed : decimal 1 ≡ codes "1"
one_printed = decimal_digit 1 (omega arith)

pub two_printed : decimal 2 ≡ codes "2"
two_printed = decimal_digit 2 (omega arith)

-- what the words of the first line say
record IsHeader (n : ℕ) (words : List (List ℕ)) : Type 0 where
  words_are : words ≡ decimal n ∷ []
  one_of : (n ≡ 1) ⊎ (n ≡ 2)
  small : n ≤ 2

header_is : (n : ℕ) (words : List (List ℕ)) → ((n ≡ 1) × (words ≡ codes "1" ∷ [])) ⊎ ((n ≡ 2) × (words ≡ codes "2" ∷ [])) → IsHeader n words
header_is n words (inl q) =
    let e : n ≡ 1 = q.0 in
    record { words_are = q.1 ∙ ap (λ w. w ∷ []) (sym one_printed ∙ ap decimal (sym e)); one_of = inl e; small = omega arith }
header_is n words (inr q) =
    let e : n ≡ 2 = q.0 in
    record { words_are = q.1 ∙ ap (λ w. w ∷ []) (sym two_printed ∙ ap decimal (sym e)); one_of = inr e; small = omega arith }

pub joined : (a b f t s e : List (List ℕ)) (cover more : List ℕ) (t0 t1 t2 t3 t4 t5 : List ℕ) → t0 ≡ line_text a ++ t1 → t1 ≡ line_text b ++ (cover ++ t2) → t2 ≡ line_text f ++ (line_text t ++ (line_text s ++ t3)) → t3 ≡ more ++ t4 → t4 ≡ line_text e ++ t5 → t5 ≡ [] → t0 ≡ text_of (a ∷ b ∷ []) ++ cover ++ text_of (f ∷ t ∷ s ∷ []) ++ more ++ text_of (e ∷ [])
joined a b f t s e cover more t0 t1 t2 t3 t4 t5 e0 e1 e2 e3 e4 e5 = rw (e0, e1, e2, e3, e4, e5) (simp (append_assoc, append-nil))

-- a text that is read is the snapshot's, whose problem is one and whose breakpoints are in order
pub record IsRead (text : List ℕ) (v : SnapshotValue) : Type 0 where
  pub text_is : text ≡ snapshot_text v
  pub problem : IsProblem v.problem
  pub breaks : are_breaks v.problem v.breaks ≡ true

module _ (text : List ℕ) (n : ℕ) (words ends : List (List ℕ)) (t1 t2 t3 t4 t5 : List ℕ) (p : ProblemValue) (position : Position) (bs : List Break) where
  assembled : IsHeader n words → text ≡ line_text (codes "polysnap" ∷ words) ++ t1 → IsProblemText n t1 p t2 → t2 ≡ position_text position t3 → IsVersion p n t3 bs t4 → ends ≡ [] → t4 ≡ line_text (codes "end" ∷ ends) ++ t5 → t5 ≡ [] → IsRead text (snapshot_with p position.0 position.1 position.2 bs)
  unfolding snapshot_text
  assembled head e0 cover e2 version no_ends e4 e5 = record {
    text_is = joined (codes "polysnap" ∷ decimal (version_of p bs) ∷ []) (codes "problem" ∷ decimal (length (word_lines p)) ∷ []) (codes "from" ∷ cut_words (codes "start") position.0) (codes "to" ∷ cut_words (codes "end") position.1) (codes "state" ∷ state_words position.2) (codes "end" ∷ []) (written p) (text_of (lines_of_breaks p bs)) text t1 t2 t3 t4 t5
        (e0 ∙ ap (λ ws. line_text (codes "polysnap" ∷ ws) ++ t1) (head.words_are ∙ ap (λ m. decimal m ∷ []) version.version_is)) cover.text_is e2 version.text_is (e4 ∙ ap (λ ws. line_text (codes "end" ∷ ws) ++ t5) no_ends) e5;
    problem = cover.problem;
    breaks = and_from (list_all (is_break p) bs) (are_new bs) version.fine.met version.fine.new;
  }

pub parts_back : (text : List ℕ) (v : SnapshotValue) → parts_of text ≡ Ok v → IsRead text v
unfolding parts_of parts_after ended
parts_back text v h =
    let a = bind_ok (keyed_line BadHeader (codes "polysnap") header text) _ v h in
    let b = bind_ok (problem_in a.0.0 a.0.1) _ v a.2 in
    let c = bind_ok (position_in b.0.1) _ v b.2 in
    let d = bind_ok (breaks_of_version a.0.0 b.0.0 c.0.1) _ v c.2 in
    let f = bind_ok (ended a.0.0 b.0.0 d.0.0 d.0.1) (λ checked. Ok (snapshot_with b.0.0 c.0.0.0 c.0.0.1 c.0.0.2 d.0.0)) v d.2 in
    let e = bind_ok (keyed_line BadState (codes "end") end_from d.0.1) _ f.0 f.1 in
    let i = keyed_line_back BadHeader (codes "polysnap") header text a.0 a.1 in
    let head = header_is a.0.0 i.0 (header_back i.0 a.0.0 i.1) in
    let j = problem_back a.0.0 a.0.1 b.0 head.small b.1 in
    let k = keyed_line_back BadState (codes "end") end_from d.0.1 e.0 e.1 in
    let w = whole_back a.0.0 b.0.0 d.0.0 e.0.1 f.0 e.2 in
    let m = version_back b.0.0 a.0.0 c.0.1 d.0 j.problem head.one_of d.1 j.in_version w.1 in
    subst (IsRead text) (ok_is (snapshot_with b.0.0 c.0.0.0 c.0.0.1 c.0.0.2 d.0.0) v f.2)
    (assembled text a.0.0 i.0 k.0 a.0.1 b.0.1 c.0.1 d.0.1 e.0.1 b.0.0 c.0.0 d.0.0 head i.2 j (position_back b.0.1 c.0 c.1) m (end_back k.0 e.0.0 k.1) k.2 w.0)
