-- The lines of a problem that is read are those that are written of it.
use Rattle.std.proofs.Common.{◌≡◌, ℕ, suc, zero, ◌+◌, ◌-◌, ◌^◌, ◌<◌, ◌≤◌, ◌==◌, nat_lt, Bool, true, false, not, cond, ◌&&◌, List, [], ◌∷◌, ◌++◌, length, take, map, filter, decimal, codes, Result, Ok, Err, refl, sym, ◌∙◌, ap, subst, arith, append_assoc, length-append}
use Rattle.std.specs.Prelude.{bytes_eq}
use Rattle.std.specs.List.{list_all}
use Rattle.std.specs.Cmp.Lexicographic.{bytes_decides}
use Rattle.std.proofs.lemmas.Bool.{and_parts, and_from}
use Rattle.std.proofs.lemmas.List.{length-map}
use Rattle.std.proofs.Math.Seq.{take-append_seam}
use Rattle.text_lines.specs.Lines.{lines_of, is_empty, is_one_line}
use Rattle.text_lines.specs.Writing.{is_word, spaced, line_text, words_of_line, are_words}
use Rattle.text_lines.specs.Each.{◌>>=◌}
use Rattle.text_lines.proofs.LineLemmas.{ended_line}
use Rattle.text_lines.proofs.PlainLemmas.{plain_lines_say_words}
use Rattle.text_lines.proofs.WritingLemmas.{written_lines}
use Rattle.text_lines.proofs.ResultLemmas.{ok_is, no_fault, bind_ok, granted, unrefused}
use Rattle.cover_problem.specs.declared.fault.Fault.{Fault}
use Rattle.cover_problem.specs.Limits.{most_options}
use Rattle.cover_problem.specs.Problem.{ProblemValue, IsProblem}
use Rattle.cover_problem.specs.Reading.{problem_of}
use Rattle.cover_problem.specs.Grammar.{IsCoverText, word_lines, written}
use Rattle.cover_problem.proofs.TextLemmas.{read_is_text}
use Rattle.cover_problem.proofs.WrittenLemmas.{written_is_text}
use Rattle.x_snapshot.specs.declared.fault.SnapshotFault.TheVariants.{BadProblem}
use Rattle.x_snapshot.specs.Reader.{first_line, keyed_line, found_or, count_from, positive, repeated, after_line, after_lines, spelled, in_version, problem_before, lines_from, problem_in}
use Rattle.x_snapshot.proofs.ReadLemmas.{line_back, line_is_one}
use Rattle.x_snapshot.proofs.BackLemmas.{found_is, count_back, positive_is, keyed_line_back}

-- *the words of a problem's lines*

kept : {X : Type 0} (t u : X → Bool) (xs : List X) → list_all t xs ≡ true → list_all t (filter u xs) ≡ true
kept t u [] h = refl
kept {X} t u (x ∷ xs) h = step (u x) (and_parts (t x) (list_all t xs) h) (kept t u xs (and_parts (t x) (list_all t xs) h).1)
  where
    step : (v : Bool) → (t x ≡ true) × (list_all t xs ≡ true) → list_all t (filter u xs) ≡ true → list_all t (cond v (x ∷ filter u xs) (filter u xs)) ≡ true
    step true p later = and_from (t x) (list_all t (filter u xs)) p.0 later
    step false p later = later

-- they are words
pub problem_words : (p : ProblemValue) → IsProblem p → are_words (word_lines p) ≡ true
problem_words p g =
    let text = written_is_text p g in
    let all : list_all (list_all is_word) (map words_of_line (lines_of (written p))) ≡ true = plain_lines_say_words (lines_of (written p)) text.plain in
    subst (λ ls. list_all (list_all is_word) ls ≡ true) text.says (kept (list_all is_word) (λ words. not (is_empty words)) (map words_of_line (lines_of (written p))) all)

-- as many lines are written
pub lines_written : (p : ProblemValue) → IsProblem p → length (lines_of (written p)) ≡ length (word_lines p)
unfolding written
lines_written p g = ap length (written_lines (word_lines p) (problem_words p g)) ∙ length-map (word_lines p) spaced

-- *so many lines*

pub lines_back : (n : ℕ) (text rest : List ℕ) → after_lines n text ≡ Ok rest → (front : List ℕ) × (text ≡ front ++ rest) × (length (lines_of front) ≡ n)
unfolding repeated
lines_back zero text rest h = ([], ok_is text rest h, refl)
lines_back (suc n) text rest h = step (λ t. lines_back n t rest) (bind_ok (after_line text) (λ t. repeated after_line n t) rest h)
  where
    step : ((t : List ℕ) → after_lines n t ≡ Ok rest → (front : List ℕ) × (t ≡ front ++ rest) × (length (lines_of front) ≡ n)) → (t : List ℕ) × (after_line text ≡ Ok t) × (repeated after_line n t ≡ Ok rest) → (front : List ℕ) × (text ≡ front ++ rest) × (length (lines_of front) ≡ suc n)
    step later (t, p, q) =
        let s = bind_ok (first_line text) (λ s. Ok s.1) t p in
        let r = later t q in
        let after : s.0.1 ≡ r.0 ++ rest = ok_is s.0.1 t s.2 ∙ r.1 in
        let one : is_one_line s.0.0 ≡ true = line_is_one text s.0 s.1 in
        let text_is : text ≡ (s.0.0 ++ 10 ∷ r.0) ++ rest = line_back text s.0 s.1 ∙ ap (λ back. s.0.0 ++ 10 ∷ back) after ∙ sym (append_assoc s.0.0 (10 ∷ r.0) rest) in
        let count : length (lines_of (s.0.0 ++ 10 ∷ r.0)) ≡ suc n = ap length (ended_line s.0.0 r.0 one) ∙ ap suc r.2 in
        (s.0.0 ++ 10 ∷ r.0, text_is, count)

-- *the problem*

spelled_back : (text : List ℕ) (found : Result ProblemValue (Fault × ℕ)) (p : ProblemValue) → spelled text found ≡ Ok p → (found ≡ Ok p) × (written p ≡ text)
unfolding spelled
spelled_back text (Ok q) p h =
    let g = granted (bytes_eq (written q) text) BadProblem (Ok q) p h in
    let same : q ≡ p = ok_is q p g.1 in
    (ap (λ x. Ok x) same, ap written (sym same) ∙ (bytes_decides (written q) text).0 g.0)
spelled_back text (Err f) p h = absurd (no_fault BadProblem p h)

pub in_version_back : (version : ℕ) (p q : ProblemValue) → in_version version p ≡ Ok q → (p ≡ q) × (((version == 1) && nat_lt p.primary (length p.names)) ≡ false)
unfolding in_version
in_version_back version p q h =
    let u = unrefused ((version == 1) && nat_lt p.primary (length p.names)) BadProblem (Ok p) q h in
    (ok_is p q u.1, u.0)

before_back : (version : ℕ) (front rest : List ℕ) (p : ProblemValue) → problem_before version (front ++ rest) rest ≡ Ok p → (written p ≡ front) × IsProblem p × (((version == 1) && nat_lt p.primary (length p.names)) ≡ false)
unfolding problem_before
before_back version front rest p h =
    let size : length (front ++ rest) - length rest ≡ length front = omega (arith, length-append front rest) in
    let part : take (length (front ++ rest) - length rest) (front ++ rest) ≡ front = ap (λ n. take n (front ++ rest)) size ∙ take-append_seam front rest in
    let k : (spelled front (problem_of front) >>= in_version version) ≡ Ok p = subst (λ t. (spelled t (problem_of t) >>= in_version version) ≡ Ok p) part h in
    let a = bind_ok (spelled front (problem_of front)) (in_version version) p k in
    let b = in_version_back version a.0 p a.2 in
    let c = spelled_back front (problem_of front) a.0 a.1 in
    let text : IsCoverText front a.0 = read_is_text front a.0 c.0 in
    (subst (λ q. written q ≡ front) b.0 c.1, subst (λ q. IsProblem q) b.0 text.problem, subst (λ q. ((version == 1) && nat_lt q.primary (length q.names)) ≡ false) b.0 b.1)

lines_from_back : (version n : ℕ) (words : List (List ℕ)) → version ≤ 2 → lines_from version words ≡ Ok n → words ≡ decimal n ∷ []
unfolding lines_from
lines_from_back version n words small h =
    let a = bind_ok (count_from BadProblem (most_options + version) words) (λ n. found_or BadProblem (positive n)) n h in
    let b = positive_is a.0 n (found_is BadProblem (positive a.0) n a.2) in
    let bound : most_options + version < 2 ^ 64 = omega arith in
    (count_back BadProblem (most_options + version) a.0 words bound a.1).0 ∙ ap (λ m. decimal m ∷ []) b.0

-- the lines of a problem, and what stands after them
pub record IsProblemText (version : ℕ) (text : List ℕ) (p : ProblemValue) (rest : List ℕ) : Type 0 where
  pub text_is : text ≡ line_text (codes "problem" ∷ decimal (length (word_lines p)) ∷ []) ++ (written p ++ rest)
  pub problem : IsProblem p
  pub in_version : ((version == 1) && nat_lt p.primary (length p.names)) ≡ false

pub problem_back : (version : ℕ) (text : List ℕ) (r : ProblemValue × List ℕ) → version ≤ 2 → problem_in version text ≡ Ok r → IsProblemText version text r.0 r.1
unfolding problem_in
problem_back version text r small h =
    let a = bind_ok (keyed_line BadProblem (codes "problem") (lines_from version) text) (λ count. after_lines count.0 count.1 >>= λ rest. problem_before version count.1 rest >>= λ problem. Ok (problem, rest)) r h in
    let b = bind_ok (after_lines a.0.0 a.0.1) (λ rest. problem_before version a.0.1 rest >>= λ problem. Ok (problem, rest)) r a.2 in
    let c = bind_ok (problem_before version a.0.1 b.0) (λ problem. Ok (problem, b.0)) r b.2 in
    let k = keyed_line_back BadProblem (codes "problem") (lines_from version) text a.0 a.1 in
    let l = lines_back a.0.0 a.0.1 b.0 b.1 in
    let d = before_back version l.0 b.0 c.0 (subst (λ t. problem_before version t b.0 ≡ Ok c.0) l.1 c.1) in
    let count : a.0.0 ≡ length (word_lines c.0) = sym l.2 ∙ ap (λ t. length (lines_of t)) (sym d.0) ∙ lines_written c.0 d.1 in
    let words : k.0 ≡ decimal (length (word_lines c.0)) ∷ [] = lines_from_back version a.0.0 k.0 small k.1 ∙ ap (λ n. decimal n ∷ []) count in
    let after : a.0.1 ≡ written c.0 ++ b.0 = l.1 ∙ ap (λ t. t ++ b.0) (sym d.0) in
    let checked_end : IsProblemText version text c.0 b.0 = record {
      text_is = k.2 ∙ ap (λ ws. line_text (codes "problem" ∷ ws) ++ a.0.1) words ∙ ap (λ t. line_text (codes "problem" ∷ decimal (length (word_lines c.0)) ∷ []) ++ t) after;
      problem = d.1;
      in_version = d.2;
    } in
    subst (λ (v : ProblemValue × List ℕ). IsProblemText version text v.0 v.1) (ok_is (c.0, b.0) r c.2) checked_end
