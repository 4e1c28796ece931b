-- How the writer's steps make the text of a snapshot.
use Rattle.std.proofs.Common.{◌≡◌, ℕ, ◌+◌, ◌<◌, List, [], ◌∷◌, ◌++◌, length, drop, map, refl, ◌∙◌, ap, arith, decimal, codes, length-append, append_assoc, append-nil}
use Rattle.std.proofs.lemmas.List.{length-map}
use Rattle.text_lines.specs.Writing.{line_text, text_of}
use Rattle.cover_problem.specs.Problem.{ProblemValue}
use Rattle.cover_problem.specs.Grammar.{maybe_words, option_words, word_lines, written}
use Rattle.x_steps.specs.StateValue.{StateValue}
use Rattle.x_texts.specs.declared.breakpoint.Break.{Break}
use Rattle.x_snapshot.specs.Snapshot.{SnapshotValue}
use Rattle.x_snapshot.specs.Writer.{version_of, lines_of_breaks, snapshot_text}
use Rattle.x_texts.specs.Words.{cut_words, state_words}

-- *how many lines a problem has*

pub one_maybe : (names : List (List ℕ)) → 0 < length names → length (maybe_words names) ≡ 1
one_maybe [] some = absurd (omega arith)
one_maybe (name ∷ names) some = refl

pub zero_maybe : (names : List (List ℕ)) → length names ≡ 0 → length (maybe_words names) ≡ 0
zero_maybe [] none = refl
zero_maybe (name ∷ names) none = absurd (omega arith)

pub lines_counted : (p : ProblemValue) (maybe options : ℕ) → length (maybe_words (drop p.primary p.names)) ≡ maybe → options ≡ length p.options → 1 + maybe + options ≡ length (word_lines p)
lines_counted p maybe options e f =
    let g : length (maybe_words (drop p.primary p.names) ++ map (option_words p.names) p.options) ≡ maybe + options = simp (length-append, length-map, e, f) in
    omega arith

-- *the whole*

module _ (v : SnapshotValue) (p : ProblemValue) (breaks : List Break) (s : StateValue) (version count : ℕ) (is_version : version ≡ version_of p breaks) (is_count : count ≡ length (word_lines p)) (same_problem : p ≡ v.problem) (same_breaks : breaks ≡ v.breaks) (same_state : s ≡ v.state) where
  pub all_written : (t0 t1 t2 t3 t4 t5 t6 t7 t8 : List ℕ) → t0 ≡ [] → t1 ≡ t0 ++ line_text (codes "polysnap" ∷ decimal version ∷ []) → t2 ≡ t1 ++ line_text (codes "problem" ∷ decimal count ∷ []) → t3 ≡ t2 ++ written p → t4 ≡ t3 ++ line_text (codes "from" ∷ cut_words (codes "start") v.lo) → t5 ≡ t4 ++ line_text (codes "to" ∷ cut_words (codes "end") v.hi) → t6 ≡ t5 ++ line_text (codes "state" ∷ state_words s) → t7 ≡ t6 ++ text_of (lines_of_breaks p breaks) → t8 ≡ t7 ++ line_text (codes "end" ∷ []) → t8 ≡ snapshot_text v
  unfolding snapshot_text
  all_written t0 t1 t2 t3 t4 t5 t6 t7 t8 e0 e1 e2 e3 e4 e5 e6 e7 e8 =
      joined (codes "polysnap" ∷ decimal (version_of v.problem v.breaks) ∷ []) (codes "problem" ∷ decimal (length (word_lines v.problem)) ∷ []) (codes "from" ∷ cut_words (codes "start") v.lo) (codes "to" ∷ cut_words (codes "end") v.hi) (codes "state" ∷ state_words v.state) (codes "end" ∷ []) (written v.problem) (text_of (lines_of_breaks v.problem v.breaks)) t0 t1 t2 t3 t4 t5 t6 t7 t8
      e0 (rw (← same_problem, ← same_breaks, ← is_version) e1) (rw (← same_problem, ← is_count) e2) (rw (← same_problem) e3) e4 e5 (e6 ∙ ap (λ x. t5 ++ line_text (codes "state" ∷ state_words x)) same_state) (rw (← same_problem, ← same_breaks) e7) e8
    where
      joined : (a b f t s e : List (List ℕ)) (cover more : List ℕ) (t0 t1 t2 t3 t4 t5 t6 t7 t8 : List ℕ) → t0 ≡ [] → t1 ≡ t0 ++ line_text a → t2 ≡ t1 ++ line_text b → t3 ≡ t2 ++ cover → t4 ≡ t3 ++ line_text f → t5 ≡ t4 ++ line_text t → t6 ≡ t5 ++ line_text s → t7 ≡ t6 ++ more → t8 ≡ t7 ++ line_text e → t8 ≡ text_of (a ∷ b ∷ []) ++ cover ++ text_of (f ∷ t ∷ s ∷ []) ++ more ++ text_of (e ∷ [])
      joined a b f t s e cover more t0 t1 t2 t3 t4 t5 t6 t7 t8 e0 e1 e2 e3 e4 e5 e6 e7 e8 = rw (e8, e7, e6, e5, e4, e3, e2, e1, e0) (simp (append_assoc, append-nil))
