-- The examples of specs/Snapshot.antt, Reader.antt, Faults.antt, Refusals.antt, ReadRefusals.antt and Writer.antt.
use Rattle.std.proofs.Common.{◌≡◌, true, false, [], ◌∷◌, ◌++◌, codes, Some, Err, inl, refl, lit<, lit≤, arith}
use Rattle.std.proofs.Common as common
use Rattle.std.specs.Fmt.{digits}
use Rattle.text_lines.specs.declared.refusal.Refusal.TheVariants as refusals
use Rattle.cover_problem.specs.Problem.{ProblemValue}
use Rattle.cover_problem.specs.Grammar.{written}
use Rattle.cover_problem.specs.Covering.{active, remaining, choice}
use Rattle.cover_problem.specs.Path.{IsValid, taken, covered_by}
use Rattle.cover_problem.proofs.CoverExamples.{small}
use Rattle.x_steps.specs.declared.state.Label.TheVariants.{X2, X5}
use Rattle.x_steps.specs.declared.state.Cursor.TheVariants as cursor
use Rattle.x_steps.specs.StateValue.{at, start, done}
use Rattle.x_steps.specs.Rank.{rank}
use Rattle.x_steps.proofs.RunLemmas.{done_fits}
use Rattle.x_branches.specs.Cut.{cut_state}
use Rattle.x_branches.proofs.CutLemmas.{cut_fits}
use Rattle.x_branches.proofs.StageLemmas.{rank_comes}
use Rattle.x_branches.proofs.RunnerLemmas.{before_not}
use Rattle.x_snapshot.specs.declared.fault.SnapshotFault.TheVariants.{Truncated, BadHeader, BadVersion, NotOnRun, BadBreak, OutOfMemory}
use Rattle.x_texts.specs.declared.breakpoint.Break.TheVariants as breakpoints
use Rattle.x_snapshot.specs.Faults.{number_of, name_of}
use Rattle.x_snapshot.specs.Refusals.{IsCutRefused, IsBreakRefused, IsRefused}
use Rattle.x_snapshot.specs.ReadRefusals.{fault_from, IsReadRefused}
use Rattle.x_snapshot.specs.Writer.{version_of, snapshot_text}
use Rattle.x_snapshot.specs.Snapshot.{SnapshotValue, snapshot_with, IsOnRun, IsOnBranch, IsSnapshot}
use Rattle.x_snapshot.specs.Judged.{is_on_run}
use Rattle.x_snapshot.proofs.JudgedLemmas.{on_run_decides}
use Rattle.x_snapshot.specs.Reader.{first_line, line_words, after_key, keyed, keyed_line, header, parts_of}

-- from the cut 4 to the end, X2 after the choices 4 5 1
abbrev from_four : SnapshotValue
from_four = snapshot_with small (Some (4 ∷ [])) common.None (at X2 (4 ∷ 5 ∷ 1 ∷ []) cursor.None) []

four_on_run : IsOnRun small (Some (4 ∷ [])) common.None (at X2 (4 ∷ 5 ∷ 1 ∷ []) cursor.None)
unfolding is_on_run active remaining choice taken covered_by
four_on_run = (on_run_decides from_four).0 refl

four_inside : IsOnBranch small (Some (4 ∷ [])) common.None (at X2 (4 ∷ 5 ∷ 1 ∷ []) cursor.None)
unfolding cut_state rank
four_inside =
    let low = cut_fits small (4 ∷ []) four_on_run.low in
    let here = four_on_run.fits in
    let end = done_fits small in
    record {
      branch = record { low = refl; high = tt; order = rank_comes small (cut_state (4 ∷ [])) done low end (omega arith) };
      within = record {
        begun = before_not small (at X2 (4 ∷ 5 ∷ 1 ∷ []) cursor.None) (cut_state (4 ∷ [])) here (omega arith);
        not_past = before_not small done (at X2 (4 ∷ 5 ∷ 1 ∷ []) cursor.None) end (omega arith);
      };
    }

four_is_snapshot : IsSnapshot from_four
four_is_snapshot = record {
  problem = record { some = lit< tt; within = lit≤ tt; named = refl; new = refl; options_are = refl; small = refl };
  breaks = refl;
  on_run = four_on_run;
  inside = four_inside;
}

cut_off : parts_of (codes "hello") ≡ Err Truncated
unfolding parts_of keyed_line keyed first_line
cut_off = refl

no_header : parts_of (codes "hello" ++ 10 ∷ []) ≡ Err BadHeader
unfolding parts_of keyed_line keyed first_line line_words after_key
no_header = refl

no_version : parts_of (codes "polysnap 01" ++ 10 ∷ []) ≡ Err BadVersion
unfolding parts_of keyed_line keyed first_line line_words after_key header
no_version = refl

-- ---- specs/Faults.antt

its_number : number_of BadBreak ≡ Some 10
its_number = refl

its_name : name_of BadBreak ≡ codes "BadBreak"
its_name = refl

no_number : number_of OutOfMemory ≡ common.None
no_number = refl

-- ---- specs/Refusals.antt

-- there are 7 items, so the levels are 0 to 7
level_refused : IsRefused (snapshot_with small common.None common.None start (breakpoints.Level 8 ∷ [])) BadBreak
level_refused = refl

twice_refused : IsBreakRefused small (breakpoints.Visit ∷ breakpoints.Visit ∷ []) BadBreak
twice_refused = refl

cut_refused : IsCutRefused small (Some (3 ∷ [])) NotOnRun
unfolding IsValid covered_by taken choice active remaining
cut_refused cut = let none : false ≡ true = cut.valid.0.left in absurd (cc)

-- ---- specs/ReadRefusals.antt

text_refused : IsReadRefused (codes "hello") Truncated
text_refused = inl cut_off

memory_refused : fault_from refusals.OutOfMemory ≡ OutOfMemory
memory_refused = refl

-- ---- specs/Writer.antt

-- one item, and two options of it
abbrev two : ProblemValue
two = record { names = codes "a" ∷ []; primary = 1; options = (1 ∷ []) ∷ (1 ∷ []) ∷ [] }

its_text
    : snapshot_text (snapshot_with two (Some (1 ∷ [])) common.None (at X5 [] (cursor.At 2)) [])
    ≡ codes "polysnap 1" ++ 10 ∷ codes "problem 3" ++ 10 ∷ codes "items a" ++ 10 ∷ codes "option a" ++ 10 ∷ codes "option a" ++ 10
    ∷ codes "from 1" ++ 10 ∷ codes "to end" ++ 10 ∷ codes "state X5 2" ++ 10 ∷ codes "end" ++ 10 ∷ []
unfolding snapshot_text written digits
its_text = refl

second : version_of two (breakpoints.Visit ∷ []) ≡ 2
second = refl
