-- What a command line asks of the debugger, without where its paths lie in memory.
use Rattle.std.specs.Prelude.{ℕ, List, Option}
use Rattle.x_steps.specs.StateValue.{StateValue}
use Rattle.x_steps.specs.StateView.{state_value}
use Rattle.x_texts.specs.declared.breakpoint.Break.{Break}
use Rattle.x_snapshot.specs.Snapshot.{choices_of}
use Rattle.debug_language.specs.declared.question.Question.{Question}
use Rattle.debug_language.specs.declared.command.Command as declared
use Rattle.debug_language.specs.declared.command.Command.TheVariants as commands

-- a command; a cut is given by its choices, and None is the start of the run
pub data CommandValue : Type 0 where
  Nothing : CommandValue
  Step : ℕ → CommandValue
  Run : CommandValue
  Back : ℕ → CommandValue
  SetBreak : Break → CommandValue
  Clear : CommandValue
  Ask : Question → CommandValue
  Split : ℕ → ℕ → CommandValue
  Park : CommandValue
  Save : CommandValue
  SaveBreaks : CommandValue
  Close : CommandValue
  Enter : Option (List ℕ) → CommandValue
  Retract : CommandValue
  Hold : Option (List ℕ) → CommandValue
  PutBack : Option (List ℕ) → StateValue → CommandValue

-- the value of a command
abbrev pub command_value : declared.Command → CommandValue
command_value commands.Nothing = Nothing
command_value (commands.Step n) = Step n
command_value commands.Run = Run
command_value (commands.Back n) = Back n
command_value (commands.Break b) = SetBreak b
command_value commands.Clear = Clear
command_value (commands.Ask question) = Ask question
command_value (commands.Split level option) = Split level option
command_value commands.Park = Park
command_value commands.Save = Save
command_value commands.SaveBreaks = SaveBreaks
command_value commands.Close = Close
command_value (commands.Enter lo) = Enter (choices_of lo)
command_value commands.Retract = Retract
command_value (commands.Hold lo) = Hold (choices_of lo)
command_value (commands.PutBack lo state) = PutBack (choices_of lo) (state_value state)
