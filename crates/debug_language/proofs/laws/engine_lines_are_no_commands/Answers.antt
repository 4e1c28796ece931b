use Rattle.text_lines.specs.Lines.{words_of, without_return}
use Rattle.debug_language.proofs.EngineLemmas.{engine_is_none}
use Rattle.debug_language.proofs.laws.engine_lines_are_no_commands.Goals as goal

pub returns : goal.returns
returns c = λ p line command h. engine_is_none p (words_of (without_return line)) command h
