use Rattle.text_lines.proofs.FirstFaultLemmas.{first_fault, from_first_fault, whole_fault, from_whole_fault}
use Rattle.text_lines.proofs.laws.fault_is_first.Goals as goal

pub returns-clause-line : goal.returns-clause-line
returns-clause-line g c line nothing whole lines f n some = (first_fault line nothing whole lines f n some, from_first_fault line nothing whole lines f n)

pub returns-clause-whole : goal.returns-clause-whole
returns-clause-whole g c line nothing whole lines f = (whole_fault line nothing whole lines f, from_whole_fault line nothing whole lines f)
