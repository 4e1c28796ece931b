use Rattle.std.proofs.Common.{◌∙◌, sym, ap, Ok}
use Rattle.x_snapshot.proofs.WholeBack.{parts_back}
use Rattle.x_snapshot.proofs.ReadFaults.{refused_read}
use Rattle.x_snapshot.proofs.WholeAgain.{read_as, only_memory, only_memory_left}
use Rattle.x_snapshot.proofs.JudgedLemmas.{read_judged, refused_judged}
use Rattle.x_snapshot.proofs.reader.read_snapshot.Goals as goal

pub returns-in-Err-clause-always : goal.returns-in-Err-clause-always
returns-in-Err-clause-always c = λ v g same. rw c.fault_from.ensures (only_memory c.args.bytes.now v g same c.in-Err.refusal c.in-Err.ensures)

pub returns-in-Ok-new-clause-text : goal.returns-in-Ok-new-clause-text
returns-in-Ok-new-clause-text c = rw c.in-Ok-new.ensures.made (parts_back c.args.bytes.now _ c.in-Ok.ensures).text_is

pub returns-in-Ok-new-clause-every : goal.returns-in-Ok-new-clause-every
returns-in-Ok-new-clause-every c = λ v g same. c.in-Ok-new.ensures.made ∙ read_as c.args.bytes.now v g same _ c.in-Ok.ensures

pub returns-in-Err-new-clause-always : goal.returns-in-Err-new-clause-always
returns-in-Err-new-clause-always c = λ v g same. only_memory_left c.args.bytes.now v g same _ c.in-Ok.ensures c.in-Err-new.refused.fault c.in-Err-new.ensures.refused

pub returns-in-Err-new-clause-refused : goal.returns-in-Err-new-clause-refused
returns-in-Err-new-clause-refused c = refused_read c.args.bytes.now _ c.in-Ok.ensures c.in-Err-new.refused.fault c.in-Err-new.ensures.refused

pub returns-in-Ok-new-clause-snapshot : goal.returns-in-Ok-new-clause-snapshot
returns-in-Ok-new-clause-snapshot c = read_judged c.args.bytes.now _ c.in-Ok.ensures c.in-Ok-new.ensures.snapshot ∙ ap Ok (sym c.in-Ok-new.ensures.made)

pub returns-in-Err-new-clause-fault : goal.returns-in-Err-new-clause-fault
returns-in-Err-new-clause-fault c =
    refused_judged c.args.bytes.now c.in-Err-new.refused.fault
    (refused_read c.args.bytes.now _ c.in-Ok.ensures c.in-Err-new.refused.fault c.in-Err-new.ensures.refused)
