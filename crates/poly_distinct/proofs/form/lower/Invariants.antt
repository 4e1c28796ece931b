use Rattle.std.proofs.Common.{◌≡◌, length, take}
use Rattle.poly_place.specs.Forms.{carried, form_by}
use Rattle.poly_distinct.proofs.NotedLemmas.{AreNoted}
use Rattle.poly_distinct.proofs.LowerLemmas.{IsLowering}
use Rattle.poly_distinct.proofs.form.lower.Given as goal

-- the form is written up to here, and the numbers up to here are noted
abbrev pub invariant-loop-k : goal.invariant-loop-k
invariant-loop-k l = record {
  lowering : IsLowering (form_by l.numbers l.carrier) l.fn.best l.k l.order l.best;
  noted : AreNoted (take l.k (carried l.numbers l.carrier)) l.firsts;
  long : length l.firsts ≡ length l.fn.firsts;
}
