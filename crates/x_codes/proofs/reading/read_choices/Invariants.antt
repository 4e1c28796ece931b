use Rattle.std.proofs.Common.{◌≡◌, ◌++◌, take, drop, map}
use Rattle.x_codes.specs.StateCode.{choice_of}
use Rattle.x_codes.proofs.reading.read_choices.Given as goal

abbrev pub invariant-reading : goal.invariant-reading
invariant-reading l = record {
  choices : l.path.items ++ map choice_of (take l.left l.reader) ≡ l.fn.path.items ++ map choice_of (take l.count l.fn.reader);
  rest : drop l.left l.reader ≡ drop l.count l.fn.reader;
}

abbrev pub decreases-reading : goal.decreases-reading
decreases-reading l = l.left
