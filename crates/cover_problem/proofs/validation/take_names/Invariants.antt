use Rattle.std.proofs.Common.{◌≡◌, [], map, drop, string_bytes}
use Rattle.text_lines.specs.Each.{each}
use Rattle.cover_problem.specs.Validation.{add_name}
use Rattle.cover_problem.proofs.validation.take_names.Given as goal

abbrev pub invariant-loop-name : goal.invariant-loop-name
invariant-loop-name l = each add_name (map (λ n. n.bytes) l.names.keys) (map string_bytes (drop l.name-index l.given)) ≡ each add_name [] (map string_bytes l.given)
