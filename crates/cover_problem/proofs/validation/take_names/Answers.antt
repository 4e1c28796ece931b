use Rattle.std.proofs.Common.{[], map, ◌∙◌, ap, sym, string_bytes}
use Rattle.std.proofs.lemmas.Result.{err_from_is_err_and}
use Rattle.text_lines.specs.Each.{each}
use Rattle.cover_problem.specs.Validation.{add_name}
use Rattle.text_lines.proofs.ResultLemmas.{passes_on}
use Rattle.cover_problem.proofs.MapLemmas.{mapped_goes, mapped_stops, mapped_ends}
use Rattle.cover_problem.proofs.validation.take_names.Goals as goal

pub returns-in_err-take_name : goal.returns-in_err-take_name
returns-in_err-take_name c =
    let p = err_from_is_err_and c.from_residual.result c.from_residual.ensures.1 in
    rw (p.1, p.2)
    (passes_on c.in_err-take_name.field-0.0 (add_name (map (λ n. n.bytes) c.loop-name.names.keys) c.as_bytes.result.now) (each add_name [] (map string_bytes c.args.given.now))
    (λ f h. mapped_stops add_name string_bytes c.args.given.now c.loop-name.name-index (map (λ n. n.bytes) c.loop-name.names.keys) (each add_name [] (map string_bytes c.args.given.now)) c.loop-name.invariant c.name-item.result c.loop-name-test.true c.name-item.is
    f (ap (add_name (map (λ n. n.bytes) c.loop-name.names.keys)) (sym c.as_bytes.ensures.value) ∙ h))
    c.in_err-take_name.ensures)

pub loop-name-preserved : goal.loop-name-preserved
loop-name-preserved c =
    mapped_goes add_name (string_bytes) c.args.given.now c.loop-name.name-index (map (λ n. n.bytes) c.loop-name.names.keys) (each add_name [] (map string_bytes c.args.given.now)) c.loop-name.invariant c.name-item.result c.loop-name-test.true c.name-item.is
    (map (λ n. n.bytes) c.take_name.new.names.keys) (ap (add_name _) (sym c.as_bytes.ensures.value) ∙ c.in_ok-take_name.ensures)

pub returns : goal.returns
returns c = mapped_ends add_name string_bytes c.args.given.now c.loop-name.name-index (map (λ n. n.bytes) c.loop-name.names.keys) (each add_name [] (map string_bytes c.args.given.now)) c.loop-name.invariant c.loop-name-test.false
