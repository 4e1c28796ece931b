use Rattle.std.proofs.Common.{◌≡◌, ◌<◌, ◌+◌, ◌++◌, ◌∷◌, [], take, length, get_or, set, decimal, ℕ, List, refl, sym, ap, ◌∙◌, subst, arith}
use Rattle.std.proofs.lemmas.List.{length-set, length-take-le, take_more, take_more_set}
use Rattle.x_texts.specs.Ends.{IsVisitLine, IsClosed}
use Rattle.x_texts.proofs.EndLemmas.{each_small, line_end, last_end, first_short, one_more, close}
use Rattle.x_texts.proofs.visit_line.put_rest.Goals as goal

pub loop-place-init : goal.loop-place-init
loop-place-init c =
    let path = c.args.path.now in let count = c.args.count in record {
      line = c.requires.first_ones;
      end =
          let size = length-take-le count path c.requires.count in
          ap (λ n. get_or c.args.ends.now n 0) (sym size) ∙ last_end c.args.bytes.now c.args.ends.now (take count path) 0 c.requires.first_ones;
      kept = c.requires.kept;
      bytes_size = refl;
      ends_size = refl;
      kept_size = refl;
    }

pub put_choice-end-requires : goal.put_choice-end-requires
put_choice-end-requires c =
    let most = first_short c.args.path.now c.loop-place.place (omega (arith, c.loop-place-test.true)) (each_small c.args.path.now (λ k. omega (arith, (c.type_inv.path k).fits))) in record {
      room = omega (arith, most, c.loop-place.invariant.end, c.loop-place.invariant.bytes_size, c.requires.room.for_bytes, c.requires.wide, c.loop-place-test.true);
    }

pub loop-place-preserved : goal.loop-place-preserved
loop-place-preserved c =
    let path = c.args.path.now in let place = c.loop-place.place in let holds = c.loop-place.invariant in let choice = get_or path place 0 in
    let within : place < length path = omega (arith, c.loop-place-test.true) in
    let size : length (take place path) ≡ place = length-take-le place path (omega (arith, within)) in
    let most = first_short path place (omega (arith, within)) (each_small path (λ k. omega (arith, (c.type_inv.path k).fits))) in
    let next = take_more path place 0 within in
    let line =
    one_more c.loop-place.bytes c.loop-place.ends (take place path) c.put_choice-end.new.bytes (set c.loop-place.ends (place + 1) c.put_choice-end.result) choice c.put_choice-end.result holds.line
    (c.put_choice-end.ensures.written ∙ ap (λ e. take e c.loop-place.bytes ++ 32 ∷ decimal choice) holds.end)
    (omega (arith, c.put_choice-end.ensures.short, c.put_choice-end.ensures.size, most, holds.end, holds.bytes_size, c.requires.room.for_bytes, c.requires.wide, within))
    (ap (λ k. set c.loop-place.ends k c.put_choice-end.result) (omega (arith, size)))
    (omega (arith, size, within, holds.ends_size, c.requires.room.for_ends, c.requires.wide)) in record {
      line = subst (IsVisitLine c.put_choice-end.new.bytes (set c.loop-place.ends (place + 1) c.put_choice-end.result)) (sym next) line.0;
      end = line.1 ∙ ap line_end (sym next);
      kept = take_more_set c.loop-place.kept place choice (omega (arith, within, holds.kept_size, c.requires.wide)) ∙ ap (λ cs. cs ++ choice ∷ []) holds.kept ∙ sym next;
      bytes_size = c.put_choice-end.ensures.size ∙ holds.bytes_size;
      ends_size = length-set c.loop-place.ends (place + 1) c.put_choice-end.result ∙ holds.ends_size;
      kept_size = length-set c.loop-place.kept place choice ∙ holds.kept_size;
    }

pub bounds-bytes-end : goal.bounds-bytes-end
bounds-bytes-end c =
    let most = first_short c.args.path.now c.loop-place.place (omega (arith, c.loop-place-test.false, c.loop-place.auto)) (each_small c.args.path.now (λ k. omega (arith, (c.type_inv.path k).fits))) in
    omega (arith, most, c.loop-place.invariant.end, c.loop-place.invariant.bytes_size, c.requires.room.for_bytes, c.requires.wide, c.loop-place.auto)

pub returns-clause-line : goal.returns-clause-line
returns-clause-line c =
    let path = c.args.path.now in let holds = c.loop-place.invariant in let bytes = c.loop-place.bytes in
    let last : c.loop-place.place ≡ length path = omega (arith, c.loop-place-test.false, c.loop-place.auto, c.requires.count) in
    let kept : take (length path) c.loop-place.kept ≡ take (length path) path = subst (λ n. take n c.loop-place.kept ≡ take n path) last holds.kept in
    let same : take c.loop-place.place path ≡ take (length path) c.loop-place.kept = ap (λ n. take n path) last ∙ sym kept in
    let line = close bytes c.loop-place.ends (take c.loop-place.place path) holds.line (subst (λ e. e < length bytes) holds.end (bounds-bytes-end c)) in
    let whole = subst (λ (w : ℕ × List ℕ). IsVisitLine (set bytes w.0 10) c.loop-place.ends w.1 × IsClosed (set bytes w.0 10) w.1) (λ j. (sym holds.end j, same j)) line in record {
      within = omega (arith, c.requires.wide, holds.kept_size);
      line = whole.0;
      closed = whole.1;
      room = record {
        for_bytes = let size = length-set bytes c.loop-place.end 10 in omega (arith, size, holds.bytes_size, holds.kept_size, c.requires.room.for_bytes);
        for_ends = omega (arith, holds.ends_size, holds.kept_size, c.requires.room.for_ends);
      };
    }
