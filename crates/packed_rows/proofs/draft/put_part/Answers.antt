use Rattle.std.proofs.Common.{◌-◌, ◌++◌, length, ap, ◌∙◌, subst, arith, length-append}
use Rattle.packed_rows.specs.Pieces.{IsFound, span_of, draft_bytes}
use Rattle.packed_rows.proofs.PieceLemmas.{draft_more, places_more, draft_shared}
use Rattle.packed_rows.proofs.draft.put_part.Goals as goal

pub returns-then-not-is_shared-clause-bytes : goal.returns-then-not-is_shared-clause-bytes
returns-then-not-is_shared-clause-bytes c = draft_more _ _ _ _ _ c.requires.from c.requires.placed c.put_bytes.ensures.added

pub returns-then-not-is_shared-clause-placed : goal.returns-then-not-is_shared-clause-placed
returns-then-not-is_shared-clause-placed c =
    let e = ap length c.put_bytes.ensures.added in let n = length-append c.args.block.now.items c.args.part.now in
    places_more _ _ _ (omega arith) c.requires.placed

pub returns-clause-bytes : goal.returns-clause-bytes
returns-clause-bytes c =
    let b = c.args.block.now in let n = b.ok.0 in let part = c.args.part.now in
    let found = subst (λ xs. IsFound xs part c.find-found.result.0 c.find-found.result.1) c.deref.ensures.value c.find-found.ensures in
    let closed = c.put_place.ensures.added ∙ ap (λ k. c.args.places.now.items ++ span_of c.args.from (k - c.args.from)) (c.len-2.ensures ∙ n) in
    let new = c.put_bytes-2.ensures.added ∙ ap (λ xs. b.items ++ xs) c.split_at.ensures.back in
    ap (draft_bytes c.put_bytes-2.new.block.items c.put_place-2.new.places.items) (c.len-from.ensures ∙ n)
    ∙ (draft_shared b.items _ part _ _ _ _ _ _ c.requires.from c.requires.placed found closed c.put_place-2.ensures.added new).1

pub returns-clause-placed : goal.returns-clause-placed
returns-clause-placed c =
    let b = c.args.block.now in let n = b.ok.0 in let part = c.args.part.now in
    let found = subst (λ xs. IsFound xs part c.find-found.result.0 c.find-found.result.1) c.deref.ensures.value c.find-found.ensures in
    let closed = c.put_place.ensures.added ∙ ap (λ k. c.args.places.now.items ++ span_of c.args.from (k - c.args.from)) (c.len-2.ensures ∙ n) in
    let new = c.put_bytes-2.ensures.added ∙ ap (λ xs. b.items ++ xs) c.split_at.ensures.back in
    let e = ap length c.put_bytes-2.ensures.added in let m = length-append b.items c.split_at.result.1.now in
    places_more (length b.items) (length c.put_bytes-2.new.block.items) c.put_place-2.new.places.items (omega arith)
    (draft_shared b.items _ part _ _ _ _ _ _ c.requires.from c.requires.placed found closed c.put_place-2.ensures.added new).0
