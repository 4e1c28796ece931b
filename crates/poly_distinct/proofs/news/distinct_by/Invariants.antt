use Rattle.std.proofs.Common.{◌≡◌, ℕ, [], map, take, vec_items, Vec}
use Rattle.std.specs.List.{list_any}
use Rattle.std.specs.Ordering.{is_eq}
use Rattle.std.specs.BTreeSet.{contains}
use Rattle.std.specs.declared.alloc.Global.{Global}
use Rattle.poly_place.specs.Chosen.{packing_value}
use Rattle.poly_place.specs.Forms.{forms_cmp, key_of}
use Rattle.poly_distinct.specs.Distinct.{new_from}
use Rattle.poly_distinct.proofs.news.distinct_by.Given as goal

-- the new ones so far, and the keys of all so far
abbrev pub invariant-loop-k : goal.invariant-loop-k
invariant-loop-k l = record {
  news : l.news ≡ new_from (λ q r. is_eq (forms_cmp (key_of l.cells (map vec_items l.list) (packing_value l.compiled q)) (key_of l.cells (map vec_items l.list) (packing_value l.compiled r)))) [] (take l.k l.paths);
  keys : (v : Vec ℕ Global) → contains (λ a b. forms_cmp (vec_items a) (vec_items b)) l.keys v
      ≡ list_any (λ q. is_eq (forms_cmp (vec_items v) (key_of l.cells (map vec_items l.list) (packing_value l.compiled q)))) (take l.k l.paths);
}
