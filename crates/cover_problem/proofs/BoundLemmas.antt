-- What the number of an item is at least and at most, and how many items and options a problem has at most.
use Rattle.std.proofs.Common.{ℕ, ◌≡◌, ◌<◌, ◌≤◌, nat_lt, nat_le, ◌&&◌, true, length, ltb-true, leb-true, lt-ltb, le-leb}
use Rattle.std.proofs.lemmas.Bool.{and_parts, and_from}
use Rattle.cover_problem.specs.Problem.{ProblemValue, IsProblem, is_item, size_of}

pub item_bounds : (n i : ℕ) → is_item n i ≡ true → (0 < i) × (i ≤ n)
item_bounds n i h =
    let p = and_parts (nat_lt 0 i) (nat_le i n) h in
    (ltb-true 0 i p.0, leb-true i n p.1)

pub item_numbered : (n i : ℕ) → 0 < i → i ≤ n → is_item n i ≡ true
item_numbered n i some within = and_from (nat_lt 0 i) (nat_le i n) (lt-ltb 0 i some) (le-leb i n within)

pub few : (p : ProblemValue) → IsProblem p → (length p.names ≤ 65535) × (length p.options ≤ 262143)
few p sound =
    let a = and_parts (nat_le (length p.names) 65535 && nat_le (length p.options) 262143) (nat_le (size_of p) 8388608) sound.small in
    let b = and_parts (nat_le (length p.names) 65535) (nat_le (length p.options) 262143) a.0 in
    (leb-true (length p.names) 65535 b.0, leb-true (length p.options) 262143 b.1)
