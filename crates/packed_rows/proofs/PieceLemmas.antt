-- Rows in pieces of a block: reading a piece, and a piece more.
use Rattle.std.proofs.Common.{◌≡◌, ℕ, zero, suc, ◌+◌, ◌-◌, ◌<◌, ◌≤◌, List, [], ◌∷◌, ◌++◌, length, take, drop, refl, sym, ap, ◌∙◌, subst, arith, append_assoc}
use Rattle.std.proofs.lemmas.Bool.Decides.{nat_tests}
use Rattle.std.proofs.lemmas.List.{append-nil, drop-append-le, take-append-le, length-drop, take_all, take-append-drop, drop-drop}
use Rattle.std.proofs.Math.Seq.{take-add, drop-append_seam}
use Rattle.packed_rows.specs.Pieces.{row_bytes, AreSpans, draft_bytes, HaveCommon, IsFound, span_of}

-- ---- places

pub places_more : (n m : ℕ) (ps : List ℕ) → n ≤ m → AreSpans n ps → AreSpans m ps
places_more n m [] l a = a
places_more n m (s ∷ []) l a = a
places_more n m (s ∷ k ∷ ps) l a = let p = a.1 in (a.0, omega arith, places_more n m ps l a.2)

pub places_append : (n : ℕ) (ps qs : List ℕ) → AreSpans n ps → AreSpans n qs → AreSpans n (ps ++ qs)
places_append n [] qs a b = b
places_append n (s ∷ []) qs a b = absurd a
places_append n (s ∷ k ∷ ps) qs a b = (a.0, a.1, places_append n ps qs a.2 b)

pub bytes_append : (n : ℕ) (block ps qs : List ℕ) → AreSpans n ps → row_bytes block (ps ++ qs) ≡ row_bytes block ps ++ row_bytes block qs
bytes_append n block [] qs a = refl
bytes_append n block (s ∷ []) qs a = absurd a
bytes_append n block (s ∷ k ∷ ps) qs a =
    ap (λ xs. take k (drop s block) ++ xs) (bytes_append n block ps qs a.2)
    ∙ sym (append_assoc (take k (drop s block)) (row_bytes block ps) (row_bytes block qs))

-- a piece stays where it is when the block grows
take_within : (block more : List ℕ) (s k : ℕ) → s + k ≤ length block → take k (drop s (block ++ more)) ≡ take k (drop s block)
take_within block more s k l =
    let n = length-drop s block in
    ap (take k) (drop-append-le s block more (omega arith)) ∙ take-append-le k (drop s block) more (omega arith)

pub bytes_grow : (block more ps : List ℕ) → AreSpans (length block) ps → row_bytes (block ++ more) ps ≡ row_bytes block ps
bytes_grow block more [] a = refl
bytes_grow block more (s ∷ []) a = refl
bytes_grow block more (s ∷ k ∷ ps) a = (λ j. take_within block more s k a.1 j ++ bytes_grow block more ps a.2 j)

place_is : (s k : ℕ) → 0 < k → span_of s k ≡ s ∷ k ∷ []
place_is s k h = grind (arith, nat_tests)

pub place_placed : (n s k : ℕ) → s + k ≤ n → AreSpans n (span_of s k)
place_placed n s zero l = tt
place_placed n s (suc k) l = subst (AreSpans n) (sym (place_is s (suc k) (omega arith))) (omega arith, l, tt)

pub place_bytes : (block : List ℕ) (s k : ℕ) → row_bytes block (span_of s k) ≡ take k (drop s block)
place_bytes block s zero = refl
place_bytes block s (suc k) = ap (row_bytes block) (place_is s (suc k) (omega arith)) ∙ append-nil (take (suc k) (drop s block))

-- ---- a part more of a row's bytes

-- as it is, behind what the block has
pub draft_more : (block places part new : List ℕ) (from : ℕ) → from ≤ length block → AreSpans (length block) places → new ≡ block ++ part
    → draft_bytes new places from ≡ draft_bytes block places from ++ part
draft_more block places part new from l a e =
    ap (λ b. draft_bytes b places from) e
    ∙ (λ j. bytes_grow block part places a j ++ drop-append-le from block part l j)
    ∙ sym (append_assoc (row_bytes block places) (drop from block) part)

-- what is not a piece yet becomes one
pub draft_closed : (block places new : List ℕ) (from : ℕ) → from ≤ length block → AreSpans (length block) places
    → new ≡ places ++ span_of from (length block - from) → (AreSpans (length block) new) × (row_bytes block new ≡ draft_bytes block places from)
draft_closed block places new from l a e =
    let n = length-drop from block in
    let whole : take (length block - from) (drop from block) ≡ drop from block = take_all (length block - from) (drop from block) (omega arith) in (
      subst (AreSpans (length block)) (sym e) (places_append (length block) places (span_of from (length block - from)) a (place_placed (length block) from (length block - from) (omega arith))),
      ap (row_bytes block) e ∙ bytes_append (length block) block places (span_of from (length block - from)) a
          ∙ ap (λ xs. row_bytes block places ++ xs) (place_bytes block from (length block - from) ∙ whole),
    )

-- by the place where its first bytes stand, and then the rest as it is
pub draft_shared : (block places part mid next new : List ℕ) (from start size : ℕ) → from ≤ length block → AreSpans (length block) places
    → IsFound block part start size → mid ≡ places ++ span_of from (length block - from) → next ≡ mid ++ span_of start size
    → new ≡ block ++ drop size part
    → (AreSpans (length block) next) × (draft_bytes new next (length block) ≡ draft_bytes block places from ++ part)
draft_shared block places part mid next new from start size l a f e g h =
    let closed = draft_closed block places mid from l a e in let w = f.within in
    let placed : AreSpans (length block) next =
    subst (AreSpans (length block)) (sym g) (places_append (length block) mid (span_of start size) closed.0 (place_placed (length block) start size w)) in
    let bytes : row_bytes block next ≡ draft_bytes block places from ++ take size part =
    ap (row_bytes block) g ∙ bytes_append (length block) block mid (span_of start size) closed.0
    ∙ (λ j. closed.1 j ++ (place_bytes block start size ∙ sym f.same) j) in (
      placed,
      ap (λ b. draft_bytes b next (length block)) h
          ∙ (λ j. (bytes_grow block (drop size part) next placed ∙ bytes) j ++ drop-append_seam block (drop size part) j)
          ∙ append_assoc (draft_bytes block places from) (take size part) (drop size part)
          ∙ ap (λ xs. draft_bytes block places from ++ xs) (take-append-drop size part),
    )

-- ---- what two lists have in common

-- so many more
pub common_more : (n m : ℕ) (one other : List ℕ) → HaveCommon n one other → HaveCommon m (drop n one) (drop n other) → HaveCommon (n + m) one other
common_more n m one other h g =
    let a = h.first in let b = h.second in let c = g.first in let d = g.second in let p = length-drop n one in let q = length-drop n other in
    record {
      same = take-add n m one ∙ (λ j. h.same j ++ g.same j) ∙ sym (take-add n m other);
      first = omega arith;
      second = omega arith;
    }

-- so many more, where what is left is known
pub common_rest : (n m : ℕ) (one other left against : List ℕ) → HaveCommon n one other → left ≡ drop n one → against ≡ drop n other
    → HaveCommon m left against → HaveCommon (n + m) one other
common_rest n m one other left against h e f g =
    common_more n m one other h (subst (λ (w : List ℕ × List ℕ). HaveCommon m w.0 w.1) (λ j. (e j, f j)) g)

-- and what is left then
pub record IsStep (n : ℕ) (one other rest other_rest : List ℕ) : Type 0 where
  pub common : HaveCommon n one other
  pub left : rest ≡ drop n one
  pub against : other_rest ≡ drop n other

pub common_step : (n m : ℕ) (one other left against rest other_rest : List ℕ) → HaveCommon n one other → left ≡ drop n one → against ≡ drop n other
    → m ≤ length left → m ≤ length against → take m left ≡ take m against → rest ≡ drop m left → other_rest ≡ drop m against
    → IsStep (n + m) one other rest other_rest
common_step n m one other left against rest other_rest h e f p q s r t =
    record {
      common = common_rest n m one other left against h e f (record { same = s; first = p; second = q });
      left = r ∙ ap (drop m) e ∙ drop-drop m n one;
      against = t ∙ ap (drop m) f ∙ drop-drop m n other;
    }
