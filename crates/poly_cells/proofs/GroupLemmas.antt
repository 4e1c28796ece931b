-- The symmetries are a group, and the rotations a part of it.
use Rattle.std.proofs.Common.{◌≡◌, ℕ, ◌+◌, ◌<◌, true, length, pos, refl, sym, ap, subst, ◌∙◌, slice_index, arith, ltb-true, nat_lt}
use Rattle.std.specs.List.{range_with_len}
use Rattle.std.specs.List.Sorted.{IsStrictlyIncreasing}
use Rattle.std.proofs.lemmas.Bool.Decides.{Decides-int_eq}
use Rattle.poly_cells.specs.Points.{Point}
use Rattle.poly_cells.specs.Symmetries.{matrix, sent_by, IsComposed, determinant, is_rotation, rotations}
use Rattle.poly_cells.specs.Products.{composed, inverse_of}
use Rattle.poly_cells.specs.Sets.{IsIn}
use Rattle.poly_cells.specs.Laws.{IsGroup, AreRotations}
use Rattle.poly_cells.proofs.Tables.{all_below, all_at}
use Rattle.poly_cells.proofs.SymmetryTables.{is_composed, composed_in, neutral, inverse_in, undone_before, undone_behind, probe, faithful, rotation_composed, rotation_inverse}
use Rattle.poly_cells.proofs.MemberLemmas.{in_from_filter, in_filter, in_from_range, in_to_range}

pub distinct : (a b : ℕ) → a < 48 → b < 48 → ((v : Point) → sent_by a v ≡ sent_by b v) → a ≡ b
distinct a b la lb h = faithful a b la lb (h probe)

pub once : (a b c d : ℕ) → c < 48 → d < 48 → IsComposed a b c → IsComposed a b d → c ≡ d
once a b c d lc ld p q = faithful c d lc ld (p probe ∙ sym (q probe))

associative : (a b c ab bc x y : ℕ) → x < 48 → y < 48 → IsComposed a b ab → IsComposed b c bc → IsComposed ab c x → IsComposed a bc y → x ≡ y
associative a b c ab bc x y lx ly p q r s =
    faithful x y lx ly (r probe ∙ p (sent_by c probe) ∙ sym (s probe ∙ ap (sent_by a) (q probe)))

pub is_group : IsGroup
is_group = record {
  distinct = distinct;
  once = once;
  closed = λ a b la lb. (composed a b, composed_in a b la lb, is_composed a b la lb);
  associative = associative;
  neutral = neutral;
  inverse = λ a la. (inverse_of a, inverse_in a la, undone_behind a la, undone_before a la);
}

-- ---- rotations

pub rotation_from_in : (n : ℕ) → IsIn n rotations → (n < 48) × (is_rotation n ≡ true)
unfolding rotations
rotation_from_in n i =
    let both = in_from_filter is_rotation n (range_with_len 0 48) i in
    let lt = in_from_range n 0 48 both.0 in
    (omega arith, both.1)

pub in_from_rotation : (n : ℕ) → n < 48 → is_rotation n ≡ true → IsIn n rotations
unfolding rotations
in_from_rotation n lt h =
    in_filter is_rotation n (range_with_len 0 48) (in_to_range n 0 48 (omega arith) (omega arith)) h

determinant_from : (n : ℕ) → is_rotation n ≡ true → determinant (matrix n) ≡ pos 1
unfolding is_rotation
determinant_from n h = (Decides-int_eq (determinant (matrix n)) (pos 1)).0 h

determinant_to : (n : ℕ) → determinant (matrix n) ≡ pos 1 → is_rotation n ≡ true
unfolding is_rotation
determinant_to n h = (Decides-int_eq (determinant (matrix n)) (pos 1)).1 h

count : length rotations ≡ 24
unfolding matrix is_rotation rotations
count = refl

all_rise : all_below 23 (λ k. nat_lt (slice_index rotations k) (slice_index rotations (k + 1))) ≡ true
unfolding matrix is_rotation rotations
all_rise = refl

rises : IsStrictlyIncreasing rotations
rises k h =
    let below = subst (λ l. k + 1 < l) count h in
    ltb-true _ _ (all_at 23 (λ j. nat_lt (slice_index rotations j) (slice_index rotations (j + 1))) all_rise k (omega arith))

-- what is undone behind is undone before
undone : (a b : ℕ) → a < 48 → IsComposed a b 0 → sent_by (inverse_of a) probe ≡ sent_by b probe
undone a b la h =
    ap (sent_by (inverse_of a)) (sym (neutral probe) ∙ h probe)
    ∙ sym (undone_before a la (sent_by b probe)) ∙ neutral (sent_by b probe)

pub are_rotations : AreRotations
are_rotations = record {
  exactly = λ n. (
    (λ i. let r = rotation_from_in n i in (r.0, determinant_from n r.1)),
    (λ h. in_from_rotation n h.0 (determinant_to n h.1)),
  );
  count = count;
  rises = rises;
  closed = λ a b c i j lc h.
      let ra = rotation_from_in a i in
      let rb = rotation_from_in b j in
      in_from_rotation c lc
      (subst (λ n. is_rotation n ≡ true) (once a b (composed a b) c (composed_in a b ra.0 rb.0) lc (is_composed a b ra.0 rb.0) h) (rotation_composed a b ra.0 rb.0 ra.1 rb.1));
  inverse = λ a b i lb h.
      let ra = rotation_from_in a i in
      let same : inverse_of a ≡ b = faithful (inverse_of a) b (inverse_in a ra.0) lb (undone a b ra.0 h) in
      in_from_rotation b lb (subst (λ n. is_rotation n ≡ true) same (rotation_inverse a ra.0 ra.1));
}
