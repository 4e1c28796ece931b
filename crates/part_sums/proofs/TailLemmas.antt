-- Snapshots at the front of a text, of a whole and of its parts.
use Rattle.std.proofs.Common.{◌≡◌, ℕ, List, ◌++◌, Result, Ok, Err, refl, sym, ◌∙◌, ap, ap₂, subst}
use Rattle.std.proofs.lemmas.List.{append_cancel_left}
use Rattle.text_lines.specs.Each.{◌>>=◌}
use Rattle.text_lines.proofs.ResultLemmas.{ok_is, no_fault, bind_ok}
use Rattle.x_snapshot.specs.declared.fault.SnapshotFault.{SnapshotFault}
use Rattle.x_snapshot.specs.Snapshot.{SnapshotValue, IsSnapshot}
use Rattle.x_snapshot.specs.Writer.{version_of, snapshot_text}
use Rattle.x_snapshot.specs.Judged.{snapshot_of}
use Rattle.x_snapshot.specs.Reader.{version_in, parts_of}
use Rattle.part_sums.specs.declared.fault.JoinFault.TheVariants.{NoWhole}
use Rattle.part_sums.specs.Parts.{head_text, tail_text}
use Rattle.part_sums.specs.Reading.{up_to_end, whole_from, part_fault, part_from, whole_in, tail_in}
use Rattle.part_sums.proofs.EndLemmas.{end_back}
use Rattle.part_sums.proofs.HeadLemmas.{head_of, head_is, parted, version_read, head_read, parts_found, tail_ends, whole_ends, snapshot_back, snapshot_again}

-- *the whole*

whole_from_back : (r : Result SnapshotValue SnapshotFault) (v : SnapshotValue) → whole_from r ≡ Ok v → r ≡ Ok v
whole_from_back (Ok u) v h = ap found (ok_is u v h)
  where
    found : SnapshotValue → Result SnapshotValue SnapshotFault
    found x = Ok x
whole_from_back (Err f) v h = absurd (no_fault NoWhole v h)

pub whole_back : (text : List ℕ) (r : SnapshotValue × List ℕ) → whole_in text ≡ Ok r → (text ≡ snapshot_text r.0 ++ r.1) × IsSnapshot r.0
unfolding whole_in
whole_back text r h =
    let a = bind_ok (up_to_end text) (λ s. whole_from (snapshot_of s.0) >>= λ v. Ok (v, s.1)) r h in
    let b = bind_ok (whole_from (snapshot_of a.0.0)) (λ v. Ok (v, a.0.1)) r a.2 in
    let i = snapshot_back a.0.0 b.0 (whole_from_back (snapshot_of a.0.0) b.0 b.1) in
    let text_is : text ≡ snapshot_text b.0 ++ a.0.1 = end_back text a.0 a.1 ∙ ap (λ t. t ++ a.0.1) i.text_is in
    subst (λ (s : SnapshotValue × List ℕ). (text ≡ snapshot_text s.0 ++ s.1) × IsSnapshot s.0) (ok_is (b.0, a.0.1) r b.2) (text_is, i.snapshot)

pub whole_again : (v : SnapshotValue) (rest : List ℕ) → IsSnapshot v → whole_in (snapshot_text v ++ rest) ≡ Ok (v, rest)
unfolding whole_in
whole_again v rest g = rw (whole_ends v g rest, snapshot_again v g) refl

-- *a part*

part_from_back : (r : Result SnapshotValue SnapshotFault) (v : SnapshotValue) → part_from r ≡ Ok v → r ≡ Ok v
part_from_back (Ok u) v h = ap found (ok_is u v h)
  where
    found : SnapshotValue → Result SnapshotValue SnapshotFault
    found x = Ok x
part_from_back (Err f) v h = absurd (no_fault (part_fault f) v h)

-- a snapshot of the problem of v, in its version, whose lines after the head stand at the front of a text
pub record IsTail (v : SnapshotValue) (text : List ℕ) (w : SnapshotValue) (rest : List ℕ) : Type 0 where
  pub snapshot : IsSnapshot w
  pub problem : w.problem ≡ v.problem
  pub head : head_text w ≡ head_text v
  pub text_is : text ≡ tail_text w ++ rest

module _ (v : SnapshotValue) (g : IsSnapshot v) where
  -- a snapshot that begins with the head of v
  same_head : (front : List ℕ) (w : SnapshotValue) → IsSnapshot w → head_text v ++ front ≡ snapshot_text w → parts_of (head_text v ++ front) ≡ Ok w → (w.problem ≡ v.problem) × (head_text w ≡ head_text v) × (front ≡ tail_text w)
  same_head front w s text_is says =
      let problem : w.problem ≡ v.problem = (parts_found (version_of v.problem v.breaks) v.problem front w (sym (head_read v g front) ∙ says)).1 in
      let other : head_text v ++ front ≡ head_text w ++ tail_text w = text_is ∙ parted w in
      let versions = sym (version_read w s (tail_text w)) ∙ ap version_in (sym other) ∙ version_read v g front in
      let version : version_of w.problem w.breaks ≡ version_of v.problem v.breaks = ap (λ p. p.0) (ok_is _ _ versions) in
      let head : head_text w ≡ head_text v = head_is w ∙ ap₂ head_of version problem ∙ sym (head_is v) in
      (problem, head, append_cancel_left (head_text v) front (tail_text w) (other ∙ ap (λ h. h ++ tail_text w) head))

  pub tail_back : (text : List ℕ) (r : SnapshotValue × List ℕ) → tail_in (head_text v) text ≡ Ok r → IsTail v text r.0 r.1
  unfolding tail_in
  tail_back text r h =
      let a = bind_ok (up_to_end text) (λ s. part_from (snapshot_of (head_text v ++ s.0)) >>= λ w. Ok (w, s.1)) r h in
      let b = bind_ok (part_from (snapshot_of (head_text v ++ a.0.0))) (λ w. Ok (w, a.0.1)) r a.2 in
      let i = snapshot_back (head_text v ++ a.0.0) b.0 (part_from_back (snapshot_of (head_text v ++ a.0.0)) b.0 b.1) in
      let q = same_head a.0.0 b.0 i.snapshot i.text_is i.says in
      let here : IsTail v text b.0 a.0.1 = record { snapshot = i.snapshot; problem = q.0; head = q.1; text_is = end_back text a.0 a.1 ∙ ap (λ t. t ++ a.0.1) q.2 } in
      subst (λ (s : SnapshotValue × List ℕ). IsTail v text s.0 s.1) (ok_is (b.0, a.0.1) r b.2) here

  pub tail_again : (w : SnapshotValue) (rest : List ℕ) → IsSnapshot w → head_text w ≡ head_text v → tail_in (head_text v) (tail_text w ++ rest) ≡ Ok (w, rest)
  unfolding tail_in
  tail_again w rest s head =
      let text_is : head_text v ++ tail_text w ≡ snapshot_text w = ap (λ h. h ++ tail_text w) (sym head) ∙ sym (parted w) in
      rw (tail_ends w s rest, text_is, snapshot_again w s) refl
