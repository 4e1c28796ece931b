-- A steal changes the tally of one deque, and which deques there are stays.
use Rattle.std.proofs.Common.{◌≡◌, ℕ, ◌<◌, Option, Some, None, MatchOption, List, [], map, length, sym, ap, ◌∙◌}
use Rattle.std.specs.Prelude.{slice_set, slice_index_or}
use Rattle.std.proofs.lemmas.List.{map-set, get_or-map}
use Rattle.std.proofs.Math.Seq.{map-set_same}
use Rattle.crossbeam_deque.specs.Handles.{stealer_deque}
use Rattle.lab_tickets.specs.Deques.{tally_of, source}
use Rattle.lab_tickets.specs.declared.rule.Tally.{Tally}
use Rattle.lab_tickets.specs.declared.deques.OtherDeque.{OtherDeque}
use Rattle.lab_tickets.specs.Rule.{tally}
use Rattle.lab_tickets.specs.TicketView.{TicketView, took, stolen, place_among}

source_is : (y t : OtherDeque) → y.stealer ≡ t.stealer → source y ≡ source t
source_is y t same = ap (λ s. (stealer_deque s).0) same

abbrev pub view_of : ℕ → Tally → ℕ × ℕ → List Tally → List (ℕ × ℕ) → TicketView
view_of n own d others ds = record { number = n; own = own; others = others; deque = d; deques = ds }

pub steals : (n : ℕ) (own : Tally) (d : ℕ × ℕ) (ts : List OtherDeque) (from k : ℕ) (t y : OtherDeque) (r : Option ℕ) → k ≡ place_among n from → k < length ts → t ≡ slice_index_or ts k t → y.stealer ≡ t.stealer → MatchOption r (tally_of y ≡ tally_of t) (λ x. tally_of y ≡ took (tally_of t) x)
    → MatchOption r (view_of n own d (map tally_of (slice_set ts k y)) (map source (slice_set ts k y)) ≡ view_of n own d (map tally_of ts) (map source ts)) (λ x. view_of n own d (map tally_of (slice_set ts k y)) (map source (slice_set ts k y)) ≡ stolen (view_of n own d (map tally_of ts) (map source ts)) from x)
steals n own d ts from k t y None at small value same said =
    let kept : map source (slice_set ts k y) ≡ map source ts = map-set_same source ts k y t (source_is y t same ∙ ap source value) in
    let is : map tally_of (slice_set ts k y) ≡ map tally_of ts = map-set_same tally_of ts k y t (said ∙ ap tally_of value) in
    λ i. view_of n own d (is i) (kept i)
steals n own d ts from k t y (Some x) at small value same said =
    let kept : map source (slice_set ts k y) ≡ map source ts = map-set_same source ts k y t (source_is y t same ∙ ap source value) in
    let was : slice_index_or (map tally_of ts) k (tally [] []) ≡ tally_of t = get_or-map tally_of ts k t (tally [] []) small ∙ sym (ap tally_of value) in
    let step : map tally_of (slice_set ts k y) ≡ slice_set (map tally_of ts) k (took (slice_index_or (map tally_of ts) k (tally [] [])) x) =
    map-set tally_of ts k y ∙ (λ i. slice_set (map tally_of ts) k ((said ∙ ap (λ h. took h x) (sym was)) i)) in
    let there : map tally_of (slice_set ts k y) ≡ slice_set (map tally_of ts) (place_among n from) (took (slice_index_or (map tally_of ts) (place_among n from) (tally [] [])) x) = step ∙ (λ i. slice_set (map tally_of ts) (at i) (took (slice_index_or (map tally_of ts) (at i) (tally [] [])) x)) in
    λ i. view_of n own d (there i) (kept i)
