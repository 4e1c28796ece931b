-- Parts of entries are read number by number.
use Rattle.std.proofs.Common.{◌≡◌, ℕ, List, get_or, refl, arith}
use Rattle.std.specs.Prelude as prelude
use Rattle.std.proofs.lemmas.Bool.Decides.{nat_tests}
use Rattle.x_codes.specs.StateCode.{later, path_of, path_rest}
use Rattle.lab_history.specs.EntryCode.{cut_of, cut_rest}

-- ---- a cut's choices, by whether there is a cut

pub cut_none : (ns : List ℕ) → get_or ns 0 0 ≡ 0 → (cut_of ns ≡ prelude.None) × (cut_rest ns ≡ later ns)
unfolding cut_of cut_rest
cut_none ns z = (rw z refl, rw z refl)

pub cut_some : (ns : List ℕ) → (get_or ns 0 0 ≡ 0 → ⊥) → (cut_of ns ≡ prelude.Some (path_of (later ns))) × (cut_rest ns ≡ path_rest (later ns))
unfolding cut_of cut_rest
cut_some ns z = (grind (arith, nat_tests), grind (arith, nat_tests))
