-- The examples of specs/Numbers.antt, computed.
use Rattle.std.proofs.Common.{◌≡◌, codes, refl, true, false, Some, None}
use Rattle.text_lines.specs.Numbers.{is_decimal, number_within}

nothing : is_decimal (codes "0") ≡ true
nothing = refl

leading_zero : is_decimal (codes "05") ≡ false
leading_zero = refl

sign : is_decimal (codes "+5") ≡ false
sign = refl

no_digits : is_decimal (codes "") ≡ false
no_digits = refl

at_the_bound : number_within 205 (codes "205") ≡ Some 205
at_the_bound = refl

past_the_bound : number_within 204 (codes "205") ≡ None
past_the_bound = refl

many_digits : number_within 4294967295 (codes "99999999999999999999") ≡ None
many_digits = refl
