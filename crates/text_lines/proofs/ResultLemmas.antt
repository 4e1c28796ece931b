-- What a step that gave something did.
use Rattle.std.proofs.Common.{◌≡◌, ◌⊎◌, inl, inr, ℕ, List, Bool, true, false, cond, Option, Some, Result, Ok, Err, refl, ap, ◌∙◌, bytes_eq}
use Rattle.std.specs.Cmp.Lexicographic.{bytes_decides}
use Rattle.std.proofs.lemmas.Option.{same_Some}
use Rattle.text_lines.specs.Each.{◌>>=◌}
use Rattle.text_lines.specs.Answers.{IsFaultOf}
use Rattle.text_lines.specs.declared.refusal.Refusal.{Refusal}
use Rattle.text_lines.specs.declared.refusal.Refusal.TheVariants as refusals

pub ok_is : {S F : Type 0} (x y : S) → ◌≡◌ {A = Result S F} (Ok x) (Ok y) → x ≡ y
ok_is x y h = cc

pub err_is : {S F : Type 0} (f g : F) → ◌≡◌ {A = Result S F} (Err f) (Err g) → f ≡ g
err_is f g h = cc

pub no_fault : {S F : Type 0} (f : F) (x : S) → ◌≡◌ {A = Result S F} (Err f) (Ok x) → ⊥
no_fault f x e = cc

pub no_value : {S F : Type 0} (x : S) (f : F) → ◌≡◌ {A = Result S F} (Ok x) (Err f) → ⊥
no_value x f e = cc

-- both steps gave something
pub bind_ok : {A B F : Type 0} (r : Result A F) (f : A → Result B F) (y : B) → (r >>= f) ≡ Ok y → (x : A) × (r ≡ Ok x) × (f x ≡ Ok y)
bind_ok (Ok x) f y h = (x, refl, h)
bind_ok (Err e) f y h = absurd (cc)

-- the step that has the fault
pub bind_err : {A B F : Type 0} (r : Result A F) (f : A → Result B F) (e : F) → (r >>= f) ≡ Err e → (r ≡ Err e) ⊎ ((x : A) × (r ≡ Ok x) × (f x ≡ Err e))
bind_err (Ok x) f e h = inr (x, refl, h)
bind_err (Err g) f e h = inl (cc)

-- a test that would refuse didn't pass
pub unrefused : {S F : Type 0} (b : Bool) (f : F) (r : Result S F) (x : S) → cond b (Err f) r ≡ Ok x → (b ≡ false) × (r ≡ Ok x)
unrefused true f r x h = absurd (no_fault f x h)
unrefused false f r x h = (refl, h)

pub granted : {S F : Type 0} (b : Bool) (f : F) (r : Result S F) (x : S) → cond b r (Err f) ≡ Ok x → (b ≡ true) × (r ≡ Ok x)
granted true f r x h = (refl, h)
granted false f r x h = absurd (no_fault f x h)

-- the case that a test chose
pub chosen : {A : Type 0} (b : Bool) (x y z : A) → cond b x y ≡ z → ((b ≡ true) × (x ≡ z)) ⊎ ((b ≡ false) × (y ≡ z))
chosen true x y z h = inl (refl, h)
chosen false x y z h = inr (refl, h)

-- Where keys are told by their words, tried in turn, a word has the key that it tells: for one key, and those after it.
pub key_told : {K : Type 0} (key_word : K → List ℕ) (word : List ℕ) (k key : K) (later : Option K)
    → (later ≡ Some k → word ≡ key_word k) → cond (bytes_eq word (key_word key)) (Some key) later ≡ Some k → word ≡ key_word k
key_told key_word word k key later rest e =
    elim (chosen (bytes_eq word (key_word key)) (Some key) later (Some k) e) [
      | inl here ↦ (bytes_decides word (key_word key)).0 here.0 ∙ ap key_word (same_Some key k here.1)
      | inr more ↦ rest more.1
    ]

-- a fault of a part is passed on
pub passes_on : {A B F : Type 0} (e : Refusal F) (at : Result A F) (all : Result B F) → ((f : F) → at ≡ Err f → all ≡ Err f) → IsFaultOf e at → IsFaultOf e all
passes_on (refusals.Fault f) at all stops h = stops f h
passes_on refusals.OutOfMemory at all stops h = tt
