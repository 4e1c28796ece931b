-- What is made of names and options, and copies and comparisons of problems.
use Rattle.std.proofs.Common.{◌≡◌, refl, sym, ap, ◌∙◌, subst, ℕ, ◌+◌, ◌<◌, ◌≤◌, Bool, true, false, not, ◌&&◌, List, [], map, length, get_or, take, Option, Some, None, Result, Ok, Err, sum_by, nat_lt, nat_le, ◌==◌, bytes_eq, arith, inl, inr, ◌⊎◌, ltb-true, lt-ltb, leb-true, le-leb, eq-eqb, eqb-true, Decides, IfOk}
use Rattle.std.specs.Result.{result_ok}
use Rattle.std.specs.Cmp.Lexicographic.{pointwise, pointwise_decides, bytes_decides}
use Rattle.std.proofs.lemmas.Bool.{and_parts, and_from, lt-leb, not-false}
use Rattle.std.proofs.lemmas.List.Sums.{sum_by_push, sum_by-take-le}
use Rattle.cover_problem.specs.declared.fault.Fault.{Fault}
use Rattle.cover_problem.specs.declared.fault.Fault.TheVariants.{TooLarge, NoItemLine}
use Rattle.cover_problem.specs.Problem.{ProblemValue, IsProblem, is_item, is_small, is_same}
use Rattle.text_lines.specs.Each.{each, ◌>>=◌}
use Rattle.text_lines.proofs.ResultLemmas.{ok_is, no_fault, bind_ok, chosen}
use Rattle.cover_problem.specs.Validation.{add_name, add_option, problem_from, within}
use Rattle.std.proofs.lemmas.List.{take-map}
use Rattle.cover_problem.proofs.MapLemmas.{map_more}
use Rattle.cover_problem.proofs.NameLemmas.{names_are, names_again}
use Rattle.cover_problem.proofs.OptionLemmas.{options_are, options_again}

module _ {X : Type 0} (items : X → List ℕ) (xs : List X) (i left most : ℕ) (x : X) (so_far : left + sum_by length (map items (take i xs)) ≡ most) (more : i < length xs) (at : x ≡ get_or xs i x) where
  with_next : sum_by length (map items (take (i + 1) xs)) ≡ sum_by length (map items (take i xs)) + length (items x)
  with_next = ap (sum_by length) (map_more items xs i x more at) ∙ sum_by_push length (map items (take i xs)) (items x)

  next_within : sum_by length (map items (take (i + 1) xs)) ≤ sum_by length (map items xs)
  next_within = subst (λ ys. sum_by length ys ≤ sum_by length (map items xs)) (take-map items (i + 1) xs) (sum_by-take-le length (map items xs) (i + 1))

  pub too_many : left < length (items x) → false ≡ nat_le (sum_by length (map items xs)) most
  too_many l = let e = with_next in let w = next_within in sym (lt-leb _ _ (omega arith))

module _ (names : List (List ℕ)) (primary : ℕ) (options : List (List ℕ)) where
  pub no_items : is_item (length names) primary ≡ false → problem_from names primary options ≡ Err NoItemLine
  unfolding problem_from
  no_items h = rw h refl

  module _ (some : is_item (length names) primary ≡ true) where
    pub names_stop : (f : Fault) → each add_name [] names ≡ Err f → problem_from names primary options ≡ Err f
    unfolding problem_from
    names_stop f h = rw (some, h) refl

    module _ (these : List (List ℕ)) (named : each add_name [] names ≡ Ok these) where
      pub options_refused : (f : Fault) → each (add_option (length names)) [] options ≡ Err f → problem_from names primary options ≡ Err f
      unfolding problem_from
      options_refused f h = rw (some, named, h) refl

      module _ (those : List (List ℕ)) (listed : each (add_option (length names)) [] options ≡ Ok those) where
        pub too_large : is_small (record { names = these; primary = primary; options = those }) ≡ false → problem_from names primary options ≡ Err TooLarge
        unfolding problem_from
        too_large h = rw (some, named, listed, h) refl

        pub all_made : is_small (record { names = these; primary = primary; options = those }) ≡ true → problem_from names primary options ≡ Ok (record { names = these; primary = primary; options = those })
        unfolding problem_from
        all_made h = rw (some, named, listed, h) refl

pub within_parts : (p q : ProblemValue) → within p ≡ Ok q → (is_small p ≡ true) × (p ≡ q)
within_parts p q h = by_size (chosen (is_small p) (Ok p) (Err TooLarge) (Ok q) h)
  where
    by_size : ((is_small p ≡ true) × (◌≡◌ {A = Result ProblemValue Fault} (Ok p) (Ok q))) ⊎ ((is_small p ≡ false) × (◌≡◌ {A = Result ProblemValue Fault} (Err TooLarge) (Ok q))) → (is_small p ≡ true) × (p ≡ q)
    by_size (inl h) = (h.0, ok_is p q h.1)
    by_size (inr h) = absurd (no_fault TooLarge q h.1)

made_parts : (names : List (List ℕ)) (primary : ℕ) (options : List (List ℕ)) (p : ProblemValue) → problem_from names primary options ≡ Ok p →
    (is_item (length names) primary ≡ true) × ((these : List (List ℕ)) × (each add_name [] names ≡ Ok these) × ((those : List (List ℕ)) × (each (add_option (length names)) [] options ≡ Ok those) × (within (record { names = these; primary = primary; options = those }) ≡ Ok p)))
unfolding problem_from
made_parts names primary options p h = by_items (chosen (not (is_item (length names) primary)) (Err NoItemLine) (each add_name [] names >>= λ these. each (add_option (length names)) [] options >>= λ those. within (record { names = these; primary = primary; options = those })) (Ok p) h)
  where
    by_options : (these : List (List ℕ)) → (each (add_option (length names)) [] options >>= λ those. within (record { names = these; primary = primary; options = those })) ≡ Ok p → (those : List (List ℕ)) × (each (add_option (length names)) [] options ≡ Ok those) × (within (record { names = these; primary = primary; options = those }) ≡ Ok p)
    by_options these h = bind_ok (each (add_option (length names)) [] options) (λ those. within (record { names = these; primary = primary; options = those })) p h

    by_names : (these : List (List ℕ)) × (each add_name [] names ≡ Ok these) × ((each (add_option (length names)) [] options >>= λ those. within (record { names = these; primary = primary; options = those })) ≡ Ok p) → (these : List (List ℕ)) × (each add_name [] names ≡ Ok these) × ((those : List (List ℕ)) × (each (add_option (length names)) [] options ≡ Ok those) × (within (record { names = these; primary = primary; options = those }) ≡ Ok p))
    by_names (these, a, b) = (these, a, by_options these b)

    by_items : ((not (is_item (length names) primary) ≡ true) × (◌≡◌ {A = Result ProblemValue Fault} (Err NoItemLine) (Ok p))) ⊎ ((not (is_item (length names) primary) ≡ false) × ((each add_name [] names >>= λ these. each (add_option (length names)) [] options >>= λ those. within (record { names = these; primary = primary; options = those })) ≡ Ok p)) →
        (is_item (length names) primary ≡ true) × ((these : List (List ℕ)) × (each add_name [] names ≡ Ok these) × ((those : List (List ℕ)) × (each (add_option (length names)) [] options ≡ Ok those) × (within (record { names = these; primary = primary; options = those }) ≡ Ok p)))
    by_items (inl q) = absurd (no_fault NoItemLine p q.1)
    by_items (inr q) = (not-false _ q.0, by_names (bind_ok (each add_name [] names) (λ these. each (add_option (length names)) [] options >>= λ those. within (record { names = these; primary = primary; options = those })) p q.1))

-- what is made is what was given, and a problem
pub made_is : (names : List (List ℕ)) (primary : ℕ) (options : List (List ℕ)) (p : ProblemValue) → problem_from names primary options ≡ Ok p → (p ≡ record { names = names; primary = primary; options = options }) × IsProblem p
made_is names primary options p h = step (made_parts names primary options p h)
  where
    step : (is_item (length names) primary ≡ true) × ((these : List (List ℕ)) × (each add_name [] names ≡ Ok these) × ((those : List (List ℕ)) × (each (add_option (length names)) [] options ≡ Ok those) × (within (record { names = these; primary = primary; options = those }) ≡ Ok p))) → (p ≡ record { names = names; primary = primary; options = options }) × IsProblem p
    step (some, (these, a, (those, b, w))) =
        let m = names_are [] names these a refl refl in
        let o = options_are (length names) [] options those b refl in
        let v = within_parts (record { names = these; primary = primary; options = those }) p w in
        let n : these ≡ names = m.0 in
        let q : those ≡ options = o.0 in
        let r = and_parts (nat_lt 0 primary) (nat_le primary (length names)) some in
        let parts : p ≡ record { names = names; primary = primary; options = options } = sym v.1 ∙ rw (n, q) refl in (
          parts,
          subst IsProblem v.1 (record {
            some = ltb-true 0 primary r.0;
            within = rw n (leb-true primary (length names) r.1);
            named = m.2;
            new = m.1;
            options_are = rw n o.1;
            small = v.0;
          }),
        )

same_parts : (p q : ProblemValue) → p.names ≡ q.names → p.primary ≡ q.primary → p.options ≡ q.options → p ≡ q
same_parts p q a b c = λ i. record { names = a i; primary = b i; options = c i }

pub is_same_decides : (p q : ProblemValue) → (is_same p q ≡ true → p ≡ q) × (p ≡ q → is_same p q ≡ true)
is_same_decides p q = (equal, test)
  where
    lists : (xs ys : List (List ℕ)) → Decides (pointwise bytes_eq xs ys) (xs ≡ ys)
    lists xs ys = pointwise_decides bytes_decides xs ys

    equal : is_same p q ≡ true → p ≡ q
    equal h =
        let a = and_parts ((p.primary == q.primary) && pointwise bytes_eq p.names q.names) (pointwise bytes_eq p.options q.options) h in
        let b = and_parts (p.primary == q.primary) (pointwise bytes_eq p.names q.names) a.0 in
        same_parts p q ((lists p.names q.names).0 b.1) (eqb-true p.primary q.primary b.0) ((lists p.options q.options).0 a.1)

    test : p ≡ q → is_same p q ≡ true
    test e = and_from _ _ (and_from _ _ (eq-eqb p.primary q.primary (ap (λ r. r.primary) e)) ((lists p.names q.names).1 (ap (λ r. r.names) e))) ((lists p.options q.options).1 (ap (λ r. r.options) e))

pub when_test : (p q : ProblemValue) (b : Bool) → b ≡ is_same p q → (b ≡ true → p ≡ q) × (p ≡ q → b ≡ true)
when_test p q b e = let d = is_same_decides p q in (λ h. d.0 (sym e ∙ h), λ h. e ∙ d.1 h)

some_is : {X : Type 0} (x y : X) → ◌≡◌ {A = Option X} (Some x) (Some y) → y ≡ x
some_is x y e = cc

none_is_not : {X : Type 0} (x : X) → ◌≡◌ {A = Option X} (Some x) None → ⊥
none_is_not x e = cc

pub held : {X E : Type 0} (P : X → Type 0) (r : Result X E) (x : X) → Some x ≡ result_ok r → IfOk r P → P x
held P (Ok y) x e h = subst P (some_is x y e) h
held P (Err d) x e h = absurd (none_is_not x e)

pub made_again : (p : ProblemValue) → IsProblem p → problem_from p.names p.primary p.options ≡ Ok p
made_again p sound =
    all_made p.names p.primary p.options (and_from (nat_lt 0 p.primary) (nat_le p.primary (length p.names)) (lt-ltb 0 p.primary sound.some) (le-leb p.primary (length p.names) sound.within))
    p.names (names_again [] p.names sound.named sound.new) p.options (options_again (length p.names) [] p.options sound.options_are) sound.small

made_given : (names : List (List ℕ)) (primary : ℕ) (options : List (List ℕ)) (p : ProblemValue) → (p ≡ record { names = names; primary = primary; options = options }) × IsProblem p → problem_from names primary options ≡ Ok p
made_given names primary options p h =
    sym (ap (λ (q : ProblemValue). problem_from q.names q.primary q.options) h.0) ∙ made_again p h.1

pub made_exactly : (names : List (List ℕ)) (primary : ℕ) (options : List (List ℕ)) (p : ProblemValue) → (problem_from names primary options ≡ Ok p → (p ≡ record { names = names; primary = primary; options = options }) × IsProblem p) × ((p ≡ record { names = names; primary = primary; options = options }) × IsProblem p → problem_from names primary options ≡ Ok p)
made_exactly names primary options p = (made_is names primary options p, made_given names primary options p)
