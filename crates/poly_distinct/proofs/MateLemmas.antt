-- The group of equal pieces to which a piece belongs is told by its kind.
use Rattle.std.proofs.Common.{◌≡◌, ℕ, ◌==◌, Bool, true, false, not, ◌&&◌, ◌||◌, cond, List, [], ◌∷◌, ◌++◌, flat_map, length, inl, inr, refl, sym, ap, subst, ◌∙◌, arith}
use Rattle.std.specs.Prelude.{find, unwrap_or, Some}
use Rattle.std.specs.List.{list_all, list_any}
use Rattle.std.proofs.Math.Bool.{or-false}
use Rattle.std.proofs.lemmas.Bool.{and_parts, both_ways, false_from_ne_true}
use Rattle.std.proofs.lemmas.Bool.Decides.{nat_tests}
use Rattle.poly_cells.specs.Sets.{IsIn}
use Rattle.poly_cells.proofs.MemberLemmas.{in_flat_map, some_passes}
use Rattle.poly_texts.specs.declared.usage.Usage.{Usage}
use Rattle.poly_texts.specs.declared.usage.Usage.TheVariants as usages
use Rattle.poly_texts.specs.Usages.{are_copies, pieces_named}
use Rattle.poly_texts.specs.Kinds.{KindValue, given_if, kind_equal, kind_names}
use Rattle.poly_texts.specs.Puzzle.{PuzzleValue, IsPuzzle, pieces_of, equal_names, symbols_in, names_of, has_name, are_new}
use Rattle.poly_texts.proofs.FreshLemmas.{has_in, in_has, new_apart}
use Rattle.poly_texts.proofs.KindLemmas.{names_flat, names_own, new_rest, not_later}
use Rattle.poly_distinct.specs.Exchange.{first_group, mates_of}

-- ---- of kinds

-- the group of one kind, if it has the name, and else the first of the others
group_next : (b : Bool) (ns : List ℕ) (groups : List (List ℕ)) (name : ℕ) → first_group (given_if b (ns ∷ []) ++ groups) name ≡ cond (b && has_name ns name) ns (first_group groups name)
group_next true ns groups name = by (has_name ns name)
  where
    by : (c : Bool) → unwrap_or (cond c (Some ns) (find (λ group. has_name group name) groups)) [] ≡ cond c ns (first_group groups name)
    by true = refl
    by false = refl
group_next false ns groups name = refl

no_group : (ks : List KindValue) (name : ℕ) → ((k : KindValue) → IsIn k ks → are_copies k.usage ≡ true → IsIn name k.symbols → ⊥) → first_group (flat_map kind_equal ks) name ≡ []
no_group [] name out = refl
no_group (k ∷ ks) name out =
    group_next (are_copies k.usage) k.symbols (flat_map kind_equal ks) name
    ∙ ap (λ (b : Bool). cond b k.symbols (first_group (flat_map kind_equal ks) name))
    (false_from_ne_true _ (λ t. let both = and_parts (are_copies k.usage) (has_name k.symbols name) t in out k (inl refl) both.0 (in_has k.symbols name both.1)))
    ∙ no_group ks name (λ j i. out j (inr i))

-- a piece of a kind
group_of : (ks : List KindValue) → are_new (symbols_in ks) ≡ true → (k : KindValue) (name : ℕ) → IsIn k ks → IsIn name k.symbols → first_group (flat_map kind_equal ks) name ≡ given_if (are_copies k.usage) k.symbols
group_of [] new k name there i = absurd there
group_of (j ∷ ks) new k name there i = group_next (are_copies j.usage) j.symbols later name ∙ by there (λ r. group_of ks (new_rest j ks new) k name r i)
  where
    later : List (List ℕ)
    later = flat_map kind_equal ks

    here : (b : Bool) → IsIn name j.symbols → cond (b && has_name j.symbols name) j.symbols (first_group later name) ≡ given_if b j.symbols
    here true a = ap (λ (c : Bool). cond c j.symbols (first_group later name)) (has_in j.symbols name a)
    here false a = no_group ks name (λ m l copies b. not_later j ks new name a (in_flat_map (λ x. x.symbols) name m ks l b))

    by : IsIn k (j ∷ ks) → (IsIn k ks → first_group later name ≡ given_if (are_copies k.usage) k.symbols)
        → cond (are_copies j.usage && has_name j.symbols name) j.symbols (first_group later name) ≡ given_if (are_copies k.usage) k.symbols
    by (inl e) rest =
        here (are_copies j.usage) (subst (λ (x : KindValue). IsIn name x.symbols) e i)
        ∙ ap (λ (x : KindValue). given_if (are_copies x.usage) x.symbols) (sym e)
    by (inr r) rest =
        ap (λ (b : Bool). cond b j.symbols (first_group later name))
        (false_from_ne_true _ (λ t. not_later j ks new name (in_has j.symbols name (and_parts (are_copies j.usage) (has_name j.symbols name) t).1) (in_flat_map (λ x. x.symbols) name k ks r i)))
        ∙ rest r

copies_named : (usage : Usage) (symbols : List ℕ) → are_copies usage ≡ true → pieces_named usage symbols ≡ symbols
copies_named usages.Once symbols h = refl
copies_named usages.Maybe symbols h = refl
copies_named usages.Any symbols h = absurd (cc)
copies_named usages.Copies symbols h = refl

module _ (p : PuzzleValue) (z : IsPuzzle p) (name : ℕ) where
  pub mates_by : (k : KindValue) → IsIn k p.kinds → IsIn name (kind_names k) → given_if (are_copies k.usage) k.symbols ≡ mates_of p name
  unfolding equal_names
  mates_by k there i = sym (group_of p.kinds z.new k name there (names_own k name i))

  pub no_mates : has_name (names_of (pieces_of p)) name ≡ false → [] ≡ mates_of p name
  unfolding equal_names pieces_of
  no_mates none =
      sym (no_group p.kinds name (λ k there copies i.
      let named = subst (λ (ns : List ℕ). IsIn name ns) (sym (copies_named k.usage k.symbols copies)) i in
      both_ways (has_name (flat_map kind_names p.kinds) name) (sym (ap (λ (ns : List ℕ). has_name ns name) (names_flat p.kinds)) ∙ none)
      (has_in (flat_map kind_names p.kinds) name (in_flat_map kind_names name k p.kinds there named))))

-- ---- of groups

-- where no name stands in two groups, the one that has both is the first that has one
pub both_in : (groups : List (List ℕ)) → are_new (flat_map (λ group. group) groups) ≡ true → (m n : ℕ) → has_name (first_group groups m) n ≡ list_any (λ group. has_name group m && has_name group n) groups
both_in [] new m n = refl
both_in (g ∷ gs) new m n = by (has_name g m) refl (both_in gs (new_apart g (flat_map (λ group. group) gs) new).0 m n)
  where
    by : (b : Bool) → has_name g m ≡ b → has_name (first_group gs m) n ≡ list_any (λ group. has_name group m && has_name group n) gs
        → has_name (unwrap_or (cond b (Some g) (find (λ group. has_name group m) gs)) []) n ≡ ((b && has_name g n) || list_any (λ group. has_name group m && has_name group n) gs)
    by true here rest =
        let apart = new_apart g (flat_map (λ group. group) gs) new in
        let none : list_any (λ group. has_name group m && has_name group n) gs ≡ false =
        false_from_ne_true _ (λ t.
        let other = some_passes (λ (group : List ℕ). has_name group m && has_name group n) gs t in
        let there = in_has other.0 m (and_parts (has_name other.0 m) (has_name other.0 n) other.2).0 in
        both_ways (has_name (flat_map (λ group. group) gs) m) (apart.1 m (in_has g m here)) (has_in (flat_map (λ group. group) gs) m (in_flat_map (λ (group : List ℕ). group) m other.0 gs other.1 there))) in
        sym (ap (λ (b : Bool). has_name g n || b) none ∙ or-false (has_name g n))
    by false here rest = rest

some_there : (names : List ℕ) (name : ℕ) → has_name names name ≡ true → (length names == 0) ≡ false
some_there [] name h = absurd (cc)
some_there (n ∷ ns) name h = grind (arith, nat_tests)

-- none has a name where the first that has it is none
pub none_in : (groups : List (List ℕ)) (name : ℕ) → (length (first_group groups name) == 0) ≡ list_all (λ group. not (has_name group name)) groups
none_in [] name = refl
none_in (g ∷ gs) name = by (has_name g name) refl (none_in gs name)
  where
    by : (b : Bool) → has_name g name ≡ b → (length (first_group gs name) == 0) ≡ list_all (λ group. not (has_name group name)) gs
        → (length (unwrap_or (cond b (Some g) (find (λ group. has_name group name) gs)) []) == 0) ≡ (not b && list_all (λ group. not (has_name group name)) gs)
    by true here rest = some_there g name here
    by false here rest = rest
