-- Lists in which no member is like a later one: how long they are, and the classes of a list.
use Rattle.std.proofs.Common.{◌≡◌, ℕ, suc, ◌+◌, ◌≤◌, List, [], ◌∷◌, ◌++◌, map, flat_map, length, inl, inr, refl, sym, ap, subst, ◌∙◌, arith}
use Rattle.std.proofs.lemmas.List.{length-append, append_assoc}
use Rattle.poly_cells.specs.Sets.{IsIn}
use Rattle.poly_cells.proofs.SetLemmas.{in_append_left, in_append_right, in_append_cases, in_from_map}
use Rattle.poly_cells.proofs.MemberLemmas.{in_from_flat_map}
use Rattle.poly_place.specs.Classes.{IsLikeOne, AreNew}
use Rattle.poly_place.specs.Counts.{NoTwoAre}

-- ---- lists put together

pub unlike_append : {P : Type 0} (Like : P → P → Type 0) (xs ys : List P) → NoTwoAre Like xs → NoTwoAre Like ys
    → ((x y : P) → IsIn x xs → IsIn y ys → Like x y → ⊥) → NoTwoAre Like (xs ++ ys)
unlike_append Like [] ys a b h = b
unlike_append Like (x ∷ xs) ys a b h = (
  (λ q i l. elim (in_append_cases q xs ys i) [ inl left ↦ a.0 q left l | inr right ↦ h x q (inl refl) right l ]),
  unlike_append Like xs ys a.1 b (λ v w i j l. h v w (inr i) j l),
)

pub unlike_map : {P Q : Type 0} (Like : P → P → Type 0) (Such : Q → Q → Type 0) (f : P → Q) (xs : List P)
    → ((x y : P) → IsIn x xs → IsIn y xs → Such (f x) (f y) → Like x y) → NoTwoAre Like xs → NoTwoAre Such (map f xs)
unlike_map Like Such f [] h a = tt
unlike_map {P} {Q} Like Such f (x ∷ xs) h a = (
  (λ q i s. let y = in_from_map f q xs i in a.0 y.0 y.1 (h x y.0 (inl refl) (inr y.1) (subst (λ (r : Q). Such (f x) r) y.2 s))),
  unlike_map Like Such f xs (λ v w i j s. h v w (inr i) (inr j) s) a.1,
)

pub unlike_flat_map : {P Q : Type 0} (Like : P → P → Type 0) (Such : Q → Q → Type 0) (f : P → List Q) (xs : List P)
    → ((x : P) → IsIn x xs → NoTwoAre Such (f x))
    → ((x y : P) (a b : Q) → IsIn x xs → IsIn y xs → IsIn a (f x) → IsIn b (f y) → Such a b → Like x y)
    → NoTwoAre Like xs → NoTwoAre Such (flat_map f xs)
unlike_flat_map Like Such f [] each cross a = tt
unlike_flat_map {P} {Q} Like Such f (x ∷ xs) each cross a =
    unlike_append Such (f x) (flat_map f xs) (each x (inl refl))
    (unlike_flat_map Like Such f xs (λ v i. each v (inr i)) (λ v w s t i j k l m. cross v w s t (inr i) (inr j) k l m) a.1)
    (λ s t i j m.
    let y = in_from_flat_map f t xs j in
    a.0 y.0 y.1 (cross x y.0 s t (inl refl) (inr y.1) i y.2 m))

-- ---- how long they are

-- what comes before a member, and after it
parted_at : {P : Type 0} (y : P) (ys : List P) → IsIn y ys → (us : List P) × (vs : List P) × (ys ≡ us ++ y ∷ vs)
parted_at y [] i = absurd i
parted_at {P} y (z ∷ zs) (inl e) = ([], zs, ap (λ (x : P). x ∷ zs) (sym e))
parted_at {P} y (z ∷ zs) (inr i) = let r = parted_at y zs i in (z ∷ r.0, r.1, ap (λ (xs : List P). z ∷ xs) r.2)

one_more : {P : Type 0} (y : P) (us vs : List P) → length (us ++ y ∷ vs) ≡ length (us ++ vs) + 1
one_more y us vs =
    let one = length-append us (y ∷ vs) in
    let two = length-append us vs in
    omega (arith, one, two)

-- among those of which a fact holds, likeness goes back and on
pub record IsLikeness {P : Type 0} (Good : P → Type 0) (Like : P → P → Type 0) : Type 0 where
  pub back : (a b : P) → Good a → Good b → Like a b → Like b a
  pub onward : (a b c : P) → Good a → Good b → Good c → Like a b → Like b c → Like a c

-- the one taken away
like_rest : {P : Type 0} (Like : P → P → Type 0) (y x : P) (us vs ys : List P) → ys ≡ us ++ y ∷ vs → IsLikeOne Like ys x → (Like y x → ⊥) → IsLikeOne Like (us ++ vs) x
like_rest {P} Like y x us vs ys e one n =
    elim (in_append_cases one.0 us (y ∷ vs) (subst (λ (zs : List P). IsIn one.0 zs) e one.1)) [
      | inl l ↦ (one.0, in_append_left one.0 us vs l, one.2)
      | inr r ↦ elim r [
        | inl same ↦ absurd (n (subst (λ (z : P). Like z x) same one.2))
        | inr later ↦ (one.0, in_append_right one.0 us vs later, one.2)
      ]
    ]

-- where each of the first is like one of the second, there are at most as many
pub at_most : {P : Type 0} (Good : P → Type 0) (Like : P → P → Type 0) → IsLikeness Good Like → (xs ys : List P)
    → ((x : P) → IsIn x xs → Good x) → ((y : P) → IsIn y ys → Good y) → NoTwoAre Like xs → ((x : P) → IsIn x xs → IsLikeOne Like ys x) → length xs ≤ length ys
at_most Good Like k [] ys good fine a met = omega arith
at_most {P} Good Like k (x ∷ xs) ys good fine a met =
    let one = met x (inl refl) in
    let parts = parted_at one.0 ys one.1 in
    let here = fine one.0 one.1 in
    let rest =
    at_most Good Like k xs (parts.0 ++ parts.1) (λ v i. good v (inr i))
    (λ w j. fine w (subst (λ (zs : List P). IsIn w zs) (sym parts.2) (among parts.0 parts.1 one.0 w j))) a.1
    (λ v i. like_rest Like one.0 v parts.0 parts.1 ys parts.2 (met v (inr i))
    (λ l. a.0 v i (k.onward x one.0 v (good x (inl refl)) here (good v (inr i)) (k.back one.0 x here (good x (inl refl)) one.2) l))) in
    longer (length xs) (length (parts.0 ++ parts.1)) (length ys) rest (ap length parts.2 ∙ one_more one.0 parts.0 parts.1)
  where
    longer : (a b c : ℕ) → a ≤ b → c ≡ b + 1 → suc a ≤ c
    longer a b c l e = omega arith

    among : (us vs : List P) (y w : P) → IsIn w (us ++ vs) → IsIn w (us ++ y ∷ vs)
    among us vs y w i = elim (in_append_cases w us vs i) [ inl l ↦ in_append_left w us (y ∷ vs) l | inr r ↦ in_append_right w us (y ∷ vs) (inr r) ]

-- ---- the classes of a list

-- members of the list, one of each class that none of those before is in
pub record AreFirsts {P : Type 0} (Like : P → P → Type 0) (before ps : List P) (n : ℕ) (firsts : List P) : Type 0 where
  pub long : length firsts ≡ n
  pub among : (p : P) → IsIn p firsts → IsIn p ps
  pub unlike : NoTwoAre Like firsts
  pub fresh : (p q : P) → IsIn p firsts → IsIn q before → Like q p → ⊥
  pub met : (p : P) → IsIn p ps → IsLikeOne Like (before ++ firsts) p

pub firsts_of : {P : Type 0} (Good : P → Type 0) (Like : P → P → Type 0) → IsLikeness Good Like → ((p : P) → Good p → Like p p) → (before ps : List P) (n : ℕ)
    → ((p : P) → IsIn p (before ++ ps) → Good p) → AreNew Like before ps n → (firsts : List P) × AreFirsts Like before ps n firsts
firsts_of {P} Good Like k self before [] n good a = ([], record { long = sym a; among = λ p i. absurd i; unlike = tt; fresh = λ p q i. absurd i; met = λ p i. absurd i })
firsts_of {P} Good Like k self before (p ∷ ps) n good a =
    elim a [
      | inl old ↦
          let rest = firsts_of Good Like k self (before ++ p ∷ []) ps n (λ q i. good q (whole q i)) old.1 in
          let q = old.0 in
          let f = rest.1 in (
            rest.0,
            record {
              long = f.long;
              among = λ r i. inr (f.among r i);
              unlike = f.unlike;
              fresh = λ r s i j. f.fresh r s i (in_append_left s before (p ∷ []) j);
              met = λ r i. elim i [
                | inl e ↦ (q.0, in_append_left q.0 before rest.0 q.1, subst (λ (t : P). Like q.0 t) (sym e) q.2)
                | inr later ↦
                    let one = f.met r later in
                    elim (in_append_cases one.0 (before ++ p ∷ []) rest.0 one.1) [
                      | inl l ↦ elim (in_append_cases one.0 before (p ∷ []) l) [
                        | inl b ↦ (one.0, in_append_left one.0 before rest.0 b, one.2)
                        | inr only ↦ elim only [
                          | inl e ↦ (
                            q.0,
                            in_append_left q.0 before rest.0 q.1,
                            k.onward q.0 p r (good q.0 (in_append_left q.0 before (p ∷ ps) q.1)) (good p (in_append_right p before (p ∷ ps) (inl refl)))
                                (good r (in_append_right r before (p ∷ ps) (inr later))) q.2 (subst (λ (t : P). Like t r) e one.2),
                          )
                          | inr none ↦ absurd none
                        ]
                      ]
                      | inr l ↦ (one.0, in_append_right one.0 before rest.0 l, one.2)
                    ]
              ];
            },
          )
      | inr new ↦
          let rest = firsts_of Good Like k self (before ++ p ∷ []) ps new.1.0 (λ q i. good q (whole q i)) new.1.2 in
          let f = rest.1 in (
            p ∷ rest.0,
            record {
              long = more (length rest.0) new.1.0 n f.long new.1.1;
              among = λ r i. elim i [ inl e ↦ inl e | inr later ↦ inr (f.among r later) ];
              unlike = ((λ r i l. f.fresh r p i (in_append_right p before (p ∷ []) (inl refl)) l), f.unlike);
              fresh = λ r s i j l. elim i [
                | inl e ↦ new.0 (s, j, subst (λ (t : P). Like s t) e l)
                | inr later ↦ f.fresh r s later (in_append_left s before (p ∷ []) j) l
              ];
              met = λ r i. elim i [
                | inl e ↦ (p, in_append_right p before (p ∷ rest.0) (inl refl), subst (λ (t : P). Like p t) (sym e) (self p (good p (in_append_right p before (p ∷ ps) (inl refl)))))
                | inr later ↦
                    let one = f.met r later in
                    (one.0, subst (λ (ts : List P). IsIn one.0 ts) (append_assoc before (p ∷ []) rest.0) one.1, one.2)
              ];
            },
          )
    ]
  where
    whole : (q : P) → IsIn q ((before ++ p ∷ []) ++ ps) → IsIn q (before ++ p ∷ ps)
    whole q i = subst (λ (ts : List P). IsIn q ts) (append_assoc before (p ∷ []) ps) i

    more : (a b c : ℕ) → a ≡ b → c ≡ b + 1 → suc a ≡ c
    more a b c e f = omega arith

-- where each of the one list is like one of the other, it has at most as many classes
pub classes_at_most : {P : Type 0} (Good : P → Type 0) (Like : P → P → Type 0) → IsLikeness Good Like → ((p : P) → Good p → Like p p) → (xs ys : List P) (m n : ℕ)
    → ((x : P) → IsIn x xs → Good x) → ((y : P) → IsIn y ys → Good y) → AreNew Like [] xs m → AreNew Like [] ys n → ((x : P) → IsIn x xs → IsLikeOne Like ys x) → m ≤ n
classes_at_most {P} Good Like k self xs ys m n good fine a b met =
    let f = firsts_of Good Like k self [] xs m good a in
    let g = firsts_of Good Like k self [] ys n fine b in
    let few =
    at_most Good Like k f.0 g.0 (λ x i. good x (f.1.among x i)) (λ y i. fine y (g.1.among y i)) f.1.unlike
    (λ x i.
    let y = met x (f.1.among x i) in
    let w = g.1.met y.0 y.1 in
    (w.0, w.1, k.onward w.0 y.0 x (fine w.0 (g.1.among w.0 w.1)) (fine y.0 y.1) (good x (f.1.among x i)) w.2 y.2)) in
    same_ends (length f.0) m (length g.0) n f.1.long g.1.long few
  where
    same_ends : (a m b n : ℕ) → a ≡ m → b ≡ n → a ≤ b → m ≤ n
    same_ends a m b n e f l = omega arith

-- ---- one likeness for another

like_other : {P : Type 0} (Like Such : P → P → Type 0) (all before : List P) (p : P) → ((a b : P) → IsIn a all → IsIn b all → Like a b → Such a b)
    → ((q : P) → IsIn q before → IsIn q all) → IsIn p all → IsLikeOne Like before p → IsLikeOne Such before p
like_other Like Such all before p h within i one = (one.0, one.1, h one.0 p (within one.0 one.1) i one.2)

-- where two likenesses are one among the members, the new ones are the same
pub new_by_other : {P : Type 0} (Like Such : P → P → Type 0) (before ps : List P) (n : ℕ)
    → ((a b : P) → IsIn a (before ++ ps) → IsIn b (before ++ ps) → Like a b → Such a b) → ((a b : P) → IsIn a (before ++ ps) → IsIn b (before ++ ps) → Such a b → Like a b)
    → AreNew Like before ps n → AreNew Such before ps n
new_by_other Like Such before [] n to from a = a
new_by_other {P} Like Such before (p ∷ ps) n to from a =
    let there = in_append_right p before (p ∷ ps) (inl refl) in
    elim a [
      | inl old ↦ inl (
        like_other Like Such (before ++ p ∷ ps) before p to (λ q i. in_append_left q before (p ∷ ps) i) there old.0,
        new_by_other Like Such (before ++ p ∷ []) ps n (λ v w i j. to v w (whole v i) (whole w j)) (λ v w i j. from v w (whole v i) (whole w j)) old.1,
      )
      | inr new ↦ inr (
        (λ one. new.0 (like_other Such Like (before ++ p ∷ ps) before p from (λ q i. in_append_left q before (p ∷ ps) i) there one)),
        (
          new.1.0,
          new.1.1,
          new_by_other Like Such (before ++ p ∷ []) ps new.1.0 (λ v w i j. to v w (whole v i) (whole w j)) (λ v w i j. from v w (whole v i) (whole w j)) new.1.2,
        ),
      )
    ]
  where
    whole : (q : P) → IsIn q ((before ++ p ∷ []) ++ ps) → IsIn q (before ++ p ∷ ps)
    whole q i = subst (λ (ts : List P). IsIn q ts) (append_assoc before (p ∷ []) ps) i
