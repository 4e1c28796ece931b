-- A snapshot has no more breakpoints than there are levels, options and items, and one, since none comes twice.
use Rattle.std.proofs.Common.{◌≡◌, ℕ, ◌+◌, ◌*◌, ◌<◌, ◌≤◌, Bool, true, false, not, ◌||◌, List, [], ◌∷◌, length, map, decimal, codes, refl, arith, eqb}
use Rattle.std.specs.List.{list_all, list_any, IsDistinct, AllByRecursion}
use Rattle.std.proofs.lemmas.Bool.{and_parts, or_parts, leb-true, eqb-true, eq-eqb, ne_eqb, not-true}
use Rattle.std.proofs.lemmas.List.{length-map}
use Rattle.std.proofs.lemmas.Map.Steps.{length-le_from_distinct_below}
use Rattle.cover_problem.specs.Problem.{ProblemValue, IsProblem}
use Rattle.cover_problem.proofs.BoundLemmas.{item_bounds}
use Rattle.x_texts.specs.declared.breakpoint.Break.{Break}
use Rattle.x_texts.specs.declared.breakpoint.Break.TheVariants as at
use Rattle.x_texts.specs.Breaks.{is_break, is_same, are_new, are_breaks}
use Rattle.std.proofs.lemmas.Fmt.{length-decimal-le}
use Rattle.cover_problem.specs.Problem.{name_at}
use Rattle.text_lines.specs.Writing.{line_text, text_of}
use Rattle.x_texts.specs.Words.{break_words}
use Rattle.resume_laws.proofs.LengthLemmas.{within_parts, length_line, length_lines, name_length}

-- breakpoints by numbers: the levels first, then the options, the items, and the visits
abbrev number : ProblemValue → Break → ℕ
number p (at.Level n) = n
number p (at.Option k) = length p.names + k
number p (at.Item i) = length p.names + length p.options + i
number p at.Visit = 2 * length p.names + length p.options + 1

below : (p : ProblemValue) (b : Break) → is_break p b ≡ true → number p b < 2 * length p.names + length p.options + 2
below p (at.Level n) h = let a = leb-true n (length p.names) h in omega arith
below p (at.Option k) h = let a = item_bounds (length p.options) k h in omega (arith, a.1)
below p (at.Item i) h = let a = item_bounds (length p.names) i h in omega (arith, a.1)
below p at.Visit h = omega arith

-- breakpoints of one number are the same
apart : (p : ProblemValue) (b c : Break) → is_break p b ≡ true → is_break p c ≡ true → number p b ≡ number p c → is_same b c ≡ true
apart p (at.Level m) (at.Level n) h k e = eq-eqb m n e
apart p (at.Option m) (at.Option n) h k e = eq-eqb m n (omega arith)
apart p (at.Item m) (at.Item n) h k e = eq-eqb m n (omega arith)
apart p at.Visit at.Visit h k e = refl
apart p (at.Level m) (at.Option n) h k e = let a = leb-true m (length p.names) h in let b = item_bounds (length p.options) n k in absurd (omega (arith, b.0))
apart p (at.Level m) (at.Item n) h k e = let a = leb-true m (length p.names) h in let b = item_bounds (length p.names) n k in absurd (omega (arith, b.0))
apart p (at.Level m) at.Visit h k e = let a = leb-true m (length p.names) h in absurd (omega arith)
apart p (at.Option m) (at.Level n) h k e = let a = leb-true n (length p.names) k in let b = item_bounds (length p.options) m h in absurd (omega (arith, b.0))
apart p (at.Option m) (at.Item n) h k e = let a = item_bounds (length p.options) m h in let b = item_bounds (length p.names) n k in absurd (omega (arith, a.1, b.0))
apart p (at.Option m) at.Visit h k e = let a = item_bounds (length p.options) m h in absurd (omega (arith, a.1))
apart p (at.Item m) (at.Level n) h k e = let a = leb-true n (length p.names) k in let b = item_bounds (length p.names) m h in absurd (omega (arith, b.0))
apart p (at.Item m) (at.Option n) h k e = let a = item_bounds (length p.names) m h in let b = item_bounds (length p.options) n k in absurd (omega (arith, a.0, b.1))
apart p (at.Item m) at.Visit h k e = let a = item_bounds (length p.names) m h in absurd (omega (arith, a.1))
apart p at.Visit (at.Level n) h k e = let a = leb-true n (length p.names) k in absurd (omega arith)
apart p at.Visit (at.Option n) h k e = let a = item_bounds (length p.options) n k in absurd (omega (arith, a.1))
apart p at.Visit (at.Item n) h k e = let a = item_bounds (length p.names) n k in absurd (omega (arith, a.1))

others_apart : (p : ProblemValue) (b : Break) (bs : List Break) → is_break p b ≡ true → list_all (is_break p) bs ≡ true → list_any (is_same b) bs ≡ false → AllByRecursion (λ y. eqb (number p b) y ≡ false) (map (number p) bs)
others_apart p b [] h all none = tt
others_apart p b (c ∷ cs) h all none =
    let a = and_parts (is_break p c) (list_all (is_break p) cs) all in
    let o = or_parts (is_same b c) (list_any (is_same b) cs) none in
    (ne_eqb (number p b) (number p c) (λ e. both (is_same b c) o.0 (apart p b c h a.0 e)), others_apart p b cs h a.1 o.1)
  where
    both : (v : Bool) → v ≡ false → v ≡ true → ⊥
    both v f t = cc

distinct : (p : ProblemValue) (bs : List Break) → list_all (is_break p) bs ≡ true → are_new bs ≡ true → IsDistinct eqb (map (number p) bs)
unfolding IsDistinct
distinct p [] all new = tt
distinct p (b ∷ bs) all new =
    let a = and_parts (is_break p b) (list_all (is_break p) bs) all in
    let n = and_parts (not (list_any (is_same b) bs)) (are_new bs) new in
    (others_apart p b bs a.0 a.1 (not-true (list_any (is_same b) bs) n.0), distinct p bs a.1 n.1)

all_below : (p : ProblemValue) (bs : List Break) (q : ℕ) → list_all (is_break p) bs ≡ true → list_any (eqb q) (map (number p) bs) ≡ true → q < 2 * length p.names + length p.options + 2
all_below p [] q all has = cc
all_below p (b ∷ bs) q all has = by (eqb q (number p b)) refl has (all_below p bs q a.1)
  where
    a : (is_break p b ≡ true) × (list_all (is_break p) bs ≡ true)
    a = and_parts (is_break p b) (list_all (is_break p) bs) all

    by : (v : Bool) → eqb q (number p b) ≡ v → (v || list_any (eqb q) (map (number p) bs)) ≡ true → (list_any (eqb q) (map (number p) bs) ≡ true → q < 2 * length p.names + length p.options + 2) → q < 2 * length p.names + length p.options + 2
    by true e h more = let s = eqb-true q (number p b) e in let l = below p b a.0 in omega arith
    by false e h more = more h

pub breaks_count : (p : ProblemValue) (bs : List Break) → are_breaks p bs ≡ true → length bs ≤ 2 * length p.names + length p.options + 2
breaks_count p bs h =
    let a = and_parts (list_all (is_break p) bs) (are_new bs) h in
    let c = length-le_from_distinct_below (map (number p) bs) (2 * length p.names + length p.options + 2) (distinct p bs a.0 a.1) (λ q has. all_below p bs q a.0 has) in
    let e = length-map bs (number p) in omega arith

-- ---- their lines

break_length : (p : ProblemValue) (b : Break) → IsProblem p → is_break p b ≡ true → length (line_text (break_words p.names b)) ≤ 20
break_length p (at.Level n) g h =
    let a = leb-true n (length p.names) h in
    let w = within_parts p g in
    let d = length-decimal-le 5 n (omega arith) (omega (arith, w.0)) (omega (arith, w.0)) in
    let l = length_line (codes "break") (codes "level" ∷ decimal n ∷ []) in omega arith
break_length p (at.Option k) g h =
    let a = item_bounds (length p.options) k h in
    let w = within_parts p g in
    let d = length-decimal-le 6 k (omega arith) (omega (arith, a.1, w.1)) (omega (arith, a.1, w.1)) in
    let l = length_line (codes "break") (codes "option" ∷ decimal k ∷ []) in omega arith
break_length p (at.Item i) g h =
    let d = name_length p.names i g.named in
    let l = length_line (codes "break") (codes "item" ∷ name_at p.names i ∷ []) in omega arith
break_length p at.Visit g h = let l = length_line (codes "break") (codes "visit" ∷ []) in omega arith

pub breaks_length : (p : ProblemValue) (bs : List Break) → IsProblem p → list_all (is_break p) bs ≡ true → length (text_of (map (break_words p.names) bs)) ≤ 20 * length bs
breaks_length p [] g h = omega arith
breaks_length p (b ∷ bs) g h =
    let a = and_parts (is_break p b) (list_all (is_break p) bs) h in
    let l = length_lines (break_words p.names b) (map (break_words p.names) bs) in
    let c = break_length p b g a.0 in
    let d = breaks_length p bs g a.1 in omega arith
