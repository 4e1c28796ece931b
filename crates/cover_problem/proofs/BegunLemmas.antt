-- What is read so far is nothing, or a problem; each line adds its words.
use Rattle.std.proofs.Common.{◌≡◌, ◌<◌, ◌≤◌, ◌⊎◌, inl, inr, ℕ, ◌==◌, List, [], ◌∷◌, ◌++◌, map, length, take, drop, true, false, cond, ◌||◌, nat_lt, Ok, Err, refl, sym, ap, ◌∙◌, subst, codes, arith, append_assoc, length-append, le_refl, lt-ltb, ltb-false}
use Rattle.std.proofs.Math.Seq.{take-append_seam, drop-append_seam, take-length, drop-length}
use Rattle.std.proofs.lemmas.Bool.{and_from, or_parts, eqb-false}
use Rattle.std.proofs.lemmas.List.{length-map, map-append}
use Rattle.text_lines.specs.Lines.{is_empty}
use Rattle.text_lines.specs.Each.{each, ◌>>=◌}
use Rattle.cover_problem.specs.declared.fault.Fault.TheVariants.{NoItemLine, BadLine}
use Rattle.cover_problem.specs.Problem.{ProblemValue, IsProblem, is_option, name_at}
use Rattle.cover_problem.specs.Validation.{add_name, within}
use Rattle.cover_problem.specs.Reading.{add_item, nothing, items_line, maybe_line, option_line}
use Rattle.cover_problem.specs.Grammar.{maybe_words, option_words, word_lines}
use Rattle.text_lines.proofs.ResultLemmas.{bind_ok, unrefused}
use Rattle.cover_problem.proofs.ProblemLemmas.{within_parts}
use Rattle.cover_problem.proofs.NameLemmas.{names_are}
use Rattle.cover_problem.proofs.MemberLemmas.{all_push}
use Rattle.cover_problem.proofs.ItemLemmas.{items_are}

-- *what is read so far*

-- nothing, or a problem
abbrev pub IsBegun : ProblemValue → Type 0
IsBegun p = (p ≡ nothing) ⊎ IsProblem p

-- the lines that say it
abbrev pub begun_lines : ProblemValue → List (List (List ℕ))
begun_lines p = cond (nat_lt 0 p.primary) (word_lines p) []

-- q is read where p was read before, and a line of these words
pub record Says (p q : ProblemValue) (words : List (List ℕ)) : Type 0 where
  pub begun : IsBegun q
  pub lines : begun_lines q ≡ begun_lines p ++ words ∷ []

begun_none : (p : ProblemValue) → nat_lt 0 p.primary ≡ false → begun_lines p ≡ []
begun_none p h = rw h refl

pub begun_some : (p : ProblemValue) → 0 < p.primary → begun_lines p ≡ word_lines p
begun_some p h = rw (lt-ltb 0 p.primary h) refl

problem_begun : (p : ProblemValue) → IsBegun p → ((p.primary == 0) ≡ false) → IsProblem p
problem_begun p (inl e) h = absurd (eqb-false p.primary 0 h (ap (λ q. q.primary) e))
problem_begun p (inr g) h = g

some_words : (words : List (List ℕ)) → is_empty words ≡ false → 0 < length words
some_words [] h = absurd (cc)
some_words (w ∷ ws) h = omega arith

maybe_some : (words : List (List ℕ)) → is_empty words ≡ false → maybe_words words ≡ (codes "maybe" ∷ words) ∷ []
maybe_some [] h = absurd (cc)
maybe_some (w ∷ ws) h = refl

take_front : (xs ys : List (List ℕ)) (n : ℕ) → length xs ≡ n → take n (xs ++ ys) ≡ xs
take_front xs ys n e = rw (← e) (take-append_seam xs ys)

drop_front : (xs ys : List (List ℕ)) (n : ℕ) → length xs ≡ n → drop n (xs ++ ys) ≡ ys
drop_front xs ys n e = rw (← e) (drop-append_seam xs ys)

-- *the lines*

items_parts : (p q : ProblemValue) (words : List (List ℕ)) → items_line p words ≡ Ok q →
    ((is_empty words || nat_lt 0 p.primary) ≡ false) × ((names : List (List ℕ)) × (each add_name [] words ≡ Ok names) × (within (record { names = names; primary = length names; options = [] }) ≡ Ok q))
unfolding items_line
items_parts p q words h =
    let u = unrefused (is_empty words || nat_lt 0 p.primary) BadLine (each add_name [] words >>= λ names. within (record { names = names; primary = length names; options = [] })) q h in
    (u.0, bind_ok (each add_name [] words) (λ names. within (record { names = names; primary = length names; options = [] })) q u.1)

pub items_say : (p q : ProblemValue) (words : List (List ℕ)) → items_line p words ≡ Ok q → Says p q (codes "items" ∷ words)
items_say p q words h = step (items_parts p q words h)
  where
    step : ((is_empty words || nat_lt 0 p.primary) ≡ false) × ((names : List (List ℕ)) × (each add_name [] words ≡ Ok names) × (within (record { names = names; primary = length names; options = [] }) ≡ Ok q)) → Says p q (codes "items" ∷ words)
    step (first, (names, e, w)) =
        let r : ProblemValue = record { names = names; primary = length names; options = [] } in
        let m = names_are [] words names e refl refl in
        let v = within_parts r q w in
        let o = or_parts (is_empty words) (nat_lt 0 p.primary) first in
        let n : names ≡ words = m.0 in
        let some : 0 < length names = rw n (some_words words o.0) in
        let lines : word_lines r ≡ (codes "items" ∷ words) ∷ [] =
        rw (take-length names, drop-length names, n) refl in
        subst (λ s. Says p s (codes "items" ∷ words)) v.1 (record {
          begun = inr (record { some = some; within = le_refl (length names); named = m.2; new = m.1; options_are = refl; small = v.0 });
          lines = begun_some r some ∙ lines ∙ ap (λ ls. ls ++ (codes "items" ∷ words) ∷ []) (sym (begun_none p o.1));
        })

maybe_parts : (p q : ProblemValue) (words : List (List ℕ)) → maybe_line p words ≡ Ok q →
    ((is_empty words || nat_lt p.primary (length p.names) || nat_lt 0 (length p.options)) ≡ false) × ((p.primary == 0) ≡ false) × ((names : List (List ℕ)) × (each add_name p.names words ≡ Ok names) × (within (record { names = names; primary = p.primary; options = [] }) ≡ Ok q))
unfolding maybe_line
maybe_parts p q words h =
    let taken = each add_name p.names words >>= λ names. within (record { names = names; primary = p.primary; options = [] }) in
    let u = unrefused (is_empty words || nat_lt p.primary (length p.names) || nat_lt 0 (length p.options)) BadLine (cond (p.primary == 0) (Err NoItemLine) taken) q h in
    let v = unrefused (p.primary == 0) NoItemLine taken q u.1 in
    (u.0, v.0, bind_ok (each add_name p.names words) (λ names. within (record { names = names; primary = p.primary; options = [] })) q v.1)

no_options : (options : List (List ℕ)) → nat_lt 0 (length options) ≡ false → options ≡ []
no_options [] h = refl
no_options (o ∷ os) h = let l = ltb-false 0 (length (o ∷ os)) h in absurd (omega arith)

pub maybe_say : (p q : ProblemValue) (words : List (List ℕ)) → IsBegun p → maybe_line p words ≡ Ok q → Says p q (codes "maybe" ∷ words)
maybe_say p q words begun h = step (maybe_parts p q words h)
  where
    step : ((is_empty words || nat_lt p.primary (length p.names) || nat_lt 0 (length p.options)) ≡ false) × ((p.primary == 0) ≡ false) × ((names : List (List ℕ)) × (each add_name p.names words ≡ Ok names) × (within (record { names = names; primary = p.primary; options = [] }) ≡ Ok q)) → Says p q (codes "maybe" ∷ words)
    step (first, some, (names, e, w)) =
        let r : ProblemValue = record { names = names; primary = p.primary; options = [] } in
        let g = problem_begun p begun some in
        let m = names_are p.names words names e g.new g.named in
        let v = within_parts r q w in
        let o = or_parts (is_empty words || nat_lt p.primary (length p.names)) (nat_lt 0 (length p.options)) first in
        let u = or_parts (is_empty words) (nat_lt p.primary (length p.names)) o.0 in
        let none : p.options ≡ [] = no_options p.options o.1 in
        let all : length p.names ≡ p.primary = omega (arith, ltb-false p.primary (length p.names) u.1, g.within) in
        let more : length p.names ≤ length names = omega (arith, ap length m.0, length-append p.names words) in
        let before : word_lines p ≡ (codes "items" ∷ p.names) ∷ [] =
        rw (← all, none, take-length p.names, drop-length p.names) refl in
        let after : word_lines r ≡ (codes "items" ∷ p.names) ∷ (codes "maybe" ∷ words) ∷ [] =
        rw (m.0, take_front p.names words p.primary all, drop_front p.names words p.primary all, maybe_some words u.0) refl in
        subst (λ s. Says p s (codes "maybe" ∷ words)) v.1 (record {
          begun = inr (record { some = g.some; within = omega arith; named = m.2; new = m.1; options_are = refl; small = v.0 });
          lines = begun_some r g.some ∙ after ∙ ap (λ ls. ls ++ (codes "maybe" ∷ words) ∷ []) (sym (begun_some p g.some ∙ before));
        })

option_parts : (p q : ProblemValue) (words : List (List ℕ)) → option_line p words ≡ Ok q →
    (is_empty words ≡ false) × ((p.primary == 0) ≡ false) × ((option : List ℕ) × (each (add_item p.names) [] words ≡ Ok option) × (within (record { names = p.names; primary = p.primary; options = p.options ++ option ∷ [] }) ≡ Ok q))
unfolding option_line
option_parts p q words h =
    let taken = each (add_item p.names) [] words >>= λ option. within (record { names = p.names; primary = p.primary; options = p.options ++ option ∷ [] }) in
    let u = unrefused (is_empty words) BadLine (cond (p.primary == 0) (Err NoItemLine) taken) q h in
    let v = unrefused (p.primary == 0) NoItemLine taken q u.1 in
    (u.0, v.0, bind_ok (each (add_item p.names) [] words) (λ option. within (record { names = p.names; primary = p.primary; options = p.options ++ option ∷ [] })) q v.1)

pub option_says : (p q : ProblemValue) (words : List (List ℕ)) → IsBegun p → option_line p words ≡ Ok q → Says p q (codes "option" ∷ words)
option_says p q words begun h = step (option_parts p q words h)
  where
    step : (is_empty words ≡ false) × ((p.primary == 0) ≡ false) × ((option : List ℕ) × (each (add_item p.names) [] words ≡ Ok option) × (within (record { names = p.names; primary = p.primary; options = p.options ++ option ∷ [] }) ≡ Ok q)) → Says p q (codes "option" ∷ words)
    step (full, some, (option, e, w)) =
        let r : ProblemValue = record { names = p.names; primary = p.primary; options = p.options ++ option ∷ [] } in
        let g = problem_begun p begun some in
        let m = items_are p.names [] words option e refl refl in
        let v = within_parts r q w in
        let names : map (name_at p.names) option ≡ words = m.2 in
        let long : 0 < length option = omega (arith, some_words words full, ap length names, length-map option (name_at p.names)) in
        let is : is_option (length p.names) option ≡ true = and_from _ _ (and_from _ _ (lt-ltb 0 (length option) long) m.0) m.1 in
        let start : List (List (List ℕ)) = (codes "items" ∷ take p.primary p.names) ∷ maybe_words (drop p.primary p.names) in
        let after : word_lines r ≡ word_lines p ++ (codes "option" ∷ words) ∷ [] =
        ap (λ ls. start ++ ls) (map-append (option_words p.names) p.options (option ∷ []) ∙ ap (λ ws. map (option_words p.names) p.options ++ (codes "option" ∷ ws) ∷ []) names)
        ∙ sym (append_assoc start (map (option_words p.names) p.options) ((codes "option" ∷ words) ∷ [])) in
        subst (λ s. Says p s (codes "option" ∷ words)) v.1 (record {
          begun = inr (record { some = g.some; within = g.within; named = g.named; new = g.new; options_are = all_push (is_option (length p.names)) p.options option g.options_are is; small = v.0 });
          lines = begun_some r g.some ∙ after ∙ ap (λ ls. ls ++ (codes "option" ∷ words) ∷ []) (sym (begun_some p g.some));
        })
