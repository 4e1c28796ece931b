-- Lines of visits say these visits.
use Rattle.std.proofs.Common.{◌≡◌, ◌∙◌, ℕ, suc, ◌<◌, ◌^◌, Bool, true, false, ◌&&◌, if◌then◌else◌, nat_le, Some, Result, Ok, Err, List, [], ◌∷◌, ◌++◌, map, get_or, decimal, refl, sym, ap, subst, arith, le_refl}
use Rattle.std.specs.Prelude as prelude
use Rattle.std.specs.Prelude.{OnOk, is_ok}
use Rattle.std.specs.List.{All, list_all}
use Rattle.std.proofs.lemmas.List.{map-append, flat_map_more}
use Rattle.std.proofs.lemmas.List.Elements.{All-append, All-nil}
use Rattle.std.proofs.lemmas.Bool.{and_from}
use Rattle.text_lines.specs.Numbers.{is_decimal, value_after}
use Rattle.text_lines.specs.Writing.{is_word, line_text, text_of}
use Rattle.text_lines.proofs.NumberLemmas.{reads_printed}
use Rattle.text_lines.proofs.WritingLemmas.{written_said, printed_is_word}
use Rattle.x_texts.specs.Words.{visit_words}
use Rattle.x_texts.specs.Written.{choices_said, visits_said, AreVisitLines}
use Rattle.x_texts.proofs.EndLemmas.{AreSmall}

later : (o : ℕ) (path : List ℕ) → AreSmall (o ∷ path) → AreSmall path
later o path h = λ k d l. h (suc k) d (omega (arith, l))

first : (o : ℕ) (path : List ℕ) → AreSmall (o ∷ path) → o < 2 ^ 32
first o path h = h 0 0 (omega arith)

-- *the words of a visit*

value_is : (b : Bool) (v n : ℕ) → (if b then Some v else prelude.None) ≡ Some n → v ≡ n
value_is true v n e = cc
value_is false v n e = absurd (cc)

value_of : (n : ℕ) → n < 2 ^ 64 → value_after 0 (decimal n) ≡ n
value_of n h = value_is (is_decimal (decimal n) && nat_le (value_after 0 (decimal n)) n) (value_after 0 (decimal n)) n (reads_printed n n h (le_refl n))

values : (path : List ℕ) → AreSmall path → map (value_after 0) (map decimal path) ≡ path
values [] h = refl
values (o ∷ path) h = (λ j. value_of o (let s = first o path h in omega (arith, s)) j ∷ values path (later o path h) j)

choices_are_words : (path : List ℕ) → AreSmall path → list_all is_word (map decimal path) ≡ true
choices_are_words [] h = refl
choices_are_words (o ∷ path) h =
    and_from (is_word (decimal o)) (list_all is_word (map decimal path)) (printed_is_word o (let s = first o path h in omega (arith, s)))
    (choices_are_words path (later o path h))

-- *the lines of visits*

abbrev AllSmall : List (List ℕ) → Type 0
AllSmall visits = All AreSmall visits

visits_are_words : (visits : List (List ℕ)) → AllSmall visits → list_all (list_all is_word) (map visit_words visits) ≡ true
visits_are_words [] h = refl
visits_are_words (path ∷ visits) h =
    and_from (list_all is_word (visit_words path)) (list_all (list_all is_word) (map visit_words visits)) (choices_are_words path (h 0 [] (omega arith)))
    (visits_are_words visits (λ k d l. h (suc k) d (omega (arith, l))))

each_said : (visits : List (List ℕ)) → AllSmall visits → map choices_said (map visit_words visits) ≡ visits
each_said [] h = refl
each_said (path ∷ visits) h = (λ j. values path (h 0 [] (omega arith)) j ∷ each_said visits (λ k d l. h (suc k) d (omega (arith, l))) j)

said_again : (visits : List (List ℕ)) → AllSmall visits → visits_said (text_of (map visit_words visits)) ≡ visits
unfolding visits_said
said_again visits h = ap (map choices_said) (written_said (map visit_words visits) (visits_are_words visits h)) ∙ each_said visits h

-- lines of visits are those of what they say
lines_said : (text : List ℕ) (visits : List (List ℕ)) → text ≡ text_of (map visit_words visits) → AllSmall visits → AreVisitLines text × (visits_said text ≡ visits)
lines_said text visits e h =
    let said : visits_said text ≡ visits = ap visits_said e ∙ said_again visits h in (
      record {
        written = e ∙ ap (λ vs. text_of (map visit_words vs)) (sym said);
        small = subst AllSmall (sym said) h;
      },
      said,
    )

-- no visit
pub no_lines : (text : List ℕ) → text ≡ [] → AreVisitLines text × (visits_said text ≡ [])
no_lines text e = lines_said text [] e (All-nil AreSmall)

-- and so are those with one visit more
pub one_more_said : (old line new path : List ℕ) → AreVisitLines old → AreSmall path → line ≡ line_text (visit_words path) → new ≡ old ++ line → AreVisitLines new × (visits_said new ≡ visits_said old ++ path ∷ [])
one_more_said old line new path are small is e =
    lines_said new (visits_said old ++ path ∷ [])
    (e ∙ (λ j. are.written j ++ is j) ∙ flat_map_more line_text [] (map visit_words (visits_said old)) (visit_words path)
    ∙ ap text_of (sym (map-append visit_words (visits_said old) (path ∷ []))))
    (All-append AreSmall (visits_said old) (path ∷ []) are.small (one_small path small))
  where
    one_small : (path : List ℕ) → AreSmall path → AllSmall (path ∷ [])
    one_small path s = λ k d l. subst (λ (n : ℕ). AreSmall (get_or (path ∷ []) n d)) (let z : 0 ≡ k = omega (arith, l) in z) s

-- so they are after a call that adds a line, or nothing where memory runs out
pub still_lines : {X E : Type 0} (result : Result X E) (old line new path : List ℕ) → AreVisitLines old → AreSmall path → line ≡ line_text (visit_words path)
    → new ≡ (if is_ok result then old ++ line else old) → AreVisitLines new
still_lines (Ok x) old line new path are small is e = (one_more_said old line new path are small is e).0
still_lines (Err e) old line new path are small is same = subst AreVisitLines (sym same) are

pub visit_added : {X E : Type 0} (result : Result X E) (old line new path : List ℕ) → AreVisitLines old → AreSmall path → line ≡ line_text (visit_words path)
    → new ≡ (if is_ok result then old ++ line else old) → OnOk result (visits_said new ≡ visits_said old ++ path ∷ [])
visit_added (Ok x) old line new path are small is e = (one_more_said old line new path are small is e).1
visit_added (Err e) old line new path are small is same = tt
