-- A text up to its first line that is `end`.
use Rattle.std.proofs.Common.{◌≡◌, ℕ, ◌-◌, Bool, true, false, not, cond, List, [], ◌∷◌, ◌++◌, length, take, drop, codes, Result, Ok, Err, refl, sym, ◌∙◌, ap, ap₂, subst, arith, append_assoc, append-nil, length-append}
use Rattle.std.specs.Prelude.{bytes_eq}
use Rattle.std.specs.List.{list_all}
use Rattle.std.proofs.lemmas.Bool.{and_parts, not-true}
use Rattle.std.proofs.Math.Seq.{take-append_seam, drop-append_seam}
use Rattle.text_lines.specs.Lines.{is_newline, is_one_line}
use Rattle.text_lines.specs.Writing.{is_word, spaced, line_text, text_of}
use Rattle.text_lines.specs.Each.{◌>>=◌}
use Rattle.text_lines.proofs.ResultLemmas.{ok_is, no_fault, bind_ok}
use Rattle.text_lines.proofs.WritingLemmas.{words_one_line}
use Rattle.x_snapshot.specs.Reader.{onto_line}
use Rattle.part_sums.specs.declared.fault.JoinFault.{JoinFault}
use Rattle.part_sums.specs.declared.fault.JoinFault.TheVariants.{Truncated}
use Rattle.part_sums.specs.Reading.{end_after, up_to_end}

bind_assoc : {A B C F : Type 0} (r : Result A F) (f : A → Result B F) (g : B → Result C F) → ((r >>= f) >>= g) ≡ (r >>= λ x. f x >>= g)
bind_assoc (Ok x) f g = refl
bind_assoc (Err e) f g = refl

bind_self : {A F : Type 0} (r : Result A F) → (r >>= λ x. Ok x) ≡ r
bind_self (Ok x) = refl
bind_self (Err e) = refl

-- what was found, with a text before it
abbrev pub before : List ℕ → List ℕ × List ℕ → Result (List ℕ × List ℕ) JoinFault
before front s = Ok (front ++ s.0, s.1)

-- *a line*

passed_from : (pre line rest : List ℕ) → is_one_line line ≡ true → bytes_eq (pre ++ line) (codes "end") ≡ false → end_after pre (line ++ 10 ∷ rest) ≡ (up_to_end rest >>= before (line ++ 10 ∷ []))
unfolding end_after
passed_from pre [] rest h e = let e' = rw (append-nil pre) at e in rw e' refl
passed_from pre (b ∷ bs) rest h e =
    let p = and_parts (not (is_newline b)) (is_one_line bs) h in
    let n : is_newline b ≡ false = not-true (is_newline b) p.0 in
    let a = append_assoc pre (b ∷ []) bs in
    let ih = passed_from (pre ++ b ∷ []) bs rest p.1 (rw a e) in
    rw (n, ih) (bind_assoc (up_to_end rest) (before (bs ++ 10 ∷ [])) (λ s. Ok (onto_line b s)))

ended_from : (pre line rest : List ℕ) → is_one_line line ≡ true → bytes_eq (pre ++ line) (codes "end") ≡ true → end_after pre (line ++ 10 ∷ rest) ≡ Ok (line ++ 10 ∷ [], rest)
unfolding end_after
ended_from pre [] rest h e = let e' = rw (append-nil pre) at e in rw e' refl
ended_from pre (b ∷ bs) rest h e =
    let p = and_parts (not (is_newline b)) (is_one_line bs) h in
    let n : is_newline b ≡ false = not-true (is_newline b) p.0 in
    let a = append_assoc pre (b ∷ []) bs in
    rw (n, ended_from (pre ++ b ∷ []) bs rest p.1 (rw a e)) refl

none_from : (pre text : List ℕ) → is_one_line text ≡ true → end_after pre text ≡ Err Truncated
unfolding end_after
none_from pre [] h = refl
none_from pre (b ∷ bs) h =
    let p = and_parts (not (is_newline b)) (is_one_line bs) h in
    let n : is_newline b ≡ false = not-true (is_newline b) p.0 in
    rw (n, none_from (pre ++ b ∷ []) bs p.1) refl

-- *a front without such a line*

-- in front of any text, the first line that is `end` is that of the text
abbrev pub Passes : List ℕ → Type 0
Passes front = (rest : List ℕ) → up_to_end (front ++ rest) ≡ (up_to_end rest >>= before front)

pub passes_none : Passes []
passes_none rest = sym (bind_self (up_to_end rest))

pub passes_both : (a b : List ℕ) → Passes a → Passes b → Passes (a ++ b)
passes_both a b f g rest =
    ap up_to_end (append_assoc a b rest) ∙ f (b ++ rest) ∙ ap (λ r. r >>= before a) (g rest) ∙ bind_assoc (up_to_end rest) (before b) (before a)
    ∙ same (up_to_end rest)
  where
    found : List ℕ → List ℕ → Result (List ℕ × List ℕ) JoinFault
    found rest xs = Ok (xs, rest)

    same : (r : Result (List ℕ × List ℕ) JoinFault) → (r >>= λ s. before a (b ++ s.0, s.1)) ≡ (r >>= before (a ++ b))
    same (Ok s) = ap (found s.1) (sym (append_assoc a b s.0))
    same (Err e) = refl

pub passes_line : (line : List ℕ) → is_one_line line ≡ true → bytes_eq line (codes "end") ≡ false → Passes (line ++ 10 ∷ [])
passes_line line h e rest = ap up_to_end (append_assoc line (10 ∷ []) rest) ∙ passed_from [] line rest h e

-- lines of words, none of which is `end`
pub passes_lines : (lines : List (List (List ℕ))) → list_all (list_all is_word) lines ≡ true → list_all (λ words. not (bytes_eq (spaced words) (codes "end"))) lines ≡ true → Passes (text_of lines)
passes_lines [] h e = passes_none
passes_lines (words ∷ lines) h e =
    let p = and_parts (list_all is_word words) (list_all (list_all is_word) lines) h in
    let q = and_parts (not (bytes_eq (spaced words) (codes "end"))) (list_all (λ words. not (bytes_eq (spaced words) (codes "end"))) lines) e in
    passes_both (line_text words) (text_of lines) (passes_line (spaced words) (words_one_line words p.0) (not-true (bytes_eq (spaced words) (codes "end")) q.0)) (passes_lines lines p.1 q.1)

-- *a loop that has passed a front*

pub record IsPassed (text rest : List ℕ) : Type 0 where
  pub front : List ℕ
  pub text_is : text ≡ front ++ rest
  pub passes : Passes front

pub passed_none : (text : List ℕ) → IsPassed text text
passed_none text = record { front = []; text_is = refl; passes = passes_none }

pub passed_both : (a b c : List ℕ) → IsPassed a b → IsPassed b c → IsPassed a c
passed_both a b c i j = record {
  front = i.front ++ j.front;
  text_is = i.text_is ∙ ap (λ xs. i.front ++ xs) j.text_is ∙ sym (append_assoc i.front j.front c);
  passes = passes_both i.front j.front i.passes j.passes;
}

pub passed_line : (text rest line after : List ℕ) → IsPassed text rest → rest ≡ line ++ 10 ∷ after → is_one_line line ≡ true → bytes_eq line (codes "end") ≡ false → IsPassed text after
passed_line text rest line after i e h n = record {
  front = i.front ++ (line ++ 10 ∷ []);
  text_is = i.text_is ∙ ap (λ xs. i.front ++ xs) (e ∙ sym (append_assoc line (10 ∷ []) after)) ∙ sym (append_assoc i.front (line ++ 10 ∷ []) after);
  passes = passes_both i.front (line ++ 10 ∷ []) i.passes (passes_line line h n);
}

pub passed_end : (text rest line after : List ℕ) → IsPassed text rest → rest ≡ line ++ 10 ∷ after → is_one_line line ≡ true → bytes_eq line (codes "end") ≡ true
    → (front : List ℕ) × (text ≡ front ++ after) × (up_to_end text ≡ Ok (front, after))
passed_end text rest line after i e h n = (
  i.front ++ (line ++ 10 ∷ []),
  i.text_is ∙ ap (λ xs. i.front ++ xs) (e ∙ sym (append_assoc line (10 ∷ []) after)) ∙ sym (append_assoc i.front (line ++ 10 ∷ []) after),
  ap up_to_end i.text_is ∙ i.passes rest ∙ ap (λ t. up_to_end t >>= before i.front) e ∙ ap (λ r. r >>= before i.front) (ended_from [] line after h n),
)

pub passed_no : (text rest : List ℕ) → IsPassed text rest → is_one_line rest ≡ true → up_to_end text ≡ Err Truncated
passed_no text rest i h = ap up_to_end i.text_is ∙ i.passes rest ∙ ap (λ r. r >>= before i.front) (none_from [] rest h)

-- *what was found*

back_from : (pre text : List ℕ) (s : List ℕ × List ℕ) → end_after pre text ≡ Ok s → text ≡ s.0 ++ s.1
unfolding end_after
back_from pre [] s h = absurd (no_fault Truncated s h)
back_from pre (b ∷ bs) s h = step (is_newline b) (bytes_eq pre (codes "end")) (λ t. back_from [] bs t) (λ t. back_from (pre ++ b ∷ []) bs t) h
  where
    later : (r : Result (List ℕ × List ℕ) JoinFault) → ((t : List ℕ × List ℕ) → r ≡ Ok t → bs ≡ t.0 ++ t.1) → (r >>= λ t. Ok (onto_line b t)) ≡ Ok s → b ∷ bs ≡ s.0 ++ s.1
    later r ih h =
        let t = bind_ok r (λ t. Ok (onto_line b t)) s h in
        let same : onto_line b t.0 ≡ s = ok_is (onto_line b t.0) s t.2 in
        subst (λ (u : List ℕ × List ℕ). b ∷ bs ≡ u.0 ++ u.1) same (ap (λ xs. b ∷ xs) (ih t.0 t.1))

    step : (v w : Bool) → ((t : List ℕ × List ℕ) → end_after [] bs ≡ Ok t → bs ≡ t.0 ++ t.1) → ((t : List ℕ × List ℕ) → end_after (pre ++ b ∷ []) bs ≡ Ok t → bs ≡ t.0 ++ t.1)
        → cond v (cond w (Ok (b ∷ [], bs)) (end_after [] bs >>= λ t. Ok (onto_line b t))) (end_after (pre ++ b ∷ []) bs >>= λ t. Ok (onto_line b t)) ≡ Ok s → b ∷ bs ≡ s.0 ++ s.1
    step true true f g h = subst (λ (u : List ℕ × List ℕ). b ∷ bs ≡ u.0 ++ u.1) (ok_is (b ∷ [], bs) s h) refl
    step true false f g h = later (end_after [] bs) f h
    step false w f g h = later (end_after (pre ++ b ∷ []) bs) g h

pub end_back : (text : List ℕ) (s : List ℕ × List ℕ) → up_to_end text ≡ Ok s → text ≡ s.0 ++ s.1
end_back text s h = back_from [] text s h

-- the same in front of more
more_from : (pre text more : List ℕ) (s : List ℕ × List ℕ) → end_after pre text ≡ Ok s → end_after pre (text ++ more) ≡ Ok (s.0, s.1 ++ more)
unfolding end_after
more_from pre [] more s h = absurd (no_fault Truncated s h)
more_from pre (b ∷ bs) more s h = step (is_newline b) (bytes_eq pre (codes "end")) (λ t. more_from [] bs more t) (λ t. more_from (pre ++ b ∷ []) bs more t) h
  where
    later : (r q : Result (List ℕ × List ℕ) JoinFault) → ((t : List ℕ × List ℕ) → r ≡ Ok t → q ≡ Ok (t.0, t.1 ++ more)) → (r >>= λ t. Ok (onto_line b t)) ≡ Ok s → (q >>= λ t. Ok (onto_line b t)) ≡ Ok (s.0, s.1 ++ more)
    later r q ih h =
        let t = bind_ok r (λ t. Ok (onto_line b t)) s h in
        let same : onto_line b t.0 ≡ s = ok_is (onto_line b t.0) s t.2 in
        subst (λ (u : List ℕ × List ℕ). (q >>= λ t. Ok (onto_line b t)) ≡ Ok (u.0, u.1 ++ more)) same (rw (ih t.0 t.1) refl)

    step : (v w : Bool) → ((t : List ℕ × List ℕ) → end_after [] bs ≡ Ok t → end_after [] (bs ++ more) ≡ Ok (t.0, t.1 ++ more)) → ((t : List ℕ × List ℕ) → end_after (pre ++ b ∷ []) bs ≡ Ok t → end_after (pre ++ b ∷ []) (bs ++ more) ≡ Ok (t.0, t.1 ++ more))
        → cond v (cond w (Ok (b ∷ [], bs)) (end_after [] bs >>= λ t. Ok (onto_line b t))) (end_after (pre ++ b ∷ []) bs >>= λ t. Ok (onto_line b t)) ≡ Ok s
        → cond v (cond w (Ok (b ∷ [], bs ++ more)) (end_after [] (bs ++ more) >>= λ t. Ok (onto_line b t))) (end_after (pre ++ b ∷ []) (bs ++ more) >>= λ t. Ok (onto_line b t)) ≡ Ok (s.0, s.1 ++ more)
    step true true f g h = subst (λ (u : List ℕ × List ℕ). ◌≡◌ {A = Result (List ℕ × List ℕ) JoinFault} (Ok (b ∷ [], bs ++ more)) (Ok (u.0, u.1 ++ more))) (ok_is (b ∷ [], bs) s h) refl
    step true false f g h = later (end_after [] bs) (end_after [] (bs ++ more)) f h
    step false w f g h = later (end_after (pre ++ b ∷ []) bs) (end_after (pre ++ b ∷ []) (bs ++ more)) g h

pub end_more : (text more : List ℕ) (s : List ℕ × List ℕ) → up_to_end text ≡ Ok s → up_to_end (text ++ more) ≡ Ok (s.0, s.1 ++ more)
end_more text more s h = more_from [] text more s h

pub ended_split : (text rest line after front back : List ℕ) → IsPassed text rest → rest ≡ line ++ 10 ∷ after → is_one_line line ≡ true → bytes_eq line (codes "end") ≡ true
    → front ≡ take (length text - length after) text → back ≡ drop (length text - length after) text → up_to_end text ≡ Ok (front, back)
ended_split text rest line after front back i e h n f b =
    let found = passed_end text rest line after i e h n in
    let size : length text - length after ≡ length found.0 = (let l = ap length found.1 ∙ length-append found.0 after in omega (arith, l)) in
    let first : take (length text - length after) text ≡ found.0 = ap₂ (λ (k : ℕ) (t : List ℕ). take k t) size found.1 ∙ take-append_seam found.0 after in
    let last : drop (length text - length after) text ≡ after = ap₂ (λ (k : ℕ) (t : List ℕ). drop k t) size found.1 ∙ drop-append_seam found.0 after in
    rw (f, b, first, last) found.2
