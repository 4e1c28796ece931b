-- What the reader's steps find.
use Rattle.std.proofs.Common.{◌≡◌, ℕ, suc, ◌+◌, ◌-◌, ◌<◌, ◌≤◌, Bool, true, false, not, List, [], ◌∷◌, ◌++◌, length, None, Result, Ok, Err, refl, sym, ◌∙◌, ap, subst, arith, IsUtf8, cond, length-append}
use Rattle.std.specs.List.{list_all}
use Rattle.std.proofs.lemmas.Bool.{and_parts, and_from, not-true, not_from_false, false_from_ne_true, eqb-true}
use Rattle.text_lines.specs.Lines.{is_newline, is_one_line}
use Rattle.text_lines.specs.Each.{◌>>=◌}
use Rattle.cover_problem.specs.Problem.{is_name, item_named}
use Rattle.cover_problem.proofs.NameLemmas.{name_is_text, no_name}
use Rattle.x_snapshot.specs.declared.fault.SnapshotFault.TheVariants.{Truncated}
use Rattle.text_lines.proofs.ResultLemmas.{ok_is, bind_ok}
use Rattle.x_snapshot.specs.Reader.{first_line, onto_line, repeated}

-- *lines*

pub line_found : (line rest : List ℕ) → is_one_line line ≡ true → first_line (line ++ 10 ∷ rest) ≡ Ok (line, rest)
unfolding first_line
line_found [] rest h = refl
line_found (b ∷ bs) rest h =
    let p = and_parts (not (is_newline b)) (is_one_line bs) h in
    let e : is_newline b ≡ false = not-true (is_newline b) p.0 in
    rw (e, line_found bs rest p.1) refl

pub no_line : (text : List ℕ) → is_one_line text ≡ true → first_line text ≡ Err Truncated
unfolding first_line
no_line [] h = refl
no_line (b ∷ bs) h =
    let p = and_parts (not (is_newline b)) (is_one_line bs) h in
    let e : is_newline b ≡ false = not-true (is_newline b) p.0 in
    rw (e, no_line bs p.1) refl

-- what the first line and what stands after it make
pub line_back : (text : List ℕ) (s : List ℕ × List ℕ) → first_line text ≡ Ok s → text ≡ s.0 ++ 10 ∷ s.1
unfolding first_line
line_back [] s h = cc
line_back (b ∷ bs) s h = line_back_step b bs s (is_newline b) refl (line_back bs) h
  where
    line_back_step : (b : ℕ) (bs : List ℕ) (s : List ℕ × List ℕ) (v : Bool) → is_newline b ≡ v → ((t : List ℕ × List ℕ) → first_line bs ≡ Ok t → bs ≡ t.0 ++ 10 ∷ t.1) → cond v (Ok ([], bs)) (first_line bs >>= λ t. Ok (onto_line b t)) ≡ Ok s → b ∷ bs ≡ s.0 ++ 10 ∷ s.1
    line_back_step b bs s true e later h =
        let same : ([], bs) ≡ s = ok_is ([], bs) s h in
        rw (← same) (ap (λ n. n ∷ bs) (eqb-true b 10 e))
    line_back_step b bs s false e later h =
        let t = bind_ok (first_line bs) (λ t. Ok (onto_line b t)) s h in
        let same : onto_line b t.0 ≡ s = ok_is (onto_line b t.0) s t.2 in
        rw (← same) (ap (λ cs. b ∷ cs) (later t.0 t.1))

pub line_is_one : (text : List ℕ) (s : List ℕ × List ℕ) → first_line text ≡ Ok s → is_one_line s.0 ≡ true
unfolding first_line
line_is_one [] s h = cc
line_is_one (b ∷ bs) s h = step (is_newline b) refl (line_is_one bs) h
  where
    step : (v : Bool) → is_newline b ≡ v → ((t : List ℕ × List ℕ) → first_line bs ≡ Ok t → is_one_line t.0 ≡ true) → cond v (Ok ([], bs)) (first_line bs >>= λ t. Ok (onto_line b t)) ≡ Ok s → is_one_line s.0 ≡ true
    step true e later h =
        let same : ([], bs) ≡ s = ok_is ([], bs) s h in
        subst (λ (v : List ℕ × List ℕ). is_one_line v.0 ≡ true) same refl
    step false e later h =
        let t = bind_ok (first_line bs) (λ t. Ok (onto_line b t)) s h in
        let one : is_one_line (b ∷ t.0.0) ≡ true = and_from (not (is_newline b)) (is_one_line t.0.0) (not_from_false (is_newline b) e) (later t.0 t.1) in
        subst (λ (v : List ℕ × List ℕ). is_one_line v.0 ≡ true) (ok_is (onto_line b t.0) s t.2) one

pub shorter : (text : List ℕ) (s : List ℕ × List ℕ) → first_line text ≡ Ok s → length s.1 < length text
shorter text s h = let e = ap length (line_back text s h) in omega (arith, simp length-append at e)

-- *a loop that has come to the i-th of n steps, in the state s, where the whole gives `all`*

module _ {S F : Type 0} (step : S → Result S F) (n i : ℕ) (s : S) (all : Result S F) (so_far : repeated step (n - i) s ≡ all) where
  pub step_goes : (t : S) → i < n → step s ≡ Ok t → repeated step (n - (i + 1)) t ≡ all
  unfolding repeated
  step_goes t more goes =
      let e : n - i ≡ suc (n - (i + 1)) = omega arith in
      sym (rw (e, goes) refl) ∙ so_far

  pub step_stops : (f : F) → i < n → step s ≡ Err f → all ≡ Err f
  unfolding repeated
  step_stops f more stops =
      let e : n - i ≡ suc (n - (i + 1)) = omega arith in
      sym so_far ∙ rw (e, stops) refl

  pub steps_end : n ≤ i → all ≡ Ok s
  unfolding repeated
  steps_end none = let e : n - i ≡ 0 = omega arith in sym so_far ∙ rw e refl

-- *items*

-- bytes that are no text name no item
pub no_text : (word : List ℕ) (names : List (List ℕ)) → (IsUtf8 word → ⊥) → list_all is_name names ≡ true → item_named names word ≡ None
no_text word names l h =
    let unnamed : is_name word ≡ false = false_from_ne_true (is_name word) (λ n. l (name_is_text word n)) in
    rw (no_name word names unnamed h) refl
