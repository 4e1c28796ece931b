-- Whether words are choices, whatever the choices before them are.
use Rattle.std.proofs.Common.{◌≡◌, ℕ, Bool, true, false, List, [], ◌∷◌, ◌++◌, Option, Some, None, refl, sym, ◌∙◌}
use Rattle.std.specs.Prelude.{is_ok, Ok}
use Rattle.text_lines.specs.Each.{each, ◌>>=◌}
use Rattle.cover_problem.specs.Limits.{most_options}
use Rattle.x_snapshot.specs.declared.fault.SnapshotFault.TheVariants.{BadState}
use Rattle.x_snapshot.specs.Reader.{add_choice, found_or, option_number}

any_path_step : (o : Option ℕ) (words : List (List ℕ)) → ((p q : List ℕ) → is_ok (each add_choice p words) ≡ is_ok (each add_choice q words))
    → (p q : List ℕ) → is_ok ((found_or BadState o >>= λ n. Ok (p ++ n ∷ [])) >>= λ t. each add_choice t words)
    ≡ is_ok ((found_or BadState o >>= λ n. Ok (q ++ n ∷ [])) >>= λ t. each add_choice t words)
any_path_step None words h p q = refl
any_path_step (Some n) words h p q = h (p ++ n ∷ []) (q ++ n ∷ [])

any_path : (words : List (List ℕ)) (p q : List ℕ) → is_ok (each add_choice p words) ≡ is_ok (each add_choice q words)
unfolding each add_choice
any_path [] p q = refl
any_path (word ∷ words) p q = any_path_step (option_number most_options word) words (any_path words) p q

-- a loop with words to go, where `all` tells whether all words are choices
module _ (words : List (List ℕ)) (all : Bool) (so_far : is_ok (each add_choice [] words) ≡ all) where
  -- one choice more
  pub choice_goes : (word : List ℕ) (more : List (List ℕ)) (n : ℕ) → words ≡ word ∷ more → option_number most_options word ≡ Some n → is_ok (each add_choice [] more) ≡ all
  unfolding each add_choice
  choice_goes word more n e is = any_path more [] (n ∷ []) ∙ sym (rw (e, is) refl) ∙ so_far

  -- a word that is none
  pub choice_stops : (word : List ℕ) (more : List (List ℕ)) → words ≡ word ∷ more → option_number most_options word ≡ None → all ≡ false
  unfolding each add_choice
  choice_stops word more e none = sym so_far ∙ rw (e, none) refl

  -- no more words
  pub choices_end : words ≡ [] → all ≡ true
  unfolding each
  choices_end e = sym so_far ∙ rw e refl
