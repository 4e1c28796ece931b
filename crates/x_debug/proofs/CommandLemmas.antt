-- A command that is read of a line counts from 1, and its breakpoint can be met.
use Rattle.std.proofs.Common.{◌≡◌, ◌⊎◌, inl, inr, ℕ, ◌+◌, ◌<◌, ◌≤◌, nat_lt, nat_le, Bool, true, false, cond, ◌&&◌, List, [], ◌∷◌, length, get_or, codes, position, Option, Some, None, option_map, option_and_then, refl, subst, arith, lt-ltb, le-leb}
use Rattle.std.specs.Prelude.{bytes_eq}
use Rattle.std.specs.Result.{result_ok}
use Rattle.std.proofs.lemmas.Bool.{and_parts, and_from}
use Rattle.std.proofs.lemmas.List.Quantifiers.{position-Some}
use Rattle.text_lines.specs.Lines.{words_of, without_return}
use Rattle.text_lines.specs.Numbers.{number_within, is_decimal, value_after}
use Rattle.text_lines.proofs.ResultLemmas.{chosen}
use Rattle.cover_problem.specs.Problem.{ProblemValue, is_item, item_named}
use Rattle.x_texts.specs.declared.breakpoint.Break.{Break}
use Rattle.x_texts.specs.declared.breakpoint.Break.TheVariants as breakpoints
use Rattle.x_snapshot.specs.declared.reader.breaks.Kind.{Kind}
use Rattle.x_snapshot.specs.declared.reader.breaks.Kind.TheVariants as kinds
use Rattle.x_texts.specs.Breaks.{is_break}
use Rattle.x_snapshot.specs.Reader.{only, positive, option_number, kind_from, break_of, lone_break, break_from, state_from}
use Rattle.x_snapshot.proofs.BackLemmas.{some_is, none_some, and_then_is, map_is}
use Rattle.debug_language.specs.Command.{CommandValue}
use Rattle.debug_language.specs.Command as command
use Rattle.debug_language.specs.Reader.{count_from, save_word, save_from, put_back_from, joined_cut, plain_command, long_command, lone_command, command_from, command_of}
use Rattle.x_debug.specs.Commands.{is_command}

-- ---- a breakpoint that was read

at_most : (most n : ℕ) (word : List ℕ) → number_within most word ≡ Some n → nat_le n most ≡ true
at_most most n word h = by (chosen (is_decimal word && nat_le (value_after 0 word) most) (Some (value_after 0 word)) None (Some n) h)
  where
    by : (((is_decimal word && nat_le (value_after 0 word) most) ≡ true) × (◌≡◌ {A = Option ℕ} (Some (value_after 0 word)) (Some n))) ⊎ (((is_decimal word && nat_le (value_after 0 word) most) ≡ false) × (◌≡◌ {A = Option ℕ} None (Some n))) → nat_le n most ≡ true
    by (inl q) = subst (λ (m : ℕ). nat_le m most ≡ true) (some_is _ n q.1) (and_parts (is_decimal word) (nat_le (value_after 0 word) most) q.0).1
    by (inr q) = absurd (none_some n q.1)

from_one : (m n : ℕ) → positive m ≡ Some n → (m ≡ n) × (nat_lt 0 n ≡ true)
from_one m n h = by (chosen (nat_lt 0 m) (Some m) None (Some n) h)
  where
    by : ((nat_lt 0 m ≡ true) × (◌≡◌ {A = Option ℕ} (Some m) (Some n))) ⊎ ((nat_lt 0 m ≡ false) × (◌≡◌ {A = Option ℕ} None (Some n))) → (m ≡ n) × (nat_lt 0 n ≡ true)
    by (inl q) = let e = some_is m n q.1 in (e, subst (λ (k : ℕ). nat_lt 0 k ≡ true) e q.0)
    by (inr q) = absurd (none_some n q.1)

one_of : (bound o : ℕ) (word : List ℕ) → option_number bound word ≡ Some o → is_item bound o ≡ true
one_of bound o word h =
    let a = and_then_is positive (number_within bound word) o h in
    let b = from_one a.0 o a.2 in
    and_from (nat_lt 0 o) (nat_le o bound) b.1 (subst (λ (k : ℕ). nat_le k bound ≡ true) b.0 (at_most bound a.0 word a.1))

item_is : (names : List (List ℕ)) (w : List ℕ) (i : ℕ) → item_named names w ≡ Some i → is_item (length names) i ≡ true
item_is names w i h =
    let a = map_is (λ k. k + 1) (position (bytes_eq w) names) i h in
    let q : (a.0 < length names) × (bytes_eq w (get_or names a.0 []) ≡ true) × ((k : ℕ) → k < a.0 → bytes_eq w (get_or names k []) ≡ false) = position-Some (bytes_eq w) names a.0 [] a.1 in
    let e : a.0 + 1 ≡ i = a.2 in
    let below : a.0 < length names = q.0 in
    let some : 0 < i = omega arith in
    let within : i ≤ length names = omega arith in
    and_from (nat_lt 0 i) (nat_le i (length names)) (lt-ltb 0 i some) (le-leb i (length names) within)

module _ (p : ProblemValue) where
  of_is : (k : Option Kind) (w : List ℕ) (b : Break) → break_of p k w ≡ Some b → is_break p b ≡ true
  of_is None w b h = absurd (none_some b h)
  of_is (Some kinds.Level) w b h =
      let a = map_is breakpoints.Level (number_within (length p.names) w) b h in
      subst (λ (c : Break). is_break p c ≡ true) a.2 (at_most (length p.names) a.0 w a.1)
  of_is (Some kinds.Option) w b h =
      let a = map_is breakpoints.Option (option_number (length p.options) w) b h in
      subst (λ (c : Break). is_break p c ≡ true) a.2 (one_of (length p.options) a.0 w a.1)
  of_is (Some kinds.Item) w b h =
      let a = map_is breakpoints.Item (item_named p.names w) b h in
      subst (λ (c : Break). is_break p c ≡ true) a.2 (item_is p.names w a.0 a.1)

  lone_is : (kind : List ℕ) (b : Break) → lone_break kind ≡ Some b → is_break p b ≡ true
  lone_is kind b h = by (chosen (bytes_eq kind (codes "visit")) (Some breakpoints.Visit) None (Some b) h)
    where
      by : ((bytes_eq kind (codes "visit") ≡ true) × (◌≡◌ {A = Option Break} (Some breakpoints.Visit) (Some b))) ⊎ ((bytes_eq kind (codes "visit") ≡ false) × (◌≡◌ {A = Option Break} None (Some b))) → is_break p b ≡ true
      by (inl q) = subst (λ (c : Break). is_break p c ≡ true) (some_is breakpoints.Visit b q.1) refl
      by (inr q) = absurd (none_some b q.1)

  break_is : (words : List (List ℕ)) (b : Break) → break_from p words ≡ Some b → is_break p b ≡ true
  unfolding break_from
  break_is [] b h = absurd (none_some b h)
  break_is (kind ∷ []) b h = lone_is kind b h
  break_is (kind ∷ w ∷ []) b h = of_is (kind_from kind) w b h
  break_is (kind ∷ w ∷ v ∷ ws) b h = absurd (none_some b h)

  -- ---- a command that was read

  record Fine (o : Option CommandValue) : Type 0 where
    fine : (c : CommandValue) → o ≡ Some c → is_command p c ≡ true

  either : (v : Bool) {x y : Option CommandValue} → Fine x → Fine y → Fine (cond v x y)
  either true a b = a
  either false a b = b

  sure : (c : CommandValue) → is_command p c ≡ true → Fine (Some c)
  sure c h = record { fine = λ d e. subst (λ (x : CommandValue). is_command p x ≡ true) (some_is c d e) h }

  no_command : Fine None
  no_command = record { fine = λ d e. absurd (none_some d e) }

  mapped : {X : Type 0} (f : X → CommandValue) (o : Option X) → ((x : X) → o ≡ Some x → is_command p (f x) ≡ true) → Fine (option_map f o)
  mapped f o h = record { fine = λ c e. let a = map_is f o c e in subst (λ (x : CommandValue). is_command p x ≡ true) a.2 (h a.0 a.1) }

  counted : (words : List (List ℕ)) (n : ℕ) → count_from words ≡ Some n → nat_lt 0 n ≡ true
  counted words n h =
      let a = and_then_is (option_number 4294967295) (only words) n h in
      let b = and_then_is positive (number_within 4294967295 a.0) n a.2 in
      (from_one b.0 n b.2).1

  -- what was found is asked for more
  found : {X : Type 0} (f : X → Option CommandValue) (o : Option X) → ((x : X) → o ≡ Some x → Fine (f x)) → Fine (option_and_then f o)
  found f None h = no_command
  found f (Some x) h = h x refl

  -- ---- the chains of words: each end of one is found by the lemmas above, so a word more needs no line here

  lone_fine : (key : List ℕ) → Fine (lone_command key)
  lone_fine key = search (either, sure, mapped) depth 60 fits 4000

  save_fine : (words : List (List ℕ)) → Fine (save_from words)
  save_fine words = found save_word (only words) (λ word h. either _ (sure command.SaveBreaks refl) no_command)

  put_back_fine : (words : List (List ℕ)) → Fine (put_back_from words)
  unfolding put_back_from
  put_back_fine [] = no_command
  put_back_fine (word ∷ words) =
      found (λ lo. option_map (command.PutBack lo) (result_ok (state_from words))) (joined_cut word)
      (λ lo e. mapped (command.PutBack lo) (result_ok (state_from words)) (λ s h. refl))

  plain_fine : (key : List ℕ) (words : List (List ℕ)) → Fine (plain_command p key words)
  unfolding plain_command
  plain_fine key words = search (either, mapped, counted, break_is, save_fine, no_command) depth 60 fits 4000

  long_fine : (key : List ℕ) (words : List (List ℕ)) → Fine (long_command p key words)
  unfolding long_command
  long_fine key words = search (either, mapped, put_back_fine, plain_fine) depth 60 fits 4000

  words_fine : (words : List (List ℕ)) → Fine (command_from p words)
  unfolding command_from
  words_fine [] = sure command.Nothing refl
  words_fine (key ∷ words) = either _ (lone_fine key) (long_fine key words)

  pub command_is : (line : List ℕ) (c : CommandValue) → command_of p line ≡ Some c → is_command p c ≡ true
  command_is line c h = (words_fine (words_of (without_return line))).fine c h
