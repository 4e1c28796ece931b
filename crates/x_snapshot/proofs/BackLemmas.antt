-- A text that is read is the one that is written of what it says.
use Rattle.std.proofs.Common.{◌≡◌, ◌⊎◌, inl, inr, ℕ, suc, zero, ◌^◌, ◌<◌, ◌≤◌, nat_lt, Bool, true, false, cond, ◌&&◌, List, [], ◌∷◌, ◌++◌, map, decimal, codes, Option, Some, None, option_map, Result, Ok, Err, refl, sym, ◌∙◌, ap, subst, arith, append_assoc, append-nil}
use Rattle.std.specs.Prelude.{option_and_then, bytes_eq}
use Rattle.std.specs.Cmp.Lexicographic.{bytes_decides}
use Rattle.std.proofs.lemmas.Bool.{and_parts}
use Rattle.text_lines.specs.Lines.{words_of, is_empty}
use Rattle.text_lines.specs.Numbers.{number_within}
use Rattle.text_lines.specs.Writing.{spaced, line_text}
use Rattle.text_lines.specs.Each.{each, ◌>>=◌}
use Rattle.text_lines.proofs.EachLemmas.{each_none, each_parts}
use Rattle.text_lines.proofs.NumberLemmas.{printed_again}
use Rattle.text_lines.proofs.ResultLemmas.{ok_is, no_fault, bind_ok, granted, chosen}
use Rattle.cover_problem.specs.Limits.{most_options}
use Rattle.x_steps.specs.declared.state.Label.{Label}
use Rattle.x_steps.specs.declared.state.Label.TheVariants.{X1, X2, X3, X4, X5, X6, X7, X8, Done}
use Rattle.x_steps.specs.declared.state.Cursor.{Cursor}
use Rattle.x_steps.specs.declared.state.Cursor.TheVariants as cursors
use Rattle.x_steps.specs.StateValue.{StateValue, at}
use Rattle.x_snapshot.specs.declared.fault.SnapshotFault.{SnapshotFault}
use Rattle.x_snapshot.specs.declared.fault.SnapshotFault.TheVariants.{BadHeader, BadVersion, BadState}
use Rattle.x_texts.specs.Words.{cut_words, label_word, cursor_word, state_words}
use Rattle.x_snapshot.specs.Reader.{first_line, line_words, after_key, keyed, keyed_line, found_or, only, count_from, positive, option_number, are_digits, version_from, header, add_choice, some_path, cut_from, label_from, cursor_from, step_from, state_from, end_from}
use Rattle.x_snapshot.proofs.ReadLemmas.{line_back}

-- *what was found*

pub some_is : {X : Type 0} (x y : X) → ◌≡◌ {A = Option X} (Some x) (Some y) → x ≡ y
some_is x y h = cc

pub none_some : {X : Type 0} (y : X) → ◌≡◌ {A = Option X} None (Some y) → ⊥
none_some y h = cc

pub found_is : {X : Type 0} (f : SnapshotFault) (o : Option X) (x : X) → found_or f o ≡ Ok x → o ≡ Some x
found_is f None x h = absurd (no_fault f x h)
found_is f (Some y) x h = ap (λ z. Some z) (ok_is y x h)

pub and_then_is : {X Y : Type 0} (f : X → Option Y) (o : Option X) (y : Y) → option_and_then f o ≡ Some y → (x : X) × (o ≡ Some x) × (f x ≡ Some y)
and_then_is f None y h = absurd (none_some y h)
and_then_is f (Some x) y h = (x, refl, h)

pub map_is : {X Y : Type 0} (f : X → Y) (o : Option X) (y : Y) → option_map f o ≡ Some y → (x : X) × (o ≡ Some x) × (f x ≡ y)
map_is f None y h = absurd (none_some y h)
map_is f (Some x) y h = (x, refl, some_is (f x) y h)

pub only_is : (words : List (List ℕ)) (w : List ℕ) → only words ≡ Some w → words ≡ w ∷ []
only_is [] w h = absurd (none_some w h)
only_is (x ∷ []) w h = ap (λ y. y ∷ []) (some_is x w h)
only_is (x ∷ y ∷ ws) w h = absurd (none_some w h)

pub cons_same : {X : Type 0} (a b : X) (xs ys : List X) → a ≡ b → xs ≡ ys → a ∷ xs ≡ b ∷ ys
cons_same a b xs ys e f = rw (e, f) refl

-- *lines*

words_back : (f : SnapshotFault) (line : List ℕ) (ws : List (List ℕ)) → line_words f line ≡ Ok ws → line ≡ spaced ws
unfolding line_words
words_back f line ws h =
    let g = granted (bytes_eq line (spaced (words_of line))) f (Ok (words_of line)) ws h in
    (bytes_decides line (spaced (words_of line))).0 g.0 ∙ ap spaced (ok_is (words_of line) ws g.1)

key_back : (f : SnapshotFault) (key : List ℕ) (words others : List (List ℕ)) → after_key f key words ≡ Ok others → words ≡ key ∷ others
unfolding after_key
key_back f key [] others h = absurd (no_fault f others h)
key_back f key (w ∷ ws) others h =
    let g = granted (bytes_eq w key) f (Ok ws) others h in
    let a : w ≡ key = (bytes_decides w key).0 g.0 in
    let b : ws ≡ others = ok_is ws others g.1 in
    rw (a, b) refl

keyed_back : (f : SnapshotFault) (key text : List ℕ) (r : List (List ℕ) × List ℕ) → keyed f key text ≡ Ok r → text ≡ line_text (key ∷ r.0) ++ r.1
unfolding keyed
keyed_back f key text r h =
    let a = bind_ok (first_line text) (λ line. line_words f line.0 >>= λ words. after_key f key words >>= λ others. Ok (others, line.1)) r h in
    let b = bind_ok (line_words f a.0.0) (λ words. after_key f key words >>= λ others. Ok (others, a.0.1)) r a.2 in
    let c = bind_ok (after_key f key b.0) (λ others. Ok (others, a.0.1)) r b.2 in
    let text_is : text ≡ a.0.0 ++ 10 ∷ a.0.1 = line_back text a.0 a.1 in
    let line_is : a.0.0 ≡ spaced (key ∷ c.0) = words_back f a.0.0 b.0 b.1 ∙ ap spaced (key_back f key b.0 c.0 c.1) in
    let all : text ≡ line_text (key ∷ c.0) ++ a.0.1 = text_is ∙ ap (λ l. l ++ 10 ∷ a.0.1) line_is ∙ sym (append_assoc (spaced (key ∷ c.0)) (10 ∷ []) a.0.1) in
    subst (λ (v : List (List ℕ) × List ℕ). text ≡ line_text (key ∷ v.0) ++ v.1) (ok_is (c.0, a.0.1) r c.2) all

-- the words that a line says after its key, and what stands after the line
pub keyed_line_back : {X : Type 0} (f : SnapshotFault) (key : List ℕ) (form : List (List ℕ) → Result X SnapshotFault) (text : List ℕ) (r : X × List ℕ) → keyed_line f key form text ≡ Ok r → (words : List (List ℕ)) × (form words ≡ Ok r.0) × (text ≡ line_text (key ∷ words) ++ r.1)
unfolding keyed_line
keyed_line_back {X} f key form text r h =
    let a = bind_ok (keyed f key text) (λ line. form line.0 >>= λ said. Ok (said, line.1)) r h in
    let b = bind_ok (form a.0.0) (λ said. Ok (said, a.0.1)) r a.2 in
    let same : (b.0, a.0.1) ≡ r = ok_is (b.0, a.0.1) r b.2 in
    let said : form a.0.0 ≡ Ok r.0 = b.1 ∙ ap (λ (v : X × List ℕ). Ok v.0) same in
    let text_is : text ≡ line_text (key ∷ a.0.0) ++ r.1 = keyed_back f key text a.0 a.1 ∙ ap (λ (v : X × List ℕ). line_text (key ∷ a.0.0) ++ v.1) same in
    (a.0.0, said, text_is)

-- *numbers*

pub count_back : (f : SnapshotFault) (bound n : ℕ) (words : List (List ℕ)) → bound < 2 ^ 64 → count_from f bound words ≡ Ok n → (words ≡ decimal n ∷ []) × (n ≤ bound)
unfolding count_from
count_back f bound n words small h =
    let a = and_then_is (number_within bound) (only words) n (found_is f (option_and_then (number_within bound) (only words)) n h) in
    let b = printed_again bound n a.0 small a.2 in
    (only_is words a.0 a.1 ∙ ap (λ w. w ∷ []) b.0, b.1)

pub positive_is : (n m : ℕ) → positive n ≡ Some m → (n ≡ m) × (0 < m)
positive_is zero m h = absurd (none_some m h)
positive_is (suc n) m h = step (nat_lt 0 (suc n)) refl h
  where
    step : (v : Bool) → nat_lt 0 (suc n) ≡ v → cond v (Some (suc n)) None ≡ Some m → (suc n ≡ m) × (0 < m)
    step true e h = let same : suc n ≡ m = some_is (suc n) m h in (same, omega arith)
    step false e h = absurd (none_some m h)

pub option_back : (bound : ℕ) (word : List ℕ) (o : ℕ) → bound < 2 ^ 64 → option_number bound word ≡ Some o → (word ≡ decimal o) × (0 < o) × (o ≤ bound)
option_back bound word o small h =
    let a = and_then_is positive (number_within bound word) o h in
    let b = positive_is a.0 o a.2 in
    let c = printed_again bound a.0 word small a.1 in
    (c.0 ∙ ap decimal b.0, b.1, omega (arith, b.0, c.1))

-- *the version*

pub version_back : (word : List ℕ) (n : ℕ) → version_from word ≡ Ok n → ((n ≡ 1) × (word ≡ codes "1")) ⊎ ((n ≡ 2) × (word ≡ codes "2"))
version_back word n h = first (chosen (bytes_eq word (codes "1")) (Ok 1) (cond (bytes_eq word (codes "2")) (Ok 2) (Err BadVersion)) (Ok n) h)
  where
    second : ((bytes_eq word (codes "2") ≡ true) × (◌≡◌ {A = Result ℕ SnapshotFault} (Ok 2) (Ok n))) ⊎ ((bytes_eq word (codes "2") ≡ false) × (◌≡◌ {A = Result ℕ SnapshotFault} (Err BadVersion) (Ok n))) → ((n ≡ 1) × (word ≡ codes "1")) ⊎ ((n ≡ 2) × (word ≡ codes "2"))
    second (inl p) = inr (sym (ok_is 2 n p.1), (bytes_decides word (codes "2")).0 p.0)
    second (inr p) = absurd (no_fault BadVersion n p.1)

    first : ((bytes_eq word (codes "1") ≡ true) × (◌≡◌ {A = Result ℕ SnapshotFault} (Ok 1) (Ok n))) ⊎ ((bytes_eq word (codes "1") ≡ false) × (cond (bytes_eq word (codes "2")) (Ok 2) (Err BadVersion) ≡ Ok n)) → ((n ≡ 1) × (word ≡ codes "1")) ⊎ ((n ≡ 2) × (word ≡ codes "2"))
    first (inl p) = inl (sym (ok_is 1 n p.1), (bytes_decides word (codes "1")).0 p.0)
    first (inr p) = second (chosen (bytes_eq word (codes "2")) (Ok 2) (Err BadVersion) (Ok n) p.1)

pub header_back : (words : List (List ℕ)) (n : ℕ) → header words ≡ Ok n → ((n ≡ 1) × (words ≡ codes "1" ∷ [])) ⊎ ((n ≡ 2) × (words ≡ codes "2" ∷ []))
unfolding header
header_back [] n h = absurd (no_fault BadHeader n h)
header_back (w ∷ []) n h = by (version_back w n (granted (are_digits w) BadHeader (version_from w) n h).1)
  where
    by : ((n ≡ 1) × (w ≡ codes "1")) ⊎ ((n ≡ 2) × (w ≡ codes "2")) → ((n ≡ 1) × (w ∷ [] ≡ codes "1" ∷ [])) ⊎ ((n ≡ 2) × (w ∷ [] ≡ codes "2" ∷ []))
    by (inl p) = inl (p.0, ap (λ x. x ∷ []) p.1)
    by (inr p) = inr (p.0, ap (λ x. x ∷ []) p.1)
header_back (w ∷ v ∷ ws) n h = absurd (no_fault BadHeader n h)

-- *choices*

small_options : most_options < 2 ^ 64
small_options = omega arith

choice_back : (path : List ℕ) (w : List ℕ) (t : List ℕ) → add_choice path w ≡ Ok t → (o : ℕ) × (t ≡ path ++ o ∷ []) × (w ≡ decimal o)
unfolding add_choice
choice_back path w t h =
    let a = bind_ok (found_or BadState (option_number most_options w)) (λ o. Ok (path ++ o ∷ [])) t h in
    let b = option_back most_options w a.0 small_options (found_is BadState (option_number most_options w) a.0 a.1) in
    (a.0, sym (ok_is (path ++ a.0 ∷ []) t a.2), b.0)

pub choices_back : (acc : List ℕ) (words : List (List ℕ)) (path : List ℕ) → each add_choice acc words ≡ Ok path → (more : List ℕ) × (path ≡ acc ++ more) × (words ≡ map decimal more)
choices_back acc [] path h = ([], sym (each_none add_choice acc path h) ∙ sym (append-nil acc), refl)
choices_back acc (w ∷ ws) path h = step (λ t. choices_back t ws path) (each_parts add_choice acc w ws path h)
  where
    step : ((t : List ℕ) → each add_choice t ws ≡ Ok path → (more : List ℕ) × (path ≡ t ++ more) × (ws ≡ map decimal more)) → (t : List ℕ) × (add_choice acc w ≡ Ok t) × (each add_choice t ws ≡ Ok path) → (more : List ℕ) × (path ≡ acc ++ more) × (w ∷ ws ≡ map decimal more)
    step later (t, p, q) =
        let a = choice_back acc w t p in
        let r = later t q in
        let path_is : path ≡ acc ++ a.0 ∷ r.0 = r.1 ∙ ap (λ s. s ++ r.0) a.1 ∙ append_assoc acc (a.0 ∷ []) r.0 in
        let words_are : w ∷ ws ≡ decimal a.0 ∷ map decimal r.0 = cons_same w (decimal a.0) ws (map decimal r.0) a.2 r.2 in
        (a.0 ∷ r.0, path_is, words_are)

pub path_back : (words : List (List ℕ)) (path : List ℕ) → each add_choice [] words ≡ Ok path → words ≡ map decimal path
path_back words path h = let c = choices_back [] words path h in c.2 ∙ ap (map decimal) (sym c.1)

-- *the branch*

no_words : (words : List (List ℕ)) → is_empty words ≡ true → words ≡ []
no_words [] h = refl
no_words (w ∷ ws) h = cc

pub cut_back : (none : List ℕ) (words : List (List ℕ)) (cut : Option (List ℕ)) → cut_from none words ≡ Ok cut → words ≡ cut_words none cut
unfolding cut_from
cut_back none [] cut h = absurd (no_fault BadState cut h)
cut_back none (w ∷ ws) cut h = by (chosen (bytes_eq w none && is_empty ws) (Ok None) (each add_choice [] (w ∷ ws) >>= some_path) (Ok cut) h)
  where
    by : (((bytes_eq w none && is_empty ws) ≡ true) × (◌≡◌ {A = Result (Option (List ℕ)) SnapshotFault} (Ok None) (Ok cut))) ⊎ (((bytes_eq w none && is_empty ws) ≡ false) × ((each add_choice [] (w ∷ ws) >>= some_path) ≡ Ok cut)) → w ∷ ws ≡ cut_words none cut
    by (inl p) =
        let q = and_parts (bytes_eq w none) (is_empty ws) p.0 in
        let a : w ≡ none = (bytes_decides w none).0 q.0 in
        let b : ws ≡ [] = no_words ws q.1 in
        let same : w ∷ ws ≡ none ∷ [] = rw (a, b) refl in
        same ∙ ap (cut_words none) (ok_is None cut p.1)
    by (inr p) =
        let a = bind_ok (each add_choice [] (w ∷ ws)) some_path cut p.1 in
        path_back (w ∷ ws) a.0 a.1 ∙ ap (cut_words none) (ok_is (Some a.0) cut a.2)

-- *the state*

label_step : (l : Label) (w : List ℕ) (rest : Option Label) (m : Label) → (rest ≡ Some m → w ≡ label_word m) → cond (bytes_eq w (label_word l)) (Some l) rest ≡ Some m → w ≡ label_word m
label_step l w rest m later h = by (chosen (bytes_eq w (label_word l)) (Some l) rest (Some m) h)
  where
    by : ((bytes_eq w (label_word l) ≡ true) × (◌≡◌ {A = Option Label} (Some l) (Some m))) ⊎ ((bytes_eq w (label_word l) ≡ false) × (rest ≡ Some m)) → w ≡ label_word m
    by (inl p) = (bytes_decides w (label_word l)).0 p.0 ∙ ap label_word (some_is l m p.1)
    by (inr p) = later p.1

pub label_back : (w : List ℕ) (m : Label) → label_from w ≡ Some m → w ≡ label_word m
label_back w m h =
    label_step X1 w _ m (label_step X2 w _ m (label_step X3 w _ m (label_step X4 w _ m (label_step X5 w _ m (label_step X6 w _ m (label_step X7 w _ m (label_step X8 w _ m (label_step Done w None m (λ e. absurd (none_some m e)))))))))) h

pub cursor_back : (w : List ℕ) (k : Cursor) → cursor_from w ≡ Some k → w ≡ cursor_word k
cursor_back w k h = first (chosen (bytes_eq w (codes "-")) (Some cursors.None) (cond (bytes_eq w (codes "past")) (Some cursors.Past) (option_map cursors.At (option_number most_options w))) (Some k) h)
  where
    second : ((bytes_eq w (codes "past") ≡ true) × (◌≡◌ {A = Option Cursor} (Some cursors.Past) (Some k))) ⊎ ((bytes_eq w (codes "past") ≡ false) × (option_map cursors.At (option_number most_options w) ≡ Some k)) → w ≡ cursor_word k
    second (inl p) = (bytes_decides w (codes "past")).0 p.0 ∙ ap cursor_word (some_is cursors.Past k p.1)
    second (inr p) =
        let a = map_is cursors.At (option_number most_options w) k p.1 in
        (option_back most_options w a.0 small_options a.1).0 ∙ ap cursor_word a.2

    first : ((bytes_eq w (codes "-") ≡ true) × (◌≡◌ {A = Option Cursor} (Some cursors.None) (Some k))) ⊎ ((bytes_eq w (codes "-") ≡ false) × (cond (bytes_eq w (codes "past")) (Some cursors.Past) (option_map cursors.At (option_number most_options w)) ≡ Some k)) → w ≡ cursor_word k
    first (inl p) = (bytes_decides w (codes "-")).0 p.0 ∙ ap cursor_word (some_is cursors.None k p.1)
    first (inr p) = second (chosen (bytes_eq w (codes "past")) (Some cursors.Past) (option_map cursors.At (option_number most_options w)) (Some k) p.1)

pub state_back : (words : List (List ℕ)) (s : StateValue) → state_from words ≡ Ok s → words ≡ state_words s
unfolding state_from
state_back [] s h = absurd (no_fault BadState s h)
state_back (l ∷ []) s h = absurd (no_fault BadState s h)
state_back (l ∷ k ∷ ws) s h =
    let a = bind_ok (found_or BadState (step_from l k)) (λ step. each add_choice [] ws >>= λ path. Ok (at step.0 path step.1)) s h in
    let b = bind_ok (each add_choice [] ws) (λ path. Ok (at a.0.0 path a.0.1)) s a.2 in
    let c = and_then_is (λ l. option_map (λ k. (l, k)) (cursor_from k)) (label_from l) a.0 (found_is BadState (step_from l k) a.0 a.1) in
    let d = map_is (λ k. (c.0, k)) (cursor_from k) a.0 c.2 in
    let label : l ≡ label_word a.0.0 = label_back l c.0 c.1 ∙ ap (λ (v : Label × Cursor). label_word v.0) d.2 in
    let cursor : k ≡ cursor_word a.0.1 = cursor_back k d.0 d.1 ∙ ap (λ (v : Label × Cursor). cursor_word v.1) d.2 in
    let path : ws ≡ map decimal b.0 = path_back ws b.0 b.1 in
    let all : l ∷ k ∷ ws ≡ state_words (at a.0.0 b.0 a.0.1) = cons_same l (label_word a.0.0) (k ∷ ws) (cursor_word a.0.1 ∷ map decimal b.0) label (cons_same k (cursor_word a.0.1) ws (map decimal b.0) cursor path) in
    all ∙ ap state_words (ok_is (at a.0.0 b.0 a.0.1) s b.2)

pub end_back : (words : List (List ℕ)) (u : Unit {0}) → end_from words ≡ Ok u → words ≡ []
unfolding end_from
end_back words u h = no_words words (granted (is_empty words) BadState (Ok tt) u h).0
