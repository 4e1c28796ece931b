-- States are read back from their numbers.
use Rattle.std.proofs.Common.{inl, inr, ◌⊎◌, ◌≡◌, ◌≢◌, ℕ, zero, suc, Option, Some, None, ◌+◌, ◌*◌, ◌/◌, ◌%◌, ◌-◌, ◌<◌, ◌≤◌, List, [], ◌∷◌, ◌++◌, length, take, drop, map, get_or, refl, sym, ap, ◌∙◌, arith, append_assoc, eq-eqb}
use Rattle.std.proofs.Math.Seq.{take-append_seam, drop-append_seam}
use Rattle.std.proofs.Math.ListN.{set}
use Rattle.packed_rows.specs.Neighbours.{raised, list_step, told_by, told_after, told_from}
use Rattle.packed_rows.proofs.NeighbourLemmas.{step_raises}
use Rattle.x_steps.specs.declared.state.Label.{Label}
use Rattle.x_steps.specs.declared.state.Label.TheVariants.{X1}
use Rattle.x_steps.specs.declared.state.Cursor.{Cursor}
use Rattle.x_steps.specs.declared.state.Cursor.TheVariants as cursor
use Rattle.x_steps.specs.StateValue.{StateValue}
use Rattle.x_codes.specs.StateCode.{choice_of, label_number, label_of, cursor_kind, cursor_choice, cursor_of}
use Rattle.x_codes.specs.StateCode.{path_code, path_of, path_rest, state_code, state_of, state_rest, ReadsPath, ReadsState}
use Rattle.x_codes.specs.StateCode.{shared_count, state_below, after_code, after_of, after_rest, ReadsAfter}
use Rattle.x_steps.specs.Order.{IsShared}
use Rattle.std.proofs.lemmas.Bool.{cases_lt, ne_eqb}
use Rattle.std.proofs.lemmas.List.{take-append-drop, take_all}
use Rattle.x_codes.specs.StateCode.{paths_code, next_path, next_rest, paths_at, after_paths, paths_of, paths_rest, ReadsPaths}

choice_small : (n : ℕ) → n < 4294967296 → choice_of n ≡ n
choice_small n h = omega arith

pub choices_small : (ns : List ℕ) → ((k : ℕ) → k < length ns → get_or ns k 0 < 4294967296) → map choice_of ns ≡ ns
choices_small [] h = refl
choices_small (n ∷ ns) h = (λ j. choice_small n (h 0 (omega arith)) j ∷ choices_small ns (λ k l. h (suc k) (omega arith)) j)

label_back : (l : Label) → label_of (label_number l) ≡ l
label_back X1 = refl
label_back _ = refl

-- a cursor's option has 32 bits
cursor_back : (k : Cursor) → cursor_choice k < 4294967296 → cursor_of (cursor_kind k) (cursor_choice k) ≡ k
cursor_back (cursor.At o) h = ap cursor.At (choice_small o h)
cursor_back _ h = refl

pub reads_path : (path : List ℕ) → map choice_of path ≡ path → ReadsPath path
unfolding path_code path_of path_rest
reads_path path h = λ rest. (ap (map choice_of) (take-append_seam path rest) ∙ h, drop-append_seam path rest)

pub reads_state : (s : StateValue) → cursor_choice s.cursor < 4294967296 → ReadsPath s.path → ReadsState s
unfolding state_code state_of state_rest
reads_state s h r = λ rest. let p = r rest in
    ((λ j. record { label = label_back s.label j; path = p.0 j; cursor = cursor_back s.cursor h j }), p.1)

-- ---- a state after a path

pub shared_is : (q r : List ℕ) (n : ℕ) → IsShared q r n → n ≡ shared_count q r
unfolding shared_count
shared_is [] r n i = let l = i.within in omega (arith, l)
shared_is (x ∷ xs) [] n i = let l = i.within_other in omega (arith, l)
shared_is (x ∷ xs) (y ∷ ys) zero i = rw (ne_eqb x y (i.differs (omega arith) (omega arith))) refl
shared_is (x ∷ xs) (y ∷ ys) (suc n) i =
    let same : x ≡ y = ap (λ (zs : List ℕ). get_or zs 0 0) i.same in
    let rest : IsShared xs ys n = record {
      within = let l = i.within in omega (arith, l);
      within_other = let l = i.within_other in omega (arith, l);
      same = ap (drop 1) i.same;
      differs = λ l m. i.differs (omega (arith, l)) (omega (arith, m));
    } in
    rw (eq-eqb x y same) (ap suc (shared_is xs ys n rest))

pub reads_after : (before : List ℕ) (s : StateValue) (n : ℕ) → IsShared before s.path n → ReadsState (state_below n s) → ReadsAfter before s
unfolding after_code after_of after_rest
reads_after before s n i r = λ rest.
    let e = shared_is before s.path n i in
    let p = r rest in
    let whole : take n before ++ drop n s.path ≡ s.path = ap (λ xs. xs ++ drop n s.path) i.same ∙ take-append-drop n s.path in
    rw (← e) (
      (λ j. record { label = (p.0 j).label; path = (ap (λ (t : StateValue). take n before ++ t.path) p.0 ∙ whole) j; cursor = (p.0 j).cursor }),
      p.1,
    )

pub after_is : (before : List ℕ) (s : StateValue) (n : ℕ) (below row mid new : List ℕ) → IsShared before s.path n → below ≡ drop n s.path
    → mid ≡ row ++ n ∷ [] → new ≡ mid ++ state_code (record { label = s.label; path = below; cursor = s.cursor }) → new ≡ row ++ after_code before s
unfolding after_code
after_is before s n below row mid new i b e f =
    rw (f, e, b, ← shared_is before s.path n i) (append_assoc row (n ∷ []) (state_code (state_below n s)))

-- as many as there are, of so many
pub take_most : (n m : ℕ) (xs : List ℕ) → (n ≤ length xs → m ≡ n) → (length xs ≤ n → m ≡ length xs) → take m xs ≡ take n xs
take_most n m xs few all = step (cases_lt (length xs) n)
  where
    step : (length xs < n) ⊎ (n ≤ length xs) → take m xs ≡ take n xs
    step (inl l) = let e = all (omega arith) in take_all m xs (omega (arith, e)) ∙ sym (take_all n xs (omega arith))
    step (inr l) = ap (λ i. take i xs) (few l)

-- ---- lists of lists

-- what an odd number tells, and an even one
pub odd_path : (before : List ℕ) (n : ℕ) (ns : List ℕ) → n % 2 ≡ 1 → next_path before n ns ≡ map choice_of (raised (n / 2) before)
unfolding next_path
odd_path before n ns h = rw (eq-eqb (n % 2) 1 h) refl

pub odd_rest : (n : ℕ) (ns : List ℕ) → n % 2 ≡ 1 → next_rest n ns ≡ ns
unfolding next_rest
odd_rest n ns h = rw (eq-eqb (n % 2) 1 h) refl

pub even_path : (before : List ℕ) (n : ℕ) (ns : List ℕ) → n % 2 ≢ 1 → next_path before n ns ≡ map choice_of (take (n / 2) ns)
unfolding next_path
even_path before n ns h = rw (ne_eqb (n % 2) 1 h) refl

pub even_rest : (n : ℕ) (ns : List ℕ) → n % 2 ≢ 1 → next_rest n ns ≡ drop (n / 2) ns
unfolding next_rest
even_rest n ns h = rw (ne_eqb (n % 2) 1 h) refl

-- the last choice is raised in its place
pub raised_last : (ns : List ℕ) (step last : ℕ) → suc last ≡ length ns → ((k : ℕ) → k < last → get_or ns k 0 < 4294967296)
    → set ns last (choice_of (get_or ns last 0 + step)) ≡ map choice_of (raised step ns)
unfolding raised
raised_last [] step last l h = absurd (omega arith)
raised_last (n ∷ []) step zero l h = refl
raised_last (n ∷ []) step (suc k) l h = absurd (omega arith)
raised_last (n ∷ m ∷ ns) step zero l h = absurd (omega arith)
raised_last (n ∷ m ∷ ns) step (suc k) l h =
    (λ j. sym (choice_small n (h 0 (omega arith))) j ∷ raised_last (m ∷ ns) step k (omega arith) (λ i b. h (suc i) (omega arith)) j)

-- where there is none, nothing is
pub raised_none : (ns : List ℕ) (step : ℕ) → length ns ≡ 0 → ns ≡ map choice_of (raised step ns)
unfolding raised
raised_none [] step h = refl
raised_none (n ∷ ns) step h = absurd (omega arith)

-- one list is read, and the others are read after it
pub paths_step : (n left : ℕ) (paths : List (List ℕ)) (before path ns rest : List ℕ) → ns ≡ n ∷ rest → 0 < left → path ≡ next_path before n rest
    → paths ++ paths_at left before ns ≡ (paths ++ path ∷ []) ++ paths_at (left - 1) path (next_rest n rest)
unfolding paths_at
paths_step n zero paths before path ns rest e h is = absurd (omega arith)
paths_step n (suc k) paths before path ns rest e h is =
    let d : suc k - 1 ≡ k = omega arith in
    rw (e, d, is) (sym (append_assoc paths (next_path before n rest ∷ []) (paths_at k (next_path before n rest) (next_rest n rest))))

pub paths_after : (n left : ℕ) (ns rest : List ℕ) → ns ≡ n ∷ rest → 0 < left → after_paths left ns ≡ after_paths (left - 1) (next_rest n rest)
unfolding after_paths
paths_after n zero ns rest e h = absurd (omega arith)
paths_after n (suc k) ns rest e h = let d : suc k - 1 ≡ k = omega arith in rw (e, d) refl

-- how many there are doesn't turn on the list before them
as_many : (left : ℕ) (one other ns : List ℕ) → length (paths_at left one ns) ≡ length (paths_at left other ns)
unfolding paths_at
as_many zero one other ns = refl
as_many (suc k) one other [] = refl
as_many (suc k) one other (n ∷ ns) = ap suc (as_many k (next_path one n ns) (next_path other n ns) (next_rest n ns))

-- so the number of those to come falls by one
pub paths_count : (n left : ℕ) (ns rest : List ℕ) → ns ≡ n ∷ rest → 0 < left
    → length (paths_at left [] ns) ≡ suc (length (paths_at (left - 1) [] (next_rest n rest)))
unfolding paths_at
paths_count n zero ns rest e h = absurd (omega arith)
paths_count n (suc k) ns rest e h =
    let d : suc k - 1 ≡ k = omega arith in
    rw (e, d) (ap suc (as_many k (next_path [] n rest) [] (next_rest n rest)))

-- where no number is left, none is read
pub no_paths : (left : ℕ) (before ns : List ℕ) → ns ≡ [] → paths_at left before ns ≡ []
unfolding paths_at
no_paths zero before ns e = refl
no_paths (suc k) before ns e = rw e refl

pub none_after : (left : ℕ) (ns : List ℕ) → ns ≡ [] → after_paths left ns ≡ []
unfolding after_paths
none_after zero ns e = e
none_after (suc k) ns e = rw e refl

-- and where none is to come
pub all_paths : (left : ℕ) (before ns : List ℕ) → left ≤ 0 → paths_at left before ns ≡ []
unfolding paths_at
all_paths zero before ns h = refl
all_paths (suc k) before ns h = absurd (omega arith)

pub all_after : (left : ℕ) (ns : List ℕ) → left ≤ 0 → after_paths left ns ≡ ns
unfolding after_paths
all_after zero ns h = refl
all_after (suc k) ns h = absurd (omega arith)

-- ---- lists are read back

-- numbers begin with one that tells a list after another one, and then comes the rest
record TellsNext (before list ns rest : List ℕ) : Type 0 where
  pub number : ℕ
  pub others : List ℕ
  pub begins : ns ≡ number ∷ others
  pub list_is : next_path before number others ≡ list
  pub rest_is : next_rest number others ≡ rest

tells_next : (before list rest : List ℕ) → map choice_of list ≡ list → TellsNext before list (told_after before list ++ rest) rest
tells_next before list rest h = by_step (list_step before list) refl
  where
    by_step : (step : Option ℕ) → list_step before list ≡ step → TellsNext before list (told_by step list ++ rest) rest
    by_step (Some step) e =
        let odd : (2 * step + 1) % 2 ≡ 1 = omega arith in let half : (2 * step + 1) / 2 ≡ step = omega arith in
        record {
          number = 2 * step + 1;
          others = rest;
          begins = refl;
          list_is = odd_path before (2 * step + 1) rest odd ∙ ap (λ k. map choice_of (raised k before)) half
              ∙ ap (map choice_of) (step_raises before list step e).raised_is ∙ h;
          rest_is = odd_rest (2 * step + 1) rest odd;
        }
    by_step None e =
        let even : 2 * length list % 2 ≢ 1 = (λ o. omega (arith, o)) in let half : 2 * length list / 2 ≡ length list = omega arith in
        record {
          number = 2 * length list;
          others = list ++ rest;
          begins = refl;
          list_is = even_path before (2 * length list) (list ++ rest) even ∙ ap (λ k. map choice_of (take k (list ++ rest))) half
              ∙ ap (map choice_of) (take-append_seam list rest) ∙ h;
          rest_is = even_rest (2 * length list) (list ++ rest) even ∙ ap (λ k. drop k (list ++ rest)) half ∙ drop-append_seam list rest;
        }

-- the numbers of lists are choices
abbrev pub AreChoices : List (List ℕ) → Type 0
AreChoices paths = (i : ℕ) → i < length paths → map choice_of (get_or paths i []) ≡ get_or paths i []

reads_from : (before : List ℕ) (paths : List (List ℕ)) (rest : List ℕ) → AreChoices paths
    → (paths_at (length paths) before (told_from before paths ++ rest) ≡ paths) × (after_paths (length paths) (told_from before paths ++ rest) ≡ rest)
unfolding paths_at after_paths told_from
reads_from before [] rest h = (refl, refl)
reads_from before (p ∷ ps) rest h =
    let t = tells_next before p (told_from p ps ++ rest) (h 0 (omega arith)) in
    let more = reads_from p ps rest (λ i l. h (suc i) (omega arith)) in
    let all = append_assoc (told_after before p) (told_from p ps) rest ∙ t.begins in (
      ap (paths_at (suc (length ps)) before) all ∙ (λ j. t.list_is j ∷ paths_at (length ps) (t.list_is j) (t.rest_is j)) ∙ ap (λ l. p ∷ l) more.0,
      ap (after_paths (suc (length ps))) all ∙ ap (after_paths (length ps)) t.rest_is ∙ more.1,
    )

pub reads_paths : (paths : List (List ℕ)) → AreChoices paths → ReadsPaths paths
unfolding paths_code paths_of paths_rest
reads_paths paths h = λ rest. reads_from [] paths rest h
