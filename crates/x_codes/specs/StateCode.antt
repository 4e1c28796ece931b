-- States as numbers of a row, and back. What a row tells is read in whole: a number too many is a choice too many, and one that is missing
-- is 0.
use Rattle.std.specs.Prelude.{ℕ, zero, suc, ◌≡◌, ◌/◌, ◌%◌, ◌==◌, List, [], ◌∷◌, ◌++◌, length, take, drop, map, slice_index, if◌then◌else◌}
use Rattle.packed_rows.specs.Neighbours.{raised, told_lists}
use Rattle.x_steps.specs.declared.state.Label.{Label}
use Rattle.x_steps.specs.declared.state.Label.TheVariants.{X1, X2, X3, X4, X5, X6, X7, X8, Done}
use Rattle.x_steps.specs.declared.state.Cursor.{Cursor}
use Rattle.x_steps.specs.declared.state.Cursor.TheVariants as cursor
use Rattle.x_steps.specs.StateValue.{StateValue}

-- ---- steps, choices and cursors

-- a number for each step
abbrev pub label_number : Label → ℕ
label_number X1 = 1
label_number X2 = 2
label_number X3 = 3
label_number X4 = 4
label_number X5 = 5
label_number X6 = 6
label_number X7 = 7
label_number X8 = 8
label_number Done = 9

-- the step of a number; any other number is that of Done
abbrev pub label_of : ℕ → Label
label_of n =
    if n == 1 then X1 else (if n == 2 then X2 else (if n == 3 then X3 else (if n == 4 then X4 else
    (if n == 5 then X5 else (if n == 6 then X6 else (if n == 7 then X7 else (if n == 8 then X8 else Done)))))))

-- a choice is a number of 32 bits
abbrev pub choice_of : ℕ → ℕ
choice_of n = n % 4294967296

-- whether a cursor is none, at a choice, or past all choices
abbrev pub cursor_kind : Cursor → ℕ
cursor_kind cursor.None = 0
cursor_kind (cursor.At o) = 1
cursor_kind cursor.Past = 2

-- the choice that a cursor is at, and 0 where it is at none
abbrev pub cursor_choice : Cursor → ℕ
cursor_choice (cursor.At o) = o
cursor_choice k = 0

-- the cursor of such a kind, at this choice
abbrev pub cursor_of : ℕ → ℕ → Cursor
cursor_of kind n = if kind == 0 then cursor.None else (if kind == 1 then cursor.At (choice_of n) else cursor.Past)

-- ---- lists of choices, and states

-- what comes after the first number
abbrev pub later : List ℕ → List ℕ
later ns = drop 1 ns

-- how many choices there are, and then each
unfoldable pub path_code : List ℕ → List ℕ
path_code path = length path ∷ path

-- the choices at the head of a row
unfoldable pub path_of : List ℕ → List ℕ
path_of ns = map choice_of (take (slice_index ns 0) (later ns))

-- what comes after them
unfoldable pub path_rest : List ℕ → List ℕ
path_rest ns = drop (slice_index ns 0) (later ns)

-- the step, the cursor as two numbers, and the choices
unfoldable pub state_code : StateValue → List ℕ
state_code s = label_number s.label ∷ cursor_kind s.cursor ∷ cursor_choice s.cursor ∷ path_code s.path

-- the state at the head of a row
unfoldable pub state_of : List ℕ → StateValue
state_of ns = record {
  label = label_of (slice_index ns 0);
  path = path_of (later (later (later ns)));
  cursor = cursor_of (slice_index (later ns) 0) (slice_index (later (later ns)) 0);
}

-- what comes after it
unfoldable pub state_rest : List ℕ → List ℕ
state_rest ns = path_rest (later (later (later ns)))

-- ---- a state after a path: how many first choices both have, and the state without them

-- how many first choices two paths have in common
unfoldable pub shared_count : List ℕ → List ℕ → ℕ
shared_count (x ∷ xs) (y ∷ ys) = if x == y then suc (shared_count xs ys) else 0
shared_count xs ys = 0

-- a state without its first choices
abbrev pub state_below : ℕ → StateValue → StateValue
state_below n s = record { label = s.label; path = drop n s.path; cursor = s.cursor }

-- its numbers after those of the path
unfoldable pub after_code : List ℕ → StateValue → List ℕ
after_code before s = shared_count before s.path ∷ state_code (state_below (shared_count before s.path) s)

-- the state at the head of a row, after a path
unfoldable pub after_of : List ℕ → List ℕ → StateValue
after_of before ns = record {
  label = (state_of (later ns)).label;
  path = take (slice_index ns 0) before ++ (state_of (later ns)).path;
  cursor = (state_of (later ns)).cursor;
}

-- what comes after it
unfoldable pub after_rest : List ℕ → List ℕ
after_rest ns = state_rest (later ns)

-- ---- lists of lists of choices: how many there are, and then what tells each after the one before it

-- how many lists there are, and then what tells them
unfoldable pub paths_code : List (List ℕ) → List ℕ
paths_code paths = length paths ∷ told_lists paths

-- the list that a number tells, after the list before it and with what comes after the number: an odd one the list before with its last
-- choice raised, an even one as many choices as half of it
unfoldable pub next_path : List ℕ → ℕ → List ℕ → List ℕ
next_path before n ns = map choice_of (if n % 2 == 1 then raised (n / 2) before else take (n / 2) ns)

-- what comes after such a list
unfoldable pub next_rest : ℕ → List ℕ → List ℕ
next_rest n ns = if n % 2 == 1 then ns else drop (n / 2) ns

-- so many lists after a list, or as many as there are
unfoldable pub paths_at : ℕ → List ℕ → List ℕ → List (List ℕ)
paths_at zero before ns = []
paths_at (suc count) before [] = []
paths_at (suc count) before (n ∷ ns) = next_path before n ns ∷ paths_at count (next_path before n ns) (next_rest n ns)

-- what comes after them
unfoldable pub after_paths : ℕ → List ℕ → List ℕ
after_paths zero ns = ns
after_paths (suc count) [] = []
after_paths (suc count) (n ∷ ns) = after_paths count (next_rest n ns)

-- the lists of choices at the head of a row
unfoldable pub paths_of : List ℕ → List (List ℕ)
paths_of ns = paths_at (slice_index ns 0) [] (later ns)

-- what comes after them all
unfoldable pub paths_rest : List ℕ → List ℕ
paths_rest ns = after_paths (slice_index ns 0) (later ns)

-- ---- what is read back as it was

-- choices are read back as they were, and nothing of what comes after them is lost
abbrev pub ReadsPath : List ℕ → Type 0
ReadsPath path = (rest : List ℕ) → (path_of (path_code path ++ rest) ≡ path) × (path_rest (path_code path ++ rest) ≡ rest)

-- so is a state
abbrev pub ReadsState : StateValue → Type 0
ReadsState s = (rest : List ℕ) → (state_of (state_code s ++ rest) ≡ s) × (state_rest (state_code s ++ rest) ≡ rest)

-- so is a state after a path
abbrev pub ReadsAfter : List ℕ → StateValue → Type 0
ReadsAfter before s = (rest : List ℕ) → (after_of before (after_code before s ++ rest) ≡ s) × (after_rest (after_code before s ++ rest) ≡ rest)

-- so are lists of choices
abbrev pub ReadsPaths : List (List ℕ) → Type 0
ReadsPaths paths = (rest : List ℕ) → (paths_of (paths_code paths ++ rest) ≡ paths) × (paths_rest (paths_code paths ++ rest) ≡ rest)
