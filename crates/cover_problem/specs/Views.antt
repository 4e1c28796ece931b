-- What the contracts see of the code's lists of options, names and strings.
use Rattle.std.specs.Prelude.{ℕ, List, Vec, String, map, string_bytes}
use Rattle.std.specs.declared.alloc.Global.{Global}
use Rattle.cover_problem.specs.Limits.{most_name_bytes}
use Rattle.indexmap.specs.IndexSet.{IndexSet}
use Rattle.arrayvec.specs.declared.array_string.ArrayString.{ArrayString}
use Rattle.cover_problem.specs.Problem.{ProblemValue, problem_with}

-- the items of each option
abbrev pub items_of : List (Vec ℕ Global) → List (List ℕ)
items_of options = map (λ o. o.items) options

-- the bytes of each name
abbrev pub name_bytes : List (ArrayString most_name_bytes) → List (List ℕ)
name_bytes names = map (λ n. n.bytes) names

-- the names that a set keeps, in its order
abbrev pub kept_names : {S : Type 0} → IndexSet (ArrayString most_name_bytes) S → List (List ℕ)
kept_names names = name_bytes names.keys

-- the bytes of each string
abbrev pub texts_of : List (String Global) → List (List ℕ)
texts_of strings = map string_bytes strings

-- the problem that the code's names stand for, with these options
abbrev pub problem_of_parts : List (ArrayString most_name_bytes) → ℕ → List (List ℕ) → ProblemValue
problem_of_parts names primary options = problem_with (name_bytes names) primary options

-- the problem that the code's strings and lists stand for
abbrev pub problem_of_lists : List (String Global) → ℕ → List (Vec ℕ Global) → ProblemValue
problem_of_lists names primary options = problem_with (texts_of names) primary (items_of options)
