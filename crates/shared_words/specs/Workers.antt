-- How many workers a search may have, in numerals: the constant of the code is proved to keep to them.
use Rattle.std.specs.Prelude.{ℕ, ◌<◌, ◌≤◌}

-- the most workers of one search
abbrev pub most_workers : ℕ
most_workers = 32

-- a search may have so many workers
abbrev pub IsWorkerCount : ℕ → Type 0
IsWorkerCount n = (0 < n) × (n ≤ 32)

-- a worker's number: they are numbered from 0
abbrev pub IsWorker : ℕ → Type 0
IsWorker w = w ≤ 31
