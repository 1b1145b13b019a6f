-- Counts of faults and of operations: 64 bits, which stand still at their end.
use Rattle.std.specs.Prelude.{◌⊎◌, ◌<◌, ◌≤◌, ◌+◌, ◌-◌, ◌^◌, ℕ, min}

-- the last value of a count
abbrev pub last_count : ℕ
last_count = 2 ^ 64 - 1

-- one more
abbrev pub next_count : ℕ → ℕ
next_count n = min (n + 1) last_count

-- a count rose, or stood at its end already
abbrev pub Rose : ℕ → ℕ → Type 0
Rose before after = (before < after) ⊎ ((last_count ≤ before) × (before ≤ after))

-- so many were counted between two values of a count, or it stands at its end
abbrev pub WereCounted : ℕ → ℕ → ℕ → Type 0
WereCounted n before after = (before + n ≤ after) ⊎ (last_count ≤ after)
