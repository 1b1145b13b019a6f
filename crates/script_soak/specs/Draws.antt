-- The numbers that a seed draws: a linear congruential generator of 64 bits, of which the upper 31 are drawn.
use Rattle.std.specs.Prelude.{ℕ, zero, suc, ◌+◌, ◌*◌, ◌/◌, ◌%◌, ◌^◌}

-- the state that follows a state
abbrev pub next_state : ℕ → ℕ
next_state x = (x * 6364136223846793005 + 1442695040888963407) % 2 ^ 64

-- the state after so many draws
abbrev pub state_after : ℕ → ℕ → ℕ
state_after seed zero = seed
state_after seed (suc n) = next_state (state_after seed n)

-- draw n, from 1
abbrev pub draw : ℕ → ℕ → ℕ
draw seed n = state_after seed n / 2 ^ 33
