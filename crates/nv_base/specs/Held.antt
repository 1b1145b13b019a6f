-- What an instance holds.
use Rattle.std.specs.Prelude.{ℕ, ◌+◌, ◌^◌, ◌-◌, min, max}
use Rattle.nv_base.specs.declared.mark.Mark.{Mark}
use Rattle.nv_base.specs.declared.mark.Mark.TheVariants.{Erased}

-- a mark, and how often the instance was written, as far as that is kept with it
pub record Held : Type 0 where
  pub mark : Mark
  pub count : ℕ

-- the last count, at which it stands still
abbrev pub last_write : ℕ
last_write = 2 ^ 32 - 1

-- so many writes more; a count never falls
abbrev pub more_writes : ℕ → ℕ → ℕ
more_writes writes count = min (count + writes) (max count last_write)

-- what it holds once this mark is settled, behind what it held before
abbrev pub held_next : Mark → Held → Held
held_next mark before = record { mark = mark; count = more_writes 1 before.count }

-- nothing was ever written
abbrev pub never_written : Held
never_written = record { mark = Erased; count = 0 }
