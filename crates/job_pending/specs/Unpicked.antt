-- How many jobs were never picked.
use Rattle.std.specs.Prelude.{ℕ, ◌+◌, ◌-◌, Bool, if◌then◌else◌}
use Rattle.job_pending.specs.declared.unpicked.Unpicked.{Unpicked}

abbrev pub unpicked_in : Bool → Unpicked → ℕ
unpicked_in immediate u = if immediate then u.immediate else u.standard

-- one more
abbrev pub unpicked_with : Bool → Unpicked → Unpicked
unpicked_with immediate u = if immediate then record u { immediate = u.immediate + 1 } else record u { standard = u.standard + 1 }

-- one less, if it is picked for the first time
abbrev pub unpicked_without : (immediate again : Bool) → Unpicked → Unpicked
unpicked_without immediate again u = if again then u else (if immediate then record u { immediate = u.immediate - 1 } else record u { standard = u.standard - 1 })
