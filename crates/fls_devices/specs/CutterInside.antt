-- The fields of a cutter.
use Rattle.std.specs.Prelude.{◌≡◌, ◌≤◌, ◌+◌, ℕ, false, IsTrue, Option, Some, None}
use Rattle.std.specs.List.{list_all}
use Rattle.nv_base.specs.declared.plan.Plan.{Plan}
use Rattle.fls_devices.specs.Part.{off_of}
use Rattle.fls_devices.specs.Cutter.{Cutting}

abbrev pub planned : Option Plan → ℕ
planned (Some p) = 1
planned None = 0

-- each cut that may come has room in the journal; no fault is its own, each event is a cut, without a cut of its own no
-- operation was kept from the inner flash, and none is planned there
pub record IsCutter (c : Cutting) : Type 0 where
  pub room : c.arms + planned c.plan ≤ c.flash.journal.room
  pub faults : c.flash.faults ≡ 0
  pub events : IsTrue (list_all (λ e. off_of e.answer) c.flash.journal.events)
  pub none : c.flash.cuts ≡ 0 → c.flash.withheld ≡ 0
  pub no_plan : c.flash.inner.off ≡ false → c.flash.inner.planning.plan ≡ None
