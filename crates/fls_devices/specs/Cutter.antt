-- A flash whose power is cut on purpose.
use Rattle.std.specs.Prelude.{◌≡◌, ℕ, Bool, true, false, IsTrue, map, Option, Some, None, nat_le, if◌then◌else◌}
use Rattle.std.specs.List.{list_all}
use Rattle.fls_model.specs.declared.flash.FlashAnswer.{FlashAnswer}
use Rattle.fls_model.specs.declared.flash.FlashAnswer.TheVariants.{Off}
use Rattle.nv_base.specs.declared.plan.Plan.{Plan}
use Rattle.nv_base.specs.Plan.{Planning, nearer}
use Rattle.fls_model.specs.Told.{Told}
use Rattle.fls_model.specs.Op.{Op}
use Rattle.fls_devices.specs.declared.part.Harm.TheVariants.{Cut}
use Rattle.fls_devices.specs.Journal.{empty_journal}
use Rattle.fls_devices.specs.Part.{off_of}
use Rattle.fls_devices.specs.Overlay.{Overlaid, IsOverlaid, overlaid, told_over, IsPassed, IsHarmed}

-- the flash that it cuts, the plan that stands, and how many plans it takes yet
pub record Cutting : Type 0 where
  pub flash : Overlaid
  pub plan : Option Plan
  pub arms : ℕ

-- what is told of its changes is so, no fault is its own, each operation that it kept from the inner flash, or a part of it,
-- was cut, and in the inner flash no plan stands while its power is on
pub record OnlyCuts (c : Cutting) : Type 0 where
  pub flash : IsOverlaid c.flash
  pub faults : c.flash.faults ≡ 0
  pub events : IsTrue (list_all (λ e. off_of e.answer) c.flash.journal.events)
  pub none : c.flash.cuts ≡ 0 → c.flash.withheld ≡ 0
  pub no_plan : c.flash.inner.off ≡ false → c.flash.inner.planning.plan ≡ None

-- a new one, of at most so many cuts
abbrev pub cutting : Told → ℕ → Cutting
cutting inner cuts = record { flash = overlaid inner (empty_journal cuts); plan = None; arms = cuts }

-- its planned cuts; each cut of the inner flash is one that no plan asked for
abbrev pub planning_of : Cutting → Planning
planning_of c = record { plan = c.plan; takes = c.arms; unplanned = c.flash.inner.cuts; came = map (λ e. e.keep) c.flash.journal.events; withheld = c.flash.withheld }

abbrev pub with_planning : Planning → Cutting → Cutting
with_planning p c = record c { plan = p.plan; arms = p.takes }

-- what is told of it
abbrev pub told_cutting : Cutting → Told
told_cutting c = told_over (planning_of c) c.flash

-- how many bytes of the operation that comes now are done, where it is to be cut
abbrev pub due : Bool → Option Plan → Option ℕ
due true plan = None
due false None = None
due false (Some p) = if nat_le p.left 1 then Some p.keep else None

-- the plan behind it
abbrev pub plan_after : Bool → Option Plan → Option Plan
plan_after true plan = plan
plan_after false None = None
plan_after false (Some p) = if nat_le p.left 1 then None else nearer (Some p)

abbrev pub CutOrPassed : Option ℕ → Op → Overlaid → FlashAnswer → Overlaid → Type 0
CutOrPassed (Some keep) op old answer new = (answer ≡ Off) × IsHarmed Cut keep op old answer new
CutOrPassed None op old answer new = IsPassed op old answer new

-- the operation that is due is cut, every other one is handed to the inner flash
pub record IsCutOrPassed (op : Op) (old : Cutting) (answer : FlashAnswer) (new : Cutting) : Type 0 where
  pub flash : CutOrPassed (due old.flash.off old.plan) op old.flash answer new.flash
  pub plan : new.plan ≡ plan_after old.flash.off old.plan
  pub arms : new.arms ≡ old.arms
