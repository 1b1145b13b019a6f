-- How many plans of power cuts a flash takes yet.
use Rattle.std.specs.Prelude.{◌==◌, ◌&&◌, nat_le, if◌then◌else◌}
use Rattle.std.proofs.Common.{◌≡◌, ◌-◌, ℕ, Bool, true, false, Option, refl, ap, ◌∙◌, inl, inr, arith}
use Rattle.nvm_flash.specs.nv_base.Plan.{Planning}
use Rattle.nvm_flash.specs.nv_base.declared.plan.Plan.{Plan}
use Rattle.nvm_flash.specs.memif.Told.{DeviceTold, PartTold, Part, First, Second, armed, plans}
use Rattle.nvm_flash.specs.memif.Clock.{Clock}
use Rattle.nvm_flash.specs.memif.Calls.{IsCut, PartTurns, Works}
use Rattle.nvm_flash.specs.nvm_core.BehindDevice.{TurnsDevice}
use Rattle.nvm_flash.specs.nvm_laws.declared.turned.Turned.{Turned}
use Rattle.nvm_flash.specs.nvm_laws.declared.turned.Turned.TheVariants as turned
use Rattle.nvm.specs.Unit.{left_behind}

-- BEHIND A PLAN
taken_by : (left some : Bool) (n : ℕ) (plan : Option Plan) (p : Planning) → p.takes ≡ n → (left ≡ false → n ≡ 0) → (if left && some then record p { plan = plan; takes = n - 1 } else p).takes ≡ (if some then n - 1 else n)
taken_by true true n plan p is none = refl
taken_by true false n plan p is none = is
taken_by false true n plan p is none = let empty = none refl in omega (arith, is, empty)
taken_by false false n plan p is none = is

none_left : (n : ℕ) → nat_le 1 n ≡ false → n ≡ 0
none_left n no_more = grind (arith, no_more)

armed_by : (one two : Bool) (nth keep : ℕ) (d : DeviceTold) → (if one then record d { first = plans nth keep d.first } else (if two then record d { second = plans nth keep d.second } else d)).first.planning.takes ≡ (if one && nat_le 1 nth then d.first.planning.takes - 1 else d.first.planning.takes)
armed_by true two nth keep d = taken_by (nat_le 1 d.first.planning.takes) (nat_le 1 nth) d.first.planning.takes _ d.first.planning refl (none_left d.first.planning.takes)
armed_by false true nth keep d = refl
armed_by false false nth keep d = refl

pub armed_takes : (which nth keep : ℕ) (d e : DeviceTold) → e ≡ armed which nth keep d → e.first.planning.takes ≡ left_behind which nth d.first.planning.takes
armed_takes which nth keep d e is = ap (λ (x : DeviceTold). x.first.planning.takes) is ∙ armed_by (which == 0) (which == 1) nth keep d

-- BEHIND A TURN
-- a planned cut that comes takes no further plan
part_takes : (cut : Bool) (n m : ℕ) (p q : PartTold) → PartTurns cut n m p q → q.planning.takes ≡ p.planning.takes
part_takes true n m p q turns = elim turns.plan [
  | inl comes ↦ ap (λ (x : Planning). x.takes) comes.0.planning
  | inr other ↦ other.takes
]
part_takes false n m p q turns = elim turns.plan [
  | inl stays ↦ ap (λ (x : Planning). x.takes) stays.0
  | inr nears ↦ ap (λ (x : Planning). x.takes) nears.0.planning
]

works_take : (p : Part) (old new : DeviceTold) (clock : Clock) → Works p old new clock → new.first.planning.takes ≡ old.first.planning.takes
works_take First old new clock works = part_takes false old.ops new.ops old.first new.first works.part
works_take Second old new clock works = ap (λ (d : DeviceTold). d.first.planning.takes) works.only

cut_takes : (p : Part) (old new : DeviceTold) → IsCut p old new → new.first.planning.takes ≡ old.first.planning.takes
cut_takes First old new cut = part_takes true old.ops new.ops old.first new.first cut.part
cut_takes Second old new cut = ap (λ (d : DeviceTold). d.first.planning.takes) cut.only

pub device_takes : (answer : Turned) (old new : DeviceTold) (clock clock_new : Clock) → TurnsDevice answer old clock new clock_new → new.first.planning.takes ≡ old.first.planning.takes
device_takes turned.Idle old new clock clock_new turns = ap (λ (d : DeviceTold). d.first.planning.takes) turns.0.1
device_takes turned.Worked old new clock clock_new turns = works_take turns.0.1.0 old new clock_new turns.0.1.1
device_takes turned.Off old new clock clock_new turns = elim turns.0.1.1 [
  | inl off ↦ ap (λ (d : DeviceTold). d.first.planning.takes) off.2
  | inr cut ↦ cut_takes turns.0.1.0 old new cut.0
]
device_takes turned.Picked old new clock clock_new turns = absurd turns
device_takes turned.Posted old new clock clock_new turns = absurd turns
