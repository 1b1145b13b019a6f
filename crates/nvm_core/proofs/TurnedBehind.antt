-- A turn of the device, without what its clock tells.
use Rattle.std.specs.Prelude.{◌||◌}
use Rattle.std.proofs.Common.{◌≡◌, ℕ, Bool, true, false, List, Option, Some, None, refl, sym, ap, ◌∙◌, subst, inl, inr, arith}
use Rattle.nvm_laws.specs.nv_base.declared.mark.Mark.{Mark}
use Rattle.nvm_laws.specs.memif.Told.{DeviceTold, Part, PartTold, First, Second, part_at, with_part, Stand, Open, Ended, is_off, length_of}
use Rattle.nvm_laws.specs.memif.Clock.{Clock}
use Rattle.nvm_laws.specs.memif.Calls.{EndsAs, IsCut, JobTurns, Turns, Works}
use Rattle.nvm_laws.specs.memif.declared.answer.DeviceTurn.{DeviceTurn}
use Rattle.nvm_laws.specs.memif.declared.answer.DeviceTurn.TheVariants as turn
use Rattle.nvm_laws.specs.memif.declared.answer.JobResult.{JobResult}
use Rattle.nvm_laws.specs.Turns.{entry_by}
use Rattle.nvm_core.specs.BehindDevice.{GivesBy, StandTurns, HasTurned, TurnsDevice, answer_by, asked_by}

-- it is off where a part is
off_by : (p : Part) (d : DeviceTold) → (part_at p d).off ≡ true → is_off d ≡ true
off_by First d is = rw is refl
off_by Second d is = rw is (or_true d.first.off)
  where
    or_true : (b : Bool) → (b || true) ≡ true
    or_true true = refl
    or_true false = refl

gives : (mark : Option Mark) (number : ℕ) (r : JobResult) (given : List ℕ) (old new : DeviceTold) → EndsAs mark number r given old new
    → GivesBy mark r (length_of old.fixed.numbers number) given
gives None number r given old new is = is.1
gives (Some mark) number r given old new is = tt

stand_by : (p : Part) (o n : Stand) (old new : DeviceTold) (clock : Clock) → JobTurns p o n old new clock → StandTurns old.fixed.numbers o n
stand_by p (Open j) (Open j') old new clock is = is.0
stand_by p (Open j) (Ended r given) old new clock is = gives j.mark j.number r given old new is.0
stand_by p (Ended r given) n old new clock is = is.0

-- what a part's turn leaves of the device
rest_stays : (p : Part) (part : PartTold) (d : DeviceTold) → ((with_part p part d).fixed ≡ d.fixed) × ((with_part p part d).started ≡ d.started) × ((with_part p part d).stand ≡ d.stand)
rest_stays First part d = (refl, refl, refl)
rest_stays Second part d = (refl, refl, refl)

worked : (p : Part) (old new : DeviceTold) (clock : Clock) → Works p old new clock → HasTurned turn.Worked old new
worked p old new clock is =
    let rest = rest_stays p (part_at p new) old in record {
      fixed = ap (λ (x : DeviceTold). x.fixed) is.only ∙ rest.0;
      started = ap (λ (x : DeviceTold). x.started) is.only ∙ rest.1;
      later = is.part.later;
      stand = stand_by p old.stand new.stand old new clock is.job;
    }

cut : (p : Part) (old new : DeviceTold) → IsCut p old new → HasTurned turn.Off old new
cut p old new is =
    let rest = rest_stays p (part_at p new) old in
    let off : (part_at p new).off ≡ true = ap (λ (x : PartTold). x.off) is.part.only in record {
      fixed = ap (λ (x : DeviceTold). x.fixed) is.only ∙ rest.0;
      started = ap (λ (x : DeviceTold). x.started) is.only ∙ rest.1;
      later = is.part.later;
      stand = (ap (λ (x : DeviceTold). x.stand) is.only ∙ rest.2, off_by p new off);
    }

stood : (p : Part) (old new : DeviceTold) → (part_at p old).off ≡ true → new ≡ old → HasTurned turn.Off old new
stood p old new off same = subst (λ (x : DeviceTold). HasTurned turn.Off old x) (sym same)
    (record { fixed = refl; started = refl; later = omega arith; stand = (refl, off_by p old off) })

pub has_turned : (answer : DeviceTurn) (old : DeviceTold) (clock : Clock) (new : DeviceTold) (clock_new : Clock) → Turns answer old clock new clock_new
    → HasTurned answer old new
has_turned turn.Idle old clock new clock_new is = subst (λ (x : DeviceTold). HasTurned turn.Idle old x) (sym is.0.1)
    (record { fixed = refl; started = refl; later = omega arith; stand = refl })
has_turned turn.Worked old clock new clock_new is = worked is.0.1.0 old new clock_new is.0.1.1
has_turned turn.Off old clock new clock_new is = elim is.0.1.1 [
  | inl off ↦ stood is.0.1.0 old new off.0 off.2
  | inr comes ↦ cut is.0.1.0 old new comes.0
]

-- the stack's answer asks for the same entry
pub asked_is : (answer : DeviceTurn) (old new : Stand) (ops : ℕ) → asked_by (answer_by answer) old new ops ≡ entry_by answer old new ops
asked_is turn.Idle old new ops = refl
asked_is turn.Worked old new ops = refl
asked_is turn.Off old new ops = refl

-- the stack's answer is the device's
pub turns_device : (answer : DeviceTurn) (old : DeviceTold) (clock : Clock) (new : DeviceTold) (clock_new : Clock) → Turns answer old clock new clock_new
    → TurnsDevice (answer_by answer) old clock new clock_new
turns_device turn.Idle old clock new clock_new is = is
turns_device turn.Worked old clock new clock_new is = is
turns_device turn.Off old clock new clock_new is = is
