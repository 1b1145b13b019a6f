-- Another device in its place, whose job stands as this one's did.
use Rattle.std.specs.Prelude.{IfSome, ◌==◌}
use Rattle.std.proofs.Common.{◌≡◌, ℕ, Bool, true, false, if◌then◌else◌, List, Option, Some, None, refl, sym, ap, ◌∙◌, subst}
use Rattle.memif.specs.Told.{DeviceTold, Stand, armed, plans, Part, PartTold}
use Rattle.memif.specs.Clock.{Clock}
use Rattle.memif.specs.Calls.{Arms}
use Rattle.block_machine.specs.Words.{Entry, Configuration}
use Rattle.block_machine.specs.State.{State}
use Rattle.nvm_device_laws.specs.Turn.{Keeps}
use Rattle.nvm_device_laws.specs.Tries.{TriesArePaid, TriesStay, is_hand_urgent}
use Rattle.nv_desk_copies.specs.nv_desk.Desk.{state_of}
use Rattle.job_progress.specs.Hand.{HandState}
use Rattle.job_progress.specs.JobInHand.{FitsMarks, HandFits}
use Rattle.nvm_device_laws.proofs.DeviceCalls.{arm_stays, goes_armed}
use Rattle.nvm_device_laws.proofs.DeviceTries.{arm_tries}
use Rattle.nvm_laws.specs.Calls.{ArmsKeep}
use Rattle.nvm_laws.proofs.Keeping.{keeps_at}
use Rattle.nvm_laws.proofs.Telling.{arms_tell}
use Rattle.nvm_laws.proofs.Ordering.{order_stays, starts_stay}

pub fits_stay : (c : Configuration) (s : State) (hand : Option HandState) (old new : DeviceTold) → new.stand ≡ old.stand → HandFits c s hand old → HandFits c s hand new
fits_stay c s None old new same fits = tt
fits_stay c s (Some h) old new same fits = λ j held. subst (λ (x : Stand). FitsMarks c s j h x) (sym same) (fits j held)

pub paid_stays : (old : DeviceTold) (clock : Clock) (new : DeviceTold) (clock_new : Clock) → TriesStay old clock new clock_new
    → (c : Configuration) (cap : ℕ) (urgent : Bool) (h : List Entry) (before : Part → PartTold) → Keeps c cap h before old clock → (hand : Option HandState)
    → IfSome hand (λ x. TriesArePaid c clock.worn urgent before old h x.program) → IfSome hand (λ x. TriesArePaid c clock_new.worn urgent before new h x.program)
paid_stays old clock new clock_new tries c cap urgent h before keeps None paid = tt
paid_stays old clock new clock_new tries c cap urgent h before keeps (Some x) paid = tries c cap urgent h before x.program keeps paid

-- a planned cut changes no job
armed_stand : (which nth keep : ℕ) (d : DeviceTold) → (armed which nth keep d).stand ≡ d.stand
armed_stand which nth keep d = by (which == 0) (which == 1)
  where
    by : (t u : Bool) → (if t then record d { first = plans nth keep d.first } else (if u then record d { second = plans nth keep d.second } else d)).stand ≡ d.stand
    by true u = refl
    by false true = refl
    by false false = refl

armed_starts : (which nth keep : ℕ) (d : DeviceTold) → ((armed which nth keep d).ops ≡ d.ops) × ((armed which nth keep d).starts ≡ d.starts)
armed_starts which nth keep d = by (which == 0) (which == 1)
  where
    by : (t u : Bool) → let e = (if t then record d { first = plans nth keep d.first } else (if u then record d { second = plans nth keep d.second } else d)) in (e.ops ≡ d.ops) × (e.starts ≡ d.starts)
    by true u = (refl, refl)
    by false true = (refl, refl)
    by false false = (refl, refl)

pub arms_keep : (old : DeviceTold) (clock : Clock) (new : DeviceTold) (clock_new : Clock) (which nth keep : ℕ)
    → Arms which nth keep old clock new clock_new → ArmsKeep old clock new clock_new
arms_keep old clock new clock_new which nth keep arms desk hand = keeps_at desk desk hand hand old clock new clock_new refl (arms_tell old clock new clock_new which nth keep arms) (λ before kept told.
    let goes = goes_armed old clock new clock_new which nth keep arms in
    let same = armed_starts which nth keep old in
    record {
      started = kept.started;
      keeps = arm_stays old clock new clock_new which nth keep arms desk.config desk.cap desk.entries before kept.started kept.keeps told;
      fits = fits_stay desk.config (state_of desk) hand old new (ap (λ (d : DeviceTold). d.stand) arms.0 ∙ armed_stand which nth keep old) kept.fits;
      paid = paid_stays old clock new clock_new (arm_tries old clock new clock_new which nth keep arms) desk.config desk.cap (is_hand_urgent desk.config (state_of desk)) desk.entries before kept.keeps hand kept.paid;
      order = order_stays old clock new clock_new goes.fixed goes.past.of_second desk.config desk.entries (ap (λ (d : DeviceTold). d.ops) arms.0 ∙ same.0) kept.order;
      starts = starts_stay old new goes.faults desk.entries kept.starts (ap (λ (d : DeviceTold). d.starts) arms.0 ∙ same.1);
    })
