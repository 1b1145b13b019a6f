-- The halves of the driver's turn under the lock, by the parts that it had before.
use Rattle.std.proofs.Common.{◌≡◌, ◌≤◌, ℕ, Bool, true, false, List, length, Option, refl, sym, ap, ◌∙◌, subst}
use Rattle.nvm_core.specs.memif.Told.{DeviceTold, ops_of}
use Rattle.nvm_core.specs.memif.Clock.{Clock}
use Rattle.nvm_core.specs.memif.declared.answer.DeviceTurn.{DeviceTurn}
use Rattle.nvm_core.specs.block_config.Rules.{IsLegalConfig}
use Rattle.nvm_core.specs.block_machine.Words.{Entry}
use Rattle.nvm_core.specs.ram_blocks.Told.{Told}
use Rattle.nvm_core.specs.nv_desk.Desk.{DeskState, state_of}
use Rattle.nvm_core.specs.nv_desk_copies.Front.{AreSynchronized}
use Rattle.nvm_core.specs.job_progress.Hand.{HandState}
use Rattle.nvm_core.specs.job_progress.JobInHand.{HandFits}
use Rattle.nvm_core.specs.nvm_laws.Ties.{IsTied}
use Rattle.nvm_core.specs.nvm_laws.Turns.{AddsBy, hand_by}
use Rattle.nvm_core.specs.nvm_device_laws.Turn.{TellsSlots}
use Rattle.nvm_core.specs.nvm_laws.Keeps.{StaysKept}
use Rattle.nvm_core.specs.nvm_laws.declared.turned.Act.TheVariants.{Device}
use Rattle.nvm_core.specs.nvm_laws.declared.turned.Turned.{Turned}
use Rattle.nvm_core.specs.nvm_laws.Due.{IsDueInHand, IsNearer}
use Rattle.nvm_core.specs.nvm_laws.DueLaws.{NextIsPending}
use Rattle.nvm_core.specs.BehindDevice.{IsBehindTurn, TakesTurn, TurnsDevice, asked_by}
use Rattle.nvm_core.specs.Due.{now_of}
use Rattle.nvm_core.proofs.TurnedBehind.{asked_is, has_turned, turns_device}
use Rattle.nvm_core.proofs.Serving.{nearer_by}
use Rattle.nvm_core.proofs.Working.{turned_works}
use Rattle.nvm_core.proofs.LawWorking.{hands_are_small}
use Rattle.nvm_core.proofs.Keeping.{stays_more}
use Rattle.nvm_shared.specs.Behind.{HandIsPending}
use Rattle.nvm_shared.specs.declared.terms.Terms.{Terms}
use Rattle.nvm_shared.specs.Locked.{LockedState, desk_with}
use Rattle.nvm_shared.specs.Driving.{BeginsTurn, DriverState, Drives, EndsTurn, IsTurned, MayEnd, driver_of, stack_of}
use Rattle.nvm_shared.proofs.Asking.{V}
use Rattle.nvm_shared.proofs.Turning.{Behind, Enters, behind, fits_behind}
use Rattle.nvm_shared.proofs.Serving.{lowers_behind}

-- behind a first half that adds nothing, and the device's turn, the second half is due
pub may_end : {D C : Type 0} (told : D → DeviceTold) (clock : D → Clock) (copies : C → List Told) (is_store : C → ℕ → ℕ → List ℕ → Type 0) (looked : C → C → ℕ → ℕ → Type 0)
    (tells : Bool) (turned : DeviceTurn) (desk desk_new : DeskState) (old between now : DriverState D C) → BeginsTurn told clock copies is_store looked Device desk desk_new old between
    → Drives told clock copies tells desk_new between → IsTurned told clock turned between now → MayEnd told clock copies tells turned desk_new between now
may_end told clock copies is_store looked tells turned desk desk_new old between now begins drives turns = record {
  drives = drives;
  on = ap (λ (x : DeskState). (state_of x).off) begins.half.half.0.0 ∙ begins.half.half.2;
  started = begins.half.started refl;
  turned = turns;
}

module _ {D C : Type 0} (told : D → DeviceTold) (clock : D → Clock) (copies : C → List Told) (t : Terms) (v u : V) (x : LockedState) (enters : Enters t v u x) (now : DriverState D C) where
  -- THE FIRST
  module _ (drives : Drives told clock copies t.tells (desk_with t v.seen) now) where
    pub stands : Behind t v.seen x now.hand (told now.device) (clock now.device)
    stands = behind t v u x now.hand (told now.device) (clock now.device) enters drives.pending drives.tied

    pub fits : (t.tells ≡ true → TellsSlots (told now.device)) → x.tells ≡ true → HandFits x.desk.config (state_of x.desk) now.hand (told now.device)
    fits = fits_behind t v.seen x now.hand (told now.device) (clock now.device) stands drives.kept

  -- THE SECOND
  module _ (turned : DeviceTurn) (s : DriverState D C) (may : MayEnd told clock copies t.tells turned (desk_with t v.seen) s now) where
    same_hand : now.hand ≡ s.hand
    same_hand = ap (λ (z : DriverState D C). z.hand) may.turned.only

    same_copies : now.copies ≡ s.copies
    same_copies = ap (λ (z : DriverState D C). z.copies) may.turned.only

    pub stood : Behind t v.seen x s.hand (told s.device) (clock s.device)
    stood = behind t v u x s.hand (told s.device) (clock s.device) enters may.drives.pending may.drives.tied

    pub is_behind : IsBehindTurn turned x.desk now.hand (told s.device) (told now.device)
    is_behind = record {
      tied = subst (λ (h : Option HandState). IsTied x.desk h (told s.device)) (sym same_hand) stood.stands.tied;
      on = stood.stands.power ∙ may.on;
      turned = has_turned turned (told s.device) (clock s.device) (told now.device) (clock now.device) may.turned.turns;
    }

    -- what it came to, with the list that was left
    module _ (answer : Turned) (y : LockedState) (hand : Option HandState) (seen : List Entry) (takes : TakesTurn turned answer x.desk y.desk now.hand hand (told now.device))
        (tied : IsTied y.desk hand (told now.device)) (desk : y.desk ≡ desk_with t seen) where
      goes : hand ≡ hand_by (told s.device).stand (told now.device).stand s.hand
      goes = takes.goes (told s.device) is_behind ∙ ap (hand_by (told s.device).stand (told now.device).stand) same_hand

      kept_behind : StaysKept x.desk s.hand (told s.device) (clock s.device) y.desk hand (told now.device) (clock now.device)
      kept_behind =
          subst (λ (h : Option HandState). StaysKept x.desk s.hand (told s.device) (clock s.device) y.desk h (told now.device) (clock now.device)) (sym goes)
          (may.turned.keeps x.desk y.desk s.hand stood.stands.tied.up stood.stands.tied.paired may.started (takes.adds (told s.device) is_behind))

      keeps : StaysKept (desk_with t v.seen) s.hand (told s.device) (clock s.device) (desk_with t seen) hand (told now.device) (clock now.device)
      keeps =
          subst (λ (z : DeskState). StaysKept (desk_with t v.seen) s.hand (told s.device) (clock s.device) z hand (told now.device) (clock now.device)) desk
          (stays_more _ _ _ _ _ _ _ _ _ _ _ _ stood.stands.kept kept_behind)

      pub drives_on : HandIsPending (state_of y.desk) → NextIsPending y.desk.config (state_of y.desk) → Drives told clock copies t.tells (desk_with t seen) (driver_of now.device now.copies hand)
      drives_on pending next = record {
        tied = subst (λ (z : DeskState). IsTied z hand (told now.device)) desk tied;
        pending = subst (λ (z : DeskState). HandIsPending (state_of z)) desk pending;
        next = subst (λ (z : DeskState). NextIsPending z.config (state_of z)) desk next;
        synchronized = subst (λ (z : C). AreSynchronized t.config (copies z)) (sym same_copies) may.drives.synchronized;
        kept = λ told_now. let (before, kept) = may.drives.kept told_now in (before, keeps.kept before kept);
      }

      turns : TurnsDevice answer (told s.device) (clock s.device) (told now.device) (clock now.device)
      turns = subst (λ (a : Turned). TurnsDevice a (told s.device) (clock s.device) (told now.device) (clock now.device)) (sym takes.answers)
          (turns_device turned (told s.device) (clock s.device) (told now.device) (clock now.device) may.turned.turns)

      asked : AddsBy (asked_by answer (told s.device).stand (told now.device).stand (ops_of (told now.device))) x.desk y.desk
      asked = subst (λ (e : Option Entry). AddsBy e x.desk y.desk)
          (sym (ap (λ (a : Turned). asked_by a (told s.device).stand (told now.device).stand (ops_of (told now.device))) takes.answers ∙ asked_is turned (told s.device).stand (told now.device).stand (ops_of (told now.device))))
          (takes.adds (told s.device) is_behind)

      pub ends : IsLegalConfig y.desk.config → length y.desk.entries ≤ y.desk.cap → EndsTurn told clock answer (desk_with t v.seen) (desk_with t seen) s (driver_of now.device now.copies hand)
      ends legal within = record {
        asks = stood.asks;
        are = stood.are;
        replied = stood.replied;
        tied = subst (λ (z : DeskState). IsTied z s.hand (told s.device)) stood.desk stood.stands.tied;
        ready = may.turned.ready;
        turns = turns;
        adds = subst (λ (z : DeskState). AddsBy (asked_by answer (told s.device).stand (told now.device).stand (ops_of (told now.device))) z (desk_with t seen)) stood.desk
            (subst (λ (z : DeskState). AddsBy (asked_by answer (told s.device).stand (told now.device).stand (ops_of (told now.device))) x.desk z) desk asked);
        hand = goes;
        copies = same_copies;
        keeps = keeps;
        stands = subst (λ (z : DeskState). StaysKept (desk_with t v.seen) s.hand (told s.device) (clock s.device) z s.hand (told s.device) (clock s.device)) stood.desk stood.stands.kept;
        kept = subst (λ (z : DeskState). StaysKept z s.hand (told s.device) (clock s.device) (desk_with t seen) hand (told now.device) (clock now.device)) stood.desk
            (subst (λ (z : DeskState). StaysKept x.desk s.hand (told s.device) (clock s.device) z hand (told now.device) (clock now.device)) desk kept_behind);
        lowers = λ worked started.
            lowers_behind (desk_with t v.seen) stood.asks x.desk y.desk (desk_with t seen) s.hand hand (told s.device) (told now.device) stood.desk desk
            (turned_works answer x.desk y.desk s.hand hand (told s.device) (clock s.device) (told now.device) (clock now.device) turns started stood.stands.tied.paired asked goes
            within (hands_are_small y.desk.config (state_of y.desk) hand (told now.device) legal tied.paired) worked);
        nearer = λ number left started open_now faultless on due.
            subst (λ (z : DeskState). IsNearer number left (now_of told (stack_of z (driver_of now.device now.copies hand)))) desk
            (nearer_by number left (told s.device) x.desk y.desk s.hand hand (told s.device) (told now.device) (clock s.device) (clock now.device) stood.stands.tied started open_now goes refl faultless
            (subst (λ (z : DeskState). (state_of z).off ≡ false) (sym desk) on)
            (subst (λ (z : DeskState). IsDueInHand number left (record { desk = z; hand = s.hand; device = told s.device })) (sym stood.desk) due)
            answer turns asked);
      }
