-- Where no power cut is planned none is, through the halves of a turn.
use Rattle.std.specs.Prelude.{◌||◌}
use Rattle.std.proofs.Common.{◌≡◌, Bool, true, false, List, [], ◌∷◌, ◌++◌, refl, sym, ap, ◌∙◌, subst, inl, inr}
use Rattle.std.proofs.lemmas.Bool.{cases_Bool}
use Rattle.nvm_moves.specs.memif.Told.{DeviceTold, Fixed, PartTold, ops_of}
use Rattle.nvm_moves.specs.memif.Clock.{Clock}
use Rattle.nvm_moves.specs.memif.Calls.{InOrder}
use Rattle.nvm_moves.specs.block_machine.Words.{Entry, Ask, Off, Configuration}
use Rattle.nvm_moves.specs.block_machine.State.{State}
use Rattle.nvm_moves.specs.block_machine.StartUp.{at_first}
use Rattle.nvm_moves.specs.block_machine.Steps.{after, after_from, step}
use Rattle.nvm_moves.specs.nv_desk.Desk.{DeskState, state_of}
use Rattle.nvm_moves.specs.nvm_laws.Turns.{AddsBy}
use Rattle.nvm_moves.specs.nvm_laws.declared.turned.Turned.{Turned}
use Rattle.nvm_moves.specs.nvm_laws.declared.turned.Turned.TheVariants as turned
use Rattle.nvm_moves.specs.nvm_core.BehindDevice.{TurnsDevice, asked_by}
use Rattle.nvm_moves.specs.nvm_core.OperationStart.{LeavesDevice}
use Rattle.nvm_moves.specs.nvm_core.Stack.{PowersOff}
use Rattle.nvm_moves.proofs.Halves.{device_fixed}
use Rattle.nvm_moves.proofs.HistoryLaws.{histories_go_on, histories_step}
use Rattle.nvm_shared.specs.Behind.{AreAsks, with_more}
use Rattle.nvm_shared.specs.Unplanned.{IsUnplanned, StaysUnplanned}
use Rattle.nvm_shared.proofs.Standing.{asks_leave_power}
use Rattle.nvm_shared.proofs.Unplanned.{turns_stay_unplanned}
use Rattle.driver_moves.specs.Driving.{IsUncut}

-- a device of one part is off where that part is
off_first : (a b : Bool) → b ≡ false → (a || b) ≡ true → a ≡ true
off_first a true none off = cc none
off_first true false none off = refl
off_first false false none off = off

pub is_on : (desk : DeskState) (d : DeviceTold) (clock : Clock) → InOrder d clock → IsUncut desk d → PowersOff desk d
is_on desk d clock order uncut off = uncut.power (off_first d.first.off d.second.off (ap (λ (p : PartTold). p.off) (order.second uncut.one)) off)

-- REQUESTS
ask_power : (c : Configuration) (s : State) (es : List Entry) → AreAsks es → (after_from c s es).off ≡ s.off
ask_power c s [] are = refl
ask_power c s (Ask caller r reply ∷ es) are = ask_power c (step c s (Ask caller r reply)) es are.1 ∙ (asks_leave_power c s caller r reply).1
ask_power c s (e ∷ es) are = let no_ : false ≡ true = are.0 in absurd (cc no_)

-- they leave the power as it is
pub asks_power : (c : Configuration) (h es : List Entry) → AreAsks es → (after c (h ++ es)).off ≡ (after c h).off
asks_power c h es are = ap (λ (s : State). s.off) (histories_go_on c at_first h es) ∙ ask_power c (after c h) es are

pub asks_uncut : (desk : DeskState) (d : DeviceTold) (es : List Entry) → AreAsks es → IsUncut desk d → IsUncut (with_more desk es) d
asks_uncut desk d es are uncut = record { one = uncut.one; unplanned = uncut.unplanned; power = λ off. asks_power desk.config desk.entries es are ∙ uncut.power off }

-- THE FIRST HALF
pub half_uncut : (desk desk_new : DeskState) (d d_new : DeviceTold) → LeavesDevice d d_new → ((state_of desk).off ≡ true → (state_of desk_new).off ≡ true) → IsUncut desk d → IsUncut desk_new d_new
half_uncut desk desk_new d d_new leaves power uncut =
    let first : d_new.first ≡ d.first = ap (λ (x : DeviceTold). x.first) leaves in record {
      one = ap (λ (x : DeviceTold). x.fixed.two) leaves ∙ uncut.one;
      unplanned = subst IsUnplanned (sym first) uncut.unplanned;
      power = λ off. power (uncut.power (sym (ap (λ (p : PartTold). p.off) first) ∙ off));
    }

-- THE DEVICE'S TURN
pub fixed_stays : (answer : Turned) (old new : DeviceTold) (clock clock_new : Clock) → TurnsDevice answer old clock new clock_new → new.fixed ≡ old.fixed
fixed_stays answer old new clock clock_new is = device_fixed answer old clock new clock_new is

-- where the device went off the machine's power is, by the Off
off_told : (answer : Turned) (old new : DeskState) (d d_new : DeviceTold) → AddsBy (asked_by answer d.stand d_new.stand (ops_of d_new)) old new → d.first.off ≡ false → StaysUnplanned answer d.first d_new.first → d_new.first.off ≡ true → (state_of new).off ≡ true
off_told turned.Off old new d d_new adds on stays off = ap (λ (x : DeskState). (state_of x).off) adds.0 ∙ ap (λ (s : State). s.off) (histories_step old.config old.entries (Off (ops_of d_new)))
off_told answer old new d d_new adds on stays off = let no_ : false ≡ true = sym (stays.power (λ is. cc is) ∙ on) ∙ off in absurd (cc no_)

pub first_on : (desk : DeskState) (d : DeviceTold) → IsUncut desk d → (state_of desk).off ≡ false → d.first.off ≡ false
first_on desk d uncut on = elim (cases_Bool d.first.off) [
  | inl off ↦ absurd (let no_ : true ≡ false = sym (uncut.power off) ∙ on in cc no_)
  | inr is ↦ is
]

pub device_uncut : (answer : Turned) (desk desk_new : DeskState) (d d_new : DeviceTold) (clock clock_new : Clock) → (state_of desk).off ≡ false → AddsBy (asked_by answer d.stand d_new.stand (ops_of d_new)) desk desk_new
    → TurnsDevice answer d clock d_new clock_new → IsUncut desk d → IsUncut desk_new d_new
device_uncut answer desk desk_new d d_new clock clock_new on adds turns uncut =
    let first = first_on desk d uncut on in
    let stays = turns_stay_unplanned answer d d_new clock clock_new uncut.one first uncut.unplanned turns in record {
      one = ap (λ (f : Fixed). f.two) (fixed_stays answer d d_new clock clock_new turns) ∙ uncut.one;
      unplanned = stays.unplanned;
      power = off_told answer desk desk_new d d_new adds first stays;
    }
