-- What is kept between a start-up and its entry.
use Rattle.std.proofs.Common.{◌≡◌, ℕ, Bool, true, false, List, Option, None, Result, Ok, Err, refl, ap, inl, inr, subst}
use Rattle.memif.specs.declared.answer.DeviceRefusal.{DeviceRefusal}
use Rattle.block_machine.specs.nv_base.declared.mark.Mark.{Mark}
use Rattle.memif.specs.declared.answer.DeviceTurn.{DeviceTurn}
use Rattle.memif.specs.declared.answer.DeviceTurn.TheVariants as turn
use Rattle.memif.specs.declared.answer.StartFault.{StartFault}
use Rattle.memif.specs.Told.{DeviceTold, Part, First, Second, PartTold}
use Rattle.memif.specs.Marks.{KeepsAll, DoubtsAt}
use Rattle.memif.specs.Clock.{Clock, SameClock, Ticks}
use Rattle.memif.specs.Calls.{Wish, Accepts, StartsUp, Turns, Works, is_read}
use Rattle.block_machine.specs.Words.{Entry, Configuration}
use Rattle.block_machine.specs.Steps.{after}
use Rattle.promise_blocks.specs.Counts.{count_due}
use Rattle.promise_blocks.specs.OverDevice.{KeepsOver}
use Rattle.nvm_device_laws.specs.Pairing.{Allows, Pairs}
use Rattle.nvm_device_laws.specs.Turn.{Keeps, down, StaysDown, ComesDown}
use Rattle.nvm_device_laws.proofs.Pairings as pairs
use Rattle.nvm_device_laws.proofs.Pushed.{FindsPossible, Goes}
use Rattle.nvm_device_laws.proofs.Called.{call_keeps}
use Rattle.nvm_device_laws.proofs.DeviceCalls.{keeps_same, goes_with, goes_same, goes_opened, goes_up, up_ops, goes_worked, stays_off}

not_both : (b : Bool) → b ≡ false → b ≡ true → ⊥
not_both b off on = cc

-- what a history keeps doesn't depend on whether the device counts as started
pub over_with : (started : Bool) (c : Configuration) (cap : ℕ) (h : List Entry) (before : Part → PartTold) (d : DeviceTold) (clock : Clock) → KeepsOver c cap h before d clock
    → KeepsOver c cap h before (record d { started = started }) clock
over_with started c cap h before d clock over = record {
  cut = over.cut;
  found = over.found;
  counts = over.counts;
  at_end = over.at_end;
  legal = over.legal;
  paid = elim [ First ↦ over.paid First | Second ↦ over.paid Second ];
  begins = over.begins;
  counted = over.counted;
  off = over.off;
}

-- a start-up may follow at any time
pub comes_down : (d : DeviceTold) (clock : Clock) → ComesDown d clock
comes_down d clock c cap h before keeps = record {
  device = record { rules = keeps.device.rules; numbers = keeps.device.numbers; parts = keeps.device.parts };
  over = over_with false c cap h before d clock keeps.over;
  few = keeps.few;
  base = keeps.base;
  based = keeps.based;
  marks = keeps.marks;
  settled = λ has up. absurd (not_both false refl up);
  finds = keeps.finds;
}

module _ (old : DeviceTold) (clock : Clock) (new : DeviceTold) (clock_new : Clock) where
  -- a call that makes no operation, and behind which each mark may still stand
  stays_down : (c : Configuration) (cap : ℕ) (h : List Entry) (before : Part → PartTold) → Goes old clock new clock_new
      → new.ops ≡ old.ops → ((k : ℕ) → clock_new.off_in k → clock.off_in k)
      → ((due : ℕ → ℕ) → Pairs Allows c (after c h) due old.fixed.numbers old.slots → Pairs Allows c (after c h) due old.fixed.numbers new.slots)
      → Keeps c cap h before (down old) clock → Keeps c cap h before (down new) clock_new
  stays_down c cap h before goes ops off allows keeps =
      call_keeps c cap h before (down old) clock (down new) clock_new keeps (goes_with false false goes) (inr ops) off
      (λ has. allows (count_due h keeps.base) (keeps.marks has)) (λ has up. absurd (not_both false refl up))

  -- no mark changes
  keeps_down : Goes old clock new clock_new → new.ops ≡ old.ops
      → ((k : ℕ) → clock_new.off_in k → clock.off_in k) → KeepsAll old new
      → StaysDown old clock new clock_new
  keeps_down goes ops off marks c cap h before keeps told = stays_down c cap h before goes ops off
      (λ due. pairs.allows_keep c (after c h) due old.fixed.numbers old.slots new.slots told marks) keeps

  same_down : new ≡ old → SameClock clock clock_new
      → FindsPossible new clock_new
      → StaysDown old clock new clock_new
  same_down same clocks finds = keeps_down (goes_same old clock new clock_new same clocks finds)
      (ap (λ (d : DeviceTold). d.ops) same) (λ k off. (clocks.off_in k).0 off)
      (keeps_same old.fixed.numbers old.slots new.slots (ap (λ (d : DeviceTold). d.slots) same))

  pub start_up_down : (answer : Result (Unit {0}) StartFault) → StartsUp answer old clock new clock_new
      → StaysDown old clock new clock_new
  start_up_down answer up c cap h before keeps told = stays_down c cap h before
      (goes_up old clock new clock_new answer up) (up_ops old clock new clock_new answer up)
      (λ k off. (up.clock_stays.same.off_in k).0 off)
      (λ due. pairs.allows_come c (after c h) due old.fixed.numbers old.slots new.slots told up.marks) keeps

  pub read_down : (w : Wish) (answer : Result (Unit {0}) DeviceRefusal) → w.job.mark ≡ None → Accepts w answer old clock new clock_new
      → StaysDown old clock new clock_new
  read_down w (Err refusal) none accepts = same_down accepts.0.1 accepts.1.same (λ held. accepts.1.order.now held)
  read_down w (Ok u) none accepts =
      let opens = accepts.0.1 in
      keeps_down (goes_opened old clock new clock_new w.job opens accepts.1) (ap (λ (d : DeviceTold). d.ops) opens.only)
      (λ k off. (accepts.1.same.off_in k).0 off)
      (subst (λ (o : Option Mark). DoubtsAt w.job.number o old new) none opens.marks)

  worked_down : (p : Part) → Works p old new clock_new → Ticks p turn.Worked old clock new clock_new
      → FindsPossible new clock_new
      → is_read old.stand ≡ true → StaysDown old clock new clock_new
  worked_down p works ticks finds read = keeps_down (goes_worked old clock new clock_new p works ticks finds) (works.read read).0
      (stays_off old clock new clock_new p ticks) (keeps_same old.fixed.numbers old.slots new.slots (works.read read).1)

  pub turn_down : (answer : DeviceTurn) → Turns answer old clock new clock_new → is_read old.stand ≡ true
      → StaysDown old clock new clock_new
  turn_down turn.Idle turns read = same_down turns.0.1 turns.0.2 (λ held. turns.1.now held)
  turn_down turn.Worked turns read = worked_down turns.0.1.0 turns.0.1.1 turns.0.1.2 (λ held. turns.1.now held) read
  turn_down turn.Off turns read = elim turns.0.1.1 [
    | inl still ↦ same_down still.2 still.3 (λ held. turns.1.now held)
    | inr cut ↦ absurd (not_both (is_read old.stand) cut.0.no_read read)
  ]
