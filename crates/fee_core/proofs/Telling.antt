-- What a device tells by its clock, and by that of its operations.
use Rattle.std.proofs.Common.{◌≡◌, inl, inr, ℕ, Bool, true, false, if◌then◌else◌, ◌==◌, List, [], ◌∷◌, map, Result, refl}
use Rattle.nv_base.specs.declared.instance.DeviceNumber.{DeviceNumber}
use Rattle.memif.specs.declared.answer.DeviceTurn.{DeviceTurn}
use Rattle.memif.specs.declared.answer.DeviceTurn.TheVariants.{Idle, Worked, Off}
use Rattle.memif.specs.declared.answer.StartFault.{StartFault}
use Rattle.memif.specs.Told.{DeviceTold, Part, First, Second, Job, Stand, Open, Ended, no_figures, at_number}
use Rattle.memif.specs.Clock.{SameClock, FindsNow, Ticks}
use Rattle.memif.specs.Calls.{InOrder, ClockStays, StartsUp, MayFail, JobTurns, Works, TurnsAs, Turns}
use Rattle.fee_laws.specs.fee_told.Device.{Device, clock_of}
use Rattle.fee_laws.specs.fee_told.Figures.{figures_for}
use Rattle.fee_core.specs.Tells.{told_clock}

-- WHAT STAYS
pub same_told : (d t : Device) → SameClock (clock_of d) (clock_of t) → SameClock (told_clock d) (told_clock t)
same_told d t same = record {
  may_find = same.may_find;
  off_in = λ k. ((λ x. (x.0, (same.off_in k).0 x.1)), (λ x. (x.0, (same.off_in k).1 x.1)));
  failed = same.failed;
  worn = same.worn;
  of_second = same.of_second;
  spare = same.spare;
  was = same.was;
}

finds_told : (told : DeviceTold) (d : Device) → FindsNow told (clock_of d) → FindsNow told (told_clock d)
finds_told told d finds m may = finds m may

pub order_told : (told : DeviceTold) (d : Device) → InOrder told (clock_of d) → InOrder told (told_clock d)
order_told told d order = record {
  bounded = order.bounded;
  fits = order.fits;
  ready = order.ready;
  wait = order.wait;
  second = order.second;
  now = finds_told told d order.now;
  told = order.told;
}

pub stays_told : (told : DeviceTold) (d t : Device) → ClockStays (clock_of d) told (clock_of t) → ClockStays (told_clock d) told (told_clock t)
stays_told told d t stays = record { same = same_told d t stays.same; order = order_told told t stays.order }

pub starts_told : (answer : Result (Unit {0}) StartFault) (old new : DeviceTold) (d t : Device) → StartsUp answer old (clock_of d) new (clock_of t)
    → StartsUp answer old (told_clock d) new (told_clock t)
starts_told answer old new d t starts = record {
  only = starts.only;
  comes_to = starts.comes_to;
  marks = starts.marks;
  first = starts.first;
  second = starts.second;
  clock_stays = stays_told new d t starts.clock_stays;
}

-- A TURN
fails_told : (p : Part) (j : Job) (old new : DeviceTold) (t : Device) → MayFail p j old new (clock_of t) → MayFail p j old new (told_clock t)
fails_told First j old new t may = may
fails_told Second j old new t may = may

jobs_told : (p : Part) (a b : Stand) (old new : DeviceTold) (t : Device) → JobTurns p a b old new (clock_of t) → JobTurns p a b old new (told_clock t)
jobs_told p (Open j) (Open k) old new t turns = turns
jobs_told p (Open j) (Ended result given) old new t turns = (turns.0, λ failed. fails_told p j old new t (turns.1 failed))
jobs_told p (Ended result given) b old new t turns = turns

works_told : (p : Part) (old new : DeviceTold) (t : Device) → Works p old new (clock_of t) → Works p old new (told_clock t)
works_told p old new t works = record {
  only = works.only;
  up = works.up;
  of = works.of;
  part = works.part;
  job = jobs_told p old.stand new.stand old new t works.job;
  read = works.read;
  nearer = works.nearer;
  ready = works.ready;
  seals = works.seals;
}

ticks_told : (p : Part) (answer : DeviceTurn) (old new : DeviceTold) (d t : Device) → Ticks p answer old (clock_of d) new (clock_of t)
    → Ticks p answer old (told_clock d) new (told_clock t)
ticks_told p answer old new d t ticks = record {
  past = record { after = ticks.past.after; cut = ticks.past.cut; failed = ticks.past.failed; worn = ticks.past.worn; of_second = ticks.past.of_second; spare = ticks.past.spare; was = ticks.past.was };
  cut = ticks.cut;
  off = λ k off. elim (ticks.off k off.1) [
    | inl was ↦ inl ((off.0, was.0), was.1)
    | inr goes ↦ inr goes
  ];
  failed = ticks.failed;
  part = ticks.part;
  kept = ticks.kept;
}

turned_told : (answer : DeviceTurn) (old new : DeviceTold) (d t : Device) → TurnsAs answer old (clock_of d) new (clock_of t) → TurnsAs answer old (told_clock d) new (told_clock t)
turned_told Idle old new d t turns = (turns.0, turns.1, same_told d t turns.2)
turned_told Worked old new d t turns = (turns.0, (turns.1.0, works_told turns.1.0 old new t turns.1.1, ticks_told turns.1.0 Worked old new d t turns.1.2))
turned_told Off old new d t turns = (
  turns.0,
  (
    turns.1.0,
    elim turns.1.1 [
      | inl off ↦ inl (off.0, off.1, off.2, same_told d t off.3)
      | inr cut ↦ inr (cut.0, ticks_told turns.1.0 Off old new d t cut.1)
    ],
  ),
)

pub turns_told : (answer : DeviceTurn) (old new : DeviceTold) (d t : Device) → Turns answer old (clock_of d) new (clock_of t) → Turns answer old (told_clock d) new (told_clock t)
turns_told answer old new d t turns = (turned_told answer old new d t turns.0, order_told new t turns.1)

-- THE PART OF EACH NUMBER
pub all_first : (p own : ℕ) (numbers : List (DeviceNumber × ℕ)) (n : ℕ) → (at_number no_figures numbers (map (λ x. figures_for p own x.1) numbers) n).part ≡ First
all_first p own [] n = refl
all_first p own (x ∷ xs) n = by (x.0.0 == n) (all_first p own xs n)
  where
    by : (t : Bool) → (at_number no_figures xs (map (λ y. figures_for p own y.1) xs) n).part ≡ First
        → (if t then figures_for p own x.1 else at_number no_figures xs (map (λ y. figures_for p own y.1) xs) n).part ≡ First
    by true rest = refl
    by false rest = rest
