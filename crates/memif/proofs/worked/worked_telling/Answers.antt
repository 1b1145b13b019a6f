use Rattle.std.proofs.Common.{◌≡◌, true, false, inl, inr, refl, arith}
use Rattle.memif.specs.Told.{DeviceTold, no_part}
use Rattle.memif.specs.Calls.{FaultsGrow, Works, InOrder}
use Rattle.memif.specs.Told.{First}
use Rattle.memif.specs.Plain.{no_clock}
use Rattle.memif.specs.Worked.{doubtful, at_work, the_write, after_success, silent}
use Rattle.memif.proofs.PlainCalls.{ticks}
use Rattle.memif.proofs.worked.worked_telling.Goals as goal

no_faults : FaultsGrow no_part no_part
no_faults = record { faults = omega arith; flash = omega arith; tied = inl (omega arith) }

abbrev begun : DeviceTold
begun = at_work the_write doubtful

abbrev done : DeviceTold
done = silent after_success

works : Works First begun done no_clock
works = record {
  only = refl;
  up = refl;
  of = (tt, refl);
  part = record { only = refl; on = refl; later = omega arith; one = inr refl; plan = inr (record { early = λ due. due; planning = refl }, refl); faults = no_faults };
  job = ((tt, refl), λ failed. cc);
  read = λ is. cc;
  nearer = inl (omega arith);
  ready = λ calm. omega arith;
  seals = λ k ops small is. absurd is;
}

ordered : InOrder done no_clock
ordered = record {
  bounded = omega arith;
  fits = omega arith;
  ready = omega arith;
  wait = λ h. (0, refl, omega arith);
  second = λ h. refl;
  now = λ m finds. absurd finds;
  told = λ tells none. absurd (omega (arith, none));
}

not_told : false ≡ true → ⊥
not_told is = cc

pub returns-clause-stops_with_an_operation : goal.returns-clause-stops_with_an_operation
returns-clause-stops_with_an_operation c = ((refl, (First, works, ticks begun done)), ordered)

pub returns-clause-stops_before_one : goal.returns-clause-stops_before_one
returns-clause-stops_before_one c = λ accepts. not_told (accepts.1.order.told refl refl)

pub returns-clause-begins : goal.returns-clause-begins
returns-clause-begins c = λ accepts. accepts.0.1.marks
