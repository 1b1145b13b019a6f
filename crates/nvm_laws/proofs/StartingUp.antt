-- Around a start-up.
use Rattle.std.proofs.Common.{◌≡◌, ◌<◌, ℕ, sym, subst, inl, arith}
use Rattle.memif.specs.Told.{DeviceTold}
use Rattle.memif.specs.Clock.{Clock}
use Rattle.block_machine.specs.Words.{Found}
use Rattle.promise_blocks.specs.OverDevice.{HasStarted}
use Rattle.nv_desk_copies.specs.nv_desk.Desk.{DeskState}
use Rattle.nvm_device_laws.proofs.DownCalls.{comes_down}
use Rattle.nvm_device_laws.proofs.Pushed.{started_push}
use Rattle.nvm_laws.proofs.Keeping.{early_begins}
use Rattle.nvm_laws.specs.StartUps.{StacksBegin, StacksComeDown, StacksComeUp}

-- no operation was made, and no start-up
none_counted : (ops k : ℕ) → ops ≡ 0 → k < ops → ⊥
none_counted ops k none within = absurd (omega (arith, none, within))

pub stacks_begin : (d : DeviceTold) (clock : Clock) → StacksBegin d clock
stacks_begin d clock c cap before in_order ops starts keeps = record {
  all = λ told. record {
    keeps = keeps;
    order = λ k small within. absurd (none_counted d.ops k ops within);
    starts = record { failed = λ p. 0; counted = λ p. inl (omega arith); all = starts };
  };
  begun = in_order.told;
  early = λ tells. early_begins c cap clock;
}

pub stacks_come_down : (d : DeviceTold) (clock : Clock) → StacksComeDown d clock
stacks_come_down d clock before desk hand kept = record {
  all = λ told. let all = kept.all told in record { keeps = comes_down d clock desk.config desk.cap desk.entries before all.keeps; order = all.order; starts = all.starts };
  begun = kept.begun;
  early = kept.early;
}

pub stacks_come_up : (d : DeviceTold) (clock : Clock) → StacksComeUp d clock
stacks_come_up d clock before old new marks ops adds keeps order starts = record {
  started = subst (λ (x : DeskState). HasStarted x.entries) (sym adds) (started_push old.entries (Found marks ops));
  keeps = keeps;
  fits = tt;
  paid = tt;
  order = order;
  starts = starts;
}
