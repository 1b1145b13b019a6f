use Rattle.std.proofs.Common.{◌≡◌, ◌≤◌, ◌-◌, None, length}
use Rattle.std.specs.Prelude.{IfSome}
use Rattle.nv_base.specs.Geometry.{pages_of_bank}
use Rattle.fee_image.specs.Image.{layout_of}
use Rattle.fee_switch.specs.Start.{GoesOn, HasComing, IsSameShape}
use Rattle.fee_switch.proofs.loading.read_on.Given as goal

abbrev pub invariant-loop-done : goal.invariant-loop-done
invariant-loop-done g l = record {
  inside : l.done ≤ pages_of_bank l.geometry l.banks;
  fls : l.fls ≡ record l.initial.fls { result = l.fls.result };
  size : length l.buffer ≡ length l.initial.buffer;
  shape : IsSameShape l.initial.log l.log;
  coming : IfSome l.coming (HasComing l.bank l.done l.log);
  none : l.coming ≡ None → (l.initial.coming ≡ None) × (l.log ≡ l.initial.log);
  seen : IfSome l.initial.fls.flash.bytes (λ b. GoesOn (layout_of l.geometry l.banks) b.now l.bank l.initial.coming l.initial.log l.coming l.log);
}

abbrev pub decreases-loop-done : goal.decreases-loop-done
decreases-loop-done g l = l.pages - l.done
