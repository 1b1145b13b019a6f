use Rattle.std.specs.Prelude.{IsSomeAnd}
use Rattle.std.proofs.Common.{◌≡◌, ◌≤◌, ◌+◌, length, take}
use Rattle.nvm.specs.nv_base.Lengths.{last_or}
use Rattle.nvm.specs.nv_base.Marks.{next_or}
use Rattle.nvm.specs.memif.Told.{slot_at}
use Rattle.nvm.specs.fls_model.Told.{bytes_now}
use Rattle.nvm.specs.nvm_flash.fee_told.Device.{slots_in}
use Rattle.nvm.specs.nvm_flash.nvm_laws.Standing.{marks_standing}
use Rattle.nvm_c.proofs.standing.marks_standing.Given as goal

abbrev pub invariant-loop-item : goal.invariant-loop-item
invariant-loop-item g l = record {
  marks : IsSomeAnd (bytes_now l.fn.device.flash) (λ bytes. l.marks.marks ≡ marks_standing (λ n. (slot_at l.fn.device.making.numbers (slots_in l.fn.device bytes) n).settled.mark) (take l.item-index l.fn.numbers));
  above : next_or 0 l.marks.marks ≤ last_or 0 (take l.item-index l.fn.numbers) + 1;
  room : length l.fn.numbers ≤ l.marks.room + l.item-index;
}
