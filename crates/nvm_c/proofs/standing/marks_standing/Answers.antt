use Rattle.std.specs.Prelude.{IsSomeAnd}
use Rattle.std.proofs.Common.{◌≡◌, ◌<◌, ◌≤◌, ◌+◌, ◌++◌, ◌∷◌, [], ℕ, List, Some, length, take, get_or, sym, ap, ◌∙◌, subst, arith}
use Rattle.std.proofs.lemmas.List.{take_more}
use Rattle.nvm.specs.nv_base.Lengths.{AreLengths, last_or}
use Rattle.nvm.specs.nv_base.Marks.{next_or}
use Rattle.nvm.specs.nv_base.declared.instance.DeviceNumber.{DeviceNumber}
use Rattle.nvm.specs.nv_base.declared.instance.Instance.{Instance}
use Rattle.nvm.specs.nv_base.declared.mark.Mark.{Mark}
use Rattle.nvm.specs.memif.Told.{length_of, slot_at}
use Rattle.nvm.specs.fls_model.Told.{bytes_now}
use Rattle.nvm.specs.nvm_flash.fee_told.Device.{slots_in}
use Rattle.nvm.specs.nvm_flash.nvm_laws.Standing.{marks_standing}
use Rattle.nvm_c.proofs.StandingMarks.{above_last, configured_at, last_more, listed_more, next_on, some_bytes}
use Rattle.nvm_c.proofs.standing.marks_standing.Goals as goal

pub mark_of-requires-clause-configured : goal.mark_of-requires-clause-configured
mark_of-requires-clause-configured g c =
    let is = c.as_slice-item-items.ensures.value in
    let xs = c.as_slice-item-items.result.now in
    let ascend = subst (λ (ns : List (DeviceNumber × ℕ)). AreLengths 0 ns) (sym is) c.as_slice-item-items.ensures.bounds in
    subst (λ (ns : List (DeviceNumber × ℕ)). length_of ns (get_or xs c.loop-item.item-index (record { 0 = 0 }, 0)).0.0 ≡ Some (get_or xs c.loop-item.item-index (record { 0 = 0 }, 0)).1) (is ∙ c.requires.numbers)
    (configured_at 0 xs c.loop-item.item-index (record { 0 = 0 }, 0) ascend (omega arith))

pub add-requires-clause-above : goal.add-requires-clause-above
add-requires-clause-above g c =
    let is = c.as_slice-item-items.ensures.value in
    let ns = c.args.numbers.now in
    let few : c.loop-item.item-index < length ns = (let same = ap length is in omega (arith, same)) in
    let last = above_last 0 ns c.loop-item.item-index (record { 0 = 0 }, 0) c.as_slice-item-items.ensures.bounds few in
    let before = c.loop-item.invariant.above in
    subst (λ (ys : List (DeviceNumber × ℕ)). next_or 0 c.loop-item.marks.marks ≤ (get_or ys c.loop-item.item-index (record { 0 = 0 }, 0)).0.0) (sym is) (omega (arith, last, before))

pub add-requires-clause-some : goal.add-requires-clause-some
add-requires-clause-some g c =
    let is = c.as_slice-item-items.ensures.value in
    let xs = c.as_slice-item-items.result.now in
    let ascend = subst (λ (ns : List (DeviceNumber × ℕ)). AreLengths 0 ns) (sym is) c.as_slice-item-items.ensures.bounds in
    some_bytes 0 xs c.loop-item.item-index (record { 0 = 0 }, 0) ascend (omega arith)

pub loop-item-preserved : goal.loop-item-preserved
loop-item-preserved g c =
    let is = c.as_slice-item-items.ensures.value in
    let ns = c.args.numbers.now in let xs = c.as_slice-item-items.result.now in let i = c.loop-item.item-index in
    let x : DeviceNumber × ℕ = get_or xs i (record { 0 = 0 }, 0) in
    let few : i < length ns = (let same = ap length is in omega (arith, same)) in
    let more : take (i + 1) ns ≡ take i ns ++ x ∷ [] = take_more ns i (record { 0 = 0 }, 0) few ∙ ap (λ (ys : List (DeviceNumber × ℕ)). take i ns ++ get_or ys i (record { 0 = 0 }, 0) ∷ []) (sym is) in
    let last : last_or 0 (take (i + 1) ns) ≡ x.0.0 = ap (λ (ys : List (DeviceNumber × ℕ)). last_or 0 ys) more ∙ last_more 0 (take i ns) x in
    let own = above_last 0 ns i (record { 0 = 0 }, 0) c.as_slice-item-items.ensures.bounds few in
    let at : (get_or ns i (record { 0 = 0 }, 0)).0.0 ≡ x.0.0 = ap (λ (ys : List (DeviceNumber × ℕ)). (get_or ys i (record { 0 = 0 }, 0)).0.0) (sym is) in
    let before = c.loop-item.invariant.above in
    let next = next_on c.loop-item.marks.marks x.0 c.in_ok-mark.mark (omega (arith, own, at, before)) in
    let next_added : next_or 0 c.add.new.marks.marks ≤ x.0.0 + 1 = subst (λ (ms : List (Instance × Mark)). next_or 0 ms ≤ x.0.0 + 1) (sym c.add.ensures.marks) next in
    record {
      marks = subst (λ (ys : List (DeviceNumber × ℕ)). IsSomeAnd (bytes_now c.args.device.now.flash) (λ bytes. c.add.new.marks.marks ≡ marks_standing (λ n. (slot_at c.args.device.now.making.numbers (slots_in c.args.device.now bytes) n).settled.mark) ys)) (sym more)
          (listed_more (bytes_now c.args.device.now.flash) c.loop-item.marks.marks c.add.new.marks.marks (λ bytes n. (slot_at c.args.device.now.making.numbers (slots_in c.args.device.now bytes) n).settled.mark)
          (take i ns) x c.in_ok-mark.mark c.add.ensures.marks c.loop-item.invariant.marks c.in_ok-mark.ensures.settled);
      above = omega (arith, next_added, last);
      room = (let room = c.loop-item.invariant.room in let left = c.add.ensures.room in omega (arith, room, left));
    }
