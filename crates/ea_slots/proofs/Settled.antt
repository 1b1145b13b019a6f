-- What a number is shown to hold.
use Rattle.std.specs.Prelude.{IfSome, option_map, is_some}
use Rattle.std.proofs.Common.{◌≡◌, ℕ, Bool, true, false, if◌then◌else◌, List, Option, Some, None, refl, sym, ap, ◌∙◌, subst}
use Rattle.nv_base.specs.declared.instance.DeviceNumber.{DeviceNumber}
use Rattle.memif.specs.declared.answer.PlainMark.{PlainMark}
use Rattle.memif.specs.Told.{Slot, no_slot, slot_at, length_of, Stand}
use Rattle.memif.specs.Calls.{IsKind, kind_of}
use Rattle.fee_format.specs.declared.rec_head.RecordKind.{RecordKind}
use Rattle.fee_format.specs.declared.rec_head.RecordKind.TheVariants.{Content, Invalid, Erased}
use Rattle.fls_model.specs.Told.{Told, bytes_now}
use Rattle.ea_told.specs.fls_told.Device.{tells_now}
use Rattle.ea_image.specs.declared.slot_head.SlotHead.{SlotHead}
use Rattle.ea_image.specs.Memory.{held_with}
use Rattle.ea_image.specs.Slots.{SlotBytes, slot_bytes, mark_shown}
use Rattle.ea_told.specs.declared.state.SlotState.{SlotState}
use Rattle.ea_told.specs.Making.{Making, entry_of, at_entry}
use Rattle.ea_told.specs.Parts.{Parts}
use Rattle.ea_told.specs.Device.{state_at, slot_told, slots_in, job_leaves, stand_of, flash_device, told_of}
use Rattle.ea_told.proofs.Lists.{at_listed}
use Rattle.ea_slots.specs.Shown.{plain_mark, settled_mark}

by_kind : (k : RecordKind) (bytes : List ℕ) → plain_mark k ≡ kind_of (mark_shown k bytes)
by_kind Content bytes = refl
by_kind Invalid bytes = refl
by_kind Erased bytes = refl

by_head : (o : Option SlotHead) (b : SlotBytes) → settled_mark o ≡ kind_of (held_with o b).mark
by_head None b = refl
by_head (Some h) b = by_kind h.kind _

each_slots : (b : Bool) (f : List ℕ → List Slot) (o : Option (List ℕ)) (P : List Slot → Type 0) → ((bytes : List ℕ) → P (f bytes)) → IfSome (if b then option_map f o else None) P
each_slots true f None P each = tt
each_slots true f (Some bytes) P each = each bytes
each_slots false f o P each = tt

in_slots : (m : Making) (states : List SlotState) (stand : Stand) (bytes : List ℕ) (n i : ℕ) (x : DeviceNumber × ℕ) → entry_of m n ≡ Some (i, x) → (b : Bool) → b ≡ true
    → settled_mark (state_at states i).memory.settled ≡ kind_of (slot_at m.numbers (slots_in m b states stand bytes) n).settled.mark
in_slots m states stand bytes n i x is false up = cc up
in_slots m states stand bytes n i x is true up =
    let told : ℕ → DeviceNumber × ℕ → Slot = λ k y. slot_told (state_at states k).memory (slot_bytes m.geometry bytes k) (job_leaves stand y.0.0) in
    let at : slot_at m.numbers (slots_in m true states stand bytes) n ≡ told i x = at_listed no_slot told 0 m.numbers n ∙ ap (at_entry no_slot told) is in
    by_head (state_at states i).memory.settled _ ∙ sym (ap (λ (s : Slot). kind_of s.settled.mark) at)

mark_is : (m : Making) (entry : Told) (s : Parts) (n i : ℕ) (x : DeviceNumber × ℕ) → entry_of m n ≡ Some (i, x)
    → IfSome (told_of m entry s).slots (λ slots. s.started ≡ true → settled_mark (state_at s.states i).memory.settled ≡ kind_of (slot_at m.numbers slots n).settled.mark)
mark_is m entry s n i x is = each_slots (tells_now (flash_device m entry s)) (slots_in m s.started s.states (stand_of s.content s.job s.last s.given)) (bytes_now s.fls.flash)
    (λ slots. s.started ≡ true → settled_mark (state_at s.states i).memory.settled ≡ kind_of (slot_at m.numbers slots n).settled.mark)
    (λ bytes. in_slots m s.states (stand_of s.content s.job s.last s.given) bytes n i x is s.started)

pub shows : (m : Making) (entry : Told) (s : Parts) (n : DeviceNumber) (i size : ℕ) (k : PlainMark) → entry_of m n.0 ≡ Some (i, (n, size)) → length_of m.numbers n.0 ≡ Some size → k ≡ settled_mark (state_at s.states i).memory.settled
    → IsKind (told_of m entry s) n.0 (Some k)
shows m entry s n i size k is sized kind = record {
  configured = sym (ap (λ (o : Option ℕ). is_some o) sized);
  kind = subst (λ (x : PlainMark). IfSome (told_of m entry s).slots (λ slots. s.started ≡ true → x ≡ kind_of (slot_at m.numbers slots n.0).settled.mark)) (sym kind) (mark_is m entry s n.0 i (n, size) is);
}
