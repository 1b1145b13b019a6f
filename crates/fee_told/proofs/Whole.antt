-- What a turn makes of a device as a whole.
use Rattle.std.specs.Prelude.{IfSome, IsTrue, if◌then◌else◌}
use Rattle.std.proofs.Common.{◌≡◌, ℕ, ◌<◌, ◌+◌, ◌∷◌, Bool, true, false, List, [], length, Option, Some, None, sym, ap, ◌∙◌, subst, arith, length-append}
use Rattle.nv_base.specs.declared.mark.Mark.{Mark}
use Rattle.memif.specs.Told.{Slot, Job, slot_at}
use Rattle.memif.specs.Marks.{IsPossible, Keeps, DoubtsAt}
use Rattle.fls_model.specs.Op.{Op, Program, Erase, MayLeave}
use Rattle.fls_model.specs.Told.{Change, bytes_now}
use Rattle.fee_image.specs.Sound.{IsSoundImage}
use Rattle.fee_image.specs.May.{held_written}
use Rattle.promise_device.specs.Making.{banks_of}
use Rattle.promise_device.specs.Image.{held_in}
use Rattle.promise_device.proofs.Readings.{sound_flashes_compute}
use Rattle.fls_told.specs.Device.{slot_with}
use Rattle.fls_told.specs.Clock.{ImageIsPossible}
use Rattle.fls_told.specs.Tells.{AreTold, OneSettles}
use Rattle.fls_told.proofs.Clocks.{clocks_find_now, now_behind}
use Rattle.fls_told.proofs.Tells.{tells_doubt, tells_keep, tells_settle}
use Rattle.fee_told.specs.Slots.{banks_with, slots_held, slots_found, may_told, held_of}
use Rattle.fee_told.specs.SlotLaws.{Opened}
use Rattle.fee_told.specs.Device.{Device, layout_in, flash_device, slots_in, told_of}
use Rattle.fee_told.specs.Whole.{HeldFindsNow, UnstartedFindsNow, CutsAreTold, ToldBehind, AreStarted, KeptIsTold, CommitsAreTold, OpensAreTold}
use Rattle.fee_told.proofs.Held.{images_find}
use Rattle.fee_told.proofs.Kept.{kept_is_found}
use Rattle.fee_told.proofs.Steps.{unstarted_is_found}
use Rattle.fee_told.proofs.Attached.{images_attach}

-- BYTES
both_some : (o : Option (List ℕ)) (P Q R : List ℕ → Type 0) → IfSome o P → IfSome o Q → ((bytes : List ℕ) → P bytes → Q bytes → R bytes) → IfSome o R
both_some None P Q R p q both = tt
both_some (Some bytes) P Q R p q both = both bytes p q

-- a started device tells the slots that it holds
slots_are : (d : Device) (bytes : List ℕ) → d.started ≡ true → slots_in d bytes ≡ slots_held (layout_in d) d.making.numbers bytes d.memory
slots_are d bytes started = ap (λ (b : Bool). if b then slots_held (layout_in d) d.making.numbers bytes d.memory else slots_found (layout_in d) d.making.numbers bytes) started

same_size : (op : Op) (bytes image : List ℕ) → MayLeave op bytes image → length image ≡ length bytes
same_size (Program address page) bytes image leaves = leaves.0.size
same_size (Erase address n) bytes image leaves = leaves.0.size

-- what is found in an image, by the slots that it tells
possible_in : (d : Device) (bytes image : List ℕ) → d.started ≡ true → 0 < length image
    → ((n : ℕ) → IsPossible (slot_at d.making.numbers (slots_held (layout_in d) d.making.numbers bytes d.memory) n) (held_of (layout_in d) d.making.numbers image n))
    → ImageIsPossible (flash_device d) bytes image
possible_in d bytes image started some possible n =
    subst (λ (s : List Slot). IsPossible (slot_at d.making.numbers s n) (held_in d.making image n)) (sym (slots_are d bytes started))
    (subst (IsPossible (slot_at d.making.numbers (slots_held (layout_in d) d.making.numbers bytes d.memory) n)) (sym ((images_attach d.making image some).0 n)) (possible n))

-- NOW
pub held_finds_now : HeldFindsNow
held_finds_now d copied holds = clocks_find_now (flash_device d) (λ told.
    both_some (bytes_now d.flash) _ _ (λ bytes. ImageIsPossible (flash_device d) bytes bytes) holds.some (holds.held told) (λ bytes some held.
    possible_in d bytes bytes holds.started some
    (images_find (layout_in d) d.making.numbers (slots_held (layout_in d) d.making.numbers bytes d.memory) bytes (banks_with d.memory (may_told (layout_in d) d.making.numbers bytes d.memory) copied) holds.legal held.banks (λ number size x is. is))))

found_are : (d : Device) (bytes : List ℕ) → d.started ≡ false → slots_in d bytes ≡ slots_found (layout_in d) d.making.numbers bytes
found_are d bytes started = ap (λ (b : Bool). if b then slots_held (layout_in d) d.making.numbers bytes d.memory else slots_found (layout_in d) d.making.numbers bytes) started

pub unstarted_finds_now : UnstartedFindsNow
unstarted_finds_now d started some = clocks_find_now (flash_device d) (λ told.
    both_some (bytes_now d.flash) _ _ (λ bytes. ImageIsPossible (flash_device d) bytes bytes) some some (λ bytes more same n.
    subst (λ (s : List Slot). IsPossible (slot_at d.making.numbers s n) (held_in d.making bytes n)) (sym (found_are d bytes started))
    (subst (IsPossible (slot_at d.making.numbers (slots_found (layout_in d) d.making.numbers bytes) n)) (sym ((images_attach d.making bytes more).0 n)) (unstarted_is_found (layout_in d) d.making.numbers bytes n))))

-- CUTS
pub cuts_are_told : CutsAreTold
cuts_are_told op d copied holds sound keep = (
  λ told. both_some (bytes_now d.flash) _ _ (λ bytes. (image : List ℕ) → MayLeave op bytes image → ImageIsPossible (flash_device d) bytes image) holds.some (keep told) (λ bytes some kept image leaves.
      let k = kept image leaves in
      let more : 0 < length image = omega (arith, same_size op bytes image leaves) in
      possible_in d bytes image holds.started more (kept_is_found (layout_in d) d.making.numbers bytes image d.memory k.behind k.copied holds.legal k.kept)),
  λ told. both_some (bytes_now d.flash) _ _ (λ bytes. (image : List ℕ) → MayLeave op bytes image → IsTrue ((flash_device d).reading.is_sound image))
      (both_some (bytes_now d.flash) _ _ (λ bytes. IsSoundImage (layout_in d) bytes × (0 < length bytes)) holds.some (sound told) (λ bytes some is. ((images_attach d.making bytes some).1.0 ((sound_flashes_compute d.making bytes).0 is), some)))
      (keep told) (λ bytes was kept image leaves.
      let k = kept image leaves in
      let more : 0 < length image = (let some = was.1 in omega (arith, same_size op bytes image leaves)) in
      (sound_flashes_compute d.making image).1 ((images_attach d.making image more).1.1 (k.kept.sound was.0))),
)

-- BEFORE AND AFTER
pub told_behind : ToldBehind
told_behind d before change is told = now_behind (flash_device d) (let more : length d.operations ≡ length before + 1 = ap (length {A = Change}) is ∙ length-append before (change ∷ []) in omega arith) told

module _ (d t : Device) (are : AreStarted d t) (old new : List ℕ) where
  was_is : (n : ℕ) → slot_with (flash_device d) old n ≡ slot_at d.making.numbers (slots_held (layout_in d) d.making.numbers old d.memory) n
  was_is n = ap (λ (s : List Slot). slot_at d.making.numbers s n) (slots_are d old are.old)

  now_is : (n : ℕ) → slot_with (flash_device t) new n ≡ slot_at d.making.numbers (slots_held (layout_in d) d.making.numbers new t.memory) n
  now_is n = ap (λ (s : List Slot). slot_at t.making.numbers s n) (slots_are t new are.new) ∙ (λ i. slot_at (are.making i).numbers (slots_held (banks_of (are.making i)) (are.making i).numbers new t.memory) n)

  pub by_slots : (P : Slot → Slot → Type 0) (n : ℕ) → P (slot_at d.making.numbers (slots_held (layout_in d) d.making.numbers old d.memory) n) (slot_at d.making.numbers (slots_held (layout_in d) d.making.numbers new t.memory) n) → P (slot_with (flash_device d) old n) (slot_with (flash_device t) new n)
  by_slots P n holds = subst (λ (s : Slot). P s (slot_with (flash_device t) new n)) (sym (was_is n)) (subst (P (slot_at d.making.numbers (slots_held (layout_in d) d.making.numbers old d.memory) n)) (sym (now_is n)) holds)

pub kept_is_told : KeptIsTold
kept_is_told d t copied are kept = tells_keep (flash_device d) (flash_device t) are.same (λ old new told n. by_slots d t are old new Keeps n ((kept old new told).keeps n))

pub commits_are_told : CommitsAreTold
commits_are_told d t copied r body are committed =
    tells_settle (flash_device d) (flash_device t) r.number.0 (held_written r body).mark are.same
    (λ old new told n. by_slots d t are old new (OneSettles r.number.0 (held_written r body).mark n) n ((committed old new told).settles n))

opens_as : (d t : Device) (j : Job) (o : Option Mark) → AreStarted d t → ((old new : List ℕ) → AreTold (flash_device d) (flash_device t) old new → (n : ℕ) → Opened j n (slot_with (flash_device d) old n) (slot_with (flash_device t) new n) o) → DoubtsAt j.number o (told_of d) (told_of t)
opens_as d t j None are opened = tells_keep (flash_device d) (flash_device t) are.same opened
opens_as d t j (Some mark) are opened = tells_doubt (flash_device d) (flash_device t) j.number mark are.same opened

pub opens_are_told : OpensAreTold
opens_are_told d t j are opened = opens_as d t j j.mark are opened
