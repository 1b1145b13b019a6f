-- Where what a number holds stands.
use Rattle.std.specs.Prelude.{Contains, IfSome, is_some, map, if◌then◌else◌}
use Rattle.std.proofs.Common.{◌≡◌, ◌⊎◌, inl, inr, ◌≤◌, ◌+◌, ◌==◌, ℕ, Bool, true, List, [], ◌∷◌, Option, Some, None, refl, sym, ap, ◌∙◌, subst}
use Rattle.std.proofs.lemmas.Bool.{cond_both}
use Rattle.nv_base.specs.Geometry.{address_of_page, size_of}
use Rattle.nv_base.specs.Pages.{record_pages_of}
use Rattle.nv_base.specs.declared.geometry.Geometry.{Geometry}
use Rattle.nv_base.specs.declared.instance.DeviceNumber.{DeviceNumber}
use Rattle.nv_base.specs.declared.mark.Mark.TheVariants as mark
use Rattle.memif.specs.Told.{Held, never_written, at_number, length_of, slot_at}
use Rattle.fls_model.specs.Bytes.{piece}
use Rattle.fls_model.specs.Told.{Told}
use Rattle.fls_jobs.specs.State.{IsDriverState}
use Rattle.fee_image.specs.Image.{bank_in}
use Rattle.fee_image.specs.declared.place.Place.{Place}
use Rattle.fee_image.specs.declared.place.Place.TheVariants.{Content, Invalid, Erased, Unwritten}
use Rattle.fee_image.specs.Places.{IsWithin, held_at}
use Rattle.fee_image.specs.Doubts.{shown_of}
use Rattle.fee_laws.specs.fee_switch.declared.active.ActiveBank.{ActiveBank}
use Rattle.fee_laws.specs.fee_switch.Banks.{IsBanksState}
use Rattle.fee_laws.specs.fee_switch_laws.Shown.{old_shown}
use Rattle.fee_laws.specs.fee_log.Index.{place_in}
use Rattle.fee_laws.specs.fee_log.Log.{LogState, work_in}
use Rattle.promise_device.specs.Making.{Making, banks_of}
use Rattle.fee_laws.specs.fee_told.Slots.{job_leaves, settled_in, slots_found, slots_held}
use Rattle.fee_laws.specs.fee_told.Device.{slots_in}
use Rattle.fee_laws.specs.Inside.{Parts, IsSound, body_of, device_of, memory_of}
use Rattle.fee_laws.proofs.Marks.{settled_of, shows_at}
use Rattle.fee_laws.proofs.SwitchEnded.{is_listed}
use Rattle.fee_core.specs.Whole.{Whole, Sound}
use Rattle.fee_core.specs.MarkPlaces.{IsMarkPlace, LiesWithin, mark_placed}
use Rattle.fee_core.specs.declared.mark_place.MarkPlace.{MarkPlace}
use Rattle.fee_core.specs.declared.mark_place.MarkPlace.TheVariants as place

erased_at : (ns : List (DeviceNumber × ℕ)) (n : ℕ) → at_number never_written ns (map (λ (x : DeviceNumber × ℕ). never_written) ns) n ≡ never_written
erased_at [] n = refl
erased_at (x ∷ xs) n = cond_both (x.0.0 == n) never_written (at_number never_written xs (map (λ (y : DeviceNumber × ℕ). never_written) xs) n) (λ (k : Held). k ≡ never_written) (λ e. refl) (λ e. erased_at xs n)

module _ (m : Making) (entry : Told) (s : Parts) (started : s.started ≡ true) (numbers : s.banks.log.numbers ≡ m.numbers) (n size : ℕ) (configured : length_of m.numbers n ≡ Some size) where
  -- what is settled, by the active bank
  settled_is : (bytes : List ℕ) (o : Option ActiveBank) → s.banks.active ≡ o
      → (slot_at m.numbers (slots_in (device_of m entry s) bytes) n).settled ≡ at_number never_written m.numbers (settled_in (banks_of m) m.numbers bytes (old_shown o s.banks.log (body_of (work_in s.banks.log.tail) s.content))) n
  settled_is bytes o at =
      ap (λ (b : Bool). (slot_at m.numbers (if b then slots_held (banks_of m) m.numbers bytes (memory_of s) else slots_found (banks_of m) m.numbers bytes) n).settled) started
      ∙ settled_of (shown_of (banks_of m) bytes (memory_of s).old) (job_leaves (memory_of s).stand) m.numbers (settled_in (banks_of m) m.numbers bytes (memory_of s).old) n
      ∙ ap (λ (x : Option ActiveBank). at_number never_written m.numbers (settled_in (banks_of m) m.numbers bytes (old_shown x s.banks.log (body_of (work_in s.banks.log.tail) s.content))) n) at

  pub none_settled : s.banks.active ≡ None → (bytes : List ℕ) → (slot_at m.numbers (slots_in (device_of m entry s) bytes) n).settled.mark ≡ mark.Erased
  none_settled none bytes = ap (λ (h : Held). h.mark) (settled_is bytes None none ∙ erased_at m.numbers n)

  pub place_settled : (a : ActiveBank) → s.banks.active ≡ Some a → (p : Place) → place_in s.banks.log.numbers s.banks.log.places n ≡ p → (bytes : List ℕ)
      → (slot_at m.numbers (slots_in (device_of m entry s) bytes) n).settled.mark ≡ (held_at (bank_in (banks_of m) a.head.format a.bank) bytes size p).mark
  place_settled a active p place bytes =
      ap (λ (h : Held). h.mark)
      (settled_is bytes (Some a) active
      ∙ shows_at (bank_in (banks_of m) a.head.format a.bank) bytes m.numbers s.banks.log.places n size configured
      ∙ ap (λ (ns : List (DeviceNumber × ℕ)). held_at (bank_in (banks_of m) a.head.format a.bank) bytes size (place_in ns s.banks.log.places n)) (sym numbers)
      ∙ ap (held_at (bank_in (banks_of m) a.head.format a.bank) bytes size) place)

-- THE ANSWER
placed_by : (m : Making) (log : LogState) (q size : ℕ) (g : Geometry) (banks bank : ℕ) → log.geometry ≡ g → log.banks ≡ banks → log.bank ≡ bank → (bytes : List ℕ)
    → piece (address_of_page g banks bank (q + 2)) size bytes ≡ piece (address_of_page log.geometry log.banks log.bank (q + 2)) size bytes
placed_by m log q size g banks bank shape shared is bytes = λ i. piece (address_of_page (sym shape i) (sym shared i) (sym is i) (q + 2)) size bytes

some_active : (o : Option ActiveBank) → is_some o ≡ true → (a : ActiveBank) × (o ≡ Some a)
some_active None some = cc some
some_active (Some a) some = (a, refl)

-- a content that is found lies before the end of its log
pub place_within : (m : Making) (log : LogState) (n size at count : ℕ) (p : Place) → log.numbers ≡ m.numbers → length_of m.numbers n ≡ Some size
    → ((length : ℕ) → Contains log.numbers (record { 0 = n }, length) → IsWithin log.geometry.page log.end length p) → p ≡ Content at count → at + record_pages_of size log.geometry.page ≤ log.end
place_within m log n size at count p same configured within is =
    let listed = subst (λ (ns : List (DeviceNumber × ℕ)). Contains ns (record { 0 = n }, size)) (sym same) (is_listed m.numbers n size configured) in
    (subst (λ (x : Place). IsWithin log.geometry.page log.end size x) is (within size listed)).1

module _ {m : Making} {entry : Told} {w v : Whole} (shown : w ≡ v) (sound : Sound m entry v) (started : v.parts.started ≡ true) (n size : ℕ) (configured : length_of m.numbers n ≡ Some size) where
  abbrev s : Parts
  s = w.parts

  pub safe : IsSound m entry s w.numbers w.reserve w.ops w.off
  safe = (subst (Sound m entry) (sym shown) sound).parts

  on : s.started ≡ true
  on = ap (λ (x : Whole). x.parts.started) shown ∙ started

  placed_at : (at : MarkPlace) → ((bytes : List ℕ) → (slot_at m.numbers (slots_in (device_of m entry s) bytes) n).settled.mark ≡ mark_placed at size bytes) → LiesWithin (size_of s.fls.flash.geometry) size at
      → IsMarkPlace (device_of m entry v.parts) n size at
  placed_at at settled within = subst (λ (x : Whole). IsMarkPlace (device_of m entry x.parts) n size at) shown (record { settled = settled; within = within })

  -- no bank is active
  pub none_placed : s.banks.active ≡ None → IsMarkPlace (device_of m entry v.parts) n size place.Erased
  none_placed none = placed_at place.Erased (none_settled m entry s on safe.made_for.numbers n size configured none) tt

  module _ (log : LogState) (active : is_some s.banks.active ≡ true) (same : log ≡ s.banks.log) where
    -- at this place
    found_at : (p : Place) → p ≡ place_in log.numbers log.places n → (at : MarkPlace)
        → ((a : ActiveBank) → s.banks.active ≡ Some a → (bytes : List ℕ) → (held_at (bank_in (banks_of m) a.head.format a.bank) bytes size p).mark ≡ mark_placed at size bytes)
        → LiesWithin (size_of s.fls.flash.geometry) size at → IsMarkPlace (device_of m entry v.parts) n size at
    found_at p found at shows within =
        let (a, is) = some_active s.banks.active active in
        let here = ap (λ (l : LogState). place_in l.numbers l.places n) (sym same) ∙ sym found in
        placed_at at (λ bytes. place_settled m entry s on safe.made_for.numbers n size configured a is p here bytes ∙ shows a is bytes) within

    pub invalid_placed : (p : Place) (count : ℕ) → p ≡ place_in log.numbers log.places n → p ≡ Invalid count → IsMarkPlace (device_of m entry v.parts) n size place.Invalid
    invalid_placed p count found is = found_at (Invalid count) (sym is ∙ found) place.Invalid (λ a at bytes. refl) tt

    pub erased_placed : (p : Place) → p ≡ place_in log.numbers log.places n → ((count : ℕ) × (p ≡ Erased count)) ⊎ (p ≡ Unwritten) → IsMarkPlace (device_of m entry v.parts) n size place.Erased
    erased_placed p found (inl (count, is)) = found_at (Erased count) (sym is ∙ found) place.Erased (λ a at bytes. refl) tt
    erased_placed p found (inr is) = found_at Unwritten (sym is ∙ found) place.Erased (λ a at bytes. refl) tt

    pub content_placed : IsBanksState s.banks → IsDriverState s.fls → (p : Place) (at count address : ℕ) → p ≡ place_in log.numbers log.places n → p ≡ Content at count
        → address ≡ address_of_page log.geometry log.banks log.bank (at + 2) → address + size ≤ size_of log.geometry → IsMarkPlace (device_of m entry v.parts) n size (place.Content address)
    content_placed banks driver p at count address found is placed inside =
        let shape : log.geometry ≡ m.geometry = ap (λ (l : LogState). l.geometry) same ∙ banks.log.shape ∙ safe.made_for.banks_geometry in
        let shared : log.banks ≡ m.banks = ap (λ (l : LogState). l.banks) same ∙ banks.log.shared ∙ safe.made_for.shared in
        let flash : s.fls.flash.geometry ≡ m.geometry = (driver.attached safe.made_for.idle.attached).geometry ∙ safe.made_for.geometry in
        found_at (Content at count) (sym is ∙ found) (place.Content address)
        (λ a active_is bytes.
        let bank : log.bank ≡ a.bank = ap (λ (l : LogState). l.bank) same ∙ (subst (λ (o : Option ActiveBank). IfSome o (λ x. (x.bank ≡ s.banks.target → ⊥) × (s.banks.log.bank ≡ x.bank))) active_is banks.active).1 in
        ap mark.Content (placed_by m log at size m.geometry m.banks a.bank shape shared bank bytes ∙ ap (λ (k : ℕ). piece k size bytes) (sym placed)))
        (subst (λ (g : Geometry). address + size ≤ size_of g) (shape ∙ sym flash) inside)
