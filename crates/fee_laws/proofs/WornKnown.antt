-- What the invariant of a device tells of its active bank and its room.
use Rattle.std.specs.Prelude.{IsSome, IsTrue, if◌then◌else◌, is_some}
use Rattle.std.proofs.Common.{◌≡◌, ◌⊎◌, inl, inr, ◌+◌, ℕ, false, List, Option, Some, None, refl, sym, ap, ◌∙◌, subst}
use Rattle.nv_base.specs.Geometry.{pages_of_bank}
use Rattle.nv_base.specs.declared.geometry.Geometry.{Geometry}
use Rattle.nv_base.specs.declared.instance.DeviceNumber.{DeviceNumber}
use Rattle.fls_model.specs.Told.{Told, bytes_now}
use Rattle.fee_image.specs.Image.{Layout, bank_in, active_of}
use Rattle.fee_image.specs.Banks.{Idle, Banks, StandsBehind}
use Rattle.fee_switch_laws.specs.fee_switch.declared.active.ActiveBank.{ActiveBank}
use Rattle.fee_switch_laws.specs.fee_switch.Active.{active_shown}
use Rattle.fee_switch_laws.specs.fee_log.Log.{work_in, is_closed, free_behind, free_in, pages_in, log_of}
use Rattle.fee_switch_laws.specs.Shown.{old_shown}
use Rattle.fee_switch_laws.specs.Space.{free_pages}
use Rattle.promise_device.specs.Making.{Making, banks_of}
use Rattle.promise_device.specs.Bridge.{may_be_closed}
use Rattle.promise_device.specs.Image.{HasNoRoomFor}
use Rattle.fee_told.specs.Slots.{banks_with, may_told}
use Rattle.fee_told.specs.SlotLaws.{IsHeld}
use Rattle.fee_told.specs.Device.{tells_now}
use Rattle.fee_laws.specs.Inside.{Parts, body_of, device_of, memory_of}
use Rattle.fee_laws.specs.Turn.{IsOn}
use Rattle.fee_laws.specs.Worn.{ShowsRoom, ShowsClosed}
use Rattle.fee_laws.proofs.Before.{shape, copied, held_at, log_geometry, log_banks}
use Rattle.fee_laws.proofs.WornShown.{behind_by, active_is, none_is, own_bank}
use Rattle.fee_laws.proofs.SwitchBegun.{idle_phase}
use Rattle.fee_laws.proofs.FollowKnown.{HasNoMore, no_more, test}

module _ (m : Making) (entry : Told) (s : Parts) (listed : List (DeviceNumber × ℕ)) (kept count : ℕ) (on : IsOn m entry s listed kept count) (idle : work_in s.banks.log.tail ≡ None) (shut : s.banks.course ≡ None) (bytes : List ℕ) (at : bytes_now s.fls.flash ≡ Some bytes) (told : IsTrue (tells_now (device_of m entry s))) where
  abbrev l : Layout
  l = banks_of m

  abbrev body : List ℕ
  body = body_of (work_in s.banks.log.tail) s.content

  held : IsHeld l m.numbers bytes (memory_of s) (copied m entry s listed kept count on)
  held = held_at m entry s listed kept count on bytes at told

  no_phase : (memory_of s).phase ≡ Idle
  no_phase = idle_phase s.banks.course s.banks (body_of (work_in s.banks.copies.tail) s.banks.buffer) shut

  abbrev banks : Banks
  banks = banks_with (memory_of s) (may_told l m.numbers bytes (memory_of s)) (copied m entry s listed kept count on)

  behind : StandsBehind l bytes banks.old banks.target
  behind = behind_by l m.numbers bytes banks held.banks Idle no_phase

  active_by : (o : Option ActiveBank) → s.banks.active ≡ o → active_shown o ≡ active_of l bytes
  active_by None none = sym (none_is l m.numbers bytes banks held.banks behind (ap (λ (o : Option ActiveBank). old_shown o s.banks.log body) none))
  active_by (Some a) some = sym (active_is l m.numbers bytes banks held.banks behind a.bank a.head (log_of s.banks.log body) (ap (λ (o : Option ActiveBank). old_shown o s.banks.log body) some))

  -- in the shape of its log
  page_is : s.banks.log.geometry.page ≡ m.geometry.page
  page_is = ap (λ (g : Geometry). g.page) (log_geometry m entry s listed kept count on)

  pages_are : pages_in s.banks.log ≡ pages_of_bank m.geometry m.banks
  pages_are = λ i. pages_of_bank (log_geometry m entry s listed kept count on i) (log_banks m entry s listed kept count on i)

  free_is : (a : ActiveBank) → s.banks.active ≡ Some a → free_pages s.banks ≡ free_behind m.geometry.page (pages_of_bank m.geometry m.banks) s.banks.log.end s.banks.log.tail
  free_is a some = ap (λ (o : Option ActiveBank). if is_some o then free_in s.banks.log else 0) some ∙ (λ i. free_behind (page_is i) (pages_are i) s.banks.log.end s.banks.log.tail)

  open_room : (a : ActiveBank) → s.banks.active ≡ Some a → is_closed s.banks.log.tail ≡ false → HasNoMore (bank_in l a.head.format a.bank) bytes (free_behind m.geometry.page (pages_of_bank m.geometry m.banks) s.banks.log.end s.banks.log.tail)
  open_room a some wide =
      let bank = own_bank l m.numbers bytes banks held.banks behind a.bank a.head (log_of s.banks.log body) (ap (λ (o : Option ActiveBank). old_shown o s.banks.log body) some) in
      let log = bank.1.holds in
      let low = (shape m entry s listed kept count on).page_low in
      no_more (bank_in l a.head.format a.bank) bytes (may_told l m.numbers bytes (memory_of s)) low s.banks.log.end body s.banks.log.tail log.tail log.high idle wide

  shows_by : ShowsClosed m s bytes → (o : Option ActiveBank) → s.banks.active ≡ o → IsSome o → HasNoRoomFor (free_pages s.banks + 1) m bytes ⊎ IsTrue (may_be_closed s.operations)
  shows_by closed None none some = cc some
  shows_by closed (Some a) some' some = elim (test (is_closed s.banks.log.tail)) [
    | inl shut' ↦ (elim (closed a some' shut') [
      | inl is ↦ inl (a.bank, a.head, sym (active_by (Some a) some'), inl is)
      | inr failed ↦ inr failed
    ])
    | inr wide ↦ inl (a.bank, a.head, sym (active_by (Some a) some'), subst (λ (n : ℕ). HasNoMore (bank_in l a.head.format a.bank) bytes n) (sym (free_is a some')) (open_room a some' wide))
  ]

  pub shows_room : ShowsClosed m s bytes → ShowsRoom m s bytes
  shows_room closed = record { active = active_by s.banks.active refl; room = shows_by closed s.banks.active refl }
