-- The head of a device's target: it is the next one.
use Rattle.std.specs.Prelude.{IsTrue, ◌==◌, not}
use Rattle.std.proofs.Common.{◌≡◌, ℕ, false, List, Option, Some, None, refl, sym, ap, ◌∙◌, subst, arith}
use Rattle.nv_base.specs.declared.geometry.Geometry.{Geometry}
use Rattle.nv_base.specs.declared.instance.DeviceNumber.{DeviceNumber}
use Rattle.fls_model.specs.Told.{Told, bytes_now}
use Rattle.fee_format.specs.Formats.{new_format}
use Rattle.fee_format.specs.declared.bank_head.BankHead.{BankHead}
use Rattle.fee_format.specs.BankHead.{bank_head_page, last_generation}
use Rattle.fee_format.specs.Pages.{blank_page, same_bytes}
use Rattle.fee_format.proofs.Tests.{eq_is, bytes_are}
use Rattle.fee_image.specs.Image.{Layout, image_page, active_of}
use Rattle.fee_image.specs.Banks.{Copying, Banks, IsCopying, StandsBehind}
use Rattle.fee_image.proofs.Shows.{blank_shut}
use Rattle.fee_switch_laws.specs.fee_log.Log.{work_in, log_of}
use Rattle.fee_course.specs.declared.course.Course.{Course}
use Rattle.fee_course.specs.declared.course.Course.TheVariants.{Head}
use Rattle.fee_switch_laws.specs.fee_switch.declared.active.ActiveBank.{ActiveBank}
use Rattle.fee_switch_laws.specs.fee_switch.Active.{active_shown}
use Rattle.fee_switch_laws.specs.fee_switch.Banks.{is_worn_out, next_generation}
use Rattle.fee_switch_laws.specs.Shown.{old_shown, phase_shown}
use Rattle.promise_device.specs.Making.{Making, banks_of}
use Rattle.promise_device.specs.Bridge.{reading_of}
use Rattle.promise_device.specs.Wear.{bank_behind, generation_in, head_behind, has_blank_front, is_next_head, is_head_due}
use Rattle.promise_device.proofs.Wears.{all_two, unlike}
use Rattle.fee_told.specs.fls_told.Device.{is_told_sound}
use Rattle.fee_told.specs.Slots.{banks_with, may_told}
use Rattle.fee_told.specs.SlotLaws.{IsHeld}
use Rattle.fee_laws.specs.Inside.{Parts, HasSwitch, body_of, memory_of}
use Rattle.fee_laws.specs.Turn.{IsOn}
use Rattle.fee_laws.specs.Follows.{target_head}
use Rattle.fee_laws.proofs.Before.{legal, copied, held_before}
use Rattle.fee_laws.proofs.WornErases.{not_last, next_shown}
use Rattle.fee_laws.proofs.WornShown.{behind_by, active_is, none_is}

-- the head of the target is the next one
head_shown : (o : Option ActiveBank) → head_behind (active_shown o) ≡ record { format = new_format; generation = next_generation o }
head_shown None = refl
head_shown (Some a) = refl

module _ (m : Making) (entry : Told) (s : Parts) (listed : List (DeviceNumber × ℕ)) (kept count : ℕ) (on : IsOn m entry s listed kept count) (course : s.banks.course ≡ Some Head) (told : IsTrue (is_told_sound (reading_of m) (bytes_now entry))) (bytes : List ℕ) (at : bytes_now s.fls.flash ≡ Some bytes) where
  abbrev l : Layout
  l = banks_of m

  abbrev body : List ℕ
  body = body_of (work_in s.banks.log.tail) s.content

  abbrev copy_body : List ℕ
  copy_body = body_of (work_in s.banks.copies.tail) s.banks.buffer

  held : IsHeld l m.numbers bytes (memory_of s) (copied m entry s listed kept count on)
  held = held_before m entry s listed kept count on bytes at told

  abbrev banks : Banks
  banks = banks_with (memory_of s) (may_told l m.numbers bytes (memory_of s)) (copied m entry s listed kept count on)

  copying : IsCopying l m.numbers bytes banks.target (log_of s.banks.copies copy_body) banks.copied
  copying = behind_by l m.numbers bytes banks held.banks (Copying (log_of s.banks.copies copy_body)) (ap (λ (c : Option Course). phase_shown c s.banks copy_body) course)

  -- its gate is blank, so it doesn't stand
  blank : image_page l bytes s.banks.target 1 ≡ blank_page l.page
  blank = copying.first 1 (omega arith) (let two = (legal m entry s listed kept count on).pages in omega (arith, two))

  behind : StandsBehind l bytes banks.old banks.target
  behind other stands = absurd (blank_shut l.page (image_page l bytes s.banks.target 1) (legal m entry s listed kept count on).page blank stands.gate)

  -- the bytes show the active one
  shown_by : (o : Option ActiveBank) → s.banks.active ≡ o → active_of l bytes ≡ active_shown o
  shown_by None none = none_is l m.numbers bytes banks held.banks behind (ap (λ (o : Option ActiveBank). old_shown o s.banks.log body) none)
  shown_by (Some a) active = active_is l m.numbers bytes banks held.banks behind a.bank a.head (log_of s.banks.log body) (ap (λ (o : Option ActiveBank). old_shown o s.banks.log body) active)

  shown : active_shown s.banks.active ≡ active_of l bytes
  shown = sym (shown_by s.banks.active refl)

  next : s.banks.target ≡ bank_behind m.banks (active_of l bytes)
  next = on.banks.next ∙ next_shown s.banks.banks s.banks.active ∙ ap (λ (n : ℕ). bank_behind n (active_shown s.banks.active)) on.sound.made_for.shared ∙ ap (bank_behind m.banks) shown

  head : bank_head_page s.banks.geometry.page (target_head s.banks) ≡ bank_head_page m.geometry.page (head_behind (active_of l bytes))
  head =
      ap (λ (g : Geometry). bank_head_page g.page (target_head s.banks)) on.sound.made_for.banks_geometry
      ∙ ap (bank_head_page m.geometry.page) (sym (head_shown s.banks.active) ∙ ap head_behind shown)

  -- no switch is open behind the last generation
  fresh : is_worn_out s.banks.active ≡ false
  fresh = (subst (λ (c : Option Course). HasSwitch s.banks c) course (on.sound.works on.started).switch).0

  left_by : (o : Option ActiveBank) → is_worn_out o ≡ false → generation_in (active_shown o) ≡ last_generation → ⊥
  left_by None is e = omega (arith, e)
  left_by (Some a) is e = not_last (Some a) is a refl e

  left : generation_in (active_of l bytes) ≡ last_generation → ⊥
  left = subst (λ (o : Option (ℕ × BankHead)). generation_in o ≡ last_generation → ⊥) shown (left_by s.banks.active fresh)

  front : IsTrue (has_blank_front m s.banks.target bytes)
  front =
      let two = (legal m entry s listed kept count on).pages in
      all_two (same_bytes (image_page l bytes s.banks.target 0) (blank_page l.page)) (same_bytes (image_page l bytes s.banks.target 1) (blank_page l.page))
      ((bytes_are _ _).1 (copying.first 0 (omega arith) (omega (arith, two)))) ((bytes_are _ _).1 blank)

  pub head_is_due : IsTrue (is_head_due m s.banks.target (bank_head_page s.banks.geometry.page (target_head s.banks)) bytes)
  head_is_due =
      let page = bank_head_page s.banks.geometry.page (target_head s.banks) in
      let active = active_of l bytes in
      all_two (is_next_head m s.banks.target page active) (has_blank_front m s.banks.target bytes)
      (all_two (s.banks.target == bank_behind m.banks active) _ ((eq_is _ _).1 next)
      (all_two (not (generation_in active == last_generation)) (same_bytes page (bank_head_page m.geometry.page (head_behind active))) (unlike (generation_in active) last_generation left) ((bytes_are _ _).1 head)))
      front
