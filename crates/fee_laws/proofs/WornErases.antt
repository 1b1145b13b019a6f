-- The erases of a device: each comes where one is due.
use Rattle.std.specs.Prelude.{◌*◌, IfSome, IsTrue, max, option_map}
use Rattle.std.proofs.Common.{◌≡◌, ◌⊎◌, inl, inr, ◌<◌, ◌+◌, ℕ, zero, suc, Bool, true, false, List, [], ◌∷◌, Option, Some, None, refl, sym, ap, ◌∙◌, subst, arith}
use Rattle.std.proofs.lemmas.Bool.{eqb-false}
use Rattle.nv_base.specs.Geometry.{pages_of_sector, sectors_of_bank, size_of_bank}
use Rattle.nv_base.specs.Pages.{record_pages_of}
use Rattle.nv_base.specs.declared.geometry.Geometry.{Geometry}
use Rattle.nv_base.specs.declared.instance.DeviceNumber.{DeviceNumber}
use Rattle.fls_model.specs.Told.{Told, ToldBytes, IfBothTold, bytes_now}
use Rattle.fee_format.specs.BankHead.{last_generation}
use Rattle.fee_format.proofs.Tests.{eq_is}
use Rattle.fee_image.specs.Image.{Layout, bank_in, active_of}
use Rattle.fee_image.specs.RecordList.{IsClosed, end_of}
use Rattle.fee_image.specs.Banks.{Erasing, Banks, StandsBehind}
use Rattle.fee_image.specs.BankLaws.{erase_of}
use Rattle.fee_image.specs.Laws.{place_of_sector}
use Rattle.fee_switch_laws.specs.fee_log.Log.{work_in, log_of}
use Rattle.fee_course.specs.declared.course.Course.{Course}
use Rattle.fee_course.specs.declared.course.Course.TheVariants.{Erase}
use Rattle.fee_course.specs.Copies.{greatest}
use Rattle.fee_course.specs.Course.{IsShort}
use Rattle.fee_switch_laws.specs.fee_switch.declared.active.ActiveBank.{ActiveBank}
use Rattle.fee_switch_laws.specs.fee_switch.Active.{active_shown}
use Rattle.fee_switch_laws.specs.fee_switch.Banks.{is_worn_out, target_after}
use Rattle.fee_switch_laws.specs.KeepsRoom.{IsRoomy}
use Rattle.fee_switch_laws.specs.Shown.{old_shown, phase_shown}
use Rattle.fee_switch_laws.specs.Space.{most_pages, free_pages}
use Rattle.promise_device.specs.Making.{Making, banks_of}
use Rattle.promise_device.specs.Bridge.{reading_of}
use Rattle.promise_device.specs.Wear.{longest_record, most_wanted, bank_behind, bank_of_op, failed_in, may_erase, is_in_order, has_place, is_due_there, is_due_by}
use Rattle.promise_device.proofs.Wears.{all_two, one_of, may_erases}
use Rattle.fee_told.specs.fls_told.Device.{is_told_sound}
use Rattle.fee_told.specs.Slots.{banks_with, may_told}
use Rattle.fee_told.specs.SlotLaws.{IsHeld}
use Rattle.fee_laws.specs.Inside.{Parts, HasSwitch, body_of, memory_of}
use Rattle.fee_laws.specs.Turn.{IsOn}
use Rattle.fee_laws.specs.Switches.{step_op}
use Rattle.fee_laws.specs.Follows.{failed_of, may_be_closed_beside, FollowsNext, FollowsBytes}
use Rattle.fee_laws.proofs.Before.{power, copied, held_before}
use Rattle.fee_laws.proofs.FollowKnown.{own_bank, room_beside}
use Rattle.fee_laws.proofs.FollowBanks.{some_sector}
use Rattle.promise_device.proofs.Places.{bank_of_erase, erases_have_place}
use Rattle.fee_laws.proofs.WornShown.{behind_by, active_is, none_is}

-- the most that a record asks for, by the numbers of the device
pub longest_is : (p : ℕ) (ns : List (DeviceNumber × ℕ)) → greatest p ns ≡ longest_record p ns
longest_is p [] = refl
longest_is p (n ∷ ns) = ap (λ (k : ℕ). max (record_pages_of n.1 p) k) (longest_is p ns)

-- where a bank begins
begins : (k sectors sector : ℕ) → (k * sectors + 0) * sector ≡ k * (sectors * sector)
begins k sectors sector = omega arith

-- a bank that isn't worn out hasn't the last generation
pub not_last : (o : Option ActiveBank) → is_worn_out o ≡ false → (a : ActiveBank) → o ≡ Some a → a.head.generation ≡ last_generation → ⊥
not_last None is a e same = cc e
not_last (Some x) is a e same =
    let here : x ≡ a = cc e in
    eqb-false x.head.generation last_generation is (ap (λ (y : ActiveBank). y.head.generation) here ∙ same)

-- the next target is the next bank
pub next_shown : (banks : ℕ) (o : Option ActiveBank) → target_after banks o ≡ bank_behind banks (active_shown o)
next_shown banks None = refl
next_shown banks (Some a) = refl

-- BYTES
-- told at the entry they are told now
pub bytes_by : (m : Making) (x y : Option ToldBytes) → IfBothTold x y (λ first last. Unit {0}) → IsTrue (is_told_sound (reading_of m) (option_map (λ (b : ToldBytes). b.now) x)) → (bytes : List ℕ) × (option_map (λ (b : ToldBytes). b.now) y ≡ Some bytes)
bytes_by m None y both told = (let never : false ≡ true = told in cc never)
bytes_by m (Some x) None both told = absurd both
bytes_by m (Some x) (Some y) both told = (y.now, refl)

module _ (m : Making) (entry : Told) (s : Parts) (listed : List (DeviceNumber × ℕ)) (kept count : ℕ) (on : IsOn m entry s listed kept count) (n : ℕ) (course : s.banks.course ≡ Some (Erase n)) (idle : work_in s.banks.log.tail ≡ None) (told : IsTrue (is_told_sound (reading_of m) (bytes_now entry)))
    (bytes : List ℕ) (at : bytes_now s.fls.flash ≡ Some bytes) (follows : FollowsBytes s.banks s.content s.operations bytes) where
  abbrev l : Layout
  l = banks_of m

  abbrev body : List ℕ
  body = body_of (work_in s.banks.log.tail) s.content

  held : IsHeld l m.numbers bytes (memory_of s) (copied m entry s listed kept count on)
  held = held_before m entry s listed kept count on bytes at told

  abbrev banks : Banks
  banks = banks_with (memory_of s) (may_told l m.numbers bytes (memory_of s)) (copied m entry s listed kept count on)

  erasing : banks.phase ≡ Erasing (n * pages_of_sector s.banks.geometry)
  erasing = ap (λ (c : Option Course). phase_shown c s.banks (body_of (work_in s.banks.copies.tail) s.banks.buffer)) course

  behind : StandsBehind l bytes banks.old banks.target
  behind = (behind_by l m.numbers bytes banks held.banks (Erasing (n * pages_of_sector s.banks.geometry)) erasing).0

  -- no switch is open behind the last generation
  fresh : is_worn_out s.banks.active ≡ false
  fresh = (subst (λ (c : Option Course). HasSwitch s.banks c) course (on.sound.works on.started).switch).0

  -- the active bank has less room than a record may ask for
  few : free_pages s.banks < most_wanted m
  few =
      let roomy = subst (λ (c : Option Course). IfSome c (IsRoomy m.reserve s.banks)) course (on.sound.room on.started (power m entry s listed kept count on)).switch in
      let less = roomy.few in
      let here : most_pages s.banks.geometry.page s.banks.log.numbers m.reserve ≡ most_pages m.geometry.page m.numbers m.reserve = (λ i. most_pages (on.sound.made_for.banks_geometry i).page (on.sound.made_for.numbers i) m.reserve) in
      let same = longest_is m.geometry.page m.numbers in
      omega (arith, less, here, same)

  -- of the log that is the active bank's
  failed_there : (a : ActiveBank) → s.banks.active ≡ Some a → IsTrue (failed_of s.banks.log s.operations) → IsTrue (failed_in m.geometry m.banks a.bank false s.operations)
  failed_there a active =
      let shape = on.banks.log.shape ∙ on.sound.made_for.banks_geometry in
      let shared = on.banks.log.shared ∙ on.sound.made_for.shared in
      let same : failed_of s.banks.log s.operations ≡ failed_in m.geometry m.banks a.bank false s.operations = (λ i. failed_in (shape i) (shared i) (own_bank m entry s listed kept count on bytes follows a active i) false s.operations) in
      λ failed. subst (λ (b : Bool). IsTrue b) same failed

  lacks : (a : ActiveBank) → s.banks.active ≡ Some a → IsTrue (failed_in m.geometry m.banks a.bank false s.operations) ⊎ (let b = bank_in l a.head.format a.bank in IsClosed b bytes (end_of b bytes) ⊎ (b.pages < end_of b bytes + most_wanted m))
  lacks a active = elim (room_beside m entry s listed kept count on bytes follows a active idle) [
    | inl (inl closed) ↦ inr (inl closed)
    | inl (inr no_more) ↦ (let less = few in inr (inr (omega (arith, no_more, less))))
    | inr failed ↦ inl (failed_there a active (subst (λ (c : Option Course). IsTrue (may_be_closed_beside c s.banks.log s.operations)) course failed))
  ]

  -- the bytes show the active one, and the target is the bank behind it
  shown_by : (o : Option ActiveBank) → s.banks.active ≡ o → active_of l bytes ≡ active_shown o
  shown_by None none = none_is l m.numbers bytes banks held.banks behind (ap (λ (o : Option ActiveBank). old_shown o s.banks.log body) none)
  shown_by (Some a) active = active_is l m.numbers bytes banks held.banks behind a.bank a.head (log_of s.banks.log body) (ap (λ (o : Option ActiveBank). old_shown o s.banks.log body) active)

  next : s.banks.target ≡ bank_behind m.banks (active_of l bytes)
  next =
      on.banks.next ∙ next_shown s.banks.banks s.banks.active ∙ ap (λ (n : ℕ). bank_behind n (active_shown s.banks.active)) on.sound.made_for.shared
      ∙ ap (bank_behind m.banks) (sym (shown_by s.banks.active refl))

  due_by : (o : Option ActiveBank) → s.banks.active ≡ o → IsTrue (may_erase m s.operations s.banks.target bytes)
  due_by None none = may_erases m s.operations s.banks.target bytes next (inl (shown_by None none))
  due_by (Some a) active =
      may_erases m s.operations s.banks.target bytes next (inr (a.bank, a.head, shown_by (Some a) active, not_last s.banks.active fresh a active, lacks a active))

  -- IN ORDER
  whole : IsShort (sectors_of_bank s.banks.geometry s.banks.banks) (Erase n)
  whole = subst (λ (o : Option Course). IfSome o (IsShort (sectors_of_bank s.banks.geometry s.banks.banks))) course on.banks.course

  first_sector : (g : Geometry) (k shared : ℕ) → 0 < g.sector → 0 < sectors_of_bank g shared → IsTrue (is_in_order g shared s.operations (place_of_sector g shared k 0) g.sector)
  first_sector g k shared some more =
      let at : bank_of_op g shared (erase_of g shared k 0) ≡ k = bank_of_erase g shared k 0 some more in
      let place : place_of_sector g shared k 0 ≡ k * size_of_bank g shared = begins k (sectors_of_bank g shared) g.sector in
      one_of _ _ (inl ((eq_is _ _).1 (place ∙ ap (λ (b : ℕ). b * size_of_bank g shared) (sym at))))

  order_by : (k : ℕ) → k < sectors_of_bank s.banks.geometry s.banks.banks → FollowsNext s.banks (Erase k) s.operations bytes → IsTrue (is_in_order s.banks.geometry s.banks.banks s.operations (place_of_sector s.banks.geometry s.banks.banks s.banks.target k) s.banks.geometry.sector)
  order_by zero some turn = first_sector s.banks.geometry s.banks.target s.banks.banks (some_sector s.banks.geometry on.banks.legal) some
  order_by (suc k) some turn = turn

  in_order : IsTrue (is_in_order m.geometry m.banks s.operations (place_of_sector s.banks.geometry s.banks.banks s.banks.target n) s.banks.geometry.sector)
  in_order =
      let own = order_by n whole (subst (λ (o : Option Course). IfSome o (λ c. FollowsNext s.banks c s.operations bytes)) course follows.next) in
      subst (λ (g : Geometry). IsTrue (is_in_order g m.banks s.operations (place_of_sector s.banks.geometry s.banks.banks s.banks.target n) s.banks.geometry.sector)) on.sound.made_for.banks_geometry
      (subst (λ (b : ℕ). IsTrue (is_in_order s.banks.geometry b s.operations (place_of_sector s.banks.geometry s.banks.banks s.banks.target n) s.banks.geometry.sector)) on.sound.made_for.shared own)

  -- it is of the target
  of_target : bank_of_op m.geometry m.banks (step_op s.banks (Erase n)) ≡ s.banks.target
  of_target =
      subst (λ (g : Geometry). bank_of_op g m.banks (step_op s.banks (Erase n)) ≡ s.banks.target) on.sound.made_for.banks_geometry
      (subst (λ (b : ℕ). bank_of_op s.banks.geometry b (step_op s.banks (Erase n)) ≡ s.banks.target) on.sound.made_for.shared
      (bank_of_erase s.banks.geometry s.banks.banks s.banks.target n (some_sector s.banks.geometry on.banks.legal) whole))

  placed : IsTrue (has_place m (step_op s.banks (Erase n)))
  placed =
      let b = s.banks in
      let same : record m { geometry = b.geometry; banks = b.banks } ≡ m = (λ i. record m { geometry = on.sound.made_for.banks_geometry i; banks = on.sound.made_for.shared i }) in
      subst (λ (x : Making). IsTrue (has_place x (step_op b (Erase n)))) same
      (erases_have_place (record m { geometry = b.geometry; banks = b.banks }) b.target n (some_sector b.geometry on.banks.legal) on.banks.target whole)

  pub erase_is_due : IsTrue (is_due_by m s.operations bytes (step_op s.banks (Erase n)))
  erase_is_due =
      all_two (has_place m (step_op s.banks (Erase n))) (is_due_there m s.operations bytes (step_op s.banks (Erase n))) placed
      (all_two _ _ (subst (λ (k : ℕ). IsTrue (may_erase m s.operations k bytes)) (sym of_target) (due_by s.banks.active refl)) in_order)
