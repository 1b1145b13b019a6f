-- The gate of a device's target: it leaves room behind it.
use Rattle.std.specs.Prelude.{IsTrue}
use Rattle.std.proofs.Common.{◌≡◌, inl, inr, ◌≤◌, ◌<◌, ◌+◌, ◌/◌, ℕ, Bool, List, [], ◌∷◌, refl, sym, ap, ◌∙◌, subst, arith}
use Rattle.nv_base.specs.Geometry.{pages_of_bank, address_of_page}
use Rattle.nv_base.specs.Pages.{record_pages_of}
use Rattle.nv_base.specs.declared.geometry.Geometry.{Geometry}
use Rattle.nv_base.specs.declared.instance.DeviceNumber.{DeviceNumber}
use Rattle.fee_format.specs.Formats.{new_format}
use Rattle.fee_image.specs.Bank.{Bank}
use Rattle.fee_image.specs.Image.{layout_of, bank_in}
use Rattle.fee_image.specs.Log.{IsOpen, HasTail}
use Rattle.fee_image.specs.RecordList.{IsClosed, IsTailBlank, end_of}
use Rattle.fee_switch_laws.specs.fee_log.Laws.{HoldsState}
use Rattle.fee_switch_laws.specs.fee_log.Log.{bank_of, work_in, tail_with, taken_in}
use Rattle.fee_switch_laws.specs.fee_log.declared.tail.Tail.{Tail}
use Rattle.fee_switch_laws.specs.fee_log.declared.tail.Tail.TheVariants.{Open}
use Rattle.fee_course.specs.declared.course.Course.TheVariants.{Gate}
use Rattle.fee_switch_laws.specs.fee_switch.Banks.{BanksState, IsBanksState}
use Rattle.fee_switch_laws.specs.KeepsRoom.{IsRoomy}
use Rattle.fee_switch_laws.specs.Space.{all_pages, most_pages}
use Rattle.promise_device.specs.Making.{Making, banks_of}
use Rattle.promise_device.specs.Wear.{all_records, most_copied, has_room_behind, leaves_room}
use Rattle.promise_device.proofs.Wears.{one_of, rooms_compute}
use Rattle.fee_laws.specs.Inside.{body_of}
use Rattle.fee_laws.specs.Follows.{anything}
use Rattle.promise_device.proofs.Places.{bank_of_program}
use Rattle.fee_laws.proofs.WornErases.{longest_is}

-- the pages of a record of each number, by those of the device
records_are : (p : ℕ) (ns : List (DeviceNumber × ℕ)) → all_pages p ns ≡ all_records p ns
records_are p [] = refl
records_are p (n ∷ ns) = ap (λ (k : ℕ). record_pages_of n.1 p + k) (records_are p ns)

module _ (m : Making) (s : BanksState) (is : IsBanksState s) (failed : Bool) (shape : s.geometry ≡ m.geometry) (shared : s.banks ≡ m.banks) (numbers : s.log.numbers ≡ m.numbers)
    (r : IsRoomy m.reserve s (Gate failed)) (bytes : List ℕ) (holds : HoldsState s.copies (body_of (work_in s.copies.tail) s.buffer) bytes anything) where
  tail : s.copies.tail ≡ Open
  tail = r.target.work

  open_log : IsOpen (bank_of s.copies) bytes s.copies.end
  open_log = subst (λ (t : Tail). HasTail (bank_of s.copies) bytes anything s.copies.end (tail_with t (body_of (work_in s.copies.tail) s.buffer))) tail holds.holds.tail

  -- the target's bank
  abbrev b : Bank
  b = bank_in (banks_of m) new_format s.target

  bank_is : bank_of s.copies ≡ b
  bank_is = λ i. bank_in (layout_of ((is.copies.shape ∙ shape) i) ((is.copies.shared ∙ shared) i)) (r.target.format i) (is.target_log i)

  here : IsOpen b bytes s.copies.end
  here = subst (λ (x : Bank). IsOpen x bytes s.copies.end) bank_is open_log

  high : s.copies.end ≤ b.pages
  high = subst (λ (x : Bank). s.copies.end ≤ x.pages) bank_is holds.holds.high

  wide : IsClosed b bytes (end_of b bytes) → ⊥
  wide (inl format) = format refl
  wide (inr used) = used (subst (λ (n : ℕ). IsTailBlank b bytes n) here.is_end here.blank)

  few : end_of b bytes ≤ most_copied m
  few =
      let taken = r.taken in
      let none : taken_in s.geometry.page s.copies.tail ≡ 0 = ap (taken_in s.geometry.page) tail in
      let most : most_pages s.geometry.page s.log.numbers m.reserve ≡ most_pages m.geometry.page m.numbers m.reserve = (λ i. most_pages (shape i).page (numbers i) m.reserve) in
      let all : all_pages s.geometry.page s.log.numbers ≡ all_pages m.geometry.page m.numbers = (λ i. all_pages (shape i).page (numbers i)) in
      let records = records_are m.geometry.page m.numbers in
      let longest = longest_is m.geometry.page m.numbers in
      let end = here.is_end in
      omega (arith, taken, none, most, all, records, longest, end)

  room : IsTrue (has_room_behind m s.target bytes)
  room = rooms_compute m s.target bytes wide (let end = here.is_end in let most = high in omega (arith, end, most)) few

  pub gate_leaves_room : 0 < s.geometry.page → 1 < pages_of_bank s.geometry s.banks → IsTrue (leaves_room m (address_of_page s.geometry s.banks s.target 1) bytes)
  gate_leaves_room some inside =
      let address = address_of_page s.geometry s.banks s.target 1 in
      let own = bank_of_program s.geometry s.banks s.target 1 [] some inside in
      let at : address / m.geometry.page / pages_of_bank m.geometry m.banks ≡ s.target = subst (λ (g : Geometry). address / g.page / pages_of_bank g m.banks ≡ s.target) shape
      (subst (λ (n : ℕ). address / s.geometry.page / pages_of_bank s.geometry n ≡ s.target) shared own) in
      one_of _ _ (inr (subst (λ (k : ℕ). IsTrue (has_room_behind m k bytes)) (sym at) room))
