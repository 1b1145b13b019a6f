-- What a page that is done leaves, where its record goes on.
use Rattle.std.specs.Prelude.{IfSome, IsSome, length, take}
use Rattle.std.proofs.Common.{◌≡◌, ◌≤◌, ◌+◌, ℕ, false, List, Some, None, refl, sym, ap, ◌∙◌, subst, arith}
use Rattle.std.proofs.lemmas.List.{length-take-le}
use Rattle.nv_base.specs.Geometry.{pages_of_bank}
use Rattle.nv_base.specs.declared.instance.DeviceNumber.{DeviceNumber}
use Rattle.memif.specs.Told.{Slot, slot_at}
use Rattle.memif.specs.Marks.{Keeps}
use Rattle.fls_model.specs.declared.flash.FlashAnswer.TheVariants.{Done}
use Rattle.nv_base.specs.declared.geometry.Geometry.{Geometry}
use Rattle.fls_model.specs.Op.{MayLeave}
use Rattle.fls_model.specs.Step.{Leaves}
use Rattle.fee_format.specs.Formats.{new_format}
use Rattle.fee_format.specs.declared.bank_head.BankHead.{BankHead}
use Rattle.fls_model.specs.Told.{Told}
use Rattle.fee_format.specs.declared.rec_head.RecHead.{RecHead}
use Rattle.fee_image.specs.Image.{Layout, bank_in}
use Rattle.fee_image.specs.RecordList.{pages_of_head}
use Rattle.fee_image.specs.Log.{Log, Open as LogOpen, Writes as LogWrites}
use Rattle.fee_image.specs.May.{May}
use Rattle.fee_image.specs.Step.{log_done, log_begun, is_last, IsRecord}
use Rattle.fee_switch_laws.specs.fee_log.declared.tail.Tail.{Tail}
use Rattle.fee_switch_laws.specs.fee_log.declared.tail.Tail.TheVariants.{Open, Writes, Owes, Closed}
use Rattle.fee_image.specs.declared.place.Place.{Place}
use Rattle.fee_switch_laws.specs.fee_log.Log.{LogState, HasFormat, IsTail, log_of, tail_with, work_in, pages_in}
use Rattle.fee_switch_laws.specs.fee_log.Step.{IsPageOf, due_bytes, after_step, commits}
use Rattle.promise_device.specs.Making.{Making, banks_of}
use Rattle.fee_told.specs.Slots.{Memory, IsWorkOf, slots_held}
use Rattle.fee_told.specs.SlotLaws.{IsHeld}
use Rattle.fee_told.specs.Appends.{commits as commits_log}
use Rattle.fee_told.specs.Kept.{IsKept, with_log}
use Rattle.fee_told.proofs.Appends.{appends_go_on, records_begin}
use Rattle.fee_laws.specs.Inside.{Parts, body_of, memory_of}
use Rattle.fee_laws.specs.Turn.{IsOn}
use Rattle.fee_laws.specs.Appends.{work_body, work_op}
use Rattle.fee_laws.proofs.Before.{legal, lengths, log_geometry, log_banks}
use Rattle.fee_laws.proofs.Tails.{tailed, shown, page_goes_on, owed_shown}
use Rattle.fee_laws.proofs.Page.{h, work_is, a, body, log, formats, taking, appending, stands}
use Rattle.fee_laws.proofs.Shown.{after, after_is, content_fits, work_of_job}

-- first the one, then the other
pub keeps_on : (x y z : Slot) → Keeps x y → Keeps y z → Keeps x z
keeps_on x y z a b = record { settled = b.settled ∙ a.settled; doubts = λ held among. a.doubts held (b.doubts held among) }

commits_same : (p : ℕ) (t : Tail) (content : List ℕ) → commits_log p (tail_with t content) ≡ commits p t
commits_same p Open content = refl
commits_same p (Writes r done) content = refl
commits_same p (Owes r next) content = refl
commits_same p Closed content = refl

module _ (m : Making) (entry : Told) (s : Parts) (listed : List (DeviceNumber × ℕ)) (kept count : ℕ) (on : IsOn m entry s listed kept count) (work : IsSome (work_in s.banks.log.tail)) (page : IsPageOf s.banks.geometry.page (due_bytes s.banks.log (work_body s))) (goes : commits s.banks.geometry.page s.banks.log.tail ≡ false) (old new : List ℕ) (more : May) (held : IsHeld (banks_of m) m.numbers old (memory_of s) more) (leaves : MayLeave (work_op s) old new) (left : Leaves (work_op s) Done old new) where
  abbrev l : Layout
  l = banks_of m

  abbrev then_log : LogState
  then_log = after_step s.banks.log Done

  abbrev memory : Memory
  memory = memory_of s

  abbrev was : Log
  was = log m entry s listed kept count on work

  abbrev k : ℕ
  k = (a m entry s listed kept count on work).bank

  abbrev head : BankHead
  head = (a m entry s listed kept count on work).head

  abbrev next : Log
  next = log_done l.page m.numbers was

  geo : s.banks.log.geometry ≡ m.geometry
  geo = log_geometry m entry s listed kept count on

  banks_are : s.banks.log.banks ≡ m.banks
  banks_are = log_banks m entry s listed kept count on

  numbers : s.banks.log.numbers ≡ m.numbers
  numbers = on.sound.made_for.numbers

  goes_log : commits_log l.page was.tail ≡ false
  goes_log = commits_same l.page s.banks.log.tail (body m entry s listed kept count on work) ∙ ap (λ (g : Geometry). commits g.page s.banks.log.tail) (sym on.sound.made_for.banks_geometry) ∙ goes

  first : IsKept l m.numbers old new memory (with_log memory k head next memory.stand) more
  first =
      appends_go_on l m.numbers old new memory more k head was (appending m entry s listed kept count on work page.size old more held new leaves)
      (stands m entry s listed kept count on work page.size (content_fits m entry s listed kept count on work) page old more held new left) goes_log

  done_path : log_done s.banks.log.geometry.page s.banks.log.numbers was ≡ next
  done_path = λ i. log_done (geo i).page (numbers i) was

  -- one page more
  page_kept : (r : RecHead) (done : ℕ) → s.banks.log.tail ≡ Writes r done → IsKept l m.numbers old new memory (after m entry s listed kept count on work then_log memory.stand) more
  page_kept r done e =
      let last : is_last s.banks.log.geometry.page r done ≡ false = ap (λ (g : Geometry). is_last g.page r done) on.banks.log.shape ∙ subst (λ (t : Tail). commits s.banks.geometry.page t ≡ false) e goes in
      let is = subst (λ (t : Tail). shown (after_step (tailed s.banks.log t) Done) s.content ≡ log_done s.banks.log.geometry.page s.banks.log.numbers (shown (tailed s.banks.log t) s.content)) (sym e) (page_goes_on s.banks.log r done s.content last).shown_as in
      subst (λ (x : Memory). IsKept l m.numbers old new memory x more) (sym (after_is m entry s listed kept count on work then_log next memory.stand (is ∙ done_path))) first

  -- the record begins behind an owed gate
  gate_kept : (owed r : RecHead) → s.banks.log.tail ≡ Owes owed (Some r) → IsKept l m.numbers old new memory (after m entry s listed kept count on work then_log memory.stand) more
  gate_kept owed r e =
      let content = take r.length s.content in
      let is = subst (λ (t : Tail). shown (after_step (tailed s.banks.log t) Done) s.content ≡ log_begun (log_done s.banks.log.geometry.page s.banks.log.numbers (shown (tailed s.banks.log t) s.content)) r content) (sym e) (owed_shown s.banks.log owed r s.content) in
      let tail_is = subst (IsTail s.banks.log.geometry.page (pages_in s.banks.log) s.banks.log.end) e on.log.tail in
      let one = subst (λ (g : Geometry). s.banks.log.end + (pages_of_head g.page owed + pages_of_head g.page r) ≤ pages_of_bank g s.banks.log.banks) geo tail_is.0 in
      let room = subst (λ (n : ℕ). s.banks.log.end + (pages_of_head l.page owed + pages_of_head l.page r) ≤ pages_of_bank m.geometry n) banks_are one in
      let open_tail : next.tail ≡ LogOpen = subst (λ (t : Tail). (log_done l.page m.numbers (log_of (tailed s.banks.log t) (body m entry s listed kept count on work))).tail ≡ LogOpen) (sym e) refl in
      let end : next.end ≡ s.banks.log.end + pages_of_head l.page owed = subst (λ (t : Tail). (log_done l.page m.numbers (log_of (tailed s.banks.log t) (body m entry s listed kept count on work))).end ≡ s.banks.log.end + pages_of_head l.page owed) (sym e) refl in
      let fits = subst (λ (t : Tail). IfSome (work_in t) (λ x. x.length ≤ length s.content)) e (content_fits m entry s listed kept count on work) in
      let some = work_is m entry s listed kept count on work in
      let also : work_in s.banks.log.tail ≡ Some r = ap work_in e in
      let same : h m entry s listed kept count on work ≡ r = cc (some, also) in
      let body_same : body m entry s listed kept count on work ≡ content = ap (λ (t : Tail). body_of (work_in t) s.content) e in
      let job = subst (λ (x : List ℕ). IsWorkOf m.numbers s.banks.log.places memory.stand (LogWrites r x 0)) body_same (subst (λ (x : RecHead). IsWorkOf m.numbers s.banks.log.places memory.stand (LogWrites x (body m entry s listed kept count on work) 0)) same (work_of_job m entry s listed kept count on work 0)) in
      let places : next.places ≡ s.banks.log.places = subst (λ (t : Tail). (log_done l.page m.numbers (log_of (tailed s.banks.log t) (body m entry s listed kept count on work))).places ≡ s.banks.log.places) (sym e) refl in
      let job_then = subst (λ (ps : List Place). IsWorkOf m.numbers ps memory.stand (LogWrites r content 0)) (sym places) job in
      let format : s.banks.log.format ≡ new_format = subst (HasFormat s.banks.log.format) e on.log.format in
      let middle : Memory = with_log memory k head next memory.stand in
      let record_at : IsRecord (bank_in l head.format k) next.end r content = record { format = sym (formats m entry s listed kept count on work) ∙ format; legal = tail_is.1; size = length-take-le r.length s.content fits; room = omega (arith, end, room) } in
      let second = records_begin l m.numbers new middle more k head next r content (record { lengths = lengths m entry s listed kept count on; legal = legal m entry s listed kept count on; held = first.held; bank = refl; takes = taking m entry s listed kept count on work }) open_tail record_at job_then in
      let both : IsKept l m.numbers old new memory (with_log memory k head (log_begun next r content) memory.stand) more = record {
        held = second.held;
        keeps = λ n. keeps_on (slot_at m.numbers (slots_held l m.numbers old memory) n) (slot_at m.numbers (slots_held l m.numbers new middle) n) (slot_at m.numbers (slots_held l m.numbers new (with_log memory k head (log_begun next r content) memory.stand)) n) (first.keeps n) (second.keeps n);
        sound = λ sound. second.sound (first.sound sound);
      } in
      subst (λ (x : Memory). IsKept l m.numbers old new memory x more) (sym (after_is m entry s listed kept count on work then_log (log_begun next r content) memory.stand (is ∙ ap (λ (x : Log). log_begun x r content) done_path))) both

  kept_by : (t : Tail) → s.banks.log.tail ≡ t → IsKept l m.numbers old new memory (after m entry s listed kept count on work then_log memory.stand) more
  kept_by Open e = let no_work : IsSome (work_in Open) = subst (λ (t : Tail). IsSome (work_in t)) e work in cc
  kept_by (Writes r done) e = page_kept r done e
  kept_by (Owes owed None) e = let no_work : IsSome (work_in (Owes owed None)) = subst (λ (t : Tail). IsSome (work_in t)) e work in cc
  kept_by (Owes owed (Some r)) e = gate_kept owed r e
  kept_by Closed e = let no_work : IsSome (work_in Closed) = subst (λ (t : Tail). IsSome (work_in t)) e work in cc

  pub kept_on : IsKept l m.numbers old new memory (after m entry s listed kept count on work then_log memory.stand) more
  kept_on = kept_by s.banks.log.tail refl
