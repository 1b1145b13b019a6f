-- The first operation of a copy.
use Rattle.std.proofs.Common.{◌≡◌, ◌≤◌, ◌+◌, ℕ, true, false, List, [], replicate, Option, Some, None, sym, ap, ◌∙◌, refl, subst, arith}
use Rattle.std.proofs.lemmas.Bool.{ne_eqb}
use Rattle.std.proofs.lemmas.List.{length-replicate}
use Rattle.std.proofs.lemmas.Option.{slice_get-get_or}
use Rattle.nv_base.specs.declared.instance.DeviceNumber.{DeviceNumber}
use Rattle.nv_base.specs.Geometry.{pages_of_bank}
use Rattle.nv_base.specs.Lengths.{AreLengths}
use Rattle.fls_model.specs.declared.flash.FlashAnswer.TheVariants.{Done, Failed}
use Rattle.fls_model.specs.Op.{MayLeave, after_op}
use Rattle.fee_format.specs.declared.rec_head.RecHead.{RecHead}
use Rattle.fee_format.specs.Formats.{new_format}
use Rattle.fee_image.specs.Image.{IsLegalLayout, bank_in}
use Rattle.fee_image.specs.Sound.{IsSoundImage}
use Rattle.fee_image.specs.RecordList.{pages_of_head}
use Rattle.fee_image.specs.declared.place.Place.{Place}
use Rattle.fee_image.specs.declared.place.Place.TheVariants.{Content, Invalid, Erased, Unwritten}
use Rattle.fee_image.specs.Log.{Log, Open as LogOpen}
use Rattle.fee_image.specs.May.{May}
use Rattle.fee_image.specs.Step.{IsRecord}
use Rattle.fee_image.specs.Banks.{Phase, Erasing, Copying}
use Rattle.fee_image.specs.Copies.{Flag, Each, Copies, copied_of}
use Rattle.fee_image.specs.BankLaws.{program_of}
use Rattle.fee_image.proofs.Sectors.{layouts_are_legal}
use Rattle.fee_image.proofs.Shows.{banks_show}
use Rattle.fee_log.specs.declared.tail.Tail.{Tail}
use Rattle.fee_log.specs.declared.tail.Tail.TheVariants.{Writes}
use Rattle.fee_log.specs.Log.{free_behind, pages_in, log_of, tail_with, tail_begun, begun}
use Rattle.fee_log.specs.Step.{op_of, after_step}
use Rattle.fee_log.proofs.Follows.{begins_open}
use Rattle.fee_log.proofs.Soundness.{legal_for}
use Rattle.fee_course.specs.declared.copies.Source.{Source}
use Rattle.fee_course.specs.declared.course.Course.{Course}
use Rattle.fee_course.specs.declared.course.Course.TheVariants.{Copy}
use Rattle.fee_course.specs.Copies.{next_copy}
use Rattle.fee_course.specs.Course.{begun as course_begun}
use Rattle.fee_switch_laws.specs.Flags.{IsOpenFor, all_clear, flags_copied}
use Rattle.fee_switch.specs.Banks.{BanksState, IsBanksState, advanced}
use Rattle.fee_switch.specs.Copy.{head_at}
use Rattle.fee_switch_laws.specs.Begins.{IsBeginning, IsMarkBeginning, mark_head, ContentsBegin, ContentsFallBack, MarksBegin, MarksFallBack, CutMarksShow}
use Rattle.fee_switch_laws.specs.Flagged.{HoldsFlags, IsCopyLog}
use Rattle.fee_switch_laws.specs.Shown.{Bodies, phase_at, phase_shown, layout_in, banks_shown}
use Rattle.fee_switch_laws.proofs.Copies.{Held, banks_in, StaysCopying, advanced_holds, again_holds, goes_on, falls_back}
use Rattle.fee_switch_laws.proofs.FlagChoices.{next_is_open}
use Rattle.fee_switch_laws.proofs.FlagTurns.{copies_may_begin, failed_copies_hold}

-- a copy that begins leaves the target's log as it is
first_stays : (s : BanksState) (body : List ℕ) → StaysCopying s body (Copy None)
first_stays s body x ns ps cs = split (next_copy ns ps cs)
  where
    split : (o : Option Source) → phase_at (course_begun s.geometry.page o) x body ≡ Copying (log_of x.copies body)
    split None = refl
    split (Some source) = refl

module _ (s : BanksState) (bodies : Bodies) (bytes body : List ℕ) (may : May) (fs : List Flag)
    (source : Source) (number : DeviceNumber) (is : IsBanksState s) (target : IsCopyLog s) (begins : IsBeginning s source number body fs) (holds : HoldsFlags s bodies bytes may fs) where
  abbrev head : RecHead
  head = head_at source.place number source.length

  open_for : IsOpenFor number.0 fs
  open_for =
      let there = slice_get-get_or s.log.numbers source.index (number, source.length) begins.next.inside ∙ ap Some (begins.next.named (number, source.length)) in
      next_is_open s.log.numbers s.log.places s.log.flags fs source (number, source.length) (subst (AreLengths 0) is.numbers target.state.numbers) holds.flags begins.next.first there

  number_is : (place : Place) → (head_at place number source.length).number ≡ number
  number_is (Content at count) = refl
  number_is (Invalid count) = refl
  number_is (Erased count) = refl
  number_is Unwritten = refl

  phase : phase_shown s.course s bodies.copy ≡ Copying (log_of s.copies bodies.copy)
  phase = ap (λ (c : Option Course). phase_shown c s bodies.copy) begins.course

  is_record : IsRecord (bank_in (layout_in s) new_format s.target) s.copies.end head body
  is_record =
      let room = subst (λ (t : Tail). pages_of_head s.geometry.page head ≤ free_behind s.copies.geometry.page (pages_in s.copies) s.copies.end t) begins.tail begins.can.room in
      let pages : pages_in s.copies ≡ (layout_in s).pages = λ i. pages_of_bank (is.copies.shape i) (is.copies.shared i) in
      record {
        format = refl;
        legal = legal_for s.copies.numbers head target.state.numbers begins.can.configured;
        size = begins.size;
        room = omega (arith, room, pages, target.state.end_high);
      }

  pub begun_held : Held s bodies bytes may (Copying (log_of (begun s.copies head) body)) fs
  begun_held =
      let idle : (log_of s.copies bodies.copy).tail ≡ LogOpen = ap (λ (t : Tail). tail_with t bodies.copy) begins.tail in
      let opened = subst (λ (n : DeviceNumber). IsOpenFor n.0 fs) (sym (number_is source.place)) open_for in
      let h = copies_may_begin (layout_in s) s.log.numbers bytes (banks_shown s bodies may (copied_of fs)) (log_of s.copies bodies.copy) head body fs holds.banks phase idle is_record opened in
      subst (λ (x : Log). Held s bodies bytes may (Copying x) fs) (sym (begins_open s.copies head body begins.tail)) h

pub contents_begin : ContentsBegin
contents_begin s bodies bytes buffer body may fs source number at count is target place begins holds =
    let h = begun_held s bodies bytes body may fs source number is target begins holds in
    let made : BanksState = record s { copies = begun s.copies (head_at source.place number source.length); buffer = buffer } in
    advanced_holds made (record bodies { copy = body }) bytes may fs (Copy None) (first_stays made body) (record { flags = s.log.flags; is = refl; are = holds.flags }) h

pub contents_fall_back : ContentsFallBack
contents_fall_back s bodies bytes buffer may fs is course holds =
    let l = layout_in s in
    let shape : IsLegalLayout l = layouts_are_legal s.geometry s.banks is.legal is.shared in
    let page : List ℕ = replicate l.page 255 in
    let phase : phase_shown s.course s bodies.copy ≡ Copying (log_of s.copies bodies.copy) = ap (λ (c : Option Course). phase_shown c s bodies.copy) course in
    let kept : MayLeave (program_of l s.target 0 page) bytes bytes = (record { size = refl; front = refl; back = refl }, λ b. b) in
    let h = failed_copies_hold l s.log.numbers bytes bytes page (banks_shown s bodies may (copied_of fs)) 0 (log_of s.copies bodies.copy) fs shape holds.banks phase (length-replicate {A = ℕ} l.page 255) (omega (arith, shape.pages)) (λ e. omega (arith, e)) kept in
    (again_holds (record s { buffer = buffer }) bodies bytes may fs holds.flags h.0, h.1)

-- A MARK
module _ (s : BanksState) (bodies : Bodies) (old new : List ℕ) (may : May) (fs : List Flag)
    (source : Source) (number : DeviceNumber) (is : IsBanksState s) (target : IsCopyLog s) (begins : IsMarkBeginning s source number fs) (holds : HoldsFlags s bodies old may fs) where
  abbrev mark : RecHead
  mark = mark_head source number

  abbrev made : BanksState
  made = record s { copies = begun s.copies mark }

  abbrev with_mark : Bodies
  with_mark = record bodies { copy = [] }

  is_made : IsBanksState made
  is_made = record {
    legal = is.legal;
    shared = is.shared;
    log = is.log;
    copies = record { shape = is.copies.shape; shared = is.copies.shared };
    numbers = is.numbers;
    target = is.target;
    next = is.next;
    target_log = is.target_log;
    active = is.active;
    course = is.course;
    buffer = is.buffer;
  }

  target_made : IsCopyLog made
  target_made = record { state = begins.state; format = target.format }

  tail_made : made.copies.tail ≡ Writes mark 0
  tail_made = ap (λ (t : Tail). tail_begun t mark) begins.begins.tail

  phase_made : phase_shown made.course made [] ≡ Copying (log_of made.copies [])
  phase_made = ap (λ (c : Option Course). phase_shown c made []) begins.begins.course

  same_mark : head_at source.place number source.length ≡ mark
  same_mark = refl

  held : HoldsFlags made with_mark old may fs
  held =
      let h = begun_held s bodies old [] may fs source number is target begins.begins holds in
      let h2 = subst (λ (x : RecHead). Held s bodies old may (Copying (log_of (begun s.copies x) [])) fs) same_mark h in
      record { banks = subst (λ (p : Phase). Held made with_mark old may p fs) (sym phase_made) h2; flags = holds.flags }

  copies : Each (Copies mark []) fs
  copies = subst (λ (x : RecHead). Each (Copies x []) fs) same_mark begins.begins.copies

  -- its header isn't its last page
  not_last : flags_copied s.geometry.page true (tail_with (Writes mark 0) []) fs ≡ fs
  not_last = rw (ne_eqb (0 + 1) (pages_of_head s.geometry.page mark) (λ e. omega arith)) refl

  pub mark_done : MayLeave (op_of made.copies []) old new → new ≡ after_op (op_of made.copies []) old
      → HoldsFlags (advanced (record s { copies = after_step made.copies Done }) (Copy None)) with_mark new may fs
  mark_done leaves done =
      let h = goes_on made with_mark old new may fs mark 0 true is_made target_made tail_made begins.page phase_made held copies leaves done in
      let x : BanksState = record s { copies = after_step made.copies Done } in
      advanced_holds x with_mark new may fs (Copy None) (first_stays x []) (record { flags = s.log.flags; is = refl; are = holds.flags })
      (subst (λ (g : List Flag). Held made with_mark new may (Copying (log_of (after_step made.copies Done) [])) g) not_last h)

  pub mark_failed : MayLeave (op_of made.copies []) old new
      → Held s bodies new may (Erasing 0) (all_clear fs) × Each (λ f. f.copied ≡ false) (all_clear fs) × (IsSoundImage (layout_in s) old → IsSoundImage (layout_in s) new)
  mark_failed leaves = falls_back made with_mark old new may fs mark 0 true is_made target_made tail_made begins.page phase_made held leaves

pub marks_begin : MarksBegin
marks_begin s bodies old new may fs source number is target begins holds leaves done =
    mark_done s bodies old new may fs source number is target begins holds leaves done

pub marks_fall_back : MarksFallBack
marks_fall_back s bodies old new may fs source number is target begins holds leaves =
    let h = mark_failed s bodies old new may fs source number is target begins holds leaves in
    (again_holds (record s { copies = after_step (begun s.copies (mark_head source number)) Failed }) bodies new may fs holds.flags h.0, h.1)

pub cut_marks_show : CutMarksShow
cut_marks_show s bodies old image may fs source number is target begins holds leaves =
    let h = mark_failed s bodies old image may fs source number is target begins holds leaves in
    (banks_show (layout_in s) s.log.numbers image (banks_in s bodies may (Erasing 0) (all_clear fs)) (layouts_are_legal s.geometry s.banks is.legal is.shared) h.0, h.2)
