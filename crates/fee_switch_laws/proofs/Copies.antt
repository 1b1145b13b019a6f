-- Copies, from the last erase on.
use Rattle.std.proofs.Common.{◌≡◌, ◌<◌, ◌≤◌, ◌+◌, ◌-◌, ◌*◌, ℕ, Bool, true, false, ◌&&◌, List, Option, Some, None, cond, eqb, sym, ap, ◌∙◌, refl, subst, arith}
use Rattle.std.specs.Prelude.{slice_get}
use Rattle.std.proofs.lemmas.Bool.{cond_both, eqb-true, eqb-false, eq-eqb, ne_eqb}
use Rattle.nv_base.specs.declared.instance.DeviceNumber.{DeviceNumber}
use Rattle.nv_base.specs.Geometry.{sectors_of_bank, pages_of_sector}
use Rattle.fls_model.specs.declared.flash.FlashAnswer.TheVariants.{Done, Failed}
use Rattle.fls_model.specs.Op.{MayLeave, after_op}
use Rattle.fee_format.specs.declared.rec_head.RecHead.{RecHead}
use Rattle.fee_format.specs.Formats.{new_format}
use Rattle.fee_image.specs.Image.{IsLegalLayout, bank_in}
use Rattle.fee_image.specs.Sound.{IsSoundImage}
use Rattle.fee_image.specs.RecordList.{pages_of_head}
use Rattle.fee_image.specs.declared.place.Place.{Place}
use Rattle.fee_image.specs.LogLaws.{erased_log}
use Rattle.fee_image.specs.Log.{Tail as LogTail, Log}
use Rattle.fee_image.specs.May.{May}
use Rattle.fee_image.specs.Step.{page_due}
use Rattle.fee_image.specs.Banks.{Old, Phase, Erasing, Copying, Banks, Holds, HoldsPhase, IsCopying}
use Rattle.fee_image.specs.Copies.{Flag, Each, copied_of, marked}
use Rattle.fee_image.proofs.Sectors.{layouts_are_legal, sectors_fill_banks}
use Rattle.fee_image.proofs.Seals.{copies_keep_sound}
use Rattle.fee_image.proofs.Shows.{banks_show}
use Rattle.fee_image.proofs.Steps.{next_is_fresh}
use Rattle.fee_log.specs.declared.tail.Tail.{Tail}
use Rattle.fee_log.specs.declared.tail.Tail.TheVariants.{Writes}
use Rattle.fee_log.specs.Index.{with_flag, clear_flags}
use Rattle.fee_log.specs.Laws.{IsDueOn}
use Rattle.fee_log.specs.Log.{LogState, IsLogState, log_of, tail_with}
use Rattle.fee_log.specs.Step.{IsPageOf, due_bytes, op_of, after_step}
use Rattle.fee_log.proofs.Follows.{steps_follow}
use Rattle.fee_log.proofs.Steps.{pages_stand}
use Rattle.fee_switch.specs.declared.active.ActiveBank.{ActiveBank}
use Rattle.fee_course.specs.declared.course.Copying.{Copying as CopyInWork}
use Rattle.fee_course.specs.declared.course.Course.{Course}
use Rattle.fee_course.specs.declared.course.Course.TheVariants.{Erase as CourseErase, Copy, Head as CourseHead}
use Rattle.fee_course.specs.Course.{after_done, flag_due, settled}
use Rattle.fee_switch_laws.specs.Flags.{AreFlagsOf, CopiesOrNot, all_clear, flags_copied}
use Rattle.fee_switch.specs.declared.target.Stage.TheVariants.{Erase}
use Rattle.fee_switch.specs.Banks.{BanksState, IsBanksState, flagged_at, flagged_by, advanced, advanced_with, begun_again}
use Rattle.fee_switch_laws.specs.Copies.{LastErasesStand, CopiesGoOn, CopiesFallBack, CutCopiesShow}
use Rattle.fee_switch_laws.specs.Flagged.{HoldsFlags, IsCopyLog}
use Rattle.fee_switch_laws.specs.Shown.{Bodies, old_shown, phase_at, phase_shown, layout_in, banks_shown}
use Rattle.fee_switch_laws.proofs.Flags.{are_with, are_clear}
use Rattle.fee_switch_laws.proofs.Targets.{by_answer}
use Rattle.fee_switch_laws.proofs.FlagTurns.{copied_pages_hold, copies_start, failed_copies_hold}

-- flags are none of what a log shows
pub same_flags : (active : Option ActiveBank) (log : LogState) (flags : List Bool) (body : List ℕ) → old_shown active log body ≡ old_shown active (record log { flags = flags }) body
same_flags None log flags body = refl
same_flags (Some a) log flags body = refl

-- a log with other flags, which are these
pub record IsFlagged (log changed : LogState) (fs : List Flag) : Type 0 where
  pub flags : List Bool
  pub is : changed ≡ record log { flags = flags }
  pub are : AreFlagsOf log.numbers log.places flags fs

pub one_flagged : (log : LogState) (fs : List Flag) (i : ℕ) (n : DeviceNumber × ℕ) (b : Bool) → slice_get log.numbers i ≡ Some n → AreFlagsOf log.numbers log.places log.flags fs
    → IsFlagged log (flagged_by log (cond b (Some i) None)) (cond b (marked n.0.0 fs) fs)
one_flagged log fs i n true at are = record { flags = with_flag log.numbers log.flags n.0.0 true; is = ap (flagged_at log) at; are = are_with log.numbers log.places log.flags fs n.0.0 true are }
one_flagged log fs i n false at are = record { flags = log.flags; is = refl; are = are }

-- the banks with another phase
abbrev pub banks_in : BanksState → Bodies → May → Phase → List Flag → Banks
banks_in s bodies may phase fs = record { old = old_shown s.active s.log bodies.append; target = s.target; phase = phase; may = may; copied = copied_of fs }

abbrev pub Held : BanksState → Bodies → List ℕ → May → Phase → List Flag → Type 0
Held s bodies bytes may phase fs = Holds (layout_in s) s.log.numbers bytes (banks_in s bodies may phase fs)

-- AN OPERATION IS DONE
-- what comes behind it leaves the target's log as it is
abbrev pub StaysCopying : BanksState → List ℕ → Course → Type 0
StaysCopying s body course =
    (x : BanksState) (ns : List (DeviceNumber × ℕ)) (ps : List Place) (cs : List Bool)
    → phase_at (after_done s.geometry.page (sectors_of_bank s.geometry s.banks) ns ps cs course) x body ≡ Copying (log_of x.copies body)

pub settled_stays : (ns : List (DeviceNumber × ℕ)) (ps : List Place) (cs : List Bool) (x : BanksState) (body : List ℕ) → phase_at (settled ns ps cs) x body ≡ Copying (log_of x.copies body)
settled_stays ns ps cs x body = cond_both _ (Copy None) CourseHead (λ (c : Course). phase_at c x body ≡ Copying (log_of x.copies body)) (λ _. refl) (λ _. refl)

pub last_erase_stays : (s : BanksState) (body : List ℕ) (n : ℕ) → n + 1 ≡ sectors_of_bank s.geometry s.banks → StaysCopying s body (CourseErase n)
last_erase_stays s body n last x ns ps cs =
    cond_both (eqb (n + 1) (sectors_of_bank s.geometry s.banks)) (settled ns ps cs) (CourseErase (n + 1)) (λ (c : Course). phase_at c x body ≡ Copying (log_of x.copies body))
    (λ _. settled_stays ns ps cs x body) (λ e. absurd (eqb-false (n + 1) (sectors_of_bank s.geometry s.banks) e last))

pub page_stays : (s : BanksState) (body : List ℕ) (w : CopyInWork) → StaysCopying s body (Copy (Some w))
page_stays s body w x ns ps cs =
    cond_both (eqb w.pages 1) (settled ns ps cs) (Copy (Some (record w { pages = w.pages - 1 }))) (λ (c : Course). phase_at c x body ≡ Copying (log_of x.copies body))
    (λ _. settled_stays ns ps cs x body) (λ _. refl)

pub advanced_holds : (s : BanksState) (bodies : Bodies) (new : List ℕ) (may : May) (fs : List Flag) (course : Course)
    → StaysCopying s bodies.copy course → IsFlagged s.log (flagged_by s.log (flag_due course)) fs → Held s bodies new may (Copying (log_of s.copies bodies.copy)) fs
    → HoldsFlags (advanced s course) bodies new may fs
advanced_holds s bodies new may fs course stays flagged' h =
    subst (λ (log : LogState). HoldsFlags (advanced_with s course log) bodies new may fs) (sym flagged'.is)
    (record {
      banks =
          subst (λ (p : Phase). Holds (layout_in s) s.log.numbers new (record { old = old_shown s.active (record s.log { flags = flagged'.flags }) bodies.append; target = s.target; phase = p; may = may; copied = copied_of fs }))
          (sym (stays (advanced_with s course (record s.log { flags = flagged'.flags })) s.log.numbers s.log.places flagged'.flags))
          (subst (λ (o : Old). Holds (layout_in s) s.log.numbers new (record { old = o; target = s.target; phase = Copying (log_of s.copies bodies.copy); may = may; copied = copied_of fs })) (same_flags s.active s.log flagged'.flags bodies.append) h);
      flags = flagged'.are;
    })

-- IT FAILED
pub again_holds : (s : BanksState) (bodies : Bodies) (new : List ℕ) (may : May) (fs : List Flag)
    → AreFlagsOf s.log.numbers s.log.places s.log.flags fs → Held s bodies new may (Erasing 0) (all_clear fs) → HoldsFlags (begun_again s (CourseErase 0)) bodies new may (all_clear fs)
again_holds s bodies new may fs are h =
    let none : 0 ≡ 0 * pages_of_sector s.geometry = omega arith in
    record {
      banks =
          subst (λ (n : ℕ). Holds (layout_in s) s.log.numbers new (record { old = old_shown s.active (record s.log { flags = clear_flags s.log.numbers }) bodies.append; target = s.target; phase = Erasing n; may = may; copied = copied_of (all_clear fs) })) none
          (subst (λ (o : Old). Holds (layout_in s) s.log.numbers new (record { old = o; target = s.target; phase = Erasing 0; may = may; copied = copied_of (all_clear fs) })) (same_flags s.active s.log (clear_flags s.log.numbers) bodies.append) h);
      flags = are_clear s.log.numbers s.log.places s.log.flags fs are;
    }

-- THE LAST ERASE
pub last_erases_stand : LastErasesStand
last_erases_stand s bodies old new may fs n is course last erasing sound holds leaves done =
    let phase = ap (λ (c : Option Course). phase_shown c s bodies.copy) course in
    let h = by_answer s bodies old new may (copied_of fs) is holds.banks (Erase n) Done (let t : n < sectors_of_bank s.geometry s.banks = omega arith in t) phase tt sound leaves done in
    let all : (layout_in s).pages ≤ (n + 1) * pages_of_sector s.geometry = subst (λ (k : ℕ). (layout_in s).pages ≤ k * pages_of_sector s.geometry) (sym last) (omega (arith, sectors_fill_banks s.geometry s.banks is.legal is.shared)) in
    let begun = copies_start (layout_in s) s.log.numbers new (banks_in s bodies may (Erasing ((n + 1) * pages_of_sector s.geometry)) fs) ((n + 1) * pages_of_sector s.geometry) fs (layouts_are_legal s.geometry s.banks is.legal is.shared) h refl all erasing.clear in
    let log : erased_log s.log.numbers ≡ log_of s.copies bodies.copy = sym (ap (λ (c : LogState). log_of c bodies.copy) erasing.copies ∙ ap erased_log is.numbers) in
    let h2 = subst (λ (x : Log). Held s bodies new may (Copying x) fs) log begun in
    advanced_holds s bodies new may fs (CourseErase n) (last_erase_stays s bodies.copy n last) (record { flags = s.log.flags; is = refl; are = holds.flags }) h2

-- A PAGE OF A COPY
-- the target's log with a copy in work, in the words of the banks
abbrev pub log_at : BanksState → RecHead → ℕ → LogState
log_at s h k = record {
  geometry = s.geometry;
  banks = s.banks;
  bank = s.target;
  format = new_format;
  numbers = s.log.numbers;
  places = s.copies.places;
  flags = s.copies.flags;
  end = s.copies.end;
  tail = Writes h k;
}

pub is_at : (s : BanksState) (h : RecHead) (k : ℕ) → IsBanksState s → s.copies.format ≡ new_format → s.copies.tail ≡ Writes h k → s.copies ≡ log_at s h k
is_at s h k is format tail = λ i. record {
  geometry = is.copies.shape i;
  banks = is.copies.shared i;
  bank = is.target_log i;
  format = format i;
  numbers = is.numbers i;
  places = s.copies.places;
  flags = s.copies.flags;
  end = s.copies.end;
  tail = tail i;
}

-- the last page of the record is the last one of the copy
last_page : (k n P : ℕ) → k + n ≡ P → eqb (k + 1) P ≡ eqb n 1
last_page k n P e = split (eqb n 1) refl
  where
    split : (b : Bool) → eqb n 1 ≡ b → eqb (k + 1) P ≡ b
    split true q = eq-eqb (k + 1) P (let a = eqb-true n 1 q in omega arith)
    split false q = ne_eqb (k + 1) P (λ r. eqb-false n 1 q (let t : n ≡ 1 = omega arith in t))

turned : (a b c : Bool) → c ≡ a → (c && b) ≡ (b && a)
turned true true c e = rw e refl
turned true false c e = rw e refl
turned false true c e = rw e refl
turned false false c e = rw e refl

module _ (s : BanksState) (bodies : Bodies) (old new : List ℕ) (may : May) (fs : List Flag) (legal : IsLegalLayout (layout_in s)) (h : RecHead) (k : ℕ)
    (holds : HoldsFlags s bodies old may fs) where
  abbrev here : LogState
  here = log_at s h k

  abbrev log : Log
  log = log_of here bodies.copy

  abbrev before : Banks
  before = banks_shown s bodies may (copied_of fs)

  copying : before.phase ≡ Copying log → IsCopying (layout_in s) s.log.numbers old s.target log (copied_of fs)
  copying phase = subst (HoldsPhase (layout_in s) s.log.numbers old before) phase holds.banks.phase

  is_due : before.phase ≡ Copying log → IsLogState here → IsPageOf s.geometry.page (due_bytes here bodies.copy) → IsDueOn here bodies.copy old (copied_of fs)
  is_due phase state page = record { state = state; holds = record { size = holds.banks.size; holds = (copying phase).holds; follows = tt }; work = refl; page = page }

  pub done_holds : (sets : Bool) → CopiesOrNot sets h bodies.copy fs → before.phase ≡ Copying log → IsLogState here → IsPageOf s.geometry.page (due_bytes here bodies.copy)
      → MayLeave (op_of here bodies.copy) old new → new ≡ after_op (op_of here bodies.copy) old
      → Held s bodies new may (Copying (log_of (after_step here Done) bodies.copy)) (flags_copied s.geometry.page sets log.tail fs)
  done_holds sets copies phase state page leaves done =
      let stood = pages_stand here bodies.copy old new (copied_of fs) (is_due phase state page) done in
      let h2 = copied_pages_hold (layout_in s) s.log.numbers old new before log sets fs legal holds.banks phase copies tt page.size leaves stood in
      subst (λ (x : Log). Held s bodies new may (Copying x) (flags_copied s.geometry.page sets log.tail fs)) (sym (steps_follow here bodies.copy Done)) h2

  pub failed_holds : before.phase ≡ Copying log → IsPageOf s.geometry.page (due_bytes here bodies.copy) → MayLeave (op_of here bodies.copy) old new
      → Held s bodies new may (Erasing 0) (all_clear fs) × Each (λ f. f.copied ≡ false) (all_clear fs) × (IsSoundImage (layout_in s) old → IsSoundImage (layout_in s) new)
  failed_holds phase page leaves =
      let f = next_is_fresh (bank_in (layout_in s) new_format s.target) s.log.numbers old (copied_of fs) log (copying phase).holds tt in
      let other : page_due log ≡ 1 → ⊥ = (let low = f.low in λ e. omega arith) in
      let h2 = failed_copies_hold (layout_in s) s.log.numbers old new (due_bytes here bodies.copy) before (page_due log) log fs legal holds.banks phase page.size f.high other leaves in
      (h2.0, h2.1, copies_keep_sound (layout_in s) s.log.numbers old new (due_bytes here bodies.copy) before (page_due log) log legal holds.banks phase page.size f.high other leaves)

module _ (s : BanksState) (bodies : Bodies) (old new : List ℕ) (may : May) (fs : List Flag) (h : RecHead) (k : ℕ) (sets : Bool) where
  -- the laws of a page, for any log of the target
  abbrev GoesOn : LogState → Type 0
  GoesOn c =
      IsLogState c → IsPageOf s.geometry.page (due_bytes c bodies.copy) → MayLeave (op_of c bodies.copy) old new → new ≡ after_op (op_of c bodies.copy) old
      → phase_shown s.course s bodies.copy ≡ Copying (log_of c bodies.copy)
      → Held s bodies new may (Copying (log_of (after_step c Done) bodies.copy)) (flags_copied s.geometry.page sets (tail_with (Writes h k) bodies.copy) fs)

  abbrev FallsBack : LogState → Type 0
  FallsBack c =
      IsPageOf s.geometry.page (due_bytes c bodies.copy) → MayLeave (op_of c bodies.copy) old new → phase_shown s.course s bodies.copy ≡ Copying (log_of c bodies.copy)
      → Held s bodies new may (Erasing 0) (all_clear fs) × Each (λ f. f.copied ≡ false) (all_clear fs) × (IsSoundImage (layout_in s) old → IsSoundImage (layout_in s) new)

  module _ (is : IsBanksState s) (target : IsCopyLog s) (tail : s.copies.tail ≡ Writes h k)
      (page : IsPageOf s.geometry.page (due_bytes s.copies bodies.copy)) (phase : phase_shown s.course s bodies.copy ≡ Copying (log_of s.copies bodies.copy)) (holds : HoldsFlags s bodies old may fs) where
    same : s.copies ≡ log_at s h k
    same = is_at s h k is target.format tail

    pub goes_on : CopiesOrNot sets h bodies.copy fs → MayLeave (op_of s.copies bodies.copy) old new → new ≡ after_op (op_of s.copies bodies.copy) old
        → Held s bodies new may (Copying (log_of (after_step s.copies Done) bodies.copy)) (flags_copied s.geometry.page sets (tail_with (Writes h k) bodies.copy) fs)
    goes_on copies leaves done = subst GoesOn (sym same) at target.state page leaves done phase
      where
        at : GoesOn (log_at s h k)
        at state page' leaves' done' phase' =
            done_holds s bodies old new may fs (layouts_are_legal s.geometry s.banks is.legal is.shared) h k holds sets copies phase' state page' leaves' done'

    pub falls_back : MayLeave (op_of s.copies bodies.copy) old new
        → Held s bodies new may (Erasing 0) (all_clear fs) × Each (λ f. f.copied ≡ false) (all_clear fs) × (IsSoundImage (layout_in s) old → IsSoundImage (layout_in s) new)
    falls_back leaves = subst FallsBack (sym same) at page leaves phase
      where
        at : FallsBack (log_at s h k)
        at page' leaves' phase' = failed_holds s bodies old new may fs (layouts_are_legal s.geometry s.banks is.legal is.shared) h k holds phase' page' leaves'

module _ (s : BanksState) (bodies : Bodies) (w : CopyInWork) (course : s.course ≡ Some (Copy (Some w))) where
  phase_of_page : phase_shown s.course s bodies.copy ≡ Copying (log_of s.copies bodies.copy)
  phase_of_page = ap (λ (c : Option Course). phase_shown c s bodies.copy) course

pub copies_go_on : CopiesGoOn
copies_go_on s bodies old new may fs w is target course work holds leaves done =
    let p = s.geometry.page in
    let pages_of = pages_of_head p work.head in
    let h = goes_on s bodies old new may fs work.head work.done w.sets is target work.tail work.page (phase_of_page s bodies w course) holds work.copies leaves done in
    let last = turned (eqb w.pages 1) w.sets (eqb (work.done + 1) pages_of) (last_page work.done w.pages pages_of work.pages) in
    let one = one_flagged s.log fs w.index (work.head.number, work.length) (w.sets && eqb w.pages 1) work.named holds.flags in
    let flags = subst (λ (b : Bool). IsFlagged s.log (flagged_by s.log (flag_due (Copy (Some w)))) (cond b (marked work.head.number.0 fs) fs)) (sym last) one in
    let made : BanksState = record s { copies = after_step s.copies Done } in
    let tail = ap (λ (t : Tail). tail_with t bodies.copy) work.tail in
    subst (λ (t : LogTail). HoldsFlags (advanced made (Copy (Some w))) bodies new may (flags_copied p w.sets t fs)) (sym tail)
    (advanced_holds made bodies new may (flags_copied p w.sets (tail_with (Writes work.head work.done) bodies.copy) fs) (Copy (Some w)) (page_stays made bodies.copy w) flags h)

pub copies_fall_back : CopiesFallBack
copies_fall_back s bodies old new may fs w is target course work holds leaves =
    let h = falls_back s bodies old new may fs work.head work.done w.sets is target work.tail work.page (phase_of_page s bodies w course) holds leaves in
    (again_holds (record s { copies = after_step s.copies Failed }) bodies new may fs holds.flags h.0, h.1)

pub cut_copies_show : CutCopiesShow
cut_copies_show s bodies old image may fs w is target course work holds leaves =
    let h = falls_back s bodies old image may fs work.head work.done w.sets is target work.tail work.page (phase_of_page s bodies w course) holds leaves in
    (banks_show (layout_in s) s.log.numbers image (banks_in s bodies may (Erasing 0) (all_clear fs)) (layouts_are_legal s.geometry s.banks is.legal is.shared) h.0, h.2)
