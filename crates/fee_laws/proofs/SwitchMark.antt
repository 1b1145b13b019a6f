-- The turns of the header of a mark's copy.
use Rattle.std.specs.Prelude.{length}
use Rattle.std.proofs.Common.{◌≡◌, ◌<◌, ◌+◌, ℕ, Bool, false, if◌then◌else◌, List, [], Option, Some, None, refl, sym, ap, ◌∙◌, subst, arith}
use Rattle.nv_base.specs.Geometry.{sectors_of_bank}
use Rattle.nv_base.specs.declared.geometry.Geometry.{Geometry}
use Rattle.nv_base.specs.declared.instance.DeviceNumber.{DeviceNumber}
use Rattle.fls_model.specs.declared.flash.FlashAnswer.{FlashAnswer}
use Rattle.fls_model.specs.declared.flash.FlashAnswer.TheVariants.{Done, Failed, Off}
use Rattle.fls_model.specs.Op.{Op, MayLeave}
use Rattle.fls_model.specs.Step.{IsStep, Leaves}
use Rattle.fls_model.specs.Told.{Told}
use Rattle.fls_jobs.specs.State.{FlsState}
use Rattle.fee_format.specs.declared.rec_head.RecHead.{RecHead}
use Rattle.fee_image.specs.Image.{Layout}
use Rattle.fee_image.specs.Log.{Log}
use Rattle.fee_image.specs.May.{May}
use Rattle.fee_image.specs.Banks.{Phase, Copying}
use Rattle.fee_image.specs.Copies.{Flag, Each, copied_of}
use Rattle.fee_image.specs.Bank.{Bank}
use Rattle.fee_switch_laws.specs.fee_log.Log.{LogState, log_of, work_in}
use Rattle.fee_course.specs.declared.course.Course.{Course}
use Rattle.fee_course.specs.Course.{after_done}
use Rattle.fee_switch_laws.specs.fee_switch.Banks.{BanksState, after_answer}
use Rattle.fee_switch_laws.specs.Shown.{phase_shown, phase_at}
use Rattle.promise_device.specs.Making.{Making, banks_of}
use Rattle.fee_told.specs.Slots.{Memory, settled_in}
use Rattle.fee_told.specs.SlotLaws.{IsHeld}
use Rattle.fee_told.specs.Kept.{IsKept}
use Rattle.fee_laws.specs.Copied.{flags_of, IsCopying}
use Rattle.fee_laws.specs.Inside.{Parts, memory_of, body_of, flags_in, ShowsCopies}
use Rattle.fee_laws.specs.Switches.{IsStepping, step_op}
use Rattle.std.specs.List.{All}
use Rattle.fee_image.specs.Image.{bank_in}
use Rattle.fee_image.specs.RecordList.{pages_of_head}
use Rattle.fee_image.specs.May.{held_written, settling}
use Rattle.fee_image.specs.Step.{log_done, may_done}
use Rattle.fee_image.specs.BankLaws.{program_of}
use Rattle.fee_switch_laws.specs.fee_log.declared.tail.Tail.{Tail}
use Rattle.fee_switch_laws.specs.fee_log.declared.tail.Tail.TheVariants.{Writes}
use Rattle.fee_switch_laws.specs.fee_log.Log.{IsLogState, tail_with}
use Rattle.fee_switch_laws.specs.fee_log.Step.{op_of}
use Rattle.std.specs.Prelude.{slice_index_or}
use Rattle.std.proofs.lemmas.Bool.{ne_eqb}
use Rattle.fee_image.specs.declared.place.Place.{Place}
use Rattle.fee_image.specs.declared.place.Place.TheVariants as place
use Rattle.fee_switch_laws.specs.fee_log.Log.{begun}
use Rattle.fee_course.specs.declared.copies.Source.{Source}
use Rattle.fee_course.specs.declared.course.Course.TheVariants.{Copy}
use Rattle.fee_switch_laws.specs.fee_switch.Copy.{head_at, IsNext}
use Rattle.std.specs.Prelude.{take}
use Rattle.fee_switch_laws.specs.fee_log.Step.{after_step}
use Rattle.fee_image.specs.Step.{is_last}
use Rattle.fee_image.specs.Places.{held_at}
use Rattle.fee_course.specs.Course.{begun as course_begun}
use Rattle.fee_switch_laws.specs.fee_switch.Banks.{reads_next, reads_place, reads_source}
use Rattle.fee_switch_laws.specs.fee_switch.Copy.{BeginsAt}
use Rattle.fee_image.specs.Copies.{Copies}
use Rattle.fee_laws.specs.Switches.{mark_op_of, mark_op_for, MarksTurn}
use Rattle.fee_laws.proofs.Tails.{tailed, shown, page_goes_on}
use Rattle.fee_laws.proofs.SwitchKinds.{done_by}
use Rattle.fee_laws.proofs.SwitchPage.{settled_same, torn, cutting, page_failed, page_cut}
use Rattle.fee_laws.proofs.SwitchCopy.{IsOver, q, page, op_of_is, size, inside, not_gate, done_kept}
use Rattle.fee_laws.proofs.SwitchNext.{found_copies}
use Rattle.fee_laws.proofs.SwitchFirst.{can, source, number, h, k, tail, state, over, found, is_open, begun_held}
use Rattle.fee_laws.proofs.FollowTurned.{slice_is, mark_length}

-- of a place that isn't read the record's header is programmed, which is all that it shows
begins_mark : (p : Place) (s : BanksState) (n : DeviceNumber) (size : ℕ) (told : Told) (answer : FlashAnswer) (made : BanksState) (then_told : Told) → reads_place p ≡ false → BeginsAt p s n size told answer made then_told
    → IsStep (op_of (begun s.copies (head_at p n size)) []) told answer then_told × (made ≡ record s { copies = after_step (begun s.copies (head_at p n size)) answer })
begins_mark (place.Content at count) s n size told answer made then_told reads begins = cc reads
begins_mark (place.Invalid count) s n size told answer made then_told reads begins = begins
begins_mark (place.Erased count) s n size told answer made then_told reads begins = begins
begins_mark place.Unwritten s n size told answer made then_told reads begins = begins

mark_shown : (b : Bank) (bytes body : List ℕ) (p : Place) (n : DeviceNumber) (size : ℕ) → reads_place p ≡ false → held_written (head_at p n size) body ≡ held_at b bytes size p
mark_shown b bytes body (place.Content at count) n size reads = cc reads
mark_shown b bytes body (place.Invalid count) n size reads = refl
mark_shown b bytes body (place.Erased count) n size reads = refl
mark_shown b bytes body place.Unwritten n size reads = refl

module _ (m : Making) (entry : Told) (s : Parts) (listed : List (DeviceNumber × ℕ)) (kept count : ℕ) (made : BanksState) (answer : FlashAnswer) (f : FlsState) (is : IsStepping m entry s listed kept count (Copy None) made answer f) where
  abbrev c : Course
  c = Copy None

  abbrev src : Source
  src = source m entry s listed kept count made answer f is

  abbrev num : DeviceNumber
  num = number m entry s listed kept count made answer f is

  abbrev next_is : IsNext s.banks src num
  next_is = (can m entry s listed kept count made answer f is).next

  source_same : is.makes.source ≡ src
  source_same = let a = is.makes.next.first in let b = next_is.first in cc (a, b)

  number_same : is.makes.number ≡ num
  number_same =
      let d : DeviceNumber × ℕ = (num, src.length) in
      let a = is.makes.next.named d in
      let b = next_is.named d in
      let same : slice_index_or s.banks.log.numbers is.makes.source.index d ≡ slice_index_or s.banks.log.numbers src.index d = ap (λ (x : Source). slice_index_or s.banks.log.numbers x.index d) source_same in
      ap (λ (x : DeviceNumber × ℕ). x.0) (sym a ∙ same ∙ b)

  pub begins_at : BeginsAt src.place s.banks num src.length s.fls.flash answer made f.flash
  begins_at = subst (λ (x : DeviceNumber). BeginsAt src.place s.banks x src.length s.fls.flash answer made f.flash) number_same
      (subst (λ (x : Source). BeginsAt x.place s.banks is.makes.number x.length s.fls.flash answer made f.flash) source_same is.makes.begins)

  abbrev head : RecHead
  head = h m entry s listed kept count made answer f is

  abbrev log_k : LogState
  log_k = k m entry s listed kept count made answer f is

  abbrev tail_k : log_k.tail ≡ Writes head 0
  tail_k = tail m entry s listed kept count made answer f is

  abbrev pub body : List ℕ
  body = body_of (work_in log_k.tail) s.banks.buffer

  module _ (changes : reads_next s.banks.log (Some (Copy None)) ≡ false) where
    reads : reads_place src.place ≡ false
    reads = sym (ap reads_source next_is.first) ∙ changes

    begins : IsStep (op_of (begun s.banks.copies head) []) s.fls.flash answer f.flash × (made ≡ record s.banks { copies = after_step (begun s.banks.copies head) answer })
    begins = begins_mark src.place s.banks num src.length s.fls.flash answer made f.flash reads begins_at

    made_is : made ≡ record s.banks { copies = after_step log_k answer }
    made_is = begins.1

    length_none : head.length ≡ 0
    length_none = mark_length src.place num src.length reads

    body_is : body ≡ take head.length s.banks.buffer
    body_is = ap (λ (t : Tail). body_of (work_in t) s.banks.buffer) tail_k

    body_none : body ≡ []
    body_none = body_is ∙ ap (λ (n : ℕ). take n s.banks.buffer) length_none

    size_is : length body ≡ head.length
    size_is = ap length body_none ∙ sym length_none

    small : All (λ x. x < 256) body
    small = subst (All (λ (x : ℕ). x < 256)) (sym body_none) (λ i d lt. absurd (omega arith))

    abbrev op : Op
    op = step_op s.banks c

    op_body : op ≡ op_of log_k body
    op_body =
        ap (mark_op_of s.banks) next_is.first ∙ ap (mark_op_for s.banks.copies src.place) (slice_is s.banks.log.numbers src.index num src.length next_is.inside next_is.named)
        ∙ (λ i. op_of (begun s.banks.copies head) (sym body_none i))

    step : IsStep op s.fls.flash answer f.flash
    step = subst (λ (o : Op). IsStep o s.fls.flash answer f.flash)
        (sym (ap (mark_op_of s.banks) next_is.first ∙ ap (mark_op_for s.banks.copies src.place) (slice_is s.banks.log.numbers src.index num src.length next_is.inside next_is.named))) begins.0

    abbrev on : IsOver m s log_k
    on = over m entry s listed kept count made answer f is

    abbrev st : IsLogState log_k
    st = state m entry s listed kept count made answer f is

    abbrev l : Layout
    l = banks_of m

    abbrev mem : Memory
    mem = memory_of s

    abbrev q' : ℕ
    q' = q m entry s listed kept count c made answer f is log_k body head 0 tail_k st on small

    abbrev page' : List ℕ
    page' = page m entry s listed kept count c made answer f is log_k body head 0 tail_k st on small

    op_is : op ≡ program_of l s.banks.target q' page'
    op_is = op_body ∙ op_of_is m entry s listed kept count c made answer f is log_k body head 0 tail_k st on small

    size' : length page' ≡ m.geometry.page
    size' = size m entry s listed kept count c made answer f is log_k body head 0 tail_k st on small

    inside' : q' < l.pages
    inside' = inside m entry s listed kept count c made answer f is log_k body head 0 tail_k st on small

    not_gate' : q' ≡ 1 → ⊥
    not_gate' = not_gate m entry s listed kept count c made answer f is log_k body head 0 tail_k st on small

    abbrev log0 : Log
    log0 = log_of s.banks.copies (body_of (work_in s.banks.copies.tail) s.banks.buffer)

    phase0 : mem.phase ≡ Copying log0
    phase0 = ap (λ (o : Option Course). phase_shown o s.banks (body_of (work_in s.banks.copies.tail) s.banks.buffer)) is.course

    -- IT IS DONE
    not_last : is_last log_k.geometry.page head 0 ≡ false
    not_last = ne_eqb (0 + 1) (pages_of_head log_k.geometry.page head) (λ same. omega (arith, same))

    shown_is : shown (after_step log_k Done) s.banks.buffer ≡ log_done l.page m.numbers (log_of log_k body)
    shown_is =
        subst (λ (t : Tail). shown (after_step (tailed log_k t) Done) s.banks.buffer ≡ log_done log_k.geometry.page log_k.numbers (shown (tailed log_k t) s.banks.buffer)) (sym tail_k) (page_goes_on log_k head 0 s.banks.buffer not_last).shown_as
        ∙ (λ i. log_done (on.geometry i).page (on.numbers i) (log_of log_k body))

    work_on : work_in (after_step log_k Done).tail ≡ Some head
    work_on = subst (λ (t : Tail). work_in (after_step (tailed log_k t) Done).tail ≡ Some head) (sym tail_k) (ap work_in (page_goes_on log_k head 0 s.banks.buffer not_last).tail)

    abbrev next : Course
    next = after_done s.banks.geometry.page (sectors_of_bank s.banks.geometry s.banks.banks) s.banks.log.numbers s.banks.log.places s.banks.log.flags c

    abbrev begun_course : Course
    begun_course = course_begun s.banks.geometry.page (Some src)

    next_course : next ≡ begun_course
    next_course = ap (course_begun s.banks.geometry.page) next_is.first

    abbrev b : BanksState
    b = record s.banks { course = Some next; log = record s.banks.log { flags = s.banks.log.flags }; copies = after_step log_k Done }

    abbrev body' : List ℕ
    body' = body_of (work_in (after_step log_k Done).tail) s.banks.buffer

    phase_then : phase_at next b body' ≡ Copying (log_done l.page m.numbers (log_of log_k body))
    phase_then = ap (λ (x : Course). phase_at x b body') next_course ∙ ap Copying shown_is

    flags_same : (old new : List ℕ) → ShowsCopies m s c old → MayLeave op old new → flags_in m s new ≡ flags_in m s old
    flags_same old new shows leaves = ap (flags_of m.numbers s.banks.log.places s.banks.log.flags) (settled_same m entry s listed kept count c made answer f is op step q' page' op_is size' inside' old new (copied_of (flags_in m s old)) shows.held leaves)

    may_is : (may : May) → may_done l.page may (log_of log_k body) ≡ may
    may_is may =
        ap (λ (t : Tail). may_done l.page may (record { end = log_k.end; tail = tail_with t body; places = log_k.places })) tail_k
        ∙ ap (λ (x : Bool). if x then settling may head body else may) (ap (λ (y : Geometry). is_last y.page head 0) (sym on.geometry) ∙ not_last)

    kept_then : (old new : List ℕ) → ShowsCopies m s c old → MayLeave op old new → Leaves op Done old new → IsKept l m.numbers old new mem (record mem { phase = phase_at next b body' }) (copied_of (flags_in m s new))
    kept_then old new shows leaves left =
        let cop = copied_of (flags_in m s old) in
        let held' = begun_held m entry s listed kept count made answer f is old body size_is shows.held in
        let first = done_kept m entry s listed kept count c made answer f is log_k body head 0 tail_k st on small old new cop held'
        (subst (λ (o : Op). MayLeave o old new) op_body leaves) (subst (λ (o : Op). Leaves o Done old new) op_body left) in
        let held = subst (λ (x : May). IsHeld l m.numbers new (record mem { phase = Copying (log_done l.page m.numbers (log_of log_k body)) }) x) (may_is cop) first.held in
        let both : IsKept l m.numbers old new mem (record mem { phase = Copying (log_done l.page m.numbers (log_of log_k body)) }) cop = record { held = held; keeps = first.keeps; sound = first.sound } in
        subst (λ (x : Phase). IsKept l m.numbers old new mem (record mem { phase = x }) (copied_of (flags_in m s new))) (sym phase_then)
        (subst (λ (x : List Flag). IsKept l m.numbers old new mem (record mem { phase = Copying (log_done l.page m.numbers (log_of log_k body)) }) (copied_of x)) (sym (flags_same old new shows leaves)) both)

    copies_it : (old : List ℕ) → Each (Copies head (take head.length s.banks.buffer)) (flags_in m s old)
    copies_it old =
        let x = found m entry s listed kept count made answer f is old in
        let bank' = bank_in l x.active.head.format x.active.bank in
        let writes = mark_shown bank' old (take head.length s.banks.buffer) src.place num src.length reads in
        subst (λ (ns : List (DeviceNumber × ℕ)). Each (Copies head (take head.length s.banks.buffer)) (flags_of ns s.banks.log.places s.banks.log.flags (settled_in l ns old mem.old))) is.on.sound.made_for.numbers
        (found_copies bank' old (take head.length s.banks.buffer) src.place src.length num (flags_of s.banks.log.numbers s.banks.log.places s.banks.log.flags (settled_in l s.banks.log.numbers old mem.old)) x.left_in writes x.flags_in)

    copying_then : (old new : List ℕ) → ShowsCopies m s c old → MayLeave op old new → IsCopying next (work_in (after_step log_k Done).tail) s.banks.buffer (flags_in m s new)
    copying_then old new shows leaves =
        subst (λ (x : Course). IsCopying x (work_in (after_step log_k Done).tail) s.banks.buffer (flags_in m s new)) (sym next_course)
        (subst (λ (o : Option RecHead). IsCopying begun_course o s.banks.buffer (flags_in m s new)) (sym work_on) (copies_it new, is_open m entry s listed kept count made answer f is new))

-- THE TURNS
pub marks_fail : MarksTurn Failed
marks_fail m entry s listed kept count made f is changes =
    page_failed m entry s listed kept count (Copy None) made f (step_op s.banks (Copy None)) (q' m entry s listed kept count made Failed f is changes) (page' m entry s listed kept count made Failed f is changes)
    (op_is m entry s listed kept count made Failed f is changes) (size' m entry s listed kept count made Failed f is changes) (inside' m entry s listed kept count made Failed f is changes)
    (log0 m entry s listed kept count made Failed f is changes) (phase0 m entry s listed kept count made Failed f is changes) (not_gate' m entry s listed kept count made Failed f is changes) is
    (step m entry s listed kept count made Failed f is changes) refl (λ i. after_answer (sym (made_is m entry s listed kept count made Failed f is changes) i) (Copy None) Failed)

pub marks_are_cut : MarksTurn Off
marks_are_cut m entry s listed kept count made f is changes =
    page_cut m entry s listed kept count (Copy None) made f (step_op s.banks (Copy None)) (q' m entry s listed kept count made Off f is changes) (page' m entry s listed kept count made Off f is changes)
    (op_is m entry s listed kept count made Off f is changes) (size' m entry s listed kept count made Off f is changes) (inside' m entry s listed kept count made Off f is changes)
    (log0 m entry s listed kept count made Off f is changes) (phase0 m entry s listed kept count made Off f is changes) (not_gate' m entry s listed kept count made Off f is changes) is
    (step m entry s listed kept count made Off f is changes) (log_k m entry s listed kept count made Off f is) refl (sym (made_is m entry s listed kept count made Off f is changes))

pub marks_go_on : MarksTurn Done
marks_go_on m entry s listed kept count made f is changes =
    done_by m entry s listed kept count (Copy None) made f is tt (step_op s.banks (Copy None)) (step m entry s listed kept count made Done f is changes)
    (torn m entry s listed kept count (Copy None) made Done f is (step_op s.banks (Copy None)) (step m entry s listed kept count made Done f is changes) (q' m entry s listed kept count made Done f is changes) (page' m entry s listed kept count made Done f is changes) (op_is m entry s listed kept count made Done f is changes) (size' m entry s listed kept count made Done f is changes) (inside' m entry s listed kept count made Done f is changes) (log0 m entry s listed kept count made Done f is changes) (phase0 m entry s listed kept count made Done f is changes) (not_gate' m entry s listed kept count made Done f is changes))
    (cutting m entry s listed kept count (Copy None) made Done f is (step_op s.banks (Copy None)) (step m entry s listed kept count made Done f is changes) (q' m entry s listed kept count made Done f is changes) (page' m entry s listed kept count made Done f is changes) (op_is m entry s listed kept count made Done f is changes) (size' m entry s listed kept count made Done f is changes) (inside' m entry s listed kept count made Done f is changes) (log0 m entry s listed kept count made Done f is changes) (phase0 m entry s listed kept count made Done f is changes) (not_gate' m entry s listed kept count made Done f is changes))
    (next m entry s listed kept count made Done f is changes) s.banks.log.flags (after_step (log_k m entry s listed kept count made Done f is) Done)
    refl (λ i. after_answer (sym (made_is m entry s listed kept count made Done f is changes) i) (Copy None) Done)
    (record { takes = λ more. refl; nearer = λ some'. absurd (omega arith) })
    (λ old new sound shows leaves left. record { kept_all = kept_then m entry s listed kept count made Done f is changes old new shows leaves left; copying = copying_then m entry s listed kept count made Done f is changes old new shows leaves })
