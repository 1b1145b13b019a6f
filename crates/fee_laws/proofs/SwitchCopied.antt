-- The turns of a page of the copy in work.
use Rattle.std.specs.Prelude.{length}
use Rattle.std.proofs.Common.{◌≡◌, inl, inr, ◌<◌, ◌+◌, ◌-◌, ◌==◌, ℕ, Bool, true, false, if◌then◌else◌, List, [], ◌∷◌, Option, Some, None, refl, sym, ap, ◌∙◌, subst, arith}
use Rattle.std.proofs.lemmas.Bool.{cond_both, eqb-true}
use Rattle.nv_base.specs.declared.geometry.Geometry.{Geometry}
use Rattle.nv_base.specs.declared.instance.DeviceNumber.{DeviceNumber}
use Rattle.nv_base.specs.Held.{Held}
use Rattle.fls_model.specs.declared.flash.FlashAnswer.{FlashAnswer}
use Rattle.fls_model.specs.declared.flash.FlashAnswer.TheVariants.{Done, Failed, Off}
use Rattle.fls_model.specs.Op.{Op, MayLeave}
use Rattle.fls_model.specs.Step.{IsStep, Leaves}
use Rattle.fls_model.specs.Told.{Told}
use Rattle.fls_jobs.specs.State.{FlsState}
use Rattle.fee_format.specs.declared.rec_head.RecHead.{RecHead}
use Rattle.fee_image.specs.Image.{Layout}
use Rattle.fee_image.specs.Log.{Log}
use Rattle.fee_image.specs.May.{May}
use Rattle.fee_image.specs.Banks.{Phase, Copying}
use Rattle.fee_image.specs.Copies.{Flag, copied_of}
use Rattle.fee_image.proofs.Copies.{marking_holds}
use Rattle.fee_switch_laws.specs.fee_log.Log.{LogState, log_of, work_in}
use Rattle.fee_course.specs.declared.course.Course.{Course}
use Rattle.fee_course.specs.Course.{settled}
use Rattle.fee_switch_laws.specs.fee_switch.Banks.{BanksState, after_answer}
use Rattle.fee_switch_laws.specs.Shown.{phase_shown, phase_at}
use Rattle.fee_switch_laws.proofs.Copies.{settled_stays}
use Rattle.promise_device.specs.Making.{Making, banks_of}
use Rattle.fee_told.specs.Slots.{Memory, settled_in}
use Rattle.fee_told.specs.SlotLaws.{IsHeld}
use Rattle.fee_told.specs.Kept.{IsKept}
use Rattle.fee_told.proofs.Kept.{copies_widen}
use Rattle.fee_laws.specs.Copied.{flags_of, IsCopying}
use Rattle.fee_laws.specs.Inside.{Parts, memory_of, body_of, flags_in, ShowsCopies}
use Rattle.fee_laws.specs.Switches.{IsStepping, step_op, StepTurned}
use Rattle.fee_laws.proofs.SwitchShown.{settled_copying, roomy}
use Rattle.std.specs.List.{All}
use Rattle.std.specs.Prelude.{◌&&◌}
use Rattle.std.proofs.lemmas.Bool.{cases_Bool}
use Rattle.fee_image.specs.Found.{fits, matches_length}
use Rattle.fee_image.specs.RecordList.{pages_of_head}
use Rattle.fee_image.specs.May.{IsAmong, IsWider, held_written, settling}
use Rattle.fee_image.specs.Step.{log_done, may_done}
use Rattle.fee_image.specs.BankLaws.{program_of}
use Rattle.fee_image.specs.Copies.{marked}
use Rattle.fee_image.specs.declared.place.Place.{Place}
use Rattle.fee_switch_laws.specs.fee_log.declared.tail.Tail.{Tail}
use Rattle.fee_switch_laws.specs.fee_log.declared.tail.Tail.TheVariants.{Writes}
use Rattle.fee_switch_laws.specs.fee_log.Index.{with_flag}
use Rattle.fee_switch_laws.specs.fee_log.Log.{tail_with}
use Rattle.fee_switch_laws.specs.fee_log.Step.{op_of}
use Rattle.fee_switch_laws.specs.Flags.{IsOpenFor}
use Rattle.std.proofs.lemmas.Bool.{eq-eqb, eqb-false, ne_eqb}
use Rattle.std.proofs.lemmas.List.Elements.{All-take}
use Rattle.std.specs.Prelude.{slice_get, take}
use Rattle.fee_image.specs.Step.{is_last}
use Rattle.fee_switch_laws.specs.fee_log.Step.{after_step}
use Rattle.fee_course.specs.declared.course.Copying.{Copying as InWork}
use Rattle.fee_course.specs.declared.course.Course.TheVariants.{Copy}
use Rattle.fee_course.specs.Course.{flag_due, page_done}
use Rattle.fee_switch_laws.specs.Flags.{CopiesOrNot}
use Rattle.fee_switch_laws.specs.fee_switch.Banks.{flagged_by, flagged_at}
use Rattle.fee_switch_laws.specs.KeepsRoom.{IsOpenCopy, IsTargetLog}
use Rattle.fee_laws.specs.Switches.{copy_op_of}
use Rattle.fee_laws.proofs.Tails.{tailed, shown, page_goes_on, page_commits}
use Rattle.fee_image.specs.Banks.{Old}
use Rattle.fee_switch_laws.specs.Shown.{old_shown}
use Rattle.fee_laws.proofs.SwitchNearer.{Seals}
use Rattle.fee_laws.proofs.SwitchKinds.{done_by}
use Rattle.fee_laws.proofs.SwitchShown.{flags_hidden}
use Rattle.fee_laws.proofs.SwitchPage.{settled_same, torn, cutting, page_failed, page_cut}
use Rattle.fee_laws.proofs.SwitchCopy.{L, q, page, op_of_is, size, inside, not_gate, done_kept, IsOver, copies_over, open_any}
use Rattle.fee_laws.proofs.Figures.{and_false}
use Rattle.fee_laws.proofs.Beside.{flags_set}

-- ITS LAST PAGE
pub last_is : (done pages total : ℕ) → done + pages ≡ total → (done + 1 == total) ≡ (pages == 1)
last_is done pages total sum = elim (cases_Bool (pages == 1)) [
  | inl e ↦ (let one : pages ≡ 1 = eqb-true pages 1 e in eq-eqb (done + 1) total (omega (arith, sum, one)) ∙ sym e)
  | inr e ↦ (let other : pages ≡ 1 → ⊥ = eqb-false pages 1 e in ne_eqb (done + 1) total (λ same. other (omega (arith, sum, same))) ∙ sym e)
]

-- behind it what the target shows of its number
settling_open : (h : RecHead) (body : List ℕ) (fs : List Flag) → IsOpenFor h.number.0 fs → IsWider (settling (copied_of fs) h body) (copied_of fs)
settling_open h body fs open' number length m among =
    by_fit (fits number length h) refl among
  where
    by_fit : (b : Bool) → fits number length h ≡ b → IsAmong (if b then Some (held_written h body ∷ []) else copied_of fs number length) m → IsAmong (copied_of fs number length) m
    by_fit false e among' = among'
    by_fit true e among' = (let same : h.number.0 ≡ number = eqb-true h.number.0 number (both (h.number.0 == number) (matches_length h.kind h.length length) e) in subst (λ (n : ℕ). IsAmong (copied_of fs n length) m) same (open_any h.number.0 fs length m open'))
      where
        both : (a b : Bool) → a && b ≡ true → a ≡ true
        both true b e = refl
        both false b e = cc e

abbrev marked_if : Bool → ℕ → List Flag → List Flag
marked_if b number fs = if b then marked number fs else fs

wider_by : (last sets : Bool) (h : RecHead) (body : List ℕ) (fs : List Flag) → CopiesOrNot sets h body fs
    → IsWider (if last then settling (copied_of fs) h body else copied_of fs) (copied_of (marked_if (sets && last) h.number.0 fs))
wider_by true true h body fs copies = marking_holds fs h body copies
wider_by true false h body fs copies = settling_open h body fs copies
wider_by false true h body fs copies = λ number length m among. among
wider_by false false h body fs copies = λ number length m among. among

-- its flag
flag_set : (log : LogState) (i : ℕ) (n : DeviceNumber × ℕ) (b : Bool) → slice_get log.numbers i ≡ Some n → flagged_by log (if b then Some i else None) ≡ record log { flags = if b then with_flag log.numbers log.flags n.0.0 true else log.flags }
flag_set log i n true at = ap (flagged_at log) at
flag_set log i n false at = refl

flags_if : (ns : List (DeviceNumber × ℕ)) (ps : List Place) (flags : List Bool) (held : List Held) (number : ℕ) (b : Bool) → flags_of ns ps (if b then with_flag ns flags number true else flags) held ≡ marked_if b number (flags_of ns ps flags held)
flags_if ns ps flags held number true = flags_set ns ps flags held number true
flags_if ns ps flags held number false = refl

page_phase : (ns : List (DeviceNumber × ℕ)) (ps : List Place) (cs : List Bool) (w : InWork) (b : BanksState) (x : List ℕ) → phase_at (page_done ns ps cs w) b x ≡ Copying (log_of b.copies x)
page_phase ns ps cs w b x =
    cond_both (w.pages == 1) (settled ns ps cs) (Copy (Some (record w { pages = w.pages - 1 }))) (λ (c : Course). phase_at c b x ≡ Copying (log_of b.copies x)) (λ e. settled_stays ns ps cs b x) (λ e. refl)

module _ (m : Making) (entry : Told) (s : Parts) (listed : List (DeviceNumber × ℕ)) (kept count : ℕ) (w : InWork) (made : BanksState) (answer : FlashAnswer) (f : FlsState) (is : IsStepping m entry s listed kept count (Copy (Some w)) made answer f) where
  abbrev c : Course
  c = Copy (Some w)

  abbrev mem : Memory
  mem = memory_of s

  abbrev l : Layout
  l = banks_of m

  abbrev pub k : LogState
  k = s.banks.copies

  abbrev pub body : List ℕ
  body = body_of (work_in k.tail) s.banks.buffer

  pub target : IsTargetLog s.banks c
  target = (roomy m entry s listed kept count c made answer f is).target

  abbrev here : IsOpenCopy s.banks w
  here = target.work

  abbrev pub h : RecHead
  h = here.head

  abbrev pub done : ℕ
  done = here.done

  pub tail : k.tail ≡ Writes h done
  tail = here.tail

  pub work : work_in k.tail ≡ Some h
  work = ap work_in tail

  body_is : body ≡ take h.length s.banks.buffer
  body_is = ap (λ (o : Option RecHead). body_of o s.banks.buffer) work

  pub over : IsOver m s k
  over = copies_over m s is.on.sound.made_for is.on.banks target.format

  pub small : All (λ x. x < 256) body
  small = subst (All (λ (x : ℕ). x < 256)) (sym body_is) (All-take (λ (x : ℕ). x < 256) h.length s.banks.buffer is.bytes)

  abbrev pub op : Op
  op = step_op s.banks c

  op_body : op ≡ op_of k body
  op_body = ap (copy_op_of s.banks) work ∙ ap (op_of k) (sym body_is)

  pub op_is : op ≡ program_of l s.banks.target (q m entry s listed kept count c made answer f is k body h done tail is.copies over small) (page m entry s listed kept count c made answer f is k body h done tail is.copies over small)
  op_is = op_body ∙ op_of_is m entry s listed kept count c made answer f is k body h done tail is.copies over small

  pub step : IsStep op s.fls.flash answer f.flash
  step = subst (λ (o : Op). IsStep o s.fls.flash answer f.flash) (sym (ap (copy_op_of s.banks) work)) (is.makes.0 h work)

  pub phase : mem.phase ≡ Copying (log_of k body)
  phase = ap (λ (o : Option Course). phase_shown o s.banks body) is.course

  -- WHERE IT IS DONE
  abbrev N : Log
  N = log_done l.page m.numbers (L m entry s listed kept count c made answer f is k body h done tail is.copies over small)

  pages_at : (p : ℕ) → p ≡ s.banks.geometry.page → done + w.pages ≡ pages_of_head p h
  pages_at p same = subst (λ (x : ℕ). done + w.pages ≡ pages_of_head x h) (sym same) here.pages

  same_last : (p : ℕ) → p ≡ s.banks.geometry.page → is_last p h done ≡ (w.pages == 1)
  same_last p same = last_is done w.pages (pages_of_head p h) (pages_at p same)

  shown_by : (b : Bool) → is_last k.geometry.page h done ≡ b → shown (after_step (tailed k (Writes h done)) Done) s.banks.buffer ≡ log_done k.geometry.page k.numbers (shown (tailed k (Writes h done)) s.banks.buffer)
  shown_by false e = (page_goes_on k h done s.banks.buffer e).shown_as
  shown_by true e = (page_commits k h done s.banks.buffer e).shown_as

  shown_is : shown (after_step k Done) s.banks.buffer ≡ N
  shown_is =
      subst (λ (t : Tail). shown (after_step (tailed k t) Done) s.banks.buffer ≡ log_done k.geometry.page k.numbers (shown (tailed k t) s.banks.buffer)) (sym tail) (shown_by (is_last k.geometry.page h done) refl)
      ∙ (λ i. log_done (over.geometry i).page (over.numbers i) (log_of k body))

  abbrev pub set : LogState
  set = flagged_by s.banks.log (flag_due c)

  abbrev pub next : Course
  next = page_done set.numbers set.places set.flags w

  abbrev pub b : BanksState
  b = record s.banks { course = Some next; log = record s.banks.log { flags = set.flags }; copies = after_step k Done }

  abbrev sets_now : Bool
  sets_now = w.sets && (w.pages == 1)

  set_is : set ≡ record s.banks.log { flags = if sets_now then with_flag s.banks.log.numbers s.banks.log.flags h.number.0 true else s.banks.log.flags }
  set_is = flag_set s.banks.log w.index (h.number, here.length) sets_now here.named

  pub set_same : set ≡ record s.banks.log { flags = set.flags }
  set_same = set_is ∙ (λ i. record s.banks.log { flags = (sym set_is i).flags })

  set_numbers : set.numbers ≡ s.banks.log.numbers
  set_numbers = ap (λ (x : LogState). x.numbers) set_is

  abbrev pub old' : Old
  old' = old_shown s.banks.active (record s.banks.log { flags = set.flags }) (body_of (work_in s.banks.log.tail) s.content)

  old_is : old' ≡ mem.old
  old_is = flags_hidden s.banks.active s.banks.log set.flags (body_of (work_in s.banks.log.tail) s.content)

  abbrev pub body' : List ℕ
  body' = body_of (work_in (after_step k Done).tail) s.banks.buffer

  abbrev pub after_it : Memory
  after_it = record mem { old = old'; phase = phase_at next b body' }

  pub then_is : record mem { phase = Copying N } ≡ after_it
  then_is = λ i. record mem { old = sym old_is i; phase = sym (page_phase set.numbers set.places set.flags w b body' ∙ ap Copying shown_is) i }

  abbrev fs : List ℕ → List Flag
  fs bytes = flags_in m s bytes

  abbrev pub fs' : List ℕ → List Flag
  fs' bytes = flags_of m.numbers s.banks.log.places set.flags (settled_in l m.numbers bytes old')

  flags_then : (old new : List ℕ) → ShowsCopies m s c old → MayLeave op old new → fs' new ≡ marked_if sets_now h.number.0 (fs old)
  flags_then old new shows leaves =
      let settled' = settled_same m entry s listed kept count c made answer f is op step (q m entry s listed kept count c made answer f is k body h done tail is.copies over small)
      (page m entry s listed kept count c made answer f is k body h done tail is.copies over small) op_is (size m entry s listed kept count c made answer f is k body h done tail is.copies over small)
      (inside m entry s listed kept count c made answer f is k body h done tail is.copies over small) old new (copied_of (fs old)) shows.held leaves in
      let held = settled_in l m.numbers old mem.old in
      let same : settled_in l m.numbers new old' ≡ held = ap (settled_in l m.numbers new) old_is ∙ settled' in
      let set_flags : set.flags ≡ (if sets_now then with_flag m.numbers s.banks.log.flags h.number.0 true else s.banks.log.flags) =
      ap (λ (x : LogState). x.flags) set_is ∙ (λ i. if sets_now then with_flag (is.on.sound.made_for.numbers i) s.banks.log.flags h.number.0 true else s.banks.log.flags) in
      (λ i. flags_of m.numbers s.banks.log.places (set_flags i) (same i)) ∙ flags_if m.numbers s.banks.log.places s.banks.log.flags held h.number.0 sets_now

  copy_was : (old : List ℕ) → ShowsCopies m s c old → CopiesOrNot w.sets h (take h.length s.banks.buffer) (fs old) × IsOpenFor h.number.0 (fs old)
  copy_was old shows = subst (λ (o : Option RecHead). IsCopying c o s.banks.buffer (fs old)) work shows.copy

  may_is : (may : May) → may_done l.page may (log_of k body) ≡ (if w.pages == 1 then settling may h body else may)
  may_is may =
      ap (λ (t : Tail). may_done l.page may (record { end = k.end; tail = tail_with t body; places = k.places })) tail
      ∙ ap (λ (b : Bool). if b then settling may h body else may) (same_last l.page (ap (λ (g : Geometry). g.page) (sym is.on.sound.made_for.banks_geometry)))

  pub kept_then : (old new : List ℕ) → ShowsCopies m s c old → MayLeave op old new → Leaves op Done old new → IsKept l m.numbers old new mem after_it (copied_of (fs' new))
  kept_then old new shows leaves left =
      let cop = copied_of (fs old) in
      let held' = subst (λ (x : Phase). IsHeld l m.numbers old (record mem { phase = x }) cop) phase shows.held in
      let first = done_kept m entry s listed kept count c made answer f is k body h done tail is.copies over small old new cop held'
      (subst (λ (o : Op). MayLeave o old new) op_body leaves) (subst (λ (o : Op). Leaves o Done old new) op_body left) in
      let held_if = subst (λ (x : May). IsHeld l m.numbers new (record mem { phase = Copying N }) x) (may_is cop) first.held in
      let copies = subst (λ (x : List ℕ). CopiesOrNot w.sets h x (fs old)) (sym body_is) (copy_was old shows).0 in
      let wide = wider_by (w.pages == 1) w.sets h body (fs old) copies in
      let held_wide = copies_widen l m.numbers new (record mem { phase = Copying N }) (if w.pages == 1 then settling cop h body else cop) (copied_of (marked_if sets_now h.number.0 (fs old))) held_if wide tt in
      let both : IsKept l m.numbers old new mem (record mem { phase = Copying N }) (copied_of (marked_if sets_now h.number.0 (fs old))) = record { held = held_wide; keeps = first.keeps; sound = first.sound } in
      subst (λ (x : Memory). IsKept l m.numbers old new mem x (copied_of (fs' new))) then_is
      (subst (λ (x : List Flag). IsKept l m.numbers old new mem (record mem { phase = Copying N }) (copied_of x)) (sym (flags_then old new shows leaves)) both)

  -- the copy goes on
  work_on : is_last k.geometry.page h done ≡ false → work_in (after_step k Done).tail ≡ Some h
  work_on e = subst (λ (t : Tail). work_in (after_step (tailed k t) Done).tail ≡ Some h) (sym tail) (ap work_in (page_goes_on k h done s.banks.buffer e).tail)

  pub copying_then : (old new : List ℕ) → ShowsCopies m s c old → MayLeave op old new → IsCopying next (work_in (after_step k Done).tail) s.banks.buffer (fs' new)
  copying_then old new shows leaves =
      cond_both (w.pages == 1) (settled set.numbers set.places set.flags) (Copy (Some (record w { pages = w.pages - 1 }))) (λ (x : Course). IsCopying x (work_in (after_step k Done).tail) s.banks.buffer (fs' new))
      (λ e. settled_copying set.numbers set.places set.flags (work_in (after_step k Done).tail) s.banks.buffer (fs' new))
      (λ e.
      (let none : sets_now ≡ false = ap (λ (b : Bool). w.sets && b) e ∙ and_false w.sets in
      let same : fs' new ≡ fs old = flags_then old new shows leaves ∙ ap (λ (b : Bool). marked_if b h.number.0 (fs old)) none in
      let on = work_on (same_last k.geometry.page (ap (λ (g : Geometry). g.page) is.on.banks.copies.shape) ∙ e) in
      subst (λ (x : List Flag). IsCopying (Copy (Some (record w { pages = w.pages - 1 }))) (work_in (after_step k Done).tail) s.banks.buffer x) (sym same)
      (subst (λ (o : Option RecHead). IsCopying (Copy (Some (record w { pages = w.pages - 1 }))) o s.banks.buffer (fs old)) (sym on) (copy_was old shows))))

-- THE TURNS
module _ (m : Making) (entry : Told) (s : Parts) (listed : List (DeviceNumber × ℕ)) (kept count : ℕ) (w : InWork) (made : BanksState) (f : FlsState) where
  abbrev at : Course
  at = Copy (Some w)

  abbrev mem' : Memory
  mem' = memory_of s

  module _ (answer : FlashAnswer) (is : IsStepping m entry s listed kept count (Copy (Some w)) made answer f) where
    abbrev q' : ℕ
    q' = q m entry s listed kept count at made answer f is (k m entry s listed kept count w made answer f is) (body m entry s listed kept count w made answer f is) (h m entry s listed kept count w made answer f is) (done m entry s listed kept count w made answer f is) (tail m entry s listed kept count w made answer f is) is.copies (over m entry s listed kept count w made answer f is) (small m entry s listed kept count w made answer f is)

    abbrev page' : List ℕ
    page' = page m entry s listed kept count at made answer f is (k m entry s listed kept count w made answer f is) (body m entry s listed kept count w made answer f is) (h m entry s listed kept count w made answer f is) (done m entry s listed kept count w made answer f is) (tail m entry s listed kept count w made answer f is) is.copies (over m entry s listed kept count w made answer f is) (small m entry s listed kept count w made answer f is)

    size' : length page' ≡ m.geometry.page
    size' = size m entry s listed kept count at made answer f is (k m entry s listed kept count w made answer f is) (body m entry s listed kept count w made answer f is) (h m entry s listed kept count w made answer f is) (done m entry s listed kept count w made answer f is) (tail m entry s listed kept count w made answer f is) is.copies (over m entry s listed kept count w made answer f is) (small m entry s listed kept count w made answer f is)

    inside' : q' < (banks_of m).pages
    inside' = inside m entry s listed kept count at made answer f is (k m entry s listed kept count w made answer f is) (body m entry s listed kept count w made answer f is) (h m entry s listed kept count w made answer f is) (done m entry s listed kept count w made answer f is) (tail m entry s listed kept count w made answer f is) is.copies (over m entry s listed kept count w made answer f is) (small m entry s listed kept count w made answer f is)

    not_gate' : q' ≡ 1 → ⊥
    not_gate' = not_gate m entry s listed kept count at made answer f is (k m entry s listed kept count w made answer f is) (body m entry s listed kept count w made answer f is) (h m entry s listed kept count w made answer f is) (done m entry s listed kept count w made answer f is) (tail m entry s listed kept count w made answer f is) is.copies (over m entry s listed kept count w made answer f is) (small m entry s listed kept count w made answer f is)

    abbrev log' : Log
    log' = log_of (k m entry s listed kept count w made answer f is) (body m entry s listed kept count w made answer f is)

  pub copy_failed : IsStepping m entry s listed kept count at made Failed f → StepTurned Failed m entry s listed kept count at made f
  copy_failed is =
      page_failed m entry s listed kept count at made f (step_op s.banks at) (q' Failed is) (page' Failed is) (op_is m entry s listed kept count w made Failed f is) (size' Failed is) (inside' Failed is) (log' Failed is)
      (phase m entry s listed kept count w made Failed f is) (not_gate' Failed is) is (step m entry s listed kept count w made Failed f is) refl (λ i. after_answer (sym is.makes.1 i) at Failed)

  pub copy_cut : IsStepping m entry s listed kept count at made Off f → StepTurned Off m entry s listed kept count at made f
  copy_cut is =
      page_cut m entry s listed kept count at made f (step_op s.banks at) (q' Off is) (page' Off is) (op_is m entry s listed kept count w made Off f is) (size' Off is) (inside' Off is) (log' Off is)
      (phase m entry s listed kept count w made Off f is) (not_gate' Off is) is (step m entry s listed kept count w made Off f is) s.banks.copies refl (sym is.makes.1)

  b_is : (is : IsStepping m entry s listed kept count at made Done f) → b m entry s listed kept count w made Done f is ≡ after_answer made at Done
  b_is is =
      (λ i. record s.banks { course = Some (next m entry s listed kept count w made Done f is); log = sym (set_same m entry s listed kept count w made Done f is) i; copies = after_step s.banks.copies Done })
      ∙ (λ i. after_answer (sym is.makes.1 i) at Done)

  seals : (is : IsStepping m entry s listed kept count at made Done f) → Seals at (next m entry s listed kept count w made Done f is)
  seals is = record { takes = λ more. refl; nearer = λ some'. absurd (omega arith) }

  pub copy_done : IsStepping m entry s listed kept count at made Done f → StepTurned Done m entry s listed kept count at made f
  copy_done is =
      done_by m entry s listed kept count at made f is tt (step_op s.banks at) (step m entry s listed kept count w made Done f is)
      (torn m entry s listed kept count at made Done f is (step_op s.banks at) (step m entry s listed kept count w made Done f is) (q' Done is) (page' Done is) (op_is m entry s listed kept count w made Done f is) (size' Done is) (inside' Done is) (log' Done is) (phase m entry s listed kept count w made Done f is) (not_gate' Done is))
      (cutting m entry s listed kept count at made Done f is (step_op s.banks at) (step m entry s listed kept count w made Done f is) (q' Done is) (page' Done is) (op_is m entry s listed kept count w made Done f is) (size' Done is) (inside' Done is) (log' Done is) (phase m entry s listed kept count w made Done f is) (not_gate' Done is))
      (next m entry s listed kept count w made Done f is) (set m entry s listed kept count w made Done f is).flags (after_step s.banks.copies Done) refl (b_is is) (seals is)
      (λ old new sound shows leaves left. record { kept_all = kept_then m entry s listed kept count w made Done f is old new shows leaves left; copying = copying_then m entry s listed kept count w made Done f is old new shows leaves })
