-- The turns of an erase of the target.
use Rattle.std.proofs.Common.{◌≡◌, inl, ◌≤◌, ◌*◌, ◌+◌, ◌==◌, ℕ, Bool, false, List, Option, Some, refl, sym, ap, ◌∙◌, subst, arith}
use Rattle.std.proofs.lemmas.Bool.{cond_both, eqb-true}
use Rattle.nv_base.specs.Geometry.{sectors_of_bank, pages_of_sector}
use Rattle.nv_base.specs.declared.geometry.Geometry.{Geometry}
use Rattle.nv_base.specs.declared.instance.DeviceNumber.{DeviceNumber}
use Rattle.memif.specs.Told.{Stand}
use Rattle.fls_model.specs.declared.flash.FlashAnswer.{FlashAnswer}
use Rattle.fls_model.specs.declared.flash.FlashAnswer.TheVariants.{Done, Failed}
use Rattle.fls_model.specs.Op.{Op, MayLeave, after_op}
use Rattle.fls_model.specs.Step.{IsStep, Leaves}
use Rattle.fls_model.specs.Told.{Told}
use Rattle.fls_jobs.specs.State.{FlsState}
use Rattle.fee_format.specs.declared.rec_head.RecHead.{RecHead}
use Rattle.fee_image.specs.Image.{Layout}
use Rattle.fee_image.specs.LogLaws.{erased_log}
use Rattle.fee_image.specs.May.{May}
use Rattle.fee_image.specs.Banks.{Phase, Erasing, Copying}
use Rattle.fee_image.specs.BankLaws.{erase_of}
use Rattle.fee_image.specs.Copies.{Flag, Each, copied_of}
use Rattle.fee_image.proofs.Copies.{clear_may_be_erased}
use Rattle.fee_image.proofs.Sectors.{sectors_fill_banks}
use Rattle.fee_switch_laws.specs.fee_log.Index.{clear_flags}
use Rattle.fee_switch_laws.specs.fee_log.Log.{LogState, log_of, work_in, erased_state}
use Rattle.fee_course.specs.declared.course.Course.{Course}
use Rattle.fee_course.specs.declared.course.Course.TheVariants.{Erase}
use Rattle.fee_course.specs.Course.{settled, after_done}
use Rattle.fee_switch_laws.specs.fee_switch.Banks.{BanksState, after_answer}
use Rattle.fee_switch_laws.specs.Shown.{phase_shown, phase_at}
use Rattle.fee_switch_laws.specs.KeepsRoom.{IsEmptyTarget}
use Rattle.fee_switch_laws.proofs.Copies.{settled_stays}
use Rattle.promise_device.specs.Making.{Making, banks_of}
use Rattle.fee_told.specs.Slots.{Memory, banks_with, may_told, settled_in}
use Rattle.fee_told.specs.SlotLaws.{IsHeld, GoesOn}
use Rattle.fee_told.specs.Kept.{IsKept}
use Rattle.fee_told.specs.Switches.{Stands, IsErasing}
use Rattle.fee_told.proofs.Kept.{same_places}
use Rattle.fee_told.proofs.Places.{erases_keep_settled}
use Rattle.fee_told.proofs.Switches.{copies_begin, erases_fail, erases_go_on}
use Rattle.fee_laws.specs.Copied.{flags_of, IsCopying}
use Rattle.fee_laws.specs.Inside.{Parts, memory_of, body_of, flags_in, ShowsCopies}
use Rattle.fee_laws.specs.Switches.{IsStepping, step_op}
use Rattle.fee_laws.proofs.Before.{shape, shared, lengths, legal}
use Rattle.fee_laws.proofs.Switching.{Cutting}
use Rattle.fee_laws.proofs.SwitchShown.{kept_both, each_clear, settled_copying, roomy, short, no_job, standing}
use Rattle.fee_image.specs.Sound.{IsSoundImage}

module _ (m : Making) (entry : Told) (s : Parts) (listed : List (DeviceNumber × ℕ)) (kept count : ℕ) (n : ℕ) (made : BanksState) (answer : FlashAnswer) (f : FlsState) (is : IsStepping m entry s listed kept count (Erase n) made answer f) where
  abbrev mem : Memory
  mem = memory_of s

  abbrev l : Layout
  l = banks_of m

  abbrev pub op : Op
  op = step_op s.banks (Erase n)

  geo : s.banks.geometry ≡ m.geometry
  geo = is.on.sound.made_for.banks_geometry

  banks_are : s.banks.banks ≡ m.banks
  banks_are = is.on.sound.made_for.shared

  abbrev body : List ℕ
  body = body_of (work_in s.banks.copies.tail) s.banks.buffer

  phase : mem.phase ≡ Erasing (n * pages_of_sector m.geometry)
  phase = ap (λ (o : Option Course). phase_shown o s.banks body) is.course ∙ ap (λ (g : Geometry). Erasing (n * pages_of_sector g)) geo

  op_is : op ≡ erase_of m.geometry m.banks s.banks.target n
  op_is = λ i. erase_of (geo i) (banks_are i) s.banks.target n

  erasing : (old new : List ℕ) (copied : May) → IsSoundImage l old → IsHeld l m.numbers old mem copied → MayLeave op old new → IsErasing m.geometry m.banks m.numbers old new mem copied n
  erasing old new copied sound held leaves = record {
    shape = shape m entry s listed kept count is.on;
    shared = shared m entry s listed kept count is.on;
    sound = sound;
    stands = standing m entry s listed kept count (Erase n) made answer f is old copied held;
    phase = phase;
    inside = short m entry s listed kept count (Erase n) made answer f is;
    leaves = subst (λ (o : Op). MayLeave o old new) op_is leaves;
  }

  -- the places of the active bank show what they showed
  settled_same : (old new : List ℕ) (copied : May) → IsHeld l m.numbers old mem copied → MayLeave op old new → settled_in l m.numbers new mem.old ≡ settled_in l m.numbers old mem.old
  settled_same old new copied held leaves =
      erases_keep_settled m.geometry m.banks m.numbers old new (banks_with mem (may_told l m.numbers old mem) copied) n mem.old (shape m entry s listed kept count is.on) (shared m entry s listed kept count is.on) held.banks
      (short m entry s listed kept count (Erase n) made answer f is) (subst (λ (o : Op). MayLeave o old new) op_is leaves) (same_places mem.old)

  abbrev fs : List ℕ → List Flag
  fs bytes = flags_in m s bytes

  flags_same : (old new : List ℕ) (copied : May) → IsHeld l m.numbers old mem copied → MayLeave op old new → fs new ≡ fs old
  flags_same old new copied held leaves = ap (flags_of m.numbers s.banks.log.places s.banks.log.flags) (settled_same old new copied held leaves)

  -- WHATEVER IT LEAVES
  failing : (old new : List ℕ) (copied : May) (stand : Stand) → IsSoundImage l old → IsHeld l m.numbers old mem copied → MayLeave op old new → GoesOn mem.stand stand → IsKept l m.numbers old new mem (record mem { stand = stand }) copied
  failing old new copied stand sound held leaves goes =
      erases_fail m.geometry m.banks m.numbers old new mem copied n stand (erasing old new copied sound held leaves) goes (no_job m entry s listed kept count (Erase n) made answer f is stand)

  pub step : IsStep op s.fls.flash answer f.flash
  step = is.makes.0

  pub cutting : Cutting m entry s listed kept count (Erase n) made answer f is op step mem
  cutting old image sound shows leaves = failing old image (copied_of (fs old)) mem.stand sound shows.held leaves (inl refl)

  -- WHILE IT IS ERASED
  pub target : IsEmptyTarget s.banks
  target = (roomy m entry s listed kept count (Erase n) made answer f is).target

  abbrev p : ℕ
  p = s.banks.geometry.page

  abbrev sectors : ℕ
  sectors = sectors_of_bank s.banks.geometry s.banks.banks

  abbrev pub next : Course
  next = after_done p sectors s.banks.log.numbers s.banks.log.places s.banks.log.flags (Erase n)

  abbrev pub b : BanksState
  b = record s.banks { course = Some next; log = record s.banks.log { flags = s.banks.log.flags }; copies = s.banks.copies }

  pub b_is : b ≡ after_answer made (Erase n) Done
  b_is = λ i. after_answer (sym is.makes.1 i) (Erase n) Done

  erased : log_of s.banks.copies body ≡ erased_log m.numbers
  erased = ap (λ (x : LogState). log_of x body) target.copies ∙ ap erased_log (is.on.banks.numbers ∙ is.on.sound.made_for.numbers)

  clear : (bytes : List ℕ) → Each (λ x. x.copied ≡ false) (fs bytes)
  clear bytes =
      let held = settled_in l m.numbers bytes mem.old in
      let none = target.clear ∙ ap clear_flags is.on.sound.made_for.numbers in
      subst (λ (x : List Bool). Each (λ y. y.copied ≡ false) (flags_of m.numbers s.banks.log.places x held)) (sym none) (each_clear m.numbers s.banks.log.places held)

  abbrev with_phase : Phase → Memory
  with_phase x = record mem { phase = x }

  abbrev rest : Course
  rest = settled s.banks.log.numbers s.banks.log.places s.banks.log.flags

  -- it is done
  going : (old new : List ℕ) → IsSoundImage l old → ShowsCopies m s (Erase n) old → MayLeave op old new → Leaves op Done old new → IsKept l m.numbers old new mem (with_phase (phase_at next b body)) (copied_of (fs old))
  going old new sound shows leaves left =
      let cop = copied_of (fs old) in
      let first = erases_go_on m.geometry m.banks m.numbers old new mem cop n (erasing old new cop sound shows.held leaves) (subst (λ (o : Op). new ≡ after_op o old) op_is left) in
      let N = (n + 1) * pages_of_sector m.geometry in
      cond_both (n + 1 == sectors) rest (Erase (n + 1)) (λ (c : Course). IsKept l m.numbers old new mem (with_phase (phase_at c b body)) cop)
      (λ e.
      (let last : n + 1 ≡ sectors = eqb-true (n + 1) sectors e in
      let all : l.pages ≤ N =
      (let one = sectors_fill_banks m.geometry m.banks (shape m entry s listed kept count is.on) (shared m entry s listed kept count is.on) in
      let same : n + 1 ≡ sectors_of_bank m.geometry m.banks = last ∙ (λ i. sectors_of_bank (geo i) (banks_are i)) in
      subst (λ (k : ℕ). l.pages ≤ k * pages_of_sector m.geometry) (sym same) (omega (arith, one))) in
      let second = copies_begin l m.numbers new (with_phase (Erasing N)) cop N (standing_on old new cop first) refl all (clear_may_be_erased (fs old) (clear old)) in
      let both = kept_both l m.numbers old new new mem (with_phase (Erasing N)) (with_phase (Copying (erased_log m.numbers))) cop cop first second in
      let is_phase : Copying (erased_log m.numbers) ≡ phase_at rest b body = ap Copying (sym erased) ∙ sym (settled_stays s.banks.log.numbers s.banks.log.places s.banks.log.flags b body) in
      subst (λ (x : Phase). IsKept l m.numbers old new mem (with_phase x) cop) is_phase both))
      (λ e. subst (λ (x : Phase). IsKept l m.numbers old new mem (with_phase x) cop) (ap (λ (g : Geometry). Erasing ((n + 1) * pages_of_sector g)) (sym geo)) first)
    where
      standing_on : (old new : List ℕ) (cop : May) → IsKept l m.numbers old new mem (with_phase (Erasing ((n + 1) * pages_of_sector m.geometry))) cop → Stands l m.numbers new (with_phase (Erasing ((n + 1) * pages_of_sector m.geometry))) cop
      standing_on old new cop first =
          record { lengths = lengths m entry s listed kept count is.on; legal = legal m entry s listed kept count is.on; held = first.held }

  next_copying : (work : Option RecHead) (buffer : List ℕ) (x : List Flag) → IsCopying next work buffer x
  next_copying work buffer x =
      cond_both (n + 1 == sectors) rest (Erase (n + 1)) (λ (c : Course). IsCopying c work buffer x)
      (λ e. settled_copying s.banks.log.numbers s.banks.log.places s.banks.log.flags work buffer x) (λ e. tt)

  pub went : (old new : List ℕ) → IsSoundImage l old → ShowsCopies m s (Erase n) old → MayLeave op old new → Leaves op Done old new
      → IsKept l m.numbers old new mem (with_phase (phase_at next b body)) (copied_of (fs new)) × IsCopying next (work_in s.banks.copies.tail) s.banks.buffer (fs new)
  went old new sound shows leaves left = (
    subst (λ (x : List Flag). IsKept l m.numbers old new mem (with_phase (phase_at next b body)) (copied_of x)) (sym (flags_same old new (copied_of (fs old)) shows.held leaves)) (going old new sound shows leaves left),
    next_copying (work_in s.banks.copies.tail) s.banks.buffer (fs new),
  )

  -- it failed: it is made again
  abbrev pub again : BanksState
  again = record s.banks { course = Some (Erase n); log = record s.banks.log { flags = clear_flags s.banks.log.numbers }; copies = erased_state s.banks.geometry s.banks.banks s.banks.target s.banks.copies.numbers }

  pub again_is : again ≡ after_answer made (Erase n) Failed
  again_is = λ i. after_answer (sym is.makes.1 i) (Erase n) Failed

  -- which leaves the banks as they are
  pub again_same : again ≡ s.banks
  again_same = λ i. record s.banks { course = sym is.course i; log = record s.banks.log { flags = sym target.clear i }; copies = sym target.copies i }

  pub failed : (old new : List ℕ) (stand : Stand) → IsSoundImage l old → ShowsCopies m s (Erase n) old → MayLeave op old new → GoesOn mem.stand stand → IsKept l m.numbers old new mem (record mem { stand = stand }) (copied_of (fs new))
  failed old new stand sound shows leaves goes =
      subst (λ (x : List Flag). IsKept l m.numbers old new mem (record mem { stand = stand }) (copied_of x)) (sym (flags_same old new (copied_of (fs old)) shows.held leaves)) (failing old new (copied_of (fs old)) stand sound shows.held leaves goes)
