-- The turns of the target's head.
use Rattle.std.specs.Prelude.{length}
use Rattle.std.proofs.Common.{◌≡◌, inl, inr, ◌≤◌, ◌<◌, ◌+◌, ◌-◌, ℕ, true, false, List, Option, Some, None, refl, sym, ap, subst, arith}
use Rattle.nv_base.specs.declared.instance.DeviceNumber.{DeviceNumber}
use Rattle.fls_model.specs.declared.flash.FlashAnswer.{FlashAnswer}
use Rattle.fls_model.specs.declared.flash.FlashAnswer.TheVariants.{Done, Failed, Off}
use Rattle.fls_model.specs.Op.{Op, MayLeave}
use Rattle.fls_model.specs.Step.{IsStep, Leaves}
use Rattle.fls_model.specs.Told.{Told}
use Rattle.fls_jobs.specs.State.{FlsState}
use Rattle.fee_image.specs.Image.{Layout, layout_of}
use Rattle.fee_image.specs.Log.{Log}
use Rattle.fee_image.specs.May.{May}
use Rattle.fee_image.specs.Banks.{Copying}
use Rattle.fee_image.specs.Copies.{Flag, copied_of}
use Rattle.fee_switch_laws.specs.fee_log.Log.{LogState, log_of, work_in}
use Rattle.fee_course.specs.declared.course.Course.{Course}
use Rattle.fee_switch_laws.specs.fee_switch.Banks.{BanksState, after_answer}
use Rattle.fee_switch_laws.specs.Shown.{phase_shown}
use Rattle.fee_switch_laws.proofs.Targets.{heads_stand}
use Rattle.promise_device.specs.Making.{Making, banks_of}
use Rattle.fee_told.specs.Slots.{Memory, may_told, settled_in}
use Rattle.fee_told.specs.Kept.{IsKept}
use Rattle.fee_told.proofs.Held.{copies_are_told}
use Rattle.fee_told.proofs.Switches.{heads_go_on}
use Rattle.fee_laws.specs.Copied.{flags_of}
use Rattle.fee_laws.specs.Inside.{Parts, memory_of, body_of, flags_in, ShowsCopies}
use Rattle.fee_laws.specs.Switches.{IsStepping, step_op, StepTurned}
use Rattle.fee_laws.proofs.Before.{shape, legal}
use Rattle.fee_laws.proofs.SwitchShown.{roomy, standing}
use Rattle.std.proofs.Math.ListN.{length-replicate}
use Rattle.std.proofs.lemmas.Bool.{cases_lt, eqb-false}
use Rattle.std.proofs.Common.{◌^◌}
use Rattle.nv_base.specs.Geometry.{address_of_page}
use Rattle.fls_model.specs.Step.{programs}
use Rattle.fee_format.specs.Formats.{new_format}
use Rattle.fee_format.specs.declared.bank_head.BankHead.{BankHead}
use Rattle.fee_format.specs.BankHead.{bank_head_page, last_generation}
use Rattle.fee_image.specs.Banks.{Holds, HoldsOld, Sealing, generation_of, next_head}
use Rattle.fee_image.specs.BankLaws.{program_of}
use Rattle.fee_switch_laws.specs.fee_switch.declared.active.ActiveBank.{ActiveBank}
use Rattle.fee_course.specs.declared.course.Course.TheVariants.{Head, Gate}
use Rattle.fee_switch_laws.specs.fee_switch.Banks.{next_generation, is_worn_out}
use Rattle.fee_switch_laws.specs.Shown.{Bodies, HoldsBanks, banks_shown, layout_in, old_shown}
use Rattle.fee_image.specs.Image.{image_page}
use Rattle.fee_told.specs.Slots.{AreCopied}
use Rattle.fee_laws.proofs.SwitchKinds.{done_by}
use Rattle.fee_laws.proofs.SwitchWhole.{are_copied}
use Rattle.fee_laws.proofs.SwitchPage.{settled_same, leaves_page, torn, cutting, page_failed, page_cut}

-- THE GENERATION
pub next_is : (a : Option ActiveBank) (log : LogState) (body : List ℕ) → next_generation a ≡ generation_of (old_shown a log body) + 1
next_is None log body = refl
next_is (Some a) log body = refl

pub next_fits : (l : Layout) (numbers : List (DeviceNumber × ℕ)) (bytes : List ℕ) (target : ℕ) (may : May) (a : Option ActiveBank) (log : LogState) (body : List ℕ) → HoldsOld l numbers bytes target (old_shown a log body) may → is_worn_out a ≡ false
    → generation_of (old_shown a log body) + 1 < 2 ^ 32
next_fits l numbers bytes target may None log body holds worn = omega arith
next_fits l numbers bytes target may (Some a) log body holds worn =
    let few = holds.1.stands.head.legal.generation in
    let not_last : a.head.generation ≡ last_generation → ⊥ = eqb-false a.head.generation last_generation worn in
    elim (cases_lt a.head.generation last_generation) [ inl less ↦ omega arith | inr more ↦ absurd (not_last (omega (arith, few))) ]

head_size : (p : ℕ) (h : BankHead) → 16 ≤ p → length (bank_head_page p h) ≡ p
head_size p h more = omega (arith, length-replicate {A = ℕ} (p - 12) 255)

module _ (m : Making) (entry : Told) (s : Parts) (listed : List (DeviceNumber × ℕ)) (kept count : ℕ) (made : BanksState) (f : FlsState) where
  abbrev mem : Memory
  mem = memory_of s

  abbrev l : Layout
  l = banks_of m

  abbrev op : Op
  op = step_op s.banks Head

  abbrev body : List ℕ
  body = body_of (work_in s.banks.copies.tail) s.banks.buffer

  abbrev page : List ℕ
  page = bank_head_page m.geometry.page (next_head mem.old)

  abbrev log : Log
  log = log_of s.banks.copies body

  op_is : s.banks.geometry ≡ m.geometry → s.banks.banks ≡ m.banks → op ≡ program_of l s.banks.target 0 page
  op_is geo banks_are = λ i. programs (address_of_page (geo i) (banks_are i) s.banks.target 0) (bank_head_page (geo i).page (record { format = new_format; generation = next_is s.banks.active s.banks.log (body_of (work_in s.banks.log.tail) s.content) i }))

  module _ (answer : FlashAnswer) (is : IsStepping m entry s listed kept count Head made answer f) where
    geo : s.banks.geometry ≡ m.geometry
    geo = is.on.sound.made_for.banks_geometry

    op_at : op ≡ program_of l s.banks.target 0 page
    op_at = op_is geo is.on.sound.made_for.shared

    size : length page ≡ m.geometry.page
    size = head_size m.geometry.page (next_head mem.old) (shape m entry s listed kept count is.on).page_low

    inside : 0 < l.pages
    inside = let low = (legal m entry s listed kept count is.on).pages in omega (arith, low)

    phase : mem.phase ≡ Copying log
    phase = ap (λ (o : Option Course). phase_shown o s.banks body) is.course

    step : IsStep op s.fls.flash answer f.flash
    step = is.makes.0

    not_gate : ◌≡◌ {A = ℕ} 0 1 → ⊥
    not_gate same = cc same

    layout_is : layout_in s.banks ≡ l
    layout_is = λ i. layout_of (geo i) (is.on.sound.made_for.shared i)

    -- each number is copied
    whole : (old : List ℕ) → AreCopied l m.numbers old mem.old (copied_of (flags_in m s old))
    whole old =
        let none = (roomy m entry s listed kept count Head made answer f is).going.fitting in
        let a = are_copied l old s.banks.active s.banks.log (body_of (work_in s.banks.log.tail) s.content) is.on.log none in
        subst (λ (ns : List (DeviceNumber × ℕ)). AreCopied l ns old mem.old (copied_of (flags_of ns s.banks.log.places s.banks.log.flags (settled_in l ns old mem.old)))) is.on.sound.made_for.numbers a

    -- and what is done stands
    stood : (old new : List ℕ) → ShowsCopies m s Head old → MayLeave op old new → Leaves op Done old new → image_page l new s.banks.target 0 ≡ page
    stood old new shows leaves left =
        let may = may_told l m.numbers old mem in
        let cop = copied_of (flags_in m s old) in
        let bodies : Bodies = record { append = body_of (work_in s.banks.log.tail) s.content; copy = body } in
        let fits = next_fits l m.numbers old s.banks.target may s.banks.active s.banks.log (body_of (work_in s.banks.log.tail) s.content) shows.held.banks.old (roomy m entry s listed kept count Head made answer f is).worn in
        let few = subst (λ (n : ℕ). n < 2 ^ 32) (sym (next_is s.banks.active s.banks.log (body_of (work_in s.banks.log.tail) s.content))) fits in
        let holds : HoldsBanks s.banks bodies old may cop =
        subst (λ (x : Layout). Holds x s.banks.log.numbers old (banks_shown s.banks bodies may cop)) (sym layout_is)
        (subst (λ (ns : List (DeviceNumber × ℕ)). Holds l ns old (banks_shown s.banks bodies may cop)) (sym is.on.sound.made_for.numbers) shows.held.banks) in
        let then_holds = heads_stand s.banks bodies old new may cop is.on.banks is.course few (copies_are_told l m.numbers old mem cop cop shows.held (whole old)) holds leaves left in
        subst (λ (x : Layout). image_page x new s.banks.target 0 ≡ bank_head_page x.page (next_head mem.old)) layout_is then_holds.phase.head

  pub head_failed : IsStepping m entry s listed kept count Head made Failed f → StepTurned Failed m entry s listed kept count Head made f
  head_failed is =
      page_failed m entry s listed kept count Head made f op 0 page (op_at Failed is) (size Failed is) (inside Failed is) log (phase Failed is) (not_gate Failed is) is (step Failed is) refl
      (λ i. after_answer (sym is.makes.1 i) Head Failed)

  pub head_cut : IsStepping m entry s listed kept count Head made Off f → StepTurned Off m entry s listed kept count Head made f
  head_cut is =
      page_cut m entry s listed kept count Head made f op 0 page (op_at Off is) (size Off is) (inside Off is) log (phase Off is) (not_gate Off is) is (step Off is) s.banks.copies refl (sym is.makes.1)

  pub head_done : IsStepping m entry s listed kept count Head made Done f → StepTurned Done m entry s listed kept count Head made f
  head_done is =
      done_by m entry s listed kept count Head made f is tt op (step Done is) (torn m entry s listed kept count Head made Done f is op (step Done is) 0 page (op_at Done is) (size Done is) (inside Done is) log (phase Done is) (not_gate Done is))
      (cutting m entry s listed kept count Head made Done f is op (step Done is) 0 page (op_at Done is) (size Done is) (inside Done is) log (phase Done is) (not_gate Done is))
      (Gate false) s.banks.log.flags s.banks.copies refl (λ i. after_answer (sym is.makes.1 i) Head Done)
      (record { takes = λ more. (let z : false ≡ true = more in cc z); nearer = λ some. (omega arith, omega arith) })
      (λ old new sound shows leaves left.
      (let cop = copied_of (flags_in m s old) in
      let fits = next_fits l m.numbers old s.banks.target (may_told l m.numbers old mem) s.banks.active s.banks.log (body_of (work_in s.banks.log.tail) s.content) shows.held.banks.old (roomy m entry s listed kept count Head made Done f is).worn in
      let first = heads_go_on l m.numbers old new mem cop log (standing m entry s listed kept count Head made Done f is old cop shows.held) (phase Done is) fits (whole Done is old)
      (leaves_page m entry s listed kept count Head made Done f is op (step Done is) 0 page (op_at Done is) (size Done is) (inside Done is) old new leaves) (stood Done is old new shows leaves left) in
      let same = settled_same m entry s listed kept count Head made Done f is op (step Done is) 0 page (op_at Done is) (size Done is) (inside Done is) old new cop shows.held leaves in
      let path : flags_in m s new ≡ flags_in m s old = ap (flags_of m.numbers s.banks.log.places s.banks.log.flags) same in
      record {
        kept_all = subst (λ (x : List Flag). IsKept l m.numbers old new mem (record mem { phase = Sealing log }) (copied_of x)) (sym path) first;
        copying = tt;
      }))
