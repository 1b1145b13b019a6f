-- The turns of the target's gate that is failed or cut.
use Rattle.std.specs.Prelude.{length}
use Rattle.std.proofs.Common.{◌≡◌, inl, ◌<◌, ℕ, Bool, true, List, Option, None, refl, sym, ap, subst, arith}
use Rattle.nv_base.specs.declared.instance.DeviceNumber.{DeviceNumber}
use Rattle.memif.specs.Told.{Stand}
use Rattle.fls_model.specs.declared.flash.FlashAnswer.{FlashAnswer}
use Rattle.fls_model.specs.declared.flash.FlashAnswer.TheVariants.{Done, Failed, Off}
use Rattle.fls_model.specs.Op.{Op, MayLeave}
use Rattle.fls_model.specs.Step.{IsStep, Leaves}
use Rattle.fls_model.specs.Told.{Told}
use Rattle.fls_jobs.specs.State.{FlsState}
use Rattle.fee_image.specs.Image.{Layout, layout_of}
use Rattle.fee_image.specs.Log.{Log}
use Rattle.fee_image.specs.May.{May}
use Rattle.fee_image.specs.Copies.{Flag, copied_of}
use Rattle.fee_switch_laws.specs.fee_log.Log.{log_of, work_in}
use Rattle.fee_course.specs.declared.course.Course.{Course}
use Rattle.fee_switch_laws.specs.fee_switch.Banks.{BanksState, after_answer}
use Rattle.fee_switch_laws.specs.Shown.{phase_shown}
use Rattle.fee_switch_laws.proofs.Gates.{gates_stand}
use Rattle.promise_device.specs.Making.{Making, banks_of}
use Rattle.fee_told.specs.Slots.{Memory, may_told}
use Rattle.fee_told.specs.SlotLaws.{IsHeld, GoesOn}
use Rattle.fee_told.specs.Kept.{IsKept}
use Rattle.fee_told.proofs.Switches.{gates_fail}
use Rattle.fee_laws.specs.Copied.{flags_of}
use Rattle.fee_laws.specs.Inside.{Parts, memory_of, body_of, flags_in, ShowsCopies, stand_of}
use Rattle.fee_laws.specs.Switches.{IsStepping, step_op, StepTurned}
use Rattle.fee_laws.proofs.Before.{legal}
use Rattle.fee_laws.proofs.Switching.{Cutting}
use Rattle.fee_laws.proofs.SwitchShown.{no_job, standing}
use Rattle.std.proofs.Math.ListN.{length-replicate}
use Rattle.nv_base.specs.Geometry.{address_of_page}
use Rattle.fls_model.specs.Step.{programs}
use Rattle.fee_format.specs.Pages.{gate_page}
use Rattle.fee_image.specs.Image.{image_page}
use Rattle.fee_image.specs.Banks.{Holds, Sealing}
use Rattle.fee_image.specs.BankLaws.{program_of}
use Rattle.fee_course.specs.declared.course.Course.TheVariants.{Gate}
use Rattle.fee_switch_laws.specs.Shown.{Bodies, HoldsBanks, banks_shown, layout_in}
use Rattle.fee_laws.proofs.SwitchFailed.{last_by, given_by, stand_goes}
use Rattle.fee_laws.proofs.SwitchKinds.{failed_by, cut_by}
use Rattle.fee_laws.proofs.SwitchPage.{settled_same, leaves_page}

module _ (m : Making) (entry : Told) (s : Parts) (listed : List (DeviceNumber × ℕ)) (kept count : ℕ) (doubtful : Bool) (made : BanksState) (f : FlsState) where
  abbrev c : Course
  c = Gate doubtful

  abbrev l : Layout
  l = banks_of m

  abbrev pub op : Op
  op = step_op s.banks c

  abbrev body : List ℕ
  body = body_of (work_in s.banks.copies.tail) s.banks.buffer

  abbrev page : List ℕ
  page = gate_page m.geometry.page

  abbrev pub log : Log
  log = log_of s.banks.copies body

  module _ (answer : FlashAnswer) (is : IsStepping m entry s listed kept count c made answer f) where
    geo : s.banks.geometry ≡ m.geometry
    geo = is.on.sound.made_for.banks_geometry

    op_is : op ≡ program_of l s.banks.target 1 page
    op_is = λ i. programs (address_of_page (geo i) (is.on.sound.made_for.shared i) s.banks.target 1) (gate_page (geo i).page)

    size : length page ≡ m.geometry.page
    size = length-replicate {A = ℕ} m.geometry.page 0

    inside : 1 < l.pages
    inside = let low = (legal m entry s listed kept count is.on).pages in omega (arith, low)

    pub phase : (memory_of s).phase ≡ Sealing log
    phase = ap (λ (o : Option Course). phase_shown o s.banks body) is.course

    pub step : IsStep op s.fls.flash answer f.flash
    step = is.makes.0

    pub page_leaves : (old new : List ℕ) → MayLeave op old new → MayLeave (program_of l s.banks.target 1 page) old new
    page_leaves old new leaves = leaves_page m entry s listed kept count c made answer f is op step 1 page op_is size inside old new leaves

    pub flags_same : (old new : List ℕ) → ShowsCopies m s c old → MayLeave op old new → flags_in m s new ≡ flags_in m s old
    flags_same old new shows leaves = ap (flags_of m.numbers s.banks.log.places s.banks.log.flags) (settled_same m entry s listed kept count c made answer f is op step 1 page op_is size inside old new (copied_of (flags_in m s old)) shows.held leaves)

    failing : (old new : List ℕ) (copied : May) (stand : Stand) → IsHeld l m.numbers old (memory_of s) copied → MayLeave op old new → GoesOn (memory_of s).stand stand → IsKept l m.numbers old new (memory_of s) (record (memory_of s) { stand = stand }) copied
    failing old new copied stand held leaves goes =
        gates_fail l m.numbers old new (memory_of s) copied log stand (standing m entry s listed kept count c made answer f is old copied held) phase (page_leaves old new leaves) goes (no_job m entry s listed kept count c made answer f is stand)

    pub cutting : Cutting m entry s listed kept count c made answer f is op step (memory_of s)
    cutting old image sound shows leaves = failing old image (copied_of (flags_in m s old)) (memory_of s).stand shows.held leaves (inl refl)

    pub layout_is : layout_in s.banks ≡ l
    layout_is = λ i. layout_of (geo i) (is.on.sound.made_for.shared i)

    -- what is done stands
    pub stood : (old new : List ℕ) → ShowsCopies m s c old → MayLeave op old new → Leaves op Done old new → image_page l new s.banks.target 1 ≡ page
    stood old new shows leaves left =
        let may = may_told l m.numbers old (memory_of s) in
        let cop = copied_of (flags_in m s old) in
        let bodies : Bodies = record { append = body_of (work_in s.banks.log.tail) s.content; copy = body } in
        let holds : HoldsBanks s.banks bodies old may cop =
        subst (λ (x : Layout). Holds x s.banks.log.numbers old (banks_shown s.banks bodies may cop)) (sym layout_is)
        (subst (λ (ns : List (DeviceNumber × ℕ)). Holds l ns old (banks_shown s.banks bodies may cop)) (sym is.on.sound.made_for.numbers) shows.held.banks) in
        let then_holds = gates_stand s.banks bodies old new may cop doubtful is.on.banks is.course holds leaves left in
        subst (λ (x : Layout). image_page x new s.banks.target 1 ≡ gate_page x.page) layout_is then_holds.old.1.stands.gate

  pub gate_failed : IsStepping m entry s listed kept count c made Failed f → StepTurned Failed m entry s listed kept count c made f
  gate_failed is =
      let stand = stand_of s.content None (last_by s.job s.last) (given_by s.job s.given) in
      failed_by m entry s listed kept count c made f is op (step Failed is) (memory_of s) (cutting Failed is) (Gate true) s.banks.log.flags s.banks.copies refl (λ i. after_answer (sym is.makes.1 i) c Failed)
      (λ old new sound shows leaves left.
      (let is' = failing Failed is old new (copied_of (flags_in m s old)) stand shows.held leaves (stand_goes s.content s.job s.last s.given) in
      let path : record (memory_of s) { stand = stand } ≡ record (memory_of s) { phase = Sealing log; stand = stand } = λ i. record (memory_of s) { phase = phase Failed is i; stand = stand } in
      record {
        kept_all = subst (λ (x : Memory). IsKept l m.numbers old new (memory_of s) x (copied_of (flags_in m s new))) path (subst (λ (x : List Flag). IsKept l m.numbers old new (memory_of s) (record (memory_of s) { stand = stand }) (copied_of x)) (sym (flags_same Failed is old new shows leaves)) is');
        copying = tt;
      }))

  pub gate_cut : IsStepping m entry s listed kept count c made Off f → StepTurned Off m entry s listed kept count c made f
  gate_cut is = cut_by m entry s listed kept count c made f is op (step Off is) (memory_of s) (cutting Off is) s.banks.copies refl (sym is.makes.1) refl refl
