-- A program of a page of the target, before its gate.
use Rattle.std.specs.Prelude.{IfSome, length}
use Rattle.std.proofs.Common.{◌≡◌, inl, ◌<◌, ◌*◌, ℕ, true, false, List, Option, Some, None, refl, sym, subst, arith}
use Rattle.nv_base.specs.Count.{next_count}
use Rattle.nv_base.specs.Geometry.{pages_of_sector}
use Rattle.nv_base.specs.declared.instance.DeviceNumber.{DeviceNumber}
use Rattle.memif.specs.declared.answer.DeviceTurn.TheVariants as turn
use Rattle.memif.specs.Told.{Stand}
use Rattle.fls_model.specs.declared.flash.FlashAnswer.{FlashAnswer}
use Rattle.fls_model.specs.declared.flash.FlashAnswer.TheVariants.{Failed, Off}
use Rattle.fls_model.specs.Op.{Op, MayLeave}
use Rattle.fls_model.specs.Step.{IsStep}
use Rattle.fls_model.specs.Told.{Told}
use Rattle.fls_jobs.specs.State.{FlsState}
use Rattle.fee_image.specs.Image.{Layout}
use Rattle.fee_image.specs.Log.{Log}
use Rattle.fee_image.specs.May.{May}
use Rattle.fee_image.specs.Banks.{Erasing, Copying}
use Rattle.fee_image.specs.Copies.{copied_of}
use Rattle.fee_switch_laws.specs.fee_log.Index.{clear_flags}
use Rattle.fee_switch_laws.specs.fee_log.Log.{LogState, work_in, erased_state}
use Rattle.fee_course.specs.declared.course.Course.{Course}
use Rattle.fee_course.specs.declared.course.Course.TheVariants.{Erase}
use Rattle.fee_switch_laws.specs.fee_switch.Banks.{BanksState, after_answer}
use Rattle.promise_device.specs.Making.{Making, banks_of}
use Rattle.fee_told.specs.Slots.{Memory, banks_with, may_told, settled_in}
use Rattle.fee_told.specs.SlotLaws.{IsHeld, GoesOn}
use Rattle.fee_told.specs.Kept.{IsKept}
use Rattle.fee_told.proofs.Kept.{same_places}
use Rattle.fee_told.proofs.Places.{programs_keep_settled}
use Rattle.fee_told.proofs.Switches.{copies_fail}
use Rattle.fee_laws.specs.Inside.{Parts, memory_of, body_of, flags_in, stand_of}
use Rattle.fee_laws.specs.Turn.{operated, Turned}
use Rattle.fee_laws.specs.Switches.{IsStepping, step_op}
use Rattle.fee_laws.proofs.Before.{legal}
use Rattle.fee_laws.proofs.Switching.{Cutting, Showing}
use Rattle.fee_laws.proofs.SwitchShown.{no_job, standing}
use Rattle.fee_image.specs.BankLaws.{program_of}
use Rattle.fee_switch_laws.specs.fee_switch.declared.active.ActiveBank.{ActiveBank}
use Rattle.fee_switch_laws.specs.Shown.{old_shown}
use Rattle.fee_told.specs.SlotLaws.{IsBehindLog}
use Rattle.fee_laws.specs.Switches.{failed_with}
use Rattle.fee_laws.proofs.SwitchFailed.{last_by, given_by, stand_goes}
use Rattle.fee_laws.proofs.SwitchKinds.{failed_by, cut_by}
use Rattle.fee_laws.proofs.SwitchShown.{flags_hidden}

-- it isn't of the active bank
pub beside : (a : Option ActiveBank) (log : LogState) (body : List ℕ) (target at q : ℕ) → IfSome a (λ x. (x.bank ≡ target → ⊥) × (at ≡ x.bank)) → IsBehindLog (old_shown a log body) target q
beside None log body target at q other = tt
beside (Some a) log body target at q other = λ same. absurd (other.0 (sym same))

module _ (m : Making) (entry : Told) (s : Parts) (listed : List (DeviceNumber × ℕ)) (kept count : ℕ) (c : Course) (made : BanksState) (answer : FlashAnswer) (f : FlsState) (is : IsStepping m entry s listed kept count c made answer f) (op : Op) (step : IsStep op s.fls.flash answer f.flash) (q : ℕ) (page : List ℕ) (op_is : op ≡ program_of (banks_of m) s.banks.target q page) (size : length page ≡ m.geometry.page) (inside : q < (banks_of m).pages) where
  abbrev mem : Memory
  mem = memory_of s

  abbrev l : Layout
  l = banks_of m

  abbrev body : List ℕ
  body = body_of (work_in s.banks.copies.tail) s.banks.buffer

  pub leaves_page : (old new : List ℕ) → MayLeave op old new → MayLeave (program_of l s.banks.target q page) old new
  leaves_page old new leaves = subst (λ (o : Op). MayLeave o old new) op_is leaves

  -- the places of the active bank show what they showed
  pub settled_same : (old new : List ℕ) (copied : May) → IsHeld l m.numbers old mem copied → MayLeave op old new → settled_in l m.numbers new mem.old ≡ settled_in l m.numbers old mem.old
  settled_same old new copied held leaves =
      programs_keep_settled l m.numbers old new page (banks_with mem (may_told l m.numbers old mem) copied) s.banks.target q mem.old (legal m entry s listed kept count is.on) held.banks size inside (leaves_page old new leaves)
      (beside s.banks.active s.banks.log (body_of (work_in s.banks.log.tail) s.content) s.banks.target s.banks.log.bank q is.on.banks.active) (same_places mem.old)

  module _ (log : Log) (phase_is : mem.phase ≡ Copying log) (not_gate : q ≡ 1 → ⊥) where
    pub failing : (old new : List ℕ) (before copied : May) (stand : Stand) → IsHeld l m.numbers old mem before → MayLeave op old new → GoesOn mem.stand stand
        → IsKept l m.numbers old new mem (record mem { phase = Erasing 0; stand = stand }) copied
    failing old new before copied stand held leaves goes =
        copies_fail l m.numbers old new page mem before copied q log stand (standing m entry s listed kept count c made answer f is old before held) phase_is size inside not_gate (leaves_page old new leaves) goes
        (no_job m entry s listed kept count c made answer f is stand)

    abbrev pub torn : Memory
    torn = record mem { phase = Erasing 0 }

    pub cutting : Cutting m entry s listed kept count c made answer f is op step torn
    cutting old image sound shows leaves = failing old image (copied_of (flags_in m s old)) (copied_of (flags_in m s old)) mem.stand shows.held leaves (inl refl)

    -- IT FAILED
    abbrev pub again : BanksState
    again = record s.banks { course = Some (Erase 0); log = record s.banks.log { flags = clear_flags s.banks.log.numbers }; copies = erased_state s.banks.geometry s.banks.banks s.banks.target s.banks.copies.numbers }

    none_blank : 0 ≡ 0 * pages_of_sector s.banks.geometry
    none_blank = omega arith

    pub failing_shows : Showing m entry s listed kept count c made answer f is op step torn cutting again (Erase 0) refl None (last_by s.job s.last) (given_by s.job s.given)
    failing_shows old new sound shows leaves left =
        let stand = stand_of s.content None (last_by s.job s.last) (given_by s.job s.given) in
        let x = record s { banks = again; job = None; last = last_by s.job s.last; given = given_by s.job s.given } in
        let is' = failing old new (copied_of (flags_in m s old)) (copied_of (flags_in m x new)) stand shows.held leaves (stand_goes s.content s.job s.last s.given) in
        let path : record mem { phase = Erasing 0; stand = stand } ≡ memory_of x =
        λ i. record mem { old = sym (flags_hidden s.banks.active s.banks.log (clear_flags s.banks.log.numbers) (body_of (work_in s.banks.log.tail) s.content)) i; phase = Erasing (none_blank i); stand = stand } in
        record { kept_all = subst (λ (y : Memory). IsKept l m.numbers old new mem y (copied_of (flags_in m x new))) path is'; copying = tt }

-- THE TURNS
module _ (m : Making) (entry : Told) (s : Parts) (listed : List (DeviceNumber × ℕ)) (kept count : ℕ) (c : Course) (made : BanksState) (f : FlsState) (op : Op) (q : ℕ) (page : List ℕ) (op_is : op ≡ program_of (banks_of m) s.banks.target q page) (size : length page ≡ m.geometry.page) (inside : q < (banks_of m).pages) (log : Log) (phase_is : (memory_of s).phase ≡ Copying log) (not_gate : q ≡ 1 → ⊥) where
  pub page_failed : (is : IsStepping m entry s listed kept count c made Failed f) (step : IsStep op s.fls.flash Failed f.flash) → op ≡ step_op s.banks c
      → record s.banks { course = Some (Erase 0); log = record s.banks.log { flags = clear_flags s.banks.log.numbers }; copies = erased_state s.banks.geometry s.banks.banks s.banks.target s.banks.copies.numbers } ≡ after_answer made c Failed
      → Turned m entry turn.Worked s (failed_with s.job (operated op Failed f (after_answer made c Failed) s)) listed kept (next_count count) false
  page_failed is step of path =
      failed_by m entry s listed kept count c made f is op step (torn m entry s listed kept count c made Failed f is op step q page op_is size inside log phase_is not_gate) (cutting m entry s listed kept count c made Failed f is op step q page op_is size inside log phase_is not_gate)
      (Erase 0) (clear_flags s.banks.log.numbers) (erased_state s.banks.geometry s.banks.banks s.banks.target s.banks.copies.numbers) of path (failing_shows m entry s listed kept count c made Failed f is op step q page op_is size inside log phase_is not_gate)

  pub page_cut : (is : IsStepping m entry s listed kept count c made Off f) (step : IsStep op s.fls.flash Off f.flash) (copies : LogState) → op ≡ step_op s.banks c → record s.banks { copies = copies } ≡ after_answer made c Off
      → Turned m entry turn.Off s (operated op Off f (after_answer made c Off) s) listed kept (next_count count) true
  page_cut is step copies of path =
      cut_by m entry s listed kept count c made f is op step (torn m entry s listed kept count c made Off f is op step q page op_is size inside log phase_is not_gate) (cutting m entry s listed kept count c made Off f is op step q page op_is size inside log phase_is not_gate)
      copies of path refl refl
