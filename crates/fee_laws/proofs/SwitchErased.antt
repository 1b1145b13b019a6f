-- The turns of an erase of the target, done, failed and cut.
use Rattle.std.proofs.Common.{◌≡◌, ℕ, List, Some, None, refl, sym, ◌∙◌, subst, arith}
use Rattle.nv_base.specs.declared.instance.DeviceNumber.{DeviceNumber}
use Rattle.fls_model.specs.declared.flash.FlashAnswer.TheVariants.{Done, Failed, Off}
use Rattle.fls_model.specs.Told.{Told}
use Rattle.fls_jobs.specs.State.{FlsState}
use Rattle.fee_image.specs.Copies.{copied_of}
use Rattle.fee_switch_laws.specs.fee_log.Log.{work_in}
use Rattle.fee_course.specs.declared.course.Course.{Course}
use Rattle.fee_course.specs.declared.course.Course.TheVariants.{Erase}
use Rattle.fee_switch_laws.specs.fee_switch.Banks.{BanksState}
use Rattle.fee_switch_laws.specs.Shown.{phase_shown}
use Rattle.promise_device.specs.Making.{Making, banks_of}
use Rattle.fee_told.specs.Slots.{Memory}
use Rattle.fee_told.specs.Kept.{IsKept}
use Rattle.fee_laws.specs.Inside.{Parts, memory_of, body_of, flags_in, stand_of}
use Rattle.fee_laws.specs.Switches.{IsStepping, step_op, StepTurned}
use Rattle.fee_laws.proofs.SwitchFailed.{last_by, given_by, stand_goes}
use Rattle.fee_laws.proofs.SwitchErase.{step, cutting, next, b_is, went, again_is, failed, target}
use Rattle.fee_laws.proofs.SwitchKinds.{done_by, failed_by, cut_by}

module _ (m : Making) (entry : Told) (s : Parts) (listed : List (DeviceNumber × ℕ)) (kept count : ℕ) (n : ℕ) (made : BanksState) (f : FlsState) where
  abbrev c : Course
  c = Erase n

  pub erase_done : IsStepping m entry s listed kept count c made Done f → StepTurned Done m entry s listed kept count c made f
  erase_done is =
      done_by m entry s listed kept count c made f is tt (step_op s.banks c) (step m entry s listed kept count n made Done f is) (memory_of s) (cutting m entry s listed kept count n made Done f is)
      (next m entry s listed kept count n made Done f is) s.banks.log.flags s.banks.copies refl (b_is m entry s listed kept count n made Done f is)
      (record { takes = λ more. refl; nearer = λ some. absurd (omega arith) })
      (λ old new sound shows leaves left. (let both = went m entry s listed kept count n made Done f is old new sound shows leaves left in record { kept_all = both.0; copying = both.1 }))

  pub erase_failed : IsStepping m entry s listed kept count c made Failed f → StepTurned Failed m entry s listed kept count c made f
  erase_failed is =
      let empty = target m entry s listed kept count n made Failed f is in
      let body = body_of (work_in s.banks.copies.tail) s.banks.buffer in
      let stand = stand_of s.content None (last_by s.job s.last) (given_by s.job s.given) in
      failed_by m entry s listed kept count c made f is (step_op s.banks c) (step m entry s listed kept count n made Failed f is) (memory_of s) (cutting m entry s listed kept count n made Failed f is)
      c s.banks.log.flags s.banks.copies refl ((λ i. record s.banks { course = Some c; log = record s.banks.log { flags = empty.clear i }; copies = empty.copies i }) ∙ again_is m entry s listed kept count n made Failed f is)
      (λ old new sound shows leaves left.
      (let is' = failed m entry s listed kept count n made Failed f is old new stand sound shows leaves (stand_goes s.content s.job s.last s.given) in
      let path : record (memory_of s) { stand = stand } ≡ record (memory_of s) { phase = phase_shown (Some c) s.banks body; stand = stand } = λ i. record (memory_of s) { phase = phase_shown (is.course i) s.banks body; stand = stand } in
      record {
        kept_all = subst (λ (x : Memory). IsKept (banks_of m) m.numbers old new (memory_of s) x (copied_of (flags_in m s new))) path is';
        copying = tt;
      }))

  pub erase_cut : IsStepping m entry s listed kept count c made Off f → StepTurned Off m entry s listed kept count c made f
  erase_cut is =
      cut_by m entry s listed kept count c made f is (step_op s.banks c) (step m entry s listed kept count n made Off f is) (memory_of s) (cutting m entry s listed kept count n made Off f is)
      s.banks.copies refl (sym is.makes.1) refl refl
