-- A page is done, and the record goes on.
use Rattle.std.specs.Prelude.{IfSome, IsSome, is_some, if◌then◌else◌}
use Rattle.std.proofs.Common.{◌≡◌, ◌≤◌, ◌+◌, ℕ, false, List, Option, Some, None, refl, sym, ap, ◌∙◌, subst, arith}
use Rattle.nv_base.specs.Geometry.{sectors_of_bank}
use Rattle.nv_base.specs.declared.geometry.Geometry.{Geometry}
use Rattle.nv_base.specs.declared.instance.DeviceNumber.{DeviceNumber}
use Rattle.fls_model.specs.declared.flash.FlashAnswer.TheVariants.{Done}
use Rattle.fls_model.specs.Told.{Told}
use Rattle.fls_jobs.specs.State.{FlsState}
use Rattle.fee_format.specs.declared.rec_head.RecHead.{RecHead}
use Rattle.fee_switch_laws.specs.fee_log.Log.{work_in}
use Rattle.fee_switch_laws.specs.fee_log.Step.{after_step, commits}
use Rattle.fee_image.specs.RecordList.{pages_of_head}
use Rattle.fee_switch_laws.proofs.RoomAppends.{pages_keep_room}
use Rattle.fee_told.specs.Figures.{OpenWork, turns_owed}
use Rattle.fee_told.specs.FigureLaws.{IsWork}
use Rattle.fee_switch_laws.specs.fee_switch.Banks.{BanksState, left_of}
use Rattle.fee_switch_laws.specs.KeepsRoom.{KeepsRoom}
use Rattle.promise_device.specs.Making.{Making}
use Rattle.fee_laws.specs.declared.job.FeeJob.{FeeJob}
use Rattle.fee_laws.specs.Inside.{Parts, stand_of, HasSwitch, IsActiveOf, IsAtWork}
use Rattle.fee_laws.specs.Work.{work_of, pages_of_job, pages_of_op, pages_left, is_owed}
use Rattle.fee_laws.specs.Record.{IsInWork, IsReady}
use Rattle.fee_laws.specs.Appends.{IsAppending, after_page}
use Rattle.fee_laws.proofs.Before.{power}
use Rattle.fee_laws.proofs.Tails.{GoesOn, goes_on, free_on}
use Rattle.fee_laws.proofs.Heads.{same_head}
use Rattle.fee_laws.proofs.Page.{h, work_is, in_work, active_is, formats, at_work}
use Rattle.fee_laws.proofs.Appended.{has_switch, flags_clear, pages_few, open_work}
use Rattle.fee_laws.proofs.Figures.{switch_is, same_turns, pages_fall}
use Rattle.fee_laws.proofs.Shown.{j, open_is, pages, job_of}

-- each, if any
pub each_some : {A : Type 0} (o : Option A) (P : A → Type 0) → ((x : A) → P x) → IfSome o P
each_some None P all = tt
each_some (Some x) P all = all x

module _ (m : Making) (entry : Told) (s : Parts) (listed : List (DeviceNumber × ℕ)) (kept count : ℕ) (f : FlsState) (is : IsAppending m entry s listed kept count Done f) (goes : commits s.banks.geometry.page s.banks.log.tail ≡ false) where
  abbrev pub b : BanksState
  b = record s.banks { log = after_step s.banks.log Done }

  abbrev pub t : Parts
  t = after_page Done f s

  pub going : GoesOn s.banks.log s.banks.log.tail
  going = goes_on s.banks.log s.banks.log.tail is.work (ap (λ (g : Geometry). commits g.page s.banks.log.tail) is.on.banks.log.shape ∙ goes)

  pub room_on : KeepsRoom m.reserve b
  room_on = pages_keep_room m.reserve s.banks Done (is.on.sound.room is.on.started (power m entry s listed kept count is.on)) is.work

  work_on : work_in b.log.tail ≡ Some (h m entry s listed kept count is.on is.work)
  work_on = going.work ∙ work_is m entry s listed kept count is.on is.work

  pub some_work : IsSome (work_in b.log.tail)
  some_work = ap (λ (o : Option RecHead). is_some o) work_on

  in_work_on : IsInWork b s.job (h m entry s listed kept count is.on is.work)
  in_work_on = let w = in_work m entry s listed kept count is.on is.work in record { of = w.of; is_open = w.is_open; head = w.head ∙ sym (same_head s.banks.log b.log (h m entry s listed kept count is.on is.work).kind w.of refl going.places); writes = w.writes; active = w.active; taken = w.taken; beside = w.beside; clear = w.clear; alone = w.alone }

  was_at_work : IsAtWork m s
  was_at_work = at_work m entry s listed kept count is.on is.work

  switch_on : HasSwitch b b.course
  switch_on = has_switch m.reserve b b.course (λ none. flags_clear s.banks s.banks.course was_at_work.switch none) room_on.switch

  pub at_work_on : IsAtWork m t
  at_work_on = record {
    active = subst (IsActiveOf b) (sym (active_is m entry s listed kept count is.on is.work)) (formats m entry s listed kept count is.on is.work);
    job = was_at_work.job;
    work = subst (λ (o : Option RecHead). IfSome o (IsInWork b s.job)) (sym work_on) in_work_on;
    kept = λ work calm.
        let free = was_at_work.kept is.work calm in
        let same = ap (λ (n : ℕ). if is_some s.banks.active then n else 0) (free_on s.banks.log s.banks.log.tail is.work) in
        omega (arith, free, same);
    ready = each_some s.job (IsReady b) (λ j promised none. (let w = work_on in cc (w, none)));
    switch = switch_on;
  }

  -- THE FIGURES
  abbrev pub w : OpenWork
  w = work_of m.reserve s.banks s.job

  abbrev pub v : OpenWork
  v = work_of m.reserve b s.job

  switch_was : w.switch ≡ left_of s.banks
  switch_was = switch_is s.banks is.work m.reserve s.job

  switch_then : v.switch ≡ left_of b
  switch_then = switch_is b some_work m.reserve s.job

  pub same_switch : v.switch ≡ w.switch
  same_switch = switch_then ∙ same_turns s.banks b.log s.banks.course refl going.places refl going.work ∙ sym switch_was

  abbrev pub jb : FeeJob
  jb = j m entry s listed kept count is.on is.work

  pub job_is : s.job ≡ Some jb
  job_is = open_is m entry s listed kept count is.on is.work

  abbrev p : ℕ
  p = s.banks.geometry.page

  wanted : pages_of_job p s.job ≡ pages_of_op p jb.op jb.length
  wanted = ap (pages_of_job p) job_is

  each_fits : (r : RecHead) → work_in s.banks.log.tail ≡ Some r → pages_of_head p r ≡ pages_of_job p s.job
  each_fits r some =
      let was = work_is m entry s listed kept count is.on is.work in
      let same : h m entry s listed kept count is.on is.work ≡ r = cc (was, some) in
      ap (pages_of_head p) (sym same) ∙ pages m entry s listed kept count is.on is.work ∙ sym wanted

  pub falls : v.pages + turns_owed v.owed + 1 ≡ w.pages + turns_owed w.owed
  falls =
      let g = is.on.banks.log.shape in
      subst (λ (q : ℕ). pages_left q (pages_of_job p s.job) b.log.tail + turns_owed (is_owed b.log.tail) + 1 ≡ pages_left q (pages_of_job p s.job) s.banks.log.tail + turns_owed (is_owed s.banks.log.tail)) (ap (λ (x : Geometry). x.page) g)
      (pages_fall s.banks.log s.banks.log.tail (pages_of_job p s.job) is.work is.on.log.tail (ap (λ (x : Geometry). commits x.page s.banks.log.tail) g ∙ goes)
      (λ r some. subst (λ (x : Geometry). pages_of_head x.page r ≡ pages_of_job p s.job) (sym g) (each_fits r some)))

  pages_then : v.pages ≤ pages_of_op p jb.op jb.length
  pages_then =
      subst (λ (n : ℕ). v.pages ≤ n) wanted
      (pages_few p (pages_of_job p s.job) b.log.tail (λ r some. (let same = each_fits r (sym going.work ∙ some) in let goal : pages_of_head p r ≤ pages_of_job p s.job = omega (arith, same) in goal)))

  pub work_then : IsWork m.geometry.page (sectors_of_bank m.geometry m.banks) m.numbers m.reserve (stand_of s.content s.job s.last s.given) v
  work_then =
      open_work m s jb b v job_is (job_of m entry s listed kept count is.on is.work) (record { geometry = is.on.sound.made_for.banks_geometry; shared = is.on.sound.made_for.shared; numbers = is.on.sound.made_for.numbers }) switch_on
      pages_then switch_then
