-- The turns in which nothing happens.
use Rattle.std.specs.Prelude.{IsSome, ◌&&◌, not}
use Rattle.std.proofs.Common.{◌≡◌, ◌⊎◌, inl, inr, ℕ, Bool, true, false, List, Option, Some, None, refl, sym, ap, ◌∙◌}
use Rattle.nv_base.specs.declared.instance.DeviceNumber.{DeviceNumber}
use Rattle.memif.specs.Told.{First, Stand, is_open, nothing_open}
use Rattle.memif.specs.Calls.{IsOf}
use Rattle.memif.specs.Clock.{SameClock, Clock}
use Rattle.fls_model.specs.Told.{Told}
use Rattle.fee_course.specs.declared.course.Course.{Course}
use Rattle.fee_course.specs.declared.course.Course.TheVariants as course
use Rattle.fee_switch_laws.specs.fee_log.Log.{work_in}
use Rattle.fee_switch_laws.specs.fee_switch.Banks.{BanksState}
use Rattle.fee_switch_laws.specs.Shown.{phase_shown}
use Rattle.promise_device.specs.Making.{Making}
use Rattle.fee_told.specs.Device.{is_switching, told_of, clock_of}
use Rattle.fee_laws.specs.declared.job.FeeJob.{FeeJob}
use Rattle.fee_laws.specs.Inside.{Parts, body_of, device_of, memory_of, stand_of, fixed_in, IsSound}
use Rattle.fee_laws.specs.Rests.{IdleTurns, OffTurns}
use Rattle.fee_laws.proofs.Order.{first_of}
use Rattle.fee_laws.proofs.Figures.{and_false}

same_clock : (c : Clock) → SameClock c c
same_clock c = record { may_find = λ w m. ((λ h. h), (λ h. h)); off_in = λ k. ((λ h. h), (λ h. h)); failed = λ k. ((λ h. h), (λ h. h)); worn = λ k n urgent. ((λ h. h), (λ h. h)); of_second = λ k. ((λ h. h), (λ h. h)); spare = λ k free. ((λ h. h), (λ h. h)); was = λ t k. ((λ h. h), (λ h. h)) }

-- with no job, whether a switch is open
shut_by : (c : Option Course) (s : BanksState) (body : List ℕ) → c ≡ None → is_switching (phase_shown c s body) ≡ false
shut_by None s body e = refl
shut_by (Some c) s body e = cc e

open_by : (c : Option Course) (s : BanksState) (body : List ℕ) → IsSome c → is_switching (phase_shown c s body) ≡ true
open_by None s body some = cc
open_by (Some (course.Erase n)) s body some = refl
open_by (Some (course.Copy w)) s body some = refl
open_by (Some course.Head) s body some = refl
open_by (Some (course.Gate failed)) s body some = refl

module _ (m : Making) (entry : Told) (s : Parts) (listed : List (DeviceNumber × ℕ)) (kept count : ℕ) (is_off : Bool) (sound : IsSound m entry s listed kept count is_off) where
  abbrev at : Option FeeJob → Stand
  at o = stand_of s.content o s.last s.given

  abbrev target_body : List ℕ
  target_body = body_of (work_in s.banks.copies.tail) s.banks.buffer

  shut_now : s.job ≡ None → s.started && is_switching (memory_of s).phase ≡ false → nothing_open (told_of (device_of m entry s)) ≡ true
  shut_now job shut = (λ i. not (is_open (at (job i))) && not (shut i))

  nothing : (s.started ≡ false) ⊎ ((s.job ≡ None) × (s.banks.course ≡ None)) → nothing_open (told_of (device_of m entry s)) ≡ true
  nothing (inl stopped) = shut_now (sound.rests stopped).job (λ i. stopped i && is_switching (memory_of s).phase)
  nothing (inr (job, shut)) = shut_now job (ap (λ (b : Bool). s.started && b) (shut_by s.banks.course s.banks target_body shut) ∙ and_false s.started)

  -- the work is that of its one part
  of_by : (o : Option FeeJob) → IsOf First (fixed_in m) (at o)
  of_by None = refl
  of_by (Some j) = (tt, sym (first_of m j.number.0))

  open_job : (o : Option FeeJob) (b : Bool) → IsSome o → not (is_open (at o)) && b ≡ false
  open_job None b some = cc
  open_job (Some j) b some = refl

  something : s.started ≡ true → IsSome s.job ⊎ IsSome s.banks.course → nothing_open (told_of (device_of m entry s)) ≡ false
  something started (inl job) = open_job s.job (not (s.started && is_switching (memory_of s).phase)) job
  something started (inr open') = (λ i. not (is_open (at s.job)) && not (started i && open_by s.banks.course s.banks target_body open' i)) ∙ and_false (not (is_open (at s.job)))

pub idle_turns : IdleTurns
idle_turns m entry s listed kept count is_off sound rests = ((nothing m entry s listed kept count is_off sound rests, refl, same_clock (clock_of (device_of m entry s))), sound.device.order)

pub off_turns : OffTurns
off_turns m entry s listed kept count sound started open' =
    ((something m entry s listed kept count true sound started open', (First, inl (sym (sound.off started), of_by m entry s listed kept count true sound s.job, refl, same_clock (clock_of (device_of m entry s))))), sound.device.order)
