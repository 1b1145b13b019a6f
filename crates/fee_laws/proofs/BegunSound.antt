-- The parts are sound where a record begins.
use Rattle.std.specs.Prelude.{IfSome}
use Rattle.std.proofs.Common.{◌≡◌, ℕ, false, List, Option, Some, None, refl, sym, ap, ◌∙◌, subst}
use Rattle.nv_base.specs.Lengths.{place_of}
use Rattle.nv_base.specs.declared.instance.DeviceNumber.{DeviceNumber}
use Rattle.fls_model.specs.Told.{Told}
use Rattle.fee_format.specs.declared.rec_head.RecHead.{RecHead}
use Rattle.fee_image.specs.Copies.{Flag, cleared, copied_of}
use Rattle.fee_image.proofs.Copies.{clearing_widens}
use Rattle.fee_switch_laws.specs.fee_log.Index.{with_flag}
use Rattle.fee_switch_laws.specs.fee_log.Log.{work_in}
use Rattle.fee_course.specs.declared.course.Course.{Course}
use Rattle.fee_course.specs.Course.{appended_to}
use Rattle.fee_switch_laws.specs.fee_switch.Banks.{appended_at}
use Rattle.promise_device.specs.Making.{Making, banks_of}
use Rattle.fee_told.specs.Slots.{settled_in}
use Rattle.fee_told.specs.SlotLaws.{IsHeld}
use Rattle.fee_told.proofs.Kept.{copies_widen}
use Rattle.fee_told.proofs.Steps.{same_settled}
use Rattle.fee_told.proofs.ToldBytes.{now_at}
use Rattle.fee_laws.specs.declared.job.FeeJob.{FeeJob}
use Rattle.fee_laws.specs.Copied.{flags_of, IsCopying}
use Rattle.fee_laws.specs.Inside.{Parts, memory_of, flags_in, IsActiveOf, IsAtWork, ShowsCopies, TellsCopies, IsSound}
use Rattle.fee_laws.specs.Record.{IsInWork, IsReady}
use Rattle.fee_laws.specs.Turn.{IsOn}
use Rattle.fee_laws.specs.Begins.{MayBegin, RecordsBegin}
use Rattle.fee_laws.proofs.Before.{each_now}
use Rattle.fee_laws.proofs.Beside.{still_copied, appended_again, appended_some, clear_again, flags_set, clears_copying, appended_copying}
use Rattle.fee_laws.proofs.Begun.{no_course}
use Rattle.fee_laws.proofs.GoesOn.{each_some}
use Rattle.fee_laws.proofs.Beginning.{t, r, ready, active_is, formats, was_at_work, work_is, active, taken_then, taking, held_by, places_by, room_on, switch_on, none, behind, work_then, kept_on, has_begun, unsealed}
use Rattle.fee_laws.proofs.BehindNone.{sound as sound_behind}

module _ (m : Making) (entry : Told) (s : Parts) (listed : List (DeviceNumber × ℕ)) (kept count : ℕ) (j : FeeJob) (on : IsOn m entry s listed kept count) (may : MayBegin m s j) where
  abbrev begun : Parts
  begun = t m entry s listed kept count j on may

  abbrev place : Option ℕ
  place = place_of s.banks.log.numbers j.number.0

  in_work_on : IsInWork begun.banks s.job (r m entry s listed kept count j on may)
  in_work_on = record {
    of = j;
    is_open = may.job;
    head = refl;
    writes = may.writes;
    active = active m entry s listed kept count j on may;
    taken = taken_then m entry s listed kept count j on may;
    beside = λ some. may.beside (sym (appended_some place s.banks.course) ∙ some);
    clear = clear_again s.banks.log.numbers s.banks.log.flags j.number.0;
    alone = appended_again place s.banks.course;
  }

  -- THE TARGET
  flags_then : (bytes : List ℕ) → flags_in m begun bytes ≡ cleared j.number.0 (flags_in m s bytes)
  flags_then bytes =
      let settled = same_settled (banks_of m) m.numbers bytes (memory_of s).old (memory_of begun).old (places_by m entry s listed kept count j on may s.banks.log.tail refl (ready m entry s listed kept count j on may)) in
      (λ i. flags_of m.numbers s.banks.log.places (with_flag (on.sound.made_for.numbers i) s.banks.log.flags j.number.0 false) (settled i))
      ∙ flags_set m.numbers s.banks.log.places s.banks.log.flags (settled_in (banks_of m) m.numbers bytes (memory_of s).old) j.number.0 false

  held_then : (bytes : List ℕ) → IsHeld (banks_of m) m.numbers bytes (memory_of s) (copied_of (flags_in m s bytes)) → IsHeld (banks_of m) m.numbers bytes (memory_of begun) (copied_of (flags_in m begun bytes))
  held_then bytes held =
      let fs = flags_in m s bytes in
      let wide = copies_widen (banks_of m) m.numbers bytes (memory_of s) (copied_of fs) (copied_of (cleared j.number.0 fs)) held (clearing_widens fs j.number.0) (taking m entry s listed kept count j on may) in
      held_by m entry s listed kept count j on may s.banks.log.tail refl (ready m entry s listed kept count j on may) bytes (copied_of (flags_in m begun bytes))
      (subst (λ (x : List Flag). IsHeld (banks_of m) m.numbers bytes (memory_of s) (copied_of x)) (sym (flags_then bytes)) wide)

  shows_by : (bytes : List ℕ) (o : Option ℕ) (c : Option Course) → IfSome c (λ x. ShowsCopies m s x bytes) → IfSome (appended_at o c) (λ x. ShowsCopies m begun x bytes)
  shows_by bytes None None shows = tt
  shows_by bytes (Some i) None shows = tt
  shows_by bytes None (Some c) shows = record {
    held = held_then bytes shows.held;
    copy = subst (λ (x : List Flag). IsCopying c (work_in s.banks.copies.tail) s.banks.buffer x) (sym (flags_then bytes))
        (clears_copying j.number.0 c (work_in s.banks.copies.tail) s.banks.buffer (flags_in m s bytes) shows.copy);
  }
  shows_by bytes (Some i) (Some c) shows = record {
    held = held_then bytes shows.held;
    copy = subst (λ (x : List Flag). IsCopying (appended_to i c) (work_in s.banks.copies.tail) s.banks.buffer x) (sym (flags_then bytes))
        (appended_copying i j.number.0 c (work_in s.banks.copies.tail) s.banks.buffer (flags_in m s bytes) shows.copy);
  }

  copies : TellsCopies m entry begun
  copies power told = each_now s.fls.flash.bytes (λ (x : List ℕ). IfSome begun.banks.course (λ c. ShowsCopies m begun c x)) (λ new at.
      shows_by new place s.banks.course (now_at s.fls.flash.bytes (λ (x : List ℕ). IfSome s.banks.course (λ c. ShowsCopies m s c x)) new at (on.sound.copies power told)))

  at_work_on : IsAtWork m begun
  at_work_on = record {
    active = subst (IsActiveOf begun.banks) (sym (active_is m entry s listed kept count j on may)) (formats m entry s listed kept count j on may);
    job = (was_at_work m entry s listed kept count j on may).job;
    work = subst (λ (o : Option RecHead). IfSome o (IsInWork begun.banks s.job)) (sym (work_is m entry s listed kept count j on may)) in_work_on;
    kept = kept_on m entry s listed kept count j on may;
    ready = each_some s.job (IsReady begun.banks) (λ x promised none. (let w = work_is m entry s listed kept count j on may in cc (w, none)));
    switch = switch_on m entry s listed kept count j on may;
  }

  pub sound : IsSound m entry begun listed kept count false
  sound = sound_behind m entry s listed kept count on begun (none m entry s listed kept count j on may) (record {
    ends = record { same = record { geometry = refl; banks = refl; numbers = refl }; room = on.sound.made_for.room; given_few = on.sound.made_for.given; ended = on.sound.made_for.ended };
    behind = behind m entry s listed kept count j on may;
    work = work_then m entry s listed kept count j on may;
    at_work = at_work_on;
    room = room_on m entry s listed kept count j on may;
    copies = copies;
    worn = λ since worn. record { passed = (on.sound.worn since worn).passed; shut = ap (appended_at place) (on.sound.worn since worn).shut ∙ no_course place };
    still = λ none. still_copied place s.banks.course ∙ none;
  })

pub records_begin : RecordsBegin
records_begin m entry s listed kept count j on may = record { told = has_begun m entry s listed kept count j on may; sound = sound m entry s listed kept count j on may; unsealed = unsealed m entry s listed kept count j on may }
