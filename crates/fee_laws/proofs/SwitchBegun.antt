-- A switch begins.
use Rattle.std.specs.Prelude.{IfSome, ◌&&◌, not, is_some, nat_le, if◌then◌else◌}
use Rattle.std.proofs.Common.{◌≡◌, inl, inr, ◌≤◌, ◌<◌, ◌*◌, ℕ, Bool, true, false, List, Option, Some, None, refl, sym, ap, ◌∙◌, subst, arith}
use Rattle.std.proofs.lemmas.Bool.{le-leb}
use Rattle.nv_base.specs.Geometry.{pages_of_sector}
use Rattle.nv_base.specs.declared.instance.DeviceNumber.{DeviceNumber}
use Rattle.memif.specs.Told.{Slot, is_open}
use Rattle.fls_model.specs.Told.{Told}
use Rattle.fee_image.specs.RecordList.{pages_of_head}
use Rattle.fee_image.specs.May.{May}
use Rattle.fee_image.specs.Banks.{Old, Idle, Erasing}
use Rattle.fee_image.specs.Copies.{copied_of}
use Rattle.fee_image.specs.BankLaws.{IsOther}
use Rattle.fee_switch_laws.specs.fee_log.Index.{clear_flags}
use Rattle.fee_switch_laws.specs.fee_log.Log.{LogState, work_in}
use Rattle.fee_switch_laws.specs.fee_switch.declared.active.ActiveBank.{ActiveBank}
use Rattle.fee_course.specs.declared.course.Course.{Course}
use Rattle.fee_course.specs.declared.course.Course.TheVariants.{Erase}
use Rattle.fee_switch_laws.specs.fee_switch.Banks.{BanksState, begun_again, left_of, left_beside}
use Rattle.fee_switch_laws.specs.Shown.{old_shown, phase_shown}
use Rattle.fee_switch_laws.specs.KeepsRoom.{KeepsRoom}
use Rattle.fee_switch_laws.specs.Space.{free_pages, has_room}
use Rattle.fee_switch_laws.proofs.RoomSteps.{begins_keep_room}
use Rattle.promise_device.specs.Making.{Making, banks_of}
use Rattle.fee_told.specs.Slots.{Memory, slots_found}
use Rattle.fee_told.specs.SlotLaws.{IsHeld, SamePlaces}
use Rattle.fee_told.proofs.Clocks.{clocks_stay}
use Rattle.fee_told.specs.Device.{Device, tells_now, told_of, slots_in, clock_of, flash_device}
use Rattle.fee_told.specs.Turns.{is_sealing}
use Rattle.fee_told.specs.Figures.{OpenWork, ready_of, wait_of}
use Rattle.fee_told.proofs.Kept.{same_places}
use Rattle.fee_told.proofs.Steps.{places_tell}
use Rattle.fee_told.proofs.Switches.{switches_begin as told_switches_begin}
use Rattle.fee_laws.specs.declared.job.FeeJob.{FeeJob}
use Rattle.fee_laws.specs.Inside.{Parts, body_of, device_of, memory_of, stand_of, flags_in, HoldsBehind, HasSwitch, IsActiveOf, IsAtWork, ShowsCopies, TellsCopies, IsSound}
use Rattle.fee_laws.specs.Record.{head_of, IsJobOf, IsReady}
use Rattle.fee_laws.specs.Work.{work_of, pages_of_op, pages_of_job, pages_free, claimed, begins_next, takes_append, is_waiting, fits_in, needs_switch, switch_turns, turns_beside, seal_turns, turns_before, is_urgent_job, is_promised}
use Rattle.fee_laws.specs.Turn.{IsOn}
use Rattle.fee_laws.specs.Begins.{IsUnsealed, HasBegun, MaySwitch, switching_with, SwitchesBegin}
use Rattle.fee_laws.proofs.Before.{power, lengths, legal, copied, held_at, each_now}
use Rattle.fee_laws.proofs.Order.{tells_by}
use Rattle.fee_laws.proofs.Appended.{IsShaped, pages_few, open_work, idle_at_work}
use Rattle.fee_laws.proofs.Beginning.{left_alike, and_four'}
use Rattle.fee_laws.proofs.Shown.{pages_by}
use Rattle.fee_laws.proofs.SwitchShown.{flags_hidden}
use Rattle.fee_laws.proofs.BehindNone.{AsksNone, makes_none, held_behind, sound as sound_behind}

active_on : (o : Option ActiveBank) (s : BanksState) → IsActiveOf s o → IsActiveOf (begun_again s (Erase 0)) o
active_on None s is = λ i. record (is i) { flags = clear_flags s.log.numbers }
active_on (Some a) s is = is

pub idle_phase : (c : Option Course) (s : BanksState) (body : List ℕ) → c ≡ None → phase_shown c s body ≡ Idle
idle_phase None s body e = refl
idle_phase (Some c) s body e = cc e

other_by : (o : Option ActiveBank) (log : LogState) (body : List ℕ) (target : ℕ) → IfSome o (λ a. (a.bank ≡ target → ⊥) × (log.bank ≡ a.bank)) → IsOther (old_shown o log body) target
other_by None log body target is = tt
other_by (Some a) log body target is = λ same. is.0 (sym same)

and_last : (a b c : Bool) → a && b && c && false ≡ false
and_last true true true = refl
and_last true true false = refl
and_last true false c = refl
and_last false b c = refl

pub seal_is : (c : Option Course) → c ≡ None → seal_turns c ≡ 0
seal_is None e = refl
seal_is (Some c) e = cc e

no_pages : (p : ℕ) → 0 * p ≡ 0
no_pages p = omega arith

module _ (m : Making) (entry : Told) (s : Parts) (listed : List (DeviceNumber × ℕ)) (kept count : ℕ) (j : FeeJob) (on : IsOn m entry s listed kept count) (may : MaySwitch m s j) where
  abbrev t : Parts
  t = switching_with s

  abbrev d : Device
  d = device_of m entry s

  abbrev e : Device
  e = device_of m entry t

  abbrev p : ℕ
  p = s.banks.geometry.page

  at_work : IsAtWork m s
  at_work = on.sound.works on.started

  job_of : IsJobOf m.numbers j
  job_of = subst (λ (o : Option FeeJob). IfSome o (IsJobOf m.numbers)) may.job at_work.job

  -- MEMORY
  old_same : (memory_of t).old ≡ (memory_of s).old
  old_same = flags_hidden s.banks.active s.banks.log (clear_flags s.banks.log.numbers) (body_of (work_in s.banks.log.tail) s.content)

  mem_is : memory_of t ≡ record (memory_of s) { target = s.banks.target; phase = Erasing 0 }
  mem_is = λ i. record { old = old_same i; target = s.banks.target; phase = Erasing (no_pages (pages_of_sector s.banks.geometry) i); stand = (memory_of s).stand }

  target_in : s.banks.target < m.banks
  target_in = let less = on.banks.target in let same = on.sound.made_for.shared in omega (arith, less, same)

  held_then : (bytes : List ℕ) (wide more : May) → IsHeld (banks_of m) m.numbers bytes (memory_of s) wide → IsHeld (banks_of m) m.numbers bytes (memory_of t) more
  held_then bytes wide more held = subst (λ (x : Memory). IsHeld (banks_of m) m.numbers bytes x more) (sym mem_is)
      (told_switches_begin (banks_of m) m.numbers bytes (memory_of s) wide more s.banks.target (record { lengths = lengths m entry s listed kept count on; legal = legal m entry s listed kept count on; held = held })
      (idle_phase s.banks.course s.banks (body_of (work_in s.banks.copies.tail) s.banks.buffer) may.shut) target_in
      (other_by s.banks.active s.banks.log (body_of (work_in s.banks.log.tail) s.content) s.banks.target on.banks.active)).held

  places : SamePlaces (memory_of s).old (memory_of t).old
  places = subst (λ (o : Old). SamePlaces (memory_of s).old o) (sym old_same) (same_places (memory_of s).old)

  slots_are : (x : List ℕ) → slots_in e x ≡ slots_in d x
  slots_are x = ap (λ (z : List Slot). if s.started then z else slots_found (banks_of m) m.numbers x) (places_tell (banks_of m) m.numbers x (memory_of s) (memory_of t) places refl)

  same_slots : (told_of e).slots ≡ (told_of d).slots
  same_slots = tells_by (tells_now d) s.fls.flash.bytes (slots_in e) (slots_in d) slots_are

  none : AsksNone m entry s t
  none = record { only = refl; more = omega arith; counted = inl refl; worn = λ since worn. inl worn }

  abbrev more : May
  more = copied m entry s listed kept count on

  behind : HoldsBehind e
  behind = held_behind m entry s listed kept count on t none more (λ bytes at told. held_then bytes more more (held_at m entry s listed kept count on bytes at told))

  copies : TellsCopies m entry t
  copies on' told = each_now s.fls.flash.bytes (λ (x : List ℕ). ShowsCopies m t (Erase 0) x) (λ bytes at.
      record { held = held_then bytes more (copied_of (flags_in m t bytes)) (held_at m entry s listed kept count on bytes at told); copy = tt })

  -- THE SWITCH
  pages_are : pages_of_head p (head_of s.banks.log may.kind j) ≡ pages_of_op p j.op j.length
  pages_are = pages_by p j.op may.kind j.number j.length job_of.length (head_of s.banks.log may.kind j).count may.writes job_of.fits

  full : has_room j.urgent (pages_of_head p (head_of s.banks.log may.kind j)) m.reserve (free_pages s.banks) ≡ false
  full = ap (λ (n : ℕ). has_room j.urgent n m.reserve (free_pages s.banks)) pages_are ∙ may.full

  room_on : KeepsRoom m.reserve t.banks
  room_on = begins_keep_room m.reserve s.banks (head_of s.banks.log may.kind j) j.urgent on.banks (on.sound.room on.started (power m entry s listed kept count on)) may.idle may.worn may.configured full

  switch_on : HasSwitch t.banks (Some (Erase 0))
  switch_on = (may.worn, room_on.switch.going)

  -- no urgent write begins beside it
  none_by : (u : Bool) → j.urgent ≡ u → (c : Option Course) → takes_append c && j.urgent && is_waiting s.banks j && fits_in 0 s.banks j ≡ false
  none_by true urgent c =
      let fits : fits_in 0 s.banks j ≡ false = (λ i. has_room (urgent i) (pages_of_op p j.op j.length) 0 (free_pages s.banks)) ∙ sym (λ i. has_room (urgent i) (pages_of_op p j.op j.length) m.reserve (free_pages s.banks)) ∙ may.full in
      (λ i. takes_append c && j.urgent && is_waiting s.banks j && fits i) ∙ and_last (takes_append c) j.urgent (is_waiting s.banks j)
  none_by false calm c = (λ i. takes_append c && calm i && is_waiting s.banks j && fits_in 0 s.banks j) ∙ and_four' (takes_append c) (is_waiting s.banks j) (fits_in 0 s.banks j)

  none_before : begins_next s.banks j ≡ false
  none_before = none_by j.urgent refl s.banks.course

  none_then : begins_next t.banks j ≡ false
  none_then = none_by j.urgent refl (Some (Erase 0))

  ready_so : IsReady t.banks j
  ready_so promised idle =
      let was = subst (λ (o : Option FeeJob). IfSome o (IsReady s.banks)) may.job at_work.ready in
      elim (was promised may.idle) [ inl begins ↦ (let no' = none_before in absurd (cc (begins, no'))) | inr seal ↦ (let shut = seal_is s.banks.course may.shut in absurd (omega (arith, seal, shut))) ]

  at_work_on : IsAtWork m t
  at_work_on = idle_at_work m t may.idle (active_on s.banks.active s.banks at_work.active) at_work.job (subst (λ (o : Option FeeJob). IfSome o (IsReady t.banks)) (sym may.job) ready_so) switch_on

  -- THE FIGURES
  abbrev v : OpenWork
  v = work_of m.reserve t.banks s.job

  abbrev w : OpenWork
  w = work_of m.reserve s.banks s.job

  beside : turns_beside t.banks s.job ≡ left_of t.banks
  beside = ap (turns_beside t.banks) may.job ∙ ap (λ (b : Bool). if b then left_beside t.banks j.number.0 else left_of t.banks) none_then

  waiting : is_waiting s.banks j ≡ true
  waiting =
      let same = pages_are in
      let some' : 1 ≤ pages_of_op p j.op j.length = omega (arith, same) in
      (λ i. le-leb 1 (pages_of_op p j.op j.length) some' i && not (is_some (may.idle i)))

  needed : needs_switch m.reserve s.banks s.job ≡ true
  needed = ap (needs_switch m.reserve s.banks) may.job ∙ (λ i. waiting i && not (may.full i))

  switch_was : w.switch ≡ left_of t.banks
  switch_was = ap (switch_turns m.reserve s.banks s.job) may.shut ∙ ap (λ (b : Bool). if b then left_of t.banks else 0) needed

  switch_same : v.switch ≡ w.switch
  switch_same = beside ∙ sym switch_was

  left_same : (told_of e).left ≡ (told_of d).left
  left_same = left_alike (stand_of s.content s.job s.last s.given) v w refl refl switch_same

  wanted : pages_of_job p s.job ≡ pages_of_op p j.op j.length
  wanted = ap (pages_of_job p) may.job

  pages_now : v.pages ≤ pages_of_op p j.op j.length
  pages_now = subst (λ (n : ℕ). v.pages ≤ n) wanted (pages_few p (pages_of_job p s.job) s.banks.log.tail (λ r some'. (let idle = may.idle in absurd (cc (idle, some')))))

  shaped : IsShaped m t.banks
  shaped = record { geometry = on.sound.made_for.banks_geometry; shared = on.sound.made_for.shared; numbers = on.sound.made_for.numbers }

  claims : (b : BanksState) → begins_next b j ≡ false → claimed b s.job ≡ 0
  claims b none' = ap (claimed b) may.job ∙ ap (λ (x : Bool). if x then pages_of_op b.geometry.page j.op j.length else 0) none'

  free_same : pages_free t.banks s.job ≡ pages_free s.banks s.job
  free_same = let one = claims t.banks none_then in let two = claims s.banks none_before in omega (arith, one, two)

  ready_same : (told_of e).ready ≡ (told_of d).ready
  ready_same = ap (ready_of m.reserve false) free_same ∙ sym (ap (λ (n : ℕ). ready_of m.reserve (nat_le 1 n) (pages_free s.banks s.job)) (seal_is s.banks.course may.shut))

  before_same : turns_before s.banks.log.tail 0 ≡ turns_before s.banks.log.tail (seal_turns s.banks.course)
  before_same = sym (ap (turns_before s.banks.log.tail) (seal_is s.banks.course may.shut))

  wait_same : (told_of e).wait ≡ (told_of d).wait
  wait_same = λ i. wait_of (record { before = before_same i; urgent = is_urgent_job s.job; promised = is_promised s.job; pages = w.pages })

  pub has_begun : HasBegun (told_of d) (told_of e) (clock_of d) (clock_of e)
  has_begun = record {
    only = λ i. record (told_of e) { slots = same_slots i; ready = ready_same i; wait = wait_same i };
    left = left_same;
    job = subst (λ (o : Option FeeJob). is_open (stand_of s.content o s.last s.given) ≡ true) (sym may.job) refl;
    switching = λ is. ap (λ (x : Bool). x && true) on.started;
    on = (power m entry s listed kept count on, refl);
    same = clocks_stay (flash_device d) (flash_device e) (makes_none m entry s listed kept count on t none) (λ n. refl);
  }

  pub sound : IsSound m entry t listed kept count false
  sound = sound_behind m entry s listed kept count on t none (record {
    ends = record { same = record { geometry = refl; banks = refl; numbers = refl }; room = on.sound.made_for.room; given_few = on.sound.made_for.given; ended = on.sound.made_for.ended };
    behind = behind;
    work = open_work m s j t.banks v may.job job_of shaped switch_on pages_now (switch_same ∙ switch_was);
    at_work = at_work_on;
    room = room_on;
    copies = copies;
    worn = λ since worn. (let fresh = may.fresh in absurd (cc (fresh, worn)));
    still = λ none. refl;
  })

  pub unsealed : IsUnsealed s × IsUnsealed t
  unsealed = (ap is_sealing (idle_phase s.banks.course s.banks (body_of (work_in s.banks.copies.tail) s.banks.buffer) may.shut), refl)

pub switches_begin : SwitchesBegin
switches_begin m entry s listed kept count j on may = record { told = has_begun m entry s listed kept count j on may; sound = sound m entry s listed kept count j on may; unsealed = unsealed m entry s listed kept count j on may }
