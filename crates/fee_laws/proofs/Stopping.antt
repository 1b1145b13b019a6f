-- A job is canceled whose record is in work: what holds then.
use Rattle.std.specs.Prelude.{IfSome, nat_le, is_some, ◌&&◌}
use Rattle.std.proofs.Common.{◌≡◌, inl, inr, ◌≤◌, ◌-◌, ℕ, Bool, true, false, if◌then◌else◌, List, Option, Some, None, refl, sym, ap, ◌∙◌, subst, arith}
use Rattle.nv_base.specs.Geometry.{pages_of_bank}
use Rattle.nv_base.specs.declared.geometry.Geometry.{Geometry}
use Rattle.nv_base.specs.declared.instance.DeviceNumber.{DeviceNumber}
use Rattle.fls_model.specs.Told.{Told}
use Rattle.fee_format.specs.declared.rec_head.RecHead.{RecHead}
use Rattle.fee_image.specs.Step.{log_given_up}
use Rattle.fee_image.specs.Banks.{OldBank, Phase}
use Rattle.fee_switch_laws.specs.fee_switch.declared.active.ActiveBank.{ActiveBank}
use Rattle.fee_switch_laws.specs.fee_log.Log.{work_in, log_of, free_in}
use Rattle.fee_switch_laws.specs.fee_log.Step.{given_up}
use Rattle.fee_course.specs.declared.course.Course.{Course}
use Rattle.fee_switch_laws.specs.fee_switch.Banks.{BanksState, IsBanksState}
use Rattle.fee_switch_laws.specs.Shown.{old_shown}
use Rattle.fee_switch_laws.specs.Space.{free_pages}
use Rattle.fee_switch_laws.specs.KeepsRoom.{IsRoomy}
use Rattle.promise_device.specs.Making.{Making, banks_of}
use Rattle.fee_told.specs.Slots.{Memory}
use Rattle.fee_told.specs.SlotLaws.{SamePlaces, IsHeld}
use Rattle.fee_told.specs.Device.{Device, is_switching}
use Rattle.fee_told.specs.Kept.{with_log}
use Rattle.fee_told.proofs.Kept.{same_places}
use Rattle.fee_told.proofs.Appends.{records_give_up}
use Rattle.fee_told.proofs.ToldBytes.{told_at}
use Rattle.fee_laws.specs.declared.job.FeeJob.{FeeJob}
use Rattle.fee_laws.specs.Inside.{Parts, device_of, memory_of, body_of, HoldsBehind, IsSound, ShowsCopies}
use Rattle.fee_laws.specs.Record.{IsInWork}
use Rattle.fee_laws.specs.Work.{switch_turns, seal_turns}
use Rattle.fee_laws.specs.Parts.{canceled}
use Rattle.fee_laws.proofs.Canceling.{behind_it}
use Rattle.fee_laws.proofs.Ending.{Ends}
use Rattle.fee_laws.proofs.Raising.{ready_calm}
use Rattle.fee_laws.proofs.GivenUp.{given_log, none_left, places_left, free_left, ready_up, phase_same, active_same, switch_same, takes, no_course}
use Rattle.fee_laws.proofs.Making.{none_shows}
use Rattle.fee_laws.proofs.CallOrder.{nothing_left}
use Rattle.fee_laws.proofs.Appended.{idle_at_work}
use Rattle.fee_laws.proofs.MadeFor.{still_made, legal_made}
use Rattle.memif.specs.declared.answer.JobResult.TheVariants.{JobCanceled}
use Rattle.fee_laws.proofs.CallsBehind.{holds_still}

in_work : (b : BanksState) (job : Option FeeJob) (o : Option RecHead) → is_some o ≡ true → IfSome o (IsInWork b job) → (h : RecHead) × IsInWork b job h
in_work b job None some is = cc some
in_work b job (Some h) some is = (h, is)

not_none : (o : Option ActiveBank) → o ≡ None → is_some o ≡ true → ⊥
not_none None none some = cc some
not_none (Some a) none some = cc none

free_more : (active : Option ActiveBank) (a b : ℕ) → a ≤ b → (if is_some active then a else 0) ≤ (if is_some active then b else 0)
free_more None a b less = omega arith
free_more (Some x) a b less = less

shut_room : (reserve : ℕ) (b : BanksState) (c : Option Course) → c ≡ None → IfSome c (IsRoomy reserve b)
shut_room reserve b None shut = tt
shut_room reserve b (Some c) shut = cc shut

module _ (m : Making) (entry : Told) (s : Parts) (listed : List (DeviceNumber × ℕ)) (kept count : ℕ) (is_off : Bool) (sound : IsSound m entry s listed kept count is_off) (started : s.started ≡ true) (state : IsBanksState s.banks) (j : FeeJob) (job : s.job ≡ Some j) (calm : j.urgent ≡ false) (work : is_some (work_in s.banks.log.tail) ≡ true) where
  abbrev pub b : BanksState
  b = record s.banks { log = given_up s.banks.log }

  abbrev f : Device
  f = device_of m entry (canceled b s)

  abbrev g : Device
  g = device_of m entry s

  abbrev h : HoldsBehind g
  h = sound.device.held started

  record_of : (hd : RecHead) × IsInWork s.banks s.job hd
  record_of = in_work s.banks s.job (work_in s.banks.log.tail) work (sound.works started).work

  active : is_some s.banks.active ≡ true
  active = record_of.1.active

  shut : s.banks.course ≡ None
  shut = no_course s.banks.course (λ some. (let urgent = record_of.1.beside some in let same : record_of.1.of ≡ j = cc (record_of.1.is_open, job) in let e = ap (λ (x : FeeJob). x.urgent) same in cc (urgent, e, calm)))

  abbrev body : List ℕ
  body = body_of (work_in s.banks.log.tail) s.content

  abbrev after : List ℕ
  after = body_of (work_in (given_up s.banks.log).tail) s.content

  pub places : SamePlaces (memory_of s).old (memory_of (canceled b s)).old
  places = places_left s.banks.active s.banks.log body after

  -- WHAT THE BYTES HOLD
  behind_own : h.behind ≡ memory_of s → (a : ActiveBank) → s.banks.active ≡ Some a → HoldsBehind f
  behind_own own a at =
      let l = banks_of m in
      let log1 = log_of s.banks.log body in
      let old_was : (memory_of s).old ≡ OldBank a.bank a.head log1 = ap (λ (o : Option ActiveBank). old_shown o s.banks.log body) at in
      let page : s.banks.log.geometry.page ≡ m.geometry.page = ap (λ (x : Geometry). x.page) (state.log.shape ∙ sound.made_for.banks_geometry) in
      let given = given_log s.banks.log body after ∙ ap (λ (p : ℕ). log_given_up p log1) page in
      let old_is : (memory_of (canceled b s)).old ≡ OldBank a.bank a.head (log_given_up m.geometry.page log1) = ap (λ (o : Option ActiveBank). old_shown o (given_up s.banks.log) after) at ∙ ap (λ x. OldBank a.bank a.head x) given in
      let phase = phase_same s.banks s.banks.course (body_of (work_in s.banks.copies.tail) s.banks.buffer) in
      let is : with_log (memory_of s) a.bank a.head (log_given_up m.geometry.page log1) (memory_of (canceled b s)).stand ≡ memory_of (canceled b s) = λ i. record (memory_of (canceled b s)) { old = sym old_is i; phase = sym phase i } in
      record {
        behind = memory_of (canceled b s);
        copied = h.copied;
        banks = holds_still m entry s b s.content None JobCanceled 0 h started (memory_of (canceled b s)) (λ bytes there told.
            (let behind = told_at s.fls.flash.bytes (λ (x : List ℕ). IsHeld l m.numbers x h.behind h.copied) bytes there (h.banks.held told) in
            let held = subst (λ (x : Memory). IsHeld l m.numbers bytes x h.copied) own behind in
            let k = records_give_up l m.numbers bytes (memory_of s) h.copied a.bank a.head log1 (memory_of (canceled b s)).stand (record { lengths = sound.made_for.space.lengths; legal = h.banks.legal; held = held; bank = old_was; takes = takes s.banks s.banks.course _ shut }) refl in
            subst (λ (x : Memory). IsHeld l m.numbers bytes x h.copied) is k.held));
        places = same_places (memory_of (canceled b s)).old;
        stand = refl;
        on = λ off. refl;
        idle = inl refl;
      }

  active_by : h.behind ≡ memory_of s → (o : Option ActiveBank) → s.banks.active ≡ o → HoldsBehind f
  active_by own None at = absurd (not_none s.banks.active at active)
  active_by own (Some a) at = behind_own own a at

  behind_by : (off : Bool) → s.fls.flash.off ≡ off → HoldsBehind f
  behind_by true off = elim h.idle [
    | inl own ↦ active_by own s.banks.active refl
    | inr fits ↦ behind_it m entry s listed kept count is_off sound started b places fits (λ on. cc (on, off))
  ]
  behind_by false on = active_by (h.on on) s.banks.active refl

  -- THE TURNS AND THE ROOM
  none : switch_turns m.reserve b None s.banks.course ≡ 0
  none = nothing_left m.reserve b s.banks.course shut

  ready : g.ready ≤ f.ready
  ready =
      let seals = nat_le 1 (seal_turns s.banks.course) in
      let was = ready_calm m.reserve s.banks s.job j job calm in
      let more = free_more s.banks.active (free_in s.banks.log) (free_in (given_up s.banks.log)) (free_left (pages_of_bank s.banks.log.geometry s.banks.log.banks) s.banks.log) in
      let up = ready_up m.reserve (free_pages s.banks - 0) (free_pages b - 0) seals (omega (arith, more)) in
      omega (arith, was, up)

  pub ends : Ends m entry s listed kept count is_off sound started b places (legal_made m s sound.made_for state)
  ends =
      let was = sound.made_for in
      record {
        behind = behind_by s.fls.flash.off refl;
        made_for = still_made m s (canceled b s) was refl was.bytes (record { geometry = refl; banks = refl; numbers = refl }) was.room (omega arith) (λ e. cc e);
        works = idle_at_work m (canceled b s) (none_left s.banks.log) (active_same s.banks s.banks.active active (sound.works started).active) tt tt (switch_same s.banks s.banks.course shut (sound.works started).switch);
        room = λ on. record { space = (sound.room started on).space; switch = shut_room m.reserve b s.banks.course shut };
        copies = λ on told. none_shows s.fls.flash.bytes s.banks.course (λ x c. ShowsCopies m (canceled b s) c x.now) shut;
        shut = λ e. e;
        still = λ e. e;
        switching = ap (λ (p : Phase). s.started && is_switching p) (phase_same s.banks s.banks.course (body_of (work_in s.banks.copies.tail) s.banks.buffer));
        few = omega (arith, none);
        left = omega (arith, none);
        ready = ready;
      }
