-- A start-up.
use Rattle.std.specs.Prelude.{IfSome, IsTrue, ◌&&◌, is_some}
use Rattle.std.proofs.Common.{◌≡◌, ◌⊎◌, inl, inr, ◌≤◌, ◌<◌, ◌+◌, ◌*◌, ℕ, Bool, true, false, if◌then◌else◌, List, [], length, Option, Some, None, Ok, Err, refl, sym, ap, ◌∙◌, subst, arith}
use Rattle.nv_base.specs.Count.{Rose, next_count, last_count}
use Rattle.nv_base.specs.Geometry.{IsLegal, HasBanks, size_of}
use Rattle.nv_base.specs.Lengths.{AreLengths}
use Rattle.nv_base.specs.Plan.{dropped}
use Rattle.nv_base.specs.declared.geometry.Geometry.{Geometry}
use Rattle.nv_base.specs.declared.instance.DeviceNumber.{DeviceNumber}
use Rattle.nv_base.proofs.Shapes.{banks_fill}
use Rattle.memif.specs.declared.answer.JobResult.TheVariants.{JobOk}
use Rattle.memif.specs.declared.answer.StartFault.TheVariants.{Fault}
use Rattle.memif.specs.Told.{Slot, Ended, no_part, slot_at}
use Rattle.memif.specs.Marks.{IsPossible, ComesFrom, EachNumber}
use Rattle.memif.specs.Clock.{FindsNow}
use Rattle.memif.specs.Calls.{StartsUp, PowersUp, ClockStays}
use Rattle.fls_model.specs.Attach.{AreBytesOf}
use Rattle.fls_model.specs.Told.{Told, bytes_now}
use Rattle.fls_jobs.specs.declared.answer.FlsResult.{FlsResult}
use Rattle.fee_image.specs.Image.{Layout, layout_of, bank_in, active_of}
use Rattle.fee_image.specs.LogLaws.{loaded_log}
use Rattle.fee_image.specs.Log.{Log}
use Rattle.fee_image.specs.May.{May}
use Rattle.fee_image.specs.Banks.{OldBank, Phase, Idle}
use Rattle.fee_image.proofs.Sectors.{layouts_are_legal}
use Rattle.fee_switch_laws.specs.fee_switch.declared.active.ActiveBank.{ActiveBank}
use Rattle.fee_switch_laws.specs.fee_switch.Active.{active_shown}
use Rattle.fee_switch_laws.specs.fee_log.Log.{work_in, tail_with, log_of}
use Rattle.fee_course.specs.declared.course.Course.{Course}
use Rattle.fee_switch_laws.specs.fee_switch.Start.{IsLoadedAs}
use Rattle.fee_switch_laws.specs.fee_switch.Banks.{BanksState, FindsActive, LoadsActive}
use Rattle.fee_switch_laws.specs.Shown.{old_shown, phase_shown}
use Rattle.promise_device.specs.Making.{Making, banks_of}
use Rattle.fee_told.specs.Slots.{Memory, slots_held, slots_found, held_of, banks_with, may_told}
use Rattle.fee_told.specs.SlotLaws.{IsStarted, IsHeld}
use Rattle.fee_told.specs.fls_told.Device.{flash_part, slot_with}
use Rattle.fee_told.specs.fls_told.Clock.{MakesNone}
use Rattle.fee_told.specs.fls_told.Runs.{HasRun}
use Rattle.fee_told.specs.fls_told.Tells.{IsSame}
use Rattle.fee_told.proofs.Clocks.{clocks_stay}
use Rattle.fee_told.proofs.Making.{runs_stay}
use Rattle.fee_told.proofs.Parts.{parts_power}
use Rattle.fee_told.proofs.Tells.{tells_start}
use Rattle.fee_told.specs.Device.{Device, tells_now, told_of, slots_in, is_switching, clock_of, flash_device}
use Rattle.fee_told.specs.Jobs.{MayStart, AreStarted}
use Rattle.fee_told.specs.Whole.{HoldsBanks}
use Rattle.fee_told.specs.Figures.{left_of}
use Rattle.fee_format.specs.declared.rec_head.RecHead.{RecHead}
use Rattle.fee_switch_laws.specs.fee_log.Index.{clear_flags}
use Rattle.fee_switch_laws.specs.Space.{HasSpace}
use Rattle.fee_switch_laws.specs.KeepsRoom.{IsRoomy}
use Rattle.fee_told.proofs.Kept.{same_places}
use Rattle.fee_told.proofs.Held.{images_find}
use Rattle.fee_told.proofs.Jobs.{banks_start as told_banks_start, no_bank_starts}
use Rattle.fee_told.proofs.Steps.{places_tell, unstarted_find, unstarted_is_found}
use Rattle.fee_told.proofs.Whole.{held_finds_now, unstarted_finds_now}
use Rattle.fee_told.proofs.Counted.{rose_next}
use Rattle.fee_told.proofs.ToldBytes.{each_told, now_at, told_at}
use Rattle.fee_laws.specs.Inside.{Parts, memory_of, body_of, device_of, IsMadeFor, IsDevice, IsSound, HoldsBehind, HasSwitch, IsAtWork, ShowsCopies, is_copying}
use Rattle.fee_laws.specs.Record.{IsInWork}
use Rattle.fee_laws.specs.Parts.{started_with}
use Rattle.fee_laws.specs.Work.{work_of}
use Rattle.fee_laws.specs.CallLaws.{AreOf, AreReady, StartsAreReady, StartsFail}
use Rattle.fee_laws.proofs.Making.{none_shows}
use Rattle.fee_laws.proofs.CallOrder.{at_rest, nothing_left}
use Rattle.fee_laws.proofs.Before.{some_told}
use Rattle.fee_laws.proofs.BehindNone.{Counted, were_counted, few_counted}
use Rattle.fee_laws.proofs.MadeFor.{still_made}

-- BYTES
at_most : (a b c : ℕ) → a ≡ c → b ≡ c → a ≤ b
at_most a b c x y = omega (arith, x, y)

pub same_bytes : (o : Option (List ℕ)) (x y : List ℕ) → o ≡ Some x → o ≡ Some y → x ≡ y
same_bytes o x y a b = cc (a, b)

-- a number that is settled at what was possible
settled : {x y : Slot} → IsStarted x y → ComesFrom x y × (y.doubts ≡ [])
settled is = (is.comes_from, is.clear)

-- no job is open, nothing more may be copied
none_copied : May
none_copied number length = None

module _ (m : Making) (entry : Told) (s : Parts) (made : IsMadeFor m s) (is : IsDevice (device_of m entry s)) (lengths : AreLengths 0 m.numbers) (b : BanksState) (are : AreOf m b) (result : FlsResult) (flash_faults : ℕ) (ready : Bool) (faults : ℕ) (more : s.fls.flash.faults ≤ flash_faults) (counted : Counted s.fls.flash.faults flash_faults s.faults faults) where
  abbrev d : Device
  d = device_of m entry s

  abbrev u : Parts
  u = started_with s b result flash_faults ready faults

  abbrev t : Device
  t = device_of m entry u

  abbrev l : Layout
  l = banks_of m

  legal : IsLegal m.geometry
  legal = subst IsLegal are.geometry are.state.legal

  shared : HasBanks m.geometry m.banks
  shared = subst (λ (g : Geometry). HasBanks g m.banks) are.geometry (subst (HasBanks b.geometry) are.shared are.state.shared)

  none : MakesNone (flash_device d) (flash_device t)
  none = record { reading = refl; entry = refl; operations = refl; bytes = refl }

  run : HasRun (flash_device t)
  run = runs_stay (flash_device d) (flash_device t) is.run (record {
    none = none;
    bytes = refl;
    counts = (refl, refl);
    came = (refl, refl);
    flash_faults = more;
    faults = were_counted entry.faults s.fls.flash.faults flash_faults s.faults faults more counted is.run.faults;
    cuts = is.run.cuts;
    worn = λ n since e. inl e;
  })

  part : PowersUp (flash_part (flash_device d)) (flash_part (flash_device t))
  part = parts_power (flash_device d) (flash_device t) (record { off = refl; planning = refl; operations = refl; more = more; faults = counted; small = is.faults })

  second : PowersUp no_part no_part
  second = record { only = refl; faults = record { faults = omega arith; flash = omega arith; tied = inl (omega arith) }; off = λ e. e }

  some : IfSome (bytes_now s.fls.flash) (λ bytes. 0 < length bytes)
  some = some_told m.geometry s.fls.flash.bytes legal made.bytes

  -- WHAT WAS POSSIBLE
  abbrev AllPossible : List ℕ → Bool → Type 0
  AllPossible bytes started = (n : ℕ) → IsPossible (slot_at m.numbers (if started then slots_held l m.numbers bytes d.memory else slots_found l m.numbers bytes) n) (held_of l m.numbers bytes n)

  possible_by : (started : Bool) → s.started ≡ started → (bytes : List ℕ) → bytes_now s.fls.flash ≡ Some bytes → IsTrue (tells_now d) → AllPossible bytes started
  possible_by true e bytes at told =
      let h = is.held e in
      let held : IsHeld l m.numbers bytes h.behind h.copied = told_at s.fls.flash.bytes (λ (x : List ℕ). IsHeld l m.numbers x h.behind h.copied) bytes at (h.banks.held told) in
      let found = images_find l m.numbers (slots_held l m.numbers bytes h.behind) bytes (banks_with h.behind (may_told l m.numbers bytes h.behind) h.copied) h.banks.legal held.banks (λ number size x among. among) in
      subst (λ (slots : List Slot). (n : ℕ) → IsPossible (slot_at m.numbers slots n) (held_of l m.numbers bytes n)) (sym (places_tell l m.numbers bytes h.behind d.memory h.places (sym h.stand))) found
  possible_by false e bytes at told = unstarted_is_found l m.numbers bytes

  possible : (bytes : List ℕ) → bytes_now s.fls.flash ≡ Some bytes → IsTrue (tells_now d) → (n : ℕ) → IsPossible (slot_with (flash_device d) bytes n) (held_of l m.numbers bytes n)
  possible bytes at told = possible_by s.started refl bytes at told

  -- WHAT IT STARTS WITH
  may : (bytes : List ℕ) → bytes_now s.fls.flash ≡ Some bytes → IsTrue (tells_now d) → MayStart l m.numbers bytes (slots_in d bytes) b.target (Ended JobOk [])
  may bytes at told = record {
    lengths = lengths;
    legal = layouts_are_legal m.geometry m.banks legal shared;
    size = at_most (l.pages * l.page * l.banks) (length bytes) (size_of m.geometry) (banks_fill m.geometry m.banks legal shared).0 (now_at s.fls.flash.bytes (AreBytesOf m.geometry) bytes at made.bytes).size;
    target_in = omega (arith, are.state.target, are.shared);
    possible = possible bytes at told;
    shut = refl;
  }

  lay : layout_of b.geometry b.banks ≡ l
  lay = λ i. layout_of (are.geometry i) (are.shared i)

  abbrev body : List ℕ
  body = body_of (work_in b.log.tail) s.content

  abbrev memory_with : Option ActiveBank → Phase → Memory
  memory_with active phase = record { old = old_shown active b.log body; target = b.target; phase = phase; stand = Ended JobOk [] }

  start_by : (bytes : List ℕ) → MayStart l m.numbers bytes (slots_in d bytes) b.target (Ended JobOk []) → (active : Option ActiveBank) → active_shown active ≡ active_of l bytes
      → IfSome active (λ a. IsLoadedAs l bytes a.bank a.head b.log) → IfSome active (λ a. (a.bank ≡ b.target → ⊥) × (b.log.bank ≡ a.bank))
      → AreStarted l m.numbers bytes (slots_in d bytes) (memory_with active Idle) none_copied
  start_by bytes can None first loaded other = no_bank_starts l m.numbers bytes (slots_in d bytes) b.target none_copied (Ended JobOk []) can (sym first)
  start_by bytes can (Some a) first loaded other =
      let tail = tail_with b.log.tail body in
      let h = told_banks_start l m.numbers bytes (slots_in d bytes) a.bank b.target a.head tail none_copied (Ended JobOk []) can (sym first) (λ e. other.0 (sym e)) (loaded.tail body) in
      let is_log = subst (λ (ns : List (DeviceNumber × ℕ)). log_of b.log body ≡ loaded_log (bank_in l a.head.format a.bank) ns bytes tail) are.numbers (loaded.loaded body) in
      subst (λ (log : Log). AreStarted l m.numbers bytes (slots_in d bytes) (record { old = OldBank a.bank a.head log; target = b.target; phase = Idle; stand = Ended JobOk [] }) none_copied) (sym is_log) h

  idle : phase_shown b.course b (body_of (work_in b.copies.tail) b.buffer) ≡ Idle
  idle = ap (λ (c : Option Course). phase_shown c b (body_of (work_in b.copies.tail) b.buffer)) are.closed

  -- the banks that were loaded
  starts : IfSome s.fls.flash.bytes (λ x. FindsActive x.now b) → IfSome s.fls.flash.bytes (λ x. LoadsActive x.now b)
      → (bytes : List ℕ) → bytes_now s.fls.flash ≡ Some bytes → IsTrue (tells_now d) → AreStarted l m.numbers bytes (slots_in d bytes) (memory_of u) none_copied
  starts finds loads bytes at told =
      let first = subst (λ (x : Layout). active_shown b.active ≡ active_of x bytes) lay (now_at s.fls.flash.bytes (λ (x : List ℕ). FindsActive x b) bytes at finds) in
      let loaded = subst (λ (x : Layout). IfSome b.active (λ a. IsLoadedAs x bytes a.bank a.head b.log)) lay (now_at s.fls.flash.bytes (λ (x : List ℕ). LoadsActive x b) bytes at loads) in
      subst (λ (phase : Phase). AreStarted l m.numbers bytes (slots_in d bytes) (memory_with b.active phase) none_copied) (sym idle)
      (start_by bytes (may bytes at told) b.active first loaded are.state.active)

  -- AT WORK
  no_work : (h : Option RecHead) → h ≡ None → IfSome h (IsInWork b None)
  no_work None idle = tt
  no_work (Some h) idle = cc idle

  no_switch : (c : Option Course) → c ≡ None → b.log.flags ≡ clear_flags b.log.numbers → HasSwitch b c
  no_switch None closed clear = clear
  no_switch (Some c) closed clear = cc closed

  at_work : (x : BanksState) → b.course ≡ None → AreReady b → IsAtWork m u
  at_work x closed rdy = record { active = rdy.active; job = tt; work = no_work (work_in b.log.tail) rdy.idle; kept = λ work calm. (let none = ap (λ (o : Option RecHead). is_some o) rdy.idle in absurd (cc (work, none))); ready = tt; switch = no_switch b.course closed rdy.clear }

  -- WHAT IS TOLD
  same : IsSame (flash_device d) (flash_device t)
  same = record { reading = refl; numbers = refl; entry = refl; later = omega arith; old = is.run.alike; new = run.alike }

  off_now : ready && is_switching (memory_of u).phase ≡ false
  off_now = ap (λ (phase : Phase). ready && is_switching phase) idle ∙ by_test ready
    where
      by_test : (x : Bool) → x && false ≡ false
      by_test true = refl
      by_test false = refl

  left_now : left_of (Ended JobOk []) (work_of m.reserve b None) ≡ 0
  left_now = nothing_left m.reserve b b.course are.closed

  only : told_of t ≡ record (told_of t) { switching = false; left = 0 }
  only = λ i. record (told_of t) { switching = off_now i; left = left_now i }

  pub starts_up_as : FindsNow (told_of t) (clock_of t) → ClockStays (clock_of d) (told_of t) (clock_of t)
  starts_up_as now = record { same = clocks_stay (flash_device d) (flash_device t) none (λ n. refl); order = at_rest m entry u are.closed run.alike now }

  unplanned : (s.fls.flash.planning.unplanned + entry.cuts ≤ entry.planning.unplanned + s.fls.flash.cuts) ⊎ (last_count ≤ s.fls.flash.cuts) → ((dropped s.fls.flash.planning).unplanned + entry.cuts ≤ entry.planning.unplanned + s.fls.flash.cuts) ⊎ (last_count ≤ s.fls.flash.cuts)
  unplanned since = since

  space : HasSpace b.log.numbers b.geometry b.banks m.reserve
  space = subst (λ (ns : List (DeviceNumber × ℕ)). HasSpace ns b.geometry b.banks m.reserve) (sym are.numbers) (subst (λ (g : Geometry). HasSpace m.numbers g b.banks m.reserve) (sym are.geometry) (subst (λ (n : ℕ). HasSpace m.numbers m.geometry n m.reserve) (sym are.shared) made.space))

  shut_room : (c : Option Course) → c ≡ None → IfSome c (IsRoomy m.reserve b)
  shut_room None closed = tt
  shut_room (Some c) closed = cc closed

  pub sound_as : (t.started ≡ true → HoldsBehind t) → (ready ≡ true → AreReady b) → FindsNow (told_of t) (clock_of t) → (listed : List (DeviceNumber × ℕ)) (kept count : ℕ) (is_off : Bool) → IsSound m entry s listed kept count is_off → IsSound m entry u listed kept count false
  sound_as held rdy now listed kept count is_off sound = record {
    made_for = still_made m s u made refl made.bytes (record { geometry = are.geometry ∙ sym made.banks_geometry; banks = are.shared ∙ sym made.shared; numbers = are.numbers ∙ sym made.numbers }) made.room (omega arith) (λ e. cc e);
    device = record { run = run; held = held; order = at_rest m entry u are.closed run.alike now; faults = few_counted s.fls.flash.faults flash_faults s.faults faults is.faults counted };
    rests = λ unstarted. record { job = refl; course = are.closed };
    works = λ started. at_work b are.closed (rdy started);
    room = λ started on. record { space = space; switch = shut_room b.course are.closed };
    copies = λ on told. none_shows s.fls.flash.bytes b.course (λ x c. ShowsCopies m u c x.now) are.closed;
    cuts = record { before = sound.cuts.before; since = unplanned sound.cuts.since };
    worn = λ since e. record { passed = (sound.worn since e).passed; shut = are.closed };
    seals = λ k x many at such. ap is_copying are.closed;
    numbers = sound.numbers;
    reserve = sound.reserve;
    ops = sound.ops;
    off = λ started. refl;
  }

module _ (m : Making) (entry : Told) (s : Parts) (made : IsMadeFor m s) (is : IsDevice (device_of m entry s)) (lengths : AreLengths 0 m.numbers) (b : BanksState) (are : AreOf m b) (result : FlsResult) where
  -- THE BANKS ARE READY
  abbrev ready_parts : Parts
  ready_parts = started_with s b result s.fls.flash.faults true s.faults

  abbrev ready_device : Device
  ready_device = device_of m entry ready_parts

  module _ (rdy : AreReady b) (finds : IfSome s.fls.flash.bytes (λ x. FindsActive x.now b)) (loads : IfSome s.fls.flash.bytes (λ x. LoadsActive x.now b)) where
    ready_more : s.fls.flash.faults ≤ s.fls.flash.faults
    ready_more = omega arith

    banks_start : (bytes : List ℕ) → bytes_now s.fls.flash ≡ Some bytes → IsTrue (tells_now (device_of m entry s)) → AreStarted (banks_of m) m.numbers bytes (slots_in (device_of m entry s) bytes) (memory_of ready_parts) none_copied
    banks_start = starts m entry s made is lengths b are result s.fls.flash.faults true s.faults ready_more (inl refl) finds loads

    ready_holds : HoldsBanks ready_device none_copied
    ready_holds = record {
      started = refl;
      alike = is.run.alike;
      legal = layouts_are_legal m.geometry m.banks (legal m entry s made is lengths b are result s.fls.flash.faults true s.faults ready_more (inl refl)) (shared m entry s made is lengths b are result s.fls.flash.faults true s.faults ready_more (inl refl));
      some = some m entry s made is lengths b are result s.fls.flash.faults true s.faults ready_more (inl refl);
      held = λ told. each_told s.fls.flash.bytes (λ (x : List ℕ). IsHeld (banks_of m) m.numbers x (memory_of ready_parts) none_copied) (λ bytes at. (banks_start bytes at told).held);
    }

    ready_behind : HoldsBehind ready_device
    ready_behind = record { behind = memory_of ready_parts; copied = none_copied; banks = ready_holds; places = same_places (memory_of ready_parts).old; stand = refl; on = λ on. refl; idle = inl refl }

    ready_now : FindsNow (told_of ready_device) (clock_of ready_device)
    ready_now = held_finds_now ready_device none_copied ready_holds

    ready_each : EachNumber (λ n x y. ComesFrom x y) (told_of (device_of m entry s)) (told_of ready_device) × EachNumber (λ n x y. y.doubts ≡ []) (told_of (device_of m entry s)) (told_of ready_device)
    ready_each = tells_start (flash_device (device_of m entry s)) (flash_device ready_device) (same m entry s made is lengths b are result s.fls.flash.faults true s.faults ready_more (inl refl)) (λ old new told n.
        settled (subst (λ (x : List ℕ). IsStarted (slot_with (flash_device (device_of m entry s)) old n) (slot_with (flash_device ready_device) x n)) (same_bytes (bytes_now s.fls.flash) old new told.1 told.2) ((banks_start old told.1 told.0).starts n)))

    pub ready_starts : StartsUp (Ok tt) (told_of (device_of m entry s)) (clock_of (device_of m entry s)) (told_of ready_device) (clock_of ready_device)
    ready_starts = record {
      only = only m entry s made is lengths b are result s.fls.flash.faults true s.faults ready_more (inl refl);
      comes_to = (refl, refl, refl, ready_each.1);
      marks = ready_each.0;
      first = part m entry s made is lengths b are result s.fls.flash.faults true s.faults ready_more (inl refl);
      second = second m entry s made is lengths b are result s.fls.flash.faults true s.faults ready_more (inl refl);
      clock_stays = starts_up_as m entry s made is lengths b are result s.fls.flash.faults true s.faults ready_more (inl refl) ready_now;
    }

    pub ready_sound : (listed : List (DeviceNumber × ℕ)) (kept count : ℕ) (is_off : Bool) → IsSound m entry s listed kept count is_off → IsSound m entry ready_parts listed kept count false
    ready_sound = sound_as m entry s made is lengths b are result s.fls.flash.faults true s.faults ready_more (inl refl) (λ started. ready_behind) (λ e. rdy) ready_now

  -- A READ FAILED
  module _ (flash_faults : ℕ) (rose : Rose s.fls.flash.faults flash_faults) where
    abbrev failed_parts : Parts
    failed_parts = started_with s b result flash_faults false (next_count s.faults)

    abbrev failed_device : Device
    failed_device = device_of m entry failed_parts

    failed_more : (a c : ℕ) → Rose a c → a ≤ c
    failed_more a c (inl less) = omega arith
    failed_more a c (inr (big, le)) = le

    risen : s.fls.flash.faults ≤ flash_faults
    risen = failed_more s.fls.flash.faults flash_faults rose

    failed_now : FindsNow (told_of failed_device) (clock_of failed_device)
    failed_now = unstarted_finds_now failed_device refl (some m entry s made is lengths b are result flash_faults false (next_count s.faults) risen (inr (refl, rose)))

    failed_each : EachNumber (λ n x y. ComesFrom x y) (told_of (device_of m entry s)) (told_of failed_device) × EachNumber (λ n x y. y.doubts ≡ []) (told_of (device_of m entry s)) (told_of failed_device)
    failed_each = tells_start (flash_device (device_of m entry s)) (flash_device failed_device) (same m entry s made is lengths b are result flash_faults false (next_count s.faults) risen (inr (refl, rose))) (λ old new told n.
        settled (subst (λ (x : List ℕ). IsStarted (slot_with (flash_device (device_of m entry s)) old n) (slot_with (flash_device failed_device) x n)) (same_bytes (bytes_now s.fls.flash) old new told.1 told.2)
        (unstarted_find (banks_of m) m.numbers old (slots_in (device_of m entry s) old) (possible m entry s made is lengths b are result flash_faults false (next_count s.faults) risen (inr (refl, rose)) old told.1 told.0) n)))

    pub failed_starts : StartsUp (Err Fault) (told_of (device_of m entry s)) (clock_of (device_of m entry s)) (told_of failed_device) (clock_of failed_device)
    failed_starts = record {
      only = only m entry s made is lengths b are result flash_faults false (next_count s.faults) risen (inr (refl, rose));
      comes_to = (refl, inl (rose_next s.faults is.faults));
      marks = failed_each.0;
      first = part m entry s made is lengths b are result flash_faults false (next_count s.faults) risen (inr (refl, rose));
      second = second m entry s made is lengths b are result flash_faults false (next_count s.faults) risen (inr (refl, rose));
      clock_stays = starts_up_as m entry s made is lengths b are result flash_faults false (next_count s.faults) risen (inr (refl, rose)) failed_now;
    }

    pub failed_sound : (listed : List (DeviceNumber × ℕ)) (kept count : ℕ) (is_off : Bool) → IsSound m entry s listed kept count is_off → IsSound m entry failed_parts listed kept count false
    failed_sound = sound_as m entry s made is lengths b are result flash_faults false (next_count s.faults) risen (inr (refl, rose)) (λ started. cc started) (λ e. cc e) failed_now

pub starts_are_ready : StartsAreReady
starts_are_ready m entry s listed kept count is_off b result sound are loaded = (
  ready_sound m entry s sound.made_for sound.device sound.made_for.space.lengths b are result loaded.ready loaded.finds loaded.loads listed kept count is_off sound,
  ready_starts m entry s sound.made_for sound.device sound.made_for.space.lengths b are result loaded.ready loaded.finds loaded.loads,
)

pub starts_fail : StartsFail
starts_fail m entry s listed kept count is_off b result faults sound are rose = (
  failed_sound m entry s sound.made_for sound.device sound.made_for.space.lengths b are result faults rose listed kept count is_off sound,
  failed_starts m entry s sound.made_for sound.device sound.made_for.space.lengths b are result faults rose,
)
