-- A start-up, from what its calls answer.
use Rattle.std.specs.Prelude.{IfSome}
use Rattle.std.proofs.Common.{◌≡◌, ◌≤◌, ◌+◌, ℕ, Bool, true, false, List, Option, Some, None, Result, Ok, Err, refl, sym, ap, ◌∙◌, subst, arith}
use Rattle.nv_base.specs.Count.{Rose, last_count, next_count}
use Rattle.memif.specs.declared.answer.JobResult.TheVariants.{JobOk}
use Rattle.memif.specs.declared.answer.StartFault.{StartFault}
use Rattle.memif.specs.declared.answer.StartFault.TheVariants.{Fault}
use Rattle.memif.specs.Told.{DeviceTold}
use Rattle.memif.specs.Clock.{Clock}
use Rattle.memif.specs.Calls.{StartsUp}
use Rattle.fls_model.specs.Attach.{AreBytesOf}
use Rattle.fls_model.specs.Told.{Told, ToldBytes, powered}
use Rattle.nv_base.specs.declared.geometry.Geometry.{Geometry}
use Rattle.fee_image.specs.Image.{layout_of, bank_in}
use Rattle.fee_image.specs.RecordList.{IsClosed, end_of}
use Rattle.fls_jobs.specs.State.{FlsState}
use Rattle.fee_laws.specs.fee_log.Index.{clear_flags}
use Rattle.fee_laws.specs.fee_log.Log.{LogState, erased_state, work_in, is_closed}
use Rattle.fee_laws.specs.fee_switch.declared.active.ActiveBank.{ActiveBank}
use Rattle.fee_laws.specs.fee_switch.Banks.{BanksState, IsBanksState, IsSameFlash, FindsActive, LoadsActive}
use Rattle.promise_device.specs.Making.{Making}
use Rattle.fee_laws.specs.fee_told.Device.{told_of, clock_of}
use Rattle.fee_laws.specs.Inside.{Parts, device_of, IsSound, IsActiveOf}
use Rattle.fee_laws.specs.fee_switch.Start.{IsLoadedAs}
use Rattle.fee_laws.specs.fee_switch_laws.Shown.{layout_in}
use Rattle.fee_laws.specs.Follows.{Follows}
use Rattle.fee_laws.specs.Wears.{Wears}
use Rattle.fee_laws.specs.Restarts.{may_come, Restarts}
use Rattle.fee_laws.proofs.Restarts.{start_few}
use Rattle.fee_laws.specs.FollowLaws.{ClosesActive}
use Rattle.fee_laws.specs.CallLaws.{AreOf, AreReady}
use Rattle.fee_laws.proofs.FollowCalled.{starts_follow, unstarted_follows}
use Rattle.fee_laws.proofs.Starting.{starts_are_ready, starts_fail}
use Rattle.fee_core.specs.Whole.{Whole, Sound, told_in, clock_in}

-- what is told of parts
abbrev pub told_at : Making → Told → Parts → DeviceTold
told_at m entry s = told_of (device_of m entry s)

abbrev pub clock_at : Making → Told → Parts → Clock
clock_at m entry s = clock_of (device_of m entry s)

-- THE DRIVER
ready_driver : (old p f : FlsState) → p ≡ record old { flash = powered old.flash } → f ≡ record p { flash = f.flash; result = f.result } → f.flash ≡ p.flash → f ≡ record old { flash = powered old.flash; result = f.result }
ready_driver old p f is same flash = same ∙ (λ i. record p { flash = flash i; result = f.result }) ∙ ap (λ (x : FlsState). record x { result = f.result }) is

failed_driver : (old p f : FlsState) → p ≡ record old { flash = powered old.flash } → f ≡ record p { flash = f.flash; result = f.result } → f.flash ≡ record p.flash { faults = f.flash.faults }
    → f ≡ record old { flash = record (powered old.flash) { faults = f.flash.faults }; result = f.result }
failed_driver old p f is same flash =
    same ∙ (λ i. record p { flash = flash i; result = f.result }) ∙ ap (λ (x : FlsState). record x { flash = record x.flash { faults = f.flash.faults }; result = f.result }) is

-- the parts with this driver and these banks, and nothing open
abbrev resting : Parts → FlsState → BanksState → ℕ → Bool → ℕ → Parts
resting s f b starts ready faults = record s { fls = f; banks = b; job = None; last = JobOk; given = 0; starts = starts; started = ready; faults = faults }

-- what the banks are where they are ready
pub record IsLoaded (old b : BanksState) : Type 0 where
  pub format : IfSome b.active (λ a. b.log.format ≡ a.head.format)
  pub blank : b.active ≡ None → b.log ≡ erased_state old.geometry old.banks 0 old.log.numbers
  pub clear : b.log.flags ≡ clear_flags b.log.numbers
  pub idle : work_in b.log.tail ≡ None

blank_log : (old b : BanksState) → IsSameFlash old b → b.log ≡ erased_state old.geometry old.banks 0 old.log.numbers → b.log ≡ record (erased_state b.geometry b.banks b.log.bank b.log.numbers) { flags = b.log.flags }
blank_log old b of is =
    let bank : b.log.bank ≡ 0 = ap (λ (log : LogState). log.bank) is in
    let whole : b.log ≡ erased_state b.geometry b.banks b.log.bank b.log.numbers = is ∙ sym (λ i. erased_state (of.geometry i) (of.banks i) (bank i) (of.numbers i)) in
    λ i. record (whole i) { flags = b.log.flags }

active_at : (old b : BanksState) → IsSameFlash old b → IsLoaded old b → (o : Option ActiveBank) → b.active ≡ o → IsActiveOf b o
active_at old b of loaded None e = blank_log old b of (loaded.blank e)
active_at old b of loaded (Some a) e = subst (λ (o : Option ActiveBank). IfSome o (λ x. b.log.format ≡ x.head.format)) e loaded.format

are_ready : (old b : BanksState) → IsSameFlash old b → IsLoaded old b → AreReady b
are_ready old b of loaded = record { active = active_at old b of loaded b.active refl; clear = loaded.clear; idle = loaded.idle }

-- a log that is closed is so in the bytes
closes_at : (bytes : List ℕ) (b : BanksState) (o : Option ActiveBank) → IfSome o (λ a. IsLoadedAs (layout_of b.geometry b.banks) bytes a.bank a.head b.log)
    → IfSome o (λ a. is_closed b.log.tail ≡ true → (let k = bank_in (layout_in b) a.head.format a.bank in IsClosed k bytes (end_of k bytes)))
closes_at bytes b None loads = tt
closes_at bytes b (Some a) loads = loads.closed

closes_in : (o : Option ToldBytes) (b : BanksState) → IfSome o (λ x. LoadsActive x.now b) → IfSome o (λ x. ClosesActive x.now b)
closes_in None b loads = tt
closes_in (Some x) b loads = closes_at x.now b b.active loads

-- as its fields show it, w, of what is known, v
module _ {m : Making} {entry : Told} {w v : Whole} (shown : w ≡ v) (sound : Sound m entry v) {p f : FlsState} {b : BanksState} (is : p ≡ record w.parts.fls { flash = powered w.parts.fls.flash }) (same : f ≡ record p { flash = f.flash; result = f.result }) (closed : b.course ≡ None) (state : IsBanksState b) (of : IsSameFlash w.parts.banks b) where
  abbrev s : Parts
  s = w.parts

  safe : Sound m entry w
  safe = subst (Sound m entry) (sym shown) sound

  parts : IsSound m entry s w.numbers w.reserve w.ops w.off
  parts = safe.parts

  are : AreOf m b
  are = record {
    geometry = of.geometry ∙ parts.made_for.banks_geometry;
    shared = of.banks ∙ parts.made_for.shared;
    numbers = of.numbers ∙ parts.made_for.numbers;
    closed = closed;
    state = state;
  }

  abbrev pub Starts : Result (Unit {0}) StartFault → Parts → Type 0
  Starts answer t = Sound m entry (record w { parts = t; off = false }) × StartsUp answer (told_in m entry v) (clock_in m entry v) (told_at m entry t) (clock_at m entry t)

  starts : (answer : Result (Unit {0}) StartFault) (t : Parts) → IsSound m entry t w.numbers w.reserve w.ops false × StartsUp answer (told_at m entry s) (clock_at m entry s) (told_at m entry t) (clock_at m entry t) → Follows t → Wears m entry t.operations → Restarts m t → Starts answer t
  starts answer t is follows wears restarts = (record { parts = is.0; follows = follows; wears = wears; restarts = restarts }, subst (λ (x : Whole). StartsUp answer (told_in m entry x) (clock_in m entry x) (told_at m entry t) (clock_at m entry t)) shown is.1)

  -- they are as the bytes show them
  ready_follows : f.flash ≡ p.flash → IfSome p.flash.bytes (λ x. FindsActive x.now b) → IfSome p.flash.bytes (λ x. LoadsActive x.now b) → Follows (resting s f b (s.starts + 1) true s.faults)
  ready_follows flash finds loads =
      let here : f.flash.bytes ≡ s.fls.flash.bytes = ap (λ (x : Told). x.bytes) flash ∙ ap (λ (x : FlsState). x.flash.bytes) is in
      let bytes = subst (λ (o : Option ToldBytes). IfSome o (λ x. AreBytesOf b.geometry x.now)) (sym here) (subst (λ (g : Geometry). IfSome s.fls.flash.bytes (λ x. AreBytesOf g x.now)) (sym are.geometry) parts.made_for.bytes) in
      let finds' = subst (λ (x : Told). IfSome x.bytes (λ y. FindsActive y.now b)) (sym flash) finds in
      let loads' = subst (λ (x : Told). IfSome x.bytes (λ y. LoadsActive y.now b)) (sym flash) loads in
      starts_follow (resting s f b (s.starts + 1) true s.faults) (record { state = state; shut = closed; bytes = bytes; finds = finds'; loads = loads'; closes = closes_in f.flash.bytes b loads' })

  pub ready_ends : IsLoaded s.banks b → f.flash ≡ p.flash → IfSome p.flash.bytes (λ x. FindsActive x.now b) → IfSome p.flash.bytes (λ x. LoadsActive x.now b) → {n : ℕ} → n ≡ s.starts + 1 → Starts (Ok tt) (resting s f b n true s.faults)
  ready_ends loaded flash finds loads {n} more =
      let finds' = subst (λ (x : FlsState). IfSome x.flash.bytes (λ y. FindsActive y.now b)) is finds in
      let loads' = subst (λ (x : FlsState). IfSome x.flash.bytes (λ y. LoadsActive y.now b)) is loads in
      let ready = starts_are_ready m entry s w.numbers w.reserve w.ops w.off b f.result parts are (record { ready = are_ready s.banks b of loaded; finds = finds'; loads = loads' }) in
      let driver = sym (ready_driver s.fls p f is same flash) in
      subst (λ (k : ℕ). Starts (Ok tt) (resting s f b k true s.faults)) (sym more)
      (starts (Ok tt) (resting s f b (s.starts + 1) true s.faults)
      (subst (λ (x : FlsState). (let t = resting s x b (s.starts + 1) true s.faults in IsSound m entry t w.numbers w.reserve w.ops false × StartsUp (Ok tt) (told_at m entry s) (clock_at m entry s) (told_at m entry t) (clock_at m entry t))) driver ready)
      (ready_follows flash finds loads) safe.wears
      (start_few m s.operations s.started (may_come s) true (may_come (resting s f b (s.starts + 1) true s.faults)) s.starts s.faults s.faults (omega arith) safe.restarts))

  pub failed_ends : f.flash ≡ record p.flash { faults = f.flash.faults } → Rose p.flash.faults f.flash.faults → {faults : ℕ} → faults ≡ next_count s.faults → {n : ℕ} → n ≡ s.starts + 1
      → Starts (Err Fault) (resting s f b n false faults)
  failed_ends flash rose {faults} counted {n} more =
      let rose' = subst (λ (x : FlsState). Rose x.flash.faults f.flash.faults) is rose in
      let failed = starts_fail m entry s w.numbers w.reserve w.ops w.off b f.result f.flash.faults parts are rose' in
      let driver = sym (failed_driver s.fls p f is same flash) in
      let t = resting s f b (s.starts + 1) false (next_count s.faults) in
      subst (λ (k : ℕ). Starts (Err Fault) (resting s f b k false faults)) (sym more)
      (subst (λ (k : ℕ). Starts (Err Fault) (resting s f b (s.starts + 1) false k)) (sym counted)
      (starts (Err Fault) t
      (subst (λ (x : FlsState). (let t = resting s x b (s.starts + 1) false (next_count s.faults) in IsSound m entry t w.numbers w.reserve w.ops false × StartsUp (Err Fault) (told_at m entry s) (clock_at m entry s) (told_at m entry t) (clock_at m entry t))) driver failed)
      (unstarted_follows t refl) safe.wears
      (start_few m s.operations s.started (may_come s) false (may_come t) s.starts s.faults (next_count s.faults) (let few : s.faults ≤ last_count = parts.device.faults in omega (arith, few)) safe.restarts)))
