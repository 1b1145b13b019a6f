-- A job that was canceled: what holds then, and what the cancel did.
use Rattle.std.specs.Prelude.{IfSome, nat_le}
use Rattle.std.proofs.Common.{◌≡◌, inl, inr, ◌≤◌, ◌<◌, ℕ, Bool, true, false, List, Option, Some, None, refl, sym, ap, subst, arith}
use Rattle.nv_base.specs.Geometry.{IsLegal, sectors_of_bank}
use Rattle.nv_base.specs.declared.instance.DeviceNumber.{DeviceNumber}
use Rattle.memif.specs.Told.{Stand}
use Rattle.memif.specs.Calls.{InOrder, ClockStays, IsCanceled}
use Rattle.fls_model.specs.Told.{Told, ToldBytes}
use Rattle.fee_image.specs.Copies.{copied_of}
use Rattle.fee_switch_laws.specs.fee_log.Log.{work_in}
use Rattle.fee_course.specs.declared.course.Course.{Course}
use Rattle.fee_course.specs.Course.{most_turns}
use Rattle.fee_switch_laws.specs.fee_switch.Banks.{BanksState, IsBanksState}
use Rattle.fee_switch_laws.specs.KeepsRoom.{KeepsRoom}
use Rattle.promise_device.specs.Making.{Making, banks_of}
use Rattle.fee_told.specs.Slots.{Memory, HasJob}
use Rattle.fee_told.specs.SlotLaws.{SamePlaces}
use Rattle.fee_told.proofs.Clocks.{clocks_stay, tells_first}
use Rattle.fee_told.specs.Device.{Device, told_of, clock_of, flash_device}
use Rattle.fee_told.specs.Figures.{left_of}
use Rattle.fee_told.proofs.Kept.{same_places}
use Rattle.fee_told.proofs.Jobs.{jobs_change}
use Rattle.fee_laws.specs.declared.job.FeeJob.{FeeJob}
use Rattle.fee_laws.specs.Inside.{Parts, device_of, memory_of, stand_of, fixed_in, HoldsBehind, IsMadeFor, IsAtWork, IsSound, ShowsCopies, TellsCopies, flags_in, is_copying}
use Rattle.fee_laws.specs.Record.{IsJobOf}
use Rattle.fee_laws.specs.Work.{work_of, seal_turns, pages_free, turns_before}
use Rattle.fee_laws.specs.Parts.{canceled}
use Rattle.fee_laws.proofs.CallsBehind.{finds_now, run_stays}
use Rattle.fee_laws.proofs.Canceling.{keeps_all, behind_it, idle_job}
use Rattle.fee_laws.proofs.Making.{shown_as}
use Rattle.fee_laws.proofs.Opened.{own_small, each_some}
use Rattle.fee_laws.proofs.CallOrder.{few_before, ready_kept}
use Rattle.fee_laws.proofs.Raising.{rises, base_few, ready_calm}
use Rattle.fee_laws.proofs.Appended.{idle_at_work}
use Rattle.fee_laws.proofs.MadeFor.{still_made, legal_made}

-- THE CALL
-- with banks of the same places, where what is behind them is known
module _ (m : Making) (entry : Told) (s : Parts) (listed : List (DeviceNumber × ℕ)) (kept count : ℕ) (is_off : Bool) (sound : IsSound m entry s listed kept count is_off) (started : s.started ≡ true) (b : BanksState) (places : SamePlaces (memory_of s).old (memory_of (canceled b s)).old) (legal : IsLegal m.geometry) where
  abbrev d : Device
  d = device_of m entry s

  abbrev t : Device
  t = device_of m entry (canceled b s)

  own_is : (fixed_in m).own ≤ 20000000
  own_is = own_small m.numbers m.geometry m.banks m.reserve legal sound.made_for.space

  order : HoldsBehind t → t.left ≤ (fixed_in m).own → InOrder (told_of t) (clock_of t)
  order behind few = record {
    bounded = omega (arith, few);
    fits = omega (arith, few, own_is);
    ready = ready_kept m.reserve (pages_free b None) (nat_le 1 (seal_turns b.course));
    wait = λ calm. (turns_before b.log.tail (seal_turns b.course), refl, few_before b.log.tail b.course);
    second = λ one. refl;
    now = finds_now m entry (canceled b s) behind;
    told = tells_first (flash_device t) sound.device.run.alike;
  }

  -- what it needs beside
  pub record Ends : Type 0 where
    pub behind : HoldsBehind t
    pub made_for : IsMadeFor m (canceled b s)
    pub works : IsAtWork m (canceled b s)
    pub room : s.fls.flash.off ≡ false → KeepsRoom m.reserve b
    pub copies : TellsCopies m entry (canceled b s)
    pub shut : s.banks.course ≡ None → b.course ≡ None
    pub still : is_copying s.banks.course ≡ false → is_copying b.course ≡ false
    pub switching : (told_of t).switching ≡ (told_of d).switching
    pub few : t.left ≤ (fixed_in m).own
    pub left : t.left ≤ d.left
    pub ready : d.ready ≤ t.ready

  pub ended_sound : Ends → IsSound m entry (canceled b s) listed kept count is_off
  ended_sound e = record {
    made_for = e.made_for;
    device = record { run = run_stays m entry s b s.content None _ 0 sound.device.run; held = λ on. e.behind; order = order e.behind e.few; faults = sound.device.faults };
    rests = λ unstarted. cc (unstarted, started);
    works = λ on. e.works;
    room = λ on power. e.room power;
    copies = e.copies;
    cuts = sound.cuts;
    worn = λ since at. record { passed = (sound.worn since at).passed; shut = e.shut (sound.worn since at).shut };
    seals = λ k x many at such. e.still (sound.seals k x many at such);
    numbers = sound.numbers;
    reserve = sound.reserve;
    ops = sound.ops;
    off = sound.off;
  }

  pub ended_as : Ends → IsCanceled (told_of d) (told_of t)
  ended_as e = record { only = λ i. record (told_of t) { switching = e.switching i }; marks = keeps_all m entry s listed kept count is_off sound started b places; left = e.left; ready = e.ready }

  pub ended_stays : Ends → ClockStays (clock_of d) (told_of t) (clock_of t)
  ended_stays e = record { same = clocks_stay (flash_device d) (flash_device t) (record { reading = refl; entry = refl; operations = refl; bytes = refl }) (λ n. refl); order = order e.behind e.few }

-- WITHOUT A RECORD IN WORK
module _ (m : Making) (entry : Told) (s : Parts) (listed : List (DeviceNumber × ℕ)) (kept count : ℕ) (is_off : Bool) (sound : IsSound m entry s listed kept count is_off) (started : s.started ≡ true) (state : IsBanksState s.banks) (j : FeeJob) (job : s.job ≡ Some j) (calm : j.urgent ≡ false) (idle : work_in s.banks.log.tail ≡ None) where
  abbrev f : Device
  f = device_of m entry (canceled s.banks s)

  abbrev g : Device
  g = device_of m entry s

  works : IsAtWork m s
  works = sound.works started

  abbrev h : HoldsBehind g
  h = sound.device.held started

  fits : (stand : Stand) → HasJob m.numbers stand h.behind.old
  fits stand = elim h.idle [
    | inl same ↦ subst (λ (x : Memory). HasJob m.numbers stand x.old) (sym same) (idle_job m.numbers stand s.banks.active s.banks.log _ idle)
    | inr fit ↦ fit stand
  ]

  behind : HoldsBehind f
  behind = behind_it m entry s listed kept count is_off sound started s.banks (same_places (memory_of s).old) fits (λ on. ap (λ (x : Memory). record x { stand = (memory_of (canceled s.banks s)).stand }) (h.on on))

  of : IsJobOf m.numbers j
  of = subst (λ (o : Option FeeJob). IfSome o (IsJobOf m.numbers)) job works.job

  of_banks : IsJobOf s.banks.log.numbers j
  of_banks = subst (λ (ns : List (DeviceNumber × ℕ)). IsJobOf ns j) (sym sound.made_for.numbers) of

  some : 0 < sectors_of_bank s.banks.geometry s.banks.banks
  some = each_some s.banks.geometry s.banks.banks state.legal state.shared

  own_same : most_turns s.banks.geometry.page (sectors_of_bank s.banks.geometry s.banks.banks) s.banks.log.numbers ≡ (fixed_in m).own
  own_same = λ i. most_turns (sound.made_for.banks_geometry i).page (sectors_of_bank (sound.made_for.banks_geometry i) (sound.made_for.shared i)) (sound.made_for.numbers i)

  few : f.left ≤ (fixed_in m).own
  few = (let low = base_few m.reserve s.banks j of_banks idle works.switch some s.banks.course works.switch refl in omega (arith, low, own_same))

  left_was : g.left ≡ left_of (stand_of s.content (Some j) s.last s.given) (work_of m.reserve s.banks (Some j))
  left_was = ap (λ (o : Option FeeJob). left_of (stand_of s.content o s.last s.given) (work_of m.reserve s.banks o)) job

  less : f.left ≤ g.left
  less =
      let low = rises m.reserve s.banks j of_banks idle works.switch some s.banks.course in
      omega (arith, left_was, low)

  ready : g.ready ≤ f.ready
  ready = let was = ready_calm m.reserve s.banks s.job j job calm in omega (arith, was)

  shows : (x : ToldBytes) (c : Course) → ShowsCopies m s c x.now → ShowsCopies m (canceled s.banks s) c x.now
  shows x c was = record {
    held = jobs_change (banks_of m) m.numbers x.now (memory_of s) (copied_of (flags_in m s x.now)) (memory_of (canceled s.banks s)).stand (record { lengths = sound.made_for.space.lengths; legal = h.banks.legal; held = was.held }) (idle_job m.numbers (memory_of (canceled s.banks s)).stand s.banks.active s.banks.log _ idle);
    copy = was.copy;
  }

  pub ends : Ends m entry s listed kept count is_off sound started s.banks (same_places (memory_of s).old) (legal_made m s sound.made_for state)
  ends =
      let was = sound.made_for in
      record {
        behind = behind;
        made_for = still_made m s (canceled s.banks s) was refl was.bytes (record { geometry = refl; banks = refl; numbers = refl }) was.room (omega arith) (λ e. cc e);
        works = idle_at_work m (canceled s.banks s) idle works.active tt tt works.switch;
        room = λ on. sound.room started on;
        copies = λ on told. shown_as s.fls.flash.bytes s.banks.course (λ x c. ShowsCopies m s c x.now) (λ x c. ShowsCopies m (canceled s.banks s) c x.now) shows (sound.copies on told);
        shut = λ e. e;
        still = λ e. e;
        switching = refl;
        few = few;
        left = less;
        ready = ready;
      }
