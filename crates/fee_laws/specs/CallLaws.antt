-- Laws of the calls of a device that aren't turns.
use Rattle.std.specs.Prelude.{◌≡◌, ◌≤◌, ℕ, Bool, true, false, nat_le, List, length, take, Some, None, Ok, Err, IfSome}
use Rattle.nv_base.specs.Count.{Rose, next_count}
use Rattle.nv_base.specs.Geometry.{IsLegal}
use Rattle.nv_base.specs.declared.instance.DeviceNumber.{DeviceNumber}
use Rattle.memif.specs.declared.answer.StartFault.TheVariants.{Fault}
use Rattle.memif.specs.Calls.{StartsUp, Opens, Cancels, ClockStays}
use Rattle.fls_model.specs.Attach.{IsAttached}
use Rattle.fls_model.specs.Told.{Told}
use Rattle.fls_jobs.specs.Start.{IsIdle}
use Rattle.fls_jobs.specs.declared.answer.FlsResult.{FlsResult}
use Rattle.fee_switch_laws.specs.fee_log.Index.{clear_flags}
use Rattle.fee_switch_laws.specs.fee_log.Log.{IsLogState, work_in}
use Rattle.fee_switch_laws.specs.fee_switch.Banks.{BanksState, IsBanksState, IsMade, FindsActive, LoadsActive}
use Rattle.fee_switch_laws.specs.Space.{HasSpace, free_pages}
use Rattle.promise_device.specs.Making.{Making}
use Rattle.fee_told.specs.Device.{told_of, clock_of}
use Rattle.fee_told.specs.Figures.{ready_of}
use Rattle.fee_laws.specs.declared.job.FeeJob.{FeeJob}
use Rattle.fee_laws.specs.Inside.{Parts, device_of, mark_of, IsSound, IsActiveOf}
use Rattle.fee_laws.specs.Record.{IsJobOf}
use Rattle.fee_laws.specs.Work.{pages_of_op, seal_turns}
use Rattle.fee_laws.specs.Made.{IsMadeOf}
use Rattle.fee_laws.specs.Parts.{fresh, with_plan, started_with, opened, without_work, canceled}

-- MAKING
-- over a flash that is attached, with banks that were made
pub record IsNew (m : Making) (entry : Told) (s : Parts) : Type 0 where
  pub legal : IsLegal m.geometry
  pub space : HasSpace m.numbers m.geometry m.banks m.reserve
  pub attached : IsAttached m.geometry entry s.fls.flash
  pub banks : IsMade s.banks m.geometry m.banks m.numbers
  pub geometry : s.fls.geometry ≡ m.geometry
  pub idle : IsIdle s.fls
  pub room : length s.content ≡ 4096

abbrev pub NewIsSound : Type 0
NewIsSound =
    (m : Making) (entry : Told) (s : Parts) → IsNew m entry s
    → IsSound m entry (fresh s) m.numbers m.reserve 0 false × IsMadeOf m entry (device_of m entry (fresh s))

-- A PLAN OF A POWER CUT
abbrev pub PlansAreSound : Type 0
PlansAreSound =
    (nth keep : ℕ) (m : Making) (entry : Told) (s : Parts) (listed : List (DeviceNumber × ℕ)) (kept count : ℕ) (is_off : Bool)
    → IsSound m entry s listed kept count is_off
    → IsSound m entry (with_plan nth keep s) listed kept count is_off
    × ClockStays (clock_of (device_of m entry s)) (told_of (device_of m entry (with_plan nth keep s))) (clock_of (device_of m entry (with_plan nth keep s)))

-- A START-UP
-- what the banks are behind it
pub record AreOf (m : Making) (b : BanksState) : Type 0 where
  pub geometry : b.geometry ≡ m.geometry
  pub shared : b.banks ≡ m.banks
  pub numbers : b.log.numbers ≡ m.numbers
  pub closed : b.course ≡ None
  pub state : IsBanksState b

-- and where it answers Ready, of a flash that told this
pub record AreReady (b : BanksState) : Type 0 where
  pub active : IsActiveOf b b.active
  pub clear : b.log.flags ≡ clear_flags b.log.numbers
  pub idle : work_in b.log.tail ≡ None

pub record AreLoaded (told : Told) (b : BanksState) : Type 0 where
  pub ready : AreReady b
  pub finds : IfSome told.bytes (λ x. FindsActive x.now b)
  pub loads : IfSome told.bytes (λ x. LoadsActive x.now b)

abbrev pub StartsAreReady : Type 0
StartsAreReady =
    (m : Making) (entry : Told) (s : Parts) (listed : List (DeviceNumber × ℕ)) (kept count : ℕ) (is_off : Bool) (b : BanksState) (result : FlsResult)
    → IsSound m entry s listed kept count is_off → AreOf m b → AreLoaded s.fls.flash b
    → let t = started_with s b result s.fls.flash.faults true s.faults in
    IsSound m entry t listed kept count false
    × StartsUp (Ok tt) (told_of (device_of m entry s)) (clock_of (device_of m entry s)) (told_of (device_of m entry t)) (clock_of (device_of m entry t))

abbrev pub StartsFail : Type 0
StartsFail =
    (m : Making) (entry : Told) (s : Parts) (listed : List (DeviceNumber × ℕ)) (kept count : ℕ) (is_off : Bool) (b : BanksState) (result : FlsResult) (faults : ℕ)
    → IsSound m entry s listed kept count is_off → AreOf m b → Rose s.fls.flash.faults faults
    → let t = started_with s b result faults false (next_count s.faults) in
    IsSound m entry t listed kept count false
    × StartsUp (Err Fault) (told_of (device_of m entry s)) (clock_of (device_of m entry s)) (told_of (device_of m entry t)) (clock_of (device_of m entry t))

-- THE START OF A JOB
-- it is promised to end soon exactly where it is urgent, and ready
pub record IsPromised (m : Making) (b : BanksState) (j : FeeJob) : Type 0 where
  pub ready : j.promised ≡ true → pages_of_op b.geometry.page j.op j.length ≤ ready_of m.reserve (nat_le 1 (seal_turns b.course)) (free_pages b)
  pub urgent : j.urgent ≡ true → pages_of_op b.geometry.page j.op j.length ≤ ready_of m.reserve (nat_le 1 (seal_turns b.course)) (free_pages b) → j.promised ≡ true

-- where a started device has none open, a job of a configured number may open
pub record MayOpen (m : Making) (s : Parts) (j : FeeJob) (content : List ℕ) : Type 0 where
  pub banks : IsBanksState s.banks
  pub log : IsLogState s.banks.log
  pub started : s.started ≡ true
  pub shut : s.job ≡ None
  pub job : IsJobOf m.numbers j
  pub size : j.length ≤ 4096
  pub room : length content ≡ 4096
  pub promised : IsPromised m s.banks j

abbrev pub JobsOpen : Type 0
JobsOpen =
    (m : Making) (entry : Told) (s : Parts) (listed : List (DeviceNumber × ℕ)) (kept count : ℕ) (is_off : Bool) (j : FeeJob) (content : List ℕ)
    → IsSound m entry s listed kept count is_off → MayOpen m s j content
    → let t = opened j content s in
    IsSound m entry t listed kept count is_off
    × Opens (record { number = j.number.0; mark = mark_of j.op (take j.length content); urgent = j.urgent }) (told_of (device_of m entry s)) (told_of (device_of m entry t))
    × ClockStays (clock_of (device_of m entry s)) (told_of (device_of m entry t)) (clock_of (device_of m entry t))

-- ITS CANCEL
-- one is open that isn't urgent
pub record MayCancel (s : Parts) (j : FeeJob) : Type 0 where
  pub banks : IsBanksState s.banks
  pub job : s.job ≡ Some j
  pub calm : j.urgent ≡ false

-- also while a switch is open, or a power cut stands
abbrev pub JobsCancel : Type 0
JobsCancel =
    (m : Making) (entry : Told) (s : Parts) (listed : List (DeviceNumber × ℕ)) (kept count : ℕ) (is_off : Bool) (j : FeeJob)
    → IsSound m entry s listed kept count is_off → MayCancel s j
    → let t = canceled (without_work s.banks) s in
    IsSound m entry t listed kept count is_off
    × Cancels (told_of (device_of m entry s)) (clock_of (device_of m entry s)) (told_of (device_of m entry t)) (clock_of (device_of m entry t))

-- with none open nothing happens
abbrev pub NoneCancels : Type 0
NoneCancels =
    (m : Making) (entry : Told) (s : Parts) (listed : List (DeviceNumber × ℕ)) (kept count : ℕ) (is_off : Bool)
    → IsSound m entry s listed kept count is_off → s.job ≡ None
    → Cancels (told_of (device_of m entry s)) (clock_of (device_of m entry s)) (told_of (device_of m entry s)) (clock_of (device_of m entry s))
