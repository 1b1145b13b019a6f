-- What the bytes of a device over banks have free, and what the open job needs of it.
use Rattle.std.specs.Prelude.{IsTrue, ◌&&◌, is_some, is_none, take, if◌then◌else◌}
use Rattle.std.specs.Option.{option_map_or}
use Rattle.std.proofs.Common.{◌≡◌, ◌≢◌, ◌⊎◌, inl, inr, ◌≤◌, ◌-◌, ℕ, Bool, true, false, List, Option, Some, None, refl, sym, ap, ◌∙◌, subst, arith}
use Rattle.nv_base.specs.Pages.{record_pages_of}
use Rattle.nv_base.specs.declared.instance.DeviceNumber.{DeviceNumber}
use Rattle.nv_base.specs.declared.job.DeviceOp.{DeviceOp}
use Rattle.nv_base.specs.declared.job.DeviceOp.TheVariants.{Read, Write, Invalidate, Erase}
use Rattle.memif.specs.Told.{Figures, Fixed, Stand, at_number, is_open, no_figures}
use Rattle.memif.specs.Calls.{is_read, pages_open, pages_needed}
use Rattle.fls_model.specs.Told.{Told, Change}
use Rattle.fee_format.specs.declared.bank_head.BankHead.{BankHead}
use Rattle.fee_image.specs.Bank.{Bank}
use Rattle.fee_image.specs.Image.{bank_in, active_of}
use Rattle.fee_image.specs.RecordList.{end_of}
use Rattle.fee_switch_laws.specs.fee_log.Log.{LogState, work_in}
use Rattle.fee_course.specs.declared.course.Course.{Course}
use Rattle.fee_switch_laws.specs.fee_switch.declared.active.ActiveBank.{ActiveBank}
use Rattle.fee_switch_laws.specs.fee_switch.Active.{active_shown}
use Rattle.fee_switch_laws.specs.Space.{free_pages}
use Rattle.fee_switch_laws.proofs.RoomPages.{mark_pages}
use Rattle.promise_device.specs.Making.{Making, banks_of}
use Rattle.promise_device.specs.Image.{free_in_bank}
use Rattle.promise_device.specs.Failures.{may_be_closed, failed_in}
use Rattle.promise_device.specs.Bridge.{free_in, free_pages as pages_shown}
use Rattle.promise_device.specs.Room.{job_pages}
use Rattle.fee_told.specs.Device.{fixed_of, told_of}
use Rattle.fee_told.specs.Figures.{figures_for, left_of}
use Rattle.fee_told.proofs.Figures.{figures_found}
use Rattle.fee_told.proofs.ToldBytes.{now_at}
use Rattle.fee_laws.specs.declared.job.FeeJob.{FeeJob}
use Rattle.fee_laws.specs.Inside.{Parts, device_of, fixed_in, mark_of, stand_of}
use Rattle.fee_laws.specs.Record.{IsLengthOf}
use Rattle.fee_laws.specs.Turn.{IsOn}
use Rattle.fee_laws.specs.Work.{fits_in, pages_of_op, work_of}
use Rattle.fee_laws.specs.Follows.{failed_of, may_be_closed_beside, FollowsBytes}
use Rattle.fee_laws.specs.FollowLaws.{RoomIsEnough}
use Rattle.fee_laws.proofs.Before.{each_now, power}
use Rattle.fee_laws.proofs.FollowKnown.{own_bank, shows_active}
use Rattle.fee_laws.proofs.FollowPages.{IsFree, few_free, has_pages, is_a_read, none_free}
use Rattle.fee_laws.proofs.FollowRoom.{free_beside, idle_work, of, own_pages, written}
use Rattle.fee_laws.proofs.WornFull.{op_some}

-- a program that may have closed the active bank is one of it
fails_in : (c : Option Course) (log : LogState) (operations : List Change) → IsTrue (may_be_closed_beside c log operations) → IsTrue (failed_of log operations)
fails_in None log operations failed = second (may_be_closed operations) (failed_of log operations) failed
  where
    second : (a b : Bool) → IsTrue (a && b) → IsTrue b
    second true b is = is
    second false b is = cc is
fails_in (Some c) log operations failed = failed

-- FIGURES
-- the most pages of a job's record
pages_few : (p length of : ℕ) (op : DeviceOp) (content : List ℕ) → 16 ≤ p → IsLengthOf op length of → pages_of_op p op length ≤ (if is_some (mark_of op content) then record_pages_of of p else 0)
pages_few p length of Read content big fits = omega arith
pages_few p length of Write content big fits = subst (λ (n : ℕ). record_pages_of length p ≤ record_pages_of n p) fits (omega arith)
pages_few p length of Invalidate content big fits = mark_pages p of big
pages_few p length of Erase content big fits = mark_pages p of big

none_of : (failed : Bool) (n : ℕ) → failed ≡ true → (if failed then 0 else n) ≡ 0
none_of true n is = refl
none_of false n is = cc is

at_most : (failed : Bool) (n : ℕ) → (if failed then 0 else n) ≤ n
at_most true n = omega arith
at_most false n = omega arith

-- What is free of a bank in the bytes lies behind the end of its log, of which memory has no less.
pub record IsShown (b : Bank) (bytes : List ℕ) (log : LogState) (free shown : ℕ) : Type 0 where
  pub is_free : IsFree b bytes log.tail free
  pub few : shown ≤ b.pages - end_of b bytes

module _ (m : Making) (entry : Told) (s : Parts) (listed : List (DeviceNumber × ℕ)) (kept count : ℕ) (on : IsOn m entry s listed kept count) (bytes : List ℕ) (follows : FollowsBytes s.banks s.content s.operations bytes) where
  abbrev fixed : Fixed
  fixed = fixed_of (device_of m entry s)

  abbrev stand : Option FeeJob → Stand
  stand o = stand_of s.content o s.last s.given

  -- THE OPEN JOB
  pub own_few : (o : Option FeeJob) → s.job ≡ o → job_pages m (stand_of s.content o s.last s.given) ≤ pages_open (fixed_of (device_of m entry s)) (stand_of s.content o s.last s.given)
  own_few None none = omega arith
  own_few (Some j) job =
      let is = of m entry s listed kept count on bytes follows j job in
      let same = own_pages m entry s listed kept count on bytes follows j job in
      let figures : at_number no_figures m.numbers (fixed_in m).figures j.number.0 ≡ figures_for m.geometry.page (fixed_in m).own is.length = figures_found m.geometry.page (fixed_in m).own m.numbers j.number.0 is.length is.configured in
      let few = pages_few s.banks.geometry.page j.length is.length j.op (take j.length s.content) on.banks.legal.page_low is.fits in
      let page : s.banks.geometry.page ≡ m.geometry.page = ap (λ g. g.page) on.sound.made_for.banks_geometry in
      let most : pages_of_op s.banks.geometry.page j.op j.length ≤ (if is_some (mark_of j.op (take j.length s.content)) then (at_number no_figures m.numbers (fixed_in m).figures j.number.0).pages else 0) =
      subst (λ (f : Figures). pages_of_op s.banks.geometry.page j.op j.length ≤ (if is_some (mark_of j.op (take j.length s.content)) then f.pages else 0)) (sym figures)
      (subst (λ (p : ℕ). pages_of_op s.banks.geometry.page j.op j.length ≤ (if is_some (mark_of j.op (take j.length s.content)) then record_pages_of is.length p else 0)) page few) in
      omega (arith, same, most)

  -- THE ACTIVE BANK
  failed_there : (a : ActiveBank) → s.banks.active ≡ Some a → IsTrue (failed_of s.banks.log s.operations) → IsTrue (failed_in m.geometry m.banks a.bank false s.operations)
  failed_there a active =
      let shape = on.banks.log.shape ∙ on.sound.made_for.banks_geometry in
      let shared = on.banks.log.shared ∙ on.sound.made_for.shared in
      let same : failed_of s.banks.log s.operations ≡ failed_in m.geometry m.banks a.bank false s.operations = (λ i. failed_in (shape i) (shared i) (own_bank m entry s listed kept count on bytes follows a active i) false s.operations) in
      λ failed. subst (λ (b : Bool). IsTrue b) same failed

  pub free_there : (a : ActiveBank) → s.banks.active ≡ Some a → (free_in m s.operations bytes (a.bank, a.head) ≡ 0) ⊎ IsShown (bank_in (banks_of m) a.head.format a.bank) bytes s.banks.log (free_pages s.banks) (free_in m s.operations bytes (a.bank, a.head))
  free_there a active =
      let b = bank_in (banks_of m) a.head.format a.bank in
      let failed = failed_in m.geometry m.banks a.bank false s.operations in
      let most = at_most failed (free_in_bank b bytes) in
      elim (free_beside m entry s listed kept count on bytes follows a active) [
        | inl closed ↦ (let zero = none_free b.pages (end_of b bytes) _ closed in inl (omega (arith, zero, most)))
        | inr (inl bad) ↦ inl (none_of failed (free_in_bank b bytes) (failed_there a active (fails_in s.banks.course s.banks.log s.operations bad)))
        | inr (inr free) ↦ (let few : free_in_bank b bytes ≤ b.pages - end_of b bytes = few_free b.pages (end_of b bytes) _ in inr (record { is_free = free; few = omega (arith, most, few) }))
      ]

  -- with no switch open it is the one that the bytes show
  module _ (shut : s.banks.course ≡ None) where
    none_shown : s.banks.active ≡ None → pages_shown m s.operations bytes ≡ 0
    none_shown none =
        let no : active_of (banks_of m) bytes ≡ None = sym (shows_active m entry s listed kept count on bytes follows shut) ∙ ap active_shown none in
        ap (λ (o : Option (ℕ × BankHead)). option_map_or (free_in m s.operations bytes) o 0) no

    some_shown : (a : ActiveBank) → s.banks.active ≡ Some a → pages_shown m s.operations bytes ≡ free_in m s.operations bytes (a.bank, a.head)
    some_shown a active =
        let its : active_of (banks_of m) bytes ≡ Some (a.bank, a.head) = sym (shows_active m entry s listed kept count on bytes follows shut) ∙ ap active_shown active in
        ap (λ (o : Option (ℕ × BankHead)). option_map_or (free_in m s.operations bytes) o 0) its

    -- THE OPEN JOB
    module _ (j : FeeJob) (job : s.job ≡ Some j) (writes : j.op ≢ Read) (room : pages_needed fixed (stand (Some j)) ≤ pages_shown m s.operations bytes) where
      abbrev pages : ℕ
      pages = pages_of_op s.banks.geometry.page j.op j.length

      few : pages ≤ pages_open fixed (stand (Some j))
      few = let most = own_few (Some j) job in let same = own_pages m entry s listed kept count on bytes follows j job in omega (arith, most, same)

      enough : (o : Option ActiveBank) → s.banks.active ≡ o → left_of (stand (Some j)) (work_of m.reserve s.banks (Some j)) ≤ pages_open fixed (stand (Some j))
      enough None none =
          let zero = none_shown none in
          let some = op_some s.banks.geometry.page j.op j.length writes in
          absurd (omega (arith, zero, some, few, room))
      enough (Some a) active =
          let same = some_shown a active in
          let some = op_some s.banks.geometry.page j.op j.length writes in
          elim (free_there a active) [
            | inl zero ↦ absurd (omega (arith, zero, same, some, few, room))
            | inr free ↦ (
                let least = free.is_free.least in
                let behind = free.few in
                let fits : work_in s.banks.log.tail ≡ None → fits_in m.reserve s.banks j ≡ true = λ idle. has_pages j.urgent pages m.reserve (free_pages s.banks)
                (let zero = idle_work m entry s listed kept count on bytes follows idle in omega (arith, zero, least, behind, same, few, room)) in
                let turns = written m entry s listed kept count on bytes follows shut j job free.is_free.paid writes fits in
                omega (arith, turns, few))
          ]

    enough_by : (o : Option FeeJob) → s.job ≡ o → is_open (stand o) ≡ true → is_read (stand o) ≡ false → pages_needed fixed (stand o) ≤ pages_shown m s.operations bytes → left_of (stand o) (work_of m.reserve s.banks o) ≤ pages_open fixed (stand o)
    enough_by None none open' other room = cc open'
    enough_by (Some j) job open' other room = elim (is_a_read j.op) [
      | inl read ↦ (let is : is_read (stand (Some j)) ≡ true = ap (λ (op : DeviceOp). is_none (mark_of op (take j.length s.content))) read in cc (is, other))
      | inr writes ↦ enough j job writes room s.banks.active refl
    ]

pub room_is_enough : RoomIsEnough
room_is_enough m entry s listed kept count on shut follows open' other =
    let d = told_of (device_of m entry s) in
    each_now s.fls.flash.bytes (λ bytes. pages_needed d.fixed d.stand ≤ pages_shown m s.operations bytes → d.left ≤ pages_open d.fixed d.stand) (λ bytes at.
    enough_by m entry s listed kept count on bytes (now_at s.fls.flash.bytes (FollowsBytes s.banks s.content s.operations) bytes at (follows on.started (power m entry s listed kept count on))) shut s.job refl open' other)
