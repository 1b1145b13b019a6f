-- What the bytes of a device over banks have free is ready for urgent writes, as far as it is kept.
use Rattle.std.specs.Prelude.{IsTrue, ◌&&◌, is_some, min, nat_le, take, if◌then◌else◌}
use Rattle.std.specs.Option.{option_map_or}
use Rattle.std.proofs.Common.{◌≡◌, ◌⊎◌, inl, inr, ◌≤◌, ◌+◌, ℕ, Bool, true, false, List, Option, Some, None, refl, ap, ◌∙◌, arith}
use Rattle.nv_base.specs.declared.instance.DeviceNumber.{DeviceNumber}
use Rattle.memif.specs.Told.{Stand}
use Rattle.memif.specs.Calls.{pages_open, pages_urgent}
use Rattle.fls_model.specs.Told.{Told, bytes_now}
use Rattle.fee_format.specs.declared.bank_head.BankHead.{BankHead}
use Rattle.fee_image.specs.Image.{Layout, bank_in}
use Rattle.fee_image.specs.Banks.{Banks, Idle, StandsBehind}
use Rattle.fee_image.proofs.Shows.{copying_shut}
use Rattle.fee_switch_laws.specs.fee_log.Log.{work_in, log_of, pages_with}
use Rattle.fee_course.specs.declared.course.Course.{Course}
use Rattle.fee_course.specs.declared.course.Course.TheVariants as course
use Rattle.fee_switch_laws.specs.fee_switch.declared.active.ActiveBank.{ActiveBank}
use Rattle.fee_switch_laws.specs.Shown.{old_shown, phase_shown}
use Rattle.promise_device.specs.Making.{Making, banks_of}
use Rattle.promise_device.specs.Bridge.{free_in, free_pages as pages_shown, reading_of}
use Rattle.fee_told.specs.fls_told.Device.{is_told_sound}
use Rattle.fee_told.specs.Device.{fixed_of, told_of}
use Rattle.fee_told.specs.Figures.{ready_of}
use Rattle.fee_told.specs.Slots.{banks_with, may_told}
use Rattle.fee_told.specs.SlotLaws.{IsHeld}
use Rattle.fee_told.proofs.ToldBytes.{now_at}
use Rattle.fee_laws.specs.declared.job.FeeJob.{FeeJob}
use Rattle.fee_laws.specs.Inside.{Parts, body_of, device_of, mark_of, memory_of, stand_of}
use Rattle.fee_laws.specs.Turn.{IsOn}
use Rattle.fee_laws.specs.Work.{pages_free, pages_of_op, seal_turns, claimed, takes_append, is_waiting, fits_in, is_urgent_job}
use Rattle.fee_laws.specs.Follows.{FollowsBytes}
use Rattle.fee_laws.specs.FollowLaws.{FreeIsReady}
use Rattle.fee_laws.proofs.Before.{copied, each_now, held_before, legal, power}
use Rattle.fee_laws.proofs.FollowFree.{free_there, own_few}
use Rattle.fee_laws.proofs.FollowRoom.{claims}
use Rattle.fee_laws.proofs.Order.{urgent_is}
use Rattle.fee_laws.proofs.WornShown.{active_is, behind_by, none_is}
use Rattle.fee_switch_laws.specs.Space.{free_pages}
use Rattle.fee_format.specs.declared.rec_head.RecHead.{RecHead}

-- the target is being sealed, or it isn't
is_sealing : (c : Option Course) → (nat_le 1 (seal_turns c) ≡ true) ⊎ (nat_le 1 (seal_turns c) ≡ false)
is_sealing None = inr refl
is_sealing (Some (course.Erase done)) = inr refl
is_sealing (Some (course.Copy work)) = inr refl
is_sealing (Some course.Head) = inl refl
is_sealing (Some (course.Gate failed)) = inl refl

-- a job that isn't urgent claims no pages
none_begins : (a b c d : Bool) → b ≡ false → a && b && c && d ≡ false
none_begins true b c d is = ap (λ (x : Bool). x && c && d) is
none_begins false b c d is = refl

module _ (m : Making) (entry : Told) (s : Parts) (listed : List (DeviceNumber × ℕ)) (kept count : ℕ) (on : IsOn m entry s listed kept count) (told : IsTrue (is_told_sound (reading_of m) (bytes_now entry)))
    (bytes : List ℕ) (at : bytes_now s.fls.flash ≡ Some bytes) (follows : FollowsBytes s.banks s.content s.operations bytes) where
  abbrev l : Layout
  l = banks_of m

  abbrev body : List ℕ
  body = body_of (work_in s.banks.log.tail) s.content

  abbrev stand : Stand
  stand = stand_of s.content s.job s.last s.given

  held : IsHeld l m.numbers bytes (memory_of s) (copied m entry s listed kept count on)
  held = held_before m entry s listed kept count on bytes at told

  abbrev banks : Banks
  banks = banks_with (memory_of s) (may_told l m.numbers bytes (memory_of s)) (copied m entry s listed kept count on)

  -- THE ACTIVE BANK
  -- while it isn't sealed the target stands behind the active bank, if it stands
  behind_at : (c : Option Course) → s.banks.course ≡ c → nat_le 1 (seal_turns c) ≡ false → StandsBehind l bytes banks.old banks.target
  behind_at None shut open' = behind_by l m.numbers bytes banks held.banks Idle (ap (λ (c : Option Course). phase_shown c s.banks (body_of (work_in s.banks.copies.tail) s.banks.buffer)) shut)
  behind_at (Some (course.Erase done)) is open' = (behind_by l m.numbers bytes banks held.banks _ (ap (λ (c : Option Course). phase_shown c s.banks (body_of (work_in s.banks.copies.tail) s.banks.buffer)) is)).0
  behind_at (Some (course.Copy work)) is open' = λ other stands. absurd (copying_shut l m.numbers bytes banks.target _ banks.copied other (legal m entry s listed kept count on)
      (behind_by l m.numbers bytes banks held.banks _ (ap (λ (c : Option Course). phase_shown c s.banks (body_of (work_in s.banks.copies.tail) s.banks.buffer)) is)) stands)
  behind_at (Some course.Head) is open' = cc open'
  behind_at (Some (course.Gate failed)) is open' = cc open'

  -- WHAT IS READY
  abbrev ready : ℕ
  ready = ready_of m.reserve (nat_le 1 (seal_turns s.banks.course)) (pages_free s.banks s.job)

  abbrev beside : ℕ
  beside = pages_urgent (fixed_of (device_of m entry s)) stand

  abbrev shown : ℕ × BankHead → ℕ
  shown x = free_in m s.operations bytes x

  -- what is claimed, and the record in work, are an urgent job's; or nothing is claimed, and no record is in work beside which
  -- the pages that are kept aren't free
  abbrev Hidden : Option FeeJob → Type 0
  Hidden o =
      (claimed s.banks o + pages_with m.geometry.page (work_in s.banks.log.tail) ≤ pages_urgent (fixed_of (device_of m entry s)) (stand_of s.content o s.last s.given))
      ⊎ ((claimed s.banks o ≡ 0) × ((pages_with m.geometry.page (work_in s.banks.log.tail) ≡ 0) ⊎ (m.reserve ≤ free_pages s.banks)))

  beside_by : (h : Option RecHead) → work_in s.banks.log.tail ≡ h → is_urgent_job s.job ≡ false → (pages_with m.geometry.page (work_in s.banks.log.tail) ≡ 0) ⊎ (m.reserve ≤ free_pages s.banks)
  beside_by None idle calm = inl (ap (pages_with m.geometry.page) idle)
  beside_by (Some h) work calm = inr ((on.sound.works on.started).kept (ap (λ (o : Option RecHead). is_some o) work) calm)

  hidden_by : (j : FeeJob) → s.job ≡ Some j → (u : Bool) → j.urgent ≡ u → Hidden (Some j)
  hidden_by j job true urgent =
      let its = claims m entry s listed kept count on bytes follows (Some j) job in
      let own = own_few m entry s listed kept count on bytes follows (Some j) job in
      let all = ap (λ (u : Bool). if u then pages_open (fixed_of (device_of m entry s)) (stand_of s.content (Some j) s.last s.given) else 0)
      (urgent_is m (record { number = j.number.0; mark = mark_of j.op (take j.length s.content); urgent = j.urgent }) ∙ urgent) in
      inl (omega (arith, its, own, all))
  hidden_by j job false calm = inr (
    ap (λ (x : Bool). if x then pages_of_op s.banks.geometry.page j.op j.length else 0) (none_begins (takes_append s.banks.course) j.urgent (is_waiting s.banks j) (fits_in 0 s.banks j) calm),
    beside_by (work_in s.banks.log.tail) refl (ap is_urgent_job job ∙ calm),
  )

  hidden : (o : Option FeeJob) → s.job ≡ o → Hidden o
  hidden None none = inr (refl, beside_by (work_in s.banks.log.tail) refl (ap is_urgent_job none))
  hidden (Some j) job = hidden_by j job j.urgent refl

  in_bank : (a : ActiveBank) → s.banks.active ≡ Some a → nat_le 1 (seal_turns s.banks.course) ≡ false → min m.reserve (shown (a.bank, a.head)) ≤ ready + beside
  in_bank a active open' =
      let b = bank_in l a.head.format a.bank in
      let is : ready ≡ min m.reserve (pages_free s.banks s.job) = ap (λ (t : Bool). ready_of m.reserve t (pages_free s.banks s.job)) open' in
      elim (free_there m entry s listed kept count on bytes follows a active) [
        | inl zero ↦ omega (arith, zero)
        | inr free ↦ (
            let least = free.is_free.least in
            let few = free.few in
            let same : pages_with b.page (work_in s.banks.log.tail) ≡ pages_with m.geometry.page (work_in s.banks.log.tail) = refl in
            elim (hidden s.job refl) [
              | inl its ↦ omega (arith, is, least, few, its, same)
              | inr (none, inl idle) ↦ omega (arith, is, least, few, none, idle, same)
              | inr (none, inr enough) ↦ omega (arith, is, none, enough)
            ])
      ]

  found_by : (o : Option ActiveBank) → s.banks.active ≡ o → nat_le 1 (seal_turns s.banks.course) ≡ false → min m.reserve (pages_shown m s.operations bytes) ≤ ready + beside
  found_by None none open' =
      let no = none_is l m.numbers bytes banks held.banks (behind_at s.banks.course refl open') (ap (λ (o : Option ActiveBank). old_shown o s.banks.log body) none) in
      let zero : pages_shown m s.operations bytes ≡ 0 = ap (λ (o : Option (ℕ × BankHead)). option_map_or shown o 0) no in
      omega (arith, zero)
  found_by (Some a) active open' =
      let its = active_is l m.numbers bytes banks held.banks (behind_at s.banks.course refl open') a.bank a.head (log_of s.banks.log body) (ap (λ (o : Option ActiveBank). old_shown o s.banks.log body) active) in
      let same : pages_shown m s.operations bytes ≡ shown (a.bank, a.head) = ap (λ (o : Option (ℕ × BankHead)). option_map_or shown o 0) its in
      let few = in_bank a active open' in
      omega (arith, same, few)

  is_ready : min m.reserve (pages_shown m s.operations bytes) ≤ ready + beside
  is_ready = elim (is_sealing s.banks.course) [
    | inl seals ↦ (let all : ready ≡ m.reserve = ap (λ (t : Bool). ready_of m.reserve t (pages_free s.banks s.job)) seals in omega (arith, all))
    | inr open' ↦ found_by s.banks.active refl open'
  ]

pub free_is_ready : FreeIsReady
free_is_ready m entry s listed kept count on follows told =
    let d = told_of (device_of m entry s) in
    each_now s.fls.flash.bytes (λ bytes. min m.reserve (pages_shown m s.operations bytes) ≤ d.ready + pages_urgent d.fixed d.stand) (λ bytes at.
    is_ready m entry s listed kept count on told bytes at (now_at s.fls.flash.bytes (FollowsBytes s.banks s.content s.operations) bytes at (follows on.started (power m entry s listed kept count on))))
