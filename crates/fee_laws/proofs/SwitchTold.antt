-- What a device over banks tells of the turns that are left while a switch is open, by the bytes that its banks follow.
use Rattle.std.specs.Prelude.{IfSome, IsTrue, is_some, ◌*◌}
use Rattle.std.specs.Option.{option_map_or}
use Rattle.std.proofs.Common.{◌≡◌, ◌⊎◌, inl, inr, ◌<◌, ◌+◌, ℕ, Bool, true, false, List, [], Option, Some, None, refl, sym, ap, ◌∙◌, subst}
use Rattle.std.proofs.lemmas.Bool.{cases_Bool, false≢true}
use Rattle.nv_base.specs.Geometry.{pages_of_sector, sectors_of_bank}
use Rattle.nv_base.specs.declared.geometry.Geometry.{Geometry}
use Rattle.nv_base.specs.declared.instance.DeviceNumber.{DeviceNumber}
use Rattle.memif.specs.Told.{Stand}
use Rattle.fls_model.specs.Told.{Told, bytes_now}
use Rattle.fee_format.specs.BankHead.{bank_head_page}
use Rattle.fee_format.specs.Formats.{new_format}
use Rattle.fee_format.specs.Gate.{IsGate, is_gate}
use Rattle.fee_format.specs.Pages.{blank_page}
use Rattle.fee_format.specs.declared.bank_head.BankHead.{BankHead}
use Rattle.fee_image.specs.Bank.{Bank}
use Rattle.fee_image.specs.Banks.{Old, Banks, HoldsPhase, IsCopying, IsSealing, StandsBehind, AreBlank, next_head}
use Rattle.fee_image.specs.Copies.{Flag, copied_of}
use Rattle.fee_image.specs.Found.{last_held}
use Rattle.fee_image.specs.Image.{Layout, layout_of, bank_in, image_page, active_of}
use Rattle.fee_image.specs.Log.{Log}
use Rattle.fee_image.specs.May.{IsAmong, Shows}
use Rattle.fee_image.specs.Places.{erased_places, places_of}
use Rattle.fee_image.specs.RecordList.{Rec, records_of}
use Rattle.fee_image.specs.declared.place.Place.{Place}
use Rattle.fee_format.proofs.Tests.{gates_compute}
use Rattle.fee_image.proofs.Banks.{active_computes}
use Rattle.fee_image.proofs.Shows.{blank_shut, copying_shut, sealed_active}
use Rattle.fee_switch_laws.specs.fee_log.Index.{clear_flags}
use Rattle.fee_switch_laws.specs.fee_log.Log.{LogState, log_of, work_in}
use Rattle.fee_course.specs.declared.course.Course.{Course}
use Rattle.fee_course.specs.declared.course.Course.TheVariants as course
use Rattle.fee_course.specs.Course.{IsUnderWay, turns_left}
use Rattle.fee_switch_laws.specs.fee_switch.declared.active.ActiveBank.{ActiveBank}
use Rattle.fee_switch_laws.specs.fee_switch.Active.{active_shown}
use Rattle.fee_switch_laws.specs.fee_switch.Banks.{left_as}
use Rattle.fee_switch_laws.specs.Shown.{layout_in, old_shown, phase_at, phase_shown}
use Rattle.fee_switch_laws.specs.Turns.{IsGoing}
use Rattle.promise_device.specs.Making.{Making, banks_of}
use Rattle.promise_device.specs.Bridge.{failed_in, reading_of}
use Rattle.fee_told.specs.fls_told.Device.{is_told_sound}
use Rattle.fee_told.specs.Device.{told_of}
use Rattle.fee_told.specs.Figures.{OpenWork, left_of, turns_owed}
use Rattle.fee_told.specs.Slots.{Memory, banks_with, held_all, may_told, settled_in}
use Rattle.fee_told.proofs.ToldBytes.{now_at}
use Rattle.fee_laws.specs.declared.job.FeeJob.{FeeJob}
use Rattle.fee_laws.specs.Copied.{flags_of}
use Rattle.fee_laws.specs.Inside.{HasSwitch, Parts, IsActiveOf, IsAtWork, ShowsCopies, body_of, device_of, flags_in, memory_of, stand_of}
use Rattle.fee_laws.specs.Turn.{IsOn}
use Rattle.fee_laws.specs.Work.{switch_turns, work_of}
use Rattle.fee_laws.specs.Follows.{FollowsBanks, FollowsBytes, FollowsNext, FollowsTarget, IsPlacedFor, failed_of}
use Rattle.fee_laws.specs.FollowLaws.{SwitchIsTold}
use Rattle.fee_laws.specs.SwitchTold.{HasCome, HasCopied, TellsSwitch, active_failed, active_records, head_behind, job_turns}
use Rattle.fee_laws.proofs.Before.{copies_before, each_now, legal, lengths, log_banks, log_geometry, power, shape}
use Rattle.fee_laws.proofs.FollowKnown.{bank_is, follows_log, own_bank}
use Rattle.fee_laws.proofs.SwitchJob.{appended_in, few, once_owed, sum_of, turns_beside_are, urgent_by}
use Rattle.fee_laws.proofs.SwitchCopies.{copies_are, last_of, placed_hold}
use Rattle.fee_laws.proofs.WornShown.{active_is, behind_by, none_is}

-- THE DEVICE
module _ (m : Making) (entry : Told) (s : Parts) (listed : List (DeviceNumber × ℕ)) (kept count : ℕ) (on : IsOn m entry s listed kept count) (told : IsTrue (is_told_sound (reading_of m) (bytes_now entry)))
    (bytes : List ℕ) (at : bytes_now s.fls.flash ≡ Some bytes) (follows : FollowsBytes s.banks s.content s.operations bytes) (c : Course) (over : s.banks.course ≡ Some c) where
  abbrev l : Layout
  l = banks_of m

  abbrev mem : Memory
  mem = memory_of s

  abbrev stand : Option FeeJob → Stand
  stand o = stand_of s.content o s.last s.given

  at_work : IsAtWork m s
  at_work = on.sound.works on.started

  geometry : s.banks.geometry ≡ m.geometry
  geometry = on.sound.made_for.banks_geometry

  numbers : s.banks.log.numbers ≡ m.numbers
  numbers = on.sound.made_for.numbers

  layout_is : layout_in s.banks ≡ l
  layout_is = λ i. layout_of (geometry i) (on.sound.made_for.shared i)

  -- what the target may show, and the banks with it
  abbrev flags : List Flag
  flags = flags_in m s bytes

  shows : ShowsCopies m s c bytes
  shows = subst (λ (o : Option Course). IfSome o (λ x. ShowsCopies m s x bytes)) over
      (now_at s.fls.flash.bytes (λ (x : List ℕ). IfSome s.banks.course (λ y. ShowsCopies m s y x)) bytes at (copies_before m entry s listed kept count on told))

  abbrev banks : Banks
  banks = banks_with mem (may_told l m.numbers bytes mem) (copied_of flags)

  abbrev copy_body : List ℕ
  copy_body = body_of (work_in s.banks.copies.tail) s.banks.buffer

  abbrev Has : Course → Type 0
  Has x = HoldsPhase l m.numbers bytes banks (phase_at x s.banks copy_body)

  has : Has c
  has = behind_by l m.numbers bytes banks shows.held.banks (phase_at c s.banks copy_body) (ap (λ (o : Option Course). phase_shown o s.banks copy_body) over)

  next : FollowsNext s.banks c s.operations bytes
  next = subst (λ (o : Option Course). IfSome o (λ x. FollowsNext s.banks x s.operations bytes)) over follows.next

  -- THE ACTIVE BANK
  -- its records give the places, and hold what is settled; or a program of it failed
  abbrev records_at : Option (ℕ × BankHead) → List Rec
  records_at o = option_map_or (λ x. records_of (bank_in l x.1.format x.0) bytes) o []

  abbrev failed_at : Option (ℕ × BankHead) → Bool
  failed_at o = option_map_or (λ x. failed_in m.geometry m.banks x.0 false s.operations) o false

  abbrev Known : Option (ℕ × BankHead) → Type 0
  Known o = IsTrue (failed_at o) ⊎ ((s.banks.log.places ≡ places_of m.numbers (records_at o)) × (settled_in l m.numbers bytes mem.old ≡ last_of m.numbers (records_at o)))

  abbrev log_body : List ℕ
  log_body = body_of (work_in s.banks.log.tail) s.content

  old_is : (o : Option ActiveBank) → s.banks.active ≡ o → mem.old ≡ old_shown o s.banks.log log_body
  old_is o active = ap (λ (a : Option ActiveBank). old_shown a s.banks.log log_body) active

  settled_at : (o : Option ActiveBank) → s.banks.active ≡ o → settled_in l m.numbers bytes mem.old ≡ settled_in l m.numbers bytes (old_shown o s.banks.log log_body)
  settled_at o active = ap (λ (x : Old). settled_in l m.numbers bytes x) (old_is o active)

  known_none : s.banks.active ≡ None → Known None
  known_none none =
      let empty : IsActiveOf s.banks None = subst (IsActiveOf s.banks) none at_work.active in
      inr (ap (λ (x : LogState). x.places) empty ∙ ap erased_places numbers, settled_at None none)

  module _ (a : ActiveBank) (active : s.banks.active ≡ Some a) where
    abbrev b : Bank
    b = bank_in l a.head.format a.bank

    failed_is : failed_of s.banks.log s.operations ≡ failed_in m.geometry m.banks a.bank false s.operations
    failed_is = λ i. failed_in (log_geometry m entry s listed kept count on i) (log_banks m entry s listed kept count on i) (own_bank m entry s listed kept count on bytes follows a active i) false s.operations

    placed : IsPlacedFor (Some c) s.banks.log s.operations bytes
    placed = subst (λ (o : Option Course). IsPlacedFor o s.banks.log s.operations bytes) over (follows_log m entry s listed kept count on bytes follows a active).placed

    known_some : Known (Some (a.bank, a.head))
    known_some = elim placed [
      | inl failed ↦ inl (sym failed_is ∙ failed)
      | inr are ↦ (
          let places : s.banks.log.places ≡ places_of m.numbers (records_of b bytes) = are ∙ (λ i. places_of (numbers i) (records_of (bank_is m entry s listed kept count on bytes follows a active i) bytes)) in
          inr (places, settled_at (Some a) active ∙ ap (held_all b bytes m.numbers) places ∙ placed_hold b bytes (shape m entry s listed kept count on).page_low m.numbers))
    ]

  shown_by : (o : Option ActiveBank) → s.banks.active ≡ o → StandsBehind l bytes banks.old banks.target → active_of l bytes ≡ active_shown o
  shown_by None none behind = none_is l m.numbers bytes banks shows.held.banks behind (old_is None none)
  shown_by (Some a) active behind = active_is l m.numbers bytes banks shows.held.banks behind a.bank a.head (log_of s.banks.log log_body) (old_is (Some a) active)

  known_by : (o : Option ActiveBank) → s.banks.active ≡ o → Known (active_shown o)
  known_by None none = known_none none
  known_by (Some a) active = known_some a active

  -- the next head comes behind its own
  behind_old : (o : Option ActiveBank) → next_head (old_shown o s.banks.log log_body) ≡ head_behind (active_shown o)
  behind_old None = refl
  behind_old (Some a) = refl

  head_by : (o : Option ActiveBank) → s.banks.active ≡ o → StandsBehind l bytes banks.old banks.target → next_head banks.old ≡ head_behind (active_of l bytes)
  head_by o active behind = ap next_head (old_is o active) ∙ behind_old o ∙ ap head_behind (sym (shown_by o active behind))

  known : StandsBehind l bytes banks.old banks.target → Known (active_of l bytes)
  known behind = subst Known (sym (shown_by s.banks.active refl behind)) (known_by s.banks.active refl)

  -- THE SWITCH
  abbrev failed : Bool
  failed = active_failed m s.operations bytes

  abbrev records : List Rec
  records = active_records m bytes

  -- a target that is copied doesn't stand
  shut : (log : Log) → IsCopying l m.numbers bytes banks.target log banks.copied → StandsBehind l bytes banks.old banks.target
  shut log copying other stands = absurd (copying_shut l m.numbers bytes banks.target log banks.copied other (legal m entry s listed kept count on) copying stands)

  blank : (done : ℕ) → AreBlank l bytes s.banks.target (done * pages_of_sector s.banks.geometry) → AreBlank l bytes s.banks.target (done * pages_of_sector m.geometry)
  blank done are = subst (λ (g : Geometry). AreBlank l bytes s.banks.target (done * pages_of_sector g)) geometry are

  abbrev UnderWay : List Place → Course → Type 0
  UnderWay places x = IsUnderWay m.geometry.page (sectors_of_bank m.geometry m.banks) m.numbers places s.banks.log.flags x

  under_way : UnderWay s.banks.log.places c
  under_way =
      let going : IsGoing s.banks c = (subst (HasSwitch s.banks) over at_work.switch).1 in
      subst (λ (n : ℕ). IsUnderWay m.geometry.page (sectors_of_bank m.geometry n) m.numbers s.banks.log.places s.banks.log.flags c) on.sound.made_for.shared
      (subst (λ (g : Geometry). IsUnderWay g.page (sectors_of_bank g s.banks.banks) m.numbers s.banks.log.places s.banks.log.flags c) geometry
      (subst (λ (ns : List (DeviceNumber × ℕ)). IsUnderWay s.banks.geometry.page (sectors_of_bank s.banks.geometry s.banks.banks) ns s.banks.log.places s.banks.log.flags c) numbers going))

  copies : (x : Course) → StandsBehind l bytes banks.old banks.target → Shows (bank_in l new_format s.banks.target) bytes banks.copied → UnderWay s.banks.log.places x → HasCopied m failed s.banks.target x s.banks.log.flags bytes
  copies x behind held going =
      let target = records_of (bank_in l new_format s.banks.target) bytes in
      elim (known behind) [
        | inl bad ↦ inl bad
        | inr (places, settled) ↦ inr (
          copies_are 0 m.numbers s.banks.log.flags records target (lengths m entry s listed kept count on) (λ number length less.
              subst (λ (fs : List Flag). IsAmong (copied_of fs number length) (last_held number length target)) (λ i. flags_of m.numbers (places i) s.banks.log.flags (settled i)) (held number length)),
          subst (λ (ps : List Place). UnderWay ps x) places going,
        )
      ]

  -- a gate that wasn't made yet is blank
  first_gate : (again : Bool) → FollowsNext s.banks (course.Gate again) s.operations bytes → IsGate l.page (image_page l bytes s.banks.target 1) → again ≡ true
  first_gate true due gate = refl
  first_gate false due gate =
      let blank' : image_page l bytes s.banks.target 1 ≡ blank_page l.page =
      subst (λ (g : Geometry). image_page l bytes s.banks.target 1 ≡ blank_page g.page) geometry (subst (λ (x : Layout). image_page x bytes s.banks.target 1 ≡ blank_page s.banks.geometry.page) layout_is due.0) in
      absurd (blank_shut l.page (image_page l bytes s.banks.target 1) (legal m entry s listed kept count on).page blank' gate)

  sealed : (again : Bool) (log : Log) → FollowsNext s.banks (course.Gate again) s.operations bytes → IsSealing l m.numbers bytes banks log → UnderWay s.banks.log.places (course.Gate again) → HasCome m failed s.banks.target (course.Gate again) s.banks.log.flags bytes
  sealed again log due sealing going = elim (cases_Bool (is_gate l.page (image_page l bytes s.banks.target 1))) [
    | inl gate ↦ (
        let stands = (gates_compute l.page (image_page l bytes s.banks.target 1)).0 gate in
        let active = sealed_active l m.numbers bytes banks log shows.held.banks.target shows.held.banks.old shows.held.banks.behind sealing stands in
        inr (first_gate again due stands, (next_head banks.old, (active_computes l bytes s.banks.target (next_head banks.old)).0 active)))
    | inr none ↦ (
        let behind : StandsBehind l bytes banks.old banks.target = λ other stands. absurd (false≢true (sym none ∙ (gates_compute l.page (image_page l bytes s.banks.target 1)).1 stands.gate)) in
        inl (sealing.head ∙ ap (λ (h : BankHead). bank_head_page m.geometry.page h) (head_by s.banks.active refl behind), copies (course.Gate again) behind sealing.holds.shows going))
  ]

  come_by : (x : Course) → FollowsTarget s.banks x bytes → FollowsNext s.banks x s.operations bytes → Has x → UnderWay s.banks.log.places x → HasCome m failed s.banks.target x s.banks.log.flags bytes
  come_by (course.Erase done) target due erasing going = (blank done erasing.1, target.1 ∙ ap clear_flags on.sound.made_for.numbers)
  come_by (course.Copy work) target due copying going = (copying.first, copies (course.Copy work) (shut (log_of s.banks.copies copy_body) copying) copying.holds.shows going)
  come_by course.Head target due copying going = (copying.first, copies course.Head (shut (log_of s.banks.copies copy_body) copying) copying.holds.shows going)
  come_by (course.Gate again) target due sealing going = sealed again (log_of s.banks.copies copy_body) due sealing going

  abbrev turns : List Place → Option ℕ → Course → ℕ
  turns places appended x = turns_left m.geometry.page (sectors_of_bank m.geometry m.banks) m.numbers places s.banks.log.flags appended x

  turns_by : (x : Course) (appended : Option ℕ) → Has x → IsTrue failed ⊎ (turns s.banks.log.places appended x ≡ turns (places_of m.numbers records) appended x)
  turns_by (course.Erase done) appended erasing = elim (known erasing.0) [ inl bad ↦ inl bad | inr is ↦ inr (ap (λ (ps : List Place). turns ps appended (course.Erase done)) is.0) ]
  turns_by (course.Copy work) appended copying = elim (known (shut (log_of s.banks.copies copy_body) copying)) [ inl bad ↦ inl bad | inr is ↦ inr (ap (λ (ps : List Place). turns ps appended (course.Copy work)) is.0) ]
  turns_by course.Head appended copying = inr refl
  turns_by (course.Gate again) appended sealing = inr refl

  -- THE JOB
  abbrev work : OpenWork
  work = work_of m.reserve s.banks s.job

  switch_is : work.switch ≡ turns s.banks.log.places (appended_in s s.job) c
  switch_is = ap (switch_turns m.reserve s.banks s.job) over ∙ turns_beside_are s s.job ∙ ap (left_as s.banks (appended_in s s.job)) over
      ∙ (λ i. turns_left (geometry i).page (sectors_of_bank (geometry i) (on.sound.made_for.shared i)) (numbers i) s.banks.log.places s.banks.log.flags (appended_in s s.job) c)

  left : IsTrue failed ⊎ (left_of (stand s.job) work ≡ job_turns (stand s.job) work.pages (turns_owed work.owed) + turns (places_of m.numbers records) (appended_in s s.job) c)
  left = elim (turns_by c (appended_in s s.job) has) [
    | inl bad ↦ inl bad
    | inr same ↦ inr (sum_of s s.job work ∙ ap (λ (n : ℕ). job_turns (stand s.job) work.pages (turns_owed work.owed) + n) (switch_is ∙ same))
  ]

  comes : FollowsTarget s.banks c bytes
  comes = (subst (λ (o : Option Course). FollowsBanks s.banks o bytes) over follows.banks).1

  tells_switch : TellsSwitch m s.operations bytes (told_of (device_of m entry s))
  tells_switch = record {
    target = s.banks.target;
    course = c;
    copied = s.banks.log.flags;
    appended = appended_in s s.job;
    pages = work.pages;
    owed = turns_owed work.owed;
    inside = subst (λ (n : ℕ). s.banks.target < n) on.sound.made_for.shared on.banks.target;
    come = come_by c comes next has under_way;
    urgent = urgent_by m entry s listed kept count on c over s.job refl;
    few = few m entry s listed kept count on bytes follows;
    once = once_owed work.owed;
    left = left;
  }

pub switch_is_told : SwitchIsTold
switch_is_told m entry s listed kept count on open' follows told =
    each_now s.fls.flash.bytes (λ bytes. TellsSwitch m s.operations bytes (told_of (device_of m entry s))) (λ bytes at.
    by_course m entry s listed kept count on told bytes at (now_at s.fls.flash.bytes (FollowsBytes s.banks s.content s.operations) bytes at (follows on.started (power m entry s listed kept count on))) s.banks.course refl open')
  where
    by_course : (m : Making) (entry : Told) (s : Parts) (listed : List (DeviceNumber × ℕ)) (kept count : ℕ) (on : IsOn m entry s listed kept count) → IsTrue (is_told_sound (reading_of m) (bytes_now entry))
        → (bytes : List ℕ) → bytes_now s.fls.flash ≡ Some bytes → FollowsBytes s.banks s.content s.operations bytes → (o : Option Course) → s.banks.course ≡ o → is_some o ≡ true → TellsSwitch m s.operations bytes (told_of (device_of m entry s))
    by_course m entry s listed kept count on told bytes at follows None over some = cc some
    by_course m entry s listed kept count on told bytes at follows (Some c) over some = tells_switch m entry s listed kept count on told bytes at follows c over
