-- What a device over banks tells of its room and its turns, by the bytes that its banks follow.
use Rattle.std.specs.Prelude.{IfSome, IsTrue, [], ◌&&◌, not, is_some, min, nat_le, take, if◌then◌else◌}
use Rattle.std.specs.Option.{option_map_or}
use Rattle.std.proofs.Common.{◌≡◌, ◌≢◌, ◌⊎◌, inl, inr, ◌≤◌, ◌+◌, ◌-◌, ℕ, Bool, true, false, List, Option, Some, None, refl, sym, ap, ◌∙◌, subst, arith}
use Rattle.nv_base.specs.Geometry.{sectors_of_bank}
use Rattle.nv_base.specs.declared.geometry.Geometry.{Geometry}
use Rattle.nv_base.specs.declared.instance.DeviceNumber.{DeviceNumber}
use Rattle.nv_base.specs.declared.job.DeviceOp.{DeviceOp}
use Rattle.nv_base.specs.declared.job.DeviceOp.TheVariants.{Read}
use Rattle.memif.specs.Told.{Stand, is_open}
use Rattle.memif.specs.Calls.{is_read}
use Rattle.fls_model.specs.Told.{Told}
use Rattle.fee_format.specs.declared.bank_head.BankHead.{BankHead}
use Rattle.fee_format.specs.declared.rec_head.RecHead.{RecHead}
use Rattle.fee_image.specs.Bank.{Bank}
use Rattle.fee_image.specs.Image.{bank_in}
use Rattle.fee_image.specs.Places.{places_of}
use Rattle.fee_image.specs.RecordList.{Rec, IsClosed, records_of, end_of, pages_of_head}
use Rattle.fee_switch_laws.specs.fee_log.declared.tail.Tail.{Tail}
use Rattle.fee_switch_laws.specs.fee_log.Log.{LogState, bank_of, work_in, is_closed, free_in, pages_with}
use Rattle.fee_switch_laws.specs.fee_switch.declared.active.ActiveBank.{ActiveBank}
use Rattle.fee_switch_laws.specs.fee_switch.Active.{active_shown}
use Rattle.fee_course.specs.declared.course.Course.TheVariants as course
use Rattle.fee_switch_laws.specs.fee_switch.Banks.{begun_again, left_of as switch_left}
use Rattle.fee_switch_laws.specs.Space.{free_pages}
use Rattle.promise_device.specs.Making.{Making, banks_of}
use Rattle.promise_device.specs.Image.{free_in_bank, is_closed_bank}
use Rattle.promise_device.specs.Bridge.{may_be_closed}
use Rattle.promise_device.specs.Room.{mark_pages, job_pages, pages_needed, turns_with_room, copies_due, switch_due, gate_due, TellsRoom, TellsRoomOf, TellsWork}
use Rattle.promise_device.proofs.Readings.{closed_banks_compute}
use Rattle.fee_told.specs.Device.{told_of}
use Rattle.fee_told.specs.Figures.{ready_of, left_of, turns_of, turns_owed}
use Rattle.fee_told.proofs.ToldBytes.{now_at}
use Rattle.fee_laws.specs.declared.job.FeeJob.{FeeJob}
use Rattle.fee_laws.specs.Inside.{Parts, body_of, device_of, mark_of, stand_of, IsActiveOf, IsAtWork}
use Rattle.fee_laws.specs.Record.{IsJobOf, IsInWork, head_of}
use Rattle.fee_laws.specs.Turn.{IsOn}
use Rattle.fee_laws.specs.Work.{pages_of_op, pages_left, pages_free, is_owed, is_waiting, fits_in, needs_switch, begins_next, claimed, takes_append, switch_turns, work_of, seal_turns}
use Rattle.fee_laws.specs.Follows.{anything, FollowsBytes, may_be_closed_beside}
use Rattle.fee_laws.specs.FollowLaws.{RoomIsTold}
use Rattle.fee_laws.proofs.Appended.{pages_few}
use Rattle.fee_laws.proofs.Before.{each_now, power}
use Rattle.fee_laws.proofs.CallsBehind.{no_work}
use Rattle.fee_laws.proofs.FollowDue.{copies_of, begins_with}
use Rattle.fee_laws.proofs.FollowKnown.{test, follows_log, bank_is, closed_beside, may_by, free_is, shows_active}
use Rattle.fee_laws.proofs.FollowPages.{IsFree, most_free, least_free, few_free, none_free, job_is, is_a_read, turns_marked, op_read, none_is, turns_written, not_third, not_second, none_by, at_most, has_pages}
use Rattle.fee_laws.proofs.Shown.{pages_by}
use Rattle.fee_laws.proofs.SwitchBegun.{seal_is}
use Rattle.fee_laws.proofs.WornFull.{op_some}

module _ (m : Making) (entry : Told) (s : Parts) (listed : List (DeviceNumber × ℕ)) (kept count : ℕ) (on : IsOn m entry s listed kept count) (bytes : List ℕ) (follows : FollowsBytes s.banks s.content s.operations bytes) where
  abbrev stand : Option FeeJob → Stand
  stand o = stand_of s.content o s.last s.given

  abbrev t : Tail
  t = s.banks.log.tail

  -- a program failed that may have closed the active bank, with no switch open
  abbrev failed : Bool
  failed = may_be_closed s.operations

  at_work : IsAtWork m s
  at_work = on.sound.works on.started

  shape : s.banks.geometry ≡ m.geometry
  shape = on.sound.made_for.banks_geometry

  pub idle_work : work_in t ≡ None → pages_with m.geometry.page (work_in t) ≡ 0
  idle_work idle = ap (pages_with m.geometry.page) idle

  module _ (j : FeeJob) (job : s.job ≡ Some j) where
    abbrev p : ℕ
    p = s.banks.geometry.page

    pub of : IsJobOf m.numbers j
    of = subst (λ (o : Option FeeJob). IfSome o (IsJobOf m.numbers)) job at_work.job

    pub own_pages : job_pages m (stand (Some j)) ≡ pages_of_op p j.op j.length
    own_pages = job_is m j.number.0 j.length of.length j.op (take j.length s.content) of.configured of.fits ∙ ap (λ (g : Geometry). pages_of_op g.page j.op j.length) (sym shape)

    in_work : (h : RecHead) → work_in t ≡ Some h → IsInWork s.banks (Some j) h
    in_work h work = subst (λ (o : Option FeeJob). IsInWork s.banks o h) job (subst (λ (o : Option RecHead). IfSome o (IsInWork s.banks s.job)) work at_work.work)

    -- the record in work is its own
    work_pages : (h : RecHead) → work_in t ≡ Some h → pages_of_head p h ≡ pages_of_op p j.op j.length
    work_pages h work =
        let is = in_work h work in
        let its : IsJobOf m.numbers is.of = subst (λ (o : Option FeeJob). IfSome o (IsJobOf m.numbers)) (job ∙ is.is_open) at_work.job in
        let same : is.of ≡ j = (let e = is.is_open in cc e) in
        ap (pages_of_head p) is.head ∙ pages_by p is.of.op h.kind is.of.number is.of.length its.length (head_of s.banks.log h.kind is.of).count is.writes its.fits ∙ ap (λ (x : FeeJob). pages_of_op p x.op x.length) same

    waits_none : (h : RecHead) → work_in t ≡ Some h → is_waiting s.banks j ≡ false
    waits_none h work = not_second (nat_le 1 (pages_of_op p j.op j.length)) (not (is_some (work_in t))) (ap (λ (o : Option RecHead). not (is_some o)) work)

    claims_by : (o : Option RecHead) → work_in t ≡ o → claimed s.banks (Some j) + pages_with p o ≤ pages_of_op p j.op j.length
    claims_by None idle = (let few = at_most (begins_next s.banks j) (pages_of_op p j.op j.length) in omega (arith, few))
    claims_by (Some h) work =
        let none : claimed s.banks (Some j) ≡ 0 = none_by (begins_next s.banks j) (pages_of_op p j.op j.length) (not_third (takes_append s.banks.course) j.urgent (is_waiting s.banks j) (fits_in 0 s.banks j) (waits_none h work)) in
        let same = work_pages h work in
        omega (arith, none, same)

  -- WITHOUT ROOM IN THE BYTES
  -- what is claimed, and the record in work, are the open job's
  pub claims : (o : Option FeeJob) → s.job ≡ o → claimed s.banks o + pages_with m.geometry.page (work_in t) ≤ job_pages m (stand o)
  claims None none = (let idle = no_work s.banks s.job (work_in t) none at_work.work in let zero = idle_work idle in omega (arith, zero))
  claims (Some j) job =
      let own = own_pages j job in
      let few = claims_by j job (work_in t) refl in
      let same : pages_with m.geometry.page (work_in t) ≡ pages_with s.banks.geometry.page (work_in t) = ap (λ (g : Geometry). pages_with g.page (work_in t)) (sym shape) in
      omega (arith, own, few, same)

  module _ (a : ActiveBank) (active : s.banks.active ≡ Some a) where
    abbrev b : Bank
    b = bank_in (banks_of m) a.head.format a.bank

    -- where the bank isn't closed in the bytes, and no operation failed
    abbrev Shut : Type 0
    Shut = is_closed_bank b bytes (end_of b bytes) ≡ true

    low : 16 ≤ s.banks.log.geometry.page
    low = subst (λ (g : Geometry). 16 ≤ g.page) (sym on.banks.log.shape) on.banks.legal.page_low

    high : free_pages s.banks ≤ b.pages - end_of b bytes
    high =
        let held = (follows_log m entry s listed kept count on bytes follows a active).holds.holds in
        let most = most_free (bank_of s.banks.log) bytes anything low s.banks.log.end (body_of (work_in t) s.content) held.high t held.tail in
        let here : free_in s.banks.log ≤ b.pages - end_of b bytes = subst (λ (x : Bank). free_in s.banks.log ≤ x.pages - end_of x bytes) (bank_is m entry s listed kept count on bytes follows a active) most in
        let same = free_is m entry s listed kept count on bytes follows a active in
        omega (arith, here, same)

    -- a program that may have closed it failed
    abbrev Failed : Type 0
    Failed = IsTrue (may_be_closed_beside s.banks.course s.banks.log s.operations)

    pub free_beside : Shut ⊎ (Failed ⊎ IsFree b bytes t (free_pages s.banks))
    free_beside = elim (test (is_closed t)) [
      | inl closed ↦ (elim (closed_beside m entry s listed kept count on bytes follows a active closed) [
        | inl is ↦ inl ((closed_banks_compute b bytes (end_of b bytes)).1 is)
        | inr bad ↦ inr (inl bad)
      ])
      | inr wide ↦ (
          let held = (follows_log m entry s listed kept count on bytes follows a active).holds.holds in
          let least = least_free (bank_of s.banks.log) bytes anything low s.banks.log.end (body_of (work_in t) s.content) held.high t held.tail wide in
          let here = subst (λ (x : Bank). IsClosed x bytes (end_of x bytes) ⊎ IsFree x bytes t (free_in s.banks.log)) (bank_is m entry s listed kept count on bytes follows a active) least in
          elim here [
            | inl is ↦ inl ((closed_banks_compute b bytes (end_of b bytes)).1 is)
            | inr free ↦ inr (inr (subst (IsFree b bytes t) (sym (free_is m entry s listed kept count on bytes follows a active)) free))
          ])
    ]

    few : free_in_bank b bytes ≤ b.pages - end_of b bytes
    few = few_free b.pages (end_of b bytes) (is_closed_bank b bytes (end_of b bytes))

    none_in : Shut → free_in_bank b bytes ≡ 0
    none_in is = none_free b.pages (end_of b bytes) (is_closed_bank b bytes (end_of b bytes)) is

  -- WITH NO SWITCH OPEN
  module _ (shut : s.banks.course ≡ None) where
    -- no switch is needed
    no_turns : (o : Option FeeJob) → needs_switch m.reserve s.banks o ≡ false → switch_turns m.reserve s.banks o s.banks.course ≡ 0
    no_turns o none = ap (switch_turns m.reserve s.banks o) shut ∙ none_by (needs_switch m.reserve s.banks o) _ none

    none_left : s.job ≡ None → left_of (stand None) (work_of m.reserve s.banks None) ≡ 0
    none_left none = no_turns None refl

    module _ (j : FeeJob) (job : s.job ≡ Some j) where
      -- a read takes one turn
      read_turns : j.op ≡ Read → turns_with_room m (stand (Some j)) ≡ 1
      read_turns read = ap (λ (op : DeviceOp). option_map_or (mark_pages m j.number.0) (mark_of op (take j.length s.content)) 1) read

      -- and another job those of its record's pages, of which no more are left
      own_turns : j.op ≢ Read → turns_with_room m (stand (Some j)) ≡ job_pages m (stand (Some j))
      own_turns writes = turns_marked m j.number.0 (mark_of j.op (take j.length s.content)) (λ none. writes (op_read j.op (take j.length s.content) none))

      own_left : pages_left (p j job) (pages_of_op (p j job) j.op j.length) t ≤ pages_of_op (p j job) j.op j.length
      own_left = pages_few (p j job) (pages_of_op (p j job) j.op j.length) t (λ r some. (let same = work_pages j job r some in omega (arith, same)))

      reads : j.op ≡ Read → left_of (stand (Some j)) (work_of m.reserve s.banks (Some j)) ≡ 1
      reads read =
          let no_pages : pages_of_op (p j job) j.op j.length ≡ 0 = ap (λ (op : DeviceOp). pages_of_op (p j job) op j.length) read in
          let no_record : nat_le 1 (pages_of_op (p j job) j.op j.length) ≡ false = ap (nat_le 1) no_pages in
          let none : needs_switch m.reserve s.banks (Some j) ≡ false = ap (λ (x : Bool). (x && not (is_some (work_in t))) && not (fits_in m.reserve s.banks j)) no_record in
          let zero = no_turns (Some j) none in
          let one : turns_of (mark_of j.op (take j.length s.content)) (work_of m.reserve s.banks (Some j)) ≡ 1 = ap (λ (op : DeviceOp). turns_of (mark_of op (take j.length s.content)) (work_of m.reserve s.banks (Some j))) read in
          omega (arith, zero, one)

      -- another job with room no more than its record has pages
      module _ (wide : is_owed t ≡ false) (writes : j.op ≢ Read) where
        not_needed : (o : Option RecHead) → work_in t ≡ o → (o ≡ None → fits_in m.reserve s.banks j ≡ true) → needs_switch m.reserve s.banks (Some j) ≡ false
        not_needed None idle fits = not_second (is_waiting s.banks j) (not (fits_in m.reserve s.banks j)) (ap not (fits refl))
        not_needed (Some h) work fits = ap (λ (x : Bool). x && not (fits_in m.reserve s.banks j)) (waits_none j job h work)

        pub written : (fits : work_in t ≡ None → fits_in m.reserve s.banks j ≡ true) → left_of (stand (Some j)) (work_of m.reserve s.banks (Some j)) ≤ pages_of_op (p j job) j.op j.length
        written fits =
            let zero = no_turns (Some j) (not_needed (work_in t) refl (λ idle. fits idle)) in
            let few = own_left in
            let paid : turns_owed (is_owed t) ≡ 0 = ap turns_owed wide in
            let turns = turns_written (mark_of j.op (take j.length s.content)) (work_of m.reserve s.banks (Some j)) (λ none. writes (op_read j.op (take j.length s.content) none)) in
            omega (arith, zero, few, paid, turns)

      -- no more than those, a gate that is owed, and a switch
      most_by : (gate due : ℕ) → turns_owed (is_owed t) ≤ gate → switch_turns m.reserve s.banks (Some j) s.banks.course ≤ due → left_of (stand (Some j)) (work_of m.reserve s.banks (Some j)) ≤ turns_with_room m (stand (Some j)) + gate + due
      most_by gate due owed few = elim (is_a_read j.op) [
        | inl read ↦ (let one = reads read in let turns = read_turns read in omega (arith, one, turns))
        | inr writes ↦ (
            let own = own_pages j job in
            let same = own_turns writes in
            let pages = own_left in
            let turns = turns_written (mark_of j.op (take j.length s.content)) (work_of m.reserve s.banks (Some j)) (λ none. writes (op_read j.op (take j.length s.content) none)) in
            omega (arith, own, same, pages, turns, owed, few))
      ]

      -- it needs one only where no record is in work
      waits_idle : (o : Option RecHead) → work_in t ≡ o → needs_switch m.reserve s.banks (Some j) ≡ true → work_in t ≡ None
      waits_idle None idle needs = idle
      waits_idle (Some h) work needs = (let none : needs_switch m.reserve s.banks (Some j) ≡ false = ap (λ (x : Bool). x && not (fits_in m.reserve s.banks j)) (waits_none j job h work) in cc (needs, none))

    most_of : (o : Option FeeJob) (gate due : ℕ) → s.job ≡ o → turns_owed (is_owed t) ≤ gate → switch_turns m.reserve s.banks o s.banks.course ≤ due → left_of (stand o) (work_of m.reserve s.banks o) ≤ turns_with_room m (stand o) + gate + due
    most_of None gate due none owed few = omega (arith, few)
    most_of (Some j) gate due job owed few = most_by j job gate due owed few

    idle_of : (o : Option FeeJob) → s.job ≡ o → needs_switch m.reserve s.banks o ≡ true → work_in t ≡ None
    idle_of None none needs = cc needs
    idle_of (Some j) job needs = waits_idle j job (work_in t) refl needs

    -- the one that it needs copies what these records show, where the places are theirs
    switch_most : (records : List Rec) → s.banks.log.places ≡ places_of s.banks.log.numbers records → (o : Option FeeJob) → s.job ≡ o → switch_turns m.reserve s.banks o s.banks.course ≤ switch_due m records
    switch_most records placed o job = elim (test (needs_switch m.reserve s.banks o)) [
      | inr none ↦ (let zero = no_turns o none in omega (arith, zero))
      | inl needs ↦ (
          let turns : switch_turns m.reserve s.banks o s.banks.course ≡ switch_left (begun_again s.banks (course.Erase 0)) =
          ap (switch_turns m.reserve s.banks o) shut ∙ ap (λ (x : Bool). if x then switch_left (begun_again s.banks (course.Erase 0)) else 0) needs in
          let begins = begins_with s.banks (idle_of o job needs) in
          let copies = copies_of (s.banks.geometry.page) s.banks.log.numbers s.banks.log.places records placed in
          let same : sectors_of_bank s.banks.geometry s.banks.banks + copies_due s.banks.geometry.page s.banks.log.numbers records + 2 ≡ switch_due m records =
          λ i. sectors_of_bank (shape i) (on.sound.made_for.shared i) + copies_due (shape i).page (on.sound.made_for.numbers i) records + 2 in
          omega (arith, turns, begins, copies, same))
    ]

    ready_is : ready_of m.reserve (nat_le 1 (seal_turns s.banks.course)) (pages_free s.banks s.job) ≡ min m.reserve (pages_free s.banks s.job)
    ready_is = ap (λ (n : ℕ). ready_of m.reserve (nat_le 1 n) (pages_free s.banks s.job)) (seal_is s.banks.course shut)

    module _ (a : ActiveBank) (active : s.banks.active ≡ Some a) where
      free_by : Shut a active ⊎ (IsTrue failed ⊎ IsFree (b a active) bytes t (free_pages s.banks))
      free_by = elim (free_beside a active) [
        | inl is ↦ inl is
        | inr (inl bad) ↦ inr (inl (may_by m entry s listed kept count on bytes follows a active shut bad))
        | inr (inr free) ↦ inr (inr free)
      ]

      left_by : (o : Option FeeJob) → s.job ≡ o → pages_needed m (stand o) ≤ free_in_bank (b a active) bytes → IsTrue failed ⊎ (left_of (stand o) (work_of m.reserve s.banks o) ≤ turns_with_room m (stand o))
      left_by None none room = (let zero = none_left none in inr (omega (arith, zero)))
      left_by (Some j) job room = elim (is_a_read j.op) [
        | inl read ↦ (
            let one = reads j job read in
            let turns = read_turns j job read in
            inr (omega (arith, one, turns)))
        | inr writes ↦ (
            let own = own_pages j job in
            let some = op_some s.banks.geometry.page j.op j.length writes in
            let same = own_turns j job writes in
            elim free_by [
              | inl is ↦ (let zero = none_in a active is in absurd (omega (arith, zero, room, own, some)))
              | inr (inl bad) ↦ inl bad
              | inr (inr free) ↦ (
                  let least = free.least in
                  let beside = few a active in
                  let fits : work_in t ≡ None → fits_in m.reserve s.banks j ≡ true = λ idle. has_pages j.urgent (pages_of_op s.banks.geometry.page j.op j.length) m.reserve (free_pages s.banks)
                  (let zero = idle_work idle in omega (arith, zero, least, beside, room, own)) in
                  let turns = written j job free.paid writes fits in
                  inr (omega (arith, turns, same, own)))
            ])
      ]

      -- a gate that is owed, and the switch that the job needs
      gate_by : IsTrue failed ⊎ (turns_owed (is_owed t) ≤ gate_due (b a active) bytes)
      gate_by = elim free_by [
        | inl is ↦ (let one : gate_due (b a active) bytes ≡ 1 = ap (λ (x : Bool). if x then 1 else 0) is in let few = at_most (is_owed t) 1 in inr (omega (arith, one, few)))
        | inr (inl bad) ↦ inl bad
        | inr (inr free) ↦ (let zero : turns_owed (is_owed t) ≡ 0 = ap turns_owed free.paid in inr (omega (arith, zero)))
      ]

      due_by : IsTrue failed ⊎ (switch_turns m.reserve s.banks s.job s.banks.course ≤ switch_due m (records_of (b a active) bytes))
      due_by = elim (follows_log m entry s listed kept count on bytes follows a active).placed [
        | inl bad ↦ inl (may_by m entry s listed kept count on bytes follows a active shut bad)
        | inr placed ↦ inr (switch_most (records_of (b a active) bytes) (placed ∙ ap (λ (x : Bank). places_of s.banks.log.numbers (records_of x bytes)) (bank_is m entry s listed kept count on bytes follows a active)) s.job refl)
      ]

      most : IsTrue failed ⊎ (left_of (stand s.job) (work_of m.reserve s.banks s.job) ≤ turns_with_room m (stand s.job) + gate_due (b a active) bytes + switch_due m (records_of (b a active) bytes))
      most = elim gate_by [
        | inl bad ↦ inl bad
        | inr owed ↦ (elim due_by [ inl bad ↦ inl bad | inr few ↦ inr (most_of s.job _ _ refl owed few) ])
      ]

      tells_room : TellsRoom m failed (b a active) bytes (told_of (device_of m entry s))
      tells_room = record {
        ready_high = (let is = ready_is in let most = high a active in omega (arith, is, most));
        ready_low = elim free_by [
          | inl is ↦ (let zero = none_in a active is in inr (omega (arith, zero)))
          | inr (inl bad) ↦ inl bad
          | inr (inr free) ↦ (let is = ready_is in let own = claims s.job refl in let least = free.least in let most = few a active in inr (omega (arith, is, own, least, most)))
        ];
        left = λ room. left_by s.job refl room;
        most = most;
      }

    room_of : (o : Option ActiveBank) → s.banks.active ≡ o → TellsRoomOf m failed (active_shown o) bytes (told_of (device_of m entry s))
    room_of None none =
        let is = ready_is in
        let zero : free_pages s.banks ≡ 0 = ap (λ (o : Option ActiveBank). if is_some o then free_in s.banks.log else 0) none in
        let blank : IsActiveOf s.banks None = subst (IsActiveOf s.banks) none at_work.active in
        let paid : turns_owed (is_owed t) ≡ 0 = ap (λ (k : LogState). turns_owed (is_owed k.tail)) blank in
        let few = most_of s.job 0 (switch_due m []) refl (omega (arith, paid)) (switch_most [] (ap (λ (k : LogState). k.places) blank) s.job refl) in
        (omega (arith, is, zero), omega (arith, few))
    room_of (Some a) active = tells_room a active

    idle_by : (o : Option FeeJob) → s.job ≡ o → is_open (stand o) ≡ false → left_of (stand o) (work_of m.reserve s.banks o) ≡ 0
    idle_by None none idle = none_left none
    idle_by (Some j) job idle = cc idle

    read_by : (o : Option FeeJob) → s.job ≡ o → is_read (stand o) ≡ true → left_of (stand o) (work_of m.reserve s.banks o) ≡ 1
    read_by None none read = cc read
    read_by (Some j) job read = reads j job (op_read j.op (take j.length s.content) (none_is (mark_of j.op (take j.length s.content)) read))

    tells_work : TellsWork m failed bytes (told_of (device_of m entry s))
    tells_work = record {
      idle = idle_by s.job refl;
      read = read_by s.job refl;
      room = subst (λ (o : Option (ℕ × BankHead)). TellsRoomOf m failed o bytes (told_of (device_of m entry s))) (shows_active m entry s listed kept count on bytes follows shut) (room_of s.banks.active refl);
    }

pub room_is_told : RoomIsTold
room_is_told m entry s listed kept count on shut follows =
    each_now s.fls.flash.bytes (λ bytes. TellsWork m (may_be_closed s.operations) bytes (told_of (device_of m entry s))) (λ bytes at.
    tells_work m entry s listed kept count on bytes (now_at s.fls.flash.bytes (FollowsBytes s.banks s.content s.operations) bytes at (follows on.started (power m entry s listed kept count on))) shut)
