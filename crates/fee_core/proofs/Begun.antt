-- What a turn begins in memory for the open job: its record, or a switch; and the job's end where none can.
use Rattle.std.specs.Prelude.{◌&&◌, ◌==◌, IsTrue, is_some, if◌then◌else◌, IfSome, IsSome, unwrap_or}
use Rattle.std.proofs.Common.{◌≡◌, ◌⊎◌, ◌≤◌, ◌+◌, ℕ, Bool, true, false, List, Option, Some, None, refl, sym, ap, ◌∙◌, subst, arith}
use Rattle.std.proofs.lemmas.Bool.{leb-true}
use Rattle.nv_base.specs.Lengths.{place_of}
use Rattle.nv_base.specs.Pages.{record_pages_of}
use Rattle.nv_base.specs.declared.instance.DeviceNumber.{DeviceNumber}
use Rattle.nv_base.specs.declared.job.DeviceOp.{DeviceOp}
use Rattle.nv_base.specs.declared.job.DeviceOp.TheVariants.{Write}
use Rattle.memif.specs.declared.answer.DeviceTurn.{DeviceTurn}
use Rattle.memif.specs.declared.answer.DeviceTurn.TheVariants as turn
use Rattle.memif.specs.declared.answer.JobResult.TheVariants.{JobFailed}
use Rattle.fls_model.specs.Told.{Told}
use Rattle.fee_format.specs.declared.rec_head.RecHead.{RecHead}
use Rattle.fee_format.specs.declared.rec_head.RecordKind.{RecordKind}
use Rattle.fee_format.specs.declared.rec_head.RecordKind.TheVariants as kind
use Rattle.fee_laws.specs.fee_log.declared.tail.Tail.{Tail}
use Rattle.fee_laws.specs.fee_log.declared.tail.Tail.TheVariants.{Open, Writes, Owes, Closed}
use Rattle.fee_laws.specs.fee_log.Log.{LogState, IsFor, work_in, free_in, head_next, tail_begun}
use Rattle.fee_course.specs.declared.course.Course.{Course}
use Rattle.fee_course.specs.declared.course.Course.TheVariants.{Erase, Copy, Head, Gate}
use Rattle.fee_laws.specs.fee_switch.Banks.{BanksState, TakesRecord, append_begun, appended_at, begun_again, is_worn_out}
use Rattle.fee_laws.specs.fee_switch_laws.Space.{free_pages, has_room}
use Rattle.promise_device.specs.Making.{Making}
use Rattle.fee_laws.specs.declared.job.FeeJob.{FeeJob}
use Rattle.fee_laws.specs.Inside.{Parts, IsSound, IsActiveOf}
use Rattle.fee_laws.specs.Record.{IsJobOf, kind_of, head_of}
use Rattle.fee_laws.specs.Work.{fits_in, is_waiting, pages_of_op, takes_append}
use Rattle.fee_laws.specs.Turn.{ended_as}
use Rattle.fee_laws.specs.Switches.{IsBehind}
use Rattle.fee_laws.specs.Begins.{Begun, MayBegin, MaySwitch}
use Rattle.fee_laws.specs.Follows.{Follows}
use Rattle.fee_laws.specs.Worn.{IsWornNow}
use Rattle.fee_laws.specs.Restarts.{is_before}
use Rattle.fee_laws.proofs.Restarts.{restarts_stay}
use Rattle.fee_laws.proofs.BegunSound.{records_begin}
use Rattle.fee_laws.proofs.FollowCalled.{begun_follows, room_is_known, switching_follows}
use Rattle.fee_laws.proofs.Heads.{has_kind, not_read}
use Rattle.fee_laws.proofs.Lifting.{begun_turns, begun_takes}
use Rattle.fee_laws.proofs.SwitchBegun.{switches_begin}
use Rattle.fee_laws.proofs.SwitchEnded.{for_job, pages_for}
use Rattle.fee_laws.proofs.WornFull.{never_begins}
use Rattle.fee_laws.proofs.WornTurn.{wears_out}
use Rattle.fee_core.specs.Beginning.{begins_beside, begins_now}
use Rattle.fee_core.specs.Turning.{IsUp, Waits}
use Rattle.fee_core.specs.Whole.{Whole, TurnedTo}
use Rattle.fee_core.proofs.Standing.{Stands, turned_from, job_is, next_counted}

-- TESTS
pub all_four : (a b c d : Bool) → a && b && c && d ≡ true → (a ≡ true) × (b ≡ true) × (c ≡ true) × (d ≡ true)
all_four true true true true e = (refl, refl, refl, refl)
all_four false b c d e = cc e
all_four true false c d e = cc e
all_four true true false d e = cc e
all_four true true true false e = cc e

-- AN URGENT RECORD BESIDE A SWITCH
content_by : (op : DeviceOp) (k : RecordKind) → kind_of op ≡ Some k → op ≡ Write → k ≡ kind.Content
content_by op k writes is = (let content : Some kind.Content ≡ Some k = sym (ap kind_of is) ∙ writes in cc content)

taken_by : (op : DeviceOp) (k : RecordKind) (c : Course) → kind_of op ≡ Some k → op ≡ Write → takes_append (Some c) ≡ true → TakesRecord k (Some c)
taken_by op k (Erase n) writes is e = content_by op k writes is
taken_by op k (Copy w) writes is e = content_by op k writes is
taken_by op k Head writes is e = cc e
taken_by op k (Gate failed) writes is e = cc e

urgent_fits : (u : Bool) (pages reserve free : ℕ) → u ≡ true → has_room u pages 0 free ≡ true → has_room u pages reserve free ≡ true
urgent_fits true pages reserve free e is = is
urgent_fits false pages reserve free e is = cc e

-- what a record that begins has, by the switch
record HasBegin (m : Making) (b : BanksState) (j : FeeJob) (kind : RecordKind) (c : Option Course) : Type 0 where
  pub taken : TakesRecord kind c
  pub beside : is_some c ≡ true → j.urgent ≡ true
  pub room : fits_in m.reserve b j ≡ true

begin_by : (m : Making) (b : BanksState) (j : FeeJob) (kind : RecordKind) (c : Option Course) → kind_of j.op ≡ Some kind → b.course ≡ c → IsJobOf m.numbers j → begins_beside c m.reserve b j ≡ true → HasBegin m b j kind c
begin_by m b j kind None writes at is begins = record { taken = tt; beside = λ e. cc e; room = begins }
begin_by m b j kind (Some c) writes at is begins =
    let four = all_four (takes_append b.course) j.urgent (is_waiting b j) (fits_in 0 b j) begins in
    record {
      taken = taken_by j.op kind c writes (is.urgent four.1) (subst (λ (o : Option Course). takes_append o ≡ true) at four.0);
      beside = λ e. four.1;
      room = urgent_fits j.urgent (pages_of_op b.geometry.page j.op j.length) m.reserve (free_pages b) four.1 four.3;
    }

-- ITS ROOM
room_by : (u some : Bool) (pages reserve free : ℕ) → 1 ≤ pages → has_room u pages reserve (if some then free else 0) ≡ true → (some ≡ true) × (pages ≤ free)
room_by true true pages reserve free more is = (refl, leb-true pages free is)
room_by false true pages reserve free more is = (refl, (let le = leb-true (pages + reserve) free is in omega (arith, le)))
room_by true false pages reserve free more is = (let le = leb-true pages 0 is in absurd (omega (arith, le, more)))
room_by false false pages reserve free more is = (let le = leb-true (pages + reserve) 0 is in absurd (omega (arith, le, more)))

-- what the begin of its record asks for
pub record HasRoom (b : BanksState) (j : FeeJob) : Type 0 where
  pub active : is_some b.active ≡ true
  pub room : record_pages_of j.length b.geometry.page ≤ free_in b.log

pub has_room_for : (m : Making) (s : Parts) (j : FeeJob) → IsActiveOf s.banks s.banks.active → IsJobOf m.numbers j → MayBegin m s j → HasRoom s.banks j
has_room_for m s j active is may =
    let b = s.banks in
    let fits : has_room j.urgent (pages_of_op b.geometry.page j.op j.length) m.reserve (free_pages b) ≡ true = may.room in
    let pages = pages_for b.geometry.page j.op j.length is.length (not_read j.op may.kind may.writes) is.fits in
    let fits' = subst (λ (n : ℕ). has_room j.urgent n m.reserve (free_pages b) ≡ true) pages fits in
    let room = room_by j.urgent (is_some b.active) (record_pages_of j.length b.geometry.page) m.reserve (free_in b.log) (omega arith) fits' in
    record { active = room.0; room = room.1 }

-- it is in work then
pub begun_work : (t : Tail) (h : RecHead) → IsSome (work_in (tail_begun t h))
begun_work Open h = refl
begun_work (Writes head done) h = refl
begun_work (Owes owed next) h = refl
begun_work Closed h = refl

-- THE JOB THAT WAITS
-- with this head its record may be appended
pub record CanAppend (b : BanksState) (h : RecHead) : Type 0 where
  pub active : is_some b.active ≡ true
  pub taken : TakesRecord h.kind b.course
  pub configured : IsFor b.log.numbers h
  pub room : record_pages_of h.length b.geometry.page ≤ free_in b.log

-- an append that begins brings no switch nearer
appended_before : (i : Option ℕ) (c : Option Course) → IsTrue (is_before (appended_at i c)) → IsTrue (is_before c)
appended_before None c come = come
appended_before (Some i) None come = come
appended_before (Some i) (Some (Erase n)) come = come
appended_before (Some i) (Some (Copy None)) come = come
appended_before (Some i) (Some (Copy (Some w))) come = by (w.index == i) come
  where
    by : (b : Bool) → IsTrue (is_before (Some (if b then Copy (Some (record w { sets = false })) else Copy (Some w)))) → IsTrue (is_before (Some (Copy (Some w))))
    by true come' = come'
    by false come' = come'
appended_before (Some i) (Some Head) come = come
appended_before (Some i) (Some (Gate failed)) come = come

-- it was begun with these banks
pub record IsBegun (m : Making) (entry : Told) (w : Whole) (b : BanksState) : Type 0 where
  pub begun : Begun m entry w.parts (record w.parts { banks = b }) w.numbers w.reserve w.ops
  pub follows : Follows (record w.parts { banks = b })
  pub before : IsTrue (is_before b.course) → IsTrue (is_before w.parts.banks.course)

module _ {m : Making} {entry : Told} {w v : Whole} (at : Stands m entry w v) {j : FeeJob} (waits : Waits v j) where
  abbrev s : Parts
  s = w.parts

  pub waits_here : Waits w j
  waits_here = subst (λ (x : Whole). Waits x j) (sym at.shown) waits

  is : IsJobOf m.numbers j
  is = job_is at.on waits_here.job

  configured : (kind : RecordKind) → kind_of j.op ≡ Some kind → IsFor s.banks.log.numbers (head_of s.banks.log kind j)
  configured kind writes = subst (λ (ns : List (DeviceNumber × ℕ)). IsFor ns (head_of s.banks.log kind j)) (sym at.on.sound.made_for.numbers) (for_job m.numbers j kind (head_of s.banks.log kind j).count writes is (next_counted s.banks.log kind j at.on.log))

  -- its record
  module _ (begins : begins_now v.reserve v.parts.banks j ≡ true) {kind : RecordKind} (writes : kind_of j.op ≡ Some kind) where
    has : HasBegin m s.banks j kind s.banks.course
    has =
        let here = subst (λ (x : Whole). begins_now x.reserve x.parts.banks j ≡ true) (sym at.shown) begins in
        begin_by m s.banks j kind s.banks.course writes refl is (subst (λ (n : ℕ). begins_now n s.banks j ≡ true) at.on.sound.reserve here)

    abbrev may_begin : MayBegin m s j
    may_begin = record { job = waits_here.job; kind = kind; writes = writes; idle = waits_here.idle; taken = has.taken; beside = has.beside; configured = configured kind writes; room = has.room }

    can_begin : CanAppend s.banks (head_of s.banks.log kind j)
    can_begin = (let room = has_room_for m s j (at.on.sound.works at.on.started).active is may_begin in record { active = room.active; taken = has.taken; configured = configured kind writes; room = room.room })

    module _ {log : LogState} (same : log ≡ s.banks.log) {h : RecHead} (made : h ≡ head_next log j.number kind j.length) where
      head_is : h ≡ head_of s.banks.log kind j
      head_is = made ∙ ap (λ (x : LogState). head_next x j.number kind j.length) same

      pub can_append : CanAppend s.banks h
      can_append = subst (CanAppend s.banks) (sym head_is) can_begin

      pub record_begun : (b : BanksState) → b ≡ append_begun s.banks h → IsBegun m entry w b
      record_begun b is =
          subst (IsBegun m entry w) (sym (is ∙ ap (append_begun s.banks) head_is))
          (record { begun = records_begin m entry s w.numbers w.reserve w.ops j at.on may_begin; follows = begun_follows m entry s w.numbers w.reserve w.ops j at.on may_begin at.up.sound.follows; before = appended_before (place_of s.banks.log.numbers (head_of s.banks.log kind j).number.0) s.banks.course })

  -- its record has no room: a switch
  module _ (shut : v.parts.banks.course ≡ None) (full : fits_in v.reserve v.parts.banks j ≡ false) where
    shut_here : s.banks.course ≡ None
    shut_here = ap (λ (x : Whole). x.parts.banks.course) at.shown ∙ shut

    full_here : fits_in m.reserve s.banks j ≡ false
    full_here = subst (λ (n : ℕ). fits_in n s.banks j ≡ false) at.on.sound.reserve (ap (λ (x : Whole). fits_in x.reserve x.parts.banks j) at.shown ∙ full)

    pub switch_begun : v.parts.worn ≡ None → is_worn_out s.banks.active ≡ false → (b : BanksState) → b ≡ begun_again s.banks (Erase 0) → IsBegun m entry w b
    switch_begun fresh worn b same =
        let fresh' = ap (λ (x : Whole). x.parts.worn) at.shown ∙ fresh in
        let k = has_kind j.op waits.writes in
        let may : MaySwitch m s j = record { job = waits_here.job; kind = k.0; writes = k.1; idle = waits_here.idle; shut = shut_here; configured = configured k.0 k.1; full = full_here; fresh = fresh'; worn = worn } in
        subst (IsBegun m entry w) (sym same)
        (record { begun = switches_begin m entry s w.numbers w.reserve w.ops j at.on may; follows = switching_follows m entry s w.numbers w.reserve w.ops j at.on may at.up.sound.follows; before = λ e. ap is_before shut_here })

    -- behind which the job waits
    pub waits_behind : (b : BanksState) → b ≡ begun_again s.banks (Erase 0) → IfSome s.job (IsBehind b)
    waits_behind b same =
        let again = begun_again s.banks (Erase 0) in
        let behind : IsBehind again j = (waits.writes, never_begins m.reserve again j full_here) in
        subst (λ (o : Option FeeJob). IfSome o (IsBehind b)) (sym waits_here.job) (subst (λ (x : BanksState). IsBehind x j) (sym same) behind)

    -- or, where none can, the end of the job
    pub worn_turned : IsSome v.parts.worn ⊎ (is_worn_out v.parts.banks.active ≡ true) → (count : ℕ) → count ≡ unwrap_or s.worn w.ops → TurnedTo m entry turn.Worked v (record w { parts = record (ended_as JobFailed s) { worn = Some count } })
    worn_turned worn count is =
        let worn' = subst (λ (x : Whole). IsSome x.parts.worn ⊎ (is_worn_out x.parts.banks.active ≡ true)) (sym at.shown) worn in
        let knows = room_is_known m entry s w.numbers w.reserve w.ops at.on waits_here.idle shut_here at.up.sound.follows in
        let now : IsWornNow m entry s j = record { job = waits_here.job; writes = waits.writes; idle = waits_here.idle; shut = shut_here; full = full_here; worn = worn'; bytes = knows } in
        turned_from at (ap (λ (n : ℕ). record (ended_as JobFailed s) { worn = Some n }) is) refl at.up.on (wears_out m entry s w.numbers w.reserve w.ops j at.on now) at.up.sound.follows at.up.sound.wears at.up.sound.restarts

module _ {m : Making} {entry : Told} {w v : Whole} (at : Stands m entry w v) {b : BanksState} (is : IsBegun m entry w b) where
  pub begun_up : IsUp m entry (record w { parts = record w.parts { banks = b } })
  begun_up = record {
    sound = record { parts = subst (λ (x : Bool). IsSound m entry (record w.parts { banks = b }) w.numbers w.reserve w.ops x) (sym at.up.on) is.begun.sound; follows = is.follows; wears = at.up.sound.wears; restarts = restarts_stay m entry w.parts w.numbers w.reserve w.ops at.on w.parts.fls.flash.off b.course w.parts.faults (omega arith) is.before at.up.sound.restarts };
    started = at.up.started;
    on = at.up.on;
  }

  -- a turn of what was begun is one of what was before
  pub begun_turned : {answer : DeviceTurn} {u : Whole} → TurnedTo m entry answer (record w { parts = record w.parts { banks = b } }) u → TurnedTo m entry answer v u
  begun_turned {answer} {u} turned =
      let mid = record w.parts { banks = b } in
      subst (λ (x : Whole). TurnedTo m entry answer x u) at.shown (record {
        turns = begun_turns answer m entry w.parts mid u.parts is.begun.told turned.turns;
        sound = turned.sound;
        takes = begun_takes answer m entry w.parts mid u.parts is.begun.told is.begun.unsealed.0 is.begun.unsealed.1 turned.takes;
      })
