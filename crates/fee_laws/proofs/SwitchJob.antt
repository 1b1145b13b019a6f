-- The job of a device while a switch is open: its turns, and the number that it appends to.
use Rattle.std.specs.Prelude.{IfSome, is_some, is_none, if◌then◌else◌, ◌&&◌, slice_get, take, option_map}
use Rattle.std.proofs.Common.{◌≡◌, ◌≤◌, ◌+◌, ◌==◌, ℕ, Bool, true, false, List, [], ◌∷◌, Option, Some, None, refl, sym, ap, ◌∙◌, subst, add-one, arith}
use Rattle.std.proofs.lemmas.Bool.{and_parts, eqb-true}
use Rattle.nv_base.specs.Lengths.{place_of}
use Rattle.nv_base.specs.declared.geometry.Geometry.{Geometry}
use Rattle.nv_base.specs.declared.instance.DeviceNumber.{DeviceNumber}
use Rattle.nv_base.specs.declared.job.DeviceOp.{DeviceOp}
use Rattle.nv_base.specs.declared.job.DeviceOp.TheVariants.{Read, Write, Invalidate, Erase}
use Rattle.memif.specs.Told.{Stand}
use Rattle.fls_model.specs.Told.{Told}
use Rattle.fee_format.specs.declared.rec_head.RecHead.{RecHead}
use Rattle.fee_switch_laws.specs.fee_log.declared.tail.Tail.{Tail}
use Rattle.fee_switch_laws.specs.fee_log.declared.tail.Tail.TheVariants as tail
use Rattle.fee_switch_laws.specs.fee_log.Log.{pages_with, work_in}
use Rattle.fee_course.specs.declared.course.Course.{Course}
use Rattle.fee_switch_laws.specs.fee_switch.Banks.{index_of, left_as, left_beside, left_of as switch_left}
use Rattle.promise_device.specs.Making.{Making}
use Rattle.promise_device.specs.Room.{job_pages}
use Rattle.fee_told.specs.Figures.{OpenWork, left_of, turns_of, turns_owed}
use Rattle.fee_laws.specs.declared.job.FeeJob.{FeeJob}
use Rattle.fee_laws.specs.Inside.{Parts, mark_of, stand_of}
use Rattle.fee_laws.specs.Record.{IsInWork}
use Rattle.fee_laws.specs.Turn.{IsOn}
use Rattle.fee_laws.specs.Work.{begins_next, fits_in, is_waiting, pages_left, pages_of_job, takes_append, turns_beside, work_of}
use Rattle.fee_laws.specs.Follows.{FollowsBytes}
use Rattle.fee_laws.specs.SwitchTold.{IsUrgentAt, job_turns}
use Rattle.fee_laws.proofs.CallsBehind.{no_work}
use Rattle.fee_laws.proofs.FollowRoom.{claims, own_pages}

-- THE PLACES
-- a number stands at its place
abbrev StandsAt : List (DeviceNumber × ℕ) → ℕ → ℕ → Type 0
StandsAt numbers number i = (n : DeviceNumber × ℕ) × (slice_get numbers i ≡ Some n) × (n.0.0 ≡ number)

stands_later : (n : DeviceNumber × ℕ) (ns : List (DeviceNumber × ℕ)) (number i : ℕ) (o : Option ℕ) → ((k : ℕ) → o ≡ Some k → StandsAt ns number k) → option_map (λ (k : ℕ). k + 1) o ≡ Some i → StandsAt (n ∷ ns) number i
stands_later n ns number i None rest is = cc is
stands_later n ns number i (Some k) rest is =
    let same : k + 1 ≡ i = cc is in
    let at = rest k refl in
    (at.0, ap (slice_get (n ∷ ns)) (sym same ∙ add-one k) ∙ at.1, at.2)

stands_at : (numbers : List (DeviceNumber × ℕ)) (number i : ℕ) → place_of numbers number ≡ Some i → StandsAt numbers number i
stands_at [] number i is = cc is
stands_at (n ∷ ns) number i is = by_test (stands_later n ns number i (place_of ns number) (λ k at. stands_at ns number k at)) (n.0.0 == number) refl is
  where
    by_test : (option_map (λ (k : ℕ). k + 1) (place_of ns number) ≡ Some i → StandsAt (n ∷ ns) number i) → (b : Bool) → (n.0.0 == number) ≡ b → (if b then Some 0 else option_map (λ (k : ℕ). k + 1) (place_of ns number)) ≡ Some i → StandsAt (n ∷ ns) number i
    by_test rest true e first = (let here : 0 ≡ i = cc first in (n, ap (slice_get (n ∷ ns)) (sym here), eqb-true n.0.0 number e))
    by_test rest false e more = rest more

-- THE JOB
-- no more pages are left than its record has, and the one in work
few_left : (p wanted most : ℕ) (t : Tail) → wanted ≤ most → pages_with p (work_in t) ≤ most → pages_left p wanted t ≤ most
few_left p wanted most tail.Open few work = few
few_left p wanted most (tail.Writes h done) few work = omega (arith, work)
few_left p wanted most (tail.Owes h next) few work = few
few_left p wanted most tail.Closed few work = few

pub once_owed : (owed : Bool) → turns_owed owed ≤ 1
once_owed true = omega arith
once_owed false = omega arith

-- its turns, and those of the switch
op_turns : (op : DeviceOp) (bytes : List ℕ) (w : OpenWork) → turns_of (mark_of op bytes) w ≡ (if is_none (mark_of op bytes) then 1 else w.pages + turns_owed w.owed)
op_turns Read bytes w = refl
op_turns Write bytes w = refl
op_turns Invalidate bytes w = refl
op_turns Erase bytes w = refl

pub sum_of : (s : Parts) (o : Option FeeJob) (w : OpenWork) → left_of (stand_of s.content o s.last s.given) w ≡ job_turns (stand_of s.content o s.last s.given) w.pages (turns_owed w.owed) + w.switch
sum_of s None w = omega arith
sum_of s (Some j) w = ap (λ (n : ℕ). n + w.switch) (op_turns j.op (take j.length s.content) w)

-- the number that is appended to: of the record in work, or of an urgent job that begins one in its next turn
abbrev pub appended_in : Parts → Option FeeJob → Option ℕ
appended_in s None = index_of s.banks.log.numbers (work_in s.banks.log.tail)
appended_in s (Some j) = if begins_next s.banks j then place_of s.banks.log.numbers j.number.0 else index_of s.banks.log.numbers (work_in s.banks.log.tail)

pub turns_beside_are : (s : Parts) (o : Option FeeJob) → turns_beside s.banks o ≡ left_as s.banks (appended_in s o) s.banks.course
turns_beside_are s None = refl
turns_beside_are s (Some j) = by_test (begins_next s.banks j)
  where
    by_test : (b : Bool) → (if b then left_beside s.banks j.number.0 else switch_left s.banks)
        ≡ left_as s.banks (if b then place_of s.banks.log.numbers j.number.0 else index_of s.banks.log.numbers (work_in s.banks.log.tail)) s.banks.course
    by_test true = refl
    by_test false = refl

module _ (m : Making) (entry : Told) (s : Parts) (listed : List (DeviceNumber × ℕ)) (kept count : ℕ) (on : IsOn m entry s listed kept count) where
  abbrev stand : Option FeeJob → Stand
  stand o = stand_of s.content o s.last s.given

  geometry : s.banks.geometry ≡ m.geometry
  geometry = on.sound.made_for.banks_geometry

  numbers : s.banks.log.numbers ≡ m.numbers
  numbers = on.sound.made_for.numbers

  -- THE PAGES
  module _ (bytes : List ℕ) (follows : FollowsBytes s.banks s.content s.operations bytes) where
    few_by : (o : Option FeeJob) → s.job ≡ o → pages_of_job s.banks.geometry.page o ≤ job_pages m (stand o)
    few_by None none = omega arith
    few_by (Some j) job = (let same = own_pages m entry s listed kept count on bytes follows j job in omega (arith, same))

    pub few : (work_of m.reserve s.banks s.job).pages ≤ job_pages m (stand s.job)
    few =
        let its = claims m entry s listed kept count on bytes follows s.job refl in
        let same : pages_with m.geometry.page (work_in s.banks.log.tail) ≡ pages_with s.banks.geometry.page (work_in s.banks.log.tail) = ap (λ (g : Geometry). pages_with g.page (work_in s.banks.log.tail)) (sym geometry) in
        few_left s.banks.geometry.page (pages_of_job s.banks.geometry.page s.job) (job_pages m (stand s.job)) s.banks.log.tail (few_by s.job refl) (omega (arith, its, same))

  -- AN APPEND
  module _ (c : Course) (over : s.banks.course ≡ Some c) where
    abbrev Urgent : Option FeeJob → Option ℕ → Type 0
    Urgent o i = IfSome i (IsUrgentAt m.numbers (stand o))

    -- where the number of an urgent job stands
    urgent_at : (j : FeeJob) → j.urgent ≡ true → (o : Option ℕ) → place_of m.numbers j.number.0 ≡ o → Urgent (Some j) o
    urgent_at j urgent None none = tt
    urgent_at j urgent (Some i) is = (urgent, stands_at m.numbers j.number.0 i is)

    urgent_there : (j : FeeJob) → j.urgent ≡ true → Urgent (Some j) (place_of s.banks.log.numbers j.number.0)
    urgent_there j urgent = subst (λ (ns : List (DeviceNumber × ℕ)). Urgent (Some j) (place_of ns j.number.0)) (sym numbers) (urgent_at j urgent (place_of m.numbers j.number.0) refl)

    -- the record in work is an urgent job's
    in_work : (j : FeeJob) → s.job ≡ Some j → (o : Option RecHead) → work_in s.banks.log.tail ≡ o → IfSome o (IsInWork s.banks s.job) → Urgent (Some j) (index_of s.banks.log.numbers o)
    in_work j job None idle is = tt
    in_work j job (Some h) at_h is =
        let same : is.of ≡ j = (let e = sym is.is_open ∙ job in cc e) in
        let urgent = ap (λ (x : FeeJob). x.urgent) (sym same) ∙ is.beside (ap (λ (x : Option Course). is_some x) over) in
        let number : h.number.0 ≡ j.number.0 = ap (λ (x : RecHead). x.number.0) is.head ∙ ap (λ (x : FeeJob). x.number.0) same in
        subst (λ (n : ℕ). Urgent (Some j) (place_of s.banks.log.numbers n)) (sym number) (urgent_there j urgent)

    begins : (j : FeeJob) (x : Bool) → begins_next s.banks j ≡ x → s.job ≡ Some j → Urgent (Some j) (if x then place_of s.banks.log.numbers j.number.0 else index_of s.banks.log.numbers (work_in s.banks.log.tail))
    begins j true is job =
        let takes = takes_append s.banks.course in
        let waits = and_parts (takes && j.urgent && is_waiting s.banks j) (fits_in 0 s.banks j) is in
        let urgent = and_parts (takes && j.urgent) (is_waiting s.banks j) waits.0 in
        urgent_there j (and_parts takes j.urgent urgent.0).1
    begins j false is job = in_work j job (work_in s.banks.log.tail) refl (on.sound.works on.started).work

    pub urgent_by : (o : Option FeeJob) → s.job ≡ o → Urgent o (appended_in s o)
    urgent_by None none = subst (λ (h : Option RecHead). Urgent None (index_of s.banks.log.numbers h)) (sym (no_work s.banks s.job (work_in s.banks.log.tail) none (on.sound.works on.started).work)) tt
    urgent_by (Some j) job = begins j (begins_next s.banks j) refl job
