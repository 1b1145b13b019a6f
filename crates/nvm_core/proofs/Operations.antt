-- What turns do to the operations that are made, and to the turns that are left.
use Rattle.std.specs.Prelude.{if◌then◌else◌, ◌||◌, ◌&&◌, not}
use Rattle.std.proofs.Common.{◌≡◌, ◌⊎◌, inl, inr, ℕ, ◌+◌, ◌*◌, ◌<◌, ◌≤◌, Bool, true, false, List, Option, Some, None, is_some, Ok, refl, sym, ap, subst, ◌∙◌, arith}
use Rattle.nvm_laws.specs.nv_base.Count.{Rose, next_count}
use Rattle.nvm_laws.specs.nv_base.Marks.{instance_of}
use Rattle.nvm_laws.specs.memif.Told as device
use Rattle.nvm_laws.specs.memif.Told.{DeviceTold, Fixed, Part, First, Second, Stand, Open, Ended, faults_of, is_off, is_open, length_of, part_at, part_of, most_open, figures_at, most_of, op_of}
use Rattle.nvm_laws.specs.memif.Clock.{Clock}
use Rattle.nvm_laws.specs.memif.Calls.{Wish, AcceptsAs, Opens, InOrder, IsCut, JobTurns, EndsAs, Writes, MayFail, RoomIsLeft, Turns, Works, is_first, is_read, job_first, length_refusal, record_pages, pages_needed, pages_open, refusal_of}
use Rattle.nvm_laws.specs.memif.declared.answer.DeviceTurn.TheVariants as turn
use Rattle.nvm_laws.specs.memif.declared.answer.DeviceRefusal.{DeviceRefusal}
use Rattle.nvm_laws.specs.memif.declared.answer.DeviceRefusal.TheVariants.{Busy, Uninit}
use Rattle.nvm_laws.specs.memif.declared.answer.JobResult.{JobResult}
use Rattle.nvm_laws.specs.memif.declared.answer.JobResult.TheVariants.{JobOk, JobFailed, JobCanceled, JobPending, BlockInconsistent, BlockInvalid}
use Rattle.nvm_laws.specs.block_machine.Words.{Mark, Wrote}
use Rattle.nvm_laws.specs.nvm_device_laws.Turn.{settled_by}
use Rattle.nvm_laws.specs.declared.turned.Turned.{Turned}
use Rattle.nvm_laws.specs.declared.turned.Turned.TheVariants as turned
use Rattle.nvm_core.specs.BehindDevice.{TurnsDevice}
use Rattle.nvm_core.specs.Operations.{left_on, number_tried, start_raises, StartsRaise, TakesLeft, IsTryOver, TryTurns, TurnsTakeLeft}
use Rattle.nvm_core.proofs.Working.{rose_of}

-- THE START OF A TRY
taken_by : (busy started : Bool) (refusal : Option DeviceRefusal) → (if busy then Some Busy else (if started then refusal else Some Uninit)) ≡ None → (busy ≡ false) × (started ≡ true)
taken_by true started refusal is = cc
taken_by false true refusal is = (refl, refl)
taken_by false false refusal is = cc

reads_by : (mark : Option Mark) → is_some mark ≡ true → (if is_some mark then false else true) ≡ false
reads_by None is = cc
reads_by (Some m) is = refl

not_read : (j : device.Job) → is_some j.mark ≡ true → is_read (Open j) ≡ false
not_read j is = by j.mark is
  where
    by : (mark : Option Mark) → is_some mark ≡ true → is_read (Open (record j { mark = mark })) ≡ false
    by None is = cc
    by (Some m) is = refl

first_on : (first second : Bool) → (first || second) ≡ false → first ≡ false
first_on true second is = cc
first_on false second is = refl

raised : (f : Fixed) (j : device.Job) (switching room : Bool) (was now : ℕ) → now ≤ was + most_of (figures_at f j.number) (op_of j.mark) → (switching ≡ true → now ≤ was + (if j.urgent then 2 else 1) * (record_pages f j + 1))
    → (switching ≡ false → room ≡ true → now ≤ record_pages f j) → now ≤ was + start_raises f room switching j
raised f j true room was now high beside free = beside refl
raised f j false true was now high beside free = let less = free refl refl in omega (arith, less)
raised f j false false was now high beside free = high

-- of a number of the second part, whatever is free
more_than_pages : (urgent : Bool) (n : ℕ) → n ≤ (if urgent then 2 else 1) * (n + 1)
more_than_pages true n = omega arith
more_than_pages false n = omega arith

record_is_all : (f : Fixed) (j : device.Job) → is_some j.mark ≡ true → record_pages f j ≡ (figures_at f j.number).pages
record_is_all f j some = ap (λ (b : Bool). if b then (figures_at f j.number).pages else 0) some

beside_first : (f : Fixed) (j : device.Job) (switching room : Bool) (was now : ℕ) → is_some j.mark ≡ true → most_of (figures_at f j.number) (op_of j.mark) ≤ (figures_at f j.number).pages
    → now ≤ was + most_of (figures_at f j.number) (op_of j.mark) → now ≤ was + start_raises f room switching j
beside_first f j true room was now some few high = let pages = record_is_all f j some in let more = more_than_pages j.urgent (record_pages f j) in omega (arith, pages, more, few, high)
beside_first f j false true was now some few high = let pages = record_is_all f j some in omega (arith, pages, few, high)
beside_first f j false false was now some few high = high

raises_first : (new : DeviceTold) (clock : Clock) (old : DeviceTold) (w : Wish) (room : Bool) → part_of old.fixed w.job ≡ First → is_off old ≡ false → is_some w.job.mark ≡ true → AcceptsAs w (Ok tt) old new → RoomIsLeft new clock
    → (room ≡ true → (s : ℕ) × clock.spare new.ops s × (pages_needed new.fixed new.stand ≤ s)) → new.left ≤ old.left + start_raises old.fixed room old.switching w.job
raises_first new clock old w room first on record_is (none, opens) roomy free =
    raised old.fixed w.job old.switching room old.left new.left opens.left_high (opens.left_beside first)
    (λ closed has.
    let (s, spare, fits) = free has in
    let same : pages_open new.fixed new.stand ≡ record_pages old.fixed w.job = ap (λ (d : DeviceTold). pages_open d.fixed d.stand) opens.only in
    let less = roomy (ap (λ (d : DeviceTold). d.started) opens.only ∙ (taken_by (is_open old.stand) old.started (length_refusal w.length (length_of old.fixed.numbers w.job.number)) none).1)
    (ap (λ (d : DeviceTold). d.first.off) opens.only ∙ first_on old.first.off old.second.off on) (ap (λ (d : DeviceTold). d.switching) opens.only ∙ closed)
    (ap (λ (d : DeviceTold). job_first d.fixed d.stand) opens.only ∙ ap is_first first) (ap (λ (d : DeviceTold). is_read d.stand) opens.only ∙ not_read w.job record_is) s spare fits in omega (arith, less, same))

pub starts_raise : (new : DeviceTold) (clock : Clock) → StartsRaise new clock
starts_raise new clock old w room second on record_is accepts roomy free = by (part_of old.fixed w.job) refl
  where
    by : (p : Part) → part_of old.fixed w.job ≡ p → new.left ≤ old.left + start_raises old.fixed room old.switching w.job
    by First is = raises_first new clock old w room is on record_is accepts roomy free
    by Second is = beside_first old.fixed w.job old.switching room old.left new.left record_is (second w.job.number (op_of w.job.mark) is) accepts.1.left_high

-- THE DEVICE'S TURN
on_left : (off : Bool) (left : ℕ) → (if off then 0 else left) ≤ left
on_left true left = omega arith
on_left false left = omega arith

abbrev one_if : Bool → ℕ
one_if b = if b then 1 else 0

one_at_most : (b : Bool) → one_if b ≤ 1
one_at_most true = omega arith
one_at_most false = omega arith

-- nothing more is left than the device's own work, where no job is open
own_at_most : (d : DeviceTold) (clock : Clock) (result : JobResult) (given : List ℕ) → InOrder d clock → d.stand ≡ Ended result given → d.left ≤ d.fixed.own
own_at_most d clock result given order ended =
    let none : most_open d.fixed d.stand ≡ 0 = ap (most_open d.fixed) ended in
    let most = order.bounded in omega (arith, none, most)

made_one : (ops ops_new : ℕ) → (ops_new ≡ ops) ⊎ (ops_new ≡ next_count ops) → ops_new ≤ ops + 1
made_one ops ops_new (inl same) = omega (arith, same)
made_one ops ops_new (inr next) = omega (arith, next)

-- what is left falls, or at most the device's own work is
left_by : (p : Part) (stand stand_new : Stand) (old new : DeviceTold) (clock : Clock) → new.stand ≡ stand_new → InOrder new clock → JobTurns p stand stand_new old new clock → (new.left < old.left) ⊎ (new.left ≤ new.fixed.own)
left_by p (Open j) (Open k) old new clock is order job = inl job.2
left_by p (Open j) (Ended result given) old new clock is order job = inr (own_at_most new clock result given order is)
left_by p (Ended result given) stand_new old new clock is order job = inr (own_at_most new clock result given order (is ∙ job.0))

worked_takes : (p : Part) (old new : DeviceTold) (clock : Clock) → is_off old ≡ false → Works p old new clock → InOrder new clock → TakesLeft old new
worked_takes p old new clock on works order = by works.nearer
  where
    here : left_on old ≡ old.left
    here = rw on refl

    there : left_on new ≤ new.left
    there = on_left (is_off new) new.left

    one : new.ops ≤ old.ops + 1
    one = made_one old.ops new.ops works.part.one

    read_makes : new.ops + one_if (is_read old.stand) ≤ old.ops + 1
    read_makes = by_read (is_read old.stand) works.read
      where
        by_read : (b : Bool) → (b ≡ true → (new.ops ≡ old.ops) × (new.slots ≡ old.slots)) → new.ops + one_if b ≤ old.ops + 1
        by_read true none = let same = (none refl).0 in omega (arith, same)
        by_read false none = omega (arith, one)

    by : (new.left < old.left) ⊎ Rose (part_at p old).faults (part_at p new).faults → TakesLeft old new
    by (inl less) = inl (omega (arith, here, there, read_makes, less))
    by (inr rose) = inr (inl (
      rose_of p old new clock works rose,
      elim (left_by p old.stand new.stand old new clock refl order works.job) [
        | inl less ↦ omega (arith, here, there, read_makes, less)
        | inr own ↦ let same : new.fixed.own ≡ old.fixed.own = fixed_own p works in omega (arith, here, there, read_makes, own, same)
      ],
    ))
      where
        fixed_own : (p : Part) → Works p old new clock → new.fixed.own ≡ old.fixed.own
        fixed_own First worked = ap (λ (d : DeviceTold). d.fixed.own) worked.only
        fixed_own Second worked = ap (λ (d : DeviceTold). d.fixed.own) worked.only

is_on : (b : Bool) → b ≡ false → b ≡ true → ⊥
is_on true off on = cc
is_on false off on = cc

part_off : (p : Part) (d : DeviceTold) → (part_at p d).off ≡ true → is_off d ≡ true
part_off First d off = rw off refl
part_off Second d off = by d.first.off
  where
    by : (first : Bool) → (first || d.second.off) ≡ true
    by true = refl
    by false = off

cut_takes : (p : Part) (old new : DeviceTold) → IsCut p old new → TakesLeft old new
cut_takes p old new cut = inr (inr (part_off p new (ap (λ (x : device.PartTold). x.off) cut.part.only), cut.no_read, made_one old.ops new.ops cut.part.one))

idle_takes : (old new : DeviceTold) → is_off old ≡ false → is_read old.stand ≡ false → new ≡ old → TakesLeft old new
idle_takes old new on closed same =
    let ops : new.ops ≡ old.ops = ap (λ (d : DeviceTold). d.ops) same in
    let left : left_on new ≡ left_on old = ap left_on same in
    inl (rw closed (omega (arith, ops, left)))

-- THE TRY
some_same : (a b : ℕ) → Some a ≡ Some b → a ≡ b
some_same a b is = cc

none_some : {X : Type 0} (n : ℕ) → None ≡ Some n → X
none_some n is = cc

some_none : {X : Type 0} (n : ℕ) → Some n ≡ None → X
some_none n is = cc

tried_job : (j : device.Job) (n : ℕ) → number_tried (Open j) ≡ Some n → (m : Mark) × (j.mark ≡ Some m) × (j.number ≡ n)
tried_job j n is = by j.mark refl is
  where
    by : (mark : Option Mark) → j.mark ≡ mark → (if is_some mark then Some j.number else None) ≡ Some n → (m : Mark) × (j.mark ≡ Some m) × (j.number ≡ n)
    by None mark_is none = none_some n none
    by (Some m) mark_is some = (m, mark_is, some_same j.number n some)

settled_is : (j : device.Job) (m : Mark) (n : ℕ) (given : List ℕ) (ops : ℕ) → j.mark ≡ Some m → j.number ≡ n → settled_by (Open j) (Ended JobOk given) ops ≡ Some (Wrote (instance_of (record { 0 = n })) m ops)
settled_is j m n given ops mark number = rw mark (rw number refl)

over_by : (p : Part) (old new : DeviceTold) (clock : Clock) (works : Works p old new clock) (j : device.Job) (n : ℕ) (m : Mark) (result : JobResult) (given : List ℕ) → old.stand ≡ Open j → new.stand ≡ Ended result given → j.mark ≡ Some m → j.number ≡ n
    → Writes result j.number m old new → (result ≡ JobFailed → MayFail p j old new clock) → IsTryOver n old new clock
over_by p old new clock works j n m JobOk given was is mark number writes fails =
    inl (m, ap (λ (x : Stand). settled_by x new.stand new.ops) was ∙ ap (λ (x : Stand). settled_by (Open j) x new.ops) is ∙ settled_is j m n given new.ops mark number)
over_by p old new clock works j n m JobFailed given was is mark number writes fails = elim (fails refl) [
  | inl rose ↦ inr (inl (rose_of p old new clock works rose))
  | inr worn ↦ inr (inr (j, was, subst (λ (k : ℕ). clock.worn new.ops k j.urgent) number worn.1))
]
over_by p old new clock works j n m JobCanceled given was is mark number writes fails = absurd writes
over_by p old new clock works j n m JobPending given was is mark number writes fails = absurd writes
over_by p old new clock works j n m BlockInconsistent given was is mark number writes fails = absurd writes
over_by p old new clock works j n m BlockInvalid given was is mark number writes fails = absurd writes

goes_by : (p : Part) (stand stand_new : Stand) (old new : DeviceTold) (clock : Clock) → Works p old new clock → old.stand ≡ stand → new.stand ≡ stand_new → JobTurns p stand stand_new old new clock → (n : ℕ) → number_tried stand ≡ Some n
    → (number_tried stand_new ≡ Some n) ⊎ ((number_tried stand_new ≡ None) × IsTryOver n old new clock)
goes_by p (Open j) (Open k) old new clock works was is job n tried = inl (ap (λ (x : device.Job). number_tried (Open x)) job.0 ∙ tried)
goes_by p (Open j) (Ended result given) old new clock works was is job n tried =
    let (m, mark, number) = tried_job j n tried in
    let ends = subst (λ (o : Option Mark). EndsAs o j.number result given old new) mark job.0 in
    inr (refl, over_by p old new clock works j n m result given was is mark number ends.0 job.1)
goes_by p (Ended result given) stand_new old new clock works was is job n tried = none_some n tried

none_by : (p : Part) (stand stand_new : Stand) (old new : DeviceTold) (clock : Clock) → JobTurns p stand stand_new old new clock → number_tried stand ≡ None → number_tried stand_new ≡ None
none_by p (Open j) (Open k) old new clock job none = ap (λ (x : device.Job). number_tried (Open x)) job.0 ∙ none
none_by p (Open j) (Ended result given) old new clock job none = refl
none_by p (Ended result given) stand_new old new clock job none = ap number_tried job.0

worked_tries : (p : Part) (old new : DeviceTold) (clock : Clock) → Works p old new clock → TryTurns old new clock
worked_tries p old new clock works = record {
  goes = λ n tried. goes_by p old.stand new.stand old new clock works refl refl works.job n tried;
  none = λ none. none_by p old.stand new.stand old new clock works.job none;
}

same_tries : (old new : DeviceTold) (clock : Clock) → new.stand ≡ old.stand → TryTurns old new clock
same_tries old new clock same = record { goes = λ n tried. inl (ap number_tried same ∙ tried); none = λ none. ap number_tried same ∙ none }

cut_stand : (p : Part) (old new : DeviceTold) → IsCut p old new → new.stand ≡ old.stand
cut_stand First old new cut = ap (λ (d : DeviceTold). d.stand) cut.only
cut_stand Second old new cut = ap (λ (d : DeviceTold). d.stand) cut.only

idle_closed : (stand : Stand) (switching : Bool) → (not (is_open stand) && not switching) ≡ true → is_read stand ≡ false
idle_closed (Open j) switching nothing = cc
idle_closed (Ended result given) switching nothing = refl

pub turns_take_left : (new : DeviceTold) (clock : Clock) → TurnsTakeLeft new clock
turns_take_left new clock turned.Idle old clock_old on turns =
    (idle_takes old new on (idle_closed old.stand old.switching turns.0.0) turns.0.1, same_tries old new clock (ap (λ (d : DeviceTold). d.stand) turns.0.1))
turns_take_left new clock turned.Worked old clock_old on turns =
    let p = turns.0.1.0 in
    (worked_takes p old new clock on turns.0.1.1 turns.1, worked_tries p old new clock turns.0.1.1)
turns_take_left new clock turned.Off old clock_old on turns =
    let p = turns.0.1.0 in elim turns.0.1.1 [
      | inl off ↦ absurd (is_on (is_off old) on (part_off p old off.0))
      | inr comes ↦ (cut_takes p old new comes.0, same_tries old new clock (cut_stand p old new comes.0))
    ]
turns_take_left new clock turned.Picked old clock_old on turns = absurd turns
turns_take_left new clock turned.Posted old clock_old on turns = absurd turns
