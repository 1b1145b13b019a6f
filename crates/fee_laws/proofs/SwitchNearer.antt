-- A step of a switch that is done brings its end nearer, whatever was called for it.
use Rattle.std.specs.Prelude.{IfSome, ◌&&◌, not, nat_le, take, if◌then◌else◌}
use Rattle.std.proofs.Common.{◌≡◌, ◌≢◌, inl, inr, ◌≤◌, ◌<◌, ◌+◌, ℕ, Bool, true, false, List, Option, Some, None, refl, sym, ap, ◌∙◌, subst, arith}
use Rattle.std.proofs.lemmas.Bool.{cases_lt, le-leb}
use Rattle.std.proofs.lemmas.Bool.Decides.{leb_tells}
use Rattle.nv_base.specs.declared.job.DeviceOp.TheVariants.{Read}
use Rattle.memif.specs.declared.answer.DeviceTurn.TheVariants as turn
use Rattle.memif.specs.declared.answer.JobResult.{JobResult}
use Rattle.memif.specs.declared.answer.JobResult.TheVariants.{JobFailed}
use Rattle.memif.specs.Told.{First, Job, Stand, Ended, DeviceTold, is_open, nothing_open}
use Rattle.memif.specs.Clock.{Clock}
use Rattle.memif.specs.Marks.{KeepsAll}
use Rattle.memif.specs.Calls.{JobTurns, Nearer, TurnsReady, is_read, urgent_first}
use Rattle.fls_model.specs.Told.{Told, Change}
use Rattle.fls_jobs.specs.State.{FlsState}
use Rattle.fee_switch_laws.specs.fee_log.declared.tail.Tail.{Tail}
use Rattle.fee_switch_laws.specs.fee_log.Log.{LogState, work_in}
use Rattle.fee_course.specs.declared.course.Course.{Course}
use Rattle.fee_course.specs.declared.course.Course.TheVariants as course
use Rattle.fee_switch_laws.specs.fee_switch.Banks.{BanksState, left_of}
use Rattle.fee_switch_laws.specs.Shown.{phase_shown}
use Rattle.promise_device.specs.Making.{Making}
use Rattle.fee_told.specs.Device.{told_of, is_switching}
use Rattle.fee_told.specs.Figures.{OpenWork, Waits, turns_owed, wait_of, ready_of, left_of as left_in}
use Rattle.fee_told.specs.Turns.{TakesTurn}
use Rattle.fee_told.proofs.Figures.{ready_stays, urgent_nears}
use Rattle.fee_laws.specs.declared.job.FeeJob.{FeeJob}
use Rattle.fee_laws.specs.Inside.{Parts, body_of, device_of, memory_of, mark_of, stand_of, fixed_in}
use Rattle.fee_laws.specs.Record.{IsReady}
use Rattle.fee_laws.specs.Work.{work_of, waits_of, pages_free, begins_next, takes_append, seal_turns, switch_turns, turns_before, is_owed}
use Rattle.fee_laws.specs.Switches.{IsBehind}
use Rattle.fee_laws.proofs.Order.{urgent_is}
use Rattle.fee_laws.proofs.Taken.{takes_one}
use Rattle.fee_laws.proofs.SwitchFigures.{NoneBegins, still_behind, free_none, switch_none, has_mark, left_falls}
use Rattle.fee_laws.proofs.GoneOn.{if_else}

-- SMALL
-- where a switch is open something is
pub nothing_by : (x y : Bool) → y ≡ true → not x && not y ≡ false
nothing_by true y e = refl
nothing_by false y e = ap not e

pub switching_by : (c : Course) (b : BanksState) (body : List ℕ) → is_switching (phase_shown (Some c) b body) ≡ true
switching_by (course.Erase n) b body = refl
switching_by (course.Copy w) b body = refl
switching_by course.Head b body = refl
switching_by (course.Gate failed) b body = refl

-- a switch is open
pub switch_is_open : (m : Making) (entry : Told) (s : Parts) (c : Course) → s.started ≡ true → s.banks.course ≡ Some c → nothing_open (told_of (device_of m entry s)) ≡ false
switch_is_open m entry s c started course =
    let body = body_of (work_in s.banks.copies.tail) s.banks.buffer in
    nothing_by (is_open (memory_of s).stand) (s.started && is_switching (memory_of s).phase) ((λ i. started i && is_switching (phase_shown (course i) s.banks body)) ∙ switching_by c s.banks body)

-- each job, if any
pub each_job : (P Q : FeeJob → Type 0) (o : Option FeeJob) → ((j : FeeJob) → P j → Q j) → IfSome o P → IfSome o Q
each_job P Q None holds is = tt
each_job P Q (Some j) holds is = holds j is

pub both_jobs : (P Q R : FeeJob → Type 0) (o : Option FeeJob) → ((j : FeeJob) → P j → Q j → R j) → IfSome o P → IfSome o Q → IfSome o R
both_jobs P Q R None holds p q = tt
both_jobs P Q R (Some j) holds p q = holds j p q

pub le_true : (n : ℕ) → 1 ≤ n → nat_le 1 n ≡ true
le_true n less = le-leb 1 n less

pub not_sealed : (n : ℕ) → (1 ≤ n → ⊥) → nat_le 1 n ≡ false
not_sealed n none = elim (leb_tells 1 n) [ inl is ↦ absurd (none is.1) | inr is ↦ is.0 ]

-- the seal comes nearer, once it began
pub record Seals (c c' : Course) : Type 0 where
  pub takes : takes_append (Some c') ≡ true → takes_append (Some c) ≡ true
  pub nearer : 1 ≤ seal_turns (Some c) → (seal_turns (Some c') < seal_turns (Some c)) × (1 ≤ seal_turns (Some c'))

-- turns before an urgent write
pub before_by : (t : Tail) (n : ℕ) → 1 ≤ n → turns_before t n ≡ n
before_by t n some = ap (λ (b : Bool). if b then n else turns_owed (is_owed t)) (le_true n some)

-- the turns of an open job
pub no_read : (content : List ℕ) (o : Option FeeJob) (last : JobResult) (given : ℕ) → IfSome o (λ j. j.op ≢ Read) → is_read (stand_of content o last given) ≡ false
no_read content None last given writes = refl
no_read content (Some j) last given writes = has_mark j.op (take j.length content) writes

pub turns_keep : (content : List ℕ) (o : Option FeeJob) (last : JobResult) (given : ℕ) (old new : DeviceTold) (clock : Clock) → KeepsAll old new → new.left < old.left
    → JobTurns First (stand_of content o last given) (stand_of content o last given) old new clock
turns_keep content None last given old new clock keeps less = (refl, keeps)
turns_keep content (Some j) last given old new clock keeps less = (refl, keeps, less)

-- a job that waits behind a switch is no read
pub all_write : (b : BanksState) (o : Option FeeJob) → IfSome o (IsBehind b) → IfSome o (λ j. j.op ≢ Read)
all_write b o behind = each_job (IsBehind b) (λ j. j.op ≢ Read) o (λ j x. x.0) behind

-- THE STEP
module _ (m : Making) (s : Parts) (c c' : Course) (flags : List Bool) (log : LogState) (buffer : List ℕ) (course_is : s.banks.course ≡ Some c) (idle : work_in s.banks.log.tail ≡ None) (behind_is : IfSome s.job (IsBehind s.banks)) (was_ready : IfSome s.job (IsReady s.banks)) (seals : Seals c c') where
  abbrev b : BanksState
  b = record s.banks { course = Some c'; log = record s.banks.log { flags = flags }; copies = log; buffer = buffer }

  abbrev at : Option FeeJob → Stand
  at o = stand_of s.content o s.last s.given

  abbrev w : OpenWork
  w = work_of m.reserve s.banks s.job

  abbrev v : OpenWork
  v = work_of m.reserve b s.job

  abbrev n : ℕ
  n = seal_turns s.banks.course

  abbrev waits : Option FeeJob → Waits
  waits o = waits_of s.banks o

  abbrev waits' : Option FeeJob → Waits
  waits' o = waits_of b o

  -- what is so behind it
  pub record IsNearer : Type 0 where
    pub writes : IfSome s.job (λ j. j.op ≢ Read)
    pub none : NoneBegins b s.job
    pub ready : IfSome s.job (IsReady b)
    pub falls : left_in (at s.job) v + 1 ≡ left_in (at s.job) w
    pub stays : ready_of m.reserve (nat_le 1 n) (pages_free s.banks s.job) ≤ ready_of m.reserve (nat_le 1 (seal_turns (Some c'))) (pages_free b s.job)
    pub urgent : urgent_first (fixed_in m) (at s.job) ≡ true
        → (x : ℕ) → wait_of (waits s.job) ≡ Some x → ((y : ℕ) × (wait_of (waits' s.job) ≡ Some y) × (y < x)) × ((given : List ℕ) → at s.job ≢ Ended JobFailed given)

  takes_on : takes_append (Some c') ≡ true → takes_append s.banks.course ≡ true
  takes_on more = ap takes_append course_is ∙ seals.takes more

  none_before : NoneBegins s.banks s.job
  none_before = each_job (IsBehind s.banks) (λ j. begins_next s.banks j ≡ false) s.job (λ j x. x.1) behind_is

  none_then : NoneBegins b s.job
  none_then = each_job (IsBehind s.banks) (λ j. begins_next b j ≡ false) s.job (λ j x. still_behind s.banks c' flags log j takes_on x.1) behind_is

  ready_by : (j : FeeJob) → IsReady s.banks j → begins_next s.banks j ≡ false → IsReady b j
  ready_by j was none promised alone = elim (was promised alone) [
    | inl begins ↦ absurd (let x : true ≡ false = sym begins ∙ none in cc x)
    | inr seal ↦ inr (seals.nearer (subst (λ (o : Option Course). 1 ≤ seal_turns o) course_is seal)).1
  ]

  switch_was : w.switch ≡ left_of s.banks
  switch_was = ap (switch_turns m.reserve s.banks s.job) course_is ∙ switch_none m.reserve s.banks s.job c none_before

  switch_now : v.switch ≡ left_of b
  switch_now = switch_none m.reserve b s.job c' none_then

  free_same : pages_free b s.job ≡ pages_free s.banks s.job
  free_same = free_none b s.job none_then ∙ sym (free_none s.banks s.job none_before)

  seals_then : 1 ≤ n → (seal_turns (Some c') < n) × (1 ≤ seal_turns (Some c'))
  seals_then some =
      subst (λ (o : Option Course). 1 ≤ seal_turns o → (seal_turns (Some c') < seal_turns o) × (1 ≤ seal_turns (Some c'))) (sym course_is) seals.nearer some

  -- an urgent write that is promised waits for the seal
  near_by : (j : FeeJob) → IsReady s.banks j → begins_next s.banks j ≡ false → j.urgent ≡ true → (x : ℕ) → wait_of (waits (Some j)) ≡ Some x → (y : ℕ) × (wait_of (waits' (Some j)) ≡ Some y) × (y < x)
  near_by j was none urgent x wait = by_promise j.promised refl
    where
      by_promise : (p : Bool) → j.promised ≡ p → (y : ℕ) × (wait_of (waits' (Some j)) ≡ Some y) × (y < x)
      by_promise true e =
          let seal : 1 ≤ n = elim (was e idle) [ inl begins ↦ absurd (let z : true ≡ false = sym begins ∙ none in cc z) | inr some ↦ some ] in
          let after = seals_then seal in
          let one = before_by s.banks.log.tail n seal in
          let two = before_by s.banks.log.tail (seal_turns (Some c')) after.1 in
          urgent_nears (waits (Some j)) (waits' (Some j)) x urgent urgent refl (omega (arith, one, two, after.0)) wait
      by_promise false e = (let z : wait_of (waits (Some j)) ≡ None = (λ i. if urgent i then (if e i then Some ((waits (Some j)).before + (waits (Some j)).pages) else None) else Some (waits (Some j)).before) in absurd (let y = sym z ∙ wait in cc y))

  urgent_by : (o : Option FeeJob) → IfSome o (IsReady s.banks) → IfSome o (λ j. begins_next s.banks j ≡ false) → urgent_first (fixed_in m) (at o) ≡ true
      → (x : ℕ) → wait_of (waits o) ≡ Some x → ((y : ℕ) × (wait_of (waits' o) ≡ Some y) × (y < x)) × ((given : List ℕ) → at o ≢ Ended JobFailed given)
  urgent_by None was none urgent x wait = cc urgent
  urgent_by (Some j) was none urgent x wait =
      let j' : Job = record { number = j.number.0; mark = mark_of j.op (take j.length s.content); urgent = j.urgent } in
      (near_by j was none (sym (urgent_is m j') ∙ urgent) x wait, λ given same. cc same)

  pub is_nearer : left_of b + 1 ≡ left_of s.banks → IsNearer
  is_nearer one = record {
    writes = all_write s.banks s.job behind_is;
    none = none_then;
    ready = both_jobs (IsReady s.banks) (λ j. begins_next s.banks j ≡ false) (IsReady b) s.job ready_by was_ready none_before;
    falls = left_falls s.content s.job s.last s.given w v refl refl (omega (arith, switch_was, switch_now, one));
    stays = ready_stays m.reserve (pages_free s.banks s.job) (pages_free b s.job) (nat_le 1 n) (nat_le 1 (seal_turns (Some c')))
        (elim (cases_lt 0 n) [
          | inl some ↦ inl (le_true (seal_turns (Some c')) (seals_then (omega arith)).1)
          | inr none ↦ inr (inl ((let same = free_same in omega (arith, same)), not_sealed n (λ some. absurd (omega arith))))
        ]);
    urgent = λ urgent x wait. urgent_by s.job was_ready none_before urgent x wait;
  }

  -- so is its turn, whatever its call changed beside
  module _ (entry : Told) (f : FlsState) (faults : ℕ) (operations : List Change) (near : IsNearer) where
    abbrev t : Parts
    t = record s { fls = f; banks = b; faults = faults; operations = operations }

    abbrev old : DeviceTold
    old = told_of (device_of m entry s)

    abbrev new : DeviceTold
    new = told_of (device_of m entry t)

    pub fewer : new.left < old.left
    fewer = let one : new.left + 1 ≡ old.left = near.falls in omega (arith, one)

    pub one_taken : TakesTurn turn.Worked (device_of m entry s) (device_of m entry t)
    one_taken = takes_one m entry s t (λ some. refl) near.falls

    pub job_goes_on : (clock : Clock) → KeepsAll old new → JobTurns First old.stand new.stand old new clock
    job_goes_on clock keeps = turns_keep s.content s.job s.last s.given old new clock keeps fewer

    pub readies : TurnsReady old new
    readies calm = if_else (urgent_first old.fixed old.stand) (Nearer old new) (old.ready ≤ new.ready)
        (λ urgent x wait. (let it = near.urgent urgent x wait in (near.stays, it.0, it.1)))
        (λ calm'. near.stays)
