-- What the halves of a turn do at the device, as a move of the promise.
use Rattle.std.specs.Prelude.{◌||◌, ◌&&◌, not, if◌then◌else◌, nat_lt, nat_le}
use Rattle.std.specs.Option.{option_map_or}
use Rattle.std.proofs.lemmas.Bool.{cases_Bool, eq-eqb, lt-ltb, le-leb}
use Rattle.std.proofs.Common.{◌≡◌, ◌≢◌, inl, inr, ℕ, ◌+◌, ◌≤◌, Bool, true, false, List, [], ◌∷◌, length, is_some, Option, Some, None, refl, sym, ap, subst, ◌∙◌, arith}
use Rattle.nvm_laws.specs.nv_base.Count.{last_count, Rose}
use Rattle.nvm_laws.specs.nv_base.Marks.{number_of, instance_of}
use Rattle.nvm_laws.specs.nv_base.declared.job.DeviceOp.TheVariants as op
use Rattle.nvm_laws.specs.memif.Told as memif
use Rattle.nvm_laws.specs.memif.declared.answer.DeviceRefusal.TheVariants.{Busy, Uninit}
use Rattle.nvm_laws.specs.memif.declared.answer.JobResult.TheVariants.{JobOk, JobFailed, JobPending, JobCanceled, BlockInconsistent, BlockInvalid}
use Rattle.nvm_laws.specs.memif.Told.{DeviceTold, Fixed, Part, First, Second, PartTold, Stand, length_of, Open, Ended, figures_at, most_of, op_of, faults_of, is_off, is_open, nothing_open}
use Rattle.nvm_laws.specs.memif.Clock.{Clock}
use Rattle.nvm_laws.specs.memif.Calls.{IsCut, RoomIsLeft, Works, is_read, pages_needed as memif_needed, length_refusal}
use Rattle.nvm_laws.specs.block_machine.Words.{Mark, Content, Invalid, Erased, JobKind, ReadJob, WriteJob, RestoreJob, EraseJob, InvalidateJob, ReadAllJob, WriteAllJob, Entry, Wrote, Off, Configuration}
use Rattle.nvm_laws.specs.block_machine.State.{State, Job}
use Rattle.nvm_laws.specs.block_machine.Blocks.{job_block, kind_of, mark_by, mark_of, rank_of}
use Rattle.nvm_laws.specs.promise_blocks.Payment.{Worn}
use Rattle.nvm_core.specs.OperationStart.{LeavesDevice}
use Rattle.nvm_laws.specs.job_programs.Program.{operation, works}
use Rattle.nvm_laws.specs.block_machine.Steps.{after_from}
use Rattle.nvm_laws.specs.job_progress.Hand.{HandState, with_start}
use Rattle.nvm_laws.specs.nvm_device_laws.Turn.{settled_by, wrote_by}
use Rattle.nvm_laws.specs.AtDevice.{Begins}
use Rattle.nvm_laws.specs.Turns.{hand_by}
use Rattle.nvm_laws.specs.declared.turned.Turned.{Turned}
use Rattle.nvm_laws.specs.declared.turned.Turned.TheVariants as turned
use Rattle.nvm_core.specs.BehindDevice.{TurnsDevice, asked_by}
use Rattle.nvm_core.specs.Operations.{left_on, number_tried, start_raises, IsTryOver}
use Rattle.nvm_core.proofs.Operations.{starts_raise, turns_take_left}
use Rattle.nvm_laws.specs.promise_blocks.Moves.{Moment, Move, entry_list, is_found, is_picked, is_off as is_off_entry}
use Rattle.nvm_laws.specs.promise_blocks.Work.{Costs, EndsTry, IsWorked, MayBegin, pages_needed as needed, begun_adds, loss_adds, has_risen, is_posted, is_written, tries_of, try_adds}
use Rattle.nvm_core.specs.DeviceWork.{IsSimple, costs_in, moment_in, tries_left, work_in}
use Rattle.nvm_core.proofs.AtOperation.{AtOperation, open_same}
use Rattle.nvm_core.proofs.TriesLeft.{begun_takes, turned_few}

-- NUMBERS AND TESTS
pub none_some : {X : Type 0} (n : ℕ) → None ≡ Some n → X
none_some n is = cc is

some_same : {X : Type 0} (a b : X) → Some a ≡ Some b → a ≡ b
some_same a b is = cc is

pub true_false : {X : Type 0} (b : Bool) → b ≡ true → b ≡ false → X
true_false true on off = cc off
true_false false on off = cc on

or_true : (b : Bool) → (b || true) ≡ true
or_true true = refl
or_true false = refl

number_is : (n : ℕ) → number_of (instance_of (record { 0 = n })) ≡ n
number_is n = omega arith

pub risen : (before behind : ℕ) → Rose before behind → has_risen before behind ≡ true
risen before behind (inl more) = ap (λ (b : Bool). b || nat_le last_count before) (lt-ltb before behind more)
risen before behind (inr ends) = ap (λ (b : Bool). nat_lt before behind || b) (le-leb last_count before ends.0) ∙ or_true (nat_lt before behind)

one_where : (b : Bool) → b ≡ true → 1 ≤ (if b then 1 else 0)
one_where true on = omega arith
one_where false on = cc on

-- THE RECORD OF A MARK
-- the operation of a mark is no read
op_not_read : (mark : Option Mark) → is_some mark ≡ true → op_of mark ≡ op.Read → ⊥
op_not_read None some read = cc some
op_not_read (Some (Content bytes)) some read = cc read
op_not_read (Some Invalid) some read = cc read
op_not_read (Some Erased) some read = cc read

no_mark : (kind : JobKind) (content : Option (List ℕ × ℕ)) → is_some (mark_by kind content) ≡ true → kind ≢ ReadJob
no_mark kind content some is = by kind is some
  where
    by : (kind : JobKind) → kind ≡ ReadJob → is_some (mark_by kind content) ≡ true → ⊥
    by ReadJob is some = cc some
    by WriteJob is some = cc is
    by RestoreJob is some = cc is
    by EraseJob is some = cc is
    by InvalidateJob is some = cc is
    by ReadAllJob is some = cc is
    by WriteAllJob is some = cc is

-- THE ENTRY
pub entry_is : (o : Option Entry) (e : Entry) → entry_list o ≡ e ∷ [] → o ≡ Some e
entry_is None e is = cc is
entry_is (Some x) e is = cc is

pub entry_none : (o : Option Entry) → entry_list o ≡ [] → o ≡ None
entry_none None is = refl
entry_none (Some x) is = cc is

-- WHAT A MOVE ADDS
loss_if_risen : (f : Costs) (before : Moment) (m : Move) → has_risen before.faults m.behind.faults ≡ true → f.switch + 1 ≤ loss_adds f before m
loss_if_risen f before m rose =
    let here : (if has_risen before.faults m.behind.faults then f.switch + 1 else 0) ≡ f.switch + 1 = ap (λ (b : Bool). if b then f.switch + 1 else 0) rose in omega (arith, here)

loss_if_off : (f : Costs) (before : Moment) (m : Move) → is_off_entry m.entry ≡ true → 1 ≤ loss_adds f before m
loss_if_off f before m off =
    let here = one_where (is_off_entry m.entry) off in omega (arith, here)

-- of a record that begins, with no job open before it
adds_same : (f : Fixed) (room switching busy : Bool) (kind : JobKind) (number : ℕ) (mark : Option Mark) (urgent : Bool) → busy ≡ switching → is_some mark ≡ true → works kind ≡ true → op_of mark ≡ operation kind
    → try_adds (costs_in f) room busy urgent kind number ≡ start_raises f room switching (record { number = number; mark = mark; urgent = urgent })
adds_same f room switching busy kind number None urgent same some on of = cc some
adds_same f room true busy kind number (Some m) urgent same some on of = rw same refl
adds_same f true false busy kind number (Some m) urgent same some on of = rw same refl
adds_same f false false busy kind number (Some m) urgent same some on of =
    rw same (ap (λ (b : Bool). if b then most_of (figures_at f number) (operation kind) else 0) on ∙ ap (most_of (figures_at f number)) (sym of))

busy_by : (stand : Stand) (switching : Bool) → is_open stand ≡ false → not (not (is_open stand) && not switching) ≡ switching
busy_by stand true closed = rw closed refl
busy_by stand false closed = rw closed refl

op_is : (kind : JobKind) (content : Option (List ℕ × ℕ)) → works kind ≡ true → is_some (mark_by kind content) ≡ true → op_of (mark_by kind content) ≡ operation kind
op_is ReadJob content on some = cc some
op_is WriteJob None on some = cc some
op_is WriteJob (Some x) on some = refl
op_is RestoreJob content on some = cc some
op_is EraseJob content on some = refl
op_is InvalidateJob content on some = refl
op_is ReadAllJob content on some = cc some
op_is WriteAllJob content on some = cc some

-- THE DEVICE'S TURN
or_false : (a b : Bool) → (a || b) ≡ false → (a ≡ false) × (b ≡ false)
or_false true b is = cc is
or_false false b is = (refl, is)

worked_on : (p : Part) (b n : DeviceTold) (clock : Clock) → Works p b n clock → is_off b ≡ false → is_off n ≡ false
worked_on First b n clock works on =
    let (first, second) = or_false b.first.off b.second.off on in
    let own : n.first.off ≡ false = ap (λ (x : PartTold). x.off) works.part.only in
    let other : n.second.off ≡ false = ap (λ (d : DeviceTold). d.second.off) works.only ∙ second in rw (own, other) refl
worked_on Second b n clock works on =
    let (first, second) = or_false b.first.off b.second.off on in
    let own : n.second.off ≡ false = ap (λ (x : PartTold). x.off) works.part.only in
    let other : n.first.off ≡ false = ap (λ (d : DeviceTold). d.first.off) works.only ∙ first in rw (own, other) refl

off_stand : (b : DeviceTold) (clock_b : Clock) (n : DeviceTold) (clock_n : Clock) → TurnsDevice turned.Off b clock_b n clock_n → n.stand ≡ b.stand
off_stand b clock_b n clock_n turns = elim turns.0.1.1 [
  | inl off ↦ ap (λ (d : DeviceTold). d.stand) off.2
  | inr comes ↦ by turns.0.1.0 comes.0
]
  where
    by : (p : Part) → IsCut p b n → n.stand ≡ b.stand
    by First cut = ap (λ (d : DeviceTold). d.stand) cut.only
    by Second cut = ap (λ (d : DeviceTold). d.stand) cut.only

settles_none : (stand : Stand) (ops : ℕ) → settled_by stand stand ops ≡ None
settles_none (Open j) ops = refl
settles_none (Ended result given) ops = refl

-- it posts nothing, and picks nothing
abbrev IsOther : Option Entry → Type 0
IsOther e = (is_posted e ≡ false) × (is_picked e ≡ false)

settled_posts : (old new : Stand) (ops : ℕ) → IsOther (settled_by old new ops)
settled_posts (Open j) (Ended JobOk given) ops = wrote j.mark
  where
    wrote : (mark : Option Mark) → IsOther (wrote_by j.number mark ops)
    wrote None = (refl, refl)
    wrote (Some m) = (refl, refl)
settled_posts (Open j) (Ended JobFailed given) ops = (refl, refl)
settled_posts (Open j) (Ended JobPending given) ops = (refl, refl)
settled_posts (Open j) (Ended JobCanceled given) ops = (refl, refl)
settled_posts (Open j) (Ended BlockInconsistent given) ops = (refl, refl)
settled_posts (Open j) (Ended BlockInvalid given) ops = (refl, refl)
settled_posts (Open j) (Open k) ops = (refl, refl)
settled_posts (Ended result given) new ops = (refl, refl)

asked_posts : (answer : Turned) (old new : Stand) (ops : ℕ) → IsOther (asked_by answer old new ops)
asked_posts turned.Off old new ops = (refl, refl)
asked_posts turned.Idle old new ops = settled_posts old new ops
asked_posts turned.Worked old new ops = settled_posts old new ops
asked_posts turned.Picked old new ops = settled_posts old new ops
asked_posts turned.Posted old new ops = settled_posts old new ops

-- A TURN BEHIND THE FIRST HALF
-- what the first half began: the hand and the device before it and between
pub record HalfBegins (c : Configuration) (s : State) (room : ℕ → Type 0) (hand hand_b : Option HandState) (d b : DeviceTold) : Type 0 where
  pub begins : Option ℕ
  pub tried : (if is_some begins then begins else number_tried d.stand) ≡ number_tried b.stand
  pub may : (n : ℕ) → begins ≡ Some n → MayBegin c s (work_in hand d) n
  pub tries : tries_left hand_b (is_open b.stand) + (if is_some begins then 1 else 0) ≤ tries_left hand (is_open d.stand)
  pub raises : (test : ℕ → Bool) → ((n : ℕ) → test n ≡ true → room n) → (before : Moment) → before.busy ≡ not (nothing_open d)
      → b.left ≤ d.left + begun_adds (costs_in d.fixed) test c before s begins + (if is_read b.stand then 1 else 0)

module _ (c : Configuration) (s : State) (room : ℕ → Type 0) (d b : DeviceTold) where
  pub same_begins : (hand hand_b : Option HandState) → tries_left hand_b (is_open d.stand) ≡ tries_left hand (is_open d.stand) → b ≡ d → HalfBegins c s room hand hand_b d b
  same_begins hand hand_b tries same = record {
    begins = None;
    tried = ap (λ (x : DeviceTold). number_tried x.stand) (sym same);
    may = λ n none. none_some n none;
    tries = let stood : tries_left hand_b (is_open b.stand) ≡ tries_left hand_b (is_open d.stand) = ap (λ (x : DeviceTold). tries_left hand_b (is_open x.stand)) same in omega (arith, stood, tries);
    raises = λ test has before busy. let left : b.left ≡ d.left = ap (λ (x : DeviceTold). x.left) same in omega (arith, left);
  }

  -- the device took the operation of the job in hand
  module _ (simple : IsSimple d.fixed) (on : is_off d ≡ false) (clock : Clock) (roomy : RoomIsLeft b clock) (free : (n : ℕ) → room n → (x : ℕ) × clock.spare b.ops x × (n ≤ x))
      (h : HandState) (few : h.program.failures ≤ h.program.retries) (begun : Begins h d b) (at : AtOperation c s b.stand) where
    stand_is : b.stand ≡ Open begun.wish.job
    stand_is = ap (λ (x : DeviceTold). x.stand) begun.accepts.1.only

    job_is : begun.wish.job ≡ record { number = number_of (record { block = job_block at.job; index = at.index }); mark = mark_of at.job; urgent = (rank_of c at.job).immediate }
    job_is = open_same _ _ (sym stand_is ∙ at.is)

    closed : is_open d.stand ≡ false
    closed = by (is_open d.stand) begun.accepts.0
      where
        by : (t : Bool) → (if t then Some Busy else (if d.started then length_refusal begun.wish.length (length_of d.fixed.numbers begun.wish.job.number) else Some Uninit)) ≡ None → t ≡ false
        by true is = cc is
        by false is = refl

    none_tried : number_tried d.stand ≡ None
    none_tried = by d.stand closed
      where
        by : (x : Stand) → is_open x ≡ false → number_tried x ≡ None
        by (Open j) open_now = cc open_now
        by (Ended result given) open_now = refl

    abbrev number : ℕ
    number = number_of (record { block = job_block at.job; index = at.index })

    -- a read raises what is left by one turn
    reads : is_some (mark_of at.job) ≡ false → HalfBegins c s room (Some h) (Some (with_start h)) d b
    reads none = record {
      begins = None;
      tried = none_tried ∙ sym (ap number_tried at.is ∙ ap (λ (t : Bool). if t then Some number else None) none);
      may = λ n no_one. none_some n no_one;
      tries = let takes = begun_takes h d b few begun in omega (arith, takes);
      raises = λ test has before busy.
          let high = begun.accepts.1.left_high in
          let mark : begun.wish.job.mark ≡ None = ap (λ (j : memif.Job). j.mark) job_is ∙ is_none (mark_of at.job) none in
          let most : most_of (figures_at d.fixed begun.wish.job.number) (op_of begun.wish.job.mark) ≡ (figures_at d.fixed begun.wish.job.number).read = ap (λ (o : Option Mark). most_of (figures_at d.fixed begun.wish.job.number) (op_of o)) mark in
          let one = simple.reads begun.wish.job.number in
          let read = one_where (is_read b.stand) (ap is_read stand_is ∙ ap (λ (o : Option Mark). is_read (Open (record begun.wish.job { mark = o }))) mark) in omega (arith, high, most, one, read);
    }
      where
        is_none : (o : Option Mark) → is_some o ≡ false → o ≡ None
        is_none None no_one = refl
        is_none (Some m) no_one = cc no_one

    -- a try of a record
    tries : is_some (mark_of at.job) ≡ true → HalfBegins c s room (Some h) (Some (with_start h)) d b
    tries some = record {
      begins = Some number;
      tried = sym (ap number_tried at.is ∙ ap (λ (t : Bool). if t then Some number else None) some);
      may = λ n is. record {
        none = none_tried;
        job = at.job;
        hand = at.hand;
        writes = no_mark (kind_of at.job) at.job.content some;
        index = at.index;
        one = at.one;
        number_is = sym (some_same number n is);
      };
      tries = begun_takes h d b few begun;
      raises = λ test has before busy.
          let urgent = (rank_of c at.job).immediate in
          let t = test (needed (costs_in d.fixed) urgent number) in
          let wanted : memif_needed b.fixed b.stand ≡ needed (costs_in d.fixed) urgent number =
          ap (λ (x : DeviceTold). memif_needed x.fixed b.stand) begun.accepts.1.only ∙ ap (memif_needed d.fixed) at.is ∙ ap (λ (k : Bool). (if k then (figures_at d.fixed number).pages else 0) + (if urgent then 0 else d.fixed.reserve)) some in
          let raise = starts_raise b clock d begun.wish t simple.second on (ap (λ (j : memif.Job). is_some j.mark) job_is ∙ some) begun.accepts roomy
          (λ yes. let (x, spare, fits) = free (needed (costs_in d.fixed) urgent number) (has (needed (costs_in d.fixed) urgent number) yes) in (x, spare, omega (arith, wanted, fits))) in
          let same : begun_adds (costs_in d.fixed) test c before s (Some number) ≡ start_raises d.fixed t d.switching begun.wish.job =
          ap (λ (o : Option Job). option_map_or (λ j. try_adds (costs_in d.fixed) (test (needed (costs_in d.fixed) (rank_of c j).immediate number)) before.busy (rank_of c j).immediate (kind_of j) number) o 0) at.hand
          ∙ adds_same d.fixed t d.switching before.busy (kind_of at.job) number (mark_of at.job) urgent (busy ∙ busy_by d.stand d.switching closed) some at.works_on (op_is (kind_of at.job) at.job.content at.works_on some)
          ∙ ap (start_raises d.fixed t d.switching) (sym job_is) in omega (arith, raise, same);
    }

    pub begins_half : HalfBegins c s room (Some h) (Some (with_start h)) d b
    begins_half = elim (cases_Bool (is_some (mark_of at.job))) [ inl some ↦ tries some | inr none ↦ reads none ]

left_where_on : (d : DeviceTold) → is_off d ≡ false → left_on d ≡ d.left
left_where_on d on = ap (λ (b : Bool). if b then 0 else d.left) on

module _ (c : Configuration) (s : State) (room : ℕ → ℕ → Type 0) (worn : Worn) (d b n : DeviceTold) (clock_b clock_n : Clock) (answer : Turned) (turns : TurnsDevice answer b clock_b n clock_n)
    (hand_d hand_b : Option HandState) (begun : HalfBegins c s (room d.ops) hand_d hand_b d b) (leaves : LeavesDevice d b) (on : is_off d ≡ false) (m : Move) (behind : m.behind ≡ moment_in n) (entry : m.entry ≡ asked_by answer b.stand n.stand n.ops)
    (hand : (j : memif.Job) → b.stand ≡ Open j → (job : Job) × (s.hand ≡ Some job) × (j.urgent ≡ (rank_of c job).immediate)) (is_worn : (k : ℕ) (urgent : Bool) → clock_n.worn n.ops k urgent → worn n.ops k urgent) where
  on_b : is_off b ≡ false
  on_b = ap is_off leaves ∙ on

  ops_now : m.behind.ops ≡ n.ops
  ops_now = ap (λ (x : Moment). x.ops) behind

  risen_in : Rose (faults_of b) (faults_of n) → has_risen (faults_of d) m.behind.faults ≡ true
  risen_in rose = ap (has_risen (faults_of d)) (ap (λ (x : Moment). x.faults) behind) ∙ risen (faults_of d) (faults_of n) (subst (λ (k : ℕ). Rose k (faults_of n)) (ap faults_of leaves) rose)

  goes_off : is_off n ≡ true → answer ≡ turned.Off
  goes_off off = by answer turns
    where
      by : (a : Turned) → TurnsDevice a b clock_b n clock_n → a ≡ turned.Off
      by turned.Off is = refl
      by turned.Worked is = true_false (is_off n) off (worked_on is.0.1.0 b n clock_n is.0.1.1 on_b)
      by turned.Idle is = true_false (is_off n) off (ap is_off is.0.1 ∙ on_b)
      by turned.Picked is = absurd is
      by turned.Posted is = absurd is

  adds_up : (test : ℕ → Bool) → ((p : ℕ) → test p ≡ true → room d.ops p) → m.behind.ops + left_on n ≤ d.ops + left_on d + (begun_adds (costs_in d.fixed) test c (moment_in d) s begun.begins + loss_adds (costs_in d.fixed) (moment_in d) m)
  adds_up test has =
      let raise = begun.raises test has (moment_in d) refl in
      let ops : b.ops ≡ d.ops = ap (λ (x : DeviceTold). x.ops) leaves in
      let own : b.fixed.own ≡ d.fixed.own = ap (λ (x : DeviceTold). x.fixed.own) leaves in
      let before = left_where_on d on in
      let between = left_where_on b on_b in
      elim (turns_take_left n clock_n answer b clock_b on_b turns).0 [
        | inl calm ↦ omega (arith, ops_now, ops, before, between, raise, calm)
        | inr (inl (rose, sum)) ↦ let loss = loss_if_risen (costs_in d.fixed) (moment_in d) m (risen_in rose) in omega (arith, ops_now, ops, own, before, between, raise, sum, loss)
        | inr (inr (off, no_read, one)) ↦
            let ends : asked_by answer b.stand n.stand n.ops ≡ Some (Off n.ops) = ap (λ (a : Turned). asked_by a b.stand n.stand n.ops) (goes_off off) in
            let loss = loss_if_off (costs_in d.fixed) (moment_in d) m (ap is_off_entry (entry ∙ ends)) in
            let none : left_on n ≡ 0 = ap (λ (t : Bool). if t then 0 else n.left) off in omega (arith, ops_now, ops, loss, none, one)
      ]

  written_is : (k : ℕ) (mark : Mark) → m.entry ≡ Some (Wrote (instance_of (record { 0 = k })) mark n.ops) → is_written k m.entry ≡ true
  written_is k mark is = ap (is_written k) is ∙ eq-eqb (number_of (instance_of (record { 0 = k }))) k (number_is k)

  wrote_now : (k : ℕ) (mark : Mark) → settled_by b.stand n.stand n.ops ≡ Some (Wrote (instance_of (record { 0 = k })) mark n.ops) → is_written k m.entry ≡ true
  wrote_now k mark settled = by answer turns entry
    where
      by : (a : Turned) → TurnsDevice a b clock_b n clock_n → m.entry ≡ asked_by a b.stand n.stand n.ops → is_written k m.entry ≡ true
      by turned.Off is e = never (sym (settles_none b.stand n.ops) ∙ ap (λ (x : Stand). settled_by b.stand x n.ops) (sym (off_stand b clock_b n clock_n is)) ∙ settled)
        where
          never : {X : Type 0} {e : Entry} → None ≡ Some e → X
          never none = cc none
      by turned.Worked is e = written_is k mark (e ∙ settled)
      by turned.Idle is e = written_is k mark (e ∙ settled)
      by turned.Picked is e = absurd is
      by turned.Posted is e = absurd is

  why : (k : ℕ) → IsTryOver k b n clock_n → EndsTry worn c s k (moment_in d) m
  why k (inl (mark, settled)) = inl (ap (λ (t : Bool). t || (has_risen (faults_of d) m.behind.faults || (is_picked m.entry || is_found m.entry))) (wrote_now k mark settled))
  why k (inr (inl rose)) = inl (ap (λ (t : Bool). is_written k m.entry || (t || (is_picked m.entry || is_found m.entry))) (risen_in rose) ∙ or_true (is_written k m.entry))
  why k (inr (inr (j, stands, was))) =
      let (job, is, urgent) = hand j stands in
      inr (job, is, subst (λ (ops : ℕ). worn ops k (rank_of c job).immediate) (sym ops_now) (subst (λ (t : Bool). worn n.ops k t) urgent (is_worn k j.urgent was)))

  pub works_behind : IsWorked (costs_in d.fixed) room worn c (moment_in d) s (work_in hand_d d) m (record { begins = begun.begins; behind = work_in (hand_by b.stand n.stand hand_b) n })
  works_behind =
      let taken = (turns_take_left n clock_n answer b clock_b on_b turns).1 in record {
        begins = begun.may;
        adds = adds_up;
        ends = λ k is. elim (taken.goes k (sym begun.tried ∙ is)) [ inl goes ↦ inl goes | inr over ↦ inr (over.0, why k over.1) ];
        none = λ is. taken.none (sym begun.tried ∙ is);
        over = λ posted. true_false (is_posted m.entry) posted (ap is_posted entry ∙ (asked_posts answer b.stand n.stand n.ops).0);
        tries = let few = turned_few hand_b answer b clock_b n clock_n turns in let began = begun.tries in rw (ap is_picked entry ∙ (asked_posts answer b.stand n.stand n.ops).1) (omega (arith, few, began));
      }

-- A TURN THAT IS ITS FIRST HALF ALONE
module _ (c : Configuration) (s : State) (room : ℕ → ℕ → Type 0) (worn : Worn) (hand hand_n : Option HandState) (d n : DeviceTold) (m : Move) (behind : m.behind ≡ moment_in n) (leaves : LeavesDevice d n)
    (few : tries_left hand_n (is_open n.stand) ≤ (if is_picked m.entry then tries_of c (after_from c s (entry_list m.entry)) else tries_left hand (is_open d.stand))) where
  ops_same : m.behind.ops ≡ d.ops
  ops_same = ap (λ (x : Moment). x.ops) behind ∙ ap (λ (x : DeviceTold). x.ops) leaves

  left_less : n.left ≤ d.left → left_on n ≤ left_on d
  left_less less = by (is_off d) refl
    where
      by : (t : Bool) → is_off d ≡ t → left_on n ≤ left_on d
      by true off = let none : left_on n ≡ 0 = ap (λ (b : Bool). if b then 0 else n.left) (ap is_off leaves ∙ off) in omega (arith, none)
      by false on = let here = left_where_on d on in let there = left_where_on n (ap is_off leaves ∙ on) in omega (arith, here, there, less)

  -- nothing changed
  pub works_same : n ≡ d → (is_posted m.entry ≡ true → number_tried d.stand ≡ None) → IsWorked (costs_in d.fixed) room worn c (moment_in d) s (work_in hand d) m (record { begins = None; behind = work_in hand_n n })
  works_same same over = record {
    begins = λ k is. none_some k is;
    adds = λ test has. let less = left_less (let left : n.left ≡ d.left = ap (λ (x : DeviceTold). x.left) same in omega (arith, left)) in omega (arith, ops_same, less);
    ends = λ k is. inl (ap (λ (x : DeviceTold). number_tried x.stand) same ∙ is);
    none = λ is. ap (λ (x : DeviceTold). number_tried x.stand) same ∙ is;
    over = over;
    tries = omega (arith, few);
  }

  -- a Pick, which cancels what is open
  pub works_picked : n.left ≤ d.left → number_tried n.stand ≡ None → is_picked m.entry ≡ true → is_posted m.entry ≡ false → IsWorked (costs_in d.fixed) room worn c (moment_in d) s (work_in hand d) m (record { begins = None; behind = work_in hand_n n })
  works_picked less none picked not_posted = record {
    begins = λ k is. none_some k is;
    adds = λ test has. let fewer = left_less less in omega (arith, ops_same, fewer);
    ends = λ k is. inr (none, inl (ap (λ (t : Bool). is_written k m.entry || (has_risen (faults_of d) m.behind.faults || (t || is_found m.entry))) picked ∙ ap (λ (t : Bool). is_written k m.entry || t) (or_true (has_risen (faults_of d) m.behind.faults)) ∙ or_true (is_written k m.entry)));
    none = λ is. none;
    over = λ posted. true_false (is_posted m.entry) posted not_posted;
    tries = omega (arith, few);
  }
