-- A turn of the second device with a job open is a turn of the pair.
use Rattle.std.specs.Prelude.{not, min, nat_lt, slice_get, ◌&&◌, ◌==◌}
use Rattle.std.proofs.Common.{◌≡◌, ◌⊎◌, ℕ, ◌≤◌, ◌<◌, ◌+◌, Bool, true, false, if◌then◌else◌, List, length, Option, Some, None, refl, sym, ap, ◌∙◌, subst, inl, inr, arith}
use Rattle.std.proofs.lemmas.Bool.{cases_lt}
use Rattle.nv_base.specs.Count.{last_count}
use Rattle.nv_base.specs.declared.mark.Mark.{Mark}
use Rattle.memif.specs.declared.answer.DeviceTurn.{DeviceTurn}
use Rattle.memif.specs.declared.answer.DeviceTurn.TheVariants.{Idle, Worked, Off}
use Rattle.memif.specs.declared.answer.JobResult.{JobResult}
use Rattle.memif.specs.declared.answer.JobResult.TheVariants.{JobOk, JobFailed}
use Rattle.memif.specs.Told.{DeviceTold, Fixed, Slot, Part, First, Second, Stand, Job, Open, Ended, slot_at, length_of, is_open, nothing_open, part_of, Figures, IfElse}
use Rattle.memif.specs.Marks.{Keeps, SettlesAs, KeepsAll, Settles, IfTold}
use Rattle.memif.specs.Clock.{Clock, SameClock, Ticks}
use Rattle.memif.specs.Calls.{InOrder, IsOf, IsOff, IsCut, Turns, TurnsAs, Works, PartTurns, JobTurns, EndsAs, Gives, Reads, ReadsAt, is_read, urgent_first, is_first, Nearer}
use Rattle.memif_pair.specs.Pair.{told_both, fixed_both, slots_both, is_second, ArePair, numbers_in, listed_in}
use Rattle.memif_pair.specs.PairClock.{IsCourse, WornBoth, own, reach, clock_both}
use Rattle.memif_pair.specs.Laws.{Goes, SecondTurns, pair_clock}
use Rattle.memif_pair.specs.Together.{IsOwnJob}
use Rattle.memif_pair.proofs.Courses.{get_last, length_push}
use Rattle.memif_pair.proofs.Ticking.{slot_is}
use Rattle.memif_pair.proofs.Clocks.{same_both, same_self}
use Rattle.memif_pair.proofs.Flips.{flip, flip_twice, length_flip, course_flip, goes_flip, pair_flip, second_ticks}
use Rattle.memif_pair.proofs.Turning.{course_new, keeps_self, pair_new, part_both, same_if}
use Rattle.memif_pair.proofs.Turned.{fixed_is, fixed_cut}
use Rattle.memif_pair.proofs.Slots.{each_two, each_stays, each_own, other_number}
use Rattle.memif_pair.proofs.Together.{figures_second, order_second, own_same}

reach_end : (cs : List Bool) → reach cs (min (length cs) last_count) ≡ length cs
reach_end cs = elim (cases_lt (length cs) last_count) [
  | inl small ↦
      let at : min (length cs) last_count ≡ length cs = omega (arith, small) in
      ap (reach cs) at ∙ same_if (nat_lt (length cs) last_count) (length cs)
  | inr large ↦
      let at : min (length cs) last_count ≡ last_count = omega (arith, large) in
      ap (reach cs) at
]

never_both : (u : Bool) → (u && false) ≡ false
never_both true = refl
never_both false = refl

false_true : false ≡ true → ⊥
false_true is = cc is

module _ (a : DeviceTold) (ca : Clock) (b : DeviceTold) (cb : Clock) (bnew : DeviceTold) (cb_new : Clock) (course next : List Bool)
    (pair : ArePair a b) (is : IsCourse a b course) (goes : Goes true b.ops bnew.ops course next) (fixed : bnew.fixed ≡ b.fixed) where
  abbrev old : DeviceTold
  old = told_both a b true course

  abbrev new : DeviceTold
  new = told_both a bnew true next

  -- MARKS
  each_behind : (P : ℕ → Slot → Slot → Type 0) → ((n : ℕ) (x : Slot) → is_second b.fixed.numbers n ≡ false → P n x x)
      → IfTold b.slots bnew.slots (λ x y. (n : ℕ) → P n (slot_at b.fixed.numbers x n) (slot_at b.fixed.numbers y n))
      → IfTold old.slots new.slots (λ x y. (n : ℕ) → P n (slot_at (numbers_in a.fixed b.fixed) x n) (slot_at (numbers_in a.fixed b.fixed) y n))
  each_behind P self each =
      subst (λ (g : Fixed). IfTold old.slots (slots_both a.fixed g a.slots bnew.slots) (λ x y. (n : ℕ) → P n (slot_at (numbers_in a.fixed b.fixed) x n) (slot_at (numbers_in a.fixed b.fixed) y n))) (sym fixed)
      (each_two P a.fixed b.fixed a.slots a.slots b.slots bnew.slots (each_stays P b.fixed false a.slots self a.fixed) (each_own P b.fixed b.fixed true b.slots bnew.slots each))

  keeps_behind : KeepsAll b bnew → KeepsAll old new
  keeps_behind each = each_behind (λ n x y. Keeps x y) (λ n x of. keeps_self x) each

  settles_behind : (number : ℕ) (mark : Mark) → is_second b.fixed.numbers number ≡ true → Settles number mark b bnew → Settles number mark old new
  settles_behind number mark of each = each_behind (λ n x y. IfElse (n == number) (SettlesAs mark x y) (Keeps x y))
      (λ n x first. rw (other_number b.fixed number n true false of first (λ same. false_true (sym same))) (keeps_self x)) each

  -- OPERATIONS
  stays : (bnew.ops ≡ b.ops) → new.ops ≡ old.ops
  stays same = elim goes.one [
    | inl still ↦ (let e = ap length still.1 in omega (arith, e))
    | inr more ↦ absurd (let one = more.0 in omega (arith, one, same))
  ]

  -- one that this turn makes is none of the first device
  none_first : (k : ℕ) → new.ops ≡ k + 1 → new.ops < last_count → old.ops ≤ k → slice_get next k ≡ Some false → ⊥
  none_first k ops small le first = elim goes.one [
    | inl still ↦ (let e = ap length still.1 in omega (arith, e, ops, le))
    | inr more ↦
        let e = ap length more.1 in
        let l = length_push course true in
        let at : k ≡ length course = omega (arith, e, l, ops, small) in
        let second : slice_get next k ≡ Some true = ap (slice_get next) at ∙ (ap (λ cs. slice_get cs (length course)) more.1 ∙ get_last course true) in cc (first, second)
  ]

  part_behind : (cut : Bool) → PartTurns cut b.ops bnew.ops b.first bnew.first → PartTurns cut old.ops new.ops b.first bnew.first
  part_behind cut turns =
      subst (λ (n : ℕ). PartTurns cut (min n last_count) new.ops b.first bnew.first) (length_flip course)
      (subst (λ (n : ℕ). PartTurns cut (min (length (flip course)) last_count) (min n last_count) b.first bnew.first) (length_flip next)
      (part_both b cb bnew cb_new a ca (flip course) (flip next) (pair_flip a b pair) (course_flip a b course is) (goes_flip b.ops bnew.ops course next goes) fixed cut turns))

  -- BEHIND IT
  pub course_behind : IsCourse a bnew next
  course_behind = subst (IsCourse a bnew) (flip_twice next)
      (course_flip bnew a (flip next) (course_new b cb bnew cb_new a ca (flip course) (flip next) (pair_flip a b pair) (course_flip a b course is) (goes_flip b.ops bnew.ops course next goes) fixed))

  pub pair_behind : ArePair a bnew
  pair_behind = pair_flip bnew a (pair_new b cb bnew cb_new a ca (flip course) (flip next) (pair_flip a b pair) (course_flip a b course is) (goes_flip b.ops bnew.ops course next goes) fixed)

  -- THE END OF A JOB
  worn_behind : (n : ℕ) (urgent : Bool) → is_second b.fixed.numbers n ≡ true → cb_new.worn bnew.ops n urgent → (pair_clock ca bnew cb_new next).worn new.ops n urgent
  worn_behind n urgent of worn = subst (λ (f : Fixed). WornBoth (is_second f.numbers) next ca cb_new new.ops n urgent) (sym fixed) (record {
    moment = bnew.ops;
    by_then = subst (λ (q : Bool). bnew.ops ≤ own q next (reach next new.ops)) (sym of) (let now = ap (own true next) (reach_end next) ∙ course_behind.second in omega (arith, now));
    is = subst (λ (q : Bool). IfElse q (cb_new.worn bnew.ops n urgent) (ca.worn bnew.ops n urgent)) (sym of) worn;
  })

  still_behind : bnew ≡ b → new ≡ old
  still_behind same = elim goes.one [
    | inl still ↦ λ i. told_both a (same i) true (still.1 i)
    | inr more ↦ absurd (let none = ap (λ (d : DeviceTold). d.ops) same in omega (arith, more.0, none))
  ]

  clock_behind : SameClock cb cb_new → bnew ≡ b → SameClock (pair_clock ca b cb course) (pair_clock ca bnew cb_new next)
  clock_behind same still = elim goes.one [
    | inl stays ↦
        subst (λ (f : Fixed). SameClock (pair_clock ca b cb course) (clock_both (is_second f.numbers) next ca cb_new)) (sym fixed)
        (subst (λ (cs : List Bool). SameClock (pair_clock ca b cb course) (clock_both (is_second b.fixed.numbers) cs ca cb_new)) (sym stays.1) (same_both (is_second b.fixed.numbers) course ca ca cb cb_new (same_self ca) same))
    | inr more ↦ absurd (let none = ap (λ (d : DeviceTold). d.ops) still in omega (arith, more.0, none))
  ]

  -- A JOB
  module _ (j : Job) (of : is_second b.fixed.numbers j.number ≡ true) (long : length_of (numbers_in a.fixed b.fixed) j.number ≡ length_of b.fixed.numbers j.number) (on : b.stand ≡ Open j) where
    reads_behind : (s t : Option (List Slot)) (r : JobResult) (given : List ℕ) → ReadsAt j.number t r given b → ReadsAt j.number (slots_both a.fixed b.fixed s t) r given old
    reads_behind None t r given reads = tt
    reads_behind (Some s) None r given reads = tt
    reads_behind (Some s) (Some t) r given reads =
        let same : slot_at (numbers_in a.fixed b.fixed) (listed_in a.fixed b.fixed (slot_at a.fixed.numbers s) (slot_at b.fixed.numbers t)) j.number ≡ slot_at b.fixed.numbers t j.number =
        slot_is a.fixed b.fixed s t j.number ∙ ap (λ (q : Bool). if q then slot_at b.fixed.numbers t j.number else slot_at a.fixed.numbers s j.number) of in
        subst (λ (x : Slot). Reads x.settled.mark r given) (sym same) reads

    ends_behind : (mark : Option Mark) (r : JobResult) (given : List ℕ) → EndsAs mark j.number r given b bnew → EndsAs mark j.number r given old new
    ends_behind None r given ends = (reads_behind a.slots b.slots r given ends.0, subst (λ (n : Option ℕ). Gives r n given) (sym long) ends.1)
    ends_behind (Some mark) JobOk given ends = (settles_behind j.number mark of ends.0, ends.1)
    ends_behind (Some mark) JobFailed given ends = (keeps_behind ends.0, ends.1)
    ends_behind (Some mark) r given ends = absurd ends.0

    job_behind : (stand : Stand) → JobTurns First (Open j) stand b bnew cb_new → JobTurns Second (Open j) stand old new (pair_clock ca bnew cb_new next)
    job_behind (Open k) turns = (turns.0, keeps_behind turns.1, let less = turns.2 in omega (arith, less))
    job_behind (Ended r given) turns = (
      ends_behind j.mark r given turns.0,
      λ failed. elim (turns.1 failed) [ inl rose ↦ inl rose | inr out ↦ inr (out.0, worn_behind j.number j.urgent of out.1) ],
    )

    part_there : part_of old.fixed j ≡ Second
    part_there = ap (λ (x : Figures). x.part) (figures_second a.fixed b.fixed j.number of)

    of_second : IsOf Second old.fixed old.stand
    of_second = subst (λ (s : Stand). IsOf Second old.fixed s) (sym on) (refl, sym part_there)

    never_urgent : urgent_first old.fixed old.stand ≡ false
    never_urgent = ap (urgent_first old.fixed) on ∙ (ap (λ (p : Part). j.urgent && is_first p) part_there ∙ never_both j.urgent)

    read_behind : (works : Works First b bnew cb_new) → is_read b.stand ≡ true → (new.ops ≡ old.ops) × (new.slots ≡ old.slots)
    read_behind works read = let none = works.read read in (stays none.0, λ i. slots_both a.fixed (fixed i) a.slots (none.1 i))

    works_behind : a.started ≡ true → Works First b bnew cb_new → Works Second old new (pair_clock ca bnew cb_new next)
    works_behind up works = record {
      only = λ i. record new { fixed = fixed_both a.fixed (fixed i); tells = a.tells && (ap (λ (d : DeviceTold). d.tells) works.only) i; started = a.started && (ap (λ (d : DeviceTold). d.started) works.only) i };
      up = λ i. up i && works.up i;
      of = of_second;
      part = part_behind false works.part;
      job = subst (λ (s : Stand). JobTurns Second s bnew.stand old new (pair_clock ca bnew cb_new next)) (sym on)
          (job_behind bnew.stand (subst (λ (s : Stand). JobTurns First s bnew.stand b bnew cb_new) on works.job));
      read = read_behind works;
      nearer = elim works.nearer [ inl less ↦ inl (omega (arith, less)) | inr rose ↦ inr rose ];
      ready = λ calm. subst (λ (u : Bool). IfElse u (Nearer old new) (a.ready ≤ a.ready)) (sym never_urgent) (omega arith);
      seals = λ k ops small was either. elim either [
        | inl le ↦ absurd (none_first k ops small le was.is)
        | inr sealing ↦ record { switching = sealing.switching; ready = λ calm. sealing.ready never_urgent }
      ];
    }

    -- a cut, and a turn while the power is off
    cut_behind : IsCut First b bnew → IsCut Second old new
    cut_behind cut = record {
      only = λ i. record new { fixed = fixed_both a.fixed (fixed i); tells = a.tells && (ap (λ (d : DeviceTold). d.tells) cut.only) i; started = a.started && (ap (λ (d : DeviceTold). d.started) cut.only) i; stand = (ap (λ (d : DeviceTold). d.stand) cut.only) i };
      of = of_second;
      part = part_behind true cut.part;
      no_read = cut.no_read;
      marks = keeps_behind cut.marks;
    }

    open_behind : nothing_open old ≡ false
    open_behind = subst (λ (s : Stand). (not (is_open s) && not old.switching) ≡ false) (sym on) refl

    -- the device has one part
    no_second : IsOf Second b.fixed b.stand → ⊥
    no_second there = (let wrong : true ≡ false = sym (subst (λ (s : Stand). IsOf Second b.fixed s) on there).0 ∙ pair.second in cc wrong)

    works_of : (p : Part) → InOrder a ca → a.started ≡ true → Works p b bnew cb_new → Ticks p Worked b cb bnew cb_new
        → (q : Part) × Works q old new (pair_clock ca bnew cb_new next) × Ticks q Worked old (pair_clock ca b cb course) new (pair_clock ca bnew cb_new next)
    works_of First order up works ticks = (Second, works_behind up works, second_ticks Worked a ca b cb bnew cb_new order course next true true pair is goes fixed ticks)
    works_of Second order up works ticks = absurd (no_second works.of)

    off_of : (p : Part) → InOrder a ca → IsOff p b cb bnew cb_new ⊎ (IsCut p b bnew × Ticks p Off b cb bnew cb_new)
        → (q : Part) × (IsOff q old (pair_clock ca b cb course) new (pair_clock ca bnew cb_new next) ⊎ (IsCut q old new × Ticks q Off old (pair_clock ca b cb course) new (pair_clock ca bnew cb_new next)))
    off_of First order (inl off) = (Second, inl (off.0, of_second, still_behind off.2, clock_behind off.3 off.2))
    off_of First order (inr cut) = (Second, inr (cut_behind cut.0, second_ticks Off a ca b cb bnew cb_new order course next true true pair is goes fixed cut.1))
    off_of Second order (inl off) = absurd (no_second off.1)
    off_of Second order (inr cut) = absurd (no_second cut.0.of)

    never_idle : (s : Stand) → s ≡ Open j → (not (is_open s) && not b.switching) ≡ true → ⊥
    never_idle (Open k) at wrong = cc wrong
    never_idle (Ended r given) at wrong = cc at

    pub turned_second : (answer : DeviceTurn) → InOrder a ca → a.started ≡ true → TurnsAs answer b cb bnew cb_new → TurnsAs answer old (pair_clock ca b cb course) new (pair_clock ca bnew cb_new next)
    turned_second Idle order up turns = absurd (never_idle b.stand on turns.0)
    turned_second Worked order up turns = (open_behind, works_of turns.1.0 order up turns.1.1 turns.1.2)
    turned_second Off order up turns = (open_behind, off_of turns.1.0 order turns.1.1)

-- its job stays one of its own numbers
job_stays : (p : Part) (b bnew : DeviceTold) (c : Clock) (j : Job) (s : Stand) → is_second b.fixed.numbers j.number ≡ true → JobTurns p (Open j) s b bnew c → IsOwnJob true b s
job_stays p b bnew c j (Open k) of turns = subst (λ (x : Job). is_second b.fixed.numbers x.number ≡ true) (sym turns.0) of
job_stays p b bnew c j (Ended r given) of turns = tt

pub second_job : (b : DeviceTold) (cb : Clock) (bnew : DeviceTold) (cb_new : Clock) (j : Job) → b.stand ≡ Open j → is_second b.fixed.numbers j.number ≡ true → (answer : DeviceTurn) → Turns answer b cb bnew cb_new → IsOwnJob true b bnew.stand
second_job b cb bnew cb_new j on of Idle turns = subst (IsOwnJob true b) (sym on ∙ sym (ap (λ (d : DeviceTold). d.stand) turns.0.1)) of
second_job b cb bnew cb_new j on of Worked turns = job_stays turns.0.1.0 b bnew cb_new j bnew.stand of (subst (λ (s : Stand). JobTurns turns.0.1.0 s bnew.stand b bnew cb_new) on turns.0.1.1.job)
second_job b cb bnew cb_new j on of Off turns = elim turns.0.1.1 [
  | inl still ↦ subst (IsOwnJob true b) (sym on ∙ sym (ap (λ (d : DeviceTold). d.stand) still.2)) of
  | inr cut ↦ subst (IsOwnJob true b) (sym on ∙ sym (fixed_cut b cb bnew cb_new turns.0.1.0 cut.0).1) of
]

pub second_turns : (answer : DeviceTurn) (a : DeviceTold) (ca : Clock) (b : DeviceTold) (cb : Clock) (bnew : DeviceTold) (cb_new : Clock) → InOrder a ca → Turns answer b cb bnew cb_new → SecondTurns answer a ca b cb bnew cb_new
second_turns answer a ca b cb bnew cb_new order turns course next j pair is goes on of long closed up =
    let fixed = fixed_is b cb bnew cb_new answer turns in (
      turned_second a ca b cb bnew cb_new course next pair is goes fixed j of long on answer order up turns.0,
      order_second a ca bnew cb_new next (pair_behind a ca b cb bnew cb_new course next pair is goes fixed) (course_behind a ca b cb bnew cb_new course next pair is goes fixed)
          (own_same true b bnew bnew.stand fixed (second_job b cb bnew cb_new j on of answer turns)) closed order turns.1,
    )
