-- A turn of the first device with a job open is a turn of the pair.
use Rattle.std.specs.Prelude.{not, nat_lt, ◌&&◌, ◌==◌}
use Rattle.std.proofs.Common.{◌≡◌, ◌⊎◌, ℕ, ◌≤◌, Bool, true, false, if◌then◌else◌, List, length, Option, Some, None, refl, sym, ap, ◌∙◌, subst, inl, inr, arith}
use Rattle.std.proofs.lemmas.Bool.{cases_Bool, cases_lt}
use Rattle.std.proofs.lemmas.Bool.Decides.{nat_tests}
use Rattle.nv_base.specs.Count.{last_count, next_count}
use Rattle.nv_base.specs.declared.mark.Mark.{Mark}
use Rattle.memif.specs.declared.answer.DeviceTurn.{DeviceTurn}
use Rattle.memif.specs.declared.answer.DeviceTurn.TheVariants.{Idle, Worked, Off}
use Rattle.memif.specs.declared.answer.JobResult.{JobResult}
use Rattle.memif.specs.declared.answer.JobResult.TheVariants.{JobOk, JobFailed}
use Rattle.memif.specs.Told.{DeviceTold, Fixed, Slot, Part, First, Second, Stand, Job, Open, Ended, slot_at, length_of, is_open, nothing_open, part_of, Figures, IfElse}
use Rattle.memif.specs.Marks.{Keeps, SettlesAs, KeepsAll, Settles, IfTold}
use Rattle.memif.specs.Clock.{Clock, SameClock, Ticks}
use Rattle.memif.specs.Calls.{InOrder, IsOf, IsOff, IsCut, IsSealing, Turns, TurnsAs, Works, PartTurns, JobTurns, EndsAs, Gives, Reads, ReadsAt, is_read, urgent_first, is_first, TurnsReady, Nearer}
use Rattle.memif_pair.specs.Pair.{told_both, fixed_both, slots_both, is_second, ArePair, numbers_in, in_both, listed_in}
use Rattle.memif_pair.specs.PairClock.{IsCourse, WornBoth, own, all_own, reach}
use Rattle.memif_pair.specs.Laws.{Goes, pair_clock}
use Rattle.memif_pair.proofs.Courses.{length_push, own_few, own_push}
use Rattle.memif_pair.proofs.Numbers.{merged_first}
use Rattle.memif_pair.proofs.Ticking.{slot_is, first_ticks}
use Rattle.memif_pair.proofs.Clocks.{same_both, same_self}
use Rattle.memif_pair.proofs.Orders.{figures_first, order_first, urgent_of, IsFirstJob}
use Rattle.memif_pair.proofs.Seals.{seals_first}

pub same_if : (t : Bool) (n : ℕ) → (if t then n else n) ≡ n
same_if true n = refl
same_if false n = refl

-- MARKS
pub keeps_self : (s : Slot) → Keeps s s
keeps_self s = record { settled = refl; doubts = λ h has. has }

-- a fact on each slot of the first device is one of each slot of the pair, where it holds of a slot that stays
pub each_both : (P : ℕ → Slot → Slot → Type 0) (f g : Fixed) (s u t : Option (List Slot)) → ((n : ℕ) (x : Slot) → is_second g.numbers n ≡ true → P n x x)
    → IfTold s u (λ x y. (n : ℕ) → P n (slot_at f.numbers x n) (slot_at f.numbers y n))
    → IfTold (slots_both f g s t) (slots_both f g u t) (λ x y. (n : ℕ) → P n (slot_at (numbers_in f g) x n) (slot_at (numbers_in f g) y n))
each_both P f g s None t self each = tt
each_both P f g None (Some u) t self each = absurd each
each_both P f g (Some s) (Some u) None self each = tt
each_both P f g (Some s) (Some u) (Some t) self each = λ n.
    subst (λ (x : Slot). P n x (slot_at (numbers_in f g) (listed_in f g (slot_at f.numbers u) (slot_at g.numbers t)) n)) (sym (slot_is f g s t n))
    (subst (λ (y : Slot). P n (in_both g (slot_at f.numbers s) (slot_at g.numbers t) n) y) (sym (slot_is f g u t n))
    (by n (is_second g.numbers n) refl))
  where
    by : (n : ℕ) (b : Bool) → is_second g.numbers n ≡ b → P n (if b then slot_at g.numbers t n else slot_at f.numbers s n) (if b then slot_at g.numbers t n else slot_at f.numbers u n)
    by n true of = self n (slot_at g.numbers t n) of
    by n false of = each n

module _ (a : DeviceTold) (ca : Clock) (anew : DeviceTold) (ca_new : Clock) (b : DeviceTold) (cb : Clock) (course next : List Bool)
    (pair : ArePair a b) (is : IsCourse a b course) (goes : Goes false a.ops anew.ops course next) (fixed : anew.fixed ≡ a.fixed) where
  abbrev pub old : DeviceTold
  old = told_both a b false course

  abbrev pub new : DeviceTold
  new = told_both anew b false next

  -- the slots behind it, by the numbers from before
  abbrev SlotsBehind : Fixed → Option (List Slot)
  SlotsBehind f = slots_both f b.fixed anew.slots b.slots

  pub keeps_both : KeepsAll a anew → KeepsAll old new
  keeps_both each = subst (λ (f : Fixed). IfTold (slots_both a.fixed b.fixed a.slots b.slots) (SlotsBehind f) (λ x y. (n : ℕ) → Keeps (slot_at (numbers_in a.fixed b.fixed) x n) (slot_at (numbers_in a.fixed b.fixed) y n))) (sym fixed)
      (each_both (λ n x y. Keeps x y) a.fixed b.fixed a.slots anew.slots b.slots (λ n x of. keeps_self x) each)

  other_number : (number n : ℕ) → is_second b.fixed.numbers number ≡ false → is_second b.fixed.numbers n ≡ true → (n == number) ≡ false
  other_number number n of second = elim (cases_Bool (n == number)) [
    | inr off ↦ off
    | inl on ↦ (let same : n ≡ number = grind (arith, nat_tests, on) in let wrong : true ≡ false = sym second ∙ (ap (is_second b.fixed.numbers) same ∙ of) in cc)
  ]

  settles_both : (number : ℕ) (mark : Mark) → is_second b.fixed.numbers number ≡ false → Settles number mark a anew → Settles number mark old new
  settles_both number mark of each = subst (λ (f : Fixed). IfTold (slots_both a.fixed b.fixed a.slots b.slots) (SlotsBehind f)
      (λ x y. (n : ℕ) → IfElse (n == number) (SettlesAs mark (slot_at (numbers_in a.fixed b.fixed) x n) (slot_at (numbers_in a.fixed b.fixed) y n)) (Keeps (slot_at (numbers_in a.fixed b.fixed) x n) (slot_at (numbers_in a.fixed b.fixed) y n)))) (sym fixed)
      (each_both (λ n x y. IfElse (n == number) (SettlesAs mark x y) (Keeps x y)) a.fixed b.fixed a.slots anew.slots b.slots (λ n x second. rw (other_number number n of second) (keeps_self x)) each)

  -- OPERATIONS
  -- where it made one, the count of the pair goes on too
  counts : (anew.ops ≡ next_count a.ops) → new.ops ≡ next_count old.ops
  counts rose = elim goes.one [
    | inl still ↦
        -- it stands at its end
        (let e = ap length still.1 in let all = is.first in let few = many in omega (arith, e, rose, still.0, all, few))
    | inr more ↦ (let e = ap length more.1 in let l = length_push course false in omega (arith, e, l))
  ]
    where
      many : all_own false course ≤ length course
      many = own_few false course (length course)

  -- where it made none, the count of the pair stays
  stays : (anew.ops ≡ a.ops) → new.ops ≡ old.ops
  stays same = elim goes.one [
    | inl still ↦ (let e = ap length still.1 in omega (arith, e))
    | inr more ↦ absurd (let one = more.0 in omega (arith, one, same))
  ]

  one_both : (new.ops ≡ old.ops) ⊎ (new.ops ≡ next_count old.ops)
  one_both = elim goes.one [
    | inl still ↦ inl (let e = ap length still.1 in omega (arith, e))
    | inr more ↦ inr (let e = ap length more.1 in let l = length_push course false in omega (arith, e, l))
  ]

  later_both : old.ops ≤ new.ops
  later_both = elim one_both [ inl same ↦ omega (arith, same) | inr one ↦ omega (arith, one) ]

  pub part_both : (cut : Bool) → PartTurns cut a.ops anew.ops a.first anew.first → PartTurns cut old.ops new.ops a.first anew.first
  part_both true turns = record {
    only = turns.only;
    on = turns.on;
    later = later_both;
    one = one_both;
    plan = elim turns.plan [ inl comes ↦ inl (comes.0, counts comes.1) | inr other ↦ inr other ];
    faults = turns.faults;
  }
  part_both false turns = record {
    only = turns.only;
    on = turns.on;
    later = later_both;
    one = one_both;
    plan = elim turns.plan [ inl same ↦ inl (same.0, elim same.1 [ inl none ↦ inl (stays none) | inr rose ↦ inr rose ]) | inr nears ↦ inr (nears.0, counts nears.1) ];
    faults = turns.faults;
  }

  -- THE END OF A JOB
  worn_both : (n : ℕ) (urgent : Bool) → is_second b.fixed.numbers n ≡ false → ca_new.worn anew.ops n urgent → WornBoth (is_second b.fixed.numbers) next ca_new cb new.ops n urgent
  worn_both n urgent of worn = record {
    moment = anew.ops;
    by_then = (let now = own_now in subst (λ (q : Bool). anew.ops ≤ own q next (reach next new.ops)) (sym of) (omega (arith, now)));
    is = subst (λ (q : Bool). IfElse q (cb.worn anew.ops n urgent) (ca_new.worn anew.ops n urgent)) (sym of) worn;
  }
    where
      all : own false next (length next) ≡ anew.ops
      all = elim goes.one [
        | inl still ↦ ap (λ cs. own false cs (length cs)) still.1 ∙ (is.first ∙ sym still.0)
        | inr more ↦ (let e = ap (λ cs. own false cs (length cs)) more.1 in let push = own_push false course false in let first = is.first in omega (arith, e, push, first, more.0))
      ]

      own_now : own false next (reach next new.ops) ≡ anew.ops
      own_now = elim (cases_lt (length next) last_count) [
        | inl small ↦
            let at : new.ops ≡ length next = omega (arith, small) in
            let here : reach next new.ops ≡ length next = ap (reach next) at ∙ same_if (nat_lt (length next) last_count) (length next) in
            ap (own false next) here ∙ all
        | inr large ↦
            let at : new.ops ≡ last_count = omega (arith, large) in
            ap (λ (k : ℕ). own false next (reach next k)) at ∙ all
      ]

  -- BEHIND IT
  pub course_new : IsCourse anew b next
  course_new = record {
    first = elim goes.one [
      | inl still ↦ ap (λ cs. own false cs (length cs)) still.1 ∙ (is.first ∙ sym still.0)
      | inr more ↦ (let e = ap (λ cs. own false cs (length cs)) more.1 in let push = own_push false course false in let first = is.first in omega (arith, e, push, first, more.0))
    ];
    second = elim goes.one [
      | inl still ↦ ap (λ cs. own true cs (length cs)) still.1 ∙ is.second
      | inr more ↦ (let e = ap (λ cs. own true cs (length cs)) more.1 in let push = own_push true course false in let second = is.second in omega (arith, e, push, second))
    ];
  }

  pub pair_new : ArePair anew b
  pair_new = record { first = ap (λ (f : Fixed). f.two) fixed ∙ pair.first; second = pair.second; apart = λ n two. ap (λ (f : Fixed). length_of f.numbers n) fixed ∙ pair.apart n two }

  -- A JOB
  module _ (j : Job) (of : is_second b.fixed.numbers j.number ≡ false) where
    reads_both : (s t : Option (List Slot)) (r : JobResult) (given : List ℕ) → ReadsAt j.number s r given a → ReadsAt j.number (slots_both a.fixed b.fixed s t) r given old
    reads_both None t r given reads = tt
    reads_both (Some s) None r given reads = tt
    reads_both (Some s) (Some t) r given reads =
        let same : slot_at (numbers_in a.fixed b.fixed) (listed_in a.fixed b.fixed (slot_at a.fixed.numbers s) (slot_at b.fixed.numbers t)) j.number ≡ slot_at a.fixed.numbers s j.number =
        slot_is a.fixed b.fixed s t j.number ∙ ap (λ (q : Bool). if q then slot_at b.fixed.numbers t j.number else slot_at a.fixed.numbers s j.number) of in
        subst (λ (x : Slot). Reads x.settled.mark r given) (sym same) reads

    ends_both : (mark : Option Mark) (r : JobResult) (given : List ℕ) → EndsAs mark j.number r given a anew → EndsAs mark j.number r given old new
    ends_both None r given ends = (
      reads_both a.slots b.slots r given ends.0,
      subst (λ (n : Option ℕ). Gives r n given) (sym (merged_first a.fixed.numbers b.fixed.numbers j.number of)) ends.1,
    )
    ends_both (Some mark) JobOk given ends = (settles_both j.number mark of ends.0, ends.1)
    ends_both (Some mark) JobFailed given ends = (keeps_both ends.0, ends.1)
    ends_both (Some mark) r given ends = absurd ends.0

    job_both : (stand : Stand) → JobTurns First (Open j) stand a anew ca_new → JobTurns First (Open j) stand old new (pair_clock ca_new b cb next)
    job_both (Open k) turns = (turns.0, keeps_both turns.1, let less = turns.2 in omega (arith, less))
    job_both (Ended r given) turns = (
      ends_both j.mark r given turns.0,
      λ failed. elim (turns.1 failed) [ inl rose ↦ inl rose | inr out ↦ inr (out.0, worn_both j.number j.urgent of out.1) ],
    )

    -- its part is the first one, in both
    urgent_same : First ≡ part_of a.fixed j → urgent_first old.fixed (Open j) ≡ urgent_first a.fixed (Open j)
    urgent_same part =
        let both : part_of old.fixed j ≡ First = ap (λ (x : Figures). x.part) (figures_first a.fixed b.fixed j.number of) in
        ap (λ (p : Part). j.urgent && is_first p) (both ∙ part)

    module _ (on : a.stand ≡ Open j) (up : b.started ≡ true) (own_job : IsFirstJob b anew.stand) (works : Works First a anew ca_new) where
      part_is : First ≡ part_of a.fixed j
      part_is = (subst (λ (s : Stand). IsOf First a.fixed s) on works.of).1

      started_same : anew.started ≡ a.started
      started_same = ap (λ (d : DeviceTold). d.started) works.only

      ready_both : TurnsReady old new
      ready_both calm =
          let own = works.ready (record { faults = calm.faults; off = calm.off }) in
          let there : IfElse (urgent_first a.fixed (Open j)) (Nearer a anew) ((a.ready ≤ anew.ready)) = subst (λ (s : Stand). IfElse (urgent_first a.fixed s) (Nearer a anew) ((a.ready ≤ anew.ready))) on own in
          subst (λ (s : Stand). IfElse (urgent_first old.fixed s) (Nearer a anew) ((a.ready ≤ anew.ready))) (sym on)
          (subst (λ (t : Bool). IfElse t (Nearer a anew) ((a.ready ≤ anew.ready))) (sym (urgent_same part_is)) there)

      read_both : is_read a.stand ≡ true → (new.ops ≡ old.ops) × (new.slots ≡ old.slots)
      read_both read =
          let own = works.read read in (
            elim goes.one [
              | inl still ↦ (let e = ap length still.1 in omega (arith, e))
              | inr more ↦ absurd (let none = own.0 in omega (arith, more.0, none))
            ],
            λ i. slots_both (fixed i) b.fixed (own.1 i) b.slots,
          )

      -- where it was at its seal, it is so in both
      sealing_was : IsSealing old → IsSealing a
      sealing_was was = record {
        switching = was.switching;
        ready = λ calm. was.ready (ap (urgent_first old.fixed) on ∙ (urgent_same part_is ∙ (sym (ap (urgent_first a.fixed) on) ∙ calm)));
      }

      sealing_now : IsSealing anew → IsSealing new
      sealing_now now = record { switching = now.switching; ready = λ calm. now.ready (urgent_of anew b anew.stand own_job calm) }

      pub works_both : Works First old new (pair_clock ca_new b cb next)
      works_both = record {
        only = λ i. record new { fixed = fixed_both (fixed i) b.fixed; started = started_same i && b.started; tells = (ap (λ (d : DeviceTold). d.tells) works.only) i && b.tells; starts = (ap (λ (d : DeviceTold). d.starts) works.only) i };
        up = λ i. works.up i && up i;
        of = subst (λ (s : Stand). IsOf First old.fixed s) (sym on) (tt, sym (ap (λ (x : Figures). x.part) (figures_first a.fixed b.fixed j.number of)));
        part = part_both false works.part;
        job = subst (λ (s : Stand). JobTurns First s anew.stand old new (pair_clock ca_new b cb next)) (sym on)
            (job_both anew.stand (subst (λ (s : Stand). JobTurns First s anew.stand a anew ca_new) on works.job));
        read = read_both;
        nearer = elim works.nearer [ inl less ↦ inl (omega (arith, less)) | inr rose ↦ inr rose ];
        ready = ready_both;
        seals = λ k ops small was either. sealing_now (seals_first a anew ca_new b course next is goes course_new works.seals k ops small was (elim either [ inl le ↦ inl le | inr sealing ↦ inr (sealing_was sealing) ]));
      }

    -- a cut, and a turn while the power is off
    cut_both : a.stand ≡ Open j → IsCut First a anew → IsCut First old new
    cut_both on cut = record {
      only = λ i. record new { fixed = fixed_both (fixed i) b.fixed; started = (ap (λ (d : DeviceTold). d.started) cut.only) i && b.started; tells = (ap (λ (d : DeviceTold). d.tells) cut.only) i && b.tells; starts = (ap (λ (d : DeviceTold). d.starts) cut.only) i; stand = (ap (λ (d : DeviceTold). d.stand) cut.only) i };
      of = subst (λ (s : Stand). IsOf First old.fixed s) (sym on) (tt, sym (ap (λ (x : Figures). x.part) (figures_first a.fixed b.fixed j.number of)));
      part = part_both true cut.part;
      no_read = cut.no_read;
      marks = keeps_both cut.marks;
    }

    open_both : a.stand ≡ Open j → nothing_open old ≡ false
    open_both on = subst (λ (s : Stand). (not (is_open s) && not old.switching) ≡ false) (sym on) refl

    still_both : anew ≡ a → new ≡ old
    still_both same = elim goes.one [
      | inl still ↦ λ i. told_both (same i) b false (still.1 i)
      | inr more ↦ absurd (let none = ap (λ (d : DeviceTold). d.ops) same in omega (arith, more.0, none))
    ]

    clock_same : SameClock ca ca_new → anew ≡ a → SameClock (pair_clock ca b cb course) (pair_clock ca_new b cb next)
    clock_same same still = elim goes.one [
      | inl stays ↦ subst (λ (cs : List Bool). SameClock (pair_clock ca b cb course) (pair_clock ca_new b cb cs)) (sym stays.1) (same_both (is_second b.fixed.numbers) course ca ca_new cb cb same (same_self cb))
      | inr more ↦ absurd (let none = ap (λ (d : DeviceTold). d.ops) still in omega (arith, more.0, none))
    ]

    turned : (answer : DeviceTurn) → InOrder b cb → a.stand ≡ Open j → b.started ≡ true → IsFirstJob b anew.stand → TurnsAs answer a ca anew ca_new → TurnsAs answer old (pair_clock ca b cb course) new (pair_clock ca_new b cb next)
    turned Idle order on up own_job turns = absurd (none (a.stand) on turns.0)
      where
        none : (s : Stand) → s ≡ Open j → (not (is_open s) && not a.switching) ≡ true → ⊥
        none (Open k) is wrong = cc
        none (Ended r given) is wrong = cc
    turned Worked order on up own_job turns = (open_both on, first_of turns.1.0 turns.1.1 turns.1.2)
      where
        first_of : (p : Part) → Works p a anew ca_new → Ticks p Worked a ca anew ca_new
            → (q : Part) × Works q old new (pair_clock ca_new b cb next) × Ticks q Worked old (pair_clock ca b cb course) new (pair_clock ca_new b cb next)
        first_of First works ticks = (First, works_both on up own_job works, first_ticks Worked a ca anew ca_new b cb order course next false false pair is goes (λ urgent. refl) ticks)
        first_of Second works ticks = (let wrong : true ≡ false = sym (subst (λ (s : Stand). IsOf Second a.fixed s) on works.of).0 ∙ pair.first in cc)
    turned Off order on up own_job turns = (open_both on, off_of turns.1.0 turns.1.1)
      where
        off_of : (p : Part) → IsOff p a ca anew ca_new ⊎ (IsCut p a anew × Ticks p Off a ca anew ca_new)
            → (q : Part) × (IsOff q old (pair_clock ca b cb course) new (pair_clock ca_new b cb next) ⊎ (IsCut q old new × Ticks q Off old (pair_clock ca b cb course) new (pair_clock ca_new b cb next)))
        off_of First (inl still) = (First, inl (still.0, subst (λ (s : Stand). IsOf First old.fixed s) (sym on) (tt, sym (ap (λ (x : Figures). x.part) (figures_first a.fixed b.fixed j.number of))), still_both still.2, clock_same still.3 still.2))
        off_of First (inr cut) = (First, inr (cut_both on cut.0, first_ticks Off a ca anew ca_new b cb order course next false false pair is goes (λ urgent. refl) cut.1))
        off_of Second (inl still) = (let wrong : true ≡ false = sym (subst (λ (s : Stand). IsOf Second a.fixed s) on still.1).0 ∙ pair.first in cc)
        off_of Second (inr cut) = (let wrong : true ≡ false = sym (subst (λ (s : Stand). IsOf Second a.fixed s) on cut.0.of).0 ∙ pair.first in cc)

    pub turns_both : (answer : DeviceTurn) → InOrder b cb → is_open b.stand ≡ false → b.started ≡ true → a.stand ≡ Open j → IsFirstJob b anew.stand → Turns answer a ca anew ca_new
        → Turns answer old (pair_clock ca b cb course) new (pair_clock ca_new b cb next)
    turns_both answer order closed up on job turns = (
      turned answer order on up job turns.0,
      order_first anew ca_new b cb next pair_new course_new job closed turns.1 order,
    )
