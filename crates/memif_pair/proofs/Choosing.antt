-- A turn of the pair, of the device that has the open job.
use Rattle.std.specs.Prelude.{not, ◌&&◌}
use Rattle.std.proofs.Common.{◌≡◌, ℕ, ◌+◌, Bool, true, false, List, refl, sym, ap, ◌∙◌, subst, inl, inr, arith}
use Rattle.std.proofs.lemmas.Bool.{cases_Bool}
use Rattle.memif.specs.declared.answer.DeviceTurn.{DeviceTurn}
use Rattle.memif.specs.declared.answer.DeviceTurn.TheVariants.{Idle, Worked, Off}
use Rattle.memif.specs.Told.{DeviceTold, Fixed, Part, First, Second, Stand, Job, Open, Ended, figures_at, is_open, nothing_open}
use Rattle.memif.specs.Clock.{Clock}
use Rattle.memif.specs.Calls.{InOrder, IsCut, Turns, TurnsAs, Works}
use Rattle.memif_pair.specs.Pair.{told_both, is_second, IsLast}
use Rattle.memif_pair.specs.Laws.{Goes, pair_clock}
use Rattle.memif_pair.specs.Together.{AreTogether, IsOwnJob, IsUp, PairTurns}
use Rattle.memif_pair.proofs.Asked.{both_up}
use Rattle.memif_pair.proofs.Resting.{closed_both, kept, own_only, own_turns}
use Rattle.memif_pair.proofs.SecondTurning.{course_behind, pair_behind, second_job, second_turns}
use Rattle.memif_pair.proofs.Together.{LengthsStay, closed_first, own_same}
use Rattle.memif_pair.proofs.Turned.{first_turns, fixed_is, job_is}
use Rattle.memif_pair.proofs.Turning.{course_new, pair_new}

opened : (s : Stand) → is_open s ≡ true → (j : Job) × (s ≡ Open j)
opened (Open j) on = (j, refl)
opened (Ended r given) on = cc on

true_false : true ≡ false → ⊥
true_false is = cc is

false_true : false ≡ true → ⊥
false_true is = cc is

-- the operations of one of them
goes_left : (second : Bool) (x y z : ℕ) (course next : List Bool) → Goes second (y + x) (z + x) course next → Goes second y z course next
goes_left second x y z course next goes = record {
  one = elim goes.one [
    | inl still ↦ (let e = still.0 in let same : z ≡ y = omega (arith, e) in inl (same, still.1))
    | inr more ↦ (let e = more.0 in let rose : z ≡ y + 1 = omega (arith, e) in inr (rose, more.1))
  ];
}

goes_right : (second : Bool) (x y z : ℕ) (course next : List Bool) → Goes second (x + y) (x + z) course next → Goes second y z course next
goes_right second x y z course next goes = record {
  one = elim goes.one [
    | inl still ↦ (let e = still.0 in let same : z ≡ y = omega (arith, e) in inl (same, still.1))
    | inr more ↦ (let e = more.0 in let rose : z ≡ y + 1 = omega (arith, e) in inr (rose, more.1))
  ];
}

-- a turn of any device leaves it started
up_worked : (p : Part) (old new : DeviceTold) (c : Clock) → Works p old new c → new.started ≡ true
up_worked First old new c works = ap (λ (d : DeviceTold). d.started) works.only ∙ works.up
up_worked Second old new c works = ap (λ (d : DeviceTold). d.started) works.only ∙ works.up

started_cut : (p : Part) (old new : DeviceTold) → IsCut p old new → new.started ≡ old.started
started_cut First old new cut = ap (λ (d : DeviceTold). d.started) cut.only
started_cut Second old new cut = ap (λ (d : DeviceTold). d.started) cut.only

pub stays_up : (answer : DeviceTurn) (old : DeviceTold) (c : Clock) (new : DeviceTold) (c_new : Clock) → TurnsAs answer old c new c_new → IsUp old → IsUp new
stays_up Idle old c new c_new turns up = subst IsUp (sym turns.1) up
stays_up Worked old c new c_new turns up = λ some. up_worked turns.1.0 old new c_new turns.1.1
stays_up Off old c new c_new turns up = elim turns.1.1 [
  | inl off ↦ subst IsUp (sym off.2) up
  | inr cut ↦ λ some. started_cut turns.1.0 old new cut.0 ∙ up turns.0
]

pub open_some : (s : Stand) (x : Bool) → is_open s ≡ true → (not (is_open s) && x) ≡ false
open_some (Open j) x on = refl
open_some (Ended r given) x on = cc on

module _ (answer : DeviceTurn) (a : DeviceTold) (ca : Clock) (b : DeviceTold) (cb : Clock) (course next : List Bool) where
  -- OF THE SECOND DEVICE
  module _ (bnew : DeviceTold) (cb_new : Clock) (order : InOrder a ca) (turns : Turns answer b cb bnew cb_new) (on : is_open b.stand ≡ true) (goes : Goes true b.ops bnew.ops course next) where
    of_second : (last : Bool) → AreTogether a b last course → IsUp (told_both a b last course)
        → Turns answer (told_both a b last course) (pair_clock ca b cb course) (told_both a bnew last next) (pair_clock ca bnew cb_new next) × AreTogether a bnew last next
    of_second false t up = absurd (false_true (t.one.second on))
    of_second true t up =
        let job = opened b.stand on in
        let of : is_second b.fixed.numbers job.0.number ≡ true = subst (IsOwnJob true b) job.1 t.second_job in
        let closed : is_open a.stand ≡ false = closed_first (is_open a.stand) t.one.first in
        let fixed : bnew.fixed ≡ b.fixed = fixed_is b cb bnew cb_new answer turns in (
          second_turns answer a ca b cb bnew cb_new order turns course next job.0 t.pair t.counted goes job.1 of (t.lengths job.0.number of) closed
              (both_up a.started b.started (up (open_some b.stand (not (told_both a b true course).switching) on))).0,
          record {
            pair = pair_behind a ca b cb bnew cb_new course next t.pair t.counted goes fixed;
            counted = course_behind a ca b cb bnew cb_new course next t.pair t.counted goes fixed;
            one = record { first = λ first. absurd (true_false (sym first ∙ closed)); second = λ second. refl };
            part = t.part;
            lengths = subst (λ (g : Fixed). LengthsStay a.fixed g) (sym fixed) t.lengths;
            own = ap (λ (f : Fixed). f.own) fixed ∙ t.own;
            first_job = own_same false b bnew a.stand fixed t.first_job;
            second_job = own_same true b bnew bnew.stand fixed (second_job b cb bnew cb_new job.0 job.1 of answer turns);
          },
        )

  -- OF THE FIRST ONE
  module _ (anew : DeviceTold) (ca_new : Clock) (order : InOrder b cb) (turns : Turns answer a ca anew ca_new) (other : is_open b.stand ≡ false) (goes : Goes false a.ops anew.ops course next) where
    together_first : (last : Bool) → AreTogether a b last course → IsLast last anew b → IsOwnJob false b anew.stand → AreTogether anew b last next
    together_first last t one job =
        let fixed : anew.fixed ≡ a.fixed = fixed_is a ca anew ca_new answer turns in
        record {
          pair = pair_new a ca anew ca_new b cb course next t.pair t.counted goes fixed;
          counted = course_new a ca anew ca_new b cb course next t.pair t.counted goes fixed;
          one = one;
          part = λ n. ap (λ (f : Fixed). (figures_at f n).part) fixed ∙ t.part n;
          lengths = subst (λ (f : Fixed). LengthsStay f b.fixed) (sym fixed) t.lengths;
          own = t.own;
          first_job = job;
          second_job = t.second_job;
        }

    at_job : (last : Bool) → AreTogether a b last course → IsUp (told_both a b last course) → is_open a.stand ≡ true
        → Turns answer (told_both a b last course) (pair_clock ca b cb course) (told_both anew b last next) (pair_clock ca_new b cb next) × AreTogether anew b last next
    at_job true t up on = absurd (true_false (t.one.first on))
    at_job false t up on =
        let job = opened a.stand on in
        let of : is_second b.fixed.numbers job.0.number ≡ false = subst (IsOwnJob false b) job.1 t.first_job in (
          first_turns answer a ca anew ca_new b cb order turns course next job.0 t.pair t.counted goes job.1 of other
              (both_up a.started b.started (up (open_some a.stand (not (told_both a b false course).switching) on))).1,
          together_first false t (record { first = λ first. refl; second = λ second. absurd (true_false (sym second ∙ other)) }) (job_is a ca anew ca_new b job.0 job.1 of answer turns),
        )

    at_rest : (last : Bool) → AreTogether a b last course → IsUp (told_both a b last course) → is_open a.stand ≡ false
        → Turns answer (told_both a b last course) (pair_clock ca b cb course) (told_both anew b last next) (pair_clock ca_new b cb next) × AreTogether anew b last next
    at_rest last t up closed =
        let same = (kept answer a ca anew ca_new closed turns.0).1 in
        let nothing : nothing_open (told_both a b last course) ≡ nothing_open a =
        own_only (is_open (told_both a b last course).stand) a.switching (closed_both last a.stand b.stand closed other) ∙ sym (own_only (is_open a.stand) a.switching closed) in (
          own_turns answer a ca anew ca_new b cb order turns course next last t.pair t.counted goes closed other (λ some. (both_up a.started b.started (up (nothing ∙ some))).1),
          together_first last t (record { first = λ first. absurd (true_false (sym first ∙ (ap is_open same ∙ closed))); second = t.one.second }) (subst (IsOwnJob false b) (sym same) t.first_job),
        )

    of_first : (last : Bool) → AreTogether a b last course → IsUp (told_both a b last course)
        → Turns answer (told_both a b last course) (pair_clock ca b cb course) (told_both anew b last next) (pair_clock ca_new b cb next) × AreTogether anew b last next
    of_first last t up = elim (cases_Bool (is_open a.stand)) [ inl on ↦ at_job last t up on | inr closed ↦ at_rest last t up closed ]

pub turns_second : (answer : DeviceTurn) (last : Bool) (a : DeviceTold) (ca : Clock) (b : DeviceTold) (cb : Clock) (bnew : DeviceTold) (cb_new : Clock) → InOrder a ca → Turns answer b cb bnew cb_new → is_open b.stand ≡ true
    → PairTurns answer last a ca b cb a ca bnew cb_new
turns_second answer last a ca b cb bnew cb_new order turns on course next t up goes =
    let own = goes_right true a.ops b.ops bnew.ops course next (subst (λ (q : Bool). Goes q (a.ops + b.ops) (a.ops + bnew.ops) course next) on goes) in
    let both = of_second answer a ca b cb course next bnew cb_new order turns on own last t up in
    (both.0, both.1, stays_up answer (told_both a b last course) (pair_clock ca b cb course) (told_both a bnew last next) (pair_clock ca bnew cb_new next) both.0.0 up)

pub turns_first : (answer : DeviceTurn) (last : Bool) (a : DeviceTold) (ca : Clock) (b : DeviceTold) (cb : Clock) (anew : DeviceTold) (ca_new : Clock) → InOrder b cb → Turns answer a ca anew ca_new → is_open b.stand ≡ false
    → PairTurns answer last a ca b cb anew ca_new b cb
turns_first answer last a ca b cb anew ca_new order turns other course next t up goes =
    let own = goes_left false b.ops a.ops anew.ops course next (subst (λ (q : Bool). Goes q (a.ops + b.ops) (anew.ops + b.ops) course next) other goes) in
    let both = of_first answer a ca b cb course next anew ca_new order turns other own last t up in
    (both.0, both.1, stays_up answer (told_both a b last course) (pair_clock ca b cb course) (told_both anew b last next) (pair_clock ca_new b cb next) both.0.0 up)

-- THE COURSE GOES ON, beside the operations of the other device
pub goes_beside : (second is : Bool) (x y z : ℕ) (course next : List Bool) → is ≡ second → Goes second y z course next → Goes is (x + y) (x + z) course next
goes_beside second is x y z course next same goes = subst (λ (q : Bool). Goes q (x + y) (x + z) course next) (sym same) (record {
  one = elim goes.one [
    | inl still ↦ (let e = still.0 in let stays : x + z ≡ x + y = omega (arith, e) in inl (stays, still.1))
    | inr more ↦ (let e = more.0 in let rose : x + z ≡ x + y + 1 = omega (arith, e) in inr (rose, more.1))
  ];
})

pub goes_before : (second is : Bool) (x y z : ℕ) (course next : List Bool) → is ≡ second → Goes second y z course next → Goes is (y + x) (z + x) course next
goes_before second is x y z course next same goes = subst (λ (q : Bool). Goes q (y + x) (z + x) course next) (sym same) (record {
  one = elim goes.one [
    | inl still ↦ (let e = still.0 in let stays : z + x ≡ y + x = omega (arith, e) in inl (stays, still.1))
    | inr more ↦ (let e = more.0 in let rose : z + x ≡ y + x + 1 = omega (arith, e) in inr (rose, more.1))
  ];
})
