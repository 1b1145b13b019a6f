-- A cancel of the device that had the last job is one of the pair.
use Rattle.std.specs.Prelude.{◌&&◌}
use Rattle.std.proofs.Common.{◌≡◌, ℕ, Bool, true, false, List, [], refl, sym, ap, subst, arith}
use Rattle.memif.specs.declared.answer.JobResult.TheVariants.{JobCanceled}
use Rattle.memif.specs.Told.{DeviceTold, Fixed, Ended, is_open, slot_at, IfElse}
use Rattle.memif.specs.Marks.{Keeps, IfTold}
use Rattle.memif.specs.Clock.{Clock}
use Rattle.memif.specs.Calls.{InOrder, Cancels, IsCanceled}
use Rattle.memif_pair.specs.Pair.{told_both, fixed_both, slots_both, numbers_in}
use Rattle.memif_pair.specs.Together.{AreTogether, IsOwnJob, OfPair}
use Rattle.memif_pair.proofs.Clocks.{same_self}
use Rattle.memif_pair.proofs.Turning.{keeps_self}
use Rattle.memif_pair.proofs.Slots.{each_two, each_stays, each_own}
use Rattle.memif_pair.proofs.Together.{together_both, clock_stays}

module _ (a b : DeviceTold) (course : List Bool) (anew : DeviceTold) (t : AreTogether a b false course) where
  module _ (canceled : IsCanceled a anew) where
    fixed_first : anew.fixed ≡ a.fixed
    fixed_first = ap (λ (d : DeviceTold). d.fixed) canceled.only

    stand_first : anew.stand ≡ Ended JobCanceled []
    stand_first = ap (λ (d : DeviceTold). d.stand) canceled.only

    canceled_first : IsCanceled (told_both a b false course) (told_both anew b false course)
    canceled_first = record {
      only = λ i. record (told_both anew b false course) {
        fixed = fixed_both (fixed_first i) b.fixed;
        started = (ap (λ (d : DeviceTold). d.started) canceled.only) i && b.started;
        tells = (ap (λ (d : DeviceTold). d.tells) canceled.only) i && b.tells;
        switching = (ap (λ (d : DeviceTold). (told_both d b false course).switching) canceled.only) i;
        starts = (ap (λ (d : DeviceTold). d.starts) canceled.only) i;
        first = (ap (λ (d : DeviceTold). d.first) canceled.only) i;
        stand = stand_first i;
      };
      marks =
          subst (λ (f : Fixed). IfTold (slots_both a.fixed b.fixed a.slots b.slots) (slots_both f b.fixed anew.slots b.slots) (λ x y. (n : ℕ) → Keeps (slot_at (numbers_in a.fixed b.fixed) x n) (slot_at (numbers_in a.fixed b.fixed) y n))) (sym fixed_first)
          (each_two (λ n x y. Keeps x y) a.fixed b.fixed a.slots anew.slots b.slots b.slots (each_own (λ n x y. Keeps x y) b.fixed a.fixed false a.slots anew.slots canceled.marks) (each_stays (λ n x y. Keeps x y) b.fixed true b.slots (λ n x of. keeps_self x) b.fixed));
      left = (let low = canceled.left in omega (arith, low));
      ready = canceled.ready;
    }

    together_first : AreTogether anew b false course
    together_first = together_both a anew b b false false course t fixed_first (ap (λ (d : DeviceTold). d.ops) canceled.only) refl refl
        (record { first = λ on. refl; second = t.one.second })
        (subst (IsOwnJob false b) (sym stand_first) tt) t.second_job

  by_first : (o : Bool) → IfElse o (IsCanceled a anew) (anew ≡ a) → IfElse o (IsCanceled (told_both a b false course) (told_both anew b false course)) (told_both anew b false course ≡ told_both a b false course) × AreTogether anew b false course
  by_first true canceled = (canceled_first canceled, together_first canceled)
  by_first false same = (ap (λ (d : DeviceTold). told_both d b false course) same, subst (λ (d : DeviceTold). AreTogether d b false course) (sym same) t)

pub cancels_first : (a : DeviceTold) (ca : Clock) (b : DeviceTold) (cb : Clock) (anew : DeviceTold) (ca_new : Clock) → Cancels a ca anew ca_new → InOrder b cb → OfPair Cancels false false a ca b cb anew ca_new b cb
cancels_first a ca b cb anew ca_new cancels order course t =
    let behind = by_first a b course anew t (is_open a.stand) cancels.0 in
    ((behind.0, clock_stays a anew ca ca_new b b cb cb false course behind.1 refl cancels.1.same (same_self cb) cancels.1.order order), behind.1)

module _ (a b : DeviceTold) (course : List Bool) (bnew : DeviceTold) (t : AreTogether a b true course) where
  module _ (canceled : IsCanceled b bnew) where
    fixed_second : bnew.fixed ≡ b.fixed
    fixed_second = ap (λ (d : DeviceTold). d.fixed) canceled.only

    stand_second : bnew.stand ≡ Ended JobCanceled []
    stand_second = ap (λ (d : DeviceTold). d.stand) canceled.only

    canceled_second : IsCanceled (told_both a b true course) (told_both a bnew true course)
    canceled_second = record {
      only = λ i. record (told_both a bnew true course) {
        fixed = fixed_both a.fixed (fixed_second i);
        tells = a.tells && (ap (λ (d : DeviceTold). d.tells) canceled.only) i;
        started = a.started && (ap (λ (d : DeviceTold). d.started) canceled.only) i;
        switching = (ap (λ (d : DeviceTold). (told_both a d true course).switching) canceled.only) i;
        second = (ap (λ (d : DeviceTold). d.first) canceled.only) i;
        stand = stand_second i;
      };
      marks =
          subst (λ (g : Fixed). IfTold (slots_both a.fixed b.fixed a.slots b.slots) (slots_both a.fixed g a.slots bnew.slots) (λ x y. (n : ℕ) → Keeps (slot_at (numbers_in a.fixed b.fixed) x n) (slot_at (numbers_in a.fixed b.fixed) y n))) (sym fixed_second)
          (each_two (λ n x y. Keeps x y) a.fixed b.fixed a.slots a.slots b.slots bnew.slots (each_stays (λ n x y. Keeps x y) b.fixed false a.slots (λ n x of. keeps_self x) a.fixed) (each_own (λ n x y. Keeps x y) b.fixed b.fixed true b.slots bnew.slots canceled.marks));
      left = (let low = canceled.left in omega (arith, low));
      ready = omega arith;
    }

    together_second : AreTogether a bnew true course
    together_second = together_both a a b bnew true true course t refl refl fixed_second (ap (λ (d : DeviceTold). d.ops) canceled.only)
        (record { first = t.one.first; second = λ on. refl })
        t.first_job (subst (IsOwnJob true b) (sym stand_second) tt)

  by_second : (o : Bool) → IfElse o (IsCanceled b bnew) (bnew ≡ b) → IfElse o (IsCanceled (told_both a b true course) (told_both a bnew true course)) (told_both a bnew true course ≡ told_both a b true course) × AreTogether a bnew true course
  by_second true canceled = (canceled_second canceled, together_second canceled)
  by_second false same = (ap (λ (d : DeviceTold). told_both a d true course) same, subst (λ (d : DeviceTold). AreTogether a d true course) (sym same) t)

  -- its numbers stay
  numbers_stay : (o : Bool) → IfElse o (IsCanceled b bnew) (bnew ≡ b) → bnew.fixed ≡ b.fixed
  numbers_stay true canceled = fixed_second canceled
  numbers_stay false same = ap (λ (d : DeviceTold). d.fixed) same

pub cancels_second : (a : DeviceTold) (ca : Clock) (b : DeviceTold) (cb : Clock) (bnew : DeviceTold) (cb_new : Clock) → Cancels b cb bnew cb_new → InOrder a ca → OfPair Cancels true true a ca b cb a ca bnew cb_new
cancels_second a ca b cb bnew cb_new cancels order course t =
    let behind = by_second a b course bnew t (is_open b.stand) cancels.0 in
    ((behind.0, clock_stays a a ca ca b bnew cb cb_new true course behind.1 (numbers_stay a b course bnew t (is_open b.stand) cancels.0) (same_self ca) cancels.1.same order cancels.1.order), behind.1)
