-- A start-up of both devices is one of the pair.
use Rattle.std.specs.Prelude.{◌&&◌}
use Rattle.std.proofs.Common.{◌≡◌, ◌⊎◌, ℕ, ◌+◌, Bool, true, false, List, [], Result, Ok, Err, refl, sym, ap, ◌∙◌, subst, inl, inr, arith}
use Rattle.nv_base.specs.Count.{Rose}
use Rattle.memif.specs.declared.answer.JobResult.TheVariants.{JobOk}
use Rattle.memif.specs.declared.answer.StartFault.{StartFault}
use Rattle.memif.specs.Told.{DeviceTold, Fixed, PartTold, Slot, Ended, is_open, no_part, slot_at}
use Rattle.memif.specs.Marks.{ComesFrom, IfTold}
use Rattle.memif.specs.Clock.{Clock}
use Rattle.memif.specs.Calls.{InOrder, StartsUp, ComesUp}
use Rattle.memif_pair.specs.Pair.{told_both, fixed_both, slots_both, numbers_in, stand_both}
use Rattle.memif_pair.specs.Laws.{pair_clock}
use Rattle.memif_pair.specs.Together.{AreTogether, IsOwnJob, answer_both}
use Rattle.memif_pair.proofs.Slots.{each_two, each_own}
use Rattle.memif_pair.proofs.Together.{together_both, clock_stays}

no_rose : (p q : PartTold) → p ≡ no_part → q ≡ no_part → Rose p.faults q.faults → ⊥
no_rose p q is none (inl more) = let a = ap (λ (x : PartTold). x.faults) is in let b = ap (λ (x : PartTold). x.faults) none in omega (arith, more, a, b)
no_rose p q is none (inr end) = let a = ap (λ (x : PartTold). x.faults) is in let b = ap (λ (x : PartTold). x.faults) none in let full = end.0 in omega (arith, full, a, b)

never : (x : Bool) → (x && false) ≡ false
never true = refl
never false = refl

module _ (one two : Result (Unit {0}) StartFault) (last last_new : Bool) (a : DeviceTold) (ca : Clock) (b : DeviceTold) (cb : Clock) (anew : DeviceTold) (ca_new : Clock) (bnew : DeviceTold) (cb_new : Clock) (course : List Bool)
    (first : StartsUp one a ca anew ca_new) (second : StartsUp two b cb bnew cb_new) (order_a : InOrder a ca) (order_b : InOrder b cb) (t : AreTogether a b last course) where
  abbrev old : DeviceTold
  old = told_both a b last course

  abbrev new : DeviceTold
  new = told_both anew bnew last_new course

  fixed_a : anew.fixed ≡ a.fixed
  fixed_a = ap (λ (d : DeviceTold). d.fixed) first.only

  fixed_b : bnew.fixed ≡ b.fixed
  fixed_b = ap (λ (d : DeviceTold). d.fixed) second.only

  stand_a : anew.stand ≡ Ended JobOk []
  stand_a = ap (λ (d : DeviceTold). d.stand) first.only

  stand_b : bnew.stand ≡ Ended JobOk []
  stand_b = ap (λ (d : DeviceTold). d.stand) second.only

  stand_is : (x : Bool) → stand_both x anew.stand bnew.stand ≡ Ended JobOk []
  stand_is true = stand_b
  stand_is false = stand_a

  each_up : (P : Slot → Slot → Type 0) → IfTold a.slots anew.slots (λ x y. (n : ℕ) → P (slot_at a.fixed.numbers x n) (slot_at a.fixed.numbers y n)) → IfTold b.slots bnew.slots (λ x y. (n : ℕ) → P (slot_at b.fixed.numbers x n) (slot_at b.fixed.numbers y n))
      → IfTold old.slots new.slots (λ x y. (n : ℕ) → P (slot_at (numbers_in a.fixed b.fixed) x n) (slot_at (numbers_in a.fixed b.fixed) y n))
  each_up P at_first at_second =
      subst (λ (f : Fixed). IfTold old.slots (slots_both f bnew.fixed anew.slots bnew.slots) (λ x y. (n : ℕ) → P (slot_at (numbers_in a.fixed b.fixed) x n) (slot_at (numbers_in a.fixed b.fixed) y n))) (sym fixed_a)
      (subst (λ (g : Fixed). IfTold old.slots (slots_both a.fixed g anew.slots bnew.slots) (λ x y. (n : ℕ) → P (slot_at (numbers_in a.fixed b.fixed) x n) (slot_at (numbers_in a.fixed b.fixed) y n))) (sym fixed_b)
      (each_two (λ n x y. P x y) a.fixed b.fixed a.slots anew.slots b.slots bnew.slots (each_own (λ n x y. P x y) b.fixed a.fixed false a.slots anew.slots at_first) (each_own (λ n x y. P x y) b.fixed b.fixed true b.slots bnew.slots at_second)))

  rose_first : Rose a.first.faults anew.first.faults ⊎ Rose a.second.faults anew.second.faults → Rose a.first.faults anew.first.faults
  rose_first (inl rose) = rose
  rose_first (inr rose) = absurd (no_rose a.second anew.second (order_a.second t.pair.first) (first.clock_stays.order.second (ap (λ (f : Fixed). f.two) fixed_a ∙ t.pair.first)) rose)

  rose_second : Rose b.first.faults bnew.first.faults ⊎ Rose b.second.faults bnew.second.faults → Rose b.first.faults bnew.first.faults
  rose_second (inl rose) = rose
  rose_second (inr rose) = absurd (no_rose b.second bnew.second (order_b.second t.pair.second) (second.clock_stays.order.second (ap (λ (f : Fixed). f.two) fixed_b ∙ t.pair.second)) rose)

  comes : (x y : Result (Unit {0}) StartFault) → ComesUp x a anew → ComesUp y b bnew → ComesUp (answer_both x y) old new
  comes (Err why) y up_a up_b = (λ i. (up_a.0 i) && bnew.started, inl (rose_first up_a.1))
  comes (Ok done) (Err why) up_a up_b = (ap (λ (s : Bool). anew.started && s) up_b.0 ∙ never anew.started, inr (rose_second up_b.1))
  comes (Ok done) (Ok also) up_a up_b = (λ i. (up_a.0 i) && (up_b.0 i), up_a.1, up_b.1, each_up (λ x y. y.doubts ≡ []) up_a.3 up_b.3)

  together : AreTogether anew bnew last_new course
  together = together_both a anew b bnew last last_new course t fixed_a (ap (λ (d : DeviceTold). d.ops) first.only) fixed_b (ap (λ (d : DeviceTold). d.ops) second.only)
      (record {
        first = λ on. absurd (let closed = ap is_open stand_a in let wrong : true ≡ false = sym on ∙ closed in cc wrong);
        second = λ on. absurd (let closed = ap is_open stand_b in let wrong : true ≡ false = sym on ∙ closed in cc wrong);
      })
      (subst (IsOwnJob false b) (sym stand_a) tt) (subst (IsOwnJob true b) (sym stand_b) tt)

  pub starts_up : StartsUp (answer_both one two) old (pair_clock ca b cb course) new (pair_clock ca_new bnew cb_new course) × AreTogether anew bnew last_new course
  starts_up = (
    record {
      only = λ i. record new {
        fixed = fixed_both (fixed_a i) (fixed_b i);
        tells = (ap (λ (d : DeviceTold). d.tells) first.only) i && (ap (λ (d : DeviceTold). d.tells) second.only) i;
        stand = stand_is last_new i;
        switching = (ap (λ (d : DeviceTold). d.switching) first.only) i;
        starts = (ap (λ (d : DeviceTold). d.starts) first.only) i;
        left = (ap (λ (d : DeviceTold). d.left) first.only) i + (ap (λ (d : DeviceTold). d.left) second.only) i;
      };
      comes_to = comes one two first.comes_to second.comes_to;
      marks = each_up (λ x y. ComesFrom x y) first.marks second.marks;
      first = first.first;
      second = second.first;
      clock_stays = clock_stays a anew ca ca_new b bnew cb cb_new last_new course together fixed_b first.clock_stays.same second.clock_stays.same first.clock_stays.order second.clock_stays.order;
    },
    together,
  )
