-- No planned cut comes where none is planned.
use Rattle.std.proofs.Common.{◌≡◌, ℕ, true, false, refl, sym, ap, ◌∙◌, subst, inl, inr, arith}
use Rattle.nvm_core.specs.nv_base.Plan.{Planning, nearer}
use Rattle.nvm_core.specs.memif.Told.{DeviceTold, PartTold, Part, First, Second, Fixed, Stand, Open, Ended}
use Rattle.nvm_core.specs.memif.Clock.{Clock}
use Rattle.nvm_core.specs.memif.Calls.{PartTurns, IsOf, Works, IsCut, IsOff}
use Rattle.nvm_core.specs.OperationStart.{LeavesDevice}
use Rattle.nvm_core.specs.BehindDevice.{TurnsDevice}
use Rattle.nvm_core.specs.nvm_laws.declared.turned.Turned.{Turned}
use Rattle.nvm_core.specs.nvm_laws.declared.turned.Turned.TheVariants as turned
use Rattle.nvm_shared.specs.Unplanned.{IsUnplanned, StaysUnplanned}

-- A PART
part_works : (ops ops_new : ℕ) (old new : PartTold) → IsUnplanned old → PartTurns false ops ops_new old new → StaysUnplanned turned.Worked old new
part_works ops ops_new old new was turns = elim turns.plan [
  | inl same ↦ record {
    unplanned = record {
      came = ap (λ (q : Planning). q.came) same.0 ∙ was.came;
      plan = λ on. ap (λ (q : Planning). q.plan) same.0 ∙ was.plan turns.on;
    };
    counted = let count = ap (λ (q : Planning). q.unplanned) same.0 in inl (omega (arith, count));
    power = λ other. ap (λ (p : PartTold). p.off) turns.only ∙ sym turns.on;
  }
  | inr nears ↦ record {
    unplanned = record {
      came = ap (λ (q : Planning). q.came) nears.0.planning ∙ was.came;
      plan = λ on. ap (λ (q : Planning). q.plan) nears.0.planning ∙ ap nearer (was.plan turns.on);
    };
    counted = let count = ap (λ (q : Planning). q.unplanned) nears.0.planning in inl (omega (arith, count));
    power = λ other. ap (λ (p : PartTold). p.off) turns.only ∙ sym turns.on;
  }
]

part_cut : (ops ops_new : ℕ) (old new : PartTold) → IsUnplanned old → PartTurns true ops ops_new old new → StaysUnplanned turned.Off old new
part_cut ops ops_new old new was turns = elim turns.plan [
  | inl comes ↦ let none = was.plan turns.on in let some = comes.0.stood in absurd (cc (none, some))
  | inr cut ↦ record {
    unplanned = record {
      came = cut.came ∙ was.came;
      plan = λ on. let off : new.off ≡ true = ap (λ (p : PartTold). p.off) turns.only in absurd (cc (off, on));
    };
    counted = elim cut.unplanned [ inl more ↦ inl (omega (arith, more)) | inr last ↦ inr (omega (arith, last.0, last.1)) ];
    power = λ other. absurd (other refl);
  }
]

-- A TURN
-- a device of one part makes no turn on the second
not_second : (f : Fixed) (s : Stand) → IsOf Second f s → f.two ≡ false → ⊥
not_second f (Open j) of alone = let no_ : true ≡ false = sym of.0 ∙ alone in cc no_
not_second f (Ended result given) of alone = cc of

works : (p : Part) (old new : DeviceTold) (clock : Clock) → old.fixed.two ≡ false → IsUnplanned old.first → Works p old new clock → StaysUnplanned turned.Worked old.first new.first
works First old new clock alone was turns = part_works old.ops new.ops old.first new.first was turns.part
works Second old new clock alone was turns = absurd (not_second old.fixed old.stand turns.of alone)

cuts : (p : Part) (old new : DeviceTold) → old.fixed.two ≡ false → IsUnplanned old.first → IsCut p old new → StaysUnplanned turned.Off old.first new.first
cuts First old new alone was cut = part_cut old.ops new.ops old.first new.first was cut.part
cuts Second old new alone was cut = absurd (not_second old.fixed old.stand cut.of alone)

is_on : (p : Part) (old new : DeviceTold) (clock clock_new : Clock) → old.fixed.two ≡ false → old.first.off ≡ false → IsOff p old clock new clock_new → ⊥
is_on First old new clock clock_new alone on off = let is : true ≡ false = sym off.0 ∙ on in cc is
is_on Second old new clock clock_new alone on off = not_second old.fixed old.stand off.1 alone

-- The turn of a device of one part, whose power was on: none came, and where the power went off a cut was counted.
pub turns_stay_unplanned : (answer : Turned) (old new : DeviceTold) (clock clock_new : Clock) → old.fixed.two ≡ false → old.first.off ≡ false → IsUnplanned old.first → TurnsDevice answer old clock new clock_new
    → StaysUnplanned answer old.first new.first
turns_stay_unplanned turned.Idle old new clock clock_new alone on was turns =
    let same : new.first ≡ old.first = ap (λ (d : DeviceTold). d.first) turns.0.1 in
    subst (λ (p : PartTold). StaysUnplanned turned.Idle old.first p) (sym same) (record { unplanned = was; counted = inl (omega arith); power = λ other. refl })
turns_stay_unplanned turned.Worked old new clock clock_new alone on was turns = works turns.0.1.0 old new clock_new alone was turns.0.1.1
turns_stay_unplanned turned.Off old new clock clock_new alone on was turns = elim turns.0.1.1 [
  | inl off ↦ absurd (is_on turns.0.1.0 old new clock clock_new alone on off)
  | inr cut ↦ cuts turns.0.1.0 old new alone was cut.0
]
turns_stay_unplanned turned.Picked old new clock clock_new alone on was turns = absurd turns
turns_stay_unplanned turned.Posted old new clock clock_new alone on was turns = absurd turns

-- a first half leaves the part as it was
pub halves_stay_unplanned : (old new : DeviceTold) → LeavesDevice old new → new.first ≡ old.first
halves_stay_unplanned old new leaves = ap (λ (d : DeviceTold). d.first) leaves
