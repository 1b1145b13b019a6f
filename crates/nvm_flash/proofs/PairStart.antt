-- The first start-up of a stack over a flash and an EEPROM: what is kept behind it.
use Rattle.std.specs.Prelude.{◌&&◌, slice_get, min}
use Rattle.std.proofs.Common.{◌≡◌, ℕ, Bool, List, [], ◌∷◌, length, Some, sym, ap, ◌∙◌, subst, inr}
use Rattle.nvm_core.specs.nv_base.Count.{last_count}
use Rattle.nvm_core.specs.block_config.Config.{Configuration}
use Rattle.nvm_core.specs.block_machine.Words.{Entry}
use Rattle.nvm_core.specs.nv_base.Marks.{instance_of}
use Rattle.nvm_core.specs.memif.Told.{Part, PartTold, DeviceTold, Fixed, First, Second, figures_at, part_of_block, part_at as at_part}
use Rattle.nvm_core.specs.memif.Calls.{InOrder}
use Rattle.memif_fee_ea.specs.fee_core.fls_model.Told.{Told}
use Rattle.memif_fee_ea.specs.fee_core.promise_device.Making as flash
use Rattle.memif_fee_ea.specs.fee_core.fee_told.Device as fee
use Rattle.memif_fee_ea.specs.ea_slots.ea_told.Making as eeprom
use Rattle.memif_fee_ea.specs.ea_slots.ea_told.Device as slots
use Rattle.memif_fee_ea.specs.memif_pair.Pair.{fixed_both}
use Rattle.memif_fee_ea.specs.ea_slots.Whole as ea
use Rattle.memif_fee_ea.specs.memif_pair.Both.{BothState}
use Rattle.memif_fee_ea.specs.Made.{AreParts, IsMadeOf}
use Rattle.nvm_core.specs.nvm_device_laws.Turn.{Keeps, BeginsKept, down}
use Rattle.nvm_core.specs.nvm_device_laws.Pairing.{IsFor}
use Rattle.nvm_core.specs.nvm_laws.Keeps.{KeepsAsTold, KeepsWhileDown}
use Rattle.nvm_core.specs.Stack.{StackState}
use Rattle.nvm_core.proofs.StartingUp.{stacks_begin}
use Rattle.nvm_flash.specs.PairMaking.{making_second}
use Rattle.nvm_flash.proofs.PairFigures.{pair_parts}
use Rattle.nvm_flash.specs.PairStart.{PairsAreFor, PairsBeginUp, PairsHaveFigures, pair_told, pair_clock, parts_before}

-- THE FIGURES
pub pairs_have_figures : PairsHaveFigures
pairs_have_figures C g c most m entry n entry_other copies s made of =
    let second : (ea.told_in s.device.second).fixed ≡ slots.fixed_for (making_second g c) = made.device.second.fixed ∙ ap slots.fixed_for of in
    λ i. fixed_both (made.figures i) (second i)

pub pairs_are_for : PairsAreFor
pairs_are_for C g c most m entry n entry_other copies s made is of = record {
  rules = is.legal;
  numbers = made.numbers;
  parts = λ x has.
      subst (λ (f : Fixed). (figures_at f x.0.0).part ≡ part_of_block f (instance_of x.0).block) (sym (pairs_have_figures C g c most m entry n entry_other copies s made of)) (pair_parts g c is x has);
}

-- NOTHING WAS ASKED FOR
none_ops : (course : List Bool) → course ≡ [] → min (length course) last_count ≡ 0
none_ops course none = ap (λ (cs : List Bool). min (length cs) last_count) none

none_at : (course : List Bool) → course ≡ [] → (k : ℕ) (q : Bool) → slice_get course k ≡ Some q → ⊥
none_at [] none k q at = cc at
none_at (x ∷ xs) none k q at = cc none

-- before it the empty history keeps all
pair_down : (c : Configuration) (most : ℕ) (m : flash.Making) (entry : Told) (n : eeprom.Making) (entry_other : Told) (d : BothState fee.Device ea.Device) → IsMadeOf m entry n d → AreParts entry entry_other (pair_told d)
    → BeginsKept (pair_told d) (pair_clock d) → InOrder (pair_told d) (pair_clock d) → IsFor c (pair_told d) → Keeps c most [] (parts_before entry entry_other) (down (pair_told d)) (pair_clock d)
pair_down c most m entry n entry_other d made parts begins order is_for =
    subst (λ (x : DeviceTold). Keeps c most [] (parts_before entry entry_other) x (pair_clock d)) stopped
    (begins c most (parts_before entry entry_other) same is_for
    (record { ops = none_ops d.course made.course; on = λ k off. none_at d.course made.course k off.second off.is; finds = λ held finds. order.now held finds }))
  where
    stopped : pair_told d ≡ down (pair_told d)
    stopped = ap (λ (b : Bool). record (pair_told d) { started = b && (ea.told_in d.second).started }) made.first.started

    same : (p : Part) → (parts_before entry entry_other p).faults ≡ (at_part p (pair_told d)).faults
    same First = sym (ap (λ (p : PartTold). p.faults) parts.first)
    same Second = sym (ap (λ (p : PartTold). p.faults) parts.second)

-- behind it all is kept
pub pairs_begin_up : PairsBeginUp
pairs_begin_up C m entry n entry_other old s made begins order is_for starts keeps =
    keeps (parts_before entry entry_other) (λ told. inr (starts.finds.up.restarted.ops ∙ ops))
    (subst (λ (h : List Entry). KeepsAsTold (KeepsWhileDown old.desk.config old.desk.cap h before (pair_told old.device) (pair_clock old.device)) old.desk.config old.desk.cap h (pair_told old.device) (pair_clock old.device)) (sym (ap (λ x. x.desk.entries) made.unstarted.only))
    (stacks_begin (pair_told old.device) (pair_clock old.device) old.desk.config old.desk.cap before order ops made.device.first.starts
    (pair_down old.desk.config old.desk.cap m entry n entry_other old.device made.device made.parts begins order is_for)))
  where
    ops : (pair_told old.device).ops ≡ 0
    ops = none_ops old.device.course made.device.course

    before : Part → PartTold
    before = parts_before entry entry_other
