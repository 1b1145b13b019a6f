-- What a whole turn of the driver tells, from its halves.
use Rattle.std.proofs.Common.{◌≡◌, ◌⊎◌, inl, inr, ℕ, List, [], ◌∷◌, ◌++◌, ap, ◌∙◌, subst, append_assoc}
use lib.ListN.{get_elem?}
use Rattle.atomic_table.proofs.Lists.{at_longer, at_snoc}
use Rattle.turn_gate.specs.declared.pass.View.{View}
use Rattle.turn_gate.specs.Entries.{StartsWith}
use Rattle.turn_gate.specs.Pass.{Has}
use Rattle.nvm_core.specs.memif.Told.{DeviceTold}
use Rattle.nvm_core.specs.block_machine.Words.{Entry}
use Rattle.nvm_core.specs.nv_desk.Desk.{DeskState}
use Rattle.nvm_core.specs.nvm_laws.declared.turned.Turned.{Turned}
use Rattle.nvm_core.specs.nvm_laws.declared.turned.Turned.TheVariants as turned
use Rattle.nvm_core.specs.Stack.{StackState}
use Rattle.nvm_core.specs.Work.{TakesTurns}
use Rattle.nvm_shared.specs.declared.terms.Terms.{Terms}
use Rattle.nvm_shared.specs.Passes.{IsDriven, IsEntry, LearnsHalf, LearnsTurn}
use Rattle.nvm_shared.specs.Driving.{DriverState, stack_of}

abbrev V : Type 0
V = View Entry Terms

goes_through : {A : Type 0} (a b c : List A) → StartsWith b a → StartsWith c b → StartsWith c a
goes_through {A} a b c (x, first) (y, second) = (x ++ y, second ∙ ap (λ (l : List A). l ++ y) first ∙ append_assoc a x y)

-- an entry stands in each list that goes on
entry_on : (old new : List Entry) (k : ℕ) (e : Entry) → StartsWith new old → IsEntry old k e → IsEntry new k e
entry_on old new k e (rest, is) at = ap (λ (l : List Entry). get_elem? l k) is ∙ at_longer old rest k e at

driven_on : (old new : List Entry) (k : ℕ) → StartsWith new old → IsDriven old k → IsDriven new k
driven_on old new k starts driven = (driven.0, entry_on old new k driven.0 starts driven.1, driven.2, driven.3)

-- a number is an old one, or of an entry of the driver
own_in : (v w : V) → (w.own ≡ v.own) ⊎ ((k : ℕ) × (w.own ≡ v.own ++ k ∷ []) × IsDriven w.seen k) → (k : ℕ) → Has w.own k → Has v.own k ⊎ IsDriven w.seen k
own_in v w (inl same) k has = inl (subst (λ (ks : List ℕ). Has ks k) same has)
own_in v w (inr (n, own, driven)) k has =
    let (i, at) = subst (λ (ks : List ℕ). Has ks k) own has in elim (at_snoc v.own n k i at) [
      | inl before ↦ inl (i, before)
      | inr last ↦ inr (subst (λ (m : ℕ). IsDriven w.seen m) last driven)
    ]

pub half_learns : (v w : V) → LearnsHalf v w → LearnsTurn v w
half_learns v w half = record { starts = half.starts; notes = half.notes; heard = half.heard; own = own_in v w half.own }

pub both_learn : (v u w : V) → LearnsHalf v u → LearnsHalf u w → LearnsTurn v w
both_learn v u w first second = record {
  starts = goes_through v.seen u.seen w.seen first.starts second.starts;
  notes = goes_through v.notes u.notes w.notes first.notes second.notes;
  heard = goes_through v.heard u.heard w.heard first.heard second.heard;
  own = λ k has. elim (own_in u w second.own k has) [
    | inl between ↦ elim (own_in v u first.own k between) [
      | inl before ↦ inl before
      | inr driven ↦ inr (driven_on u.seen w.seen k second.starts driven)
    ]
    | inr driven ↦ inr driven
  ];
}

-- THE TURNS THAT ARE LEFT
-- they are told of the job in hand and the device alone
pub takes_with : {D C : Type 0} (told : D → DeviceTold) (answer : Turned) (desk other : DeskState) (s : DriverState D C) (new : StackState D C)
    → TakesTurns told answer (stack_of other s) new → TakesTurns told answer (stack_of desk s) new
takes_with told turned.Picked desk other s new takes = takes
takes_with told turned.Posted desk other s new takes = takes
takes_with told turned.Worked desk other s new takes = takes
takes_with told turned.Idle desk other s new takes = takes
takes_with told turned.Off desk other s new takes = takes
