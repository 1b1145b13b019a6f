-- What reads leave of a part and of what the numbers hold.
use Rattle.std.proofs.Common.{◌≡◌, ℕ, false, List, [], ◌∷◌, Option, Some, None, refl, sym, ap, ◌∙◌, subst, inl, inr, arith}
use Rattle.std.specs.List.{Contains}
use Rattle.block_machine.specs.nv_base.Plan.{Planning, dropped, nearer, Nears}
use Rattle.block_machine.specs.nv_base.declared.instance.DeviceNumber.{DeviceNumber}
use Rattle.memif.specs.Told.{DeviceTold, PartTold, Slot, Held, Fixed, slot_at}
use Rattle.memif.specs.Marks.{IsPossible, Keeps, ComesFrom, IfTold, KeepsAll, EachNumber}
use Rattle.memif.specs.Calls.{FaultsGrow, PowersUp, PartTurns}
use Rattle.memif.proofs.Turning.{none_in}
use Rattle.nvm_found.specs.Found.{IsUp}
use Rattle.nvm_found.specs.Reading.{PartReads}

-- COUNTS OF FAULTS
pub grows_more : (a b c : PartTold) → FaultsGrow a b → FaultsGrow b c → FaultsGrow a c
grows_more a b c one two = record {
  faults = omega (arith, one.faults, two.faults);
  flash = omega (arith, one.flash, two.flash);
  tied = elim two.tied [
    | inr end ↦ inr end
    | inl more ↦ elim one.tied [
      | inl less ↦ inl (omega (arith, less, more))
      | inr end ↦ inr (omega (arith, end, two.flash))
    ]
  ];
}

-- A PART
pub part_same : (a b : PartTold) → b ≡ a → PartReads a b
part_same a b same = record {
  off = ap (λ (p : PartTold). p.off) same;
  faults = record {
    faults = (let e = ap (λ (p : PartTold). p.faults) same in omega (arith, e));
    flash = (let e = ap (λ (p : PartTold). p.flash_faults) same in omega (arith, e));
    tied = (let e = ap (λ (p : PartTold). p.faults) same in let f = ap (λ (p : PartTold). p.flash_faults) same in inl (omega (arith, e, f)));
  };
  plan = λ none. ap (λ (p : PartTold). p.planning) same;
}

no_nearer : (p q : Planning) → p.plan ≡ None → Nears p q → q ≡ p
no_nearer p q none nears = nears.planning ∙ (λ i. record p { plan = (ap nearer none ∙ sym none) i })

pub part_turned : (n : ℕ) (a b : PartTold) → PartTurns false n n a b → PartReads a b
part_turned n a b turns = record {
  off = ap (λ (p : PartTold). p.off) turns.only ∙ sym turns.on;
  faults = turns.faults;
  plan = λ none. elim turns.plan [ inl same ↦ same.0 | inr nears ↦ no_nearer a.planning b.planning none nears.0 ];
}

powered : (a b : PartTold) (planning : Planning) → b.planning ≡ planning
    → b ≡ record a { faults = b.faults; flash_faults = b.flash_faults; off = b.off; planning = planning }
powered a b planning plan = λ i. record { faults = b.faults; flash_faults = b.flash_faults; off = b.off; planning = plan i }

pub powers_on : (a b c : PartTold) → PowersUp a b → PartReads b c → PowersUp a c
powers_on a b c up reads =
    let was : b.planning ≡ dropped a.planning = ap (λ (p : PartTold). p.planning) up.only in
    let none : b.planning.plan ≡ None = ap (λ (p : Planning). p.plan) was in
    record {
      only = powered a c (dropped a.planning) (reads.plan none ∙ was);
      faults = grows_more a b c up.faults reads.faults;
      off = λ is. up.off (sym reads.off ∙ is);
    }

-- WHAT THE NUMBERS HOLD
pub keeps_same : (numbers : List (DeviceNumber × ℕ)) (o n : Option (List Slot)) → n ≡ o
    → IfTold o n (λ u v. (i : ℕ) → Keeps (slot_at numbers u i) (slot_at numbers v i))
keeps_same numbers (Some u) n same = rw same (λ i. record { settled = refl; doubts = λ h has. has })
keeps_same numbers None n same = rw same tt

-- a relation on slots and one more give a relation on each number
told_more : (P Q R : Slot → Slot → Type 0) → ((a b c : Slot) → P a b → Q b c → R a c) → (numbers : List (DeviceNumber × ℕ))
    → (o m n : Option (List Slot)) → IfTold o m (λ u v. (i : ℕ) → P (slot_at numbers u i) (slot_at numbers v i))
    → IfTold m n (λ u v. (i : ℕ) → Q (slot_at numbers u i) (slot_at numbers v i))
    → IfTold o n (λ u v. (i : ℕ) → R (slot_at numbers u i) (slot_at numbers v i))
told_more P Q R more numbers (Some u) (Some v) (Some w) one two = λ i.
    more (slot_at numbers u i) (slot_at numbers v i) (slot_at numbers w i) (one i) (two i)
told_more P Q R more numbers None (Some v) (Some w) one two = absurd one
told_more P Q R more numbers o None (Some w) one two = absurd two
told_more P Q R more numbers o m None one two = tt

abbrev pub Each : (Slot → Slot → Type 0) → DeviceTold → DeviceTold → Type 0
Each P old new = EachNumber (λ n s t. P s t) old new

pub each_more : (P Q R : Slot → Slot → Type 0) → ((a b c : Slot) → P a b → Q b c → R a c) → (a b c : DeviceTold)
    → b.fixed ≡ a.fixed → Each P a b → Each Q b c → Each R a c
each_more P Q R more a b c fixed one two = told_more P Q R more a.fixed.numbers a.slots b.slots c.slots one
    (subst (λ (f : Fixed). IfTold b.slots c.slots (λ u v. (i : ℕ) → Q (slot_at f.numbers u i) (slot_at f.numbers v i))) fixed two)

keeps_more : (a b c : Slot) → Keeps a b → Keeps b c → Keeps a c
keeps_more a b c one two = record { settled = two.settled ∙ one.settled; doubts = λ h has. one.doubts h (two.doubts h has) }

pub keeps_all_more : (a b c : DeviceTold) → b.fixed ≡ a.fixed → KeepsAll a b → KeepsAll b c → KeepsAll a c
keeps_all_more = each_more Keeps Keeps Keeps keeps_more

comes_more : (a b c : Slot) → ComesFrom a b → Keeps b c → ComesFrom a c
comes_more a b c one two = record {
  settled = subst (λ (h : Held). IsPossible a h) (sym two.settled) one.settled;
  doubts = λ h has. one.doubts h (two.doubts h has);
}

-- the doubts of a slot that has none stay none
no_doubts : (l : List Held) → ((h : Held) → Contains l h → Contains [] h) → l ≡ []
no_doubts [] none = refl
no_doubts (x ∷ xs) none = absurd (none_in x (none x (0, omega arith, refl)))

clear_more : (a b c : Slot) → b.doubts ≡ [] → Keeps b c → c.doubts ≡ []
clear_more a b c clear two = no_doubts c.doubts (λ h has. subst (λ (l : List Held). Contains l h) clear (two.doubts h has))

-- A DEVICE
-- what a read leaves of a device that was started up
pub up_more : (a b c : DeviceTold) → c.fixed ≡ b.fixed → c.ops ≡ b.ops → c.starts ≡ b.starts → c.tells ≡ b.tells → c.started ≡ b.started → PartReads b.first c.first
    → PartReads b.second c.second → KeepsAll b c → IsUp a b → IsUp a c
up_more a b c fixed ops starts tells started first second marks up =
    let was = up.restarted in
    record {
      restarted = record {
        fixed = fixed ∙ was.fixed;
        ops = ops ∙ was.ops;
        starts = starts ∙ was.starts;
        tells = tells ∙ was.tells;
        first = powers_on a.first b.first c.first was.first first;
        second = powers_on a.second b.second c.second was.second second;
        marks = each_more ComesFrom Keeps ComesFrom comes_more a b c was.fixed was.marks marks;
      };
      started = started ∙ up.started;
      first_on = first.off ∙ up.first_on;
      second_on = second.off ∙ up.second_on;
      settled = each_more (λ s t. t.doubts ≡ []) Keeps (λ s t. t.doubts ≡ []) clear_more a b c was.fixed up.settled marks;
    }
