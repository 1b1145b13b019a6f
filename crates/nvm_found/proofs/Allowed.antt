-- The Found of what was found may come behind a history.
use Rattle.std.specs.Prelude.{◌==◌, is_some}
use Rattle.std.proofs.Common.{◌≡◌, ℕ, suc, ◌+◌, ◌/◌, ◌≤◌, true, false, List, [], ◌∷◌, map, length, Option, Some, None, IfSome, refl, sym, ap, ◌∙◌, subst, arith}
use Rattle.std.specs.List.{Contains, list_all}
use Rattle.std.proofs.lemmas.Bool.{eq-eqb}
use Rattle.block_machine.specs.nv_base.Marks.{instance_of, listed}
use Rattle.block_machine.specs.nv_base.declared.instance.DeviceNumber.{DeviceNumber}
use Rattle.block_machine.specs.nv_base.declared.mark.Mark.TheVariants.{Content, Invalid, Erased}
use Rattle.memif.specs.Told as device
use Rattle.memif.specs.Told.{DeviceTold, PartTold, Slot, Fixed, slot_at, Part, never_written}
use Rattle.memif.specs.Marks.{ComesFrom, IfTold}
use Rattle.memif.specs.Clock.{Clock}
use Rattle.block_machine.specs.block_config.Lengths.{lengths_of}
use Rattle.block_machine.specs.Words.{Instance, Mark, Entry, Found, Configuration}
use Rattle.block_machine.specs.State.{State}
use Rattle.block_machine.specs.Blocks.{desc_of, instance_at}
use Rattle.block_machine.specs.StartUp.{listed_mark, found_instance}
use Rattle.block_machine.specs.Steps.{after}
use Rattle.block_machine.specs.History.{MayStandIn}
use Rattle.block_machine.specs.Legal.{IsAllowed, IsFound, MayBeFound, marks_of, has_length}
use Rattle.promise_blocks.specs.OverDevice.{HasStarted}
use Rattle.promise_blocks.specs.Counts.{count_due}
use Rattle.nvm_device_laws.specs.Pairing.{Allows, Pairs}
use Rattle.nvm_device_laws.specs.Turn.{Keeps, TellsSlots, ListsSettled, down}
use Rattle.block_laws.proofs.HistoryLaws.{entries_are_counted}
use Rattle.block_laws.proofs.OwnInstances.{found_may_stand}
use Rattle.nvm_device_laws.proofs.Behind.{is_behind}
use Rattle.nvm_device_laws.proofs.Moments.{keeps_marks}
use Rattle.nvm_found.specs.Found.{relisted, HasLength, IsListOf, AreHeld, Finds, listed_in, FoundMarksKeep}
use Rattle.block_laws.proofs.InstanceNumbers.{own_length}

-- WHAT IT LISTS
-- the machine's list of what was found
relists : (marks : List (Instance × Mark)) (ns : List (DeviceNumber × ℕ))
    → marks_of (map (λ (x : DeviceNumber × ℕ). found_instance marks (instance_of x.0)) ns) ≡ relisted marks ns
relists marks [] = refl
relists marks (x ∷ xs) = ap (λ ms. listed (instance_of x.0) (listed_mark marks (instance_of x.0)) ms) (relists marks xs)

list_more : (c : Configuration) (i : Instance) (m : Mark) (n : ℕ) (rest : List (Instance × Mark)) → HasLength m n
    → n ≡ (desc_of c i.block).length → list_all (λ (x : Instance × Mark). has_length c x.0 x.1) rest ≡ true
    → list_all (λ (x : Instance × Mark). has_length c x.0 x.1) (listed i m rest) ≡ true
list_more c i (Content bytes) n rest is same all =
    let own : (length bytes == (desc_of c i.block).length) ≡ true = eq-eqb (length bytes) (desc_of c i.block).length (is ∙ same) in
    rw (own, all) refl
list_more c i Invalid n rest is same all = rw all refl
list_more c i Erased n rest is same all = all

each_whole : (c : Configuration) (marks : List (Instance × Mark)) (ns : List (DeviceNumber × ℕ))
    → ((x : DeviceNumber × ℕ) → Contains ns x → HasLength (listed_mark marks (instance_of x.0)) x.1)
    → ((x : DeviceNumber × ℕ) → Contains ns x → x.1 ≡ (desc_of c (x.0.0 / 64)).length)
    → list_all (λ (x : Instance × Mark). has_length c x.0 x.1) (relisted marks ns) ≡ true
each_whole c marks [] whole own = refl
each_whole c marks (x ∷ xs) whole own = list_more c (instance_of x.0) (listed_mark marks (instance_of x.0)) x.1 (relisted marks xs)
    (whole x (0, omega arith, refl)) (own x (0, omega arith, refl))
    (each_whole c marks xs (λ y (k, few, is). whole y (suc k, omega (arith, few), is)) (λ y (k, few, is). own y (suc k, omega (arith, few), is)))

-- WHAT IS SETTLED
settled_list : (c : Configuration) (marks : List (Instance × Mark)) (numbers : List (DeviceNumber × ℕ)) (n : Option (List Slot)) → is_some n ≡ true
    → numbers ≡ lengths_of c → IfSome n (AreHeld numbers marks) → ListsSettled c marks numbers n
settled_list c marks numbers (Some v) told same held = λ x has. held x (subst (λ ns. Contains ns x) (sym same) has)
settled_list c marks numbers None told same held = absurd (not_told told)
  where
    not_told : false ≡ true → ⊥
    not_told is = cc

-- what was possible before may stand
found_stands : (c : Configuration) (s : State) (due : ℕ → ℕ) (marks : List (Instance × Mark)) (numbers : List (DeviceNumber × ℕ))
    → (o n : Option (List Slot)) → IfTold o n (λ u v. (i : ℕ) → ComesFrom (slot_at numbers u i) (slot_at numbers v i))
    → Pairs Allows c s due numbers o → ListsSettled c marks numbers n → (x : DeviceNumber × ℕ) → Contains (lengths_of c) x
    → MayStandIn (instance_at s (instance_of x.0)) (listed_mark marks (instance_of x.0))
found_stands c s due marks numbers (Some u) (Some v) each pairs lists x has =
    let (y, at, allows) = pairs x has in
    rw (at, lists x has) (allows (slot_at numbers v x.0.0).settled (each x.0.0).settled).mark
found_stands c s due marks numbers (Some u) None each pairs lists x has = absurd lists
found_stands c s due marks numbers None n each pairs lists x has = absurd pairs

-- so it keeps to the history
pub found_marks_keep : FoundMarksKeep
found_marks_keep c cap h before old clock new marks finds told has keeps =
    let was = finds.up.restarted in
    let numbers : new.fixed.numbers ≡ old.fixed.numbers = ap (λ (f : Fixed). f.numbers) was.fixed in
    let configured : new.fixed.numbers ≡ lengths_of c = numbers ∙ keeps.device.numbers in
    let settled : ListsSettled c marks new.fixed.numbers new.slots =
    settled_list c marks new.fixed.numbers new.slots told configured finds.held in
    keeps_marks c cap h (λ n. record never_written { mark = listed_in marks n }) keeps.device.rules keeps.over.legal
    (found_stands c (after c h) (count_due h keeps.base) marks old.fixed.numbers old.slots new.slots was.marks (keeps.marks has)
    (subst (λ ns. ListsSettled c marks ns new.slots) numbers settled))

-- before the first start-up there is nothing
first_found : (c : Configuration) (h : List Entry) (marks : List (Instance × Mark)) → (HasStarted h → MayBeFound marks (after c h).instances)
    → MayBeFound marks (after c h).instances
first_found c [] marks later = tt
first_found c (e ∷ es) marks later = later tt

module _ (c : Configuration) (cap : ℕ) (h : List Entry) (before : Part → PartTold)
    (old : DeviceTold) (clock : Clock) (new : DeviceTold) (marks : List (Instance × Mark)) where
  pub found_allowed : Finds marks old new → TellsSlots new → length h + 2 ≤ cap → Keeps c cap h before (down old) clock
      → IsAllowed c cap (after c h) (Found marks (device.ops_of new)) × ListsSettled c marks new.fixed.numbers new.slots
  found_allowed finds told fits keeps =
      let was = finds.up.restarted in
      let numbers : new.fixed.numbers ≡ old.fixed.numbers = ap (λ (f : Fixed). f.numbers) was.fixed in
      let configured : new.fixed.numbers ≡ lengths_of c = numbers ∙ keeps.device.numbers in
      let settled : ListsSettled c marks new.fixed.numbers new.slots =
      settled_list c marks new.fixed.numbers new.slots told configured finds.held in
      let listed_old : ListsSettled c marks old.fixed.numbers new.slots = subst (λ ns. ListsSettled c marks ns new.slots) numbers settled in
      let (few, started) = is_behind old clock c cap h before keeps in
      let now : device.ops_of new ≡ device.ops_of old = was.ops in
      let list : IsListOf (lengths_of c) marks = subst (λ ns. IsListOf ns marks) configured finds.lists in
      let whole : list_all (λ (x : Instance × Mark). has_length c x.0 x.1) (relisted marks (lengths_of c)) ≡ true =
      each_whole c marks (lengths_of c) list.lengths (λ x has. own_length c x keeps.device.rules has) in
      let allowed : IsFound c cap (after c h) marks (device.ops_of new) = record {
        room = (let count = entries_are_counted c h in omega (arith, count, fits));
        grows = omega (arith, few, now);
        lists = list.lists ∙ sym (relists marks (lengths_of c));
        lengths = ap (λ ms. list_all (λ (x : Instance × Mark). has_length c x.0 x.1) ms) list.lists ∙ whole;
        stands = first_found c h marks (λ has. found_may_stand c cap h marks keeps.over.legal (started has)
            (found_stands c (after c h) (count_due h keeps.base) marks old.fixed.numbers old.slots new.slots was.marks (keeps.marks has) listed_old));
      } in
      (allowed, settled)
