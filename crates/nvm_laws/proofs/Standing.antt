-- What stands behind a start-up, with nothing after it.
use Rattle.std.specs.Prelude.{is_some, map, slice_get}
use Rattle.std.proofs.Common.{◌≡◌, ◌-◌, ℕ, suc, List, [], ◌∷◌, length, Option, Some, refl, sym, ap, ◌∙◌, subst, arith}
use Rattle.std.specs.List.{Contains}
use Rattle.block_machine.specs.nv_base.Marks.{instance_of, listed}
use Rattle.block_machine.specs.nv_base.declared.instance.DeviceNumber.{DeviceNumber}
use Rattle.memif.specs.Told.{Slot, slot_at}
use Rattle.block_machine.specs.block_config.Lengths.{lengths_of}
use Rattle.block_machine.specs.Words.{Instance, Mark, Entry, Found, Configuration}
use Rattle.block_machine.specs.State.{State, InstanceState}
use Rattle.block_machine.specs.Blocks.{instance_at}
use Rattle.block_machine.specs.StartUp.{at_first, found_instance, found_instances, listed_mark}
use Rattle.block_machine.specs.Steps.{step, after, after_from}
use Rattle.block_machine.specs.Legal.{IsLegalFrom, marks_of}
use Rattle.promise_blocks.specs.Counts.{count_due}
use Rattle.nvm_device_laws.specs.Pairing.{Agrees, Pairs}
use Rattle.block_laws.proofs.CellChanges.{found_cells}
use Rattle.nvm_laws.specs.Standing.{FoundStands, marks_standing, settled_marks}

-- THE LAST ENTRY
-- a legal history whose last entry is a Found: it lists its own instances, and all is as it found it
record IsLast (c : Configuration) (s : State) (es : List Entry) (marks : List (Instance × Mark)) (ops : ℕ) : Type 0 where
  lists : marks ≡ marks_of (found_instances c marks)
  before : State
  behind : after_from c s es ≡ step c before (Found marks ops)

found_last : (c : Configuration) (cap : ℕ) (s : State) (es : List Entry) (marks : List (Instance × Mark)) (ops : ℕ) → IsLegalFrom c cap s es
    → slice_get es (length es - 1) ≡ Some (Found marks ops) → IsLast c s es marks ops
found_last c cap s [] marks ops legal last = cc last
found_last c cap s (e ∷ []) marks ops legal last =
    let is : e ≡ Found marks ops = cc last in
    let allowed = subst (λ (x : Entry). IsLegalFrom c cap s (x ∷ [])) is legal in
    record { lists = allowed.0.lists; before = s; behind = ap (λ (x : Entry). step c s x) is }
found_last c cap s (e ∷ f ∷ es) marks ops legal last =
    let k : length (e ∷ f ∷ es) - 1 ≡ suc (length (f ∷ es) - 1) = omega arith in
    let rest = found_last c cap (step c s e) (f ∷ es) marks ops legal.1 (sym (ap (λ n. slice_get (e ∷ f ∷ es) n) k) ∙ last) in
    record { lists = rest.lists; before = rest.before; behind = rest.behind }

-- EACH NUMBER
some_is : (x y : InstanceState) → Some x ≡ Some y → x ≡ y
some_is x y is = cc is

listed_alike : (c : Configuration) (marks : List (Instance × Mark)) (held : ℕ → Mark) (all ns : List (DeviceNumber × ℕ)) → ((x : DeviceNumber × ℕ) → Contains ns x → Contains all x)
    → ((x : DeviceNumber × ℕ) → Contains all x → held x.0.0 ≡ listed_mark marks (instance_of x.0))
    → marks_of (map (λ (x : DeviceNumber × ℕ). found_instance marks (instance_of x.0)) ns) ≡ marks_standing held ns
listed_alike c marks held all [] within same = refl
listed_alike c marks held all (x ∷ xs) within same =
    (λ i. listed (instance_of x.0) (sym (same x (within x (0, omega arith, refl))) i) (listed_alike c marks held all xs (λ y (k, few, is). within y (suc k, omega (arith, few), is)) same i))

settled_by : (c : Configuration) (due : ℕ → ℕ) (before s : State) (marks : List (Instance × Mark)) (ops : ℕ) (slots : List Slot) → s ≡ step c before (Found marks ops)
    → Pairs Agrees c s due (lengths_of c) (Some slots) → (x : DeviceNumber × ℕ) → Contains (lengths_of c) x
    → (slot_at (lengths_of c) slots x.0.0).settled.mark ≡ listed_mark marks (instance_of x.0)
settled_by c due before s marks ops slots behind pairs x has =
    let (y, at, agrees) = pairs x has in
    let here : Some y ≡ Some (found_instance marks (instance_of x.0)) = sym at ∙ ap (λ (t : State). instance_at t (instance_of x.0)) behind ∙ found_cells c before marks ops x has in
    agrees.settled ∙ ap (λ (z : InstanceState). z.cell.settled) (some_is y (found_instance marks (instance_of x.0)) here)

pub found_stands : FoundStands
found_stands before desk hand d clock marks ops slots kept started told last =
    let all = kept.all (ap (λ (o : Option (List Slot)). is_some o) told) in
    let keeps = all.keeps in
    let is = found_last desk.config desk.cap at_first desk.entries marks ops keeps.over.legal last in
    let numbers = keeps.device.numbers in
    let pairs : Pairs Agrees desk.config (after desk.config desk.entries) (count_due desk.entries keeps.base) (lengths_of desk.config) (Some slots) =
    subst (λ (ns : List (DeviceNumber × ℕ)). Pairs Agrees desk.config (after desk.config desk.entries) (count_due desk.entries keeps.base) ns (Some slots)) numbers
    (subst (λ (o : Option (List Slot)). Pairs Agrees desk.config (after desk.config desk.entries) (count_due desk.entries keeps.base) d.fixed.numbers o) told (keeps.settled all.started started)) in
    subst (λ (ns : List (DeviceNumber × ℕ)). marks ≡ settled_marks ns slots) (sym numbers)
    (is.lists ∙ listed_alike desk.config marks (λ n. (slot_at (lengths_of desk.config) slots n).settled.mark) (lengths_of desk.config) (lengths_of desk.config) (λ x has. has)
    (settled_by desk.config (count_due desk.entries keeps.base) is.before (after desk.config desk.entries) marks ops slots is.behind pairs))
