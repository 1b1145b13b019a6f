-- What the slots of a device and the cells of the machine keep of one another.
use Rattle.std.specs.Prelude.{◌==◌, ◌/◌, ◌%◌, if◌then◌else◌, is_some}
use Rattle.std.specs.List.{Contains}
use Rattle.std.specs.Option.{option_map_or, option_and_then}
use Rattle.std.proofs.Common.{◌≡◌, ◌≢◌, ℕ, Bool, true, false, List, [], ◌∷◌, ◌++◌, Option, Some, None, refl, sym, ap, ◌∙◌, subst, inl, inr}
use Rattle.std.proofs.Common.{◌&&◌, arith}
use Rattle.std.proofs.lemmas.Bool.{cases_Bool}
use Rattle.std.proofs.lemmas.Bool.Decides.{nat_tests}
use Rattle.std.proofs.lemmas.List.Elements.{Contains-append_left}
use Rattle.block_machine.specs.nv_base.Cell.{Cell, MayStand, settled_as, doubted}
use Rattle.block_machine.specs.nv_base.Marks.{instance_of}
use Rattle.block_machine.specs.nv_base.declared.instance.DeviceNumber.{DeviceNumber}
use Rattle.block_machine.specs.block_config.Lengths.{lengths_of}
use Rattle.memif.specs.Told.{DeviceTold, Slot, Held, more_writes, slot_at, IfElse}
use Rattle.memif.specs.Marks.{IsPossible, Keeps, Doubts, SettlesAs, ComesFrom, IfTold, DoubtsAt}
use Rattle.memif.specs.Clock.{ArePossible}
use Rattle.block_machine.specs.Words.{Instance, Mark, Entry, Ask, Pick, Wrote, Post, Off, Found, Configuration}
use Rattle.block_machine.specs.State.{State, InstanceState}
use Rattle.block_machine.specs.Blocks.{instance_at, same_instance, is_in, indices_of, mark_of}
use Rattle.block_machine.specs.StartUp.{listed_mark, found_instance}
use Rattle.block_machine.specs.History.{MayStandIn}
use Rattle.block_machine.specs.Steps.{step}
use Rattle.block_machine.specs.Legal.{IsAllowed}
use Rattle.block_laws.specs.Laws.{is_found, cell_by}
use Rattle.block_laws.proofs.CellChanges.{cells_change, found_cells}
use Rattle.promise_blocks.specs.Counts.{MayCountIn}
use Rattle.memif.proofs.Turning.{none_in}
use Rattle.nvm_device_laws.specs.Pairing.{MayHold, Allows, Agrees, Pairs, HasDoubt, IsStaged}
use Rattle.nvm_device_laws.specs.Turn.{ListsSettled}

-- ONE CELL AND ONE SLOT
stands : (cell : Cell) (m n : Mark) → m ≡ n → MayStand cell m → MayStand cell n
stands cell m n same is = subst (MayStand cell) same is

pub agrees_allow : (due : ℕ) (cell : Cell) (slot : Slot) → Agrees due cell slot → Allows due cell slot
agrees_allow due cell slot is held (inl same) =
    record { mark = inl (ap (λ (h : Held). h.mark) same ∙ is.settled); count = inl (ap (λ (h : Held). h.count) same ∙ is.count) }
agrees_allow due cell slot is held (inr has) = is.doubts held has

allows_kept : (due : ℕ) (cell : Cell) (a b : Slot) → Allows due cell a → Keeps a b → Allows due cell b
allows_kept due cell a b is keeps held (inl same) = is held (inl (same ∙ keeps.settled))
allows_kept due cell a b is keeps held (inr has) = is held (inr (keeps.doubts held has))

agrees_kept : (due : ℕ) (cell : Cell) (a b : Slot) → Agrees due cell a → Keeps a b → Agrees due cell b
agrees_kept due cell a b is keeps =
    record {
      settled = ap (λ (h : Held). h.mark) keeps.settled
          ∙ is.settled;
      count = ap (λ (h : Held). h.count) keeps.settled ∙ is.count;
      doubts = λ held has. is.doubts held (keeps.doubts held has);
    }

agrees_doubt : (mark : Mark) (due : ℕ) (cell : Cell) (a b : Slot) → MayStand cell mark → cell.doubts ≢ [] → Agrees due cell a → Doubts mark a b
    → Agrees due cell b
agrees_doubt mark due cell a b may some is doubts = record {
  settled = ap (λ (h : Held). h.mark) doubts.settled ∙ is.settled;
  count = ap (λ (h : Held). h.count) doubts.settled ∙ is.count;
  doubts = λ held has. elim (doubts.doubts held has) [
    | inl before ↦ is.doubts held before
    | inr new ↦ record {
      mark = stands cell mark held.mark (sym (ap (λ (h : Held). h.mark) new)) may;
      count = inr (ap (λ (h : Held). h.count) new ∙ ap (more_writes 1) is.count, some);
    }
  ];
}

agrees_settled : (mark : Mark) (due : ℕ) (cell : Cell) (a b : Slot) → Agrees due cell a → SettlesAs mark a b → Agrees (more_writes 1 due) (settled_as mark) b
agrees_settled mark due cell a b is settles = record {
  settled = ap (λ (h : Held). h.mark) settles.settled;
  count = ap (λ (h : Held). h.count) settles.settled ∙ ap (more_writes 1) is.count;
  doubts = λ held has. absurd (none_in held (subst (λ (l : List Held). Contains l held) settles.doubts has));
}

allows_from : (due : ℕ) (cell : Cell) (a b : Slot) → Allows due cell a → ComesFrom a b → Allows due cell b
allows_from due cell a b is from held (inl same) = is held (subst (IsPossible a) (sym same) from.settled)
allows_from due cell a b is from held (inr has) = is held (from.doubts held has)

agrees_found : (mark : Mark) (b : Slot) → mark ≡ b.settled.mark → b.doubts ≡ [] → Agrees b.settled.count (settled_as mark) b
agrees_found mark b lists none = record {
  settled = sym lists;
  count = refl;
  doubts = λ held has. absurd (none_in held (subst (λ (l : List Held). Contains l held) none has));
}

-- a cell to which a mark more was doubted
some_more : (xs : List Mark) (m : Mark) → xs ++ m ∷ [] ≢ []
some_more [] m is = cc is
some_more (x ∷ xs) m is = cc is

doubted_stands : (cell : Cell) (more : Mark) (due : ℕ) (held : Held) → MayHold due cell held → MayHold due (doubted more cell) held
doubted_stands cell more due held is = record {
  mark = elim is.mark [ inl same ↦ inl same | inr has ↦ inr (Contains-append_left cell.doubts (more ∷ []) held.mark has) ];
  count = elim is.count [ inl same ↦ inl same | inr one ↦ inr (one.0, some_more cell.doubts more) ];
}

allows_doubted : (due : ℕ) (cell : Cell) (more : Mark) (slot : Slot) → Allows due cell slot → Allows due (doubted more cell) slot
allows_doubted due cell more slot is held may = doubted_stands cell more due held (is held may)

agrees_doubted : (due : ℕ) (cell : Cell) (more : Mark) (slot : Slot) → Agrees due cell slot → Agrees due (doubted more cell) slot
agrees_doubted due cell more slot is =
    record { settled = is.settled; count = is.count; doubts = λ held has. doubted_stands cell more due held (is.doubts held has) }

-- ALL NUMBERS
not_told : false ≡ true → ⊥
not_told is = cc

module _ (c : Configuration) (s : State) (due : ℕ → ℕ) (numbers : List (DeviceNumber × ℕ)) where
  pub pairs_on : (P Q : ℕ → Cell → Slot → Type 0) (R : Slot → Slot → Type 0)
      → ((n : ℕ) (cell : Cell) (a b : Slot) → P n cell a → R a b → Q n cell b) → (o n : Option (List Slot))
      → is_some n ≡ true → IfTold o n (λ u v. (i : ℕ) → R (slot_at numbers u i) (slot_at numbers v i)) → Pairs P c s due numbers o → Pairs Q c s due numbers n
  pairs_on P Q R on (Some u) (Some v) told each pairs = λ x has. let (y, at, is) = pairs x has in
      (y, at, on (due x.0.0) y.cell (slot_at numbers u x.0.0) (slot_at numbers v x.0.0) is (each x.0.0))
  pairs_on P Q R on None n told each pairs = absurd pairs
  pairs_on P Q R on (Some u) None told each pairs = absurd (not_told told)

  pub pairs_more : (P Q : ℕ → Cell → Slot → Type 0) → ((n : ℕ) (cell : Cell) (a : Slot) → P n cell a → Q n cell a)
      → (o : Option (List Slot)) → Pairs P c s due numbers o → Pairs Q c s due numbers o
  pairs_more P Q more (Some u) pairs = λ x has. let (y, at, is) = pairs x has in (y, at, more (due x.0.0) y.cell (slot_at numbers u x.0.0) is)
  pairs_more P Q more None pairs = absurd pairs

  pub allows_keep : (o n : Option (List Slot)) → is_some n ≡ true
      → IfTold o n (λ u v. (i : ℕ) → Keeps (slot_at numbers u i) (slot_at numbers v i)) → Pairs Allows c s due numbers o
      → Pairs Allows c s due numbers n
  allows_keep = pairs_on Allows Allows Keeps allows_kept

  pub agrees_keep : (o n : Option (List Slot)) → is_some n ≡ true
      → IfTold o n (λ u v. (i : ℕ) → Keeps (slot_at numbers u i) (slot_at numbers v i)) → Pairs Agrees c s due numbers o
      → Pairs Agrees c s due numbers n
  agrees_keep = pairs_on Agrees Agrees Keeps agrees_kept

  pub allows_come : (o n : Option (List Slot)) → is_some n ≡ true
      → IfTold o n (λ u v. (i : ℕ) → ComesFrom (slot_at numbers u i) (slot_at numbers v i))
      → Pairs Allows c s due numbers o → Pairs Allows c s due numbers n
  allows_come = pairs_on Allows Allows ComesFrom allows_from

  -- a mark that may stand in an instance that is found
  stands_at : (o : Option InstanceState) (y : InstanceState) (mark : Mark) → o ≡ Some y → MayStandIn o mark → MayStand y.cell mark
  stands_at (Some x) y mark is may = let same : x ≡ y = cc in subst (λ (z : InstanceState). MayStand z.cell mark) same may
  stands_at None y mark is may = absurd may

  equal_from : (a b : ℕ) → (a == b) ≡ true → a ≡ b
  equal_from a b is = grind (arith, nat_tests)

  doubts_at : (o : Option InstanceState) (y : InstanceState) → o ≡ Some y → HasDoubt o → y.cell.doubts ≢ []
  doubts_at (Some x) y is some = let same : x ≡ y = cc in subst (λ (z : InstanceState). z.cell.doubts ≢ []) same some
  doubts_at None y is some = absurd some

  agrees_doubts : (number : ℕ) (mark : Mark) → IsStaged c s number (Some mark) → (o n : Option (List Slot)) → is_some n ≡ true
      → IfTold o n (λ u v. (i : ℕ)
      → IfElse (i == number) (Doubts mark (slot_at numbers u i) (slot_at numbers v i))
      (Keeps (slot_at numbers u i) (slot_at numbers v i)))
      → Pairs Agrees c s due numbers o → Pairs Agrees c s due numbers n
  agrees_doubts number mark staged (Some u) (Some v) told each pairs = λ x has.
      let (y, at, is) = pairs x has in (
        y,
        at,
        elim (cases_Bool (x.0.0 == number)) [
          | inl same ↦
              let now : Doubts mark (slot_at numbers u x.0.0) (slot_at numbers v x.0.0) = rw same at (each x.0.0) in
              let took = staged x has (equal_from x.0.0 number same) in
              agrees_doubt mark (due x.0.0) y.cell (slot_at numbers u x.0.0) (slot_at numbers v x.0.0)
              (stands_at (instance_at s (instance_of x.0)) y mark at took.0) (doubts_at (instance_at s (instance_of x.0)) y at took.1) is now
          | inr other ↦
              let now : Keeps (slot_at numbers u x.0.0) (slot_at numbers v x.0.0) = rw other at (each x.0.0) in
              agrees_kept (due x.0.0) y.cell (slot_at numbers u x.0.0) (slot_at numbers v x.0.0) is now
        ],
      )
  agrees_doubts number mark staged None n told each pairs = absurd pairs
  agrees_doubts number mark staged (Some u) None told each pairs = absurd (not_told told)

-- the same counts are due
module _ (P : ℕ → Cell → Slot → Type 0) (c : Configuration) (s : State) (due then_due : ℕ → ℕ) (numbers : List (DeviceNumber × ℕ)) (same : (n : ℕ) → then_due n ≡ due n) where
  pub pairs_due : (o : Option (List Slot)) → Pairs P c s due numbers o → Pairs P c s then_due numbers o
  pairs_due (Some u) pairs = λ x has. let (y, at, is) = pairs x has in
      (y, at, subst (λ (n : ℕ). P n y.cell (slot_at numbers u x.0.0)) (sym (same x.0.0)) is)
  pairs_due None pairs = absurd pairs

-- a job was accepted
module _ (c : Configuration) (s : State) (due : ℕ → ℕ) (old new : DeviceTold) (number : ℕ) where
  pub agrees_started : (mark : Option Mark) → IsStaged c s number mark → is_some new.slots ≡ true → DoubtsAt number mark old new
      → Pairs Agrees c s due old.fixed.numbers old.slots → Pairs Agrees c s due old.fixed.numbers new.slots
  agrees_started None staged told doubts pairs = agrees_keep c s due old.fixed.numbers old.slots new.slots told doubts pairs
  agrees_started (Some mark) staged told doubts pairs = agrees_doubts c s due old.fixed.numbers number mark staged old.slots new.slots told doubts pairs

-- ENTRIES
-- an entry that is no start-up and no Wrote
abbrev pub settles_none : Entry → Bool
settles_none (Wrote i mark ops) = false
settles_none (Found marks ops) = false
settles_none e = true

-- the instance of a number, and of another
pub other_number : (a b : ℕ) → (a == b) ≡ false → same_instance (instance_of (record { 0 = b })) (instance_of (record { 0 = a })) ≡ false
other_number a b other = elim (cases_Bool (same_instance (instance_of (record { 0 = b })) (instance_of (record { 0 = a })))) [
  | inr off ↦ off
  | inl on ↦
      let blocks : b / 64 ≡ a / 64 = grind (arith, nat_tests) in
      let indices : b % 64 ≡ a % 64 = grind (arith, nat_tests) in
      let same : a ≡ b = omega (arith, blocks, indices) in
      absurd (grind (arith, nat_tests))
]

pub same_number : (a b : ℕ) → (a == b) ≡ true → same_instance (instance_of (record { 0 = b })) (instance_of (record { 0 = a })) ≡ true
same_number a b is = let same : a ≡ b = grind (arith, nat_tests) in rw same (grind (arith, nat_tests))

module _ (c : Configuration) (cap : ℕ) (s : State) (due : ℕ → ℕ) (numbers : List (DeviceNumber × ℕ)) where
  -- an entry that settles nothing leaves a fact on cells that a doubt more leaves
  abbrev StaysDoubted : (ℕ → Cell → Slot → Type 0) → Type 0
  StaysDoubted P = (n : ℕ) (cell : Cell) (more : Mark) (slot : Slot) → P n cell slot → P n (doubted more cell) slot

  by_pick : (P : ℕ → Cell → Slot → Type 0) → StaysDoubted P → (n : ℕ) (on : Bool) (o : Option Mark) (cell : Cell) (slot : Slot) → P n cell slot
      → P n (option_map_or (λ mark. if on then doubted mark cell else cell) o cell) slot
  by_pick P stays n on None cell slot is = is
  by_pick P stays n true (Some mark) cell slot is = stays n cell mark slot is
  by_pick P stays n false (Some mark) cell slot is = is

  by_entry : (P : ℕ → Cell → Slot → Type 0) → StaysDoubted P → (n : ℕ) (e : Entry) → settles_none e ≡ true
      → (i : Instance) (cell : Cell) (slot : Slot) → P n cell slot → P n (cell_by c s i cell e) slot
  by_entry P stays n (Ask caller r reply) plain i cell slot is = is
  by_entry P stays n (Pick block kind t ops) plain i cell slot is =
      by_pick P stays n ((i.block == block) && is_in (indices_of c s block) i.index)
      (option_and_then mark_of (step c s (Pick block kind t ops)).hand) cell slot is
  by_entry P stays n (Wrote w mark ops) plain i cell slot is = cc
  by_entry P stays n (Post block r given refused ops) plain i cell slot is = is
  by_entry P stays n (Off ops) plain i cell slot is = is
  by_entry P stays n (Found marks ops) plain i cell slot is = cc

  no_found : (e : Entry) → settles_none e ≡ true → is_found e ≡ false
  no_found (Found marks ops) plain = cc
  no_found e plain = refl

  pairs_entry : (P : ℕ → Cell → Slot → Type 0) → StaysDoubted P → (e : Entry) → settles_none e ≡ true
      → IsAllowed c cap s e → (o : Option (List Slot))
      → Pairs P c s due numbers o → Pairs P c (step c s e) due numbers o
  pairs_entry P stays e plain allowed (Some u) pairs = λ x has.
      let (y, at, is) = pairs x has in (
        record y { cell = cell_by c s (instance_of x.0) y.cell e },
        cells_change c cap s e (instance_of x.0) y allowed (no_found e plain) at,
        by_entry P stays (due x.0.0) e plain (instance_of x.0) y.cell (slot_at numbers u x.0.0) is,
      )
  pairs_entry P stays e plain allowed None pairs = absurd pairs

  pub allows_entry : (e : Entry) → settles_none e ≡ true → IsAllowed c cap s e → (o : Option (List Slot))
      → Pairs Allows c s due numbers o → Pairs Allows c (step c s e) due numbers o
  allows_entry = pairs_entry Allows allows_doubted

  pub agrees_entry : (e : Entry) → settles_none e ≡ true → IsAllowed c cap s e → (o : Option (List Slot))
      → Pairs Agrees c s due numbers o → Pairs Agrees c (step c s e) due numbers o
  agrees_entry = pairs_entry Agrees agrees_doubted

  -- the count that is due is one more for that number
  pub agrees_wrote : (number : ℕ) (mark : Mark) (ops : ℕ) (then_due : ℕ → ℕ)
      → ((i : ℕ) → (i == number) ≡ true → then_due i ≡ more_writes 1 (due i)) → ((i : ℕ) → (i == number) ≡ false → then_due i ≡ due i)
      → IsAllowed c cap s (Wrote (instance_of (record { 0 = number })) mark ops) → (o n : Option (List Slot)) → is_some n ≡ true
      → IfTold o n (λ u v. (i : ℕ)
      → IfElse (i == number) (SettlesAs mark (slot_at numbers u i) (slot_at numbers v i))
      (Keeps (slot_at numbers u i) (slot_at numbers v i)))
      → Pairs Agrees c s due numbers o → Pairs Agrees c (step c s (Wrote (instance_of (record { 0 = number })) mark ops)) then_due numbers n
  agrees_wrote number mark ops then_due one rest allowed (Some u) (Some v) told each pairs = λ x has.
      let e : Entry = Wrote (instance_of (record { 0 = number })) mark ops in
      let (y, at, is) = pairs x has in (
        record y { cell = cell_by c s (instance_of x.0) y.cell e },
        cells_change c cap s e (instance_of x.0) y allowed refl at,
        elim (cases_Bool (x.0.0 == number)) [
          | inl same ↦
              let now : SettlesAs mark (slot_at numbers u x.0.0) (slot_at numbers v x.0.0) = rw same at (each x.0.0) in
              rw (same_number x.0.0 number same, one x.0.0 same)
              (agrees_settled mark (due x.0.0) y.cell (slot_at numbers u x.0.0) (slot_at numbers v x.0.0) is now)
          | inr other ↦
              let now : Keeps (slot_at numbers u x.0.0) (slot_at numbers v x.0.0) = rw other at (each x.0.0) in
              rw (other_number x.0.0 number other, rest x.0.0 other)
              (agrees_kept (due x.0.0) y.cell (slot_at numbers u x.0.0) (slot_at numbers v x.0.0) is now)
        ],
      )
  agrees_wrote number mark ops then_due one rest allowed None n told each pairs = absurd pairs
  agrees_wrote number mark ops then_due one rest allowed (Some u) None told each pairs = absurd (not_told told)

-- what is settled for a number
abbrev pub settled_counts : List (DeviceNumber × ℕ) → Option (List Slot) → ℕ → ℕ
settled_counts numbers None n = 0
settled_counts numbers (Some slots) n = (slot_at numbers slots n).settled.count

-- a start-up settles what it lists
pub agrees_listed : (c : Configuration) (s : State) (numbers : List (DeviceNumber × ℕ))
    (marks : List (Instance × Mark)) (ops : ℕ) (o n : Option (List Slot))
    → IfTold o n (λ u v. (i : ℕ) → (slot_at numbers v i).doubts ≡ []) → ListsSettled c marks numbers n
    → Pairs Agrees c (step c s (Found marks ops)) (settled_counts numbers n) numbers n
agrees_listed c s numbers marks ops (Some u) (Some v) clear lists = λ x has. (
  found_instance marks (instance_of x.0),
  found_cells c s marks ops x has,
  agrees_found
      (listed_mark marks (instance_of x.0)) (slot_at numbers v x.0.0) (lists x has) (clear x.0.0),
)
agrees_listed c s numbers marks ops None (Some v) clear lists = absurd clear
agrees_listed c s numbers marks ops o None clear lists = absurd lists

-- each map that is possible holds what may stand
module _ (c : Configuration) (s : State) (due : ℕ → ℕ) (d : DeviceTold) (m : ℕ → Held) where
  possible_hold : (o : Option (List Slot)) → ArePossible d o m → Pairs Allows c s due d.fixed.numbers o
      → (x : DeviceNumber × ℕ) → Contains (lengths_of c) x
      → (y : InstanceState) × (instance_at s (instance_of x.0) ≡ Some y) × MayHold (due x.0.0) y.cell (m x.0.0)
  possible_hold (Some u) possible pairs x has =
      let (y, at, allows) = pairs x has in (y, at, allows (m x.0.0) (possible x.0.0))
  possible_hold None possible pairs x has = absurd pairs

  pub possible_stand : (o : Option (List Slot)) → ArePossible d o m → Pairs Allows c s due d.fixed.numbers o
      → (x : DeviceNumber × ℕ) → Contains (lengths_of c) x → MayStandIn (instance_at s (instance_of x.0)) (m x.0.0).mark
  possible_stand o possible pairs x has = let (y, at, holds) = possible_hold o possible pairs x has in rw at holds.mark

  pub possible_count : (o : Option (List Slot)) → ArePossible d o m → Pairs Allows c s due d.fixed.numbers o
      → (x : DeviceNumber × ℕ) → Contains (lengths_of c) x → MayCountIn (instance_at s (instance_of x.0)) (due x.0.0) (m x.0.0).count
  possible_count o possible pairs x has = let (y, at, holds) = possible_hold o possible pairs x has in rw at holds.count

-- and each that a start-up finds which settled all has the marks that are listed, and the counts that are settled
module _ (c : Configuration) (d : DeviceTold) (marks : List (Instance × Mark)) (m : ℕ → Held) where
  pub possible_settled : (o n : Option (List Slot)) → IfTold o n (λ u v. (i : ℕ) → (slot_at d.fixed.numbers v i).doubts ≡ []) → ArePossible d n m
      → ListsSettled c marks d.fixed.numbers n → (x : DeviceNumber × ℕ) → Contains (lengths_of c) x
      → (listed_mark marks (instance_of x.0) ≡ (m x.0.0).mark) × ((m x.0.0).count ≡ settled_counts d.fixed.numbers n x.0.0)
  possible_settled (Some u) (Some v) clear possible lists x has = elim (possible x.0.0) [
    | inl same ↦ (lists x has ∙ ap (λ (h : Held). h.mark) (sym same), ap (λ (h : Held). h.count) same)
    | inr doubt ↦ absurd (none_in (m x.0.0) (subst (λ (l : List Held). Contains l (m x.0.0)) (clear x.0.0) doubt))
  ]
  possible_settled None (Some v) clear possible lists x has = absurd clear
  possible_settled o None clear possible lists x has = absurd lists
