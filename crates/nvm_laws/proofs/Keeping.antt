-- What is kept over any device: behind a call of it, and with an entry more.
use Rattle.std.specs.Prelude.{nat_le, is_some}
use Rattle.std.specs.List.{Contains}
use Rattle.std.specs.Option.{option_map_or}
use Rattle.std.proofs.Common.{◌≡◌, ℕ, zero, suc, Bool, true, false, List, [], ◌∷◌, ◌++◌, Option, Some, None, refl, sym, ap, ◌∙◌, subst, inl, inr, arith}
use Rattle.std.proofs.lemmas.Bool.{cases_Bool}
use Rattle.std.proofs.lemmas.Bool.Decides.{nat_tests}
use Rattle.std.proofs.lemmas.List.Elements.{Contains-append_cases}
use Rattle.block_machine.specs.nv_base.Entry as entry
use Rattle.block_machine.specs.nv_base.Cell.{Cell}
use Rattle.block_machine.specs.nv_base.declared.instance.DeviceNumber.{DeviceNumber}
use Rattle.memif.specs.Told.{DeviceTold, Slot, Held, Part, PartTold}
use Rattle.memif.specs.Clock.{Clock, After}
use Rattle.block_machine.specs.Words.{Instance, Mark, Entry, Found, Configuration}
use Rattle.block_machine.specs.State.{State}
use Rattle.block_machine.specs.Steps.{after}
use Rattle.block_machine.specs.Legal.{IsLegal}
use Rattle.block_machine.specs.History.{is_driver_until, up_to}
use Rattle.block_laws.proofs.HistoryLaws.{beginnings_are_legal, late_entries_are_cut_off, up_to_is_a_beginning}
use Rattle.promise_blocks.specs.OverDevice.{KeepsOver, KeepsEarly}
use Rattle.promise_blocks.specs.Counts.{count_due}
use Rattle.nvm_device_laws.specs.Pairing.{Allows, Pairs}
use Rattle.nvm_device_laws.specs.Turn.{TellsSlots}
use Rattle.nv_desk_copies.specs.nv_desk.Desk.{DeskState}
use Rattle.job_progress.specs.Hand.{HandState}
use Rattle.nvm_laws.specs.Halves.{Adds}
use Rattle.nvm_laws.specs.Keeps.{StackKeeps, KeepsAsTold, StackKeepsAsTold, StaysKept}

-- UNTIL THE FIRST OPERATION
pub early_of : (c : Configuration) (cap : ℕ) (h : List Entry) (before : Part → PartTold) (d : DeviceTold) (clock : Clock) → KeepsOver c cap h before d clock → KeepsEarly c cap h clock
early_of c cap h before d clock over =
    let (more, is) = up_to_is_a_beginning 0 h in
    record {
      found = λ marks held has finds. over.found marks 0 held has (omega arith) finds;
      legal = beginnings_are_legal c cap (up_to 0 h) more (subst (IsLegal c cap) is over.legal);
    }

-- before any entry
pub early_begins : (c : Configuration) (cap : ℕ) (clock : Clock) → KeepsEarly c cap [] clock
early_begins c cap clock = record { found = λ marks held has finds. absurd (omega (arith, has.1)); legal = tt }

last_one : (e f : Entry) → Contains (e ∷ []) f → e ≡ f
last_one e f (zero, few, is) = cc is
last_one e f (suc k, few, is) = absurd (omega (arith, few))

-- an entry of a later moment, or a request
early_late : (c : Configuration) (cap : ℕ) (h : List Entry) (e : Entry) (clock : Clock) → is_driver_until 0 e ≡ false → KeepsEarly c cap h clock → KeepsEarly c cap (h ++ e ∷ []) clock
early_late c cap h e clock late early = record {
  found = λ marks held has finds. elim (Contains-append_cases h (e ∷ []) (Found marks 0) has) [
    | inl before ↦ early.found marks held before finds
    | inr now ↦ absurd (not_late marks (last_one e (Found marks 0) now))
  ];
  legal = subst (IsLegal c cap) (sym (late_entries_are_cut_off 0 h e late)) early.legal;
}
  where
    not_both : (b : Bool) → b ≡ false → b ≡ true → ⊥
    not_both b off on = cc

    not_late : (marks : List (Instance × Mark)) → e ≡ Found marks 0 → ⊥
    not_late marks is = not_both (is_driver_until 0 e) late (ap (is_driver_until 0) is)

-- an entry with so many operations is one of the first moment only where that is none
pub timed_at : (e : Entry) (n : ℕ) → entry.ops_of e ≡ Some n → is_driver_until 0 e ≡ true → n ≡ 0
timed_at e n is early =
    let few : nat_le n 0 ≡ true = ap (λ (o : Option ℕ). option_map_or (λ ops. nat_le ops 0) o false) (sym is) ∙ early in
    grind (arith, nat_tests)

-- A CALL
-- it never begins to tell, and what it tells of the moment before any operation stays
pub record StillTells (old : DeviceTold) (clock : Clock) (new : DeviceTold) (clock_new : Clock) : Type 0 where
  pub tells : new.tells ≡ old.tells
  pub told : TellsSlots new → TellsSlots old
  pub past : (held : ℕ → Held) → clock_new.may_find (After 0) held → clock.may_find (After 0) held
  pub begun : new.tells ≡ true → new.ops ≡ 0 → TellsSlots new

pub called : (All All_new : Type 0) (c : Configuration) (cap : ℕ) (h : List Entry) (old : DeviceTold) (clock : Clock) (new : DeviceTold) (clock_new : Clock) → StillTells old clock new clock_new
    → (All → TellsSlots new → All_new) → KeepsAsTold All c cap h old clock → KeepsAsTold All_new c cap h new clock_new
called All All_new c cap h old clock new clock_new still on kept = record {
  all = λ told. on (kept.all (still.told told)) told;
  begun = still.begun;
  early = λ tells. let early = kept.early (sym still.tells ∙ tells) in record { found = λ marks held has finds. early.found marks held has (still.past held finds); legal = early.legal };
}

-- AN ENTRY
pub pushed : (All All_new : Type 0) (c : Configuration) (cap : ℕ) (h : List Entry) (e : Entry) (before : Part → PartTold) (d : DeviceTold) (clock : Clock) → (is_driver_until 0 e ≡ true → d.ops ≡ 0)
    → (All → TellsSlots d → All_new) → (All_new → KeepsOver c cap (h ++ e ∷ []) before d clock) → KeepsAsTold All c cap h d clock → KeepsAsTold All_new c cap (h ++ e ∷ []) d clock
pushed All All_new c cap h e before d clock timed on over kept = record {
  all = λ told. on (kept.all told) told;
  begun = kept.begun;
  early = λ tells. elim (cases_Bool (is_driver_until 0 e)) [
    | inl first ↦ (let told = kept.begun tells (timed first) in early_of c cap (h ++ e ∷ []) before d clock (over (on (kept.all told) told)))
    | inr late ↦ early_late c cap h e clock late (kept.early tells)
  ];
}

-- THE STACK
-- what is kept as told is all, where that is told
pairs_told : (P : ℕ → Cell → Slot → Type 0) (c : Configuration) (s : State) (due : ℕ → ℕ) (numbers : List (DeviceNumber × ℕ)) (o : Option (List Slot)) → Pairs P c s due numbers o → is_some o ≡ true
pairs_told P c s due numbers (Some slots) pairs = refl
pairs_told P c s due numbers None pairs = absurd pairs

pub slots_told : (before : Part → PartTold) (desk : DeskState) (hand : Option HandState) (d : DeviceTold) (clock : Clock) → StackKeeps before desk hand d clock → TellsSlots d
slots_told before desk hand d clock kept = pairs_told Allows desk.config (after desk.config desk.entries) (count_due desk.entries kept.keeps.base) d.fixed.numbers d.slots (kept.keeps.marks kept.started)

pub as_told : (before : Part → PartTold) (desk : DeskState) (hand : Option HandState) (d : DeviceTold) (clock : Clock) → StackKeeps before desk hand d clock → StackKeepsAsTold before desk hand d clock
as_told before desk hand d clock kept = record {
  all = λ told. kept;
  begun = λ tells none. slots_told before desk hand d clock kept;
  early = λ tells. early_of desk.config desk.cap desk.entries before d clock kept.keeps.over;
}

pub stays_told : (desk : DeskState) (hand : Option HandState) (d : DeviceTold) (clock : Clock) (desk_new : DeskState) (hand_new : Option HandState) (d_new : DeviceTold) (clock_new : Clock)
    → StaysKept desk hand d clock desk_new hand_new d_new clock_new → (before : Part → PartTold) → StackKeeps before desk hand d clock → TellsSlots d_new
    → StackKeeps before desk_new hand_new d_new clock_new
stays_told desk hand d clock desk_new hand_new d_new clock_new stays before kept told = (stays.kept before (as_told before desk hand d clock kept)).all told

-- where nothing changes
pub stays_still : (desk : DeskState) (hand : Option HandState) (d : DeviceTold) (clock : Clock) → StaysKept desk hand d clock desk hand d clock
stays_still desk hand d clock = record { told = λ told. told; tells = refl; kept = λ before kept. kept }

-- one after another
pub stays_more : (a : DeskState) (hand_a : Option HandState) (da : DeviceTold) (ca : Clock) (b : DeskState) (hand_b : Option HandState) (db : DeviceTold) (cb : Clock) (c : DeskState) (hand_c : Option HandState) (dc : DeviceTold) (ct : Clock)
    → StaysKept a hand_a da ca b hand_b db cb → StaysKept b hand_b db cb c hand_c dc ct → StaysKept a hand_a da ca c hand_c dc ct
stays_more a hand_a da ca b hand_b db cb c hand_c dc ct one two = record {
  told = λ told. one.told (two.told told);
  tells = two.tells ∙ one.tells;
  kept = λ before kept. two.kept before (one.kept before kept);
}

module _ (old new : DeskState) (hand hand_new : Option HandState) where
  -- an entry, at a device that stands still
  pub keeps_with : (e : Entry) (d : DeviceTold) (clock : Clock) → Adds e old new → (is_driver_until 0 e ≡ true → d.ops ≡ 0)
      → ((before : Part → PartTold) → StackKeeps before old hand d clock → StackKeeps before new hand_new d clock) → StaysKept old hand d clock new hand_new d clock
  keeps_with e d clock adds timed on = record {
    told = λ told. told;
    tells = refl;
    kept = λ before kept. subst (λ (x : DeskState). KeepsAsTold (StackKeeps before new hand_new d clock) x.config x.cap x.entries d clock) (sym adds)
        (pushed (StackKeeps before old hand d clock) (StackKeeps before new hand_new d clock) old.config old.cap old.entries e before d clock timed (λ all told. on before all)
        (λ all. subst (λ (x : DeskState). KeepsOver x.config x.cap x.entries before d clock) adds all.keeps.over) kept);
  }

  -- a call of the device
  pub keeps_at : (d : DeviceTold) (clock : Clock) (d_new : DeviceTold) (clock_new : Clock) → new ≡ old → StillTells d clock d_new clock_new
      → ((before : Part → PartTold) → StackKeeps before old hand d clock → TellsSlots d_new → StackKeeps before new hand_new d_new clock_new) → StaysKept old hand d clock new hand_new d_new clock_new
  keeps_at d clock d_new clock_new same still on = record {
    told = still.told;
    tells = still.tells;
    kept = λ before kept. subst (λ (x : DeskState). KeepsAsTold (StackKeeps before new hand_new d_new clock_new) x.config x.cap x.entries d_new clock_new) (sym same)
        (called (StackKeeps before old hand d clock) (StackKeeps before new hand_new d_new clock_new) old.config old.cap old.entries d clock d_new clock_new still (on before) kept);
  }

-- an entry behind a call
pub keeps_behind : (before : Part → PartTold) (old new : DeskState) (hand_new : Option HandState) (All : Type 0) (e : Entry) (d : DeviceTold) (clock : Clock) (d_new : DeviceTold) (clock_new : Clock)
    → Adds e old new → (is_driver_until 0 e ≡ true → d_new.ops ≡ 0) → StillTells d clock d_new clock_new
    → (All → TellsSlots d_new → StackKeeps before new hand_new d_new clock_new) → KeepsAsTold All old.config old.cap old.entries d clock → StackKeepsAsTold before new hand_new d_new clock_new
keeps_behind before old new hand_new All e d clock d_new clock_new adds timed still on kept = subst (λ (x : DeskState). KeepsAsTold (StackKeeps before new hand_new d_new clock_new) x.config x.cap x.entries d_new clock_new) (sym adds)
    (pushed All (StackKeeps before new hand_new d_new clock_new) old.config old.cap old.entries e before d_new clock_new timed on
    (λ all. subst (λ (x : DeskState). KeepsOver x.config x.cap x.entries before d_new clock_new) adds all.keeps.over)
    (called All All old.config old.cap old.entries d clock d_new clock_new still (λ all told. all) kept))
