-- A device behind a step of its open job.
use Rattle.std.specs.Prelude.{IsTrue}
use Rattle.std.proofs.Common.{◌≡◌, ◌≢◌, inl, inr, ◌<◌, ◌++◌, ℕ, Bool, true, false, List, [], ◌∷◌, length, Option, Some, None, refl, sym, ap, ◌∙◌, subst, arith}
use Rattle.std.proofs.lemmas.Bool.{cases_eq, false≢true}
use Rattle.std.proofs.lemmas.List.{get_or-set_same, get_or-set_other}
use Rattle.nv_base.specs.Count.{next_count}
use Rattle.nv_base.specs.declared.instance.DeviceNumber.{DeviceNumber}
use Rattle.nv_base.specs.declared.mark.Mark.{Mark}
use Rattle.nv_base.specs.declared.geometry.Geometry.{Geometry}
use Rattle.memif.specs.Told.{Slot, no_slot, slot_at, First}
use Rattle.memif.specs.Marks.{Keeps, KeepsAll}
use Rattle.memif.specs.Clock.{Ticks}
use Rattle.memif.specs.Calls.{PartTurns}
use Rattle.fls_model.specs.declared.flash.FlashAnswer.{FlashAnswer}
use Rattle.fls_model.specs.declared.flash.FlashAnswer.TheVariants.{Off}
use Rattle.fls_model.specs.Op.{Op, MayLeave}
use Rattle.fls_model.specs.Step.{IsAsked, Leaves}
use Rattle.fls_model.specs.Told.{Told, bytes_now}
use Rattle.fls_jobs.specs.State.{FlsState}
use Rattle.fls_told.specs.Device.{FlashDevice, tells_held, tells_now, slot_with, asked_ops, flash_part}
use Rattle.fls_told.specs.Clock.{Makes, change_of, turn_of}
use Rattle.fls_told.specs.Parts.{Counts}
use Rattle.fls_told.specs.Runs.{HasRun, KeepsWorn, counts_fault, CountsEachCut}
use Rattle.fls_told.specs.Tells.{IsSame, AreTold}
use Rattle.fls_told.proofs.Clocks.{now_behind, clocks_tick}
use Rattle.fls_told.proofs.Making.{runs_go_on}
use Rattle.fls_told.proofs.Parts.{parts_work}
use Rattle.fls_told.proofs.Tells.{tells_keep}
use Rattle.fee_format.specs.Pages.{body_pages_of}
use Rattle.promise_device.specs.Image.{attached}
use Rattle.ea_image.specs.declared.memory.SlotMemory.{SlotMemory}
use Rattle.ea_image.specs.declared.which.Which.{Which}
use Rattle.ea_image.specs.Memory.{HoldsSlots}
use Rattle.ea_image.specs.Slots.{SlotBytes, slot_bytes, newest_of, other, standing}
use Rattle.fls_told.proofs.Counted.{failure_counted, one_later, run_counts, still_counted}
use Rattle.fls_told.proofs.ToldBytes.{before_told, both_left, each_told, told_at}
use Rattle.ea_told.specs.declared.job.EaJob.{EaJob}
use Rattle.ea_told.specs.declared.state.SlotState.{SlotState}
use Rattle.ea_told.specs.Making.{Making, entry_of, at_entry}
use Rattle.ea_told.specs.Parts.{Parts}
use Rattle.ea_told.specs.Reading.{last_in, is_last_head, is_last_at, is_apart, begins_at}
use Rattle.ea_told.specs.States.{no_state}
use Rattle.ea_told.specs.Device.{state_at, stand_of, job_leaves, slot_told, slots_in, flash_device, told_of, clock_of}
use Rattle.ea_told.specs.Inside.{HoldAll, StandAll}
use Rattle.ea_told.specs.Turn.{memory_after, states_after, job_after, last_after, given_after, off_after}
use Rattle.ea_told.specs.Laws.{IsStepping}
use Rattle.ea_told.proofs.Bytes.{some_later}
use Rattle.ea_told.proofs.Lists.{at_listed}
use Rattle.ea_told.proofs.Reading.{step_begins, apart_is}
use Rattle.ea_told.proofs.Slot.{keeps_same, same_marks, AreFewer}
use Rattle.ea_told.proofs.Stepping.{g, h, content, op, size, started, power, is_job, unworn, slot, own, not_own, told, told_is, marks_here, marks_elsewhere, jm, some, others, touch, other_differs, stand_at, attach_new, holds, cuts_possible, leaves_sound}

-- AT EACH ENTRY
pub at_same : {A : Type 0} (none : A) (f f' : ℕ → DeviceNumber × ℕ → A) → ((i : ℕ) (x : DeviceNumber × ℕ) → f i x ≡ f' i x) → (o : Option (ℕ × (DeviceNumber × ℕ))) → at_entry none f o ≡ at_entry none f' o
at_same none f f' same None = refl
at_same none f f' same (Some e) = same e.0 e.1

kept_by : (f f' : ℕ → DeviceNumber × ℕ → Slot) (o : Option (ℕ × (DeviceNumber × ℕ))) → ((i : ℕ) (x : DeviceNumber × ℕ) → o ≡ Some (i, x) → Keeps (f i x) (f' i x)) → Keeps (at_entry no_slot f o) (at_entry no_slot f' o)
kept_by f f' None each = record { settled = refl; doubts = λ h c. c }
kept_by f f' (Some e) each = each e.0 e.1 refl

-- the fields, with a shape in place of their own
abbrev pub stepped_in : Geometry → Op → FlashAnswer → EaJob → FlsState → Parts → Parts
stepped_in g op answer j f s = record s {
  fls = f;
  states = states_after answer j s.states;
  job = job_after answer (body_pages_of j.length g.page) j;
  last = last_after answer j.step s.last;
  given = given_after answer j.step s.given;
  off = off_after answer s.off;
  ops = next_count s.ops;
  faults = counts_fault answer s.faults;
  operations = s.operations ++ change_of op s.fls.flash answer ∷ [];
}

module _ (m : Making) (entry : Told) (s : Parts) (j : EaJob) (at : IsStepping m entry s j) (a : FlashAnswer) (f : FlsState) (asked : IsAsked (op m entry s j at) s.fls.flash a f.flash) where
  abbrev pub t : Parts
  t = stepped_in m.geometry (op m entry s j at) a j f s

  abbrev pub e : FlashDevice
  e = flash_device m entry t

  abbrev pub d0 : FlashDevice
  d0 = flash_device m entry s

  abbrev pub mem0 : SlotMemory
  mem0 = (state_at s.states j.place).memory

  abbrev pub after : SlotState
  after = record { memory = memory_after a j.step (h m entry s j at) mem0; worn = (state_at s.states j.place).worn }

  -- STATES
  pub place_in : j.place < length s.states
  place_in = (let inside = (slot m entry s j at).inside in let states = at.sound.made_for.states in omega (arith, inside, states))

  pub state_here : state_at t.states j.place ≡ after
  state_here = get_or-set_same s.states j.place after no_state place_in

  pub state_else : (i : ℕ) → (i ≡ j.place → ⊥) → state_at t.states i ≡ state_at s.states i
  state_else i apart = get_or-set_other s.states j.place i after no_state apart

  pub worn_same : (i : ℕ) → (state_at t.states i).worn ≡ (state_at s.states i).worn
  worn_same i = elim (cases_eq i j.place) [
    | inl is ↦ subst (λ (k : ℕ). (state_at t.states k).worn ≡ (state_at s.states k).worn) (sym is) (ap (λ (x : SlotState). x.worn) state_here)
    | inr apart ↦ ap (λ (x : SlotState). x.worn) (state_else i apart)
  ]

  worn_is : (k : ℕ) → e.worn k ≡ d0.worn k
  worn_is k = at_same None (λ i x. (state_at t.states i).worn) (λ i x. (state_at s.states i).worn) (λ i x. worn_same i) (entry_of m k)

  -- THE OPERATION
  makes : Makes (op m entry s j at) a d0 e
  makes = record { reading = refl; entry = refl; asked = asked; operations = refl; worn = worn_is }

  pub counts : Counts (op m entry s j at) a d0 e
  counts = record { makes = makes; on = power m entry s j at; faults = refl; small = at.sound.faults }

  pub cuts : CountsEachCut entry f.flash
  cuts = still_counted entry s.fls.flash f.flash a asked.cause asked.counted at.sound.cuts

  pub left : (old new : List ℕ) → bytes_now s.fls.flash ≡ Some old → bytes_now f.flash ≡ Some new → MayLeave (op m entry s j at) old new × Leaves (op m entry s j at) a old new
  left old new x y = both_left s.fls.flash.bytes f.flash.bytes (op m entry s j at) a old new x y asked.bytes

  -- a number that is worn out is another one, whose slots stay
  worn_stays : (k since : ℕ) (o : Option (ℕ × (DeviceNumber × ℕ))) → entry_of m k ≡ o → d0.worn k ≡ Some since → at_entry None (λ i x. (state_at s.states i).worn) o ≡ Some since
      → IsTrue (at_entry true (λ i x. is_apart m.geometry i (op m entry s j at)) o)
      × ((old new : List ℕ) → MayLeave (op m entry s j at) old new → IsTrue (at_entry false (λ i x. is_last_at m.geometry old i x.1) o) → IsTrue (at_entry false (λ i x. is_last_at m.geometry new i x.1) o))
  worn_stays k since None is worn none = cc none
  worn_stays k since (Some x) is worn here =
      let apart : x.0 ≡ j.place → ⊥ = λ same. (let none = ap (λ (i : ℕ). (state_at s.states i).worn) same ∙ unworn m entry s j at in cc (here, none)) in
      let begins = step_begins m.geometry (length m.numbers) j.place mem0.target (h m entry s j at) (content m entry s j at) j.step (slot m entry s j at) (is_job m entry s j at).step in (
        apart_is m.geometry x.0 j.place (begins_at (op m entry s j at)) apart begins.0 begins.1,
        λ old new leaves last. subst (λ (b : Which → SlotBytes). IsTrue (is_last_head (newest_of m.geometry.page x.1.1 b))) (sym (others m entry s j at old new leaves x.0 apart)) last,
      )

  keeps_worn : KeepsWorn (op m entry s j at) d0 e
  keeps_worn k since is =
      let stays = worn_stays k since (entry_of m k) refl is is in (
        stays.0,
        each_told f.flash.bytes (λ (x : List ℕ). IsTrue (last_in m k (attached m.geometry x))) (λ new now.
            (let before = before_told s.fls.flash.bytes f.flash.bytes (op m entry s j at) a new asked.bytes now in
            let leaves = (left before.0 new before.1 now).0 in
            let was = told_at s.fls.flash.bytes (λ (x : List ℕ). IsTrue (last_in m k (attached m.geometry x))) before.0 before.1 (at.sound.run.worn k since is).last in
            let old_is = Rattle.ea_told.proofs.Bytes.attached_is m.geometry before.0 (some m entry s j at before.0 before.1) in
            subst (λ (b : List ℕ). IsTrue (last_in m k b)) (sym (attach_new m entry s j at before.0 before.1 new leaves))
            (stays.1 before.0 new leaves (subst (λ (b : List ℕ). IsTrue (last_in m k b)) old_is was)))),
      )

  pub run : HasRun e
  run = runs_go_on (op m entry s j at) a d0 e at.sound.run makes refl (run_counts entry f.flash cuts) (leaves_sound m entry s j at) keeps_worn

  pub same : IsSame d0 e
  same = record { reading = refl; numbers = refl; entry = refl; later = one_later s.operations (change_of (op m entry s j at) s.fls.flash a); old = at.sound.run.alike; new = run.alike }

  pub ticks : Ticks First (turn_of a) (told_of m entry s) (clock_of m entry s) (told_of m entry t) (clock_of m entry t)
  ticks = clocks_tick (op m entry s j at) a d0 e at.sound.run.alike makes (failure_counted a s.faults at.sound.faults) (cuts_possible m entry s j at) (λ such. absurd (false≢true such))

  pub part_works : a ≢ Off → PartTurns false (asked_ops d0) (asked_ops e) (flash_part d0) (flash_part e)
  part_works on = parts_work (op m entry s j at) a d0 e counts on

  -- behind it only a sound image is told
  pub told_behind : IsTrue (tells_now e) → IsTrue (tells_held d0)
  told_behind now = now_behind e (some_later s.operations (change_of (op m entry s j at) s.fls.flash a)) now

  -- WHAT IS TOLD
  abbrev pub told_then : List ℕ → ℕ → DeviceNumber × ℕ → Slot
  told_then bytes i x = slot_told (state_at t.states i).memory (slot_bytes m.geometry bytes i) (job_leaves (stand_of t.content t.job t.last t.given) x.0.0)

  pub told_then_is : (bytes : List ℕ) (k : ℕ) → slot_with e bytes k ≡ at_entry no_slot (told_then bytes) (entry_of m k)
  told_then_is bytes k =
      ap (λ (b : Bool). slot_at m.numbers (slots_in m b t.states (stand_of t.content t.job t.last t.given) bytes) k) (started m entry s j at)
      ∙ at_listed no_slot (told_then bytes) 0 m.numbers k

  -- what the job leaves behind it, and how its own slots stand
  pub record Behind : Type 0 where
    pub fewer : List Mark
    pub few : AreFewer fewer ((jm m entry s j at).mark ∷ [])
    pub here : job_leaves (stand_of t.content t.job t.last t.given) j.number.0 ≡ fewer
    pub elsewhere : (k : ℕ) → (j.number.0 ≡ k → ⊥) → job_leaves (stand_of t.content t.job t.last t.given) k ≡ []

  abbrev pub KeepsOwn : Behind → Type 0
  KeepsOwn b = (old new : List ℕ) → bytes_now s.fls.flash ≡ Some old → bytes_now f.flash ≡ Some new → IsTrue (tells_held d0)
      → Keeps (slot_told mem0 (slot_bytes m.geometry old j.place) ((jm m entry s j at).mark ∷ [])) (slot_told after.memory (slot_bytes m.geometry new j.place) b.fewer)

  module _ (b : Behind) (keeps : KeepsOwn b) where
    each : (old new : List ℕ) → AreTold d0 e old new → (k i : ℕ) (x : DeviceNumber × ℕ) → entry_of m k ≡ Some (i, x) → Keeps (told m entry s j at old i x) (told_then new i x)
    each old new are k i x is = elim (cases_eq i j.place) [
      | inr apart ↦
          let leaves = (left old new are.1 are.2).0 in
          let number : j.number.0 ≡ x.0.0 → ⊥ = λ same'. not_own m entry s j at k i x is apart (same' ∙ (Rattle.ea_told.proofs.Lists.entry_is 0 m.numbers k i x is).number) in
          let kept = keeps_same (state_at s.states i).memory (slot_bytes m.geometry old i) (slot_bytes m.geometry new i) [] [] (λ w. ap (λ (c : Which → SlotBytes). c w) (others m entry s j at old new leaves i apart)) (same_marks []) in
          subst (λ (l : List Mark). Keeps (slot_told (state_at s.states i).memory (slot_bytes m.geometry old i) l) (told_then new i x)) (sym (marks_elsewhere m entry s j at x.0.0 number))
          (subst (λ (l : List Mark). Keeps (slot_told (state_at s.states i).memory (slot_bytes m.geometry old i) []) (slot_told (state_at t.states i).memory (slot_bytes m.geometry new i) l)) (sym (b.elsewhere x.0.0 number))
          (subst (λ (c : SlotState). Keeps (slot_told (state_at s.states i).memory (slot_bytes m.geometry old i) []) (slot_told c.memory (slot_bytes m.geometry new i) [])) (sym (state_else i apart)) kept))
      | inl here ↦
          let mine = (own m entry s j at k i x is here).1 in
          let kept = keeps old new are.1 are.2 (told_behind are.0) in
          let P = λ (i' : ℕ) (y : DeviceNumber × ℕ). Keeps (told m entry s j at old i' y) (told_then new i' y) in
          let marked : P j.place (j.number, size m entry s j at) =
          subst (λ (l : List Mark). Keeps (slot_told mem0 (slot_bytes m.geometry old j.place) l) (told_then new j.place (j.number, size m entry s j at))) (sym (marks_here m entry s j at))
          (subst (λ (l : List Mark). Keeps (slot_told mem0 (slot_bytes m.geometry old j.place) ((jm m entry s j at).mark ∷ [])) (slot_told (state_at t.states j.place).memory (slot_bytes m.geometry new j.place) l)) (sym b.here)
          (subst (λ (c : SlotState). Keeps (slot_told mem0 (slot_bytes m.geometry old j.place) ((jm m entry s j at).mark ∷ [])) (slot_told c.memory (slot_bytes m.geometry new j.place) b.fewer)) (sym state_here) kept)) in
          subst (λ (i' : ℕ). P i' x) (sym here) (subst (λ (y : DeviceNumber × ℕ). P j.place y) (sym mine) marked)
    ]

    pub keeps_all : KeepsAll (told_of m entry s) (told_of m entry t)
    keeps_all = tells_keep d0 e same (λ old new are k.
        subst (λ (x : Slot). Keeps x (slot_with e new k)) (sym (told_is m entry s j at old k))
        (subst (λ (x : Slot). Keeps (at_entry no_slot (told m entry s j at old) (entry_of m k)) x) (sym (told_then_is new k))
        (kept_by (told m entry s j at old) (told_then new) (entry_of m k) (λ i x is. each old new are k i x is))))

  -- THE BYTES HOLD WHAT IS IN MEMORY
  pub hold_all : ((old new : List ℕ) → bytes_now s.fls.flash ≡ Some old → bytes_now f.flash ≡ Some new → IsTrue (tells_held d0) → HoldsSlots m.geometry.page (size m entry s j at) after.memory (slot_bytes m.geometry new j.place))
      → (old new : List ℕ) → AreTold d0 e old new → HoldAll m t new
  hold_all own_holds old new are k i x is = elim (cases_eq i j.place) [
    | inr apart ↦
        let leaves = (left old new are.1 are.2).0 in
        let was = holds m entry s j at old are.1 (told_behind are.0) k i x is in
        subst (λ (c : SlotState). HoldsSlots m.geometry.page x.1 c.memory (slot_bytes m.geometry new i)) (sym (state_else i apart))
        (subst (λ (c : Which → SlotBytes). HoldsSlots m.geometry.page x.1 (state_at s.states i).memory c) (sym (others m entry s j at old new leaves i apart)) was)
    | inl here ↦
        let mine = (own m entry s j at k i x is here).1 in
        let now = own_holds old new are.1 are.2 (told_behind are.0) in
        let P = λ (i' : ℕ) (y : DeviceNumber × ℕ). HoldsSlots m.geometry.page y.1 (state_at t.states i').memory (slot_bytes m.geometry new i') in
        let at_place : P j.place (j.number, size m entry s j at) = subst (λ (c : SlotState). HoldsSlots m.geometry.page (size m entry s j at) c.memory (slot_bytes m.geometry new j.place)) (sym state_here) now in
        subst (λ (i' : ℕ). P i' x) (sym here) (subst (λ (y : DeviceNumber × ℕ). P j.place y) (sym mine) at_place)
  ]

  -- THE SETTLED SLOTS STAND
  pub stand_all : ((old new : List ℕ) → bytes_now s.fls.flash ≡ Some old → bytes_now f.flash ≡ Some new → standing m.geometry.page (size m entry s j at) (slot_bytes m.geometry new j.place (other after.memory.target)) ≡ after.memory.settled)
      → (old new : List ℕ) → bytes_now s.fls.flash ≡ Some old → bytes_now f.flash ≡ Some new → StandAll m t new
  stand_all own_stands old new now now' k i x is = elim (cases_eq i j.place) [
    | inr apart ↦
        let leaves = (left old new now now').0 in
        let was = stand_at m entry s j at old now k i x is in
        subst (λ (c : SlotState). standing m.geometry.page x.1 (slot_bytes m.geometry new i (other c.memory.target)) ≡ c.memory.settled) (sym (state_else i apart))
        (ap (λ (c : Which → SlotBytes). standing m.geometry.page x.1 (c (other (state_at s.states i).memory.target))) (others m entry s j at old new leaves i apart) ∙ was)
    | inl here ↦
        let mine = (own m entry s j at k i x is here).1 in
        let P = λ (i' : ℕ) (y : DeviceNumber × ℕ). standing m.geometry.page y.1 (slot_bytes m.geometry new i' (other (state_at t.states i').memory.target)) ≡ (state_at t.states i').memory.settled in
        let at_place : P j.place (j.number, size m entry s j at) = subst (λ (c : SlotState). standing m.geometry.page (size m entry s j at) (slot_bytes m.geometry new j.place (other c.memory.target)) ≡ c.memory.settled) (sym state_here) (own_stands old new now now') in
        subst (λ (i' : ℕ). P i' x) (sym here) (subst (λ (y : DeviceNumber × ℕ). P j.place y) (sym mine) at_place)
  ]

  -- the slot beside the target stays
  pub beside_stands : (old new : List ℕ) → bytes_now s.fls.flash ≡ Some old → bytes_now f.flash ≡ Some new → standing m.geometry.page (size m entry s j at) (slot_bytes m.geometry new j.place (other mem0.target)) ≡ mem0.settled
  beside_stands old new now now' =
      let leaves = (left old new now now').0 in
      ap (standing m.geometry.page (size m entry s j at)) (touch m entry s j at old new leaves j.place (other mem0.target) (λ x. other_differs mem0.target x.1))
      ∙ stand_at m entry s j at old now j.number.0 j.place (j.number, size m entry s j at) (is_job m entry s j at).entry
