-- A stack behind a turn.
use Rattle.std.proofs.Common.{◌≡◌, ℕ, Bool, true, List, Option, Some, None, refl, ap, subst, sym, inl, inr}
use Rattle.nvm_laws.specs.memif.Told.{DeviceTold}
use Rattle.nvm_laws.specs.block_machine.Words.{Entry, Taken, Configuration}
use Rattle.nvm_laws.specs.block_machine.Results.{Answer}
use Rattle.nvm_laws.specs.block_machine.Next.{Next, Nothing, PickJob, BeginSweep, PickMember, PostMember, EndSweep, next_of}
use Rattle.nvm_laws.specs.ram_blocks.Told.{Told}
use Rattle.nvm_laws.specs.nv_desk.Desk.{DeskState, state_of}
use Rattle.nvm_laws.specs.nv_desk.FoundMarks.{FoundState}
use Rattle.nvm_laws.specs.nv_desk_copies.Front.{StagingState, StagesAll, AreSynchronized}
use Rattle.nvm_laws.specs.nv_desk_copies.Posts.{IsPosted, IsPostedNext}
use Rattle.nvm_laws.specs.job_progress.Hand.{HandState}
use Rattle.nvm_laws.specs.Ties.{IsTied}
use Rattle.nvm_laws.specs.Halves.{IsHalf}
use Rattle.nvm_laws.specs.Turns.{AddsBy}
use Rattle.nvm_laws.specs.declared.turned.Turned.{Turned}
use Rattle.nvm_laws.specs.declared.turned.Turned.TheVariants as turned
use Rattle.nvm_laws.specs.declared.turned.Act.{Act}
use Rattle.nvm_laws.specs.declared.turned.Act.TheVariants.{Ended, Device}
use Rattle.nvm_core.specs.Stack.{StackState, IsStack, PowersOff}
use Rattle.nvm_core.specs.Turns.{IsFirstHalf}
use Rattle.nvm_core.proofs.Rooms.{rooms_kept}

-- the configuration and the cap stay
abbrev pub HasSame : DeskState → DeskState → Type 0
HasSame old new = (new.config ≡ old.config) × (new.cap ≡ old.cap)

next_same : (n : Next) (ops : ℕ) (old new : DeskState) (before after : List Told) → IsPostedNext n ops old new before after → HasSame old new
next_same (PostMember sw id) ops old new before after is = (ap (λ (x : DeskState). x.config) is.adds, ap (λ (x : DeskState). x.cap) is.adds)
next_same (EndSweep sw) ops old new before after is = (ap (λ (x : DeskState). x.config) is.adds, ap (λ (x : DeskState). x.cap) is.adds)
next_same Nothing ops old new before after is = absurd is
next_same (PickJob j) ops old new before after is = absurd is
next_same (BeginSweep sw) ops old new before after is = absurd is
next_same (PickMember sw id) ops old new before after is = absurd is

pub half_same : (act : Act) (Holds : ℕ → Taken → Type 0) (Fits : Type 0) (old new : DeskState) (before after : List Told) (d : DeviceTold)
    → IsHalf act Holds Fits old new before after d → HasSame old new
half_same (Ended turned.Off) Holds Fits old new before after d is = (ap (λ (x : DeskState). x.config) is.0.0, ap (λ (x : DeskState). x.cap) is.0.0)
half_same (Ended turned.Picked) Holds Fits old new before after d is = (ap (λ (x : DeskState). x.config) is.1.adds, ap (λ (x : DeskState). x.cap) is.1.adds)
half_same (Ended turned.Posted) Holds Fits old new before after d is = elim is [
  | inl held ↦ (ap (λ (x : DeskState). x.config) held.is.adds, ap (λ (x : DeskState). x.cap) held.is.adds)
  | inr next ↦ next_same (next_of old.config (state_of old)) _ old new before after next.1
]
half_same (Ended turned.Idle) Holds Fits old new before after d is = (ap (λ (x : DeskState). x.config) is.0.0, ap (λ (x : DeskState). x.cap) is.0.0)
half_same (Ended turned.Worked) Holds Fits old new before after d is = absurd is
half_same Device Holds Fits old new before after d is = (ap (λ (x : DeskState). x.config) is.0.0, ap (λ (x : DeskState). x.cap) is.0.0)

-- so it is of a stack, whatever it has besides
pub half_of : {D C : Type 0} (told : D → DeviceTold) (copies : C → List Told) (is_store : C → ℕ → ℕ → List ℕ → Type 0) (looked : C → C → ℕ → ℕ → Type 0) (act : Act) (old new : StackState D C) (ready has_room : Bool)
    → IsFirstHalf told copies is_store looked act old new
    → IsFirstHalf told copies is_store looked act (record old { ready = ready; has_room = has_room }) (record new { ready = ready; has_room = has_room })
half_of told copies is_store looked act old new ready has_room is = record {
  half = is.half;
  device = is.device;
  started = is.started;
  at_device = is.at_device;
  lowers = is.lowers;
  tied = is.tied;
  sizes = is.sizes;
  refuses = is.refuses;
  stores_stay = is.stores_stay;
  ready = refl;
  has_room = refl;
}

-- it doesn't work at the device
pub never_worked : (answer : Turned) (Holds : ℕ → Taken → Type 0) (Fits : Type 0) (old new : DeskState) (before after : List Told) (d : DeviceTold)
    → answer ≡ turned.Worked → IsHalf (Ended answer) Holds Fits old new before after d → ⊥
never_worked answer Holds Fits old new before after d is half = subst (λ (x : Turned). IsHalf (Ended x) Holds Fits old new before after d) is half

pub adds_same : (e : Option Entry) (old new : DeskState) → AddsBy e old new → HasSame old new
adds_same None old new same = (ap (λ (x : DeskState). x.config) same, ap (λ (x : DeskState). x.cap) same)
adds_same (Some e) old new adds = (ap (λ (x : DeskState). x.config) adds.0, ap (λ (x : DeskState). x.cap) adds.0)

-- what was added, whatever holds of what was taken
posted_by : (Fits : Type 0) (block : ℕ) (ram : Bool) (ended : Answer) (ops : ℕ) (old new : DeskState) (before after : List Told)
    → IsPosted Fits block ram ended ops old new before after → IsPosted ⊥ block ram ended ops old new before after
posted_by Fits block ram ended ops old new before after is = record {
  result = is.result;
  given = is.given;
  refused = is.refused;
  adds = is.adds;
  over = is.over;
  others = is.others;
  allowed = λ never. absurd never;
}

pub half_adds : (act : Act) (Holds : ℕ → Taken → Type 0) (Fits : Type 0) (old new : DeskState) (before after : List Told) (d : DeviceTold)
    → IsHalf act Holds Fits old new before after d → IsHalf act (λ block t. Unit {0}) ⊥ old new before after d
half_adds (Ended turned.Off) Holds Fits old new before after d is = is
half_adds (Ended turned.Picked) Holds Fits old new before after d is = (is.0, record { kind = is.1.kind; taken = is.1.taken; adds = is.1.adds; allowed = is.1.allowed; copied = tt })
half_adds (Ended turned.Posted) Holds Fits old new before after d is = elim is [
  | inl held ↦ inl (record { job = held.job; hand = held.hand; ended = held.ended; is = posted_by Fits _ _ _ _ old new before after held.is })
  | inr next ↦ inr next
]
half_adds (Ended turned.Idle) Holds Fits old new before after d is = is
half_adds (Ended turned.Worked) Holds Fits old new before after d is = is
half_adds Device Holds Fits old new before after d is = is

-- the parts that were tied again
pub turned_stack : (old new : DeskState) (staging staging_new : StagingState) (hand hand_new : Option HandState) (d d_new : DeviceTold) (copies copies_new : List Told)
    (room : Option FoundState) → IsStack old staging hand d copies room true → new.config ≡ old.config → new.cap ≡ old.cap → staging_new.room ≡ staging.room
    → AreSynchronized old.config copies_new → IsTied new hand_new d_new → PowersOff new d_new → IsStack new staging_new hand_new d_new copies_new room true
turned_stack old new staging staging_new hand hand_new d d_new copies copies_new room is config cap stages synchronized tied power = record {
  stages = λ id. subst (λ (c : Configuration). StagesAll c staging_new) (sym config) (λ n. rw stages (is.stages n)) id;
  synchronized = subst (λ (c : Configuration). AreSynchronized c copies_new) (sym config) synchronized;
  numbers = tied.numbers;
  has_room = rooms_kept old new room config cap is.has_room;
  tied = λ ready. tied;
  power = λ ready. power;
}
