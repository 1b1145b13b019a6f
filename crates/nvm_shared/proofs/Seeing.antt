-- Copies that go on before the first half of a turn: what it did from these it did from those before.
use Rattle.std.proofs.Common.{◌≡◌, ℕ, Bool, true, false, List, map, Option, refl, ap, ◌∙◌, subst}
use Rattle.nvm_core.specs.memif.Told.{DeviceTold}
use Rattle.nvm_core.specs.block_machine.Words.{Taken, TookNothing, TookContent, TookRefused, TookStale, Configuration}
use Rattle.nvm_core.specs.block_machine.Next.{next_of}
use Rattle.nvm_core.specs.ram_blocks.Told.{Told, sizes_of}
use Rattle.nvm_core.specs.ram_blocks.Tries.{OnlyRefuses}
use Rattle.nvm_core.specs.nv_desk.Desk.{DeskState, state_of}
use Rattle.nvm_core.specs.nv_desk_copies.Takes.{copies_out_next, IsFromCopies, IsCopied}
use Rattle.nvm_core.specs.job_progress.Hand.{HandState}
use Rattle.nvm_core.specs.job_progress.JobInHand.{HandFits}
use Rattle.nvm_core.specs.nvm_laws.Halves.{IsHalf}
use Rattle.nvm_core.specs.nvm_laws.declared.turned.Act.{Act}
use Rattle.nvm_core.specs.nvm_laws.declared.turned.Act.TheVariants.{Ended, Device}
use Rattle.nvm_core.specs.nvm_laws.declared.turned.Turned.TheVariants as turned
use Rattle.nvm_core.specs.Stack.{stack_with}
use Rattle.nvm_core.specs.Turns.{IsFirstHalf}
use Rattle.ram_mirrors_sync.specs.Blocks.{SyncValue, IsStore, IsOver, told_by}
use Rattle.ram_mirrors_sync.proofs.Copies.{looks_go_on}
use Rattle.nvm_shared.specs.Noted.{GoOn, MirrorsGoOn}

module _ (P Q : ℕ → List ℕ → Type 0) (so : (n : ℕ) (x : List ℕ) → P n x → Q n x) (c : Configuration) (block : ℕ) (old new : List Told) where
  from_so : (t : Taken) → IsFromCopies P block old new t → IsFromCopies Q block old new t
  from_so (TookContent bytes number) is = so number bytes is
  from_so (TookRefused count) is = is
  from_so (TookStale wanted got count) is = (is.0, so got is.0 is.1)
  from_so TookNothing is = absurd is

  copied_so : (copies : Bool) (t : Taken) → IsCopied P c block old new copies t → IsCopied Q c block old new copies t
  copied_so true t is = record { from = from_so t is.from; spends = is.spends; others = is.others }
  copied_so false t is = is

half_so : (Holds Holding : ℕ → Taken → Type 0) → ((block : ℕ) (t : Taken) → Holds block t → Holding block t) → (act : Act) (Fits : Type 0) (old new : DeskState) (before behind : List Told) (d : DeviceTold)
    → IsHalf act Holds Fits old new before behind d → IsHalf act Holding Fits old new before behind d
half_so Holds Holding so (Ended turned.Off) Fits old new before behind d is = is
half_so Holds Holding so (Ended turned.Picked) Fits old new before behind d (block, is) = (block, record { kind = is.kind; taken = is.taken; adds = is.adds; allowed = is.allowed; copied = so block is.taken is.copied })
half_so Holds Holding so (Ended turned.Posted) Fits old new before behind d is = is
half_so Holds Holding so (Ended turned.Idle) Fits old new before behind d is = is
half_so Holds Holding so (Ended turned.Worked) Fits old new before behind d is = absurd is
half_so Holds Holding so Device Fits old new before behind d is = is

-- the first half
pub half_on : {D C : Type 0} (told : D → DeviceTold) (copies : C → List Told) (is_store : C → ℕ → ℕ → List ℕ → Type 0) (looked : C → C → ℕ → ℕ → Type 0) (over : C → C → Type 0) (act : Act)
    (desk desk_new : DeskState) (hand hand_new : Option HandState) (device device_new : D) (first since new : C) → GoOn copies is_store looked over first since
    → IsFirstHalf told copies is_store looked act (stack_with desk hand device since) (stack_with desk_new hand_new device_new new)
    → IsFirstHalf told copies is_store looked act (stack_with desk hand device first) (stack_with desk_new hand_new device_new new)
half_on {D} {C} told copies is_store looked over act desk desk_new hand hand_new device device_new first since new goes is =
    let H : C → List Told → ℕ → Taken → Type 0 =
    λ s before block t. IsCopied (λ n x. is_store new block n x × looked s new block n) desk.config block before (copies new) (copies_out_next desk.config (next_of desk.config (state_of desk))) t in
    let Fits : Type 0 = HandFits desk.config (state_of desk) hand (told device) in
    record {
      half = subst (λ (before : List Told). IsHalf act (H first before) Fits desk desk_new before (copies new) (told device_new)) goes.same
          (half_so (H since (copies since)) (H first (copies since))
          (λ block t. copied_so (λ n x. is_store new block n x × looked since new block n) (λ n x. is_store new block n x × looked first new block n) (λ n x h. (h.0, goes.earlier new block n h.1)) desk.config block
          (copies since) (copies new) (copies_out_next desk.config (next_of desk.config (state_of desk))) t)
          act Fits desk desk_new (copies since) (copies new) (told device_new) is.half);
      device = is.device;
      started = is.started;
      at_device = is.at_device;
      lowers = is.lowers;
      tied = is.tied;
      sizes = is.sizes ∙ ap sizes_of goes.same;
      refuses = subst (λ (before : List Told). OnlyRefuses before (copies new)) goes.same is.refuses;
      stores_stay = λ b n x h. is.stores_stay b n x (goes.stores_stay b n x h);
      ready = is.ready;
      has_room = is.has_room;
    }

-- THE COPIES
pub go_on_still : {C : Type 0} (copies : C → List Told) (is_store : C → ℕ → ℕ → List ℕ → Type 0) (looked : C → C → ℕ → ℕ → Type 0) (over : C → C → Type 0) (s : C) → GoOn copies is_store looked over s s
go_on_still copies is_store looked over s = record { same = refl; stores_stay = λ b n x h. h; stays_over = λ first h. h; earlier = λ until b n h. h }

pub go_on_more : {C : Type 0} (copies : C → List Told) (is_store : C → ℕ → ℕ → List ℕ → Type 0) (looked : C → C → ℕ → ℕ → Type 0) (over : C → C → Type 0) (a b c : C)
    → GoOn copies is_store looked over a b → GoOn copies is_store looked over b c → GoOn copies is_store looked over a c
go_on_more copies is_store looked over a b c one two = record {
  same = two.same ∙ one.same;
  stores_stay = λ k n x h. two.stores_stay k n x (one.stores_stay k n x h);
  stays_over = λ first h. two.stays_over first (one.stays_over first h);
  earlier = λ until k n h. one.earlier until k n (two.earlier until k n h);
}

-- a look at mirrors
pub look_goes : {N : Type 0} (s t : SyncValue N) → map told_by t.ends ≡ map told_by s.ends → IsOver s t → ((b n : ℕ) (x : List ℕ) → IsStore s.ends b n x → IsStore t.ends b n x) → MirrorsGoOn s t
look_goes s t same over stores = record {
  same = same;
  stores_stay = stores;
  stays_over = λ first h. looks_go_on.further first s t h over;
  earlier = λ until b n h. looks_go_on.earlier s t until b n over h;
}
