-- The first start-up of a stack over a flash: what is kept behind it, and what its flash tells by the clock that it tells.
use Rattle.std.specs.Prelude.{slice_get}
use Rattle.std.proofs.Common.{◌≡◌, ◌<◌, ◌≤◌, ◌*◌, ◌⊎◌, ℕ, true, IsTrue, List, [], ◌∷◌, Some, None, refl, sym, ap, ◌∙◌, subst, inl, inr, arith}
use Rattle.std.proofs.lemmas.Bool.Decides.{leb_tells}
use Rattle.nvm_core.specs.nv_base.Count.{last_count}
use Rattle.nvm_core.specs.nv_base.Marks.{instance_of}
use Rattle.nvm_core.specs.block_config.Config.{Configuration}
use Rattle.nvm_core.specs.block_config.Rules.{IsLegalConfig}
use Rattle.nvm_core.specs.block_machine.Words.{Entry}
use Rattle.nvm_core.specs.memif.Told.{Part, PartTold, DeviceTold, First, Second, part_at as at_part}
use Rattle.nvm_core.specs.memif.Calls.{InOrder}
use Rattle.memif_fee_ea.specs.fee_core.fls_model.Told.{Told, Change}
use Rattle.memif_fee_ea.specs.fee_core.promise_device.Making.{Making}
use Rattle.memif_fee_ea.specs.fee_core.promise_device.Reading.{Reading}
use Rattle.memif_fee_ea.specs.fee_core.promise_device.Bridge.{Bridges, cuts_of}
use Rattle.memif_fee_ea.specs.fee_core.fls_told.Clock.{flash_clock, off_in_of}
use Rattle.memif_fee_ea.specs.fee_core.fls_told.Device.{FlashDevice}
use Rattle.memif_fee_ea.specs.ea_slots.ea_told.Device as slots
use Rattle.memif_fee_ea.specs.ea_slots.Whole as ea
use Rattle.memif_fee_ea.specs.fee_core.fee_told.Device.{Device, flash_device, told_of, clock_of}
use Rattle.memif_fee_ea.specs.fee_core.Tells.{told_clock}
use Rattle.memif_fee_ea.specs.fee_core.fee_laws.Made.{IsMadeOf, part_at}
use Rattle.nvm_core.specs.ram_blocks.declared.plain_block.PlainBlock.{PlainBlock}
use Rattle.nvm_core.specs.nvm_device_laws.Turn.{Keeps, BeginsKept, down}
use Rattle.nvm_core.specs.Stack.{StackState}
use Rattle.nvm_core.specs.StartUps.{StartsUp, StartsKeep}
use Rattle.nvm_core.specs.nvm_laws.Keeps.{StackKeepsAsTold, KeepsAsTold, KeepsWhileDown}
use Rattle.nvm_core.specs.nvm_laws.declared.turned.FoundAnswer.TheVariants as found
use Rattle.promise_run.specs.Halves.{beyond_end}
use Rattle.nvm_core.proofs.StartingUp.{stacks_begin}
use Rattle.memif_fee_ea.proofs.FlashRun.{seen_more}
use Rattle.nvm_flash.specs.Made.{IsOrigin, IsMadeStack, AreOfFirst, one_part}
use Rattle.nvm_flash.specs.PairClock.{until_end, slots_clock}

-- THE FIRST START-UP
none_off : (k : ℕ) (xs : List Change) → xs ≡ [] → (x : Change) → slice_get xs k ≡ Some x → ⊥
none_off k [] none x at = cc at
none_off k (y ∷ ys) none x at = cc none

-- before it the empty history keeps all
fresh_down : (d : Device) (c : Configuration) (inner : Told) (cuts : ℕ) (making : Making) (entry : Told) (most : ℕ) → BeginsKept (told_of d) (told_clock d) → InOrder (told_of d) (told_clock d) → IsOrigin c inner cuts making entry → IsLegalConfig c
    → IsMadeOf making entry d → AreOfFirst d → Keeps c most [] (one_part (part_at entry)) (down (told_of d)) (told_clock d)
fresh_down d c inner cuts making entry most begins order origin legal made parts =
    subst (λ (x : DeviceTold). Keeps c most [] (one_part (part_at entry)) x (told_clock d)) (ap (λ b. record (told_of d) { started = b }) made.started)
    (begins c most (one_part (part_at entry)) same
    (record { rules = legal; numbers = ap (λ m. m.numbers) (made.making ∙ origin.made_for); parts = λ x has. parts x.0.0 ∙ sym (parts ((instance_of x.0).block * 64)) })
    (record { ops = made.ops; on = λ k off. never k off.0 off.1; finds = λ held finds. order.now held finds }))
  where
    never : (k : ℕ) → k < last_count → off_in_of (flash_device d) k → ⊥
    never k small (inl full) = absurd (omega (arith, small, full))
    never k small (inr (x, at, is)) = none_off k d.operations made.made.operations x at

    same : (p : Part) → (one_part (part_at entry) p).faults ≡ (at_part p (told_of d)).faults
    same First = sym (ap (λ p. p.faults) made.part)
    same Second = refl

-- behind it all is kept
pub begins_up : (c : Configuration) (making : Making) (entry : Told) (m s : StackState Device (List PlainBlock)) → IsMadeStack m.desk.config m.desk.cap making entry m → BeginsKept (told_of m.device) (told_clock m.device) → InOrder (told_of m.device) (told_clock m.device)
    → StartsUp told_of m s → StartsKeep found.Ready m.desk (told_of m.device) (told_clock m.device) s.desk (told_of s.device) (told_clock s.device)
    → (inner : Told) (cuts : ℕ) → m.desk.config ≡ c → IsLegalConfig c → IsOrigin c inner cuts making entry → StackKeepsAsTold (one_part (part_at entry)) s.desk None (told_of s.device) (told_clock s.device)
begins_up c making entry m s made begins order starts keeps inner cuts same legal origin =
    keeps (one_part (part_at entry)) (λ told. inr (starts.finds.up.restarted.ops ∙ made.device.ops))
    (subst (λ (h : List Entry). KeepsAsTold (KeepsWhileDown m.desk.config m.desk.cap h (one_part (part_at entry)) (told_of m.device) (told_clock m.device)) m.desk.config m.desk.cap h (told_of m.device) (told_clock m.device)) (sym (ap (λ x. x.desk.entries) made.only))
    (subst (λ (x : Configuration). KeepsAsTold (KeepsWhileDown x m.desk.cap [] (one_part (part_at entry)) (told_of m.device) (told_clock m.device)) x m.desk.cap [] (told_of m.device) (told_clock m.device)) (sym same)
    (stacks_begin (told_of m.device) (told_clock m.device) c m.desk.cap (one_part (part_at entry)) order made.device.ops made.device.starts
    (fresh_down m.device c inner cuts making entry m.desk.cap begins order origin legal made.device made.parts))))

-- THE CLOCK
-- What a device over any flash told of its operations, also where it tells an Off of none past the end of the count.
pub bridge_beyond : (r : Reading) (inner exit : Told) (operations : List Change) (before : PartTold) (now : DeviceTold) (d : FlashDevice) → Bridges r true (record { entry = inner; exit = exit; operations = operations }) before now (flash_clock d)
    → Bridges r true (record { entry = inner; exit = exit; operations = operations }) before now (beyond_end (until_end (flash_clock d)))
bridge_beyond r inner exit operations before now d b = record {
  after = b.after;
  cut = b.cut;
  tells = b.tells;
  slots = b.slots;
  sound = b.sound;
  sound_cut = b.sound_cut;
  operations = record {
    told_alike = b.operations.told_alike;
    chain = b.operations.chain;
    seen = λ t. seen_more (λ k. IsTrue true × off_in_of d k) (λ k. IsTrue true × ((last_count ≤ k) ⊎ ((k < last_count) × off_in_of d k))) 0 t.bytes.last operations (cuts_of true now) t.changes (λ k is. (is.0, later k is.1)) (b.operations.seen t);
    counted = b.operations.counted;
    told = b.operations.told;
  };
  ops = b.ops;
  faults = b.faults;
  cuts = b.cuts;
  off = b.off;
  withheld = b.withheld;
  failed = b.failed;
  went_off = λ k small off. inr (small, b.went_off k small off);
  worn = b.worn;
  was = b.was;
  spare = b.spare;
}
  where
    later : (k : ℕ) → off_in_of d k → (last_count ≤ k) ⊎ ((k < last_count) × off_in_of d k)
    later k off = elim (leb_tells last_count k) [ inl past_end ↦ inl past_end.1 | inr before_end ↦ inr (before_end.1, off) ]

-- what the device over banks told, by the clock that it tells
pub told_bridge : (r : Reading) (inner exit : Told) (operations : List Change) (before : PartTold) (d : Device) → Bridges r true (record { entry = inner; exit = exit; operations = operations }) before (told_of d) (clock_of d)
    → Bridges r true (record { entry = inner; exit = exit; operations = operations }) before (told_of d) (beyond_end (told_clock d))
told_bridge r inner exit operations before d b = bridge_beyond r inner exit operations before (told_of d) (flash_device d) b

-- and the one over slots
pub slots_bridge : (r : Reading) (inner exit : Told) (operations : List Change) (before : PartTold) (d : ea.Device) → Bridges r true (record { entry = inner; exit = exit; operations = operations }) before (ea.told_in d) (ea.clock_in d)
    → Bridges r true (record { entry = inner; exit = exit; operations = operations }) before (ea.told_in d) (beyond_end (slots_clock d))
slots_bridge r inner exit operations before d b = bridge_beyond r inner exit operations before (ea.told_in d) (slots.flash_device d.making d.entry d.parts) b
