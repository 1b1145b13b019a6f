use Rattle.script_player.proofs.Common.{map, ◌≡◌, ℕ, List, sym, subst, Option, Some, None, refl, Configuration, PlainBlock, Told, IsSynchronized, told_of, AreSynchronized, sync_length_of, StackState, stack_stays, kept_by, Refuses, told_by, IsSome}
use Rattle.script_player.proofs.PlainCopies.{may_store}
use Rattle.script_player.proofs.PlainSteps.{refuses}
use Rattle.script_player.proofs.calls.refuse.Goals as goal

-- a block whose copies may be refused is the application's
synchronized : (c : Configuration) (told : List Told) (id : ℕ) → AreSynchronized c told → IsSome (sync_length_of c id) → (n : ℕ) × IsSynchronized told id n
synchronized c told id are some = by (sync_length_of c id) refl some
  where
    by : (o : Option ℕ) → sync_length_of c id ≡ o → IsSome o → (n : ℕ) × IsSynchronized told id n
    by None is none = absurd (cc none)
    by (Some n) is has = (n, may_store c told id n are is)

pub returns-clause-refuses : goal.returns-clause-refuses
returns-clause-refuses g c =
    let s = c.args.stack.now in
    let told = g.D.MemDevice.told in
    let (n, is) = synchronized s.desk.config (map told_of s.copies) c.args.block c.device-device.ensures.synchronized c.requires in
    subst (λ (t : StackState g.row.D.Denot (List PlainBlock)). Refuses c.args.block c.args.count (told_by told s) (told_by told t)) (sym c.refuse.ensures)
    (refuses c.args.block n c.args.count s.desk s.hand s.copies s.ready (told s.device) is)

pub returns-clause-moved : goal.returns-clause-moved
returns-clause-moved g c =
    let s = c.args.stack.now in
    let new = c.refuse.new.self in
    let told = g.D.MemDevice.told in
    let clock = g.D.MemDevice.clock in
    stack_stays told clock s new (kept_by told clock s) (kept_by told clock new) (λ before kept. subst (λ (t : StackState g.row.D.Denot (List PlainBlock)). kept_by told clock t before) (sym c.refuse.ensures) kept) _ c.refuse.ensures
