-- What the target shows behind a page of the active log.
use Rattle.std.specs.Prelude.{IsSome}
use Rattle.std.proofs.Common.{◌≡◌, ◌≤◌, ◌+◌, ℕ, List, refl, sym, ap, subst, arith}
use Rattle.nv_base.specs.declared.instance.DeviceNumber.{DeviceNumber}
use Rattle.memif.specs.Told.{Stand}
use Rattle.fls_model.specs.Op.{Op, MayLeave}
use Rattle.fls_model.specs.Told.{Told}
use Rattle.fee_image.specs.Log.{Log}
use Rattle.fee_image.specs.May.{May}
use Rattle.fee_image.specs.Step.{page_due, bytes_due, done_of}
use Rattle.fee_image.specs.Banks.{Old, OldBank}
use Rattle.fee_switch_laws.specs.fee_log.Log.{LogState, work_in}
use Rattle.fee_switch_laws.specs.fee_log.Step.{IsPageOf, due_bytes}
use Rattle.promise_device.specs.Making.{Making, banks_of}
use Rattle.fee_told.specs.Slots.{banks_with, may_told, settled_in}
use Rattle.fee_told.specs.SlotLaws.{IsHeld, IsBehindLog, SamePlaces}
use Rattle.fee_told.proofs.Places.{programs_keep_settled}
use Rattle.fee_laws.specs.Inside.{Parts, memory_of}
use Rattle.fee_laws.specs.Turn.{IsOn}
use Rattle.fee_laws.specs.Appends.{work_body, work_op}
use Rattle.fee_laws.proofs.Before.{legal}
use Rattle.fee_laws.proofs.Tails.{shown}
use Rattle.fee_laws.proofs.Page.{a, log, old_is, op_is, inside, size}
use Rattle.fee_laws.proofs.Shown.{after, after_is}

module _ (m : Making) (entry : Told) (s : Parts) (listed : List (DeviceNumber × ℕ)) (kept count : ℕ) (on : IsOn m entry s listed kept count) (work : IsSome (work_in s.banks.log.tail)) (page : IsPageOf s.banks.geometry.page (due_bytes s.banks.log (work_body s))) (old new : List ℕ) (more : May) (held : IsHeld (banks_of m) m.numbers old (memory_of s) more) (leaves : MayLeave (work_op s) old new) where
  abbrev was : Log
  was = log m entry s listed kept count on work

  abbrev k : ℕ
  k = (a m entry s listed kept count on work).bank

  behind : IsBehindLog (memory_of s).old k (page_due was)
  behind = subst (λ (o : Old). IsBehindLog o k (page_due was)) (sym (old_is m entry s listed kept count on work)) (λ same. (let goal : was.end ≤ was.end + done_of was.tail = omega arith in goal))

  -- its places show what they showed, where they are the same
  pub settled_stays : (next : LogState) (stand : Stand) → next.places ≡ s.banks.log.places
      → settled_in (banks_of m) m.numbers new (after m entry s listed kept count on work next stand).old ≡ settled_in (banks_of m) m.numbers old (memory_of s).old
  settled_stays next stand places =
      let path = after_is m entry s listed kept count on work next (shown next s.content) stand refl in
      let same : SamePlaces (memory_of s).old (after m entry s listed kept count on work next stand).old =
      subst (λ (o : Old). SamePlaces o (after m entry s listed kept count on work next stand).old) (sym (old_is m entry s listed kept count on work))
      (subst (λ (o : Old). SamePlaces (OldBank k (a m entry s listed kept count on work).head was) o) (sym (ap (λ (x : _). x.old) path)) (refl, refl, places)) in
      programs_keep_settled (banks_of m) m.numbers old new (bytes_due m.geometry.page was) (banks_with (memory_of s) (may_told (banks_of m) m.numbers old (memory_of s)) more) k (page_due was) (after m entry s listed kept count on work next stand).old
      (legal m entry s listed kept count on) held.banks (size m entry s listed kept count on work page.size) (inside m entry s listed kept count on work page.size).1
      (subst (λ (o : Op). MayLeave o old new) (op_is m entry s listed kept count on work page.size) leaves) behind same
