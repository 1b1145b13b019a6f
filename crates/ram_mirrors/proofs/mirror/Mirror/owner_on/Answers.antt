use Rattle.std.proofs.Common.{◌∷◌, [], length, sym, ap, ◌∙◌, refl, arith}
use Rattle.ram_mirrors.specs.declared.view.View.{View}
use Rattle.ram_mirrors.specs.Ends.{MirrorValue}
use Rattle.ram_mirrors.specs.Stores.{stored_in, store_number}
use Rattle.ram_mirrors.specs.Exchange.{owner_begins}
use Rattle.ram_mirrors.proofs.Exchanges.{owner_begins_at, has_word}
use Rattle.ram_mirrors.proofs.mirror.Mirror.owner_on.Goals as goal

pub load-requires : goal.load-requires
load-requires g c = (c.requires.seat.0 ∙ sym (ap (λ (z : MirrorValue). z.table) c.self.view_is), has_word c.self.invariant.0, owner_begins_at stored_in _ _ _ _ _ c.requires.seat.1 refl refl refl)

pub invariant_of-result : goal.invariant_of-result
invariant_of-result g c =
    let h = c.requires.seat.1 in
    let l = c.load.ensures.2 in
    let now = l.2 ∙ ap (λ m. owner_begins m.0) h in (
      ap (λ (z : View _). z.owns) now,
      ap (λ (z : View _). z.owner_out) now,
      c.requires.buffer ∙ sym (ap (λ (z : View _). z.size) now),
      sym (ap (λ (z : View _). store_number (length z.stores)) now),
      omega arith,
      sym (ap (λ (z : View _). z.owner_slot) now),
      (l.0, l.1 ∙ ap (λ m. (m.0.owner_slot, l.0) ∷ []) h),
    )
