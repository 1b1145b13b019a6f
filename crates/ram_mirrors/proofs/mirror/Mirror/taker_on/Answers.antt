use Rattle.std.proofs.Common.{◌∷◌, [], length, sym, ap, ◌∙◌, refl, arith}
use Rattle.std.proofs.lemmas.List.{length-replicate}
use Rattle.ram_mirrors.specs.declared.view.View.{View}
use Rattle.ram_mirrors.specs.Ends.{MirrorValue, counted}
use Rattle.ram_mirrors.specs.Stores.{stored_in, store_number}
use Rattle.ram_mirrors.specs.Exchange.{taker_begins}
use Rattle.ram_mirrors.proofs.Exchanges.{taker_begins_at, has_word}
use Rattle.ram_mirrors.proofs.mirror.Mirror.taker_on.Goals as goal

pub load-requires : goal.load-requires
load-requires g c = (c.requires.seat.0 ∙ sym (ap (λ (z : MirrorValue). z.table) c.self.view_is), has_word c.self.invariant.0, taker_begins_at stored_in _ _ _ _ _ c.requires.seat.1 refl refl refl)

pub invariant_of-result : goal.invariant_of-result
invariant_of-result g c =
    let h = c.requires.seat.1 in
    let l = c.load.ensures.2 in
    let now = l.2 ∙ ap (λ m. taker_begins m.0) h in (
      ap (λ (z : View _). z.takes) now,
      ap (λ (z : View _). z.taker_out) now,
      ap (λ s. length s.content) c.requires.buffer ∙ (length-replicate _ _ ∙ sym (ap (λ (z : View _). z.size) now)),
      omega arith,
      sym (ap (λ (z : View _). z.taker_slot) now),
      (l.0, l.1 ∙ ap (λ m. (m.0.taker_slot, l.0) ∷ []) h),
      ap (λ (z : View _). z.owns) now,
      ap (λ (z : View _). z.shown) now ∙ sym (ap (λ (z : View _). z.taken) now),
      sym (ap (λ (z : View _). store_number z.shown) now),
      sym (ap (λ (z : View _). counted z.looks) now),
    )
