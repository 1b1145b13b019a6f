use Rattle.std.proofs.Common.{ℕ, ◌+◌, [], ◌∷◌, ◌++◌, length, ◌%◌, sym, ap, ◌∙◌, arith}
use Rattle.atomic_table.specs.Table.{rest}
use Rattle.ram_mirrors.specs.declared.view.View.{View}
use Rattle.ram_mirrors.specs.Ends.{counted, TakerValue}
use Rattle.ram_mirrors.specs.Stores.{stored_in, store_number}
use Rattle.ram_mirrors.specs.Exchange.{looked}
use Rattle.ram_mirrors.proofs.Exchanges.{looks, takes_at, same_value, counted_more, has_word, taker_table}
use Rattle.ram_mirrors.proofs.mirror.Mirror.refresh.Goals as goal

pub load-shown-requires : goal.load-shown-requires
load-shown-requires g c = (taker_table c.taker.view_is c.self.view_is c.requires.own, has_word c.self.invariant.0, looks stored_in _ _ _ c.taker.inside.seat.me.0 c.taker.inside.seat.me.1 c.taker.invariant.0)

pub invariant_of-taker : goal.invariant_of-taker
invariant_of-taker g c =
    let i = c.taker.invariant in
    let e = c.load-shown.ensures.2 in
    let now = e.2 in (
      ap (λ (z : View _). z.takes) now ∙ i.0,
      ap (λ (z : View _). z.taker_out) now ∙ i.1,
      i.2 ∙ sym (ap (λ (z : View _). z.size) now),
      i.3,
      i.4 ∙ sym (ap (λ (z : View _). z.taker_slot) now),
      (i.5.0, e.1 ∙ i.5.1),
      ap (λ (z : View _). z.owns) now ∙ i.6,
      ap (λ (z : View _). z.shown) now ∙ (e.5 c.if-shown-lt4.true ∙ sym (ap (λ (z : View _). z.taken) now)),
      i.8 ∙ ap store_number (i.7 ∙ (sym (e.5 c.if-shown-lt4.true) ∙ sym (ap (λ (z : View _). z.shown) now))),
      c.next_look-looks.ensures ∙ (ap (λ (n : ℕ). counted (n + 1)) i.9 ∙ (counted_more _ ∙ ap counted (sym (ap (λ (z : View _). z.looks) now)))),
    )

pub exchange-empty-requires : goal.exchange-empty-requires
exchange-empty-requires g c =
    let i = c.taker.invariant in
    let e = c.load-shown.ensures in
    let held = e.2.1 ∙ i.5.1 in
    (e.0 ∙ taker_table c.taker.view_is c.self.view_is c.requires.own, (i.5.0, held ∙ ap (λ l. (c.taker.inside.slot, i.5.0) ∷ l) (sym (ap rest held))))

pub swap-found-requires : goal.swap-found-requires
swap-found-requires g c =
    let i = c.taker.invariant in
    let l = c.load-shown.ensures in
    let e = c.exchange-empty.ensures in
    let k : ℕ = c.taker.inside.slot in
    let b = c.replace-buffer.result in
    let v = looked c.taker.inside.seat.me.0 l.2.0 in (
      e.0 ∙ (l.0 ∙ taker_table c.taker.view_is c.self.view_is c.requires.own),
      has_word c.self.invariant.0,
      takes_at stored_in _ _ _ _ v k b
          (e.3 ∙ (ap (λ m. (m, (k, b) ∷ rest c.load-shown.new.seat.me.1)) l.2.2 ∙ ap (λ r. (v, (k, b) ∷ rest r)) (l.2.1 ∙ i.5.1)))
          i.0 i.1 i.4
          (ap (λ z. length z.bytes.items) c.replace-buffer.ensures.value ∙ i.2)
          (l.2.6 c.if-shown-lt4.false),
    )

pub exchange-requires : goal.exchange-requires
exchange-requires g c =
    let e = c.swap-found.ensures in
    let got = e.2.2 in
    (e.0 ∙ (c.exchange-empty.ensures.0 ∙ (c.load-shown.ensures.0 ∙ taker_table c.taker.view_is c.self.view_is c.requires.own)), (e.2.1, got ∙ ap (λ l. (c.swap-found.result % 4, e.2.1) ∷ l) (sym (ap rest got))))

pub invariant_of-taker-2 : goal.invariant_of-taker-2
invariant_of-taker-2 g c =
    let i = c.taker.invariant in
    let l = c.load-shown.ensures in
    let e = c.exchange-empty.ensures in
    let f = c.swap-found.ensures in
    let h = c.exchange.ensures in
    let now = ap (λ m. m.0) h.3 ∙ f.2.6 in
    let was = ap (λ m. m.0) e.3 ∙ l.2.2 in (
      ap (λ (z : View _). z.takes) now ∙ (ap (λ (z : View _). z.takes) was ∙ i.0),
      ap (λ (z : View _). z.taker_out) now ∙ (ap (λ (z : View _). z.taker_out) was ∙ i.1),
      ap (λ z. length z.bytes.items) (same_value _ _ _ _ _ _ (sym h.2 ∙ f.2.2)) ∙ (f.2.3 ∙ sym (ap (λ (z : View _). z.size) now)),
      omega arith,
      sym (ap (λ (z : View _). z.taker_slot) now),
      (_, ap (λ m. m.1) h.3 ∙ ap (λ l. (c.swap-found.result % 4, c.exchange-empty.result) ∷ rest l) f.2.2),
      ap (λ (z : View _). z.owns) now ∙ (ap (λ (z : View _). z.owns) was ∙ i.6),
      ap (λ (z : View _). z.shown) now ∙ sym (ap (λ (z : View _). z.taken) now),
      f.2.5 ∙ ap store_number (sym (ap (λ (z : View _). z.shown) now)),
      c.next_look-looks.ensures ∙ (ap (λ (n : ℕ). counted (n + 1)) i.9 ∙ (counted_more _ ∙ ap counted (sym (ap (λ (z : View _). z.looks) now ∙ ap (λ (z : View _). z.looks) was)))),
    )

pub returns-clause-shows : goal.returns-clause-shows
returns-clause-shows g c =
    let now = ap (λ m. m.0) c.exchange.ensures.3 ∙ c.swap-found.ensures.2.6 in
    let was = ap (λ m. m.0) c.exchange-empty.ensures.3 ∙ c.load-shown.ensures.2.2 in
    let looked_at : ℕ = c.load-shown.ensures.2.0 in
    let newest : ℕ = c.swap-found.ensures.2.0 in (
      looked_at ∷ [],
      ap (λ (z : View _). z.all_shown) now ∙ ap (λ (z : View _). z.all_shown ++ newest ∷ []) was
          ∙ ap (λ (k : ℕ). (c.taker.inside.seat.me.0.all_shown ++ looked_at ∷ []) ++ k ∷ []) (sym (ap (λ (z : View _). z.shown) now))
          ∙ ap (λ (z : TakerValue _). (z.all_shown ++ looked_at ∷ []) ++ c.exchange.new.seat.me.0.shown ∷ []) c.taker.view_is,
    )
