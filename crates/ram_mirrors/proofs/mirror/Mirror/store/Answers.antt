use Rattle.std.proofs.Common.{◌≡◌, ℕ, ◌+◌, ◌++◌, [], ◌∷◌, length, ◌*◌, ◌%◌, sym, ap, ◌∙◌, arith}
use Rattle.atomic_table.specs.Table.{rest}
use Rattle.ram_mirrors.specs.Ends.{OwnerValue}
use Rattle.ram_mirrors.specs.Stores.{stored_in, store_of, store_number}
use Rattle.ram_mirrors.specs.Exchange.{carried}
use Rattle.ram_mirrors.proofs.Exchanges.{stores_at, store_number_more, length_snoc, same_value, has_word, owner_table}
use Rattle.ram_mirrors.specs.declared.view.View.{View}
use Rattle.ram_mirrors.proofs.mirror.Mirror.store.Goals as goal

pub exchange-empty-requires : goal.exchange-empty-requires
exchange-empty-requires g c =
    let i = c.owner.invariant in
    let e = i.6.1 in
    (owner_table c.owner.view_is c.self.view_is c.requires.own, (i.6.0, e ∙ ap (λ l. (c.owner.inside.slot, i.6.0) ∷ l) (sym (ap rest e))))

pub swap-found-requires : goal.swap-found-requires
swap-found-requires g c =
    let i = c.owner.invariant in
    let e = c.exchange-empty.ensures in
    let v = c.owner.inside.seat.me.0 in
    let k : ℕ = c.owner.inside.slot in
    let b = c.replace-buffer.result in
    let is : stored_in b ≡ store_of c.args.content.now c.args.note = ap stored_in c.replace-buffer.ensures.value ∙ c.fill.ensures in (
      e.0 ∙ owner_table c.owner.view_is c.self.view_is c.requires.own,
      has_word c.self.invariant.0,
      stores_at stored_in _ _ _ _ v k b _
          (e.3 ∙ ap (λ l. (v, (k, b) ∷ rest l)) i.6.1)
          i.0 i.1 i.5
          (ap (λ s. length s.content) is ∙ (c.requires.whole ∙ (sym c.requires.own.1 ∙ ap (λ (z : OwnerValue _). z.size) (sym c.owner.view_is))))
          (ap (λ (n : ℕ). k + 4 + 8 * n) (c.next_number-next.ensures ∙ (ap (λ (n : ℕ). store_number (n + 1)) i.3 ∙ store_number_more (length v.stores)))),
    )

pub exchange-requires : goal.exchange-requires
exchange-requires g c = let e = c.swap-found.ensures in let f = c.exchange-empty.ensures in let got = e.2.1 in
    (e.0 ∙ (f.0 ∙ owner_table c.owner.view_is c.self.view_is c.requires.own), (e.2.0, got ∙ ap (λ l. (c.swap-found.result % 4, e.2.0) ∷ l) (sym (ap rest got))))

pub invariant_of-owner : goal.invariant_of-owner
invariant_of-owner g c =
    let i = c.owner.invariant in
    let e = c.exchange-empty.ensures in
    let f = c.swap-found.ensures in
    let h = c.exchange.ensures in
    let now = ap (λ m. m.0) h.3 ∙ f.2.3 in
    let was = ap (λ m. m.0) e.3 in
    let stores = ap (λ (z : View _). z.stores) now ∙ ap (λ (z : View _). z.stores ++ carried stored_in c.exchange-empty.new.seat.me.1 ∷ []) was in (
      ap (λ (z : View _). z.owns) now ∙ (ap (λ (z : View _). z.owns) was ∙ i.0),
      ap (λ (z : View _). z.owner_out) now ∙ (ap (λ (z : View _). z.owner_out) was ∙ i.1),
      ap (λ z. length z.bytes.items) (same_value _ _ _ _ _ _ (sym h.2 ∙ f.2.1)) ∙ (f.2.2 ∙ sym (ap (λ (z : View _). z.size) now)),
      c.next_number-next.ensures ∙ (ap (λ (n : ℕ). store_number (n + 1)) i.3 ∙ (store_number_more _ ∙ ap store_number (sym (ap length stores ∙ length_snoc _ _)))),
      omega arith,
      sym (ap (λ (z : View _). z.owner_slot) now),
      (_, ap (λ m. m.1) h.3 ∙ ap (λ l. (c.swap-found.result % 4, c.exchange-empty.result) ∷ rest l) f.2.1),
    )
