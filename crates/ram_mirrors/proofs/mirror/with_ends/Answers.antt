use Rattle.std.proofs.Common.{ap, sym, ◌∙◌}
use Rattle.ram_mirrors.specs.Stores.{stored_in}
use Rattle.ram_mirrors.specs.Ends.{MirrorValue}
use Rattle.ram_mirrors.proofs.Exchanges.{halves, has_word}
use Rattle.ram_mirrors.proofs.mirror.with_ends.Goals as goal

pub split_seat-other-requires : goal.split_seat-other-requires
split_seat-other-requires g c =
    let h = c.requires.seat in
    (h.0 ∙ sym (ap (λ (z : MirrorValue). z.table) c.mirror.view_is), has_word c.mirror.invariant.0, halves stored_in _ _ _ (ap (λ m. m.0.owns) h.1) (ap (λ m. m.0.takes) h.1))
