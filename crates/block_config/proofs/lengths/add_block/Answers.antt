use Rattle.std.proofs.Common.{◌≡◌, ◌+◌, ◌*◌, ℕ, ap, append_assoc, arith, refl}
use Rattle.std.proofs.lemmas.List.FromFn.{map-range_with_len_more}
use Rattle.nv_base.specs.declared.instance.DeviceNumber.{DeviceNumber}
use Rattle.block_config.specs.Lengths.{length_at}
use Rattle.block_config.proofs.Numbering.{last_or-push}
use Rattle.block_config.proofs.lengths.add_block.Goals as goal

pub loop-index-preserved : goal.loop-index-preserved
loop-index-preserved c =
    let i = c.loop-index.index in
    let added = c.in_ok-add.ensures.ok in
    let more = map-range_with_len_more (length_at c.args.id c.args.block.now.length) 0 i i (omega arith) in
    let last = last_or-push 0 c.loop-index.lengths c.number_of.result c.args.block.now.length in
    let number : c.number_of.result ≡ record { 0 = c.args.id * 64 + i } = ap (λ (n : ℕ). let d : DeviceNumber = record { 0 = n } in d) c.number_of.ensures.value in
    (rw (more, added, c.loop-index.invariant.0, append_assoc, number) refl, rw (added, last, c.number_of.ensures.value) (omega arith))
