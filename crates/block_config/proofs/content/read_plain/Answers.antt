use Rattle.std.proofs.Common.{arith, sym, ap, Bool, Some, None, if◌then◌else◌, ◌∙◌}
use Rattle.std.proofs.lemmas.List.{take_at}
use Rattle.block_config.proofs.Contents.{plain_of-decoded}
use Rattle.block_config.proofs.content.read_plain.Goals as goal

pub returns : goal.returns
returns c =
    let read = c.read_digits.ensures ∙ ap (λ (b : Bool). if b then Some c.read_digits.new.bytes else None) c.if-not-read_digits.false in
    ap Some (c.from_vec.ensures ∙ take_at c.read_digits.new.bytes _ _ (omega arith)) ∙ sym (plain_of-decoded c.args.text.now _ (omega arith) (omega arith) read)
