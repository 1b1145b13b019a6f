use Rattle.std.proofs.Common.{◌∙◌, sym}
use Rattle.std.proofs.lemmas.List.{take_rest}
use Rattle.block_config.proofs.Contents.{length-content_of-plain, length-content_of-run}
use Rattle.block_config.proofs.content.content_len.Goals as goal

pub returns-then-is_plain : goal.returns-then-is_plain
returns-then-is_plain c =
    let count = rw take_rest at c.count_of.ensures.value in
    count ∙ length-content_of-run c.args.text.now (sym c.if-is_parted.ensures) (sym c.if-is_plain.ensures)

pub returns-then-is_plain-2 : goal.returns-then-is_plain-2
returns-then-is_plain-2 c = length-content_of-plain c.args.text.now (sym c.if-is_parted.ensures) (sym c.if-is_plain-2.ensures)
