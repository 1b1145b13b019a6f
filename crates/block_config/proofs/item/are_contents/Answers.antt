use Rattle.std.proofs.Common.{arith, ◌∙◌, sym}
use Rattle.std.proofs.lemmas.Bool.Decides.{nat_tests}
use Rattle.std.proofs.lemmas.List.{length-map}
use Rattle.std.proofs.lemmas.List.Folds.{list_all-map}
use Rattle.serde_json.specs.View.{view}
use Rattle.block_config.specs.Item.{has_length, content_in}
use Rattle.block_config.proofs.item.are_contents.Goals as goal

pub returns-then-items-le16 : goal.returns-then-items-le16
returns-then-items-le16 c =
    let all = c.have_length.ensures ∙ sym (list_all-map (λ d. has_length c.args.length (content_in d)) view c.args.items.now) in
    rw length-map (grind (arith, nat_tests))
