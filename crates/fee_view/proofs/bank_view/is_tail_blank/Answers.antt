use Rattle.std.proofs.Common.{refl}
use Rattle.fee_view.proofs.Tails.{tail_together}
use Rattle.fee_view.proofs.bank_view.is_tail_blank.Goals as goal

pub returns : goal.returns
returns c = tail_together c.args.page c.args.pages c.args.end c.args.bank.now _ c.all_are.result c.requires.inside c.requires.whole refl c.all_are.ensures.list
