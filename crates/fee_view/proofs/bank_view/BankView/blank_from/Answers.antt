use Rattle.std.proofs.Common.{◌↔◌, IsTrue, subst}
use Rattle.fee_image.specs.RecordList.{IsTailBlank}
use Rattle.fee_view.specs.View.{View, bank_of}
use Rattle.fee_view.proofs.bank_view.BankView.blank_from.Goals as goal

pub returns : goal.returns
returns c = subst (λ (v : View). IsTrue c.is_tail_blank.result ↔ IsTailBlank (bank_of v) v.bytes c.args.page) c.self.view_is c.is_tail_blank.ensures
