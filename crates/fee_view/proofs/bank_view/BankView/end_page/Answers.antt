use Rattle.std.proofs.Common.{◌≡◌, List, sym, ap, ◌∙◌, subst, arith}
use Rattle.fee_image.specs.RecordList.{Rec, end_after, end_of}
use Rattle.fee_view.specs.View.{View, own_bank, bank_of}
use Rattle.fee_image.proofs.Records.{lists_unfold}
use Rattle.fee_view.proofs.bank_view.BankView.end_page.Goals as goal

pub loop-seen-preserved : goal.loop-seen-preserved
loop-seen-preserved c =
    let i = c.self.inside in
    let b = own_bank i.page i.pages i.head.format in
    let at = c.loop-seen.at in
    let first = (lists_unfold b i.bytes.now at).first _ c.in-Some.ensures in
    record {
      ends = rw c.pages_of-at.ensures (sym (ap (λ (l : List Rec). end_after i.page at l) first) ∙ c.loop-seen.invariant.ends);
      low = omega (arith, c.loop-seen.invariant.low);
      high = omega (arith, c.pages_of-at.ensures, c.in-Some.ensures.head.within);
    }

pub returns-clause-end : goal.returns-clause-end
returns-clause-end c =
    let i = c.self.inside in
    let b = own_bank i.page i.pages i.head.format in
    let at = c.loop-seen.at in
    let none = (lists_unfold b i.bytes.now at).none c.in_default.ensures in
    subst (λ (v : View). at ≡ end_of (bank_of v) v.bytes) c.self.view_is (sym (ap (λ (l : List Rec). end_after i.page at l) none) ∙ c.loop-seen.invariant.ends)
