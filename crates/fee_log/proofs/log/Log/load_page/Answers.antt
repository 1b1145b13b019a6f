use Rattle.std.proofs.Common.{◌∙◌, sym, ap, subst}
use Rattle.fee_format.specs.Formats.{IsFormat}
use Rattle.fee_image.specs.Bank.{page_of}
use Rattle.fee_log.specs.Load.{IsNext, IsSeen}
use Rattle.fee_log.specs.Log.{LogState, pages_in}
use Rattle.fee_log.proofs.Loading.{page_here}
use Rattle.fee_log.proofs.log.Log.load_page.Goals as goal

pub returns-in-Gate-clause-seen : goal.returns-in-Gate-clause-seen
returns-in-Gate-clause-seen c b own in_log pages on =
    let s = c.args.self.now in
    let next = subst (IsNext s.geometry.page (pages_in s) s.end c.args.load.next) c.in-Gate.is c.requires.load.next in
    let seen = subst (IsSeen b own s.end c.args.load.next) c.in-Gate.is on.seen in
    let end = ap (λ (x : LogState). x.end) c.self.view_is in
    let page = ap (λ (x : LogState). x.geometry.page) c.self.view_is in
    let here = page_here b own c.args.bytes.now c.args.from c.args.load.next c.args.count s in_log pages c.requires.size c.requires.from c.requires.to in
    record {
      first = on.first;
      seen = rw (← end) (c.gate_seen.ensures.seen b own (subst IsFormat (sym in_log.format) c.requires.load.format) (in_log.page ∙ sym page ∙ sym c.page_of-page.ensures.size)
          (in_log.pages ∙ sym (c.bank_pages-pages.ensures.value ∙ ap pages_in c.self.view_is))
          (ap (page_of b own) (sym (rw (← end) at next.0)) ∙ here ∙ rw (← page) (sym c.page_of-page.ensures.page)) (rw (← end) at seen));
    }

pub returns-in-Commit-clause-seen : goal.returns-in-Commit-clause-seen
returns-in-Commit-clause-seen c b own in_log pages on =
    let page = ap (λ (x : LogState). x.geometry.page) c.self.view_is in
    let here = page_here b own c.args.bytes.now c.args.from c.args.load.next c.args.count c.args.self.now in_log pages c.requires.size c.requires.from c.requires.to in
    c.load_commit.ensures.seen b own in_log (here ∙ rw (← page) (sym c.page_of-page.ensures.page)) on
