use Rattle.std.proofs.Common.{◌≡◌, ◌≤◌, ◌<◌, ◌+◌, ◌*◌, length, ◌∙◌, sym, ap, arith}
use Rattle.fee_log.specs.Log.{LogState, pages_in}
use Rattle.fee_log.proofs.Loading.{load_stays, log_stays, page_here, end_now}
use Rattle.fee_log.proofs.log.Log.load_header.Goals as goal

pub returns-then-from-count-clause-load : goal.returns-then-from-count-clause-load
returns-then-from-count-clause-load c =
    load_stays c.args.self.now c.take_records.new.self c.args.load c.load_at.result c.take_records.ensures.same c.requires.load
    (rw (← c.self.view_is, ← c.bank_pages-pages.ensures.value) (c.load_at.ensures.next c.self.inside.geometry.page))

pub returns-then-from-count-clause-seen : goal.returns-then-from-count-clause-seen
returns-then-from-count-clause-seen c b own in_log pages on =
    let t = c.take_records.new.self in
    let here = log_stays c.args.self.now t b c.take_records.ensures.same in_log in
    let count : b.pages ≡ c.bank_pages-pages.result = here.pages ∙ sym (c.bank_pages-pages.ensures.value ∙ ap pages_in c.self.view_is) in
    record { first = c.take_records.ensures.taken b own in_log pages on.first; seen = rw (← c.self.view_is) (c.load_at.ensures.seen b own count) }

pub returns-clause-load : goal.returns-clause-load
returns-clause-load c =
    load_stays c.args.self.now c.take_records.new.self c.args.load c.header_seen.result c.take_records.ensures.same c.requires.load
    (rw (← c.self.view_is, ← c.bank_pages-pages.ensures.value) (c.header_seen.ensures.next c.self.inside.geometry.page c.bank_pages-pages.result c.if-pages-end.false))

pub returns-clause-seen : goal.returns-clause-seen
returns-clause-seen c b own in_log pages on =
    let s = c.args.self.now in
    let t = c.take_records.new.self in
    let same = c.take_records.ensures.same in
    let here = log_stays s t b same in_log in
    let end = ap (λ (x : LogState). x.end) c.self.view_is in
    let page = ap (λ (x : LogState). x.geometry.page) c.self.view_is in
    let format = ap (λ (x : LogState). x.format) c.self.view_is in
    let long : length c.args.bytes.now ≡ c.args.count * t.geometry.page = c.requires.size ∙ ap (λ (x : LogState). c.args.count * x.geometry.page) (sym same) in
    let low : c.args.from ≤ t.end = omega (arith, c.requires.from, c.take_records.ensures.further, end_now s c.args.load c.requires.load c.requires.awaited) in
    let high : t.end < c.args.from + c.args.count = omega (arith, end, c.if-from-count.false) in
    let is = page_here b own c.args.bytes.now c.args.from t.end c.args.count t here pages long low high in
    record {
      first = c.take_records.ensures.taken b own in_log pages on.first;
      seen = rw (← end) (c.header_seen.ensures.seen b own (here.page ∙ sym page ∙ sym c.page_of-page.ensures.size) (here.format ∙ sym format)
          (rw end (is ∙ rw (← page, ← end) (sym c.page_of-page.ensures.page))));
    }
