use Rattle.std.proofs.Common.{◌≡◌, ◌∙◌, sym, ap, subst, arith}
use Rattle.fee_format.specs.Formats.{IsFormat}
use Rattle.fee_log.specs.Load.{HasTaken}
use Rattle.fee_log.specs.Log.{LogState, pages_in}
use Rattle.fee_log.proofs.Loading.{commit_next, commit_stands, record_taken}
use Rattle.fee_log.proofs.log.Log.load_commit.Goals as goal

pub take_record-requires : goal.take_record-requires
take_record-requires c =
    let next = commit_next c.args.self.now c.args.load c.args.head c.requires.load c.requires.awaited in
    record { closed = c.requires.load.tail; legal = next.2; inside = omega (arith, next.0, next.1) }

pub returns-clause-load : goal.returns-clause-load
returns-clause-load c = record {
  tail = ap (λ (s : LogState). s.tail) c.take_record.ensures ∙ c.requires.load.tail;
  format = subst IsFormat (sym (ap (λ (s : LogState). s.format) c.take_record.ensures)) c.requires.load.format;
  next = rw (← c.self.view_is, ← c.bank_pages.ensures.value) (c.load_at.ensures.next c.self.inside.geometry.page);
}

pub returns-clause-seen : goal.returns-clause-seen
returns-clause-seen c b bytes in_log is on =
    let s = c.args.self.now in
    let committed = c.gate_stands-committed.result in
    let next = commit_next s c.args.load c.args.head c.requires.load c.requires.awaited in
    let stands = commit_stands b bytes s c.args.load c.args.head committed c.args.page.now in_log.page c.requires.page is c.gate_stands-committed.ensures c.requires.awaited next.0 on.seen in
    let pages : b.pages ≡ c.bank_pages.result = in_log.pages ∙ sym (c.bank_pages.ensures.value ∙ ap pages_in (c.self.view_is ∙ c.take_record.ensures)) in
    record {
      first = subst (HasTaken b bytes) (sym c.take_record.ensures) (record_taken b bytes s (record { head = c.args.head; committed = committed }) in_log.page stands on.first);
      seen = rw (← c.self.view_is) (c.load_at.ensures.seen b bytes pages);
    }
