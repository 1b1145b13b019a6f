use Rattle.std.proofs.Common.{◌≡◌, ◌≤◌, ◌+◌, ◌*◌, ℕ, length, ◌∙◌, sym, ap, subst, arith}
use Rattle.fee_log.specs.Load.{with_record}
use Rattle.fee_log.specs.Log.{LogState, pages_in}
use Rattle.fee_log.proofs.Loading.{StandsIn, log_stays, piece_taken, record_same}
use Rattle.fee_log.proofs.log.Log.take_records.Goals as goal

pub loop-seen-preserved : goal.loop-seen-preserved
loop-seen-preserved c =
    let i = c.loop-seen.invariant in
    let s = c.loop-seen.self in
    let t = c.take_record.new.self in
    let seen = c.in-Some.seen in
    let is : t ≡ with_record s seen.head seen.committed = c.take_record.ensures in
    let end = ap (λ (x : LogState). x.end) is in
    let stands : StandsIn s c.args.bytes.now c.args.from c.args.count seen = subst (λ (x : LogState). StandsIn x c.args.bytes.now c.args.from c.args.count seen) c.self.view_is c.in-Some.ensures in
    let low : c.args.from ≤ s.end = omega (arith, i.further, c.requires.from) in
    let long : length c.args.bytes.now ≡ c.args.count * s.geometry.page = c.requires.size ∙ ap (λ (x : LogState). c.args.count * x.geometry.page) (sym i.same) in
    let inside : c.args.from + c.args.count ≤ pages_in s = subst (λ (n : ℕ). c.args.from + c.args.count ≤ n) (sym (ap pages_in i.same)) c.requires.inside in
    record {
      same = record_same s t seen.head seen.committed is ∙ ap (λ (x : LogState). record x { places = t.places; end = t.end }) i.same;
      further = omega (arith, i.further, end);
      to = omega (arith, end, low, stands.head.within);
      taken = λ b own in_log pages was.
          piece_taken b own c.args.bytes.now c.args.from c.args.count s t seen (log_stays c.args.self.now s b i.same in_log) pages long low inside stands is
          (i.taken b own in_log pages was);
    }
