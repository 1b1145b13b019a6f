use Rattle.std.proofs.Common.{◌≡◌, ◌≤◌, ◌+◌, ℕ, ◌∙◌, sym, ap, subst, arith}
use Rattle.fee_log.specs.Load.{IsNext}
use Rattle.fee_log.specs.Log.{LogState, pages_in}
use Rattle.fee_log.proofs.Loading.{log_stays, end_before}
use Rattle.fee_log.proofs.log.Log.load_pages.Goals as goal

pub loop-load-preserved : goal.loop-load-preserved
loop-load-preserved c =
    let i = c.loop-load.invariant in
    let p = c.load_page-load.ensures in
    record {
      same = p.same ∙ ap (λ (s : LogState). record s { places = c.load_page-load.new.self.places; end = c.load_page-load.new.self.end }) i.same;
      load = p.load;
      from = omega (arith, i.from, p.further);
      seen = λ b own in_log pages was. p.seen b own (log_stays c.args.self.now c.loop-load.self b i.same in_log) pages (i.seen b own in_log pages was);
    }

pub returns-clause-load : goal.returns-clause-load
returns-clause-load c =
    let i = c.loop-load.invariant in
    let s = c.loop-load.self in
    let size : c.self.inside.geometry.page ≡ s.geometry.page = ap (λ (x : LogState). x.geometry.page) c.self.view_is ∙ sym (ap (λ (x : LogState). x.geometry.page) i.same) in
    let inside : c.args.from + c.args.count ≤ pages_in s = subst (λ (n : ℕ). c.args.from + c.args.count ≤ n) (sym (ap pages_in i.same)) c.requires.inside in
    let to = c.rest_seen.ensures.next (pages_in s) s.end inside (subst (λ (n : ℕ). IsNext n (pages_in s) s.end c.loop-load.load.next c.loop-load.load.awaited) (sym size) i.load.next) in
    record { tail = i.load.tail; format = i.load.format; next = subst (λ (n : ℕ). IsNext n (pages_in s) s.end c.rest_seen.result.next c.rest_seen.result.awaited) size to }

pub returns-clause-seen : goal.returns-clause-seen
returns-clause-seen c b own in_log pages was =
    let i = c.loop-load.invariant in
    let on = i.seen b own in_log pages was in
    let size : c.self.inside.geometry.page ≡ c.args.self.now.geometry.page = ap (λ (s : LogState). s.geometry.page) c.self.view_is in
    record { first = on.first; seen = c.rest_seen.ensures.seen b own c.loop-load.self.end (in_log.page ∙ sym size) (end_before _ _ _ _ _ i.load.next) pages on.seen }
