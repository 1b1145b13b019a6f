use Rattle.std.proofs.Common.{◌≡◌, ◌∙◌, sym}
use Rattle.fee_log.specs.Load.{load_begun}
use Rattle.fee_log.proofs.Loading.{begun_load, begun_loading}
use Rattle.fee_log.proofs.log.Log.load_start.Goals as goal

pub returns-clause-load : goal.returns-clause-load
returns-clause-load c =
    let same : c.load_format.new.self ≡ load_begun c.args.self.now c.args.bank c.args.format = rw c.move_to.ensures at c.load_format.ensures in
    begun_load c.args.self.now c.load_format.new.self c.args.bank c.args.format c.load_at.result c.requires.format same (λ p. rw (← c.self.view_is, ← c.bank_pages.ensures.value) (c.load_at.ensures.next p))

pub returns-clause-begins : goal.returns-clause-begins
returns-clause-begins c b bytes in_log =
    let same : c.load_format.new.self ≡ load_begun c.args.self.now c.args.bank c.args.format = rw c.move_to.ensures at c.load_format.ensures in
    let pages = rw (← c.self.view_is) at in_log.pages in
    begun_loading c.args.self.now c.load_format.new.self c.args.bank c.args.format c.load_at.result b bytes same (c.load_at.ensures.seen b bytes (pages ∙ sym c.bank_pages.ensures.value))
