use Rattle.std.proofs.Common.{ap, ◌∙◌, length}
use Rattle.std.proofs.lemmas.List.{length-append}
use Rattle.memif.proofs.PlainCalls.{starts_up}
use Rattle.memif.proofs.plain_store.PlainStoreMemDevice.start.Goals as goal

pub returns-clause-start : goal.returns-clause-start
returns-clause-start c =
    rw (← c.self.view_is, c.leave_no_doubt.ensures) (starts_up c.self.inside.numbers c.self.inside.kept.items _ c.self.inside.job c.self.inside.last c.self.inside.given _ (ap length c.with-self-inside.ensures ∙ length-append _ _))
