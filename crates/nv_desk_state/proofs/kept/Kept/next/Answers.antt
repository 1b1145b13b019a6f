use Rattle.std.proofs.Common.{refl, sym}
use Rattle.nv_desk_state.proofs.kept.Kept.next.Goals as goal

pub returns-in-Some : goal.returns-in-Some
returns-in-Some c s h = (c.in-Some._first.now, rw (sym (c.in-Some.ensures c.args.config.now s.waiting s.hand h.jobs)) refl)
