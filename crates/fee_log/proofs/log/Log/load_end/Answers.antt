use Rattle.std.proofs.Common.{◌∙◌, sym}
use Rattle.fee_log.proofs.Loading.{ended, ended_sound, all_seen}
use Rattle.fee_log.proofs.log.Log.load_end.Goals as goal

pub invariant_of-self : goal.invariant_of-self
invariant_of-self c = let t = c.tail_loaded-self-inside.ensures in ended_sound _ _ c.self.invariant t.format (t.tail _ _ _)

pub returns-clause-loaded : goal.returns-clause-loaded
returns-clause-loaded c b bytes in_log on =
    let all = all_seen c.args.self.now c.args.load c.in-Rest.blank c.requires.load c.in-Rest.is c.requires.all in
    let e = rw (← c.self.view_is) at (ended b bytes c.args.self.now c.args.load c.in-Rest.blank c.in-Rest.is (all ∙ sym in_log.pages) on) in
    record { places = e.places; end = e.end; tail = c.tail_loaded-self-inside.ensures.loaded b bytes (rw (← c.self.view_is) at in_log.format) e.blank }
