use Rattle.std.proofs.Common.{[], refl, arith, sym, ◌∙◌, None}
use Rattle.block_machine.specs.Words.{Found}
use Rattle.block_machine.specs.Steps.{after}
use Rattle.nv_recorder.specs.FoundMarks.{found_in}
use Rattle.nv_desk.proofs.Entries.{pushed, entry_kept}
use Rattle.nv_desk.proofs.Dropping.{all_back, held_in, without_jobs}
use Rattle.nv_desk.proofs.Ready.{all_ready}
use Rattle.nv_desk.proofs.SoundDriver.{sound_found}
use Rattle.nv_desk.proofs.desk.Desk.start_up.Goals as goal

pub invariant_of-self : goal.invariant_of-self
invariant_of-self c =
    let d = c.self.inside in
    let s = after d.config d.history.entries in
    let marks = found_in c.args.found in
    let e = Found marks c.args.ops in
    let fits = rw (← c.self.view_is) at c.requires.fits in
    let room = c.self.invariant.place (rw (← c.self.view_is) at c.requires.prepared) in
    let held = c.drop_jobs.ensures s.waiting s.hand (held_in d c.self.invariant) in
    let begun = c.start_up.ensures (record s { waiting = []; hand = None }) (without_jobs d.config d.kept s c.drop_jobs.new.jobs c.drop_jobs.new.places c.self.invariant.agrees held) in
    entry_kept d c.add_found.new.self c.note_found.new.kept c.drop_jobs.new.places e 1 c.self.invariant
    (pushed d.history d.history c.add_found.new.self e 1 refl (omega (arith, room)) c.add_found.ensures.entries)
    (c.note_found.ensures (record s { waiting = []; hand = None }) begun)
    (sound_found d.config s marks c.args.ops)
    (omega arith)
    (omega (arith, fits))
    (record { count = held.count ∙ sym c.self.invariant.one_each; ready = all_ready d.config [] c.drop_jobs.new.places (all_back d.config c.drop_jobs.new.jobs c.drop_jobs.new.places held) })
