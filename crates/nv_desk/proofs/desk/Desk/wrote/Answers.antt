use Rattle.std.proofs.Common.{◌≡◌, ◌≤◌, ◌<◌, ◌∙◌, ap, arith, refl, IfSome, length, unwrap_or, option_copied}
use Rattle.std.specs.Option.{option_and_then}
use Rattle.block_machine.specs.Words.{Mark, Wrote, Erased}
use Rattle.block_machine.specs.Blocks.{mark_of}
use Rattle.block_machine.specs.Steps.{after}
use Rattle.nv_recorder.specs.Event.{mark_of as mark_with}
use Rattle.nv_desk.specs.Driver.{mark_now}
use Rattle.nv_desk.specs.Rooms.{with_entry}
use Rattle.nv_desk.proofs.Drivers.{room_to_write, allowed_kept, writing, few_records, content_fits, content_noted, in_hand, wrote_step}
use Rattle.nv_desk.proofs.Ready.{wrote_ready}
use Rattle.nv_desk.proofs.SoundDriver.{sound_wrote}
use Rattle.nv_desk.proofs.desk.Desk.wrote.Goals as goal

pub note-requires : goal.note-requires
note-requires c =
    let d = c.self.inside in
    let s = after d.config d.history.entries in
    let may = rw (← c.self.view_is) at c.requires in
    let w = writing d c.args.instance c.args.ops may in
    let longest = d.history.longest in
    record {
      place = (room_to_write d c.args.instance c.args.ops c.self.invariant may).place;
      fits = content_noted longest d.kept.jobs.hand _
          (in_hand (λ h. IfSome h.content (λ x. length x.0 ≤ longest)) d.kept.jobs.hand s.hand w.job c.self.invariant.agrees.jobs.hand w.is
          (content_fits d.config s longest w.job c.self.invariant.sound w.is c.self.invariant.longest)) c.mark_in_hand-mark.ensures.content;
    }

pub wrote-requires : goal.wrote-requires
wrote-requires c =
    let d = c.self.inside in
    let s = after d.config d.history.entries in
    let w = writing d c.args.instance c.args.ops (rw (← c.self.view_is) at c.requires) in
    in_hand (λ h. length h.written < 2) d.kept.jobs.hand s.hand w.job c.self.invariant.agrees.jobs.hand w.is
    (omega (arith, w.wrote.left, few_records d.config w.job))

pub invariant_of-self : goal.invariant_of-self
invariant_of-self c =
    let d = c.self.inside in
    let s = after d.config d.history.entries in
    let may = rw (← c.self.view_is) at c.requires in
    let w = writing d c.args.instance c.args.ops may in
    let mark : mark_with c.mark_in_hand-mark.result.0 (option_copied c.mark_in_hand-mark.result.1) ≡ mark_now s = c.mark_in_hand-mark.ensures.mark
    ∙ ap (λ o. unwrap_or (option_and_then mark_of o) Erased) c.self.invariant.agrees.jobs.hand in
    allowed_kept d _ _ d.places (Wrote c.args.instance (mark_now s) c.args.ops) c.self.invariant may.allowed refl
    (sound_wrote d.config s c.args.instance (mark_now s) c.args.ops c.self.invariant.sound)
    (c.note.ensures ∙ ap (λ (m : Mark). with_entry d.history (Wrote c.args.instance m c.args.ops)) mark)
    (wrote_step d.config c.wrote.new.self s c.args.instance (mark_now s) c.args.ops w.job w.is
    (c.wrote.ensures d.config s w.job c.args.instance (mark_now s) c.self.invariant.agrees w.is refl))
    (record { count = refl; ready = wrote_ready d.config s c.args.instance (mark_now s) d.places s.hand refl c.self.invariant.ready })

pub returns : goal.returns
returns c =
    let d = c.self.inside in
    let s = after d.config d.history.entries in
    let mark : mark_with c.mark_in_hand-mark.result.0 (option_copied c.mark_in_hand-mark.result.1) ≡ mark_now s = c.mark_in_hand-mark.ensures.mark
    ∙ ap (λ o. unwrap_or (option_and_then mark_of o) Erased) c.self.invariant.agrees.jobs.hand in
    rw (← c.self.view_is, c.note.ensures ∙ ap (λ (m : Mark). with_entry d.history (Wrote c.args.instance m c.args.ops)) mark) refl
