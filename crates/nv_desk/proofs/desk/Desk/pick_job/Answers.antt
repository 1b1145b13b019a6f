use Rattle.std.proofs.Common.{◌≡◌, ◌∙◌, ℕ, List, [], ◌∷◌, ◌++◌, sym, ap, subst, refl, option_copied, Some}
use Rattle.block_machine.specs.Words.{Pick}
use Rattle.block_machine.specs.State.{Job}
use Rattle.block_machine.specs.Blocks.{job_block, kind_of}
use Rattle.block_machine.specs.Next.{next_in}
use Rattle.block_machine.specs.Steps.{after}
use Rattle.block_laws.proofs.HistoryLaws.{entries_are_counted}
use Rattle.job_pending.specs.declared.take.Take.{Take}
use Rattle.job_pending.specs.Take.{taken_with}
use Rattle.nv_recorder.specs.Event.{taken_of}
use Rattle.nv_desk.specs.Desk.{DeskState, shown, state_of}
use Rattle.nv_desk.specs.Picks.{MayPickNext, lent_or, next_ram, own_first, took_of}
use Rattle.nv_desk.proofs.Drivers.{allowed_kept}
use Rattle.nv_desk.proofs.Ready.{copy_fits}
use Rattle.nv_desk.proofs.Picks.{entry_of, hand_free, job_pick, lent_next, own_next, pick_places, pick_room, pick_step, picked_sound, ready, some_is, takes_own, whole_own}
use Rattle.nv_desk.proofs.desk.Desk.pick_job.Goals as goal

pub copy_of-copy-requires : goal.copy_of-copy-requires
copy_of-copy-requires c =
    let d = c.self.inside in
    let lent = lent_or (next_ram (shown d)) (option_copied c.args.lent) in
    let may = subst (λ (x : DeskState). MayPickNext x (took_of c.args.take (lent_or (next_ram x) (option_copied c.args.lent))) c.args.ops) (sym c.self.view_is) c.requires in
    let p = job_pick d _ c.args.ops c.self.invariant c.fills_its_rooms.ensures may in
    let same = some_is c.in-Some.next.now may.job (c.in-Some.ensures d.config _ _ c.self.invariant.agrees.jobs ∙ may.is) in
    let is_lent : c.lent_or-lent.result.now ≡ lent = c.lent_or-lent.ensures
    ∙ lent_next d may.job c.block-block.result c.ram.result.now (option_copied c.args.lent) c.self.invariant may.is (c.block-block.ensures ∙ ap job_block same) c.ram.ensures.value in
    rw (is_lent, c.own_first-take.ensures, c.block-block.ensures, same)
    (copy_fits d.config d.places (job_block may.job) c.args.take lent may.job.content p.place
    (whole_own d c.args.take lent may.job (own_next d c.args.take lent c.args.ops may may.job may.is) p.whole))

pub pick-requires : goal.pick-requires
pick-requires c =
    let d = c.self.inside in
    let s = after d.config d.history.entries in
    let may = subst (λ (x : DeskState). MayPickNext x (took_of c.args.take (lent_or (next_ram x) (option_copied c.args.lent))) c.args.ops) (sym c.self.view_is) c.requires in
    pick_room d.config s d.kept.jobs may.job _ d.history.cap c.self.invariant.agrees.jobs (ready d.config s may.job c.self.invariant.sound may.is)
    (entries_are_counted d.config d.history.entries) c.self.invariant.fits c.self.invariant.within

pub add_pick-requires : goal.add_pick-requires
add_pick-requires c =
    let d = c.self.inside in
    let lent = lent_or (next_ram (shown d)) (option_copied c.args.lent) in
    let may = subst (λ (x : DeskState). MayPickNext x (took_of c.args.take (lent_or (next_ram x) (option_copied c.args.lent))) c.args.ops) (sym c.self.view_is) c.requires in
    let p = job_pick d _ c.args.ops c.self.invariant c.fills_its_rooms.ensures may in
    let same = some_is c.in-Some.next.now may.job (c.in-Some.ensures d.config _ _ c.self.invariant.agrees.jobs ∙ may.is) in
    let is_lent : c.lent_or-lent.result.now ≡ lent = c.lent_or-lent.ensures
    ∙ lent_next d may.job c.block-block.result c.ram.result.now (option_copied c.args.lent) c.self.invariant may.is (c.block-block.ensures ∙ ap job_block same) c.ram.ensures.value in
    record {
      place = p.room.place;
      fits = c.taken_of-taken.ensures.fits d.history.longest (rw (is_lent, c.own_first-take.ensures, same) (takes_own d c.args.take lent may.job p.takes));
    }

pub invariant_of-self : goal.invariant_of-self
invariant_of-self c =
    let d = c.self.inside in
    let s = after d.config d.history.entries in
    let may = subst (λ (x : DeskState). MayPickNext x (took_of c.args.take (lent_or (next_ram x) (option_copied c.args.lent))) c.args.ops) (sym c.self.view_is) c.requires in
    let p = job_pick d _ c.args.ops c.self.invariant c.fills_its_rooms.ensures may in
    let x = c.in-Some.next.now in
    let same = some_is x may.job (c.in-Some.ensures d.config s.waiting s.hand c.self.invariant.agrees.jobs ∙ may.is) in
    let lent = lent_or (next_ram (shown d)) (option_copied c.args.lent) in
    let is_lent : c.lent_or-lent.result.now ≡ lent = c.lent_or-lent.ensures
    ∙ lent_next d may.job c.block-block.result c.ram.result.now (option_copied c.args.lent) c.self.invariant may.is (c.block-block.ensures ∙ ap job_block same) c.ram.ensures.value in
    let took = took_of c.args.take lent in
    let taken = taken_with may.job.content took in
    let one = own_next d c.args.take lent c.args.ops may may.job may.is in
    let own : c.own_first-take.result ≡ own_first c.args.take may.job.content = c.own_first-take.ensures ∙ ap (λ (y : Job). own_first c.args.take y.content) same in
    let takes : taken_of c.taken_of-taken.result.0 (option_copied c.taken_of-taken.result.1) ≡ taken_with x.content took = c.taken_of-taken.ensures.taken
    ∙ ap (λ (l : List ℕ). taken_with x.content (took_of c.own_first-take.result l)) is_lent
    ∙ ap (λ (u : Take). taken_with x.content (took_of u lent)) c.own_first-take.ensures
    ∙ subst (λ (y : Job). taken_with y.content (took_of (own_first c.args.take y.content) lent) ≡ taken_with y.content took) (sym same) one in
    allowed_kept d _ _ _ (Pick (job_block may.job) (kind_of may.job) taken c.args.ops) c.self.invariant may.allowed refl
    (picked_sound d.config s may.job (job_block may.job) (kind_of may.job) took c.args.ops c.self.invariant.sound may.is p.ready p.whole)
    (entry_of _ _ _ _ _ x may.job took c.args.ops c.block-block.ensures c.kind-job.ensures takes same c.add_pick.ensures)
    (pick_step d.config c.pick.new.self s may.job (job_block may.job) (kind_of may.job) taken c.args.ops may.is
    (rw (c.copy_of-copy.ensures.copy, is_lent, own, one) at (c.pick.ensures s may.job c.self.invariant.agrees may.is (hand_free d.config d.history.cap s may.job (job_block may.job) (kind_of may.job) taken c.args.ops may.is may.allowed))))
    (pick_places d c.copy_of-copy.new.places (job_block may.job) (kind_of may.job) c.args.take c.own_first-take.result lent c.args.ops c.block-block.result x may.job
    c.self.invariant may.is same c.own_first-take.ensures c.block-block.ensures one (rw is_lent at c.copy_of-copy.ensures.places))

pub returns : goal.returns
returns c =
    let new : DeskState = record { config = c.self.inside.config; cap = c.add_pick.new.history.cap; entries = c.add_pick.new.history.entries; prepared = c.self.inside.prepared } in
    subst (λ (y : DeskState). (j : Job) → next_in y.config (state_of y).waiting ≡ Some j
    → new ≡ record y { entries = y.entries ++ Pick (job_block j) (kind_of j) (taken_with j.content (took_of c.args.take (lent_or (next_ram y) (option_copied c.args.lent)))) c.args.ops ∷ [] }) c.self.view_is (λ j next.
    let d = c.self.inside in
    let s = after d.config d.history.entries in
    let may = subst (λ (x : DeskState). MayPickNext x (took_of c.args.take (lent_or (next_ram x) (option_copied c.args.lent))) c.args.ops) (sym c.self.view_is) c.requires in
    let x = c.in-Some.next.now in
    let lent = lent_or (next_ram (shown d)) (option_copied c.args.lent) in
    let is = c.in-Some.ensures d.config s.waiting s.hand c.self.invariant.agrees.jobs in
    let is_lent : c.lent_or-lent.result.now ≡ lent = c.lent_or-lent.ensures
    ∙ lent_next d x c.block-block.result c.ram.result.now (option_copied c.args.lent) c.self.invariant (sym is) c.block-block.ensures c.ram.ensures.value in
    let takes : taken_of c.taken_of-taken.result.0 (option_copied c.taken_of-taken.result.1) ≡ taken_with x.content (took_of c.args.take lent) = c.taken_of-taken.ensures.taken
    ∙ ap (λ (l : List ℕ). taken_with x.content (took_of c.own_first-take.result l)) is_lent
    ∙ ap (λ (u : Take). taken_with x.content (took_of u lent)) c.own_first-take.ensures
    ∙ own_next d c.args.take lent c.args.ops may x (sym is) in
    rw (entry_of _ _ _ _ _ x j (took_of c.args.take lent) c.args.ops c.block-block.ensures c.kind-job.ensures takes (some_is x j (is ∙ next)) c.add_pick.ensures) refl)

pub returns-in_default : goal.returns-in_default
returns-in_default c = rw (← c.self.view_is) (λ j next.
    let none = c.in_default.ensures c.self.inside.config _ _ c.self.invariant.agrees.jobs ∙ next in
    cc)
