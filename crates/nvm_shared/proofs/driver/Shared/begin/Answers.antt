use Rattle.std.specs.Prelude.{◌<◌, IfSome, option_map}
use Rattle.std.proofs.Common.{◌≡◌, ℕ, true, List, ◌++◌, length, Option, Some, sym, ap, subst, ◌∙◌}
use Rattle.turn_gate.specs.Pass.{knows}
use Rattle.nvm_core.specs.nv_desk_copies.Front.{AreSynchronized}
use Rattle.nvm_core.specs.nv_desk.Desk.{DeskState, state_of}
use Rattle.nvm_core.specs.nvm_laws.Ties.{IsTied}
use Rattle.nvm_core.specs.nvm_laws.Keeps.{StackKeepsAsTold, StaysKept}
use Rattle.nvm_core.specs.nvm_laws.DueLaws.{NextIsPending}
use Rattle.nvm_core.proofs.Taking.{waits}
use Rattle.nvm_core.proofs.DueHalves.{first_halves_serve}
use Rattle.nvm_core.proofs.Keeping.{stays_more}
use Rattle.nvm_shared.specs.Behind.{HandIsPending, with_more}
use Rattle.nvm_core.specs.Stack.{stack_with}
use Rattle.nvm_core.specs.Turns.{IsFirstHalf}
use Rattle.nvm_core.proofs.TurnsMade.{half_adds}
use Rattle.nvm_shared.specs.declared.terms.Terms.{Terms}
use Rattle.nvm_core.specs.block_machine.Words.{Entry, Pick}
use Rattle.nvm_core.specs.block_machine.State.{Job}
use Rattle.nvm_core.specs.block_machine.Blocks.{asked_store, desc_of, job_block}
use Rattle.nvm_core.specs.block_machine.Next.{next_in}
use Rattle.nvm_core.specs.ram_blocks.Told.{Told}
use Rattle.nvm_shared.specs.Locked.{desk_with}
use Rattle.nvm_shared.specs.Noted.{GoOn, PickIsShown, SeesBlock}
use Rattle.nvm_shared.specs.Driving.{BeginsTurn, driver_of}
use Rattle.nvm_shared.proofs.Turning.{Enters, desk_behind, extended, left}
use Rattle.nvm_shared.proofs.Writing.{half_writes}
use Rattle.nvm_shared.proofs.Halves.{fits, stands}
use Rattle.nvm_shared.proofs.Serving.{begins_served}
use Rattle.nvm_shared.proofs.Seeing.{half_on}
use Rattle.nvm_shared.proofs.PicksShown.{Holds, Sees, pick_shown}
use Rattle.nvm_shared.proofs.driver.Shared.begin.Goals as goal

pub first_half-act-requires-clause-tied : goal.first_half-act-requires-clause-tied
first_half-act-requires-clause-tied g c =
    let e = c.enter-value.ensures in
    (stands g.D.MemDevice.told g.D.MemDevice.clock g.C.SyncCalls.told c.args.self.now.terms (knows c.args.pass.now) (knows c.enter-value.new.pass) c.enter-value.result
    (record { own = c.requires.driver.own.root; root = e.root; seen = e.seen; starts = e.starts; agree = e.agree; mark = c.requires.driver.mark; open_now = e.open; kin = e.same; alone = e.alone; written = c.len-number.ensures.written })
    c.args.driver.now c.requires.driver.drives).stands.tied

pub first_half-act-requires-clause-fits : goal.first_half-act-requires-clause-fits
first_half-act-requires-clause-fits g c =
    let e = c.enter-value.ensures in
    fits g.D.MemDevice.told g.D.MemDevice.clock g.C.SyncCalls.told c.args.self.now.terms (knows c.args.pass.now) (knows c.enter-value.new.pass) c.enter-value.result
    (record { own = c.requires.driver.own.root; root = e.root; seen = e.seen; starts = e.starts; agree = e.agree; mark = c.requires.driver.mark; open_now = e.open; kin = e.same; alone = e.alone; written = c.len-number.ensures.written })
    c.args.driver.now c.requires.driver.drives c.requires.telling

pub first_half-act-requires-clause-synchronized : goal.first_half-act-requires-clause-synchronized
first_half-act-requires-clause-synchronized g c =
    let e = c.enter-value.ensures in
    let told = g.D.MemDevice.told in
    let clocks = g.D.MemDevice.clock in
    let copies = g.C.SyncCalls.told in
    let now = c.args.driver.now in
    let t = c.args.self.now.terms in
    let v = knows c.args.pass.now in
    let u = knows c.enter-value.new.pass in
    let x = c.enter-value.result in
    let enters : Enters t v u x = record { own = c.requires.driver.own.root; root = e.root; seen = e.seen; starts = e.starts; agree = e.agree; mark = c.requires.driver.mark; open_now = e.open; kin = e.same; alone = e.alone; written = c.len-number.ensures.written } in
    subst (λ (l : List Told). AreSynchronized x.desk.config l) (sym c.see_asked.ensures.goes_on.same)
    (subst (λ (s : Terms). AreSynchronized s.config (copies now.copies)) (sym (stands told clocks copies t v u x enters now c.requires.driver.drives).terms)
    c.requires.driver.drives.synchronized)

pub leave-requires-clause-adds : goal.leave-requires-clause-adds
leave-requires-clause-adds g c =
    let t = c.args.self.now.terms in
    let v = knows c.args.pass.now in
    let u = knows c.enter-value.new.pass in
    let x = c.enter-value.result in
    let e = c.enter-value.ensures in
    let enters : Enters t v u x = record { own = c.requires.driver.own.root; root = e.root; seen = e.seen; starts = e.starts; agree = e.agree; mark = c.requires.driver.mark; open_now = e.open; kin = e.same; alone = e.alone; written = c.len-number.ensures.written } in
    let new = c.first_half-act.new.self in
    extended t v u (knows c.hold_picked.new.pass) x new x.tells enters c.hold_picked.ensures.informed (half_writes x.tells c.first_half-act.result _ _ x.desk new.desk _ _ _ c.first_half-act.ensures.half.half
    (fits g.D.MemDevice.told g.D.MemDevice.clock g.C.SyncCalls.told t v u x enters c.args.driver.now c.requires.driver.drives c.requires.telling))

pub returns : goal.returns
returns g c =
    let told = g.D.MemDevice.told in
    let clocks = g.D.MemDevice.clock in
    let copies = g.C.SyncCalls.told in
    let now = c.args.driver.now in
    let t = c.args.self.now.terms in
    let v = knows c.args.pass.now in
    let u = knows c.enter-value.new.pass in
    let x = c.enter-value.result in
    let e = c.enter-value.ensures in
    let d = told now.device in
    let clock = clocks now.device in
    let half = c.first_half-act.ensures in
    let to = c.first_half-act.new.self in
    let new = c.first_half-act.new.driver in
    let enters : Enters t v u x = record { own = c.requires.driver.own.root; root = e.root; seen = e.seen; starts = e.starts; agree = e.agree; mark = c.requires.driver.mark; open_now = e.open; kin = e.same; alone = e.alone; written = c.len-number.ensures.written } in
    let drive = c.requires.driver.drives in
    let b = stands told clocks copies t v u x enters now c.requires.driver.drives in
    let writes = half_writes x.tells c.first_half-act.result _ _ x.desk to.desk _ _ _ half.half.half (fits told clocks copies t v u x enters now c.requires.driver.drives c.requires.telling) in
    let w = knows c.leave.new.pass in
    let l = left t v u (knows c.hold_picked.new.pass) w x to x.tells enters c.hold_picked.ensures.informed (record { same = c.leave.ensures.same; more = c.leave.ensures.more }) writes in
    let desk : to.desk ≡ desk_with t w.seen = desk_behind t x to w.seen b.terms half.terms l.seen in
    let clock_new = clocks new.device in
    let is = g.C.SyncCalls.is_store in
    let looked = g.C.SyncCalls.looked in
    let over = g.C.SyncCalls.over in
    let since = c.see_asked.new.copies in
    let goes : GoOn copies is looked over now.copies since = c.see_asked.ensures.goes_on in
    let Half : g.row.C.Denot → Type 0 = λ s. IsFirstHalf told copies is looked c.first_half-act.result (stack_with x.desk now.hand now.device s) (stack_with to.desk new.hand new.device new.copies) in
    let first : Half since = half.half in
    let held_in = g.C.NotedCopies.stands in
    let same : c.hold_picked.new.copies ≡ new.copies = c.hold_picked.ensures.same in
    let made : (s : g.row.C.Denot) → Half s → BeginsTurn told clocks copies is looked c.first_half-act.result (desk_with t v.seen) (desk_with t w.seen) (driver_of now.device s now.hand) new =
    λ s half_of. record {
      asks = b.asks;
      are = b.are;
      replied = b.replied;
      tied = subst (λ (y : DeskState). IsTied y now.hand d) b.desk b.stands.tied;
      ready = record { order = c.status-before.ensures.order; frees = c.status-before.ensures.ready; room = c.status-before.ensures.room };
      clock_stays = half.clock;
      order = c.status-status.ensures.order;
      half = subst (λ (y : DeskState). IsFirstHalf told copies is looked c.first_half-act.result (stack_with y now.hand now.device s) (stack_with (desk_with t w.seen) new.hand new.device new.copies)) b.desk
          (subst (λ (y : DeskState). IsFirstHalf told copies is looked c.first_half-act.result (stack_with x.desk now.hand now.device s) (stack_with y new.hand new.device new.copies)) desk half_of);
      stands = subst (λ (y : DeskState). StaysKept (desk_with t v.seen) now.hand d clock y now.hand d clock) b.desk b.stands.kept;
      kept = subst (λ (y : DeskState). StaysKept y now.hand d clock (desk_with t w.seen) new.hand (told new.device) clock_new) b.desk
          (subst (λ (y : DeskState). StaysKept x.desk now.hand d clock y new.hand (told new.device) clock_new) desk half.keeps);
      off = λ now. subst (λ (y : DeskState). (state_of y).off ≡ true) desk (half.off now);
      served = begins_served (desk_with t v.seen) b.asks x.desk to.desk (desk_with t w.seen) now.hand new.hand d (told new.device) c.first_half-act.result
          b.desk desk
          (λ number turns due. first_halves_serve (told new.device) clock_new c.first_half-act.result x.desk to.desk _ _ now.hand new.hand d number turns (λ picked. c.status-status.ensures.order)
          (half_adds c.first_half-act.result _ _ x.desk to.desk _ _ _ first.half) first.at_device half.first b.stands.tied first.tied due);
    } in
    let begins : BeginsTurn told clocks copies is looked c.first_half-act.result (desk_with t v.seen) (desk_with t w.seen) now new =
    made now.copies (half_on told copies is looked over c.first_half-act.result x.desk to.desk now.hand new.hand now.device new.device now.copies since new.copies goes first) in
    let holds : Holds looked over held_in (v.seen ++ b.asks) w.seen now.copies new.copies =
    λ before block ops kind taken last front.
    let stood : x.desk.entries ≡ before = ap (λ (d : DeskState). d.entries) b.desk ∙ front in
    let picked : c.picked_behind-picked.result ≡ Some block =
    c.picked_behind-picked.ensures.some before (Pick block kind taken ops) (sym l.seen ∙ last) (ap (λ (log : List Entry). length log) (sym stood) ∙ sym c.len-number.ensures.count) in
    let has : ((since : g.row.C.Denot) (m : ℕ) → looked since new.copies block m → held_in new.copies block m u.seen) × over new.copies new.copies =
    subst (λ (o : Option ℕ). IfSome o (λ k. ((since : g.row.C.Denot) (m : ℕ) → looked since new.copies k m → held_in new.copies k m u.seen) × over new.copies new.copies)) picked c.hold_picked.ensures.stands in
    ((λ m shown. subst (λ (log : List Entry). held_in new.copies block m log) (e.seen ∙ stood) (has.0 now.copies m shown)), has.1) in
    let d_now : DeskState = with_more (desk_with t v.seen) b.asks in
    let asks_of_job : Job → ℕ × ℕ = λ j. (job_block j, asked_store j.request) in
    let sees : Sees looked d_now.config (state_of d_now) now.copies since =
    λ j next sync some.
    let asked : c.asked.result ≡ Some (asks_of_job j) =
    c.asked.ensures ∙ ap (λ (y : DeskState). option_map asks_of_job (next_in y.config (state_of y).waiting)) b.desk ∙ ap (option_map asks_of_job) (waits d_now.config (state_of d_now) j next) in
    subst (λ (o : Option (ℕ × ℕ)). IfSome o (λ a. 0 < a.1 → SeesBlock copies looked a.0 a.1 now.copies since)) asked c.see_asked.ensures.seen some (desc_of t.config (job_block j)).length (drive.synchronized (job_block j) sync) in
    record {
      begins = subst (λ (z : g.row.C.Denot). BeginsTurn told clocks copies is looked c.first_half-act.result (desk_with t v.seen) (desk_with t w.seen) now (driver_of new.device z new.hand)) (sym same) begins;
      shown = λ picked. subst (λ (z : g.row.C.Denot). PickIsShown is looked over held_in t.config w.seen now.copies z) (sym same)
          (pick_shown told clocks copies is looked over held_in c.first_half-act.result (desk_with t v.seen) (desk_with t w.seen) now.copies (driver_of now.device since now.hand) new (made since first) picked holds goes sees);
      driver = record {
        own = record { own = c.leave.ensures.own; outside = c.leave.ensures.outside; root = l.root ∙ c.requires.driver.own.root };
        mark = l.learns.mark ∙ c.requires.driver.mark;
        drives = record {
          tied = subst (λ (y : DeskState). IsTied y new.hand (told new.device)) desk first.tied;
          pending = subst (λ (y : DeskState). HandIsPending (state_of y)) desk c.len-len.ensures.pending;
          next = subst (λ (y : DeskState). NextIsPending y.config (state_of y)) desk c.len-len.ensures.next;
          synchronized = subst (λ (z : g.row.C.Denot). AreSynchronized t.config (copies z)) (sym same) (subst (λ (s : Terms). AreSynchronized s.config (copies new.copies)) b.terms half.synchronized);
          kept = λ told_now. let (before, kept) = drive.kept told_now in (before, subst (λ (y : DeskState). StackKeepsAsTold before y new.hand (told new.device) clock_new) desk (half.keeps.kept before (b.stands.kept.kept before kept)));
        };
      };
      keeps = subst (λ (y : DeskState). StaysKept (desk_with t v.seen) now.hand d clock y new.hand (told new.device) clock_new) desk
          (stays_more _ _ _ _ _ _ _ _ _ _ _ _ b.stands.kept half.keeps);
      left = half.left;
      clock = half.clock;
      stays_over = λ first h. subst (λ (z : g.row.C.Denot). over first z) (sym same) (half.stays_over first (goes.stays_over first h));
      off = λ now. subst (λ (y : DeskState). (state_of y).off ≡ true) desk (half.off now);
      learns = l.learns;
    }
