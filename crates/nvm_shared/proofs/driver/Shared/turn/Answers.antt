use Rattle.std.proofs.Common.{◌≡◌, ℕ, inl, inr, refl, sym, ap, subst, ◌∙◌, arith}
use Rattle.nvm_core.specs.nv_base.Count.{Rose}
use Rattle.nvm_core.specs.memif.Told.{DeviceTold}
use Rattle.nvm_core.proofs.Turning.{lasts_more}
use Rattle.nvm_core.specs.nvm_device_laws.Cuts.{CutsInATurnKeep}
use Rattle.turn_gate.specs.Pass.{knows}
use Rattle.nvm_core.proofs.DueAsking.{requests_keep_due, requests_keep_due_in_hand}
use Rattle.nvm_core.proofs.Keeping.{stays_more}
use Rattle.nvm_shared.specs.Locked.{desk_with}
use Rattle.nvm_shared.specs.Behind.{with_more}
use Rattle.nvm_core.proofs.Leaving.{ended_takes, turn_takes}
use Rattle.nvm_core.proofs.Lowering.{device_lowers, ended_lowers, leaves_counts}
use Rattle.nvm_core.proofs.TurnsMade.{never_worked}
use Rattle.nvm_core.proofs.Paying.{device_lasts, half_lasts}
use Rattle.nvm_core.proofs.Working.{device_counts}
use Rattle.nvm_shared.specs.Driving.{stack_of}
use Rattle.nvm_shared.proofs.Halves.{may_end}
use Rattle.nvm_shared.proofs.Learning.{both_learn, half_learns, takes_with}
use Rattle.nvm_shared.proofs.Resting.{device_rests, ended_rests}
use Rattle.nvm_shared.proofs.Serving.{ended_serves, less_before, lowers_ended, none_before, off_before}
use Rattle.nvm_core.specs.BehindDevice.{TurnsDevice}
use Rattle.nvm_core.specs.nvm_laws.declared.turned.Act.TheVariants.{Ended}
use Rattle.nvm_core.specs.nvm_laws.declared.turned.Turned.{Turned}
use Rattle.nvm_core.specs.nvm_laws.declared.turned.Turned.TheVariants as turned
use Rattle.nvm_shared.proofs.driver.Shared.turn.Goals as goal

pub finish-answer-requires-clause-turned : goal.finish-answer-requires-clause-turned
finish-answer-requires-clause-turned g c =
    let is = c.in-Device.ensures in
    (c.begin.new.driver, may_end g.D.MemDevice.told g.D.MemDevice.clock g.C.SyncCalls.told g.C.SyncCalls.is_store g.C.SyncCalls.looked c.args.self.now.terms.tells c.device_turn-turned.result _ _ _ _ _ is.begins is.driver.drives c.device_turn-turned.ensures.turns)

pub returns-in-Ended : goal.returns-in-Ended
returns-in-Ended g c =
    let told = g.D.MemDevice.told in
    let clocks = g.D.MemDevice.clock in
    let answer = c.in-Ended.turned in
    let old = c.args.driver.now in
    let new = c.begin.new.driver in
    let desk = desk_with c.args.self.now.terms (knows c.args.pass.now).seen in
    let desk_new = desk_with c.args.self.now.terms (knows c.begin.new.pass).seen in
    let is = c.in-Ended.ensures in
    let half = is.begins.half in
    let asked = with_more desk is.begins.asks in
    let never : answer ≡ turned.Worked → ⊥ = λ worked. never_worked answer _ _ _ _ _ _ _ worked half.half in
    let same = leaves_counts (told old.device) (told new.device) half.device in
    record {
      driver = is.driver;
      parts = is.learns.parts;
      keeps = is.keeps;
      turns = inl is.begins;
      shown = λ picked. is.shown (ap (λ (a : Turned). Ended a) picked);
      counted = omega (arith, same);
      lasts = half_lasts (told old.device) (told new.device) (clocks old.device) (clocks new.device) half.device is.clock;
      lowers = lowers_ended told desk is.begins.asks old answer (stack_of desk_new new) never (ended_lowers told (stack_of asked old) answer (stack_of desk_new new) never half.lowers);
      due = λ number turns calm due.
          ended_serves answer number turns desk is.begins.asks desk_new old.hand new.hand (told old.device) (told new.device) _ _ _ _ _ is.begins.are
          (off_before answer _ _ _ _ _ _ _ half.half is.off) half.half calm (is.begins.served number turns (requests_keep_due desk old.hand (told old.device) is.begins.asks number turns is.begins.replied c.requires.driver.drives.next due));
      left = takes_with told answer desk asked old (stack_of desk_new new) (ended_takes told (stack_of asked old) (stack_of desk_new new) answer _ _ _ _ half.half half.at_device is.left);
      rests = λ alone. ended_rests told clocks g.C.SyncCalls.told g.C.SyncCalls.is_store g.C.SyncCalls.looked answer desk old desk_new new is.begins is.off;
      stores_stay = half.stores_stay;
      stays_over = is.stays_over;
      learns = half_learns (knows c.args.pass.now) (knows c.begin.new.pass) is.learns;
    }

pub returns-in-Device : goal.returns-in-Device
returns-in-Device g c =
    let told = g.D.MemDevice.told in
    let clocks = g.D.MemDevice.clock in
    let answer = c.finish-answer.result in
    let old = c.args.driver.now in
    let between = c.begin.new.driver in
    let new = c.finish-answer.new.driver in
    let desk = desk_with c.args.self.now.terms (knows c.args.pass.now).seen in
    let desk_between = desk_with c.args.self.now.terms (knows c.begin.new.pass).seen in
    let desk_new = desk_with c.args.self.now.terms (knows c.finish-answer.new.pass).seen in
    let is = c.in-Device.ensures in
    let half = is.begins.half in
    let behind = c.finish-answer.ensures in
    let ends = behind.ends between
    (may_end told clocks g.C.SyncCalls.told g.C.SyncCalls.is_store g.C.SyncCalls.looked c.args.self.now.terms.tells c.device_turn-turned.result desk desk_between old between _ is.begins is.driver.drives c.device_turn-turned.ensures.turns) in
    let less = less_before told desk is.begins.asks old in
    let same = leaves_counts (told old.device) (told between.device) half.device in
    let more = device_counts answer (told between.device) (clocks between.device) (told new.device) (clocks new.device) ends.turns in
    let faults : (told between.device).first.faults ≡ (told old.device).first.faults = ap (λ (x : DeviceTold). x.first.faults) half.device in
    record {
      driver = behind.driver;
      parts = behind.learns.parts ∙ is.learns.parts;
      keeps = stays_more _ _ _ _ _ _ _ _ _ _ _ _ is.keeps ends.keeps;
      turns = inr (
        desk_between,
        between,
        is.begins,
        subst (λ (d : g.row.D.Denot). CutsInATurnKeep (told between.device) (clocks between.device) (told d) (clocks d)) (sym behind.device) c.device_turn-turned.ensures.turns.cuts,
        ends,
      );
      shown = λ picked. absurd (subst (λ (a : Turned). TurnsDevice a (told between.device) (clocks between.device) (told new.device) (clocks new.device)) picked ends.turns);
      counted = omega (arith, same, more);
      lasts = lasts_more (told old.device) (clocks old.device) (told between.device) (clocks between.device) (told new.device) (clocks new.device)
          (half_lasts (told old.device) (told between.device) (clocks old.device) (clocks between.device) half.device is.clock)
          (device_lasts answer (told between.device) (clocks between.device) (told new.device) (clocks new.device) ends.turns);
      lowers = device_lowers told (stack_of desk old) answer (stack_of desk_between between) (stack_of desk_new new) (clocks between.device) (clocks new.device) ends.turns
          (omega (arith, half.lowers, less)) same
          (none_before desk old.hand between.hand (told old.device) (told between.device) half.at_device c.requires.driver.drives.tied.paired)
          (λ worked. ends.lowers worked (half.started refl));
      due = λ number turns calm due.
          inr (ends.nearer number turns (half.started refl) half.half.1 (subst (λ (n : ℕ). ¬ Rose n (told new.device).first.faults) (sym faults) calm.faultless) calm.on
          (requests_keep_due_in_hand desk_between between.hand (told between.device) ends.asks number turns ends.replied
          (is.begins.served number turns (requests_keep_due desk old.hand (told old.device) is.begins.asks number turns is.begins.replied c.requires.driver.drives.next due))));
      left = turn_takes told (stack_of desk old) (stack_of desk_new new) (stack_of desk_between between) (clocks between.device) (clocks new.device) half.at_device is.left same ends.hand answer ends.turns;
      rests = λ alone.
          device_rests told clocks g.C.SyncCalls.told g.C.SyncCalls.is_store g.C.SyncCalls.looked answer desk old desk_between desk_new between new is.begins ends c.requires.driver.drives.tied.paired
          (is.learns.alone alone) (behind.learns.alone (is.learns.parts ∙ alone));
      stores_stay = λ b n x held. subst (λ (s : g.row.C.Denot). g.C.SyncCalls.is_store s b n x) (sym ends.copies) (half.stores_stay b n x held);
      stays_over = λ first over. subst (λ (s : g.row.C.Denot). g.C.SyncCalls.over first s) (sym ends.copies) (is.stays_over first over);
      learns = both_learn (knows c.args.pass.now) (knows c.begin.new.pass) (knows c.finish-answer.new.pass) is.learns behind.learns;
    }
