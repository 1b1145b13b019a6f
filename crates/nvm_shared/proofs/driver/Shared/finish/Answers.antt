use Rattle.std.proofs.Common.{sym, ap, subst, ◌∙◌}
use Rattle.turn_gate.specs.Pass.{knows}
use Rattle.nvm_shared.specs.Locked.{desk_with}
use Rattle.nvm_shared.specs.Driving.{DriverState, Drives, EndsTurn}
use Rattle.nvm_shared.proofs.Turning.{Enters, desk_behind, extended, left, same_informed}
use Rattle.nvm_shared.proofs.Writing.{turn_writes}
use Rattle.nvm_shared.proofs.Halves.{drives_on, ends, is_behind, stood}
use Rattle.nvm_shared.proofs.driver.Shared.finish.Goals as goal

pub second_half-answer-requires : goal.second_half-answer-requires
second_half-answer-requires g c =
    let (s, may) = c.requires.turned in
    let e = c.enter-value.ensures in (
      g.D.MemDevice.told s.device,
      is_behind g.D.MemDevice.told g.D.MemDevice.clock g.C.SyncCalls.told c.args.self.now.terms (knows c.args.pass.now) (knows c.enter-value.new.pass) c.enter-value.result
          (record { own = c.requires.own.root; root = e.root; seen = e.seen; starts = e.starts; agree = e.agree; mark = c.requires.mark; open_now = e.open; kin = e.same; alone = e.alone; written = c.len-number.ensures.written })
          c.args.driver.now c.args.turned s may,
    )

pub leave-requires-clause-adds : goal.leave-requires-clause-adds
leave-requires-clause-adds g c =
    let told = g.D.MemDevice.told in
    let now = c.args.driver.now in
    let (s, may) = c.requires.turned in
    let e = c.enter-value.ensures in
    let x = c.enter-value.result in
    let y = c.second_half-answer.new.self in
    let enters : Enters c.args.self.now.terms (knows c.args.pass.now) (knows c.enter-value.new.pass) x =
    record { own = c.requires.own.root; root = e.root; seen = e.seen; starts = e.starts; agree = e.agree; mark = c.requires.mark; open_now = e.open; kin = e.same; alone = e.alone; written = c.len-number.ensures.written } in
    extended c.args.self.now.terms (knows c.args.pass.now) (knows c.enter-value.new.pass) (knows c.enter-value.new.pass) x y x.tells enters (same_informed (knows c.enter-value.new.pass))
    (turn_writes x.tells c.args.turned c.second_half-answer.result x.desk y.desk now.hand c.second_half-answer.new.driver.hand (told s.device) (told now.device) c.second_half-answer.ensures.takes
    (is_behind told g.D.MemDevice.clock g.C.SyncCalls.told c.args.self.now.terms (knows c.args.pass.now) (knows c.enter-value.new.pass) x enters now c.args.turned s may))

pub returns : goal.returns
returns g c =
    let told = g.D.MemDevice.told in
    let clock = g.D.MemDevice.clock in
    let copies = g.C.SyncCalls.told in
    let now = c.args.driver.now in
    let t = c.args.self.now.terms in
    let v = knows c.args.pass.now in
    let u = knows c.enter-value.new.pass in
    let w = knows c.leave.new.pass in
    let x = c.enter-value.result in
    let y = c.second_half-answer.new.self in
    let hand = c.second_half-answer.new.driver.hand in
    let e = c.enter-value.ensures in
    let half = c.second_half-answer.ensures in
    let (s, may) = c.requires.turned in
    let enters : Enters t v u x = record { own = c.requires.own.root; root = e.root; seen = e.seen; starts = e.starts; agree = e.agree; mark = c.requires.mark; open_now = e.open; kin = e.same; alone = e.alone; written = c.len-number.ensures.written } in
    let writes = turn_writes x.tells c.args.turned c.second_half-answer.result x.desk y.desk now.hand hand (told s.device) (told now.device) half.takes
    (is_behind told clock copies t v u x enters now c.args.turned s may) in
    let l = left t v u u w x y x.tells enters (same_informed u) (record { same = c.leave.ensures.same; more = c.leave.ensures.more }) writes in
    let desk = desk_behind t x y w.seen (stood told clock copies t v u x enters now c.args.turned s may).terms half.terms l.seen in
    record {
      device = ap (λ (z : DriverState g.row.D.Denot g.row.C.Denot). z.device) half.only;
      learns = l.learns;
      driver = record {
        own = record { own = c.leave.ensures.own; outside = c.leave.ensures.outside; root = l.root ∙ c.requires.own.root };
        mark = l.learns.mark ∙ c.requires.mark;
        drives = subst (λ (z : DriverState g.row.D.Denot g.row.C.Denot). Drives told clock copies t.tells (desk_with t w.seen) z) (sym half.only)
            (drives_on told clock copies t v u x enters now c.args.turned s may c.second_half-answer.result y hand w.seen half.takes half.tied desk c.len-len.ensures.pending c.len-len.ensures.next);
      };
      ends = λ s may. subst (λ (z : DriverState g.row.D.Denot g.row.C.Denot). EndsTurn told clock c.second_half-answer.result (desk_with t v.seen) (desk_with t w.seen) s z) (sym half.only)
          (ends told clock copies t v u x enters now c.args.turned s may c.second_half-answer.result y hand w.seen half.takes half.tied desk c.len-len.ensures.legal c.len-len.ensures.within);
    }
