use Rattle.std.specs.Prelude.{IsSome}
use Rattle.std.proofs.Common.{◌≡◌, sym, subst}
use Rattle.fee_laws.specs.fee_log.Log.{work_in}
use Rattle.fee_laws.specs.fee_switch.Banks.{BanksState, append_begun}
use Rattle.fee_core.proofs.Begun.{begun_turned, begun_up, begun_work, can_append, record_begun}
use Rattle.fee_core.proofs.Standing.{stands}
use Rattle.fee_core.proofs.parts.FeeParts.turn_new_record.Goals as goal

pub append_start-requires-clause-active : goal.append_start-requires-clause-active
append_start-requires-clause-active g c = (can_append (stands c.self.view_is c.requires.up c.active-active.ensures.state c.active-active.ensures.log) c.requires.waits c.requires.begins c.kind_of-kind.ensures c.in-Some.ensures.1 c.head_next-head.ensures.head).active

pub append_start-requires-clause-open : goal.append_start-requires-clause-open
append_start-requires-clause-open g c = (can_append (stands c.self.view_is c.requires.up c.active-active.ensures.state c.active-active.ensures.log) c.requires.waits c.requires.begins c.kind_of-kind.ensures c.in-Some.ensures.1 c.head_next-head.ensures.head).taken

pub append_start-requires-clause-configured : goal.append_start-requires-clause-configured
append_start-requires-clause-configured g c = (can_append (stands c.self.view_is c.requires.up c.active-active.ensures.state c.active-active.ensures.log) c.requires.waits c.requires.begins c.kind_of-kind.ensures c.in-Some.ensures.1 c.head_next-head.ensures.head).configured

pub append_start-requires-clause-room : goal.append_start-requires-clause-room
append_start-requires-clause-room g c = (can_append (stands c.self.view_is c.requires.up c.active-active.ensures.state c.active-active.ensures.log) c.requires.waits c.requires.begins c.kind_of-kind.ensures c.in-Some.ensures.1 c.head_next-head.ensures.head).room

pub turn_record-requires-clause-up : goal.turn_record-requires-clause-up
turn_record-requires-clause-up g c =
    let at = stands c.self.view_is c.requires.up c.active-active.ensures.state c.active-active.ensures.log in
    begun_up at (record_begun at c.requires.waits c.requires.begins c.kind_of-kind.ensures c.in-Some.ensures.1 c.head_next-head.ensures.head c.append_start.new.self c.append_start.ensures)

pub turn_record-requires-clause-work : goal.turn_record-requires-clause-work
turn_record-requires-clause-work g c =
    let begun : c.append_start.new.self ≡ append_begun c.self.inside.banks c.head_next-head.result = c.append_start.ensures in
    subst (λ (x : BanksState). IsSome (work_in x.log.tail)) (sym begun) (begun_work c.self.inside.banks.log.tail c.head_next-head.result)

pub returns : goal.returns
returns g c =
    let at = stands c.self.view_is c.requires.up c.active-active.ensures.state c.active-active.ensures.log in
    begun_turned at (record_begun at c.requires.waits c.requires.begins c.kind_of-kind.ensures c.in-Some.ensures.1 c.head_next-head.ensures.head c.append_start.new.self c.append_start.ensures) c.turn_record.ensures
