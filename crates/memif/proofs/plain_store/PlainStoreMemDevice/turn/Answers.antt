use Rattle.std.proofs.Common.{arith}
use Rattle.memif.proofs.Plain.{blank}
use Rattle.memif.proofs.PlainCalls.{turn_within, turn_room, write_sound, read_sound, write_is, content_is, invalid_is, erased_is}
use Rattle.memif.proofs.plain_store.PlainStoreMemDevice.turn.Goals as goal

pub settle-requires-clause-place : goal.settle-requires-clause-place
settle-requires-clause-place c = turn_within _ _ _ _ _ _ _ c.self.view_is _ c.in-Some.is c.self.invariant

pub settle-requires-clause-room : goal.settle-requires-clause-room
settle-requires-clause-room c = turn_room _ _ _ _ _ _ _ c.self.view_is _ c.in-Some.is c.self.invariant

pub invariant_of-self : goal.invariant_of-self
invariant_of-self c = write_sound _ _ _ _ _ _ _ c.self.view_is _ c.in-Some.is c.self.invariant _ (c.settle.ensures blank)

pub invariant_of-self-in-Content : goal.invariant_of-self-in-Content
invariant_of-self-in-Content c = read_sound _ _ _ _ _ _ _ c.self.view_is _ c.in-Some.is c.self.invariant

pub returns-then-not-job-clause-turn : goal.returns-then-not-job-clause-turn
returns-then-not-job-clause-turn c = write_is _ _ _ _ _ _ _ c.self.view_is _ c.in-Some.is c.self.invariant _ (c.settle.ensures blank) c.if-not-job.true

pub index-requires : goal.index-requires
index-requires c = omega (arith, turn_within _ _ _ _ _ _ _ c.self.view_is _ c.in-Some.is c.self.invariant, c.self.inside.kept.ok)

pub returns-in-Content-clause-turn : goal.returns-in-Content-clause-turn
returns-in-Content-clause-turn c = content_is _ _ _ _ _ _ _ c.self.view_is _ c.in-Some.is c.self.invariant _ c.index.ensures c.if-not-job.false c.in-Content.is

pub returns-in-Invalid-clause-turn : goal.returns-in-Invalid-clause-turn
returns-in-Invalid-clause-turn c = invalid_is _ _ _ _ _ _ _ c.self.view_is _ c.in-Some.is c.self.invariant _ c.index.ensures c.if-not-job.false c.in-Invalid.is

pub returns-in-Erased-clause-turn : goal.returns-in-Erased-clause-turn
returns-in-Erased-clause-turn c = erased_is _ _ _ _ _ _ _ c.self.view_is _ c.in-Some.is c.self.invariant _ c.index.ensures c.if-not-job.false c.in-Erased.is
