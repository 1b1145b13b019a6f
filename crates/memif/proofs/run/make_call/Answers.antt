use Rattle.std.proofs.Common.{refl}
use Rattle.memif.proofs.Runs.{start_made, cancel_made}
use Rattle.memif.proofs.run.make_call.Goals as goal

pub returns-in-Read : goal.returns-in-Read
returns-in-Read g c = rw (c.in-Read.is, c.is_ok.ensures.value) (start_made _ _ _ _ _ _ _ refl c.start_read.ensures)

pub returns-in-Write : goal.returns-in-Write
returns-in-Write g c = rw (c.in-Write.is, c.is_ok-in-Write.ensures.value, ← c.as_slice.ensures) (start_made _ _ _ _ _ _ _ refl c.start_write.ensures)

pub returns-in-Invalidate : goal.returns-in-Invalidate
returns-in-Invalidate g c = rw (c.in-Invalidate.is, c.is_ok-in-Invalidate.ensures.value) (start_made _ _ _ _ _ _ _ refl c.start_invalidate.ensures)

pub returns-in-Erase : goal.returns-in-Erase
returns-in-Erase g c = rw (c.in-Erase.is, c.is_ok-in-Erase.ensures.value) (start_made _ _ _ _ _ _ _ refl c.start_erase.ensures)

pub returns-then-not-urgent : goal.returns-then-not-urgent
returns-then-not-urgent g c = rw c.in-Cancel.is (cancel_made _ _ _ _ c.cancel.ensures)
