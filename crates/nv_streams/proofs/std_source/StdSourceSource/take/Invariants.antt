use Rattle.std.proofs.Common.{◌≡◌, length}
use Rattle.std.specs.Io.KnownBytes.{Keeps}
use Rattle.nv_streams.proofs.std_source.StdSourceSource.take.Given as goal

-- nothing was taken, and no fault came
abbrev pub invariant-loop : goal.invariant-loop
invariant-loop g l =
    (length l.into ≡ length l.initial.into) × Keeps (g.R.Read.remaining l.initial.self.reader) (g.R.Read.remaining l.self.reader) × (l.self.faults ≡ l.initial.self.faults)
