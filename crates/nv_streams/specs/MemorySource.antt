-- A source in memory.
use Rattle.std.specs.Prelude.{◌≡◌, ◌↔◌, ℕ, List, Contains, min, length}
use Rattle.nv_streams.specs.declared.source.SourceAnswer.{SourceAnswer}
use Rattle.nv_streams.specs.declared.source.SourceAnswer.TheVariants.{Got, Failed}
use Rattle.nv_base.specs.Count.{next_count}

-- the bytes left, the calls that fail, and the calls and faults so far
pub record SourceInMemory : Type 0 where
  pub left : List ℕ
  pub failing : List ℕ
  pub calls : ℕ
  pub faults : ℕ

-- a call fails exactly where it is listed; any other fills the piece of so many bytes, or takes all that is left
pub record FailsAsListed (answer : SourceAnswer) (room : ℕ) (old new : SourceInMemory) : Type 0 where
  pub calls : new.calls ≡ next_count old.calls
  pub failing : new.failing ≡ old.failing
  pub fails : (answer ≡ Failed) ↔ Contains old.failing new.calls
  pub fills : (n : ℕ) → answer ≡ Got n → n ≡ min room (length old.left)
