-- A content that is copied to the caller.
use Rattle.std.specs.Prelude.{◌≡◌, ◌<◌, ◌≤◌, ℕ, List, take, drop, length}

-- so many bytes of a content stand at the front, where there is room for them; all else stays
pub record IsFilled (content : List ℕ) (size : ℕ) (old new : List ℕ) : Type 0 where
  pub size_is : size ≡ length content
  pub room : length new ≡ length old
  pub front : size ≤ length old → take size new ≡ content
  pub rest : size ≤ length old → drop size new ≡ drop size old
  pub none : length old < size → new ≡ old
