-- How a call ends, from how its parts end.
use Rattle.std.proofs.Common.{◌≤◌, inl, inr, ℕ, sym, subst, arith}
use Rattle.nvm_flash.specs.nv_base.Count.{Rose}
use Rattle.nvm_lines.specs.declared.status.Status.{Status}
use Rattle.nvm_lines.specs.declared.status.Status.TheVariants as status
use Rattle.nvm_lines.specs.Output.{IsReport}

-- COUNTS
pub Rose-after : (a b c : ℕ) → a ≤ b → Rose b c → Rose a c
Rose-after a b c le (inl lt) = inl (omega arith)
Rose-after a b c le (inr last) = grind arith

-- REPORTS
-- what holds of a status, of want of memory and of a fault of the output, holds of a report
pub report-by : (P : Status → Type 0) (meant x : Status) → P meant → P status.Memory → P status.WriteFault → IsReport meant x → P x
report-by P meant x one two three (inl e) = subst P (sym e) one
report-by P meant x one two three (inr (inl e)) = subst P (sym e) two
report-by P meant x one two three (inr (inr e)) = subst P (sym e) three
