-- The numbers of the results.
use Rattle.std.specs.Prelude.{ℕ}
use Rattle.nv_base.specs.declared.result.ReqResult.{ReqResult}
use Rattle.nv_base.specs.declared.result.ReqResult.TheVariants.{Fine, NotOk, Pending, IntegrityFailed, BlockSkipped, Invalidated, Canceled, RedundancyFailed, Restored}

abbrev pub code_of : ReqResult → ℕ
code_of Fine = 0
code_of NotOk = 1
code_of Pending = 2
code_of IntegrityFailed = 3
code_of BlockSkipped = 4
code_of Invalidated = 5
code_of Canceled = 6
code_of RedundancyFailed = 7
code_of Restored = 8
