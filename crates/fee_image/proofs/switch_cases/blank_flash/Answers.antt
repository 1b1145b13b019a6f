use Rattle.std.proofs.Common.{refl, arith}
use Rattle.fee_image.specs.Cases.{small, pages}
use Rattle.fee_image.specs.LogCases.{numbers}
use Rattle.fee_image.specs.BankLaws.{found_alone}
use Rattle.fee_image.proofs.Starts.{no_bank_loads}
use Rattle.fee_image.proofs.switch_cases.blank_flash.Goals as goal

pub returns : goal.returns
returns c = no_bank_loads small numbers (pages 24 255) 0 (found_alone small (pages 24 255)) (omega arith) refl (omega arith)
