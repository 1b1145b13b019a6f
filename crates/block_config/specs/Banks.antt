-- The banks of a configuration's flash.
use Rattle.std.specs.Prelude.{ℕ}
use Rattle.nv_base.specs.Geometry.{pages_of_bank}
use Rattle.block_config.specs.Config.{Configuration}

-- pages of one of them
abbrev pub bank_pages_of : Configuration → ℕ
bank_pages_of c = pages_of_bank c.geometry c.banks
