-- The measures of a configuration.
use Rattle.std.specs.Prelude.{◌≡◌, ℕ, List, [], ◌∷◌, ◌++◌, length, codes}
use Rattle.std.specs.Fmt.{decimal}
use Rattle.nvm_flash.specs.block_config.Banks.{bank_pages_of}
use Rattle.nvm_flash.specs.block_config.Config.{Configuration}
use Rattle.nvm_flash.specs.block_config.Rules.{need_pages_of}
use Rattle.nvm_flash.specs.block_config.Sizes.{measures_of}
use Rattle.nvm_lines.specs.declared.status.Status.{Status}
use Rattle.nvm_lines.specs.declared.status.Status.TheVariants as status

-- how many blocks and instances a configuration has, how many pages a bank needs, and how many it has, as a line with its newline
abbrev pub measures_line : Configuration → List ℕ
measures_line c =
    codes "config ok blocks " ++ (decimal (length c.blocks) ++ (codes " instances " ++ (decimal (measures_of c.geometry.page c.blocks).instances
    ++ (codes " need " ++ (decimal (need_pages_of c) ++ (codes " bank " ++ (decimal (bank_pages_of c) ++ codes "\n")))))))

-- a command ends well, and writes the measures last
abbrev pub IsMeasured : Configuration → Status → List (List ℕ) → Type 0
IsMeasured c x lines = (x ≡ status.Ok) × (lines ≡ measures_line c ∷ [])
