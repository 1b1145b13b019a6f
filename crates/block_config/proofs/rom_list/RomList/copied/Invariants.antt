use Rattle.std.proofs.Common.{◌≡◌, take}
use Rattle.block_config.proofs.rom_list.RomList.copied.Given as goal

-- the contents so far were copied
abbrev pub invariant-loop-content : goal.invariant-loop-content
invariant-loop-content l = l.items.items ≡ take l.content-index l.content-items
