use Rattle.std.proofs.Common.{◌≡◌, subst, get_or, []}
use Rattle.ram_blocks.proofs.PlainCopies.{in_told, in_stores}
use Rattle.ram_blocks.proofs.plain_sync.PlainSyncSyncCalls.copy_in.Goals as goal

pub returns-clause-copied : goal.returns-clause-copied
returns-clause-copied c = in_told c.self.inside.blocks.items c.args.self.now c.from.result c.args.block _ c.index_mut.result.now c.copy_in.new.self c.self.view_is c.from.ensures c.requires c.index_mut.ensures.value c.copy_in.result c.args.from.now c.copy_in.ensures

pub returns-clause-stores_stay : goal.returns-clause-stores_stay
returns-clause-stores_stay c = λ b n x h. subst (λ l. get_or l b (0, []) ≡ (n, x)) (in_stores c.self.inside.blocks.items c.args.self.now c.from.result c.args.block _ c.index_mut.result.now c.copy_in.new.self c.self.view_is c.from.ensures c.requires c.index_mut.ensures.value c.copy_in.result c.args.from.now c.copy_in.ensures) h
