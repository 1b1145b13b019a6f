use Rattle.fee_format.proofs.SoundHeads.{sound_without}
use Rattle.fee_format.proofs.sound_head.is_sound_head.Goals as goal

pub returns-in-None : goal.returns-in-None
returns-in-None c = sound_without c.args.page.now c.grows_bank_head.result c.in-None.ensures c.grows_bank_head.ensures
