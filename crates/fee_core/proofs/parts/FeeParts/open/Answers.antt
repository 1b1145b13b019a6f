use Rattle.fee_core.proofs.Opening.{opens}
use Rattle.fee_core.proofs.parts.FeeParts.open.Goals as goal

pub returns-clause-sound : goal.returns-clause-sound
returns-clause-sound g c = (opens c.self.view_is c.requires.sound c.requires.started c.requires.shut c.requires.job c.requires.few c.requires.promised c.active-active.ensures.state c.active-active.ensures.log c.args.content.now c.put.new.self c.put.ensures.front c.requires.content c.put.ensures.room).sound

pub returns-clause-opens : goal.returns-clause-opens
returns-clause-opens g c = (opens c.self.view_is c.requires.sound c.requires.started c.requires.shut c.requires.job c.requires.few c.requires.promised c.active-active.ensures.state c.active-active.ensures.log c.args.content.now c.put.new.self c.put.ensures.front c.requires.content c.put.ensures.room).opens

pub returns-clause-stays : goal.returns-clause-stays
returns-clause-stays g c = (opens c.self.view_is c.requires.sound c.requires.started c.requires.shut c.requires.job c.requires.few c.requires.promised c.active-active.ensures.state c.active-active.ensures.log c.args.content.now c.put.new.self c.put.ensures.front c.requires.content c.put.ensures.room).stays
