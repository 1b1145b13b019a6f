use Rattle.ea_slots.proofs.Opening.{room_for_content, has_opened}
use Rattle.ea_slots.proofs.parts.EaParts.open.Goals as goal

pub put-requires : goal.put-requires
put-requires g c = room_for_content c.self.view_is c.requires.sound c.requires.started c.requires.shut c.requires.job c.args.content.now c.requires.content

pub returns-clause-sound : goal.returns-clause-sound
returns-clause-sound g c = (has_opened c.self.view_is c.requires.sound c.requires.started c.requires.shut c.requires.job c.args.content.now c.put.new.self c.put.ensures.front c.requires.content c.put.ensures.room c.put.ensures.small).sound

pub returns-clause-opens : goal.returns-clause-opens
returns-clause-opens g c = (has_opened c.self.view_is c.requires.sound c.requires.started c.requires.shut c.requires.job c.args.content.now c.put.new.self c.put.ensures.front c.requires.content c.put.ensures.room c.put.ensures.small).opens

pub returns-clause-stays : goal.returns-clause-stays
returns-clause-stays g c = (has_opened c.self.view_is c.requires.sound c.requires.started c.requires.shut c.requires.job c.args.content.now c.put.new.self c.put.ensures.front c.requires.content c.put.ensures.room c.put.ensures.small).stays
