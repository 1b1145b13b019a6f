use Rattle.std.proofs.Common.{◌∙◌}
use Rattle.nv_recorder.specs.FoundMarks.{found_in}
use Rattle.nvm_found.proofs.Promise.{finds_by, finds_keep_by}
use Rattle.nvm_found.proofs.found.find.Goals as goal

pub returns-clause-found : goal.returns-clause-found
returns-clause-found g c =
    let e = c.find_all-answer.ensures in
    finds_by c.find_all-answer.result (g.D.MemDevice.told c.args.device.now) (g.D.MemDevice.told c.find_all-answer.new.device) c.find_all-answer.new.found.places
    (e.numbers ∙ c.requires) c.len-count.ensures.numbers c.len-count.ensures.whole e.at_rest e.up e.left e.held

pub returns-clause-keeps : goal.returns-clause-keeps
returns-clause-keeps g c =
    let e = c.find_all-answer.ensures in
    finds_keep_by c.find_all-answer.result (g.D.MemDevice.told c.args.device.now) (g.D.MemDevice.clock c.args.device.now) (g.D.MemDevice.told c.find_all-answer.new.device)
    (g.D.MemDevice.clock c.find_all-answer.new.device) (found_in c.find_all-answer.new.found) e.keeps
    (finds_by c.find_all-answer.result (g.D.MemDevice.told c.args.device.now) (g.D.MemDevice.told c.find_all-answer.new.device) c.find_all-answer.new.found.places
    (e.numbers ∙ c.requires) c.len-count.ensures.numbers c.len-count.ensures.whole e.at_rest e.up e.left e.held) e.down
