use Rattle.serde_json.specs.View.{view}
use Rattle.block_config.proofs.Found.{unknown_member}
use Rattle.block_config.proofs.values.Values.find.Goals as goal

pub returns-in_default : goal.returns-in_default
returns-in_default c = λ rest.
    unknown_member c.args.self.now c.args.key.now (view c.args.value.now) rest (record {
      kind = c.in_default.not-kind;
      length = c.in_default.not-length;
      defaults = c.in_default.not-defaults;
      nv = c.in_default.not-nv;
      rom = c.in_default.not-rom;
      ram = c.in_default.not-ram;
      readall = c.in_default.not-readall;
      writeall = c.in_default.not-writeall;
      once = c.in_default.not-once;
      protected = c.in_default.not-protected;
      resistant = c.in_default.not-resistant;
      priority = c.in_default.not-priority;
      reads = c.in_default.not-reads;
      writes = c.in_default.not-writes;
      repeats = c.in_default.not-repeats;
      device = c.in_default.not-device;
    })
