use Rattle.pair_tests.proofs.both.asks.Goals as goal

pub ask-requires-clause-store : goal.ask-requires-clause-store
ask-requires-clause-store g c = c.requires.store c.args.stack.now.desk.config
