use Rattle.nvm_top.proofs.served.serve_run.Goals as goal

pub returns-in-Ok-clause-served : goal.returns-in-Ok-clause-served
returns-in-Ok-clause-served g c = record {
  first = c.in-Ok.stack;
  started = c.in-Ok.ensures.started;
  served = c.serve_requests-end.ensures.served;
  configuration = c.serve_requests-end.ensures.configuration;
  most = c.serve_requests-end.ensures.most;
  keeps = (c.serve_requests-end.ensures.keeps g.P.Flashes.before c.in-Ok.ensures.kept.0.0, c.serve_requests-end.ensures.starts c.in-Ok.ensures.kept.0.1);
  begins = c.in-Ok.ensures.kept.1;
}
