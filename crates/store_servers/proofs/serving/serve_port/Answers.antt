use Rattle.store_servers.proofs.serving.serve_port.Goals as goal

pub returns-clause-serves : goal.returns-clause-serves
returns-clause-serves g c = record {
  served_all = c.serve-status.ensures.served_all;
  served_some = c.serve-status.ensures.served_some;
  lacked = c.serve-status.ensures.lacked;
  keeper_cause = c.serve-status.ensures.keeper_cause;
  bad = c.serve-status.ensures.bad;
  same = c.serve-status.ensures.same;
}
