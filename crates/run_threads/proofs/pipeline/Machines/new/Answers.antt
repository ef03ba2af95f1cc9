use Rattle.run_threads.proofs.pipeline.Machines.new.Goals as goal

pub returns-clause-new : goal.returns-clause-new
returns-clause-new c = record {
  i = record {
    side = c.in_ok-i.ensures.side;
    ready = c.in_ok-i.ensures.ready;
    stands = c.in_ok-i.ensures.stands;
  };
  d = record {
    side = c.in_ok-d.ensures.side;
    ready = c.in_ok-d.ensures.ready;
    stands = c.in_ok-d.ensures.stands;
  };
  u = c.in_ok-u.ensures.stands;
}
