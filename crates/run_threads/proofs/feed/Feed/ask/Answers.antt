use Rattle.run_threads.proofs.feed.Feed.ask.Goals as goal

pub returns-clause-reads : goal.returns-clause-reads
returns-clause-reads g c = rw c.self.view_is at c.next.ensures.reads
