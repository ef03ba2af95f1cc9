use Rattle.std.proofs.Common.{◌∙◌}
use Rattle.std.proofs.lemmas.Result.{on_ok_weaker}
use Rattle.grid_run.specs.Senders.{seats_at}
use Rattle.grid_run.proofs.back.Back.settle.Goals as goal

pub settle-requires : goal.settle-requires
settle-requires c =
    let room = c.requires.room in
    let users = c.args.self.now.users.items in
    record {
      room = (
        room.0,
        λ k. room.1 (seats_at users k),
        room.2.second,
        λ k. room.3.few (seats_at users k),
      );
    }

pub invariant_of-self : goal.invariant_of-self
invariant_of-self c =
    let old = c.args.self.now in
    record {
      sized = c.settle.ensures.bsize ∙ old.sized;
      as_many = c.settle.ensures.users ∙ old.as_many;
      share = old.share;
    }

pub returns-clause-asked : goal.returns-clause-asked
returns-clause-asked c =
    on_ok_weaker c.settle.result (λ asked blocks all was. record {
      second = asked blocks (λ k. all (seats_at c.args.self.now.users.items k)) was.second;
    }) c.settle.ensures.asked
