use Rattle.std.proofs.Common.{◌++◌, ap, ◌∙◌}
use Rattle.cache_core.specs.Geometry.{bsize_of}
use Rattle.grid_core.specs.Numbered.{blocks_in}
use Rattle.shared_list.specs.declared.users.Users.{Users}
use Rattle.stage_core.specs.declared.message.What.{What}
use Rattle.grid_run.specs.Numbering.{part_to, sent_to, what_of}
use Rattle.grid_run.proofs.SentTo.{sent-more}
use Rattle.grid_run.proofs.StayNumbered.{stay-push}
use Rattle.grid_run.proofs.parts.ask.Goals as goal

pub returns-clause-asked : goal.returns-clause-asked
returns-clause-asked c = λ k.
    let old = c.args.waiting.now.items in
    let w = c.in_ok-asked.asked in
    ap (sent_to k) c.in_ok-add_to.ensures.joined ∙ sent-more k old w
    ∙ ap (λ (u : Users). sent_to k old ++ part_to k u (what_of w)) c.in_ok-asked.ensures.users
    ∙ ap (λ (v : What). sent_to k old ++ part_to k c.args.users v) c.in_ok-asked.ensures.what

pub returns-clause-numbers : goal.returns-clause-numbers
returns-clause-numbers c =
    stay-push (bsize_of c.args.first) (blocks_in c.args.numbers.now)
    (blocks_in c.numbered_request.new.numbers) c.args.waiting.now.items
    c.add_to.new.list.items c.in_ok-asked.asked c.numbered_request.ensures.grows
    c.in_ok-add_to.ensures.joined c.in_ok-asked.ensures.number
