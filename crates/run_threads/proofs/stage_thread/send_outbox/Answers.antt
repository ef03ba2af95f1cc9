use Rattle.std.proofs.Common.{rules, ◌≡◌, ◌++◌, ◌∷◌, [], List, ap, sym, ◌∙◌, append_assoc}
use Rattle.pipe_rings.specs.Rings.{sent}
use Rattle.stage_core.specs.Standing.{outbox_of}
use Rattle.run_threads.proofs.stage_thread.send_outbox.Goals as goal

-- the first message that was still to be sent has been sent
moves-on : {X : Type 0} (was now : List X) (m : X) (all rest whole : List X)
    → now ≡ was ++ m ∷ [] → all ≡ m ∷ rest → was ++ all ≡ whole → now ++ rest ≡ whole
moves-on was now m all rest whole sends first is =
    ap (λ l. l ++ rest) sends ∙ append_assoc was (m ∷ []) rest
    ∙ ap (λ l. was ++ l) (sym first) ∙ is

pub loop-message-preserved-in-Continue-branch-2 : goal.loop-message-preserved-in-Continue-branch-2
loop-message-preserved-in-Continue-branch-2 g c = record {
  from_splitter = search rules;
  ring = search rules;
  room = search rules;
  sends = moves-on (sent c.loop-message.ends.to_merge)
      (sent c.publish-then-not-has_room-2.new.ends.to_merge) c.in-Some.message
      (outbox_of c.loop-message.stage) (outbox_of c.outbox_next.new.self) _ (search rules)
      (search rules) c.loop-message.invariant.sends;
  cache = search rules;
  side = search rules;
  finish = search rules;
}

pub loop-message-preserved : goal.loop-message-preserved
loop-message-preserved g c = record {
  from_splitter = search rules;
  ring = search rules;
  room = search rules;
  sends = moves-on (sent c.loop-message.ends.to_merge) (sent c.if-posted-eq0.ends.to_merge)
      c.in-Some.message (outbox_of c.loop-message.stage) (outbox_of c.outbox_next.new.self) _
      (search rules) (search rules) c.loop-message.invariant.sends;
  cache = search rules;
  side = search rules;
  finish = search rules;
}
