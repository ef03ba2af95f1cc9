-- The merge's rule: in which order the second level takes the requests of the two sides.
use Rattle.std.specs.Prelude.{List, [], ◌∷◌}
use Rattle.stage_core.specs.declared.message.Side.{Side}
use Rattle.stage_core.specs.declared.message.Side.TheVariants as side
use Rattle.stage_core.specs.declared.message.What.{What}
use Rattle.stage_core.specs.declared.message.Turn.{Turn}
use Rattle.stage_core.specs.declared.message.Turn.TheVariants as turn
use Rattle.stage_core.specs.declared.message.Want.{Want}
use Rattle.stage_core.specs.declared.message.Want.TheVariants as want
use Rattle.stage_core.specs.declared.message.FromStage.{FromStage}
use Rattle.stage_core.specs.declared.message.FromStage.TheVariants as from_stage

-- The state of the merge: before a turn; in a turn of I, of D, or of both with I's answer still to
-- come; after the last turn, before the Finish of I or of D; at the end.
pub data MergeState : Type 0 where
  AtOrder AtI AtD AtBoth LastI LastD AtEnd : MergeState

-- from which ring it takes the next message
abbrev pub wanted : MergeState → Want
wanted AtOrder = want.Order
wanted AtI = want.I
wanted AtD = want.D
wanted AtBoth = want.I
wanted LastI = want.I
wanted LastD = want.D
wanted AtEnd = want.Nothing

-- the ring from a side, as the merge wants it
abbrev pub want_of : Side → Want
want_of side.I = want.I
want_of side.D = want.D

-- the state after a turn
abbrev pub after_turn : Turn → MergeState
after_turn turn.I = AtI
after_turn turn.D = AtD
after_turn turn.Both = AtBoth
after_turn turn.Finish = LastI

-- the state after the last message of a side's answer
abbrev pub after_end : MergeState → MergeState
after_end AtI = AtOrder
after_end AtD = AtOrder
after_end AtBoth = AtD
after_end LastI = LastD
after_end LastD = AtEnd
after_end AtOrder = AtOrder
after_end AtEnd = AtEnd

-- the state after a message of a side: a Part does not change it; Done and Finish both end the
-- side's answer
abbrev pub after_message : MergeState → FromStage → MergeState
after_message at (from_stage.Part place part w) = at
after_message at (from_stage.Done place parts) = after_end at
after_message at from_stage.Finish = after_end at

-- the request in a message: a Part has one
abbrev pub what_in : FromStage → List What
what_in (from_stage.Part place part w) = w ∷ []
what_in (from_stage.Done place parts) = []
what_in from_stage.Finish = []

-- the result of the rule on three lists of messages: the requests that it took, its last state, and
-- the messages that are left
pub record Merged : Type 0 where
  pub taken : List What
  pub at : MergeState
  pub turns : List Turn
  pub from_i : List FromStage
  pub from_d : List FromStage

-- the result with one more request taken before all others
abbrev pub with_what : What → Merged → Merged
with_what w m = record m { taken = w ∷ m.taken }

-- the rule takes the messages of a side up to the end of its answer, and then goes on; if the
-- messages run out, it stops
abbrev pub up_to_end : List FromStage → Merged → (List FromStage → Merged) → Merged
up_to_end [] stopped next = stopped
up_to_end (from_stage.Part place part w ∷ ms) stopped next = with_what w (up_to_end ms stopped next)
up_to_end (from_stage.Done place parts ∷ ms) stopped next = next ms
up_to_end (from_stage.Finish ∷ ms) stopped next = next ms

-- the result of a rule that stops in this state, and leaves these messages
abbrev pub stops : MergeState → List Turn → List FromStage → List FromStage → Merged
stops at turns is ds = record { taken = []; at = at; turns = turns; from_i = is; from_d = ds }

-- the rule, applied to the turns and the messages from I and from D
abbrev pub merged : List Turn → List FromStage → List FromStage → Merged
merged [] is ds = stops AtOrder [] is ds
merged (turn.I ∷ ts) is ds = up_to_end is (stops AtI ts [] ds) (λ is'. merged ts is' ds)
merged (turn.D ∷ ts) is ds = up_to_end ds (stops AtD ts is []) (λ ds'. merged ts is ds')
merged (turn.Both ∷ ts) is ds =
    up_to_end is (stops AtBoth ts [] ds) (λ is'.
    up_to_end ds (stops AtD ts is' []) (λ ds'. merged ts is' ds'))
merged (turn.Finish ∷ ts) is ds =
    up_to_end is (stops LastI ts [] ds) (λ is'.
    up_to_end ds (stops LastD ts is' []) (λ ds'. stops AtEnd ts is' ds'))

-- the result of a rule that took these requests, used all messages and is in this state
abbrev pub all_used : List What → MergeState → Merged
all_used ws at = record { taken = ws; at = at; turns = []; from_i = []; from_d = [] }
