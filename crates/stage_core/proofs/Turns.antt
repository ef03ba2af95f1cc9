-- The merge goes through the answers of one event, and is in the state `AtOrder` again.
use Rattle.std.proofs.Common.{◌≡◌, ℕ, ◌+◌, inl, inr, List, [], ◌∷◌, ◌++◌, map, false}
use Rattle.std.proofs.Common.{Option, Some, option_to_list, refl, sym, subst}
use Rattle.std.specs.List.{list_any}
use Rattle.cache_core.specs.History.{Event, access, flush}
use Rattle.din_trace.specs.declared.record.Label.{Label}
use Rattle.din_trace.specs.declared.record.Label.TheVariants as label
use Rattle.stage_core.specs.Events.{asked_by}
use Rattle.stage_core.specs.SecondLevel.{Parts}
use Rattle.stage_core.specs.Streams.{numbered, reply, message, turn_of, is_finish}
use Rattle.stage_core.specs.Merging.{MergeState, AtOrder, after_turn, after_end}
use Rattle.stage_core.specs.Plain.{WantsSide, AreWanted, state_after, WantsAnswers, after_answers}
use Rattle.stage_core.specs.declared.message.Side.{Side}
use Rattle.stage_core.specs.declared.message.Side.TheVariants as side
use Rattle.stage_core.specs.declared.message.What.{What}
use Rattle.stage_core.specs.declared.message.ToStage.{ToStage}
use Rattle.stage_core.specs.declared.message.ToStage.TheVariants as to_stage
use Rattle.stage_core.specs.declared.message.FromStage.{FromStage}
use Rattle.stage_core.specs.declared.message.FromStage.TheVariants as from_stage

-- a merge that wants a side takes these messages, and is then in the state after that side's answer
pub record IsTurn (at : MergeState) (ms : List FromStage) : Type 0 where
  pub wanted : AreWanted at ms
  pub after : state_after at ms ≡ after_end at

numbered-turn : (at : MergeState) (place n k : ℕ) (ws : List What) → WantsSide at
    → IsTurn at (numbered place n ws ++ from_stage.Done place k ∷ [])
numbered-turn at place n k [] wants = record { wanted = (wants, tt); after = refl }
numbered-turn at place n k (w ∷ ws) wants =
    let rest = numbered-turn at place (n + 1) k ws wants in
    record { wanted = (wants, rest.wanted); after = rest.after }

pub reply-turn : (parts : Parts) (s : Side) (before : List ToStage) (at : MergeState) (m : ToStage)
    → WantsSide at → IsTurn at (reply parts s before m)
reply-turn parts s before at (to_stage.Ref place c a) wants = numbered-turn at place 1 _ _ wants
reply-turn parts s before at (to_stage.Flush place) wants = numbered-turn at place 1 _ _ wants
reply-turn parts s before at to_stage.Finish wants = record { wanted = (wants, tt); after = refl }

-- the same of a message that an option holds
pub option-turn : (parts : Parts) (s : Side) (before : List ToStage) (at : MergeState) (m : ToStage)
    {o : Option ToStage} {ms : List FromStage} → o ≡ Some m → ms ≡ reply parts s before m
    → WantsAnswers at (option_to_list o) → IsTurn at ms
option-turn parts s before at m some sent wants =
    let answers = subst (λ (o : Option ToStage). WantsAnswers at (option_to_list o)) some wants in
    subst (IsTurn at) (sym sent) (reply-turn parts s before at m answers.0)

-- the answers of both sides to an event come when the merge wants them
pub record AreTurns (at : MergeState) (is ds : List ToStage) : Type 0 where
  pub i : WantsAnswers at is
  pub d : WantsAnswers (after_answers at is) ds
  pub after : after_answers (after_answers at is) ds ≡ AtOrder

pub turns : (l : Label) (a p : ℕ) → AreTurns (after_turn (turn_of l))
    (map (message p) (asked_by side.I l a)) (map (message p) (asked_by side.D l a))
turns label.Instr a p = record { i = (inl refl, tt); d = tt; after = refl }
turns label.Read a p = record { i = tt; d = (inr refl, tt); after = refl }
turns label.Write a p = record { i = tt; d = (inr refl, tt); after = refl }
turns label.Misc a p = record { i = tt; d = (inr refl, tt); after = refl }
turns label.Flush a p = record { i = (inl refl, tt); d = (inr refl, tt); after = refl }

-- no message of an event is Finish
pub no_finish : (p : ℕ) (es : List Event) → list_any is_finish (map (message p) es) ≡ false
no_finish p [] = refl
no_finish p (access x ∷ es) = no_finish p es
no_finish p (flush ∷ es) = no_finish p es

-- so the merge is in the same state as before the event
pub at-order : (l : Label) (a p : ℕ) {is ds : List ToStage} {turned between after : MergeState}
    → turned ≡ after_turn (turn_of l) → is ≡ map (message p) (asked_by side.I l a)
    → ds ≡ map (message p) (asked_by side.D l a)
    → between ≡ after_answers turned is → after ≡ after_answers between ds → after ≡ AtOrder
at-order l a p {is = is} {ds = ds} {turned = turned} {between = between} {after = after} t i d b e =
    let end = (turns l a p).after in cc
