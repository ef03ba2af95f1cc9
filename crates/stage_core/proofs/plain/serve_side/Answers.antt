use Rattle.std.proofs.Common.{◌∷◌, ◌++◌, [], List, Option, option_to_list, sym, ap, subst, ◌∙◌}
use Rattle.std.proofs.Common.{append-nil}
use Rattle.std.specs.List.{flat_map}
use Rattle.std.proofs.lemmas.Result.{on_ok_weaker}
use Rattle.cache_core.specs.Standing.{rules_of}
use Rattle.stage_core.specs.SecondLevel.{parts_of}
use Rattle.stage_core.specs.Streams.{reply}
use Rattle.stage_core.specs.Merging.{what_in}
use Rattle.stage_core.specs.Standing.{StageStandsFor, L2StandsFor, cache_of, side_of}
use Rattle.stage_core.specs.Plain.{after_answers, brought_from}
use Rattle.stage_core.specs.declared.message.What.{What}
use Rattle.stage_core.specs.declared.message.ToStage.{ToStage}
use Rattle.stage_core.proofs.Stands.{same_stands}
use Rattle.stage_core.proofs.Turns.{option-turn}
use Rattle.stage_core.proofs.plain.serve_side.Goals as goal

pub drain-requires-clause-wanted : goal.drain-requires-clause-wanted
drain-requires-clause-wanted c =
    let above = c.requires.room_above in
    (option-turn (parts_of (rules_of (cache_of c.args.stage.now))) (side_of c.args.stage.now)
    above.0 c.args.merge.now c.in-Some.message c.in-Some.is
    (c.in_ok-on.ensures.sent above.0 above.1) c.requires.wanted).wanted

pub returns-clause-merge : goal.returns-clause-merge
returns-clause-merge c =
    let above = c.requires.room_above in
    let turn = option-turn (parts_of (rules_of (cache_of c.args.stage.now)))
    (side_of c.args.stage.now) above.0 c.args.merge.now c.in-Some.message c.in-Some.is
    (c.in_ok-on.ensures.sent above.0 above.1) c.requires.wanted in
    on_ok_weaker c.drain.result (λ stands. stands ∙ turn.after
    ∙ ap (λ (o : Option ToStage). after_answers c.args.merge.now (option_to_list o))
    (sym c.in-Some.is)) c.drain.ensures.merge

pub returns-clause-stands : goal.returns-clause-stands
returns-clause-stands c =
    on_ok_weaker c.drain.result (λ empty before st.
    subst (λ (o : Option ToStage). StageStandsFor c.drain.new.stage (before ++ option_to_list o))
    (sym c.in-Some.is)
    (same_stands c.on.new.self c.drain.new.stage (before ++ c.in-Some.message ∷ [])
    c.drain.ensures.cache c.drain.ensures.finish (c.in_ok-on.ensures.stands before st)))
    c.drain.ensures.empty

pub returns-clause-second : goal.returns-clause-second
returns-clause-second c =
    let old = c.args.stage.now in
    on_ok_weaker c.drain.result (λ above before requests st sw.
    subst (λ (ws : List What). L2StandsFor c.drain.new.u (requests ++ ws))
    (ap (flat_map what_in) (c.in_ok-on.ensures.sent before st)
    ∙ sym
    (append-nil (flat_map what_in (reply (parts_of (rules_of (cache_of old))) (side_of old)
    before c.in-Some.message)))
    ∙ ap (brought_from old before) (sym c.in-Some.is)) (above requests sw)) c.drain.ensures.second
