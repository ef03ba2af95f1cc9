-- If each thread did its part and all messages were received, the whole run is as `HasRun` says.
use Rattle.std.proofs.Common.{◌≡◌, ℕ, true, List, [], ◌∷◌, ◌++◌, refl, ap, sym, ◌∙◌, subst}
use Rattle.pipe_rings.specs.Rings.{sent, received}
use Rattle.din_trace.specs.declared.record.DinRecord.{DinRecord}
use Rattle.cache_core.specs.Counts.{counts_of}
use Rattle.cache_core.specs.History.{Rules}
use Rattle.cache_core.specs.Standing.{rules_of}
use Rattle.cache_core.specs.declared.counts.Counts.{Counts}
use Rattle.stage_core.specs.Places.{flat_map_after}
use Rattle.stage_core.specs.Events.{history}
use Rattle.stage_core.specs.SecondLevel.{Hierarchy, Parts, parts_of, parts_in, rules_at}
use Rattle.stage_core.specs.SecondLevel.{second_level_requests, second_history}
use Rattle.stage_core.specs.Streams as streams
use Rattle.stage_core.specs.Streams.{answered, replies, taken_in, to_side, from_side}
use Rattle.stage_core.specs.Merging.{merged, all_used, AtEnd, Merged}
use Rattle.stage_core.specs.Laws.{MergeTakesTheRequests, StagesAnswerTheirStreams}
use Rattle.stage_core.specs.Standing.{StageStandsFor, L2StandsFor, cache_of, side_of}
use Rattle.stage_core.specs.Standing.{l2_cache}
use Rattle.stage_core.specs.Waiting.{HasPosted}
use Rattle.stage_core.specs.declared.message.Side.{Side}
use Rattle.stage_core.specs.declared.message.Side.TheVariants as side
use Rattle.stage_core.specs.declared.message.What.{What}
use Rattle.stage_core.specs.declared.message.Turn.{Turn}
use Rattle.stage_core.specs.declared.message.ToStage.{ToStage}
use Rattle.stage_core.specs.declared.message.FromStage.{FromStage}
use Rattle.stage_core.specs.declared.message.FromStage.TheVariants as from_stage
use Rattle.stage_core.specs.declared.totals.Totals.{Totals}
use Rattle.stage_core.specs.declared.l1_stage.L1Stage.{L1Stage}
use Rattle.stage_core.specs.declared.l2_stage.L2Stage.{L2Stage}
use Rattle.stage_core.proofs.Messages.{taken_in-to_side}
use Rattle.run_threads.specs.declared.ends.StageEnds.{StageEnds}
use Rattle.run_threads.specs.declared.ends.Rings.{Rings}
use Rattle.run_threads.specs.declared.pipeline.Machines.{Machines}
use Rattle.run_threads.specs.Ends.{Carried, whole, SameRings, AllReceived}
use Rattle.run_threads.specs.Ends.{SameSplitterEnds, SameStageEnds}
use Rattle.run_threads.specs.Ends.{on_order, on_to_i, on_to_d, on_from_i}
use Rattle.run_threads.specs.Ends.{on_from_d, HaveCapacity}
use Rattle.run_threads.specs.Threads.{StageServed, MergeServed}
use Rattle.run_threads.specs.Machines.{AreNew, IsNew, hierarchy_in}
use Rattle.run_threads.specs.Runs.{HasRun}
use Rattle.run_threads.specs.Waits.{splitter_at}
use Rattle.run_threads.proofs.Serving.{all-sent}
use Rattle.run_threads.proofs.Splitting.{same-ends}

-- a stage's ends are those of the same rings as themselves
pub same-stage_ends : (ends : StageEnds) → SameStageEnds ends ends
same-stage_ends ends = record {
  from_splitter = ((refl, refl, refl, refl), refl);
  to_merge = (((refl, refl, refl, refl), refl), refl);
}

-- rings keep their capacity if the splitter and the stages have the same ends
pub capacity-kept : (n : ℕ) (was now : Rings) → HaveCapacity n was
    → SameSplitterEnds was.splitter now.splitter → SameStageEnds was.i now.i
    → SameStageEnds was.d now.d → HaveCapacity n now
capacity-kept n was now room splitter i d = record {
  order = splitter.order.0.1 ∙ room.order;
  to_i = splitter.to_i.0.1 ∙ room.to_i;
  to_d = splitter.to_d.0.1 ∙ room.to_d;
  from_i = i.to_merge.0.1 ∙ room.from_i;
  from_d = d.to_merge.0.1 ∙ room.from_d;
}

-- if exactly these messages were sent on a ring and all were received, the ring is whole
carried-whole : {M : Type 0} (was now : Carried M) (xs : List M) → now ≡ was
    → now.received ≡ now.sent → was.sent ≡ xs → now ≡ whole xs
carried-whole was now xs same all is =
    let sent : now.sent ≡ xs = ap (λ (c : Carried _). c.sent) same ∙ is in
    ap (λ r. record { sent = now.sent; received = r }) (all ∙ sent)
    ∙ ap (λ s. record { sent = s; received = xs }) sent

-- the answers of a stage depend only on the parts of its own cache
own-parts : (c : Hierarchy) (s : Side) (before es : List DinRecord)
    → flat_map_after (answered (parts_of (rules_at c s)) s) before es
    ≡ flat_map_after (answered (parts_in c) s) before es
own-parts c s before [] = refl
own-parts c s before (e ∷ es) =
    ap (λ l. answered (parts_in c) s before e ++ l) (own-parts c s (before ++ e ∷ []) es)

-- a stage that was sent its whole stream: what it has sent, and its counts
module _ (law : StagesAnswerTheirStreams) (c : Hierarchy) (s : Side) (es : List DinRecord)
    (began : L1Stage) (start : StageEnds) (stage : L1Stage) (now : StageEnds)
    (new : IsNew s began) (own : rules_of (cache_of began) ≡ rules_at c s)
    (served : StageServed began start stage now)
    (got : received now.from_splitter ≡ to_side s es) where
  pub stage-sent : sent now.to_merge ≡ from_side (parts_in c) s es
  stage-sent =
      all-sent began start stage now served
      ∙ ap (replies (parts_of (rules_of (cache_of stage))) (side_of stage)) got
      ∙ ap (λ (x : Side). replies (parts_of (rules_of (cache_of stage))) x (to_side s es))
      (served.side ∙ new.side)
      ∙ ap (λ (r : Rules). replies (parts_of r) s (to_side s es)) (served.rules ∙ own)
      ∙ law (parts_of (rules_at c s)) s es
      ∙ ap (λ l. l ++ from_stage.Finish ∷ []) (own-parts c s [] es)

  pub stage-counted : (counts : Counts) → ((messages : List ToStage) → StageStandsFor stage messages
      → counts ≡ counts_of (rules_of (cache_of stage)) (taken_in messages))
      → counts ≡ counts_of (rules_at c s) (history s es)
  stage-counted counts counted =
      counted (received now.from_splitter) served.stands
      ∙ ap (λ (r : Rules). counts_of r (taken_in (received now.from_splitter))) (served.rules ∙ own)
      ∙ ap (λ ms. counts_of (rules_at c s) (taken_in ms)) got
      ∙ ap (counts_of (rules_at c s)) (taken_in-to_side s es)

-- the whole of a run
module _ (stages : StagesAnswerTheirStreams) (merges : MergeTakesTheRequests) (es : List DinRecord)
    (machines : Machines) (new : AreNew machines) (start : Rings) (was now : Rings)
    (i d : L1Stage) (u : L2Stage) (fed : HasPosted (splitter_at es true was.splitter))
    (ran_i : StageServed machines.i start.i i was.i)
    (ran_d : StageServed machines.d start.d d was.d)
    (ran_u : MergeServed AtEnd machines.u start.merge u was.merge) (same : SameRings was now)
    (all : AllReceived now) (ring : ℕ) (room : HaveCapacity ring start)
    (feeder : was.splitter ≡ start.splitter) where
  abbrev c : Hierarchy
  c = hierarchy_in machines

  abbrev parts : Parts
  parts = parts_in c

  -- all messages of some events, and those of the end, are the whole streams
  into-order : on_order now ≡ whole (streams.order es)
  into-order = carried-whole (on_order was) _ _ same.order all.order fed.order

  into-i : on_to_i now ≡ whole (to_side side.I es)
  into-i = carried-whole (on_to_i was) _ _ same.to_i all.to_i (fed.to side.I)

  into-d : on_to_d now ≡ whole (to_side side.D es)
  into-d = carried-whole (on_to_d was) _ _ same.to_d all.to_d (fed.to side.D)

  got-i : received was.i.from_splitter ≡ to_side side.I es
  got-i = ap (λ (x : Carried ToStage). x.received) (sym same.to_i ∙ into-i)

  got-d : received was.d.from_splitter ≡ to_side side.D es
  got-d = ap (λ (x : Carried ToStage). x.received) (sym same.to_d ∙ into-d)

  out-of-i : on_from_i now ≡ whole (from_side parts side.I es)
  out-of-i = carried-whole (on_from_i was) _ _ same.from_i all.from_i
      (stage-sent stages c side.I es machines.i start.i i was.i new.i refl ran_i got-i)

  out-of-d : on_from_d now ≡ whole (from_side parts side.D es)
  out-of-d = carried-whole (on_from_d was) _ _ same.from_d all.from_d
      (stage-sent stages c side.D es machines.d start.d d was.d new.d refl ran_d got-d)

  abbrev fed_with : Carried Turn → Carried FromStage → Carried FromStage → Merged
  fed_with order from_i from_d = merged order.received from_i.received from_d.received

  takes : fed_with (on_order now) (on_from_i now) (on_from_d now)
      ≡ all_used (second_level_requests parts es) AtEnd
  takes =
      ap (λ x. fed_with x (on_from_i now) (on_from_d now)) into-order
      ∙ ap (λ x. fed_with (whole (streams.order es)) x (on_from_d now)) out-of-i
      ∙ ap (λ x. fed_with (whole (streams.order es)) (whole (from_side parts side.I es)) x) out-of-d
      ∙ merges parts es

  served : ran_u.requests ≡ second_level_requests parts es
  served =
      ap (λ (m : Merged). m.taken) (sym ran_u.used
      ∙ sym (ap (λ x. fed_with x (on_from_i was) (on_from_d was)) same.order)
      ∙ sym (ap (λ x. fed_with (on_order now) x (on_from_d was)) same.from_i)
      ∙ sym (ap (λ x. fed_with (on_order now) (on_from_i now) x) same.from_d) ∙ takes)

  second-counted : (counts : Counts) → ((requests : List What) → L2StandsFor u requests
      → counts ≡ counts_of (rules_of (l2_cache u)) (second_history requests))
      → counts ≡ counts_of c.u (second_history (second_level_requests parts es))
  second-counted counts counted =
      counted ran_u.requests ran_u.stands
      ∙ ap (λ (r : Rules). counts_of r (second_history ran_u.requests)) ran_u.rules
      ∙ ap (λ ws. counts_of c.u (second_history ws)) served

  pub whole-run : (totals : Totals)
      → ((ms : List ToStage) → StageStandsFor i ms
      → totals.i ≡ counts_of (rules_of (cache_of i)) (taken_in ms))
      → ((ms : List ToStage) → StageStandsFor d ms
      → totals.d ≡ counts_of (rules_of (cache_of d)) (taken_in ms))
      → ((ws : List What) → L2StandsFor u ws
      → totals.u ≡ counts_of (rules_of (l2_cache u)) (second_history ws))
      → HasRun ring c es (record { totals = totals; rings = now })
  whole-run totals count_i count_d count_u = record {
    capacity = capacity-kept ring was now (capacity-kept ring start was room
        (subst (SameSplitterEnds start.splitter) (sym feeder) (same-ends start.splitter))
        ran_i.rings ran_d.rings) same.splitter same.i same.d;
    paired = same.paired;
    order = into-order;
    to_i = into-i;
    to_d = into-d;
    from_i = out-of-i;
    from_d = out-of-d;
    merged = takes;
    counted =
        ap (λ x. record { i = x; d = totals.d; u = totals.u })
        (stage-counted stages c side.I es machines.i start.i i was.i new.i refl ran_i got-i totals.i
        count_i)
        ∙ ap (λ x. record { i = counts_of c.i (history side.I es); d = x; u = totals.u })
        (stage-counted stages c side.D es machines.d start.d d was.d new.d refl ran_d got-d totals.d
        count_d)
        ∙ ap (λ x. record {
          i = counts_of c.i (history side.I es);
          d = counts_of c.d (history side.D es);
          u = x;
        }) (second-counted totals.u count_u);
  }
