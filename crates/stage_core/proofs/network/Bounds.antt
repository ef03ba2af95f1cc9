-- How many messages and requests the stages, the second level and the rings can get.
use Rattle.std.proofs.Common.{◌≡◌, ◌+◌, ◌*◌, ◌≤◌, List, [], ◌∷◌, ◌++◌, length, map, ap, arith}
use Rattle.std.proofs.Common.{length-append, refl}
use Rattle.std.specs.List.{flat_map}
use Rattle.std.proofs.lemmas.List.{length-map, length-reverse}
use Rattle.din_trace.specs.declared.record.DinRecord.{DinRecord}
use Rattle.stage_core.specs.SecondLevel.{Parts, Hierarchy, parts_in, second_level_requests}
use Rattle.stage_core.specs.Streams.{order, turn_of, to_side, from_side, asked_in, taken_in}
use Rattle.stage_core.specs.Merging.{AtEnd}
use Rattle.stage_core.specs.Network.Pushes.{sent_to}
use Rattle.stage_core.specs.Network.{Network, Consistent, lane, messages}
use Rattle.stage_core.specs.Laws.{SecondLevelSeesAtMostTwo}
use Rattle.stage_core.specs.declared.message.Side.{Side}
use Rattle.stage_core.specs.declared.message.Side.TheVariants as side
use Rattle.stage_core.specs.declared.message.Turn.{Turn}
use Rattle.stage_core.specs.declared.message.Turn.TheVariants as turn
use Rattle.stage_core.specs.declared.message.ToStage.{ToStage}
use Rattle.stage_core.specs.declared.message.ToStage.TheVariants as to_stage
use Rattle.stage_core.specs.declared.message.FromStage.{FromStage}
use Rattle.stage_core.specs.declared.message.FromStage.TheVariants as from_stage
use Rattle.stage_core.proofs.network.Sums.{total}
use Rattle.stage_core.proofs.network.Ends.{visits, few-visits, ends}
use Rattle.stage_core.proofs.network.StreamCounts.{ends-replies, visits-order}
use Rattle.stage_core.proofs.network.StateCounts.{whole-to}
use Rattle.stage_core.proofs.Merged.{merged-streams}
use Rattle.stage_core.proofs.Messages.{replies-to_side}
use Rattle.stage_core.proofs.network.Given.{part_in, merged-count, given-few}
use Rattle.stage_core.proofs.Worked.{length-second_history}

visits-few : (s : Side) (ts : List Turn) → visits s ts ≤ length ts
visits-few s [] = omega arith
visits-few s (t ∷ ts) = omega (arith, few-visits s t, visits-few s ts)

length-order : (es : List DinRecord) → length (order es) ≡ length es + 1
length-order es =
    omega (
      arith,
      length-append (map (λ (e : DinRecord). turn_of e.label) es) (turn.Finish ∷ []),
      length-map es (λ (e : DinRecord). turn_of e.label),
    )

-- a side gets at most one message for each event, and Finish
few-to_side : (s : Side) (es : List DinRecord) → length (to_side s es) ≤ length es + 1
few-to_side s es =
    omega (arith, visits-order s es, visits-few s (order es), length-order es)

few-asked_in : (ms : List ToStage) → length (flat_map asked_in ms) ≤ length ms
few-asked_in [] = omega arith
few-asked_in (to_stage.Ref p c a ∷ ms) = omega (arith, few-asked_in ms)
few-asked_in (to_stage.Flush p ∷ ms) = omega (arith, few-asked_in ms)
few-asked_in (to_stage.Finish ∷ ms) = omega (arith, few-asked_in ms)

-- so a stage serves at most as many requests
pub few-taken_in : (parts : Parts) (es : List DinRecord) (n : Network) → Consistent parts es n
    → (s : Side) → length (taken_in (lane s n).to.popped) ≤ length es + 1
few-taken_in parts es n k s =
    let l = lane s n in
    omega (
      arith,
      few-asked_in l.to.popped,
      length-reverse (flat_map asked_in l.to.popped),
      ap length (whole-to parts es n k s),
      length-append l.to.popped (l.to.waiting ++ sent_to s n.still),
      few-to_side s es,
    )

-- the second level serves at most two requests for each event, on the whole
pub few-given : SecondLevelSeesAtMostTwo → (c : Hierarchy) (es : List DinRecord) (n : Network)
    → Consistent (parts_in c) es n → length n.given ≤ 2 * length es
few-given few c es n k =
    omega (
      arith,
      few c es,
      length-second_history (second_level_requests (parts_in c) es),
      given-few (parts_in c) es n k,
    )

-- each message from a stage to the merge has a request or ends an answer
parts-ends : (ms : List FromStage) → length ms ≡ total part_in ms + ends ms
parts-ends [] = refl
parts-ends (from_stage.Part p n w ∷ ms) = omega (arith, parts-ends ms)
parts-ends (from_stage.Done p n ∷ ms) = omega (arith, parts-ends ms)
parts-ends (from_stage.Finish ∷ ms) = omega (arith, parts-ends ms)

length-from_side : (parts : Parts) (s : Side) (es : List DinRecord)
    → length (from_side parts s es) ≡ total part_in (from_side parts s es) + length (to_side s es)
length-from_side parts s es =
    omega (
      arith,
      parts-ends (from_side parts s es),
      ends-replies parts s (to_side s es),
      ap ends (replies-to_side parts s es),
    )

-- the five streams have at most seven messages for each event, and those of the end
pub few-messages : SecondLevelSeesAtMostTwo → (c : Hierarchy) (es : List DinRecord)
    → messages (parts_in c) es ≤ 7 * length es + 5
few-messages few c es =
    let parts : Parts = parts_in c in
    omega (
      arith,
      length-order es,
      few-to_side side.I es,
      few-to_side side.D es,
      length-from_side parts side.I es,
      length-from_side parts side.D es,
      merged-count (order es) (from_side parts side.I es) (from_side parts side.D es)
          (second_level_requests parts es) AtEnd (merged-streams parts es),
      few c es,
      length-second_history (second_level_requests parts es),
    )
