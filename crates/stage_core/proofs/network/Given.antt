-- In every state, the second level was given at most as many requests as it gets in all.
use Rattle.std.proofs.Common.{◌≡◌, ℕ, ◌+◌, ◌≤◌, List, [], ◌∷◌, length, refl, ap}
use Rattle.std.proofs.Common.{arith, length-append}
use Rattle.stage_core.specs.SecondLevel.{Parts, second_level_requests}
use Rattle.stage_core.specs.Streams.{order, from_side}
use Rattle.stage_core.specs.Merging.{MergeState, AtOrder, AtEnd, merged, all_used, what_in}
use Rattle.stage_core.specs.Network.{Network, Consistent, lane}
use Rattle.stage_core.specs.Network.Rings.{carried}
use Rattle.din_trace.specs.declared.record.DinRecord.{DinRecord}
use Rattle.stage_core.specs.declared.message.Side.{Side}
use Rattle.stage_core.specs.declared.message.Side.TheVariants as side
use Rattle.stage_core.specs.declared.message.What.{What}
use Rattle.stage_core.specs.declared.message.Turn.{Turn}
use Rattle.stage_core.specs.declared.message.FromStage.{FromStage}
use Rattle.stage_core.specs.declared.message.FromStage.TheVariants as from_stage
use Rattle.stage_core.proofs.network.Sums.{total, total-append}
use Rattle.stage_core.proofs.Pops.{Pop, Turned, From, Log, from_of, requests_of}
use Rattle.stage_core.proofs.OnePop.{used_log, used_from}
use Rattle.stage_core.proofs.Merged.{merged-streams}
use Rattle.stage_core.proofs.network.Schedules.{from-prefix}

-- does a message bring a part?
abbrev pub part_in : FromStage → ℕ
part_in (from_stage.Part p n w) = 1
part_in (from_stage.Done p n) = 0
part_in from_stage.Finish = 0

what-count : (m : FromStage) → length (what_in m) ≡ part_in m
what-count (from_stage.Part p n w) = refl
what-count (from_stage.Done p n) = refl
what-count from_stage.Finish = refl

requests-count : (ps : List Pop) → length (requests_of ps)
    ≡ total part_in (from_of side.I ps) + total part_in (from_of side.D ps)
requests-count [] = refl
requests-count (Turned t ∷ ps) = requests-count ps
requests-count (From side.I m ∷ ps) = omega (
  arith,
  requests-count ps,
  what-count m,
  length-append (what_in m) (requests_of ps),
)
requests-count (From side.D m ∷ ps) = omega (
  arith,
  requests-count ps,
  what-count m,
  length-append (what_in m) (requests_of ps),
)

-- the rule takes as many parts as the messages bring that it pops
pub merged-count : (o : List Turn) (i d : List FromStage) (ws : List What) (at : MergeState)
    → merged o i d ≡ all_used ws at → length ws ≡ total part_in i + total part_in d
merged-count o i d ws at e =
    let l : Log AtOrder o i d (all_used ws at) = used_log e in
    omega (
      arith,
      requests-count l.pops,
      ap (total part_in) (used_from side.I l),
      ap (total part_in) (used_from side.D l),
      ap length l.taken,
    )

-- the second level was given no more than it is to see in all
pub given-few : (parts : Parts) (es : List DinRecord) (n : Network) → Consistent parts es n
    → length n.given ≤ length (second_level_requests parts es)
given-few parts es n k =
    let now = merged-count n.order.popped n.i.from.popped n.d.from.popped n.given n.at k.merge in
    let all = merged-count (order es) (from_side parts side.I es) (from_side parts side.D es)
    (second_level_requests parts es) AtEnd (merged-streams parts es) in
    let few : (s : Side)
    → total part_in (lane s n).from.popped ≤ total part_in (from_side parts s es) =
    λ s. omega (
      arith,
      ap (total part_in) (from-prefix parts es n k s).1,
      total-append part_in (carried (lane s n).from) (from-prefix parts es n k s).0,
      total-append part_in (lane s n).from.popped (lane s n).from.waiting,
    ) in
    omega (arith, now, all, few side.I, few side.D)
