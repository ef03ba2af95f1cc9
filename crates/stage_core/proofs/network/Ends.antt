-- How many ends of answers the merge has popped.
use Rattle.std.proofs.Common.{◌≡◌, ℕ, ◌+◌, ◌≤◌, List, [], ◌∷◌, refl, ap, subst, arith}
use Rattle.stage_core.specs.Merging.{merged, all_used, MergeState, AtOrder, AtI, AtD, AtBoth, LastI}
use Rattle.stage_core.specs.Merging.{LastD, AtEnd, wanted, want_of, after_turn, after_end}
use Rattle.stage_core.specs.Merging.{after_message}
use Rattle.stage_core.specs.Network.Pushes.{for_side}
use Rattle.stage_core.specs.Network.Sides.{of_side}
use Rattle.stage_core.specs.declared.message.Side.{Side}
use Rattle.stage_core.specs.declared.message.Side.TheVariants as side
use Rattle.stage_core.specs.declared.message.What.{What}
use Rattle.stage_core.specs.declared.message.Want.{Want}
use Rattle.stage_core.specs.declared.message.Want.TheVariants as want
use Rattle.stage_core.specs.declared.message.Turn.{Turn}
use Rattle.stage_core.specs.declared.message.Turn.TheVariants as turn
use Rattle.stage_core.specs.declared.message.FromStage.{FromStage}
use Rattle.stage_core.specs.declared.message.FromStage.TheVariants as from_stage
use Rattle.stage_core.proofs.network.Sums.{total, total-append}
use Rattle.stage_core.proofs.OnePop.{used_log, used_turns, used_from}
use Rattle.stage_core.proofs.Pops.{Pop, Turned, From, Log, turns_of, from_of, state_after, Lawful}

-- 1 if a turn concerns a side, else 0
abbrev pub visit : Side → Turn → ℕ
visit side.I turn.I = 1
visit side.I turn.D = 0
visit side.I turn.Both = 1
visit side.I turn.Finish = 1
visit side.D turn.I = 0
visit side.D turn.D = 1
visit side.D turn.Both = 1
visit side.D turn.Finish = 1

-- a turn visits a side at most once
pub few-visits : (s : Side) (t : Turn) → visit s t ≤ 1
few-visits side.I turn.I = omega arith
few-visits side.I turn.D = omega arith
few-visits side.I turn.Both = omega arith
few-visits side.I turn.Finish = omega arith
few-visits side.D turn.I = omega arith
few-visits side.D turn.D = omega arith
few-visits side.D turn.Both = omega arith
few-visits side.D turn.Finish = omega arith

-- how many of these turns visit a side
abbrev pub visits : Side → List Turn → ℕ
visits s = total (visit s)

-- 1 if the message ends an answer, else 0
abbrev pub end : FromStage → ℕ
end (from_stage.Part p n w) = 0
end (from_stage.Done p n) = 1
end from_stage.Finish = 1

-- how many of these messages end a turn
abbrev pub ends : List FromStage → ℕ
ends = total end

-- 1 if the merge has still to take the answer of a side in this turn, else 0
abbrev pub owed : Side → MergeState → ℕ
owed side.I AtOrder = 0
owed side.I AtI = 1
owed side.I AtD = 0
owed side.I AtBoth = 1
owed side.I LastI = 1
owed side.I LastD = 0
owed side.I AtEnd = 0
owed side.D AtOrder = 0
owed side.D AtI = 0
owed side.D AtD = 1
owed side.D AtBoth = 1
owed side.D LastI = 1
owed side.D LastD = 1
owed side.D AtEnd = 0

-- 1 if the merge is in its last turn, else 0
abbrev pub last : MergeState → ℕ
last AtOrder = 0
last AtI = 0
last AtD = 0
last AtBoth = 0
last LastI = 1
last LastD = 1
last AtEnd = 1

-- is it the last turn?
abbrev pub finish : Turn → ℕ
finish turn.I = 0
finish turn.D = 0
finish turn.Both = 0
finish turn.Finish = 1

-- how many of these turns are the last
abbrev pub finishes : List Turn → ℕ
finishes = total finish

-- the other side
abbrev other : Side → Side
other side.I = side.D
other side.D = side.I

-- what the end of an answer of the side s changes, if r is the other side
abbrev EndsTurn : Side → Side → MergeState → Type 0
EndsTurn s r at = (owed s at ≡ 1) × (owed s (after_end at) ≡ 0)
    × (owed r (after_end at) ≡ owed r at) × (last (after_end at) ≡ last at)

-- what is known of the merge's state from the ring that it wants
abbrev pub Known : Want → MergeState → Type 0
Known want.Order at = (owed side.I at ≡ 0) × (owed side.D at ≡ 0) × (last at ≡ 0)
Known want.I at = EndsTurn side.I side.D at
Known want.D at = EndsTurn side.D side.I at × (owed side.I at ≡ 0)
Known want.Nothing at = (owed side.I at ≡ 0) × (owed side.D at ≡ 0) × (last at ≡ 1)

known_at : (at : MergeState) → Known (wanted at) at
known_at AtOrder = (refl, refl, refl)
known_at AtI = (refl, refl, refl, refl)
known_at AtD = ((refl, refl, refl, refl), refl)
known_at AtBoth = (refl, refl, refl, refl)
known_at LastI = (refl, refl, refl, refl)
known_at LastD = ((refl, refl, refl, refl), refl)
known_at AtEnd = (refl, refl, refl)

-- that is so wherever the merge stands
pub known : (at : MergeState) (w : Want) → wanted at ≡ w → Known w at
known at w h = subst (λ (v : Want). Known v at) h (known_at at)

-- a side whose ring the merge wants owes it the end of this turn's messages, and that end leaves
-- what the other side owes
ends-turn : (s : Side) (at : MergeState) → wanted at ≡ want_of s → EndsTurn s (other s) at
ends-turn side.I at h = known at want.I h
ends-turn side.D at h = (known at want.D h).0

-- so that side owes it
pub owed-wanted : (s : Side) (at : MergeState) → wanted at ≡ want_of s → owed s at ≡ 1
owed-wanted s at h = (ends-turn s at h).0

-- before a turn neither side owes anything
owed-order : (s : Side) (at : MergeState) → wanted at ≡ want.Order → owed s at ≡ 0
owed-order side.I at h = (known at want.Order h).0
owed-order side.D at h = (known at want.Order h).1

-- what a message of the side s changes, if r is the other side: s owes an end less, if it is one
abbrev Settles : Side → Side → MergeState → FromStage → Type 0
Settles s r at m = (end m + owed s (after_message at m) ≡ owed s at)
    × (owed r (after_message at m) ≡ owed r at) × (last (after_message at m) ≡ last at)

settles_by : (s r : Side) (at : MergeState) → EndsTurn s r at → (m : FromStage) → Settles s r at m
settles_by s r at e (from_stage.Part p n w) = (omega arith, refl, refl)
settles_by s r at e (from_stage.Done p n) = (omega (arith, e), e.2, e.3)
settles_by s r at e from_stage.Finish = (omega (arith, e), e.2, e.3)

settles : (s : Side) (at : MergeState) (m : FromStage) → wanted at ≡ want_of s
    → Settles s (other s) at m
settles s at m h = settles_by s (other s) at (ends-turn s at h) m

-- what the side s owes after a message of the side r
owed-message : (s r : Side) (at : MergeState) (m : FromStage) → wanted at ≡ want_of r
    → ends (for_side s r m) + owed s (after_message at m) ≡ owed s at
owed-message side.I side.I at m h = omega (arith, settles side.I at m h)
owed-message side.I side.D at m h = omega (arith, settles side.D at m h)
owed-message side.D side.I at m h = omega (arith, settles side.I at m h)
owed-message side.D side.D at m h = omega (arith, settles side.D at m h)

owed-turn : (s : Side) (t : Turn) → owed s (after_turn t) ≡ visit s t
owed-turn side.I turn.I = refl
owed-turn side.I turn.D = refl
owed-turn side.I turn.Both = refl
owed-turn side.I turn.Finish = refl
owed-turn side.D turn.I = refl
owed-turn side.D turn.D = refl
owed-turn side.D turn.Both = refl
owed-turn side.D turn.Finish = refl

last-turn : (t : Turn) → last (after_turn t) ≡ finish t
last-turn turn.I = refl
last-turn turn.D = refl
last-turn turn.Both = refl
last-turn turn.Finish = refl

-- the ends that were popped and the one still to come are as many as the turns of that side
ends-visits : (s : Side) (ps : List Pop) (at : MergeState) → Lawful at ps
    → ends (from_of s ps) + owed s (state_after at ps) ≡ owed s at + visits s (turns_of ps)
ends-visits s [] at h = omega arith
ends-visits s (Turned t ∷ ps) at h =
    omega (arith, ends-visits s ps (after_turn t) h.1, owed-order s at h.0, owed-turn s t)
ends-visits s (From r m ∷ ps) at h = omega (
  arith,
  ends-visits s ps (after_message at m) h.1,
  owed-message s r at m h.0,
  total-append end (for_side s r m) (from_of s ps),
)

last-finishes : (ps : List Pop) (at : MergeState) → Lawful at ps
    → last (state_after at ps) ≡ last at + finishes (turns_of ps)
last-finishes [] at h = omega arith
last-finishes (Turned t ∷ ps) at h = omega (
  arith,
  last-finishes ps (after_turn t) h.1,
  known at want.Order h.0,
  last-turn t,
)
last-finishes (From s m ∷ ps) at h =
    omega (arith, last-finishes ps (after_message at m) h.1, settles s at m h.0)

-- the ends popped from a side, with one that it owes, are as many as the turns that visit it
pub merged-ends : (s : Side) (o : List Turn) (i d : List FromStage) (ws : List What)
    (at : MergeState) → merged o i d ≡ all_used ws at
    → ends (of_side s i d) + owed s at ≡ visits s o
merged-ends s o i d ws at e =
    let l : Log AtOrder o i d (all_used ws at) = used_log e in
    omega (
      arith,
      ends-visits s l.pops AtOrder l.lawful,
      owed-order s AtOrder refl,
      ap ends (used_from s l),
      ap (visits s) (used_turns l),
      ap (owed s) l.at_end,
    )

-- the merge is in its last turn where it has popped Finish from the order ring
pub merged-last : (o : List Turn) (i d : List FromStage) (ws : List What) (at : MergeState)
    → merged o i d ≡ all_used ws at → last at ≡ finishes o
merged-last o i d ws at e =
    let l : Log AtOrder o i d (all_used ws at) = used_log e in
    let count = last-finishes l.pops AtOrder l.lawful in
    omega (arith, count, ap finishes (used_turns l), ap last l.at_end)
