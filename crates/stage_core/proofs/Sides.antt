-- What holds of both sides holds of each.
use Rattle.std.proofs.Common.{◌≡◌, ◌⊎◌, inl, inr}
use Rattle.stage_core.specs.Merging.{want_of}
use Rattle.stage_core.specs.declared.message.Side.{Side}
use Rattle.stage_core.specs.declared.message.Side.TheVariants as side
use Rattle.stage_core.specs.declared.message.Want.{Want}
use Rattle.stage_core.specs.declared.message.Want.TheVariants as want

-- what holds for both sides holds for each
pub each_side : (P : Side → Type 0) → P side.I → P side.D → (s : Side) → P s
each_side P i d side.I = i
each_side P i d side.D = d

-- a merge that wants a side's message wants I's or D's
pub one-wanted : (s : Side) (w : Want) → w ≡ want_of s → (w ≡ want.I) ⊎ (w ≡ want.D)
one-wanted side.I w is = inl is
one-wanted side.D w is = inr is
