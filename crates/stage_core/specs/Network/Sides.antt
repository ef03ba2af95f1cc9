-- Two values, one for each side: the one that belongs to a side, and a change of that one alone.
use Rattle.std.specs.Prelude.{◌≡◌}
use Rattle.stage_core.specs.declared.message.Side.{Side}
use Rattle.stage_core.specs.declared.message.Side.TheVariants as side

-- the value of a side, if the first one is I's and the second one is D's
abbrev pub of_side : {A : Type 0} → Side → A → A → A
of_side side.I i d = i
of_side side.D i d = d

-- the value of this side has changed like this, and the value of the other side has not changed
abbrev pub OneChanges : {A : Type 0} → Side → (A → A → Type 0) → A → A → A → A → Type 0
OneChanges side.I Changes i d i' d' = Changes i i' × (d' ≡ d)
OneChanges side.D Changes i d i' d' = (i' ≡ i) × Changes d d'
