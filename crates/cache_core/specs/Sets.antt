-- The ways of all sets, which are kept as rows or as maps.
use Rattle.std.specs.Prelude.{ℕ, ◌*◌, Bool, ◌&&◌, ◌==◌, vec_len, List}
use Rattle.cache_core.specs.declared.ways.Way.{Way}
use Rattle.cache_core.specs.declared.sets.Sets.{Sets}
use Rattle.cache_core.specs.declared.sets.Sets.TheVariants.{Rows, Maps}
use Rattle.cache_core.specs.Mapped.{flat}

-- all ways, set by set
abbrev pub ways_in : Sets → List Way
ways_in s = elim s as (λ _. List Way) [ Rows v ↦ v.items | Maps m ↦ flat m.assoc m.sets.items ]

-- rows have as many ways as `count` sets of `assoc`; maps are `count` sets of `assoc` ways each
abbrev pub has_shape : ℕ → ℕ → Sets → Bool
has_shape count assoc s =
    elim s as (λ _. Bool) [
      | Rows v ↦ vec_len v ==
          count * assoc
      | Maps m ↦ (m.assoc == assoc) && (vec_len m.sets == count)
    ]
