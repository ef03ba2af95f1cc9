-- Which geometries are accepted, and which fault is answered for the others.
use Rattle.std.specs.Prelude.{ℕ, ◌/◌, ◌^◌, Bool, not, ◌||◌, if◌then◌else◌, nat_lt, Option, Some}
use Rattle.std.specs.Prelude.{None}
use Rattle.std.specs.Int.{is_power_of_two}
use Rattle.cache_core.specs.declared.geometry.GeometryFault.{GeometryFault}
use Rattle.cache_core.specs.declared.geometry.GeometryFault.TheVariants.{SizeNotPower, SizeRange}
use Rattle.cache_core.specs.declared.geometry.GeometryFault.TheVariants.{BlockNotPower, BlockRange}
use Rattle.cache_core.specs.declared.geometry.GeometryFault.TheVariants.{AssocNotPower}
use Rattle.cache_core.specs.declared.geometry.GeometryFault.TheVariants.{AssocTooLarge}

-- the number is below the lower bound or above the upper one
abbrev pub is_outside : ℕ → ℕ → ℕ → Bool
is_outside low high n = nat_lt n low || nat_lt high n

-- the first rule that a size, a block size and an associativity break, if any
unfoldable pub refusal_of : ℕ → ℕ → ℕ → Option GeometryFault
refusal_of size bsize assoc =
    if not (is_power_of_two size) then Some SizeNotPower
    else (if is_outside 4 (2 ^ 24) size then Some SizeRange
    else (if not (is_power_of_two bsize) then Some BlockNotPower
    else (if is_outside 4 4096 bsize || nat_lt size bsize then Some BlockRange
    else (if not (is_power_of_two assoc) then Some AssocNotPower
    else (if nat_lt (size / bsize) assoc then Some AssocTooLarge
    else None)))))
