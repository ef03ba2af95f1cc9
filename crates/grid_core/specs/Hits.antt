-- What a hit does.
use Rattle.std.specs.Prelude.{Bool, true, false, None}
use Rattle.cache_core.specs.declared.access.Outcome.{Outcome}

-- the outcome of a hit, by whether it is a write that is sent on
abbrev pub hit_made : Bool → Outcome
hit_made through = record {
  hit = true;
  kind = None;
  back = None;
  fetch = false;
  through = through;
}
