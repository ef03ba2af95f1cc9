-- The replacement of a policy.
use Rattle.std.specs.Prelude.{Bool, true, false}
use Rattle.cache_core.specs.declared.policy.Policy.{Policy}
use Rattle.cache_core.specs.declared.policy.Repl.TheVariants.{Lru, Fifo}

-- whether blocks are replaced first in first out
abbrev pub is_fifo : Policy → Bool
is_fifo p = elim p.repl as (λ _. Bool) [ Fifo ↦ true | Lru ↦ false ]
