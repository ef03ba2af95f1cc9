-- Inside the crate: one access to the row of its set.
use Rattle.std.specs.Prelude.{◌≡◌, ℕ, Bool, List, is_some}
use Rattle.std.specs.List.{find}
use Rattle.cache_core.specs.declared.policy.Policy.{Policy}
use Rattle.cache_core.specs.declared.ways.Way.{Way}
use Rattle.cache_core.specs.declared.access.Served.{Served}
use Rattle.cache_core.specs.Policy.{is_fifo}
use Rattle.cache_core.specs.Row.{holds_block, next_row, pushed_out}

-- how an access to the block with this first byte changes the row, and what is answered
pub record ServesRow (p : Policy) (block_addr : ℕ) (write : Bool) (old new : List Way)
    (served : Served) : Type 0 where
  pub row : new ≡ next_row p.wback p.walloc block_addr write old (find (holds_block block_addr) old)
      (is_fifo p)
  pub hit : served.hit ≡ is_some (find (holds_block block_addr) old)
  pub back : served.back ≡ pushed_out p.wback p.walloc block_addr write old
      (find (holds_block block_addr) old)
