-- What a contract sees of the numbers of blocks.
use Rattle.std.specs.Prelude.{ℕ, List}
use Rattle.grid_core.specs.declared.block_numbers.BlockNumbers.{BlockNumbers}

-- the blocks that have numbers: the number of each is its place
unfoldable pub blocks_in : BlockNumbers → List ℕ
blocks_in n = n.blocks.keys
