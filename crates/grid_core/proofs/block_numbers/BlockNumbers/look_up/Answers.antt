use Rattle.grid_core.specs.Numbers.{number_at}
use Rattle.grid_core.proofs.Numbers.{right-kept}
use Rattle.grid_core.proofs.block_numbers.BlockNumbers.look_up.Goals as goal

pub invariant_of-self : goal.invariant_of-self
invariant_of-self c = record {
  right = right-kept c.args.self.now.blocks.keys c.number_block.new.blocks.keys
      c.args.self.now.entries.items c.number_block.ensures.grows c.args.self.now.right;
}

pub invariant_of-self-2 : goal.invariant_of-self-2
invariant_of-self-2 c = record {
  right = c.keep_at_hand.ensures (number_at c.number_block.new.blocks.keys)
      (right-kept c.args.self.now.blocks.keys c.number_block.new.blocks.keys
      c.args.self.now.entries.items c.number_block.ensures.grows c.args.self.now.right)
      c.in_ok-number.ensures.number;
}
