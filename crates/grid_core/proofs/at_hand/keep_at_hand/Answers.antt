use Rattle.grid_core.proofs.at_hand.keep_at_hand.Goals as goal

pub returns : goal.returns
returns c m right is = c.put_in_place.ensures m (c.make_places.ensures m right) is
