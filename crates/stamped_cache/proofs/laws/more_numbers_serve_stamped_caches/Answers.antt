use Rattle.stamped_cache.proofs.MoreNumbers.{caches-more}
use Rattle.stamped_cache.proofs.laws.more_numbers_serve_stamped_caches.Goals as goal

pub returns : goal.returns
returns c = caches-more
