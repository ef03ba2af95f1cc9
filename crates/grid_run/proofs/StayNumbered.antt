-- Requests that keep the numbers of their blocks, while others join them.
use Rattle.std.proofs.Common.{◌≡◌, ◌∷◌, ◌++◌, [], List, ℕ, length, ap, sym, append-nil, arith}
use Rattle.std.specs.List.{All}
use Rattle.cache_core.specs.Geometry.{bsize_of}
use Rattle.cache_core.specs.Lists.{IsBeginning}
use Rattle.grid_core.proofs.MoreNumbers.{on-further}
use Rattle.grid_run.specs.Backs.{HasNone, HasNumbers, QueuesStayNumbered}
use Rattle.grid_run.specs.Numbering.{IsNumbered, StayNumbered}
use Rattle.grid_run.specs.declared.numbered.Numbered.{Numbered}
use Rattle.grid_run.specs.declared.queue.Queue.{Queue}
use Rattle.grid_run.proofs.Growing.{all-push}
use Rattle.grid_run.proofs.MoreNumbers.{all-numbered-more}

-- a list begins with itself
pub on-same : (blocks : List ℕ) → IsBeginning blocks blocks
on-same blocks = ([], sym (append-nil blocks))

-- nothing has joined them
pub stay-same : (n : ℕ) (blocks : List ℕ) (ws : List Numbered) → StayNumbered n blocks ws blocks ws
stay-same n blocks ws = record { grows = on-same blocks; each = λ all. all }

-- one has joined them
pub stay-push : (n : ℕ) (before after : List ℕ) (old new : List Numbered) (w : Numbered)
    → IsBeginning before after → new ≡ old ++ w ∷ [] → IsNumbered after n w
    → StayNumbered n before old after new
stay-push n before after old new w grows is own = record {
  grows = grows;
  each = λ all. all-push (IsNumbered after n) old new w is
      (all-numbered-more before after grows n old all) own;
}

-- some have joined them, and then others
pub stay-on : {n : ℕ} {start before after : List ℕ} {first old new : List Numbered}
    → StayNumbered n start first before old → StayNumbered n before old after new
    → StayNumbered n start first after new
stay-on {start = start} {before = before} {after = after} one other = record {
  grows = on-further start before after one.grows other.grows;
  each = λ all. other.each (one.each all);
}

-- a queue keeps its numbers where there are more
pub queue-more : (before after : List ℕ) (q : Queue) → IsBeginning before after
    → HasNumbers before q → HasNumbers after q
queue-more before after q on has = record {
  each = all-numbered-more before after on (bsize_of q.first) q.waiting.items has.each;
}

-- queues that are given nothing
pub queues-same : (blocks : List ℕ) (qs : List Queue) → QueuesStayNumbered blocks qs blocks qs
queues-same blocks qs = record { grows = on-same blocks; each = λ all. all }

-- queues that are given nothing, while blocks get numbers
pub queues-more : (before after : List ℕ) (qs : List Queue) → IsBeginning before after
    → QueuesStayNumbered before qs after qs
queues-more before after qs on = record {
  grows = on;
  each = λ all k d lt. queue-more before after _ on (all k d lt);
}

-- queues that are given something, and then something else
pub queues-on : {start before after : List ℕ} {first old new : List Queue}
    → QueuesStayNumbered start first before old → QueuesStayNumbered before old after new
    → QueuesStayNumbered start first after new
queues-on {start = start} {before = before} {after = after} one other = record {
  grows = on-further start before after one.grows other.grows;
  each = λ all. other.each (one.each all);
}

-- queues in which nothing waits have all numbers
pub none-numbered : (blocks : List ℕ) (qs : List Queue) → All HasNone qs
    → All (HasNumbers blocks) qs
none-numbered blocks qs none k d lt = record {
  each = λ j e inside. absurd (let long = ap (λ (l : List Numbered). length l) (none k d lt).none in
      omega arith);
}
