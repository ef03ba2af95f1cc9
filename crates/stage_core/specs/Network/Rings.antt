-- A ring of the network, as the list of messages that it has carried.
use Rattle.std.specs.Prelude.{ℕ, ◌+◌, List, [], ◌∷◌, ◌++◌, length, Option, Some, None, nat_lt}
use Rattle.std.specs.Prelude.{if◌then◌else◌}

-- the messages that were popped, and those that still wait, both oldest first
pub record Ring (A : Type 0) : Type 0 where
  pub popped : List A
  pub waiting : List A

-- all messages that were pushed, oldest first
abbrev pub carried : {A : Type 0} → Ring A → List A
carried r = r.popped ++ r.waiting

-- a ring that has carried nothing
abbrev pub empty_ring : {A : Type 0} → Ring A
empty_ring = record { popped = []; waiting = [] }

-- the ring after a push
abbrev pub with_message : {A : Type 0} → A → Ring A → Ring A
with_message x r = record { popped = r.popped; waiting = r.waiting ++ x ∷ [] }

-- the ring after a push, if it has room for one more message
abbrev pub push : {A : Type 0} → ℕ → A → Ring A → Option (Ring A)
push capacity x r = if nat_lt (length r.waiting) capacity then Some (with_message x r) else None

-- a pop, given the popped and the waiting messages: it is possible if a message waits
abbrev pub pop_from : {A : Type 0} → List A → List A → Option (A × Ring A)
pop_from popped [] = None
pop_from popped (x ∷ xs) = Some (x, record { popped = popped ++ x ∷ []; waiting = xs })

-- the oldest waiting message and the ring without it, if a message waits
abbrev pub pop : {A : Type 0} → Ring A → Option (A × Ring A)
pop r = pop_from r.popped r.waiting

-- how many steps were made on a ring: a push for each message, and a pop for each popped one
abbrev pub ring_steps : {A : Type 0} → Ring A → ℕ
ring_steps r = length (carried r) + length r.popped
