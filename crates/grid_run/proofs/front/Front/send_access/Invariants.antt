use Rattle.std.proofs.Common.{◌≡◌, ◌++◌, ℕ, map, option_to_list, take}
use Rattle.std.specs.List.{flat_map, list_any}
use Rattle.cache_core.specs.Geometry.{bsize_of}
use Rattle.cache_core.specs.History.{History}
use Rattle.cache_core.specs.Parts.{outcome_of}
use Rattle.grid_core.specs.Numbered.{blocks_in}
use Rattle.grid_core.specs.Written.{rules_at_index}
use Rattle.shared_list.specs.Users.{is_user}
use Rattle.stage_core.specs.SecondLevel.{back}
use Rattle.grid_run.specs.Families.{HasServedLast}
use Rattle.grid_run.specs.Fronts.{front_rules}
use Rattle.grid_run.specs.Numbering.{StayNumbered, sent_to}
use Rattle.grid_run.specs.Senders.{cells_for}
use Rattle.grid_run.proofs.front.Front.send_access.Given as goal

-- the write-backs of the caches that were passed were added, and it is known who gets what else
-- they send
abbrev pub invariant-loop-sender : goal.invariant-loop-sender
invariant-loop-sender l = record {
  backs : (h : History) → HasServedLast l.fn.self.family h l.fn.access → (k : ℕ) →
      sent_to k l.waiting.items ≡ sent_to k l.initial.waiting.items
      ++ flat_map (λ cell. map back (option_to_list
      (outcome_of (rules_at_index (front_rules l.fn.self) cell) h l.fn.access).back))
      (cells_for k (take l.sender-index l.senders));
  fetching : (h : History) → HasServedLast l.fn.self.family h l.fn.access → (k : ℕ) →
      is_user l.fetching k ≡ list_any (λ cell.
      (outcome_of (rules_at_index (front_rules l.fn.self) cell) h l.fn.access).fetch)
      (cells_for k (take l.sender-index l.senders));
  writing : (h : History) → HasServedLast l.fn.self.family h l.fn.access → (k : ℕ) →
      is_user l.writing k ≡ list_any (λ cell.
      (outcome_of (rules_at_index (front_rules l.fn.self) cell) h l.fn.access).through)
      (cells_for k (take l.sender-index l.senders));
  numbers : StayNumbered (bsize_of l.fn.first) (blocks_in l.initial.numbers)
      l.initial.waiting.items (blocks_in l.numbers) l.waiting.items;
}
