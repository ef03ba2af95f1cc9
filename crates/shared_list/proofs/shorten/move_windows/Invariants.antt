use Rattle.std.proofs.Common.{◌≡◌, ◌≤◌, ◌++◌, ℕ, map, take, drop, get_or}
use Rattle.shared_list.specs.Windows.{at_place, no_window}
use Rattle.shared_list.proofs.shorten.move_windows.Given as goal

-- the windows that were passed were moved, and the others are as they were
abbrev pub invariant-loop-window : goal.invariant-loop-window
invariant-loop-window l = record {
  moved : take l.window-index l.window-items
      ++ map (at_place l.before) (drop l.window-index l.window-items)
      ≡ map (at_place l.before) l.initial.window-items;
  left : (k : ℕ) → l.window-index ≤ k →
      get_or l.window-items k no_window ≡ get_or l.initial.window-items k no_window;
}
