use Rattle.std.proofs.Common.{◌≡◌, ◌<◌, ℕ, get_or}
use Rattle.shared_list.specs.Windows.{no_window}
use Rattle.shared_list.proofs.window.restart_each.Given as goal

-- the windows that were passed are back at the start
abbrev pub invariant-loop-window : goal.invariant-loop-window
invariant-loop-window l =
    (k : ℕ) → k < l.window-index → get_or l.window-items k no_window ≡ no_window
