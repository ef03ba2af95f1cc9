use Rattle.std.proofs.Common.{◌≡◌, ◌≤◌, ◌-◌, ℕ, List, [], ◌∷◌, length, get_or, cond, refl, sym, ap}
use Rattle.std.proofs.Common.{◌∙◌, arith}
use Rattle.std.proofs.lemmas.Bool.{le-ltb, lt-ltb}
use Rattle.grid_core.specs.Slot.{slot_of}
use Rattle.grid_core.proofs.WordRows.{lost-word}
use Rattle.grid_core.proofs.front.lost_by.Goals as goal

pub returns-then-position-row : goal.returns-then-position-row
returns-then-position-row c = λ stride sets set.
    let ws = c.args.row.now in
    sym (lost-word stride sets set c.args.position ws
    ∙ ap (λ t. slot_of stride sets set (cond t 0 (get_or ws (length ws - 1) 0)))
    (lt-ltb c.args.position (length ws) c.if-position-row.true))

pub returns-then-row-eq0 : goal.returns-then-row-eq0
returns-then-row-eq0 c = λ stride sets set.
    let ws = c.args.row.now in
    let far = c.if-position-row.false in
    sym (lost-word stride sets set c.args.position ws
    ∙ ap (λ t. slot_of stride sets set (cond t 0 (get_or ws (length ws - 1) 0)))
    (le-ltb c.args.position (length ws) (omega arith))
    ∙ ap (slot_of stride sets set) (none-there ws (omega (arith, c.if-row-eq0.true))))
  where
    none-there : (ws : List ℕ) → length ws ≤ 0 → get_or ws (length ws - 1) 0 ≡ 0
    none-there [] le = refl
    none-there (w ∷ ws) le = absurd (omega arith)
