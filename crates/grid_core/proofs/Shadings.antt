-- The places of the shadows of caches of their own.
use Rattle.std.proofs.Common.{◌≡◌, ◌==◌, ◌/◌, List, sym, ap, subst, ◌∙◌}
use Rattle.std.specs.List.{All, list_any}
use Rattle.cache_core.specs.declared.access.Access.{Access}
use Rattle.cache_core.specs.History.{History, Rules, block_of}
use Rattle.cache_core.specs.Kinds.{referenced_blocks}
use Rattle.grid_core.specs.declared.places.Place.{Place}
use Rattle.grid_core.specs.Shading.{IsShaded}
use Rattle.grid_core.proofs.After.{referenced-size}

-- whether a block is known depends on the block size alone
pub known-size : (q r : Rules) → q.bsize ≡ r.bsize → (h : History) (x : Access)
    → list_any (λ b. b == block_of q x) (referenced_blocks q h)
    ≡ list_any (λ b. b == block_of r x) (referenced_blocks r h)
known-size q r same h x =
    ap (λ n. list_any (λ b. b == x.addr / n) (referenced_blocks q h)) same
    ∙ ap (list_any (λ b. b == block_of r x)) (referenced-size q r same h)

-- shadows stay where the rules do
pub shaded-still : {rs rs' ss ss' : List Rules} {ps ps' : List (Place × Rules)}
    → All (IsShaded rs ss) ps → rs' ≡ rs → ss' ≡ ss → ps' ≡ ps → All (IsShaded rs' ss') ps'
shaded-still {rs} {rs'} {ss} {ss'} {ps} {ps'} all together shades same =
    subst (All (IsShaded rs' ss')) (sym same)
    (subst (λ (l : List Rules). All (IsShaded rs' l) ps) (sym shades)
    (subst (λ (l : List Rules). All (IsShaded l ss) ps) (sym together) all))
