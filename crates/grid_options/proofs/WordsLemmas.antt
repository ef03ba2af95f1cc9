-- The answer to the words, from what clap says and what the grid comes to.
use Rattle.std.proofs.Common.{◌≡◌, ◌⊎◌, Bool, List, [], ◌∷◌, Result, Ok, Err, IfOk, inl, inr}
use Rattle.std.proofs.Common.{refl}
use Rattle.std.proofs.lemmas.List.Elements.{All-cons, All-nil}
use Rattle.std.specs.List.{All, AllZip}
use Rattle.clap.specs.Words.{Row, Text}
use Rattle.dinero_options.specs.Answer.{AcceptsWords, RefusesWords}
use Rattle.stage_core.specs.Events.{IsBounded}
use Rattle.dinero_options.specs.declared.opt.Opt.{Opt}
use Rattle.dinero_options.specs.declared.fault.WordsFault.{WordsFault}
use Rattle.dinero_options.specs.declared.fault.WordsFault.TheVariants.{Memory}
use Rattle.grid_options.specs.Grid.{AnswersGrid, AnswersGridWords, IsPoint, grid_app, memory}
use Rattle.grid_options.specs.Grid.{points_of, shown}
use Rattle.grid_options.specs.Own.{is_full}
use Rattle.grid_options.specs.declared.grid.GridPoint.{GridPoint}
use Rattle.grid_options.specs.declared.grid.ParsedGrid.{ParsedGrid}
use Rattle.grid_options.specs.declared.fault.GridWordsFault.{GridWordsFault}
use Rattle.grid_options.specs.declared.fault.GridWordsFault.TheVariants.{Words}

pub answers_matches : (words : List Text) (rows : List Row) (r : Result ParsedGrid GridWordsFault)
    → AcceptsWords grid_app words rows → (r ≡ Err memory) ⊎ AnswersGrid rows r
    → AnswersGridWords words r
answers_matches words rows r takes (inl none) = inr (Memory, inl refl, none)
answers_matches words rows r takes (inr answers) = inl (rows, takes, answers)

pub answers_refusal : (words : List Text) (f : WordsFault) → RefusesWords grid_app words f
    → AnswersGridWords words (Err (Words f))
answers_refusal words f refused = inr (f, refused, refl)

-- the selection of each point is within its bounds
points_bounded : (full : Bool) (xs : List Opt) (ts : List (List Text)) (ps : List GridPoint)
    → AllZip (IsPoint full xs) ts ps → All (λ p. IsBounded p.selection) ps
points_bounded full xs [] [] h = All-nil (λ p. IsBounded p.selection)
points_bounded full xs [] (p ∷ ps) h = absurd h
points_bounded full xs (t ∷ ts) [] h = absurd h
points_bounded full xs (t ∷ ts) (p ∷ ps) h =
    All-cons (λ q. IsBounded q.selection) p ps h.0.bound (points_bounded full xs ts ps h.1)

pub grid_bounded : (rows : List Row) (r : Result ParsedGrid GridWordsFault)
    → (r ≡ Err memory) ⊎ AnswersGrid rows r
    → IfOk r (λ g. All (λ p. IsBounded p.selection) g.points.items)
grid_bounded rows (Ok g) (inl none) = cc
grid_bounded rows (Ok g) (inr is) =
    let full = is_full rows in
    points_bounded full (shown full rows) (points_of rows) g.points.items is.1.points
grid_bounded rows (Err f) h = tt
