-- The points of a grid, as texts.
use denote.Ref.{Bor}
use Rattle.std.specs.Prelude.{List, map}
use Rattle.std.specs.Global.{Vec}
use Rattle.clap.specs.Words.{Text}

-- the texts of a point
abbrev pub texts_of : Vec (Bor Text) → List Text
texts_of p = map (λ t. t.now) p.items

-- those of each of some points
abbrev pub texts_of_points : List (Vec (Bor Text)) → List (List Text)
texts_of_points ps = map texts_of ps
