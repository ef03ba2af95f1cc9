-- The values of an option that may have a list, and of one that may not.
use Rattle.std.proofs.Common.{◌≡◌, ◌∙◌, true, false, List, [], ◌∷◌, ap, sym}
use Rattle.std.specs.Prelude.{if◌then◌else◌}
use Rattle.clap.specs.Words.{Row, Text}
use Rattle.dinero_options.specs.declared.opt.Opt.{Opt}
use Rattle.grid_options.specs.Grid.{grid_text, pieces, takes_list, values_of}

module _ (rows : List Row) (x : Opt) (text : Text) where
  pub values_listed : takes_list x ≡ true → text ≡ grid_text rows x
      → pieces text ≡ values_of rows x
  unfolding values_of
  values_listed h e = ap pieces e
      ∙ ap (λ b. if b then pieces (grid_text rows x) else grid_text rows x ∷ []) (sym h)

  pub values_alone : takes_list x ≡ false → text ≡ grid_text rows x
      → text ∷ [] ≡ values_of rows x
  unfolding values_of
  values_alone h e = ap (λ t. t ∷ []) e
      ∙ ap (λ b. if b then pieces (grid_text rows x) else grid_text rows x ∷ []) (sym h)
