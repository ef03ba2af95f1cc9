-- Texts without control characters.
use Rattle.std.proofs.Common.{◌≡◌, ◌∙◌, ℕ, false, List, [], ◌∷◌, ◌++◌, ap₂}
use Rattle.std.proofs.lemmas.List.Elements.{All-push}
use Rattle.std.proofs.lemmas.Str.{encodes-append}
use Rattle.std.proofs.lemmas.List.{append-nil}
use Rattle.std.specs.Char.{encode_utf8, is_control}
use Rattle.grid_options.specs.Refusals.{HasNoControls}

-- one more character that is none leaves the text without
pub HasNoControls-push : (text : List ℕ) (c : ℕ) → HasNoControls text → is_control c ≡ false
    → HasNoControls (text ++ encode_utf8 c)
unfolding encode_utf8
HasNoControls-push text c h is = record {
  characters = h.characters ++ c ∷ [];
  spelled = encodes-append h.characters (c ∷ [])
      ∙ ap₂ (λ a b. a ++ b) h.spelled (append-nil (encode_utf8 c));
  harmless = All-push (λ d. is_control d ≡ false) h.characters c h.harmless is;
}
