-- What is made of the items of a list, each with those before it: of two lists in a row, and of one
-- more item.
use Rattle.std.proofs.Common.{◌≡◌, List, [], ◌∷◌, ◌++◌, refl, sym, ap, ◌∙◌, append_assoc}
use Rattle.std.proofs.Common.{append-nil}
use Rattle.stage_core.specs.Places.{flat_map_after, flat_map_with_past}

-- what is made of two lists in a row is what is made of the first, and then of the second after it
pub flat_map_after-append : {A B : Type 0} (f : List A → A → List B) (before xs ys : List A)
    → flat_map_after f before (xs ++ ys)
    ≡ flat_map_after f before xs ++ flat_map_after f (before ++ xs) ys
flat_map_after-append f before [] ys = rw append-nil refl
flat_map_after-append f before (x ∷ xs) ys =
    ap (λ zs. f before x ++ zs) (flat_map_after-append f (before ++ x ∷ []) xs ys)
    ∙ ap (λ zs. f before x ++ (flat_map_after f (before ++ x ∷ []) xs ++ flat_map_after f zs ys))
    (append_assoc before (x ∷ []) xs)
    ∙ sym (append_assoc (f before x) _ _)

-- one item more adds what is made of it after all the others
pub flat_map_with_past-more : {A B : Type 0} (f : List A → A → List B) (xs : List A) (x : A)
    → flat_map_with_past f (xs ++ x ∷ []) ≡ flat_map_with_past f xs ++ f xs x
flat_map_with_past-more f xs x = flat_map_after-append f [] xs (x ∷ [])
    ∙ ap (λ zs. flat_map_with_past f xs ++ zs) (append-nil (f xs x))
