-- A variant of `flat_map` whose function also gets the items before each item.
use Rattle.std.specs.Prelude.{Bool, List, [], ◌∷◌, ◌++◌, if◌then◌else◌}

-- the lists that f gives for the items of xs, one after another; f gets all items before an item,
-- and the item
abbrev pub flat_map_after : {A B : Type 0} → (List A → A → List B) → List A → List A → List B
flat_map_after f before [] = []
flat_map_after f before (x ∷ xs) = f before x ++ flat_map_after f (before ++ x ∷ []) xs

-- the same for a whole list, with nothing before it
abbrev pub flat_map_with_past : {A B : Type 0} → (List A → A → List B) → List A → List B
flat_map_with_past f xs = flat_map_after f [] xs

-- one item or none
abbrev pub list_if : {A : Type 0} → Bool → A → List A
list_if b x = if b then x ∷ [] else []
