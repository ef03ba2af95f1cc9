-- Words of a line, one after another.
use Rattle.std.proofs.Common.{◌≡◌, ◌∙◌, ℕ, List, [], ◌∷◌, ◌++◌, map, Option, Some, None, ap, sym}
use Rattle.std.proofs.Common.{append_assoc, append-nil}
use Rattle.std.proofs.lemmas.Grind.{flat_map-append}
use Rattle.std.proofs.lemmas.List.{map-append}
use Rattle.std.specs.Io.KnownBytes.{Appends}
use Rattle.grid_run.specs.Table.{tabbed, tabbed_line, tabbed_words}

-- nothing was written
pub appends_nothing : (x : Option (List ℕ)) → Appends x x []
appends_nothing None = tt
appends_nothing (Some x) = sym (append-nil x)

-- the words of two lists, one after the other
pub tabbed_words-append : (a b : List (List ℕ)) → tabbed_words (a ++ b)
    ≡ tabbed_words a ++ tabbed_words b
unfolding tabbed_words
tabbed_words-append a b = flat_map-append tabbed a b

-- the words of three lists
pub tabbed_words-three : (a b c : List (List ℕ))
    → tabbed_words a ++ (tabbed_words b ++ tabbed_words c) ≡ tabbed_words (a ++ (b ++ c))
tabbed_words-three a b c =
    ap (λ l. tabbed_words a ++ l) (sym (tabbed_words-append b c))
    ∙ sym (tabbed_words-append a (b ++ c))

-- one word more
pub tabbed_words-more : {A : Type 0} (text : A → List ℕ) (words : List A) (word : A)
    → tabbed_words (map text words) ++ tabbed (text word)
    ≡ tabbed_words (map text (words ++ word ∷ []))
unfolding tabbed_words
tabbed_words-more text words word =
    let one = append-nil (tabbed (text word)) in
    ap (λ l. tabbed_words (map text words) ++ l) (sym one)
    ∙ sym (tabbed_words-append (map text words) (text word ∷ []))
    ∙ ap tabbed_words (sym (map-append text words (word ∷ [])))

-- one word alone
pub word-last : (w : List ℕ) → tabbed w ≡ tabbed_words (w ∷ [])
unfolding tabbed_words
word-last w = sym (append-nil (tabbed w))

-- one word before others
pub word-then : (w : List ℕ) (b : List (List ℕ)) (y : List ℕ) → y ≡ tabbed_words b
    → tabbed w ++ y ≡ tabbed_words (w ∷ b)
unfolding tabbed_words
word-then w b y e = ap (λ l. tabbed w ++ l) e

-- some words before others
pub words-then : (a b : List (List ℕ)) (y : List ℕ) → y ≡ tabbed_words b
    → tabbed_words a ++ y ≡ tabbed_words (a ++ b)
words-then a b y e = ap (λ l. tabbed_words a ++ l) e ∙ sym (tabbed_words-append a b)

-- a line in three parts: words, other words, and the last word with the end of the line
pub line-parts : (a b : List (List ℕ)) (last : List ℕ)
    → tabbed_words a ++ (tabbed_words b ++ (last ++ 10 ∷ [])) ≡ tabbed_line (a ++ b) last
line-parts a b last =
    sym (append_assoc (tabbed_words a) (tabbed_words b) (last ++ 10 ∷ []))
    ∙ ap (λ l. l ++ (last ++ 10 ∷ [])) (sym (tabbed_words-append a b))
