-- Requests, as each user of a queue gets them.
use Rattle.std.proofs.Common.{◌≡◌, ℕ, ◌+◌, ◌<◌, List, [], ◌∷◌, ◌++◌, length, get_or, take}
use Rattle.std.proofs.Common.{Bool, true, false, ap, sym, ◌∙◌, append-nil, arith}
use Rattle.std.specs.Prelude.{if◌then◌else◌}
use Rattle.std.specs.List.{flat_map}
use Rattle.std.proofs.lemmas.List.{flat_map_more, take_more}
use Rattle.shared_list.specs.declared.users.Users.{Users}
use Rattle.stage_core.specs.SecondLevel.{read_as, second_history}
use Rattle.stage_core.specs.declared.message.What.{What}
use Rattle.stage_core.proofs.Stands.{second_history-more}
use Rattle.grid_run.specs.Numbering.{is_to, part_to, sent_to, what_of}
use Rattle.grid_run.specs.declared.numbered.Numbered.{Numbered}

-- what a user gets of some requests, and of one more
pub sent-more : (k : ℕ) (ws : List Numbered) (w : Numbered)
    → sent_to k (ws ++ w ∷ []) ≡ sent_to k ws ++ part_to k w.users (what_of w)
sent-more k ws w = sym (flat_map_more (λ (v : Numbered). part_to k v.users (what_of v)) [] ws w)

-- what is made of elements up to one ends with what is made of that one
pub made-to : {X A : Type 0} (f : X → List A) (ws : List A) (xs : List X) (i : ℕ) (d : X)
    → i < length xs
    → (ws ++ flat_map f (take i xs)) ++ f (get_or xs i d) ≡ ws ++ flat_map f (take (i + 1) xs)
made-to f ws xs i d lt =
    flat_map_more f ws (take i xs) (get_or xs i d)
    ∙ ap (λ l. ws ++ flat_map f l) (sym (take_more xs i d lt))

-- a user who gets a request has it last in its history
history-if : (ws : List What) (w : What) (b : Bool)
    → second_history (ws ++ (if b then w ∷ [] else []))
    ≡ (if b then read_as w ∷ second_history ws else second_history ws)
history-if ws w true = second_history-more ws w
history-if ws w false = ap second_history (append-nil ws)

pub history-part : (ws : List What) (k : ℕ) (users : Users) (w : What)
    → second_history (ws ++ part_to k users w)
    ≡ (if is_to k users w then read_as w ∷ second_history ws else second_history ws)
history-part ws k users w = history-if ws w (is_to k users w)

-- a user who gets a request gets one more than of the others
length-if : (w : What) (ws : List What) (b : Bool) → b ≡ true
    → length ((if b then w ∷ [] else []) ++ ws) ≡ length ws + 1
length-if w ws true is = omega arith
length-if w ws false is = absurd cc

pub part-counts : (k : ℕ) (users : Users) (w : What) (ws : List What) → is_to k users w ≡ true
    → length (part_to k users w ++ ws) ≡ length ws + 1
part-counts k users w ws is = length-if w ws (is_to k users w) is
