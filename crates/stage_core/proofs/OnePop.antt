-- The merge's rule after one more message.
use Rattle.std.proofs.Common.{◌≡◌, List, [], ◌∷◌, ◌++◌, sym, ap, ◌∙◌, append-nil, subst}
use Rattle.std.proofs.lemmas.List.Concat.{flat_map-append}
use Rattle.stage_core.specs.Merging.{merged, all_used, MergeState, AtOrder, wanted, after_turn}
use Rattle.stage_core.specs.Merging.{after_message, what_in, want_of}
use Rattle.stage_core.specs.Network.Sides.{of_side}
use Rattle.stage_core.specs.declared.message.Side.{Side}
use Rattle.stage_core.specs.declared.message.Side.TheVariants as side
use Rattle.stage_core.specs.declared.message.What.{What}
use Rattle.stage_core.specs.declared.message.Want.TheVariants as want
use Rattle.stage_core.specs.declared.message.Turn.{Turn}
use Rattle.stage_core.specs.declared.message.FromStage.{FromStage}
use Rattle.stage_core.proofs.Pops.{Pop, Turned, From, Log, log, from_log, turn_in, turns_of}
use Rattle.stage_core.proofs.Pops.{message_from, from_of, request_in, requests_of, state_after}
use Rattle.stage_core.proofs.Pops.{Lawful, Lawful-more, state_after-append}

-- a rule that has used three lists up has a log of its pops
pub used_log : {o : List Turn} {i d : List FromStage} {ws : List What} {at : MergeState}
    → merged o i d ≡ all_used ws at → Log AtOrder o i d (all_used ws at)
used_log {o} {i} {d} e = subst (Log AtOrder o i d) e (log AtOrder o i d)

-- its pops took all turns
pub used_turns : {o : List Turn} {i d : List FromStage} {ws : List What} {at : MergeState}
    (l : Log AtOrder o i d (all_used ws at)) → turns_of l.pops ≡ o
used_turns l = sym (append-nil _) ∙ l.turns

-- and all messages of each side
pub used_from : (s : Side) {o : List Turn} {i d : List FromStage} {ws : List What}
    {at : MergeState} (l : Log AtOrder o i d (all_used ws at)) → from_of s l.pops ≡ of_side s i d
used_from side.I l = sym (append-nil _) ∙ l.from side.I
used_from side.D l = sym (append-nil _) ∙ l.from side.D

-- if the rule has used all messages, it also uses the one that an allowed pop adds
merged-pop : (o : List Turn) (i d : List FromStage) (ws : List What) (at : MergeState) (p : Pop)
    → merged o i d ≡ all_used ws at → Lawful at (p ∷ [])
    → merged (o ++ turns_of (p ∷ [])) (i ++ from_of side.I (p ∷ [])) (d ++ from_of side.D (p ∷ []))
    ≡ all_used (ws ++ requests_of (p ∷ [])) (state_after at (p ∷ []))
merged-pop o i d ws at p e h =
    let l : Log AtOrder o i d (all_used ws at) = used_log e in
    let ps : List Pop = l.pops ++ p ∷ [] in
    let turns : turns_of ps ≡ o ++ turns_of (p ∷ []) = flat_map-append turn_in l.pops (p ∷ [])
    ∙ ap (λ x. x ++ turns_of (p ∷ [])) (used_turns l) in
    let from : (s : Side) → from_of s ps ≡ of_side s i d ++ from_of s (p ∷ []) =
    λ s. flat_map-append (message_from s) l.pops (p ∷ [])
    ∙ ap (λ x. x ++ from_of s (p ∷ [])) (used_from s l) in
    let requests : requests_of ps ≡ ws ++ requests_of (p ∷ []) =
    flat_map-append request_in l.pops (p ∷ []) ∙ ap (λ x. x ++ requests_of (p ∷ [])) l.taken in
    let ends : state_after AtOrder ps ≡ state_after at (p ∷ []) =
    state_after-append l.pops (p ∷ []) AtOrder ∙ ap (λ x. state_after x (p ∷ [])) l.at_end in
    let lawful : Lawful AtOrder ps =
    Lawful-more l.pops AtOrder p l.lawful (subst (λ x. Lawful x (p ∷ [])) (sym l.at_end) h) in
    ap (λ x. merged x (i ++ from_of side.I (p ∷ [])) (d ++ from_of side.D (p ∷ []))) (sym turns)
    ∙ ap (λ x. merged (turns_of ps) x (d ++ from_of side.D (p ∷ []))) (sym (from side.I))
    ∙ ap (merged (turns_of ps) (from_of side.I ps)) (sym (from side.D))
    ∙ from_log ps AtOrder lawful
    ∙ ap (λ x. all_used x (state_after AtOrder ps)) requests
    ∙ ap (all_used (ws ++ requests_of (p ∷ []))) ends

-- with the turn that it wants, the rule uses up one turn more
pub merged-turn : (o : List Turn) (i d : List FromStage) (ws : List What) (at : MergeState)
    (t : Turn)
    → merged o i d ≡ all_used ws at → wanted at ≡ want.Order
    → merged (o ++ t ∷ []) i d ≡ all_used ws (after_turn t)
merged-turn o i d ws at t e h =
    simp append-nil at (merged-pop o i d ws at (Turned t) e (h, tt))

-- with the message of a side that it wants, it uses up one of that side's more
pub merged-from : (s : Side) (o : List Turn) (i d : List FromStage) (ws : List What)
    (at : MergeState) (m : FromStage)
    → merged o i d ≡ all_used ws at → wanted at ≡ want_of s
    → merged o (of_side s (i ++ m ∷ []) i) (of_side s d (d ++ m ∷ []))
    ≡ all_used (ws ++ what_in m) (after_message at m)
merged-from side.I o i d ws at m e h =
    simp append-nil at (merged-pop o i d ws at (From side.I m) e (h, tt))
merged-from side.D o i d ws at m e h =
    simp append-nil at (merged-pop o i d ws at (From side.D m) e (h, tt))
