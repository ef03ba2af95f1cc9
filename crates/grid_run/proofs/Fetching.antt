-- Fetches that follow one another: what they add to histories, and to what is sent.
use Rattle.std.proofs.Common.{◌≡◌, ◌++◌, ◌∷◌, [], ℕ, List, refl, ap, sym, ◌∙◌, append-nil}
use Rattle.std.proofs.Common.{append_assoc}
use Rattle.std.specs.List.{All, flat_map}
use Rattle.std.proofs.lemmas.List.Elements.{All-head, All-tail}
use Rattle.cache_core.specs.History.{Rules, access}
use Rattle.cache_core.specs.declared.access.Access.{Access}
use Rattle.din_trace.specs.declared.record.DinRecord.{DinRecord}
use Rattle.din_trace.specs.declared.record.Label.{Label}
use Rattle.din_trace.specs.declared.record.Label.TheVariants as label
use Rattle.stage_core.specs.Events.{asked_by, history}
use Rattle.stage_core.specs.Places.{flat_map_after}
use Rattle.stage_core.specs.SecondLevel.{Parts, parts_of, second_level_requests, sent_up}
use Rattle.stage_core.specs.declared.message.Side.TheVariants as side
use Rattle.stage_core.specs.declared.message.What.{What}
use Rattle.stage_core.proofs.Place.{flat_map_after-append}
use Rattle.stage_core.proofs.Worked.{second_level_requests-more}
use Rattle.grid_run.specs.Fetching.{AsksNoData, fetched}
use Rattle.grid_run.proofs.Events.{history-none}

-- of two lists that are nothing together, each is nothing
both-nothing : (ws us : List What) → ws ++ us ≡ [] → (ws ≡ []) × (us ≡ [])
both-nothing [] us none = (refl, none)
both-nothing (w ∷ ws) us none = absurd cc

-- where nothing is sent for some events, and nothing for one more, nothing is sent for them all
pub fetched-more : (r : Rules) (es more : List DinRecord) (e : DinRecord) → fetched r es more ≡ []
    → sent_up (parts_of r) side.I (es ++ more) e ≡ [] → fetched r es (more ++ e ∷ []) ≡ []
fetched-more r es more e none last =
    let one = sent_up (parts_of r) side.I (es ++ more) e in
    flat_map_after-append (sent_up (parts_of r) side.I) es more (e ∷ [])
    ∙ ap (λ (ws : List What). fetched r es more ++ ws) (append-nil one)
    ∙ ap (λ (ws : List What). ws ++ one) none ∙ last

-- an event that makes an access to the instruction caches asks nothing of the data caches
pub asks-no-data : (l : Label) (a : ℕ) (x : Access) → access x ∷ [] ≡ asked_by side.I l a
    → asked_by side.D l a ≡ []
asks-no-data label.Instr a x one = refl
asks-no-data label.Read a x one = absurd cc
asks-no-data label.Write a x one = absurd cc
asks-no-data label.Misc a x one = absurd cc
asks-no-data label.Flush a x one = absurd cc

-- events that ask nothing of the data caches leave their history
pub data-stay : (es more : List DinRecord) → All AsksNoData more
    → history side.D es ≡ history side.D (es ++ more)
data-stay es [] none = ap (history side.D) (sym (append-nil es))
data-stay es (e ∷ more) none =
    history-none side.D es e (All-head AsksNoData e more none)
    ∙ data-stay (es ++ e ∷ []) more (All-tail AsksNoData e more none)
    ∙ ap (history side.D) (append_assoc es (e ∷ []) more)

-- and add no requests to the second level, if the instruction cache sends nothing for them
pub requests-stay : (parts : Parts) (es more : List DinRecord)
    → flat_map_after (sent_up parts side.I) es more ≡ [] → All AsksNoData more
    → second_level_requests parts es ≡ second_level_requests parts (es ++ more)
requests-stay parts es [] none no_data = ap (second_level_requests parts) (sym (append-nil es))
requests-stay parts es (e ∷ more) none no_data =
    let before = second_level_requests parts es in
    let i = sent_up parts side.I es e in
    let d = sent_up parts side.D es e in
    let apart = both-nothing i (flat_map_after (sent_up parts side.I) (es ++ e ∷ []) more) none in
    let empty : d ≡ [] = ap (flat_map (parts side.D (history side.D es)))
    (All-head AsksNoData e more no_data) in
    sym (append-nil before)
    ∙ ap (λ (ws : List What). before ++ (ws ++ [])) (sym apart.0)
    ∙ ap (λ (ws : List What). before ++ (i ++ ws)) (sym empty)
    ∙ sym (second_level_requests-more parts es e)
    ∙ requests-stay parts (es ++ e ∷ []) more apart.1 (All-tail AsksNoData e more no_data)
    ∙ ap (second_level_requests parts) (append_assoc es (e ∷ []) more)
