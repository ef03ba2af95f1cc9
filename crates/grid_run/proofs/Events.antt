-- What one more event asks of each cache, and what the first level sends for it.
use Rattle.std.proofs.Common.{◌≡◌, ℕ, ◌<◌, ◌≤◌, ◌*◌, ◌/◌, ◌^◌, List, [], ◌∷◌, ◌++◌, length, map}
use Rattle.std.proofs.Common.{Option, Some, None, option_to_list, sym, ap, ◌∙◌, append-nil}
use Rattle.std.proofs.Common.{arith}
use Rattle.std.specs.List.{flat_map}
use Rattle.cache_core.specs.History.{History, Event, Rules, access, flush}
use Rattle.cache_core.specs.Dirty.{dirty_blocks}
use Rattle.cache_core.specs.Parts.{outcome_of}
use Rattle.cache_core.specs.declared.access.Access.{Access}
use Rattle.cache_core.specs.declared.access.Outcome.{Outcome}
use Rattle.din_trace.specs.declared.record.DinRecord.{DinRecord}
use Rattle.stage_core.specs.Events.{asked, history, newest_first}
use Rattle.stage_core.specs.Places.{list_if}
use Rattle.stage_core.specs.SecondLevel.{access_parts, back, fetch_class, flush_all, parts_of}
use Rattle.stage_core.specs.SecondLevel.{sent_up}
use Rattle.stage_core.specs.declared.message.Side.{Side}
use Rattle.stage_core.specs.declared.message.What.{What}
use Rattle.stage_core.specs.declared.message.What.TheVariants as what
use Rattle.stage_core.proofs.Stands.{history-more}
use Rattle.stage_core.proofs.Few.{few-history}
use Rattle.grid_run.specs.Sending.{event_of}
use Rattle.grid_run.specs.declared.requests.Request.{Request}

-- an event that makes a request to a side adds it to the side's history
pub history-one : (s : Side) (es : List DinRecord) (e : DinRecord) (q : Request)
    → event_of q ∷ [] ≡ asked s e → event_of q ∷ history s es ≡ history s (es ++ e ∷ [])
history-one s es e q one =
    ap (λ (l : List Event). newest_first l ++ history s es) one
    ∙ sym (history-more s es e)

-- one that makes none leaves it
pub history-none : (s : Side) (es : List DinRecord) (e : DinRecord) → asked s e ≡ []
    → history s es ≡ history s (es ++ e ∷ [])
history-none s es e none =
    ap (λ (l : List Event). newest_first l ++ history s es) (sym none)
    ∙ sym (history-more s es e)

-- what the side sends up for an event with a request is what it sends for that
pub sent-one : (s : Side) (es : List DinRecord) (e : DinRecord) (r : Rules) (q : Request)
    → event_of q ∷ [] ≡ asked s e
    → parts_of r s (history s es) (event_of q) ≡ sent_up (parts_of r) s es e
sent-one s es e r q one =
    sym (append-nil (parts_of r s (history s es) (event_of q)))
    ∙ ap (flat_map (parts_of r s (history s es))) one

-- an event may be there or not
pub few-option : {A : Type 0} (o : Option A) → length (option_to_list o) ≤ 1
few-option None = omega arith
few-option (Some x) = omega arith

-- a side has room for one more request after few events
pub few-served : (s : Side) (es : List DinRecord) → length es < 2 ^ 41
    → length (history s es) < 2 ^ 44
few-served s es short = omega (arith, few-history s es)

-- what an access sends up, part by part
pub access-parts : (r : Rules) (s : Side) (h : History) (x : Access) (o : Outcome) (first : ℕ)
    (a b c : List What) → o ≡ outcome_of r h x → first ≡ x.addr / r.bsize * r.bsize
    → a ≡ map back (option_to_list o.back)
    → b ≡ list_if o.fetch (what.Fetch (fetch_class s) first)
    → c ≡ list_if o.through (what.Through x.addr)
    → (a ++ b) ++ c ≡ parts_of r s h (access x)
unfolding parts_of
access-parts r s h x o first a b c is at backs fetches throughs =
    ap (λ l. (l ++ b) ++ c) backs
    ∙ ap (λ l. (map back (option_to_list o.back) ++ l) ++ c) fetches
    ∙ ap (λ l. (map back (option_to_list o.back)
    ++ list_if o.fetch (what.Fetch (fetch_class s) first)) ++ l) throughs
    ∙ ap (λ n. access_parts s n x o) at
    ∙ ap (λ p. access_parts s (x.addr / r.bsize * r.bsize) x p) is

-- what a flush sends up
pub flush-parts : (r : Rules) (s : Side) (h : History) (addrs : List ℕ) (more : List What)
    → addrs ≡ map (λ b. b * r.bsize) (dirty_blocks r h) → more ≡ flush_all s
    → map back addrs ++ more ≡ parts_of r s h flush
unfolding parts_of
flush-parts r s h addrs more backs last =
    ap (λ l. map back l ++ more) backs
    ∙ ap (λ l. map back (map (λ b. b * r.bsize) (dirty_blocks r h)) ++ l) last
