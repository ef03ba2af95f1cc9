-- The merge's rule as a list of pops, each from the ring that the merge wants then.
use Rattle.std.proofs.Common.{◌≡◌, ℕ, zero, suc, ◌+◌, ◌<◌, List, [], ◌∷◌, ◌++◌, length, refl, sym}
use Rattle.std.proofs.Common.{ap, ◌∙◌, append_assoc, arith, subst}
use Rattle.std.specs.List.{flat_map}
use Rattle.stage_core.specs.Network.Sides.{of_side}
use Rattle.stage_core.specs.Network.Pushes.{for_side}
use Rattle.stage_core.specs.Merging.{Merged, merged, all_used, up_to_end, stops, MergeState}
use Rattle.stage_core.specs.Merging.{AtOrder, AtI, AtD, AtBoth, LastI, LastD, AtEnd, wanted}
use Rattle.stage_core.specs.Merging.{after_turn, after_end, after_message, what_in, with_what}
use Rattle.stage_core.specs.Merging.{want_of}
use Rattle.stage_core.specs.declared.message.Side.{Side}
use Rattle.stage_core.specs.declared.message.Side.TheVariants as side
use Rattle.stage_core.specs.declared.message.What.{What}
use Rattle.stage_core.specs.declared.message.Want.{Want}
use Rattle.stage_core.specs.declared.message.Want.TheVariants as want
use Rattle.stage_core.specs.declared.message.Turn.{Turn}
use Rattle.stage_core.specs.declared.message.Turn.TheVariants as turn
use Rattle.stage_core.specs.declared.message.FromStage.{FromStage}
use Rattle.stage_core.specs.declared.message.FromStage.TheVariants as from_stage

-- the rule, continued from a state
abbrev pub continue : MergeState → List Turn → List FromStage → List FromStage → Merged
continue AtOrder o i d = merged o i d
continue AtI o i d = up_to_end i (stops AtI o [] d) (λ i'. merged o i' d)
continue AtD o i d = up_to_end d (stops AtD o i []) (λ d'. merged o i d')
continue AtBoth o i d = up_to_end i (stops AtBoth o [] d)
    (λ i'. up_to_end d (stops AtD o i' []) (λ d'. merged o i' d'))
continue LastI o i d = up_to_end i (stops LastI o [] d)
    (λ i'. up_to_end d (stops LastD o i' []) (λ d'. stops AtEnd o i' d'))
continue LastD o i d = up_to_end d (stops LastD o i []) (λ d'. stops AtEnd o i d')
continue AtEnd o i d = stops AtEnd o i d

-- the same answer of the rule, with these taken first
abbrev pub with_requests : List What → Merged → Merged
with_requests ws m = record m { taken = ws ++ m.taken }

-- what the rule does with the ring that is wanted: it takes the next message, or stops
abbrev Goes : Want → MergeState → Type 0
Goes want.Order at =
    ((t : Turn) (o : List Turn) (i d : List FromStage) →
    continue at (t ∷ o) i d ≡ continue (after_turn t) o i d)
    × ((i d : List FromStage) → continue at [] i d ≡ stops at [] i d)
Goes want.I at =
    ((m : FromStage) (o : List Turn) (i d : List FromStage) →
    continue at o (m ∷ i) d ≡ with_requests (what_in m) (continue (after_message at m) o i d))
    × ((o : List Turn) (d : List FromStage) → continue at o [] d ≡ stops at o [] d)
Goes want.D at =
    ((m : FromStage) (o : List Turn) (i d : List FromStage) →
    continue at o i (m ∷ d) ≡ with_requests (what_in m) (continue (after_message at m) o i d))
    × ((o : List Turn) (i : List FromStage) → continue at o i [] ≡ stops at o i [])
Goes want.Nothing at =
    (o : List Turn) (i d : List FromStage) → continue at o i d ≡ stops at o i d

at_order : (t : Turn) (o : List Turn) (i d : List FromStage)
    → merged (t ∷ o) i d ≡ continue (after_turn t) o i d
at_order turn.I o i d = refl
at_order turn.D o i d = refl
at_order turn.Both o i d = refl
at_order turn.Finish o i d = refl

-- The rule takes the next message of a side: with a Part it stays where it is, and an end leads on.
-- `from` is the rule, continued from a state, on what comes behind that message.
next_message : (m : FromStage) (ms : List FromStage) (stopped : Merged)
    (next : List FromStage → Merged) (at : MergeState) (from : MergeState → Merged)
    → from at ≡ up_to_end ms stopped next → from (after_end at) ≡ next ms
    → up_to_end (m ∷ ms) stopped next ≡ with_requests (what_in m) (from (after_message at m))
next_message (from_stage.Part p n w) ms stopped next at from stays ends =
    ap (with_what w) (sym stays)
next_message (from_stage.Done p n) ms stopped next at from stays ends = sym ends
next_message from_stage.Finish ms stopped next at from stays ends = sym ends

goes_at : (at : MergeState) → Goes (wanted at) at
goes_at AtOrder = (at_order, λ i d. refl)
goes_at AtI =
    (λ m o i d. next_message m i _ _ AtI (λ at. continue at o i d) refl refl, λ o d. refl)
goes_at AtD =
    (λ m o i d. next_message m d _ _ AtD (λ at. continue at o i d) refl refl, λ o i. refl)
goes_at AtBoth =
    (λ m o i d. next_message m i _ _ AtBoth (λ at. continue at o i d) refl refl, λ o d. refl)
goes_at LastI =
    (λ m o i d. next_message m i _ _ LastI (λ at. continue at o i d) refl refl, λ o d. refl)
goes_at LastD =
    (λ m o i d. next_message m d _ _ LastD (λ at. continue at o i d) refl refl, λ o i. refl)
goes_at AtEnd = λ o i d. refl

goes : (at : MergeState) (w : Want) → wanted at ≡ w → Goes w at
goes at w h = subst (λ (v : Want). Goes v at) h (goes_at at)

rest_by : (w : Want) (at : MergeState) → Goes w at → continue at [] [] [] ≡ all_used [] at
rest_by want.Order at g = g.1 [] []
rest_by want.I at g = g.1 [] []
rest_by want.D at g = g.1 [] []
rest_by want.Nothing at g = g [] [] []

-- on three empty lists the rule stops at once
at_rest : (at : MergeState) → continue at [] [] [] ≡ all_used [] at
at_rest at = rest_by (wanted at) at (goes_at at)

-- a pop of the merge
pub data Pop : Type 0 where
  Turned : Turn → Pop
  From : Side → FromStage → Pop

-- the turn of a pop, if it is one
abbrev pub turn_in : Pop → List Turn
turn_in (Turned t) = t ∷ []
turn_in (From s m) = []

-- the turns that were popped
abbrev pub turns_of : List Pop → List Turn
turns_of = flat_map turn_in

-- the message of a pop, if it is one from this side
abbrev pub message_from : Side → Pop → List FromStage
message_from s (Turned t) = []
message_from s (From r m) = for_side s r m

-- the messages that were popped from a side
abbrev pub from_of : Side → List Pop → List FromStage
from_of s = flat_map (message_from s)

-- the request that a pop brought, if any
abbrev pub request_in : Pop → List What
request_in (Turned t) = []
request_in (From s m) = what_in m

-- what the popped messages brought
abbrev pub requests_of : List Pop → List What
requests_of = flat_map request_in

-- where the merge stands after these pops
abbrev pub state_after : MergeState → List Pop → MergeState
state_after at [] = at
state_after at (Turned t ∷ ps) = state_after (after_turn t) ps
state_after at (From s m ∷ ps) = state_after (after_message at m) ps

-- each pop is of the ring that is wanted when it comes
abbrev pub Lawful : MergeState → List Pop → Type 0
Lawful at [] = Unit {0}
Lawful at (Turned t ∷ ps) = (wanted at ≡ want.Order) × Lawful (after_turn t) ps
Lawful at (From s m ∷ ps) = (wanted at ≡ want_of s) × Lawful (after_message at m) ps

-- a list of the pops that the rule made on three lists
pub record Log (at : MergeState) (o : List Turn) (i d : List FromStage) (m : Merged) : Type 0 where
  pub pops : List Pop
  pub lawful : Lawful at pops
  pub turns : turns_of pops ++ m.turns ≡ o
  pub from : (s : Side) → from_of s pops ++ of_side s m.from_i m.from_d ≡ of_side s i d
  pub taken : requests_of pops ≡ m.taken
  pub at_end : state_after at pops ≡ m.at

no_pop : (at : MergeState) (o : List Turn) (i d : List FromStage) → Log at o i d (stops at o i d)
no_pop at o i d = record {
  pops = [];
  lawful = tt;
  turns = refl;
  from = λ s. refl;
  taken = refl;
  at_end = refl;
}

a_turn : (at : MergeState) (t : Turn) (o : List Turn) (i d : List FromStage) (m : Merged)
    → wanted at ≡ want.Order → Log (after_turn t) o i d m → Log at (t ∷ o) i d m
a_turn at t o i d m h l =
    record {
      pops = Turned t ∷ l.pops;
      lawful = (h, l.lawful);
      turns = ap (λ x. t ∷ x) l.turns;
      from = l.from;
      taken = l.taken;
      at_end = l.at_end;
    }

-- the messages of each side, with one more of the side s in front
more_from : (s r : Side) (x : FromStage) (i d : List FromStage)
    → for_side r s x ++ of_side r i d
    ≡ of_side r (of_side s (x ∷ i) i) (of_side s d (x ∷ d))
more_from side.I side.I x i d = refl
more_from side.I side.D x i d = refl
more_from side.D side.I x i d = refl
more_from side.D side.D x i d = refl

a_message : (s : Side) (at : MergeState) (x : FromStage) (o : List Turn) (i d : List FromStage)
    (m : Merged) → wanted at ≡ want_of s → Log (after_message at x) o i d m
    → Log at o (of_side s (x ∷ i) i) (of_side s d (x ∷ d)) (with_requests (what_in x) m)
a_message s at x o i d m h l =
    record {
      pops = From s x ∷ l.pops;
      lawful = (h, l.lawful);
      turns = l.turns;
      from = λ r. append_assoc (for_side r s x) (from_of r l.pops) (of_side r m.from_i m.from_d)
          ∙ ap (λ y. for_side r s x ++ y) (l.from r) ∙ more_from s r x i d;
      taken = ap (λ y. what_in x ++ y) l.taken;
      at_end = l.at_end;
    }

-- the rule has a log, shown by cases on the ring that is wanted
by_want : (k : ℕ) (at : MergeState) (w : Want) (o : List Turn) (i d : List FromStage)
    → wanted at ≡ w
    → length o + length i + length d < suc k
    → ((at' : MergeState) (o' : List Turn) (i' d' : List FromStage)
    → length o' + length i' + length d' < k → Log at' o' i' d' (continue at' o' i' d'))
    → Log at o i d (continue at o i d)
by_want k at want.Order [] i d h lt rest = rw ((goes at want.Order h).1 i d) (no_pop at [] i d)
by_want k at want.Order (t ∷ o) i d h lt rest =
    rw ((goes at want.Order h).0 t o i d)
    (a_turn at t o i d _ h (rest (after_turn t) o i d (omega arith)))
by_want k at want.I o [] d h lt rest = rw ((goes at want.I h).1 o d) (no_pop at o [] d)
by_want k at want.I o (x ∷ i) d h lt rest =
    rw ((goes at want.I h).0 x o i d) (a_message side.I at x o i d _ h
    (rest (after_message at x) o i d (omega arith)))
by_want k at want.D o i [] h lt rest = rw ((goes at want.D h).1 o i) (no_pop at o i [])
by_want k at want.D o i (x ∷ d) h lt rest =
    rw ((goes at want.D h).0 x o i d) (a_message side.D at x o i d _ h
    (rest (after_message at x) o i d (omega arith)))
by_want k at want.Nothing o i d h lt rest = rw (goes at want.Nothing h o i d) (no_pop at o i d)

log_of : (k : ℕ) (at : MergeState) (o : List Turn) (i d : List FromStage)
    → length o + length i + length d < k → Log at o i d (continue at o i d)
log_of zero at o i d lt = absurd (omega arith)
log_of (suc k) at o i d lt = by_want k at (wanted at) o i d refl lt (log_of k)

-- the rule has a log
pub log : (at : MergeState) (o : List Turn) (i d : List FromStage)
    → Log at o i d (continue at o i d)
log at o i d = log_of (suc (length o + length i + length d)) at o i d (omega arith)

-- each log gives the result of the rule
pub from_log : (ps : List Pop) (at : MergeState) → Lawful at ps
    → continue at (turns_of ps) (from_of side.I ps) (from_of side.D ps)
    ≡ all_used (requests_of ps) (state_after at ps)
from_log [] at h = at_rest at
from_log (Turned t ∷ ps) at h = (goes at want.Order h.0).0 t _ _ _ ∙ from_log ps (after_turn t) h.1
from_log (From side.I m ∷ ps) at h = (goes at want.I h.0).0 m _ _ _
    ∙ ap (with_requests (what_in m)) (from_log ps (after_message at m) h.1)
from_log (From side.D m ∷ ps) at h = (goes at want.D h.0).0 m _ _ _
    ∙ ap (with_requests (what_in m)) (from_log ps (after_message at m) h.1)

-- a list of allowed pops with one more allowed pop
pub Lawful-more : (ps : List Pop) (at : MergeState) (p : Pop) → Lawful at ps
    → Lawful (state_after at ps) (p ∷ []) → Lawful at (ps ++ p ∷ [])
Lawful-more [] at p h l = l
Lawful-more (Turned t ∷ ps) at p h l = (h.0, Lawful-more ps (after_turn t) p h.1 l)
Lawful-more (From s m ∷ ps) at p h l = (h.0, Lawful-more ps (after_message at m) p h.1 l)

-- where the merge stands after two lists of pops is where the second leads from the first
pub state_after-append : (ps qs : List Pop) (at : MergeState)
    → state_after at (ps ++ qs) ≡ state_after (state_after at ps) qs
state_after-append [] qs at = refl
state_after-append (Turned t ∷ ps) qs at = state_after-append ps qs (after_turn t)
state_after-append (From s m ∷ ps) qs at = state_after-append ps qs (after_message at m)
