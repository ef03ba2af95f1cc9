-- The merge's rule, applied to the streams of an event list, takes exactly the second level's
-- requests.
use Rattle.std.proofs.Common.{◌≡◌, ℕ, ◌+◌, List, [], ◌∷◌, ◌++◌, map, length, refl, ap, ◌∙◌}
use Rattle.std.proofs.Common.{append_assoc, append-nil}
use Rattle.cache_core.specs.History.{Event, flush}
use Rattle.cache_core.specs.declared.access.Class.TheVariants as class
use Rattle.din_trace.specs.declared.record.DinRecord.{DinRecord}
use Rattle.din_trace.specs.declared.record.Label.{Label}
use Rattle.din_trace.specs.declared.record.Label.TheVariants as label
use Rattle.stage_core.specs.Places.{flat_map_after}
use Rattle.stage_core.specs.Events.{access_of, asked, history}
use Rattle.stage_core.specs.SecondLevel.{Parts, sent_up}
use Rattle.stage_core.specs.Streams.{turn_of, answer, numbered, answered}
use Rattle.stage_core.specs.Merging.{Merged, merged, all_used, up_to_end, with_what, MergeState}
use Rattle.stage_core.specs.Merging.{AtEnd}
use Rattle.stage_core.specs.Laws.{MergeTakesTheRequests}
use Rattle.stage_core.proofs.Pops.{with_requests}
use Rattle.stage_core.specs.declared.message.Side.{Side}
use Rattle.stage_core.specs.declared.message.Side.TheVariants as side
use Rattle.stage_core.specs.declared.message.What.{What}
use Rattle.stage_core.specs.declared.message.Turn.{Turn}
use Rattle.stage_core.specs.declared.message.Turn.TheVariants as turn
use Rattle.stage_core.specs.declared.message.FromStage.{FromStage}
use Rattle.stage_core.specs.declared.message.FromStage.TheVariants as from_stage

with_requests-all_used : (ws us : List What) (at : MergeState)
    → with_requests ws (all_used us at) ≡ all_used (ws ++ us) at
with_requests-all_used ws us at = refl

up_to_end-numbered : (place n k : ℕ) (ws : List What) (rest : List FromStage) (stopped : Merged)
    (next : List FromStage → Merged) → up_to_end
    (numbered place n ws ++ from_stage.Done place k ∷ rest) stopped next
    ≡ with_requests ws (next rest)
up_to_end-numbered place n k [] rest stopped next = refl
up_to_end-numbered place n k (w ∷ ws) rest stopped next =
    ap (with_what w) (up_to_end-numbered place (n + 1) k ws rest stopped next)

-- the rule takes a whole answer
up_to_end-answer : (place : ℕ) (ws : List What) (xs ys : List FromStage) (stopped : Merged)
    (next : List FromStage → Merged) → up_to_end (((answer place ws ++ []) ++ xs) ++ ys)
    stopped next ≡ with_requests ws (next (xs ++ ys))
up_to_end-answer place ws xs ys stopped next =
    rw append-nil (rw append_assoc (rw append_assoc
    (up_to_end-numbered place 1 (length ws) ws (xs ++ ys) stopped next)))

module _ (parts : Parts) where
  abbrev ups : List DinRecord → DinRecord → List What
  ups before e = sent_up parts side.I before e ++ sent_up parts side.D before e

  abbrev turns_from : List DinRecord → List Turn
  turns_from es = map (λ e. turn_of e.label) es ++ turn.Finish ∷ []

  abbrev stream : Side → List DinRecord → List DinRecord → List FromStage
  stream s before es = flat_map_after (answered parts s) before es ++ from_stage.Finish ∷ []

  -- the claim from some event on
  abbrev Law : List DinRecord → List DinRecord → Type 0
  Law before es = merged (turns_from es) (stream side.I before es) (stream side.D before es)
      ≡ all_used (flat_map_after ups before es) AtEnd

  -- a turn of one side
  one_side : (place : ℕ) (ws us vs : List What) (xs : List FromStage) (stopped : Merged)
      (next : List FromStage → Merged) → ws ++ us ≡ vs
      → next (xs ++ from_stage.Finish ∷ []) ≡ all_used us AtEnd
      → up_to_end (((answer place ws ++ []) ++ xs) ++ from_stage.Finish ∷ []) stopped next
      ≡ all_used vs AtEnd
  one_side place ws us vs xs stopped next same rest =
      up_to_end-answer place ws xs (from_stage.Finish ∷ []) stopped next
      ∙ ap (with_requests ws) rest
      ∙ with_requests-all_used ws us AtEnd ∙ ap (λ zs. all_used zs AtEnd) same

  -- one event, with a request to D alone
  one_d : (e : DinRecord) (x : Event) (before es : List DinRecord) → turn_of e.label ≡ turn.D
      → asked side.I e ≡ [] → asked side.D e ≡ x ∷ [] → Law (before ++ e ∷ []) es
      → Law before (e ∷ es)
  one_d e x before es t i d rest =
      rw (t, i, d) (one_side (length before + 1) (parts side.D (history side.D before) x)
      _ _ _ _ _ (simp append-nil) rest)

  -- one event
  one : (l : Label) (a : ℕ) (before es : List DinRecord)
      → Law (before ++ record { label = l; addr = a } ∷ []) es
      → Law before (record { label = l; addr = a } ∷ es)
  one label.Instr a before es rest =
      one_side (length before + 1) (parts side.I (history side.I before) (access_of class.Instr a))
      _ _ _ _ _ (simp append-nil) rest
  one label.Read a before es rest = one_d _ (access_of class.Read a) before es refl refl refl rest
  one label.Write a before es rest = one_d _ (access_of class.Write a) before es refl refl refl rest
  one label.Misc a before es rest = one_d _ (access_of class.Misc a) before es refl refl refl rest
  one label.Flush a before es rest =
      one_side (length before + 1) (parts side.I (history side.I before) flush)
      (parts side.D (history side.D before) flush
      ++ flat_map_after ups (before ++ record { label = label.Flush; addr = a } ∷ []) es) _ _ _ _
      (simp (append-nil, append_assoc))
      (one_side (length before + 1) (parts side.D (history side.D before) flush)
      _ _ _ _ _ refl rest)

  law : (before es : List DinRecord) → Law before es
  law before [] = refl
  law before (e ∷ es) = one e.label e.addr before es (law (before ++ e ∷ []) es)

-- the merge's rule takes just what the second level is to see, and uses the streams up
pub merged-streams : MergeTakesTheRequests
merged-streams parts es = law parts [] es
