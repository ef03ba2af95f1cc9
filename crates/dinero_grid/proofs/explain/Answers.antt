use Rattle.std.proofs.Common.{◌≡◌, ◌∙◌, ℕ, List, Option, Result, ap, inr, string_bytes}
use Rattle.din_trace.specs.Device.{Writes}
use Rattle.din_trace.specs.declared.device.DeviceFailed.{DeviceFailed}
use Rattle.din_trace.proofs.WritesLemmas.{writes_as}
use Rattle.grid_options.specs.Refusals.{HasNoControls}
use Rattle.dinero_grid.specs.GridFaultText.{Explains, explanation}
use Rattle.dinero_grid.proofs.explain.Goals as goal

-- the line was given to the writer
explains : {W : Type 0} {contents : W → Option (List ℕ)} {failures : W → ℕ} {old new : W}
    (told : Result Unit DeviceFailed) (said line : List ℕ) → HasNoControls said
    → line ≡ explanation said → Writes contents failures old new told line
    → Explains contents failures old new
explains told said line harmless is writes = record {
  said = said;
  harmless = harmless;
  told = told;
  written = writes_as _ _ _ is writes;
}

pub returns-clause-line : goal.returns-clause-line
returns-clause-line g c =
    inr (explains c.put.result (string_bytes c.in-Some.said) c.as_bytes.result.now
    (rw c.in-Some.is at c.in_ok-said.ensures.harmless)
    (c.as_bytes.ensures.value ∙ c.in-Ok.ensures ∙ ap explanation c.as_str.ensures.value)
    c.put.ensures)

pub returns-clause-told : goal.returns-clause-told
returns-clause-told g c refused =
    inr (explains c.put.result (string_bytes c.in-Some.said) c.as_bytes.result.now
    (rw c.in-Some.is at c.in_ok-said.ensures.harmless)
    (c.as_bytes.ensures.value ∙ c.in-Ok.ensures ∙ ap explanation c.as_str.ensures.value)
    c.put.ensures)
