-- The outbox of a stage. Its messages are made only when they are taken out.
use Rattle.std.specs.Prelude.{ℕ, ◌+◌, List, [], ◌∷◌, ◌++◌, length, map, Option}
use Rattle.std.specs.Prelude.{option_to_list, drop}
use Rattle.stage_core.specs.SecondLevel.{back}
use Rattle.stage_core.specs.Streams.{numbered}
use Rattle.stage_core.specs.declared.message.What.{What}
use Rattle.stage_core.specs.declared.message.FromStage.{FromStage}
use Rattle.stage_core.specs.declared.message.FromStage.TheVariants as from_stage
use Rattle.stage_core.specs.declared.outbox.Closing.{Closing}
use Rattle.stage_core.specs.declared.outbox.Closing.TheVariants as closing

-- the parts that are left: the rest of the write-backs, and at most three more
abbrev pub parts_left : List ℕ → ℕ → Option ℕ → Option What → Option What → List What
parts_left backs next first second third =
    map back (drop next backs)
    ++ (map back (option_to_list first) ++ option_to_list second ++ option_to_list third)

-- the message that ends an answer, after n parts
abbrev pub last_message : ℕ → ℕ → Closing → List FromStage
last_message place n closing.Nothing = []
last_message place n closing.Parts = from_stage.Done place n ∷ []
last_message place n closing.Done = from_stage.Done place n ∷ []
last_message place n closing.Finish = from_stage.Finish ∷ []

-- the messages that are left: the rest of the parts, numbered on, and the message that ends them
abbrev pub to_send : ℕ → ℕ → List What → Closing → List FromStage
to_send place sent ws o = numbered place (sent + 1) ws ++ last_message place (sent + length ws) o

-- the parts that are left, if the outbox still has parts to send
abbrev pub parts_owed : Closing → List What → List What
parts_owed closing.Nothing ws = []
parts_owed closing.Parts ws = ws
parts_owed closing.Done ws = []
parts_owed closing.Finish ws = []
