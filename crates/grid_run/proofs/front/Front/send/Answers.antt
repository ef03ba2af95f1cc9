use Rattle.std.proofs.Common.{◌++◌, length, ap, subst, sym, ◌∙◌, append-nil}
use Rattle.std.proofs.lemmas.List.{length-map}
use Rattle.std.proofs.lemmas.Result.{on_ok_weaker}
use Rattle.grid_core.specs.Cells.{items_of}
use Rattle.grid_core.specs.Written.{rules_at_index, written_by}
use Rattle.grid_run.specs.Fronts.{WasLast, front_rules}
use Rattle.grid_run.specs.Families.{family_rules}
use Rattle.grid_run.specs.Numbering.{sent_to}
use Rattle.grid_run.specs.declared.front.Last.{Last}
use Rattle.grid_run.proofs.SenderCells.{cell-of}
use Rattle.grid_run.proofs.Sent.{sent-access, sent-by-silent, sent-flush}
use Rattle.grid_run.proofs.StayNumbered.{stay-same}
use Rattle.grid_run.proofs.front.Front.send.Goals as goal

pub returns-in-Silence-clause-numbers : goal.returns-in-Silence-clause-numbers
returns-in-Silence-clause-numbers c = stay-same _ _ _

pub returns-in-Silence-clause-sent : goal.returns-in-Silence-clause-sent
returns-in-Silence-clause-sent c = λ h q sent k cell is.
    let f = c.args.self.now in
    let ws = sent_to k c.args.waiting.now.items in
    let inside = cell-of (length (front_rules f)) k c.args.senders.now cell c.requires.inside is in
    sym (ap (λ l. ws ++ l) (sent-by-silent f h cell c.args.side q inside c.in-Silence.is sent)
    ∙ append-nil ws)

pub returns-in-Access-clause-sent : goal.returns-in-Access-clause-sent
returns-in-Access-clause-sent c =
    let family = c.args.self.now.family in
    let lists = c.args.self.now.lists.items in
    let x = c.in-Access.access in
    on_ok_weaker c.send_access.result (λ longer h q last k cell is.
    let was = subst (λ (w : Last). WasLast family h w lists q) c.in-Access.is last.last in
    let r = rules_at_index (family_rules family) cell in
    let sent = sent-access family h lists r c.args.side x q was in
    longer h sent.1 k cell is
    ∙ ap (λ l. sent_to k c.args.waiting.now.items ++ l) (sym sent.0)) c.send_access.ensures.sent

pub send_flush-requires-clause-lists : goal.send_flush-requires-clause-lists
send_flush-requires-clause-lists c =
    let family = c.args.self.now.family in
    let h = c.requires.last.0 in
    let q = c.requires.last.1 in
    let v = c.args.self.now.lists.items in
    let was = subst (λ (w : Last). WasLast family h w v q) c.in-Flush.is c.requires.last.2.last in
    let sent = sent-flush family h v (rules_at_index (family_rules family) 0) c.args.side q was in
    sym (length-map v items_of) ∙ ap length sent.1 ∙ length-map (family_rules family) (written_by h)

pub returns-in-Flush-clause-sent : goal.returns-in-Flush-clause-sent
returns-in-Flush-clause-sent c =
    let family = c.args.self.now.family in
    let lists = c.args.self.now.lists.items in
    on_ok_weaker c.send_flush.result (λ longer h q last k cell is.
    let was = subst (λ (w : Last). WasLast family h w lists q) c.in-Flush.is last.last in
    let r = rules_at_index (family_rules family) cell in
    let sent = sent-flush family h lists r c.args.side q was in
    longer h sent.1 k cell is
    ∙ ap (λ l. sent_to k c.args.waiting.now.items ++ l) (sym sent.0)) c.send_flush.ensures.sent
