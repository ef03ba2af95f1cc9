use Rattle.std.proofs.Common.{◌≡◌, inl, inr, ap}
use Rattle.std.proofs.lemmas.Result.{on_ok_weaker}
use Rattle.cache_core.specs.History.{flush}
use Rattle.cache_core.specs.declared.access.Class.TheVariants as class
use Rattle.stage_core.specs.Events.{access_of}
use Rattle.stage_core.specs.SecondLevel.{read_as}
use Rattle.stage_core.proofs.Stands.{one_what_more}
use Rattle.stage_core.proofs.l2_stage.L2Stage.on.Goals as goal

pub returns-in-Fetch-clause-stands : goal.returns-in-Fetch-clause-stands
returns-in-Fetch-clause-stands c =
    on_ok_weaker c.access.result (λ longer before. one_what_more c.args.self.now c.access.new.self
    before c.args.what (access_of c.in-Fetch.class c.in-Fetch.addr) (ap read_as c.in-Fetch.is)
    longer) c.access.ensures.stands

pub returns-in-FlushAll-clause-stands : goal.returns-in-FlushAll-clause-stands
returns-in-FlushAll-clause-stands c =
    on_ok_weaker c.flush.result (λ longer before. one_what_more c.args.self.now c.flush.new.self
    before c.args.what flush (ap read_as c.in-FlushAll.is) longer) c.flush.ensures.stands

pub returns-in-Back-clause-stands : goal.returns-in-Back-clause-stands
returns-in-Back-clause-stands c =
    let reads : read_as c.args.what ≡ access_of class.Write c.in-Back.addr =
    elim c.in-Back.is [ inl back ↦ ap read_as back | inr through ↦ ap read_as through ] in
    on_ok_weaker c.access-in-Back.result (λ longer before. one_what_more c.args.self.now
    c.access-in-Back.new.self before c.args.what (access_of class.Write c.in-Back.addr)
    reads longer) c.access-in-Back.ensures.stands
