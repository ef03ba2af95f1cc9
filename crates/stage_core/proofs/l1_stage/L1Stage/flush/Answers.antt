use Rattle.std.proofs.Common.{◌≡◌, ℕ, ◌*◌, List, [], ◌++◌, map, ap, ◌∙◌, append-nil, option_to_list}
use Rattle.cache_core.specs.History.{Rules, History, flush}
use Rattle.cache_core.specs.Dirty.{dirty_blocks}
use Rattle.cache_core.specs.Standing.{rules_of}
use Rattle.stage_core.specs.SecondLevel.{back, flush_all, parts_of}
use Rattle.stage_core.specs.Streams.{answer}
use Rattle.stage_core.specs.Standing.{cache_of, side_of, outbox_of}
use Rattle.stage_core.specs.declared.message.Side.{Side}
use Rattle.stage_core.specs.declared.message.What.{What}
use Rattle.stage_core.proofs.l1_stage.L1Stage.flush.Goals as goal

abbrev written_back : Rules → History → List ℕ
written_back r h = map (λ b. b * r.bsize) (dirty_blocks r h)

by_blocks : (r : Rules) (s : Side) (h : History) (place : ℕ) (none items : List ℕ)
    (part : List What) → none ≡ [] → items ≡ none ++ written_back r h → part ≡ flush_all s
    → answer place (map back items ++ (part ++ [])) ≡ answer place (parts_of r s h flush)
unfolding parts_of
by_blocks r s h place none items part n e f =
    ap (λ l. answer place (map back l ++ (part ++ []))) (e ∙ ap (λ l. l ++ written_back r h) n)
    ∙ ap (λ l. answer place (map back (written_back r h) ++ l)) (append-nil part ∙ f)

pub returns-clause-sent : goal.returns-clause-sent
unfolding outbox_of cache_of side_of
returns-clause-sent c = λ h st.
    let old = c.args.self.now in
    c.answer.ensures ∙ by_blocks (rules_of old.cache)
    old.side h c.args.place c.new-backs.result.items c.flush.new.out.items
    (option_to_list c.flush_part.result) c.new-backs.ensures.items
    (c.in_ok-flush.ensures.appends h st) c.flush_part.ensures
