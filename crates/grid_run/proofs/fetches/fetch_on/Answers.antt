use Rattle.std.proofs.Common.{◌≡◌, ◌<◌, ◌+◌, ◌++◌, [], ℕ, List, length, take, ap, refl}
use Rattle.std.proofs.Common.{subst, sym, ◌∙◌, append_assoc, arith, length-append, length-take}
use Rattle.std.proofs.lemmas.List.{take_more}
use Rattle.cache_core.specs.History.{Rules}
use Rattle.din_trace.specs.declared.record.DinRecord.{DinRecord}
use Rattle.grid_core.specs.Written.{rules_at_index}
use Rattle.stage_core.specs.Events.{history}
use Rattle.stage_core.specs.SecondLevel.{parts_of, sent_up}
use Rattle.stage_core.specs.declared.message.Side.TheVariants as side
use Rattle.grid_run.specs.Fetching.{AsksNoData, fetched}
use Rattle.grid_run.specs.Fronts.{FrontAt, front_rules}
use Rattle.grid_run.specs.declared.front.Front.{Front}
use Rattle.grid_run.proofs.Fetching.{fetched-more}
use Rattle.grid_run.proofs.Growing.{all-push}
use Rattle.grid_run.proofs.fetches.fetch_on.Goals as goal

-- caches of the same rules send nothing either
silent-by : {rs rs' : List Rules} (es : List DinRecord) (e : DinRecord) (cell : ℕ) → rs ≡ rs'
    → (cell < length rs → sent_up (parts_of (rules_at_index rs cell)) side.I es e ≡ [])
    → cell < length rs' → sent_up (parts_of (rules_at_index rs' cell)) side.I es e ≡ []
silent-by es e cell same none =
    subst (λ (rs : List Rules). cell < length rs
    → sent_up (parts_of (rules_at_index rs cell)) side.I es e ≡ []) same none

pub fetch_once-requires : goal.fetch_once-requires
fetch_once-requires c =
    let room = c.requires.room in
    let k = c.fetches.count in
    let before = take k c.args.part.now in
    record {
      room = (
        room.0,
        room.1 ++ before,
        c.fetches.invariant.stands room.0 room.1 room.2,
        omega (
          arith,
          room.3,
          c.fetches-test.true,
          length-append room.1 before,
          length-take k c.args.part.now,
        ),
      );
    }

pub returns-then-not-fetch_once-clause-stands : goal.returns-then-not-fetch_once-clause-stands
returns-then-not-fetch_once-clause-stands c = λ blocks es at.
    subst (λ (f : Front). FrontAt blocks (history side.I (es ++ take c.fetches.count
    c.args.part.now)) f)
    (sym (c.if-not-fetch_once.ensures.leaves refl)) (c.fetches.invariant.stands blocks es at)

pub fetches-preserved : goal.fetches-preserved
fetches-preserved c =
    let inv = c.fetches.invariant in
    let one = c.if-not-fetch_once.ensures in
    let k = c.fetches.count in
    let xs = c.args.part.now in
    let longer = take_more xs k _ c.fetches-test.true in
    record {
      stands = λ blocks es at.
          subst (λ (l : List DinRecord). FrontAt blocks (history side.I l) c.fetch_once.new.front)
          (append_assoc es (take k xs) _ ∙ ap (λ (l : List DinRecord). es ++ l) (sym longer))
          (one.stands refl blocks (es ++ take k xs) (inv.stands blocks es at));
      silent = λ blocks es at cell inside.
          let r = rules_at_index (front_rules c.args.front.now) cell in
          let none = silent-by (es ++ take k xs) _ cell inv.rules
          (one.silent refl blocks (es ++ take k xs) (inv.stands blocks es at) cell) inside in
          subst (λ (l : List DinRecord). fetched r es l ≡ []) (sym longer)
          (fetched-more r es (take k xs) _ (inv.silent blocks es at cell inside) none);
      no_data = all-push AsksNoData (take k xs) (take (k + 1) xs) _ longer inv.no_data
          (one.no_data refl);
      within = omega (arith, c.fetches-test.true);
      rules = c.fetch_once.ensures.rules ∙ inv.rules;
    }
