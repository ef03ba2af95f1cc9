use Rattle.std.proofs.Common.{length, map, sym, subst, ◌∙◌}
use Rattle.std.proofs.lemmas.List.{length-map}
use Rattle.std.specs.List.{All}
use Rattle.std.proofs.lemmas.List.Elements.{All-push, All-weaker}
use Rattle.cache_core.specs.declared.geometry.Geometry.{Geometry}
use Rattle.cache_core.specs.History.{Rules}
use Rattle.cache_core.specs.Standing.{rules_from}
use Rattle.grid_core.specs.Places.{IsPlace, planned_rules}
use Rattle.grid_core.specs.Shades.{shade_rules}
use Rattle.grid_core.specs.Shading.{IsShaded}
use Rattle.grid_core.specs.Singles.{single_rules, single_shading}
use Rattle.grid_core.specs.Slot.{HasWords}
use Rattle.grid_core.specs.Standing.{stack_rules}
use Rattle.grid_core.proofs.Seats.{seated-together, seated-apart, begins-map, begins-push}
use Rattle.grid_core.proofs.Seats.{begins-same, joins-all, shaded-apart, shaded-longer}
use Rattle.grid_core.proofs.plan.seat_for.Goals as goal

pub returns-then-has_stack-clause-seated : goal.returns-then-has_stack-clause-seated
returns-then-has_stack-clause-seated c =
    let seat = c.in_ok-seat.ensures.seat in
    seated-together c.args.geometry c.args.policy c.args.together.now.items
    c.seat_together.new.together.items (map single_rules c.args.singles.now.items)
    (map shade_rules c.args.shades.now.items)
    c.in_ok-seat.seat (c.has_stack.ensures.lru c.if-has_stack.true)
    (c.has_stack.ensures.allocates c.if-has_stack.true) c.in_ok-seat.ensures.joins seat.0 seat.1
    seat.2

pub returns-then-has_stack-clause-shaded : goal.returns-then-has_stack-clause-shaded
returns-then-has_stack-clause-shaded c = λ b one all.
    let p = c.args.policy in
    let f : Geometry → Rules = λ g. stack_rules g p.wback in
    let gs = c.args.together.now.items in
    let gs' = c.seat_together.new.together.items in
    let ts = map shade_rules c.args.shades.now.items in
    All-weaker (IsShaded (map f gs) ts) (IsShaded (map f gs') ts)
    (shaded-longer (map f gs) (map f gs') ts ts
    (begins-map f gs gs' (begins-push gs gs' c.args.geometry c.in_ok-seat.ensures.joins))
    (begins-same ts)) (map single_shading c.args.singles.now.items)

pub returns-then-has_stack-clause-together : goal.returns-then-has_stack-clause-together
returns-then-has_stack-clause-together c = begins-push c.args.together.now.items
    c.seat_together.new.together.items c.args.geometry c.in_ok-seat.ensures.joins

pub returns-then-has_stack-clause-apart : goal.returns-then-has_stack-clause-apart
returns-then-has_stack-clause-apart c =
    begins-same (map single_rules c.args.singles.now.items)

pub returns-then-has_stack-clause-shades : goal.returns-then-has_stack-clause-shades
returns-then-has_stack-clause-shades c =
    begins-same (map shade_rules c.args.shades.now.items)

pub returns-then-has_stack-clause-same : goal.returns-then-has_stack-clause-same
returns-then-has_stack-clause-same c = λ b one all. joins-all b c.args.together.now.items
    c.seat_together.new.together.items c.args.geometry c.in_ok-seat.ensures.joins one all

pub returns-then-has_stack-clause-words : goal.returns-then-has_stack-clause-words
returns-then-has_stack-clause-words c = λ all. subst (All HasWords)
    (sym c.in_ok-seat.ensures.joins)
    (All-push HasWords c.args.together.now.items c.args.geometry all
    (c.has_stack.ensures.words c.if-has_stack.true))

pub returns-clause-seated : goal.returns-clause-seated
returns-clause-seated c =
    let g = c.args.geometry in
    let p = c.args.policy in
    let gs = c.shade_for.new.together.items in
    let xs = c.args.singles.now.items in
    let xs' = c.push_single.new.singles.items in
    let ts = c.shade_for.new.shades.items in
    let shadow = c.in_ok-shadow.shadow in
    seated-apart g p (planned_rules p.wback gs) (map single_rules xs) (map single_rules xs')
    (map shade_rules ts) c.in_ok-cell.cell shadow c.in_ok-cell.ensures.rules
    (c.in_ok-cell.ensures.last ∙ sym (length-map xs single_rules))
    (subst (λ n. IsPlace n (length (map shade_rules ts)) shadow)
    (sym (length-map gs (λ d. stack_rules d p.wback)))
    (subst (λ n. IsPlace (length gs) n shadow) (sym (length-map ts shade_rules))
    c.in_ok-shadow.ensures.there)) c.in_ok-shadow.ensures.shadow

pub returns-clause-shaded : goal.returns-clause-shaded
returns-clause-shaded c = λ b one all old.
    let g = c.args.geometry in
    let p = c.args.policy in
    let f : Geometry → Rules = λ d. stack_rules d p.wback in
    let gs = c.args.together.now.items in
    let gs' = c.shade_for.new.together.items in
    let ts = map shade_rules c.args.shades.now.items in
    let xs' = c.shade_for.new.shades.items in
    let ts' = map shade_rules xs' in
    let ps = map single_shading c.args.singles.now.items in
    let shadow = c.in_ok-shadow.shadow in
    shaded-apart b g p gs' ts' ps (map single_shading c.push_single.new.singles.items) shadow
    c.in_ok-cell.ensures.shading one (c.in_ok-shadow.ensures.same b one all)
    c.in_ok-shadow.ensures.some
    (subst (λ n. IsPlace n (length ts') shadow) (sym (length-map gs' f))
    (subst (λ n. IsPlace (length gs') n shadow) (sym (length-map xs' shade_rules))
    c.in_ok-shadow.ensures.there)) c.in_ok-shadow.ensures.shadow
    (All-weaker (IsShaded (map f gs) ts) (IsShaded (map f gs') ts')
    (shaded-longer (map f gs) (map f gs') ts ts'
    (begins-map f gs gs' c.in_ok-shadow.ensures.together) c.in_ok-shadow.ensures.shades) ps old)

pub returns-clause-apart : goal.returns-clause-apart
returns-clause-apart c =
    begins-push (map single_rules c.args.singles.now.items)
    (map single_rules c.push_single.new.singles.items) (rules_from c.args.geometry c.args.policy)
    c.in_ok-cell.ensures.rules
