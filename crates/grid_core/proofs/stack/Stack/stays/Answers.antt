use Rattle.std.proofs.Common.{◌≡◌, ◌%◌, sym, ap, ◌∙◌, arith}
use Rattle.cache_core.specs.Geometry.{sets_of}
use Rattle.cache_core.specs.History.{is_write}
use Rattle.cache_core.proofs.Lawful.{sane_of}
use Rattle.grid_core.specs.Slots.{stays_in}
use Rattle.grid_core.specs.Standing.{row_slots, rules_of_rows}
use Rattle.grid_core.proofs.StackStep.{first-turned, row-room}
use Rattle.grid_core.proofs.stack.Stack.stays.Goals as goal

pub stays-requires-clause-room : goal.stays-requires-clause-room
stays-requires-clause-room c =
    row-room c.args.self.now c.sought-sought.result.block c.sought-sought.ensures.set

pub stays-requires-clause-some : goal.stays-requires-clause-some
stays-requires-clause-some c =
    let wide = c.args.self.now.width in
    let some = (sane_of c.args.self.now.geometry).assoc_pos in
    omega arith

pub returns-clause-is : goal.returns-clause-is
returns-clause-is c =
    let v = c.args.self.now in
    let s = c.sought-sought.result in
    let e = c.sought-sought.ensures in
    let row = row_slots v (s.block % sets_of v.geometry) in
    let told : c.stays.result ≡ stays_in s.block c.writes-write.result (row_slots v s.set) =
    rw (e.stride, e.sets) at c.stays.ensures in
    let found : c.stays.result ≡ stays_in s.block (is_write c.args.access) row =
    told
    ∙ ap (λ t. stays_in s.block c.writes-write.result (row_slots v t)) e.set
    ∙ ap (λ w. stays_in s.block w row) c.writes-write.ensures in
    found
    ∙ ap (λ b. stays_in b (is_write c.args.access) (row_slots v (b % sets_of v.geometry)))
    (e.block ∙ c.requires)

pub returns-clause-first : goal.returns-clause-first
unfolding rules_of_rows
returns-clause-first c = λ yes h st.
    let e = c.sought-sought.ensures in
    first-turned c.args.self.now h st c.args.access (e.block ∙ c.requires) e.set
    c.writes-write.ensures
    (sym (rw (e.stride, e.sets) at c.stays.ensures) ∙ yes)
