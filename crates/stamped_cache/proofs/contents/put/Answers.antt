use Rattle.std.proofs.Common.{◌≡◌, ℕ, ◌+◌, ◌*◌, ◌++◌, ◌∷◌, [], Bool, true, false, ◌&&◌, cond, eqb}
use Rattle.std.proofs.Common.{List, length, get_or, set, is_some, Some, None, refl, sym, ap, subst}
use Rattle.std.proofs.Common.{◌∙◌, ◌≢◌, ◌<◌}
use Rattle.cache_core.specs.declared.access.Access.{Access}
use Rattle.cache_core.specs.History.{History, Rules, access, is_write}
use Rattle.cache_core.specs.Parts.{outcome_of}
use Rattle.stamped_cache.specs.declared.state.State.{State}
use Rattle.stamped_cache.specs.declared.state.State.TheVariants.{Absent}
use Rattle.stamped_cache.specs.Holding.{HoldBy}
use Rattle.stamped_cache.specs.Putting.{IsLeaving, LeavesRoom, Misses, loaded}
use Rattle.stamped_cache.specs.Rows.{row_held, rows_of}
use Rattle.stamped_cache.specs.States.{is_held, state_users, states_of, was_written}
use Rattle.shared_list.proofs.Columns.{places-apart}
use Rattle.stamped_cache.specs.declared.rows.Rows.{Rows}
use Rattle.stamped_cache.proofs.Loads.{back-is, holds-over, holds-room, room-gone}
use Rattle.stamped_cache.proofs.Places.{this-user}
use Rattle.stamped_cache.proofs.contents.put.Goals as goal

loaded-held : (w : Bool) → is_held (loaded w) ≡ true
loaded-held true = refl
loaded-held false = refl

loaded-written : (w : Bool) → was_written (loaded w) ≡ w
loaded-written true = refl
loaded-written false = refl

module _ (blocks : List ℕ) (r : Rules) (h : History) (x : Access) (n set' : ℕ)
    (states : ℕ → State) (rows : ℕ → List ℕ) (write : Bool) (is : write ≡ is_write x)
    (next : ℕ → State) (turned : ℕ → List ℕ)
    (others : (t : ℕ) → t ≢ set' → turned t ≡ rows t) where
  beside : Misses blocks r h x n set' None states rows
      → ((k : ℕ) → next k ≡ cond (eqb n k) (loaded write) (states k))
      → turned set' ≡ rows set' ++ n ∷ [] → HoldBy blocks r (access x ∷ h) next turned
  beside m now row = (subst (λ s. LeavesRoom r.assoc (rows s) None
      → turned s ≡ rows s ++ n ∷ [] → ((t : ℕ) → t ≢ s → turned t ≡ rows t)
      → HoldBy blocks r (access x ∷ h) next turned) (sym m.here)
      (λ room added same. holds-room blocks r m.stacked m.some m.deep h x states rows m.held n
      m.number m.absent (loaded write) (loaded-held write) (loaded-written write ∙ is) room next
      now turned added same)) m.place row others

  over : (i : ℕ) → Misses blocks r h x n set' (Some i) states rows
      → ((k : ℕ) → next k ≡ cond (eqb n k) (loaded write)
      (cond (eqb (get_or (rows set') i 0) k) Absent (states k)))
      → turned set' ≡ set (rows set') i n → HoldBy blocks r (access x ∷ h) next turned
  over i m now row = (subst (λ s. LeavesRoom r.assoc (rows s) (Some i)
      → IsLeaving blocks r h s (rows s) (Some i)
      → ((k : ℕ) → next k ≡ cond (eqb n k) (loaded write)
      (cond (eqb (get_or (rows s) i 0) k) Absent (states k)))
      → turned s ≡ set (rows s) i n → ((t : ℕ) → t ≢ s → turned t ≡ rows t)
      → HoldBy blocks r (access x ∷ h) next turned) (sym m.here)
      (λ place last now replaced same. holds-over blocks r m.stacked m.some m.deep h x states rows
      m.held n m.number m.absent (loaded write) (loaded-held write) (loaded-written write ∙ is)
      place.1 i place.0 last next
      (λ k. now k ∙ ap (λ v. cond (eqb n k) (loaded write) (cond (eqb v k) Absent (states k))) last)
      turned replaced same)) m.place m.last now row others

back-over : (blocks : List ℕ) (r : Rules) (h : History) (x : Access) (n set' i : ℕ)
    (states : ℕ → State) (rows : ℕ → List ℕ) (back : Bool)
    → back ≡ was_written (states (get_or (rows set') i 0))
    → Misses blocks r h x n set' (Some i) states rows
    → is_some (outcome_of r h x).back ≡ (back && r.wback)
back-over blocks r h x n set' i states rows back is m =
    (subst (λ s. LeavesRoom r.assoc (rows s) (Some i)
    → IsLeaving blocks r h s (rows s) (Some i)
    → back ≡ was_written (states (get_or (rows s) i 0))
    → is_some (outcome_of r h x).back ≡ (back && r.wback)) (sym m.here)
    (λ place last was. back-is blocks r m.stacked m.some m.deep h x states rows m.held n m.number
    m.absent place.1
    ∙ ap (λ t. t && r.wback) (ap (λ v. was_written (states v)) (sym last) ∙ sym was)))
    m.place m.last is

back-beside : (blocks : List ℕ) (r : Rules) (h : History) (x : Access) (n set' : ℕ)
    (states : ℕ → State) (rows : ℕ → List ℕ) → Misses blocks r h x n set' None states rows
    → is_some (outcome_of r h x).back ≡ false
back-beside blocks r h x n set' states rows m =
    room-gone blocks r m.stacked m.some m.deep h x states rows m.held n m.number m.absent
    (subst (λ s. length (rows s) < r.assoc) m.here m.place)

-- the rows of one user, where those of another row are as before
module _ (old new : Rows) (row set' users user : ℕ) (at : row ≡ set' * users + user)
    (low : user < users) (others : (t : ℕ) → t ≢ row → row_held new t ≡ row_held old t) where
  sets-apart : (t : ℕ) → t ≢ set' → rows_of new users user t ≡ rows_of old users user t
  sets-apart t ne = others (t * users + user)
      (λ same. ne (places-apart t set' users user user low low (same ∙ at)).0)

pub returns-in-None-clause-held : goal.returns-in-None-clause-held
returns-in-None-clause-held c = λ blocks r h x s at is m.
    let u = c.args.user in
    let users = state_users c.args.states.now in
    let states = states_of c.args.states.now u in
    let rows = rows_of c.args.rows.now users u in
    let n = c.args.number in
    let low = c.requires.user in
    beside blocks r h x n s states rows c.args.write is (states_of c.put_beside.new.states u)
    (rows_of c.put_beside.new.rows users u)
    (sets-apart c.args.rows.now c.put_beside.new.rows c.args.row s users u at low
    c.put_beside.ensures.others)
    (subst (λ l. Misses blocks r h x n s l states rows) c.in-None.is m)
    (λ k. c.put_beside.ensures.states u k low
    ∙ this-user u (eqb n k) (loaded c.args.write) (states k))
    (subst (λ z. row_held c.put_beside.new.rows z ≡ row_held c.args.rows.now z ++ n ∷ []) at
    c.put_beside.ensures.row)

pub returns-in-None-clause-back : goal.returns-in-None-clause-back
returns-in-None-clause-back c = λ blocks r h x s at m.
    let u = c.args.user in
    let states = states_of c.args.states.now u in
    let rows = rows_of c.args.rows.now (state_users c.args.states.now) u in
    let n = c.args.number in
    back-beside blocks r h x n s states rows
    (subst (λ l. Misses blocks r h x n s l states rows) c.in-None.is m)

pub returns-in-Some-clause-held : goal.returns-in-Some-clause-held
returns-in-Some-clause-held c = λ blocks r h x s at is m.
    let u = c.args.user in
    let users = state_users c.args.states.now in
    let states = states_of c.args.states.now u in
    let rows = rows_of c.args.rows.now users u in
    let n = c.args.number in
    let i = c.in-Some.index in
    let low = c.requires.user in
    let gone = get_or (row_held c.args.rows.now c.args.row) i 0 in
    over blocks r h x n s states rows c.args.write is (states_of c.put_over.new.states u)
    (rows_of c.put_over.new.rows users u)
    (sets-apart c.args.rows.now c.put_over.new.rows c.args.row s users u at low
    c.put_over.ensures.others) i
    (subst (λ l. Misses blocks r h x n s l states rows) c.in-Some.is m)
    (λ k. c.put_over.ensures.states u k low
    ∙ this-user u (eqb n k) (loaded c.args.write) (cond (eqb gone k && eqb u u) Absent (states k))
    ∙ ap (cond (eqb n k) (loaded c.args.write)) (this-user u (eqb gone k) Absent (states k)
    ∙ ap (λ z. cond (eqb (get_or (row_held c.args.rows.now z) i 0) k) Absent (states k)) at))
    (subst (λ z. row_held c.put_over.new.rows z ≡ set (row_held c.args.rows.now z) i n) at
    c.put_over.ensures.row)

pub returns-in-Some-clause-back : goal.returns-in-Some-clause-back
returns-in-Some-clause-back c = λ blocks r h x s at m.
    let u = c.args.user in
    let states = states_of c.args.states.now u in
    let rows = rows_of c.args.rows.now (state_users c.args.states.now) u in
    let n = c.args.number in
    let i = c.in-Some.index in
    back-over blocks r h x n s i states rows c.put_over.result
    (c.put_over.ensures.back
    ∙ ap (λ z. was_written (states (get_or (row_held c.args.rows.now z) i 0))) at)
    (subst (λ l. Misses blocks r h x n s l states rows) c.in-Some.is m)
