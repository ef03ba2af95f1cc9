use Rattle.std.proofs.Common.{◌≡◌, ◌||◌, ℕ, List, Bool, true, false, ◌∷◌, ap, sym, refl, subst}
use Rattle.std.proofs.Common.{◌∙◌}
use Rattle.std.proofs.lemmas.Result.{on_ok_weaker}
use Rattle.std.specs.Prelude.{if◌then◌else◌}
use Rattle.cache_core.specs.declared.access.Access.{Access}
use Rattle.cache_core.specs.History.{Event, History, access, flush}
use Rattle.shared_list.specs.Users.{is_user}
use Rattle.stage_core.specs.SecondLevel.{read_as}
use Rattle.stage_core.specs.declared.message.What.{What}
use Rattle.stage_core.specs.declared.message.What.TheVariants as what
use Rattle.grid_run.specs.Numbering.{event_at, is_flush, is_for, what_of}
use Rattle.grid_run.specs.Twins.{TwinStandsBy, twin_rules, twin_users}
use Rattle.grid_run.specs.declared.twins.Twins.{Twins}
use Rattle.grid_run.proofs.twins.Twins.serve.Goals as goal

-- what is read as an access is no flush
accessed : (w : What) (x : Access) → read_as w ≡ access x → is_flush w ≡ false
accessed (what.Back a) x e = refl
accessed (what.Fetch k a) x e = refl
accessed (what.Through a) x e = refl
accessed what.FlushAll x e = absurd cc

-- and what is read as a flush is one
flushed : (w : What) → read_as w ≡ flush → is_flush w ≡ true
flushed (what.Back a) e = absurd cc
flushed (what.Fetch k a) e = absurd cc
flushed (what.Through a) e = absurd cc
flushed what.FlushAll e = refl

-- a cache that has served an event, if it is for its user, has served it by its other name
named : (blocks : List ℕ) (l : Twins) (q : ℕ) (h : History) (e e' : Event) (b b' : Bool) → e' ≡ e
    → b' ≡ b → TwinStandsBy blocks l q (if b then e ∷ h else h)
    → TwinStandsBy blocks l q (if b' then e' ∷ h else h)
named blocks l q h e e' b b' is same st =
    subst (λ (x : Event). TwinStandsBy blocks l q (if b' then x ∷ h else h)) (sym is)
    (subst (λ t. TwinStandsBy blocks l q (if t then e ∷ h else h)) (sym same) st)

pub returns-clause-stands : goal.returns-clause-stands
unfolding twin_rules twin_users
returns-clause-stands c =
    let w = c.args.asked in
    let read = c.class.ensures ∙ ap (λ o. event_at o w.addr) c.in-Some.is in
    let x : Access = record { class = c.in-Some.class; addr = w.addr } in
    on_ok_weaker c.access.result (λ stands blocks q h lt is st.
    named blocks _ q h (access x) _ (is_user w.users q) (is_for q w) read
    (ap (λ b. b || is_user w.users q) (accessed (what_of w) x read))
    (record { cache = stands blocks q h lt (is.number x read) st.cache })) c.access.ensures.stands

pub returns-in_default-clause-stands : goal.returns-in_default-clause-stands
unfolding twin_rules twin_users
returns-in_default-clause-stands c =
    let w = c.args.asked in
    let read = c.class.ensures ∙ ap (λ o. event_at o w.addr) c.in_default.is in
    on_ok_weaker c.flush.result (λ stands blocks q h lt is st.
    named blocks _ q h flush _ true (is_for q w) read
    (ap (λ b. b || is_user w.users q) (flushed (what_of w) read))
    (record { cache = stands blocks q h lt st.cache })) c.flush.ensures.stands
