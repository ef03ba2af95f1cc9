-- Each step keeps the invariant.
use Rattle.std.proofs.Common.{◌≡◌, ℕ, Bool, true, false, cond, List, [], ◌∷◌, ◌++◌, length, refl}
use Rattle.std.proofs.Common.{sym, ap, ◌∙◌, append_assoc, append-nil, subst, Option, Some, None}
use Rattle.std.proofs.Common.{nat_lt}
use Rattle.std.proofs.lemmas.Option.{cond_some}
use Rattle.std.specs.Option.{option_map}
use Rattle.stage_core.specs.SecondLevel.{Parts}
use Rattle.stage_core.specs.Network.Pushes.{Push, Order, To, pushes, turns_in, sent_to}
use Rattle.stage_core.specs.Streams.{reply, replies}
use Rattle.stage_core.specs.Merging.{wanted, want_of, merged, all_used, after_turn, after_message}
use Rattle.stage_core.specs.Merging.{what_in}
use Rattle.stage_core.specs.Network.Rings.{with_message, Ring, carried, push, pop, pop_from}
use Rattle.stage_core.specs.Network.{Lane, Network, lane, finish_taken, next, Machine, Splitter}
use Rattle.stage_core.specs.Network.{Stage, Merging, split, stage, merge, with_lane, Consistent}
use Rattle.stage_core.specs.Network.{start}
use Rattle.din_trace.specs.declared.record.DinRecord.{DinRecord}
use Rattle.stage_core.specs.declared.message.Side.{Side}
use Rattle.stage_core.specs.declared.message.Side.TheVariants as side
use Rattle.stage_core.specs.declared.message.Turn.{Turn}
use Rattle.stage_core.specs.declared.message.Want.{Want}
use Rattle.stage_core.specs.declared.message.Want.TheVariants as want
use Rattle.stage_core.specs.declared.message.ToStage.{ToStage}
use Rattle.stage_core.specs.declared.message.FromStage.{FromStage}
use Rattle.stage_core.proofs.Sides.{each_side}
use Rattle.stage_core.proofs.Place.{flat_map_with_past-more}
use Rattle.stage_core.proofs.OnePop.{merged-turn, merged-from}
use Rattle.stage_core.proofs.network.StreamCounts.{turns_in-append, sent_to-append}

-- what is mapped and there was there before
pub option_map-some : {A B : Type 0} (f : A → B) (o : Option A) (y : B) → option_map f o ≡ Some y
    → (x : A) × (o ≡ Some x) × (f x ≡ y)
option_map-some f None y h = absurd (cc)
option_map-some f (Some x) y h = (x, refl, cc)

-- what is there although a test could take it away is there without the test
pub cond-none-some : {A : Type 0} (b : Bool) (o : Option A) (y : A) → cond b None o ≡ Some y
    → o ≡ Some y
cond-none-some true o y h = absurd (cc)
cond-none-some false o y h = h

-- a push that is possible puts the message last
pub push-some : {A : Type 0} (capacity : ℕ) (x : A) (r r' : Ring A) → push capacity x r ≡ Some r'
    → with_message x r ≡ r'
push-some capacity x r r' h = (cond_some (nat_lt (length r.waiting) capacity) _ r' h).1

carried-push : {A : Type 0} (x : A) (r : Ring A) → carried (with_message x r) ≡ carried r ++ x ∷ []
carried-push x r = sym (append_assoc r.popped r.waiting (x ∷ []))

-- x was popped, and the ring has carried the same
pub record Popped {A : Type 0} (r : Ring A) (x : A) (r' : Ring A) : Type 0 where
  pub popped : r'.popped ≡ r.popped ++ x ∷ []
  pub carried_same : carried r' ≡ carried r

pop_from-some : {A : Type 0} (popped waiting : List A) (p : A × Ring A)
    → pop_from popped waiting ≡ Some p → Popped record {
      popped = popped;
      waiting = waiting;
    } p.0 p.1
pop_from-some popped [] p h = absurd (cc)
pop_from-some popped (x ∷ xs) p h =
    let e : (x, record { popped = popped ++ x ∷ []; waiting = xs }) ≡ p = cc in
    subst (λ q. Popped record { popped = popped; waiting = x ∷ xs } q.0 q.1) e
    record { popped = refl; carried_same = append_assoc popped (x ∷ []) xs }

-- a pop that is possible does that
pub pop-some : {A : Type 0} (r : Ring A) (p : A × Ring A) → pop r ≡ Some p → Popped r p.0 p.1
pop-some r p h = pop_from-some r.popped r.waiting p h

-- what a step of a stage keeps in its lane
record LaneKeeps (parts : Parts) (s : Side) (old new : Lane) : Type 0 where
  pub to : carried new.to ≡ carried old.to
  pub stage : carried new.from ++ new.outbox ≡ replies parts s new.to.popped
  pub popped : new.from.popped ≡ old.from.popped

lane-sends : (parts : Parts) (s : Side) (l : Lane) (m : FromStage) (rest : List FromStage)
    → l.outbox ≡ m ∷ rest → carried l.from ++ l.outbox ≡ replies parts s l.to.popped
    → LaneKeeps parts s l (record { to = l.to; outbox = rest; from = with_message m l.from })
lane-sends parts s l m rest e h =
    record {
      to = refl;
      stage = ap (λ x. x ++ rest) (carried-push m l.from)
          ∙ append_assoc (carried l.from) (m ∷ []) rest ∙ ap (λ x. carried l.from ++ x) (sym e) ∙ h;
      popped = refl;
    }

lane-takes : (parts : Parts) (s : Side) (l : Lane) (m : ToStage) (r : Ring ToStage) → l.outbox ≡ []
    → carried l.from ++ l.outbox ≡ replies parts s l.to.popped → Popped l.to m r
    → LaneKeeps parts s l (record { to = r; outbox = reply parts s l.to.popped m; from = l.from })
lane-takes parts s l m r e h p =
    let before : carried l.from ≡ replies parts s l.to.popped = sym (append-nil _)
    ∙ ap (λ x. carried l.from ++ x) (sym e) ∙ h in
    record {
      to = p.carried_same;
      stage = ap (λ x. x ++ reply parts s l.to.popped m) before
          ∙ sym (flat_map_with_past-more (reply parts s) l.to.popped m)
          ∙ ap (replies parts s) (sym p.popped);
      popped = refl;
    }

-- the next step of a stage keeps what holds of its lane
stage-keeps : (parts : Parts) (capacity : ℕ) (s : Side) (outbox : List FromStage) (l l' : Lane)
    → l.outbox ≡ outbox → carried l.from ++ l.outbox ≡ replies parts s l.to.popped
    → stage parts capacity s outbox l ≡ Some l' → LaneKeeps parts s l l'
stage-keeps parts capacity s (m ∷ rest) l l' e h st =
    let x = option_map-some _ (push capacity m l.from) l' st in
    let f = push-some capacity m l.from x.0 x.1 in
    subst (LaneKeeps parts s l) (ap (λ (r : Ring FromStage). record {
      to = l.to;
      outbox = rest;
      from = r;
    }) f ∙ x.2) (lane-sends parts s l m rest e h)
stage-keeps parts capacity s [] l l' e h st =
    let x = option_map-some _ (cond (finish_taken l) None (pop l.to)) l' st in
    let p = pop-some l.to x.0 (cond-none-some (finish_taken l) (pop l.to) x.0 x.1) in
    subst (LaneKeeps parts s l) x.2 (lane-takes parts s l (x.0).0 (x.0).1 e h p)

module _ (parts : Parts) (es : List DinRecord) where
  -- the invariant, for each side
  keeps_by : (n : Network) (pushed : List Push) → pushed ++ n.still ≡ pushes es
      → carried n.order ≡ turns_in pushed
      → carried n.i.to ≡ sent_to side.I pushed → carried n.d.to ≡ sent_to side.D pushed
      → carried n.i.from ++ n.i.outbox ≡ replies parts side.I n.i.to.popped
      → carried n.d.from ++ n.d.outbox ≡ replies parts side.D n.d.to.popped
      → merged n.order.popped n.i.from.popped n.d.from.popped ≡ all_used n.given n.at
      → Consistent parts es n
  keeps_by n pushed suffix order to_i to_d from_i from_d merge =
      record {
        pushed = pushed;
        front = suffix;
        turns = order;
        to_side = λ s. each_side (λ s. carried (lane s n).to ≡ sent_to s pushed) to_i to_d s;
        from_side = λ s. each_side (λ s. carried (lane s n).from ++ (lane s n).outbox
            ≡ replies parts s (lane s n).to.popped) from_i from_d s;
        merge = merge;
      }

  -- the start is consistent
  pub keeps-start : Consistent parts es (start es)
  keeps-start = keeps_by (start es) [] refl refl refl refl refl refl refl

  module _ (n : Network) (k : Consistent parts es n) where
    -- the pushes so far and one more are a beginning of all pushes
    more-suffix : (p : Push) (rest : List Push) → n.still ≡ p ∷ rest
        → (k.pushed ++ p ∷ []) ++ rest ≡ pushes es
    more-suffix p rest e = append_assoc k.pushed (p ∷ []) rest ∙ ap (λ x. k.pushed ++ x) (sym e)
        ∙ k.front

    -- the push of a turn keeps a state consistent
    keeps-order : (t : Turn) (rest : List Push) → n.still ≡ Order t ∷ rest
        → Consistent parts es (record n { still = rest; order = with_message t n.order })
    keeps-order t rest e =
        keeps_by _ (k.pushed ++ Order t ∷ []) (more-suffix (Order t) rest e)
        (carried-push t n.order ∙ ap (λ x. x ++ t ∷ []) k.turns
        ∙ sym (turns_in-append k.pushed (Order t ∷ [])))
        (k.to_side side.I ∙ sym (append-nil _)
        ∙ sym (sent_to-append side.I k.pushed (Order t ∷ [])))
        (k.to_side side.D ∙ sym (append-nil _)
        ∙ sym (sent_to-append side.D k.pushed (Order t ∷ [])))
        (k.from_side side.I) (k.from_side side.D) k.merge

    -- so does the push of a message to a side
    keeps-to : (s : Side) (m : ToStage) (rest : List Push) → n.still ≡ To s m ∷ rest
        → Consistent parts es (with_lane s (record
        (lane s n) { to = with_message m (lane s n).to }) (record n { still = rest }))
    keeps-to side.I m rest e =
        keeps_by _ (k.pushed ++ To side.I m ∷ []) (more-suffix (To side.I m) rest e)
        (k.turns ∙ sym (append-nil _) ∙ sym (turns_in-append k.pushed (To side.I m ∷ [])))
        (carried-push m n.i.to ∙ ap (λ x. x ++ m ∷ []) (k.to_side side.I)
        ∙ sym (sent_to-append side.I k.pushed (To side.I m ∷ [])))
        (k.to_side side.D ∙ sym (append-nil _)
        ∙ sym (sent_to-append side.D k.pushed (To side.I m ∷ [])))
        (k.from_side side.I) (k.from_side side.D) k.merge
    keeps-to side.D m rest e =
        keeps_by _ (k.pushed ++ To side.D m ∷ []) (more-suffix (To side.D m) rest e)
        (k.turns ∙ sym (append-nil _) ∙ sym (turns_in-append k.pushed (To side.D m ∷ [])))
        (k.to_side side.I ∙ sym (append-nil _)
        ∙ sym (sent_to-append side.I k.pushed (To side.D m ∷ [])))
        (carried-push m n.d.to ∙ ap (λ x. x ++ m ∷ []) (k.to_side side.D)
        ∙ sym (sent_to-append side.D k.pushed (To side.D m ∷ [])))
        (k.from_side side.I) (k.from_side side.D) k.merge

    keeps-split : (capacity : ℕ) (ps : List Push) → n.still ≡ ps → (n' : Network)
        → split capacity ps n ≡ Some n' → Consistent parts es n'
    keeps-split capacity [] e n' h = absurd (cc)
    keeps-split capacity (Order t ∷ rest) e n' h =
        let x = option_map-some _ (push capacity t n.order) n' h in
        let f = push-some capacity t n.order x.0 x.1 in
        subst (Consistent parts es) (ap (λ (r : Ring Turn). record n { still = rest; order = r }) f
        ∙ x.2) (keeps-order t rest e)
    keeps-split capacity (To s m ∷ rest) e n' h =
        let x = option_map-some _ (push capacity m (lane s n).to) n' h in
        let f = push-some capacity m (lane s n).to x.0 x.1 in
        subst (Consistent parts es) (ap (λ (r : Ring ToStage). with_lane s
        (record (lane s n) { to = r }) (record n { still = rest })) f ∙ x.2)
        (keeps-to s m rest e)

    -- so does a stage's step
    keeps-lane : (s : Side) (l : Lane) → LaneKeeps parts s (lane s n) l
        → Consistent parts es (with_lane s l n)
    keeps-lane side.I l h =
        keeps_by _ k.pushed k.front k.turns (h.to ∙ k.to_side side.I) (k.to_side side.D) h.stage
        (k.from_side side.D)
        (ap (λ x. merged n.order.popped x n.d.from.popped) h.popped ∙ k.merge)
    keeps-lane side.D l h =
        keeps_by _ k.pushed k.front k.turns (k.to_side side.I) (h.to ∙ k.to_side side.D)
        (k.from_side side.I) h.stage
        (ap (λ x. merged n.order.popped n.i.from.popped x) h.popped ∙ k.merge)

    -- so does the merge's pop of a turn
    keeps-turns : wanted n.at ≡ want.Order → (t : Turn) (r : Ring Turn) → Popped n.order t r
        → Consistent parts es (record n { order = r; at = after_turn t })
    keeps-turns w t r h =
        keeps_by _ k.pushed k.front (h.carried_same ∙ k.turns) (k.to_side side.I)
        (k.to_side side.D) (k.from_side side.I) (k.from_side side.D)
        (ap (λ x. merged x n.i.from.popped n.d.from.popped) h.popped
        ∙ merged-turn n.order.popped n.i.from.popped n.d.from.popped n.given n.at t k.merge w)

    -- so does its pop of a side's message
    keeps-takes : (s : Side) → wanted n.at ≡ want_of s → (m : FromStage) (r : Ring FromStage)
        → Popped (lane s n).from m r → Consistent parts es
        (with_lane s (record (lane s n) { from = r })
        (record n { at = after_message n.at m; given = n.given ++ what_in m }))
    keeps-takes side.I w m r h =
        keeps_by _ k.pushed k.front k.turns (k.to_side side.I) (k.to_side side.D)
        (ap (λ x. x ++ n.i.outbox) h.carried_same ∙ k.from_side side.I) (k.from_side side.D)
        (ap (λ x. merged n.order.popped x n.d.from.popped) h.popped
        ∙ merged-from side.I n.order.popped _ _ n.given n.at m k.merge w)
    keeps-takes side.D w m r h =
        keeps_by _ k.pushed k.front k.turns (k.to_side side.I) (k.to_side side.D)
        (k.from_side side.I)
        (ap (λ x. x ++ n.d.outbox) h.carried_same ∙ k.from_side side.D)
        (ap (λ x. merged n.order.popped n.i.from.popped x) h.popped
        ∙ merged-from side.D n.order.popped _ _ n.given n.at m k.merge w)

    keeps-merge : (w : Want) → wanted n.at ≡ w → (n' : Network) → merge w n ≡ Some n'
        → Consistent parts es n'
    keeps-merge want.Order w n' h =
        let x = option_map-some _ (pop n.order) n' h in
        subst (Consistent parts es) x.2 (keeps-turns w (x.0).0 (x.0).1 (pop-some n.order x.0 x.1))
    keeps-merge want.I w n' h =
        let x = option_map-some _ (pop n.i.from) n' h in
        subst (Consistent parts es) x.2
        (keeps-takes side.I w (x.0).0 (x.0).1 (pop-some n.i.from x.0 x.1))
    keeps-merge want.D w n' h =
        let x = option_map-some _ (pop n.d.from) n' h in
        subst (Consistent parts es) x.2
        (keeps-takes side.D w (x.0).0 (x.0).1 (pop-some n.d.from x.0 x.1))
    keeps-merge want.Nothing w n' h = absurd (cc)

    -- each step keeps the invariant
    pub keeps-next : (capacity : ℕ) (m : Machine) (n' : Network)
        → next parts capacity m n ≡ Some n' → Consistent parts es n'
    keeps-next capacity Splitter n' h = keeps-split capacity n.still refl n' h
    keeps-next capacity (Stage s) n' h =
        let x = option_map-some _ (stage parts capacity s (lane s n).outbox (lane s n)) n' h in
        subst (Consistent parts es) x.2
        (keeps-lane s x.0 (stage-keeps parts capacity s (lane s n).outbox (lane s n) x.0 refl
        (k.from_side s) x.1))
    keeps-next capacity Merging n' h = keeps-merge (wanted n.at) refl n' h
