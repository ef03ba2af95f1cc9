use Rattle.std.proofs.Common.{◌≡◌, ◌+◌, ◌++◌, ◌∷◌, [], List, drop, get_or, length, take, ap}
use Rattle.std.proofs.Common.{refl, subst, sym, ◌∙◌, arith, append_assoc, append-nil}
use Rattle.std.proofs.Common.{length-append, length-drop, length-take}
use Rattle.std.proofs.Math.Seq.{take-add}
use Rattle.std.proofs.lemmas.List.{take_all, take_more, take_rest}
use Rattle.din_trace.specs.declared.record.DinRecord.{DinRecord}
use Rattle.din_trace.specs.declared.record.Label.TheVariants as label
use Rattle.grid_run.specs.FirstLevels.{WasGiven}
use Rattle.grid_run.proofs.StayNumbered.{queues-on, queues-same}
use Rattle.grid_run.proofs.first_levels.FirstLevels.take_part.Goals as goal

pub records-init : goal.records-init
records-init c = record {
  given = λ served past was. subst (λ (l : List DinRecord). WasGiven served l c.args.self.now)
      (sym (append-nil past)) was;
  within = omega arith;
  numbers = queues-same _ _;
  task = refl;
}

pub take-requires : goal.take-requires
take-requires c =
    let room = c.requires.room in
    let k = c.records.index in
    let before = take k c.args.part.now in
    record {
      room = (
        room.0,
        room.1 ++ before,
        c.records.invariant.given room.0 room.1 room.2,
        omega (
          arith,
          room.3,
          c.records-test.true,
          length-append room.1 before,
          length-take k c.args.part.now,
        ),
      );
    }

pub take_fetches-index-requires : goal.take_fetches-index-requires
take_fetches-index-requires c =
    let room = c.requires.room in
    let k = c.records.index in
    let xs = c.args.part.now in
    let before = take k xs in
    let e = get_or xs k (record { label = label.Read; addr = 0 }) in
    record {
      room = (
        room.0,
        (room.1 ++ before) ++ e ∷ [],
        c.in_ok-take.ensures.given room.0 (room.1 ++ before)
            (c.records.invariant.given room.0 room.1 room.2),
        omega (
          arith,
          room.3,
          c.records-test.true,
          length-append (room.1 ++ before) (e ∷ []),
          length-append room.1 before,
          length-take k xs,
          ap length (take_rest xs (k + 1)),
          length-drop (k + 1) xs,
        ),
      );
    }

pub records-preserved : goal.records-preserved
records-preserved c =
    let inv = c.records.invariant in
    let k = c.records.index in
    let n = c.take_fetches-index.result in
    let xs = c.args.part.now in
    let e = get_or xs k (record { label = label.Read; addr = 0 }) in
    record {
      given = λ served past was.
          let one = c.in_ok-take.ensures.given served (past ++ take k xs)
          (inv.given served past was) in
          let first : (past ++ take k xs) ++ e ∷ [] ≡ past ++ take (k + 1) xs =
          append_assoc past (take k xs) (e ∷ [])
          ∙ ap (λ (l : List DinRecord). past ++ l) (sym (take_more xs k _ c.records-test.true)) in
          subst (λ (l : List DinRecord). WasGiven served l c.take_fetches-index.new.self)
          (ap (λ (l : List DinRecord). ((past ++ take k xs) ++ e ∷ []) ++ take n l)
          (take_rest xs (k + 1))
          ∙ ap (λ (l : List DinRecord). l ++ take n (drop (k + 1) xs)) first
          ∙ append_assoc past (take (k + 1) xs) (take n (drop (k + 1) xs))
          ∙ ap (λ (l : List DinRecord). past ++ l) (sym (take-add (k + 1) n xs)))
          (c.take_fetches-index.ensures.given served _ one);
      within = omega (
        arith,
        c.records-test.true,
        c.take_fetches-index.ensures.inside,
        ap length (take_rest xs (k + 1)),
        length-drop (k + 1) xs,
      );
      numbers = queues-on inv.numbers
          (queues-on c.in_ok-take.ensures.numbers c.take_fetches-index.ensures.numbers);
      task = c.take_fetches-index.ensures.task ∙ c.take.ensures.task ∙ inv.task;
    }

pub returns-clause-given : goal.returns-clause-given
returns-clause-given c = λ served past was.
    subst (λ (rs : List DinRecord). WasGiven served (past ++ rs) c.records.self)
    (take_all c.records.index c.args.part.now c.records-test.false)
    (c.records.invariant.given served past was)
