use Rattle.std.proofs.Common.{length, ap, arith, refl, ◌∙◌}
use Rattle.stage_core.specs.Network.Pushes.{pushes}
use Rattle.stage_core.proofs.network.Start.{some-room, sound-start}
use Rattle.stage_core.proofs.network.Core.new.Goals as goal

pub invariant_of-result : goal.invariant_of-result
invariant_of-result c = λ ok.
    let levels = c.in_ok-levels.ensures in
    let made = c.in_ok-events.ensures in
    sound-start _ refl (c.in_ok-pushes.ensures ∙ ap pushes c.deref.ensures.value) c.new-2.ensures
    levels.i levels.d c.new-3.ensures levels.caches
    record {
      short = omega (
        arith,
        ap length made,
        c.requires.short,
        c.selections_make_at_most_two.ensures c.args.selection.now c.args.records.now,
      );
      room = some-room c.args.config.now;
    }
