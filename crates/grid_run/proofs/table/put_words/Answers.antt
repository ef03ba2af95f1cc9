use Rattle.std.proofs.Common.{◌<◌, ◌++◌, length, get_or, map, take, refl, ap, sym, subst, ◌∙◌}
use Rattle.std.proofs.Common.{arith}
use Rattle.std.proofs.lemmas.List.{take_more}
use Rattle.std.specs.Io.KnownBytes.{Appends}
use Rattle.std.specs.Prelude.{string_bytes}
use Rattle.din_trace.proofs.WritesLemmas.{appends_twice}
use Rattle.grid_run.specs.Table.{tabbed, tabbed_words}
use Rattle.grid_run.proofs.TableLemmas.{appends_nothing, tabbed_words-more}
use Rattle.grid_run.proofs.table.put_words.Goals as goal

pub loop-word-init : goal.loop-word-init
unfolding tabbed_words
loop-word-init g c = record {
  grown = appends_nothing (g.W.ByteWriter.contents c.args.writer.now);
  sound = refl;
}

pub loop-word-preserved : goal.loop-word-preserved
loop-word-preserved g c =
    let i = c.loop-word.word-index in
    let ws = c.args.words.now in
    let e = c.word-item.result in
    let inside : i < length ws = omega arith in
    let longer = ap (λ t. tabbed_words (map string_bytes (take i ws)) ++ tabbed t)
    (c.as_bytes.ensures.value ∙ ap string_bytes c.word-item.is)
    ∙ tabbed_words-more string_bytes (take i ws) (get_or ws i e)
    ∙ ap (λ l. tabbed_words (map string_bytes l)) (sym (take_more ws i e inside)) in
    record {
      grown = subst (Appends (g.W.ByteWriter.contents c.args.writer.now)
          (g.W.ByteWriter.contents c.put_word.new.writer)) longer
          (appends_twice _ _ _ _ _ c.loop-word.invariant.grown c.in_ok-put_word.ensures.ok);
      sound = c.in_ok-put_word.ensures.kept ∙ c.loop-word.invariant.sound;
    }
