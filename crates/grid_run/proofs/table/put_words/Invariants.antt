use Rattle.std.proofs.Common.{◌≡◌, map, take}
use Rattle.std.specs.Prelude.{string_bytes}
use Rattle.std.specs.Io.KnownBytes.{Appends}
use Rattle.grid_run.specs.Table.{tabbed_words}
use Rattle.grid_run.proofs.table.put_words.Given as goal

abbrev pub invariant-loop-word : goal.invariant-loop-word
invariant-loop-word g l = record {
  grown : Appends (g.W.ByteWriter.contents l.initial.writer) (g.W.ByteWriter.contents l.writer)
      (tabbed_words (map string_bytes (take l.word-index l.words)));
  sound : g.W.ByteWriter.failures l.writer ≡ g.W.ByteWriter.failures l.initial.writer;
}
