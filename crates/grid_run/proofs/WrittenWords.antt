-- Words that were written one after another: those of a count, and those of a cache.
use Rattle.std.proofs.Common.{ℕ, List, [], ◌∷◌, ◌++◌, Option, Result, Ok}
use Rattle.din_trace.specs.Device.{Writes}
use Rattle.din_trace.proofs.WritesLemmas.{writes_then, writes_as}
use Rattle.grid_run.specs.Table.{tabbed, tabbed_words}
use Rattle.grid_run.proofs.TableLemmas.{word-last, word-then, words-then}

module _ {W S E F : Type 0} {contents : W → Option (List ℕ)} {failures : W → ℕ} where
  -- one over all classes, and one for each class
  pub classes-written : {w0 w1 w2 w3 w4 w5 : W} {x1 x2 x3 x4 : S} (result : Result S F)
      (total instr read write misc : List ℕ)
      → Writes {E = E} contents failures w0 w1 (Ok x1) (tabbed total)
      → Writes {E = E} contents failures w1 w2 (Ok x2) (tabbed instr)
      → Writes {E = E} contents failures w2 w3 (Ok x3) (tabbed read)
      → Writes {E = E} contents failures w3 w4 (Ok x4) (tabbed write)
      → Writes contents failures w4 w5 result (tabbed misc)
      → Writes contents failures w0 w5 result
      (tabbed_words (total ∷ instr ∷ read ∷ write ∷ misc ∷ []))
  classes-written result total instr read write misc h1 h2 h3 h4 h5 =
      writes_as _ _ _ (word-then total _ _ (word-then instr _ _ (word-then read _ _
      (word-then write _ _ (word-last misc)))))
      (writes_then _ _ _ h1 (writes_then _ _ _ h2 (writes_then _ _ _ h3
      (writes_then _ _ _ h4 h5))))

  -- the columns of a cache or their heads: of the six counts that are kept by class, of the miss
  -- rate behind the first two, and of the four other counts
  pub columns-written : {w0 w1 w2 w3 w4 w5 w6 w7 w8 w9 w10 w11 : W}
      {x1 x2 x3 x4 x5 x6 x7 x8 x9 x10 : S} (result : Result S F)
      (fetches misses : List (List ℕ)) (rate : List ℕ)
      (compulsory capacity conflict shadow : List (List ℕ))
      (loaded written_back sent_on flushes : List ℕ)
      → Writes {E = E} contents failures w0 w1 (Ok x1) (tabbed_words fetches)
      → Writes {E = E} contents failures w1 w2 (Ok x2) (tabbed_words misses)
      → Writes {E = E} contents failures w2 w3 (Ok x3) (tabbed rate)
      → Writes {E = E} contents failures w3 w4 (Ok x4) (tabbed_words compulsory)
      → Writes {E = E} contents failures w4 w5 (Ok x5) (tabbed_words capacity)
      → Writes {E = E} contents failures w5 w6 (Ok x6) (tabbed_words conflict)
      → Writes {E = E} contents failures w6 w7 (Ok x7) (tabbed_words shadow)
      → Writes {E = E} contents failures w7 w8 (Ok x8) (tabbed loaded)
      → Writes {E = E} contents failures w8 w9 (Ok x9) (tabbed written_back)
      → Writes {E = E} contents failures w9 w10 (Ok x10) (tabbed sent_on)
      → Writes contents failures w10 w11 result (tabbed flushes)
      → Writes contents failures w0 w11 result (tabbed_words (fetches ++ (misses ++ (rate
      ∷ (compulsory ++ (capacity ++ (conflict ++ (shadow
      ++ (loaded ∷ written_back ∷ sent_on ∷ flushes ∷ [])))))))))
  columns-written result fetches misses rate compulsory capacity conflict shadow loaded
      written_back sent_on flushes h1 h2 h3 h4 h5 h6 h7 h8 h9 h10 h11 =
      writes_as _ _ _ (words-then fetches _ _ (words-then misses _ _ (word-then rate _ _
      (words-then compulsory _ _ (words-then capacity _ _ (words-then conflict _ _
      (words-then shadow _ _ (word-then loaded _ _ (word-then written_back _ _
      (word-then sent_on _ _ (word-last flushes)))))))))))
      (writes_then _ _ _ h1 (writes_then _ _ _ h2 (writes_then _ _ _ h3 (writes_then _ _ _ h4
      (writes_then _ _ _ h5 (writes_then _ _ _ h6 (writes_then _ _ _ h7 (writes_then _ _ _ h8
      (writes_then _ _ _ h9 (writes_then _ _ _ h10 h11))))))))))
