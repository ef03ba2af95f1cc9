use Rattle.std.proofs.Common.{refl}
use Rattle.din_trace.proofs.WritesLemmas.{writes_then, writes_as}
use Rattle.dinero_options.proofs.refusal.put_words.Goals as goal

pub returns-in_ok-put-in-Number : goal.returns-in_ok-put-in-Number
returns-in_ok-put-in-Number g c =
    writes_as _ _ _ (rw (c.as_bytes.ensures.value, c.name.ensures, c.in-Number.is) refl)
    (writes_then _ _ _ c.in_ok-put-in-Number.ensures c.put-in-Number-2.ensures)

pub returns-in_ok-put-in-Choice : goal.returns-in_ok-put-in-Choice
returns-in_ok-put-in-Choice g c =
    writes_as _ _ _ (rw (
      c.as_bytes-in-Choice.ensures.value,
      c.name-in-Choice.ensures,
      c.in-Choice.is,
    ) refl)
    (writes_then _ _ _ c.in_ok-put-in-Choice.ensures c.put-in-Choice-2.ensures)
