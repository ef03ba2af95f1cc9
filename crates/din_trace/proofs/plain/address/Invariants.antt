use Rattle.std.proofs.Common.{◌-◌, ◌≡◌, ◌≤◌, ◌+◌, ◌^◌, length}
use Rattle.din_trace.specs.Line.{hex_value}
use Rattle.din_trace.specs.Plain.{Digits}
use Rattle.din_trace.proofs.plain.address.Given as goal

abbrev pub invariant-digits : goal.invariant-digits
invariant-digits l = record {
  to : l.at ≤ l.start + 16;
  digits : Digits l.fn.bytes l.start l.at;
  value : l.addr ≡ hex_value digits.run;
  small : l.addr + 1 ≤ 16 ^ length digits.run;
}

abbrev pub decreases-digits : goal.decreases-digits
decreases-digits l = l.start + 16 - l.at
