-- What is counted where nothing is.
use Rattle.std.proofs.Common.{◌≡◌, ℕ, ◌+◌, Bool, false, ◌&&◌, ap, ◌∙◌, arith}
use Rattle.std.proofs.Math.Bool.{and-false}
use Rattle.cache_core.specs.declared.access.Access.{Access}
use Rattle.cache_core.specs.declared.counts.PerClass.{PerClass}
use Rattle.cache_core.specs.History.{is_instr, is_read, is_write, is_misc}
use Rattle.cache_core.specs.Parts.{one_if}
use Rattle.cache_core.specs.Counting.{with_one}

none-more : (t : Bool) (n : ℕ) → one_if (t && false) + n ≡ n
none-more t n =
    let z : 0 + n ≡ n = omega arith in
    ap (λ u. one_if u + n) (and-false t) ∙ z

-- nothing is added where nothing is counted
pub with-none : (x : Access) (p : PerClass) → with_one x false p ≡ p
with-none x p =
    ap (λ n. record {
      instr = n;
      read = one_if (is_read x && false) + p.read;
      write = one_if (is_write x && false) + p.write;
      misc = one_if (is_misc x && false) + p.misc;
    }) (none-more (is_instr x) p.instr)
    ∙ ap (λ n. record {
      instr = p.instr;
      read = n;
      write = one_if (is_write x && false) + p.write;
      misc = one_if (is_misc x && false) + p.misc;
    }) (none-more (is_read x) p.read)
    ∙ ap (λ n. record {
      instr = p.instr;
      read = p.read;
      write = n;
      misc = one_if (is_misc x && false) + p.misc;
    }) (none-more (is_write x) p.write)
    ∙ ap (λ n. record { instr = p.instr; read = p.read; write = p.write; misc = n })
    (none-more (is_misc x) p.misc)
