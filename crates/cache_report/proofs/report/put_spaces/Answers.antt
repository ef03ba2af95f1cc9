use Rattle.std.proofs.Common.{◌≡◌, ℕ, ◌≤◌, take, replicate, arith}
use Rattle.std.proofs.lemmas.List.{take-replicate}
use Rattle.cache_report.proofs.report.put_spaces.Goals as goal

-- the first k of eighteen spaces
spaces : (k : ℕ) → k ≤ 18 → take {A = ℕ} k (replicate 18 32) ≡ replicate k 32
spaces k h = take-replicate k 18 32 h

pub returns : goal.returns
returns g c = rw (← spaces c.args.count (omega (arith, c.requires))) c.put.ensures
