-- Counts by class, added.
use Rattle.std.specs.Prelude.{ℕ, ◌+◌, ◌-◌, List, [], ◌∷◌, map, drop}
use Rattle.std.specs.Global.{Vec}
use Rattle.cache_core.specs.declared.counts.PerClass.{PerClass}
use Rattle.cache_core.specs.Counts.{none_by_class}

-- two counts, added class by class
abbrev pub added : PerClass → PerClass → PerClass
added p q = record {
  instr = p.instr + q.instr;
  read = p.read + q.read;
  write = p.write + q.write;
  misc = p.misc + q.misc;
}

-- the first count without the second, class by class
abbrev pub lessened : PerClass → PerClass → PerClass
lessened p q = record {
  instr = p.instr - q.instr;
  read = p.read - q.read;
  write = p.write - q.write;
  misc = p.misc - q.misc;
}

-- all counts of a list, added
abbrev pub total : List PerClass → PerClass
total [] = none_by_class
total (p ∷ ps) = added p (total ps)

-- the counts of a vector
abbrev pub listed_counts : Vec PerClass → List PerClass
listed_counts v = v.items

-- of counts by distance and then by level: those from distance n and from level k on, added
abbrev pub past : ℕ → ℕ → List (List PerClass) → PerClass
past n k tables = total (map (λ counts. total (drop k counts)) (drop n tables))
