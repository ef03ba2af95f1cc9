-- How the table writes the value of an option where it has a column for each.
use Rattle.std.specs.Prelude.{Bool, true, false, codes, decimal}
use Rattle.clap.specs.Words.{Text}
use Rattle.cache_core.specs.declared.policy.Repl.{Repl}
use Rattle.cache_core.specs.declared.policy.Repl.TheVariants.{Lru, Fifo}
use Rattle.dinero_options.specs.declared.opt.Opt.{Opt}
use Rattle.dinero_options.specs.declared.opt.Opt.TheVariants.{L1Isize, L1Ibsize, L1Iassoc, L1Irepl}
use Rattle.dinero_options.specs.declared.opt.Opt.TheVariants.{L1Dsize, L1Dbsize, L1Dassoc, L1Drepl}
use Rattle.dinero_options.specs.declared.opt.Opt.TheVariants.{L1Dwback, L1Dwalloc, L2Usize}
use Rattle.dinero_options.specs.declared.opt.Opt.TheVariants.{L2Ubsize}
use Rattle.dinero_options.specs.declared.opt.Opt.TheVariants.{L2Uassoc, L2Urepl, L2Uwback}
use Rattle.dinero_options.specs.declared.opt.Opt.TheVariants.{L2Uwalloc}
use Rattle.dinero_options.specs.declared.opt.Opt.TheVariants.{Ring, Skipcount, Maxcount, Flushcount}
use Rattle.dinero_options.specs.declared.settings.Settings.{Settings}

-- the letter of a replacement: l is LRU, f is FIFO
abbrev pub replacement_letter : Repl → Text
replacement_letter Lru = codes "l"
replacement_letter Fifo = codes "f"

-- the letter of a choice: a is always, n is never
abbrev pub choice_letter : Bool → Text
choice_letter true = codes "a"
choice_letter false = codes "n"

-- what an option is set to: a number in decimal digits, of a size its bytes; or a letter
abbrev pub written : Settings → Opt → Text
written s L1Isize = decimal s.i.size
written s L1Ibsize = decimal s.i.bsize
written s L1Iassoc = decimal s.i.assoc
written s L1Irepl = replacement_letter s.i.policy.repl
written s L1Dsize = decimal s.d.size
written s L1Dbsize = decimal s.d.bsize
written s L1Dassoc = decimal s.d.assoc
written s L1Drepl = replacement_letter s.d.policy.repl
written s L1Dwback = choice_letter s.d.policy.wback
written s L1Dwalloc = choice_letter s.d.policy.walloc
written s L2Usize = decimal s.u.size
written s L2Ubsize = decimal s.u.bsize
written s L2Uassoc = decimal s.u.assoc
written s L2Urepl = replacement_letter s.u.policy.repl
written s L2Uwback = choice_letter s.u.policy.wback
written s L2Uwalloc = choice_letter s.u.policy.walloc
written s Ring = decimal s.ring
written s Skipcount = decimal s.selection.skip
written s Maxcount = decimal s.selection.max
written s Flushcount = decimal s.selection.every
