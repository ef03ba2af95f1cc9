-- What is said of words that are refused, and the fault of arguments that cannot be read.
use Rattle.std.specs.Prelude.{ℕ, List, [], ◌++◌, codes}
use Rattle.std.specs.declared.io.ErrorKind.{ErrorKind}
use Rattle.std.specs.declared.io.ErrorKind.TheVariants as kind
use Rattle.cache_core.specs.declared.geometry.GeometryFault.{GeometryFault}
use Rattle.cache_core.specs.declared.geometry.GeometryFault.TheVariants as geometry
use Rattle.stage_core.specs.declared.config.CacheName.{CacheName}
use Rattle.stage_core.specs.declared.config.CacheName.TheVariants as cache
use Rattle.stage_core.specs.declared.config.ConfigFault.{ConfigFault}
use Rattle.stage_core.specs.declared.config.ConfigFault.TheVariants as config
use Rattle.dinero_options.specs.Options.{name_of}
use Rattle.dinero_options.specs.declared.fault.WordsFault.{WordsFault}
use Rattle.dinero_options.specs.declared.fault.WordsFault.TheVariants as words

-- the name of a cache, as in the report
abbrev pub cache_name_text : CacheName → List ℕ
cache_name_text cache.I = codes "l1-icache"
cache_name_text cache.D = codes "l1-dcache"
cache_name_text cache.U = codes "l2-ucache"

-- the message for a refused geometry
abbrev pub geometry_fault_text : GeometryFault → List ℕ
geometry_fault_text geometry.SizeNotPower = codes "size is not a power of two"
geometry_fault_text geometry.SizeRange = codes "size is out of range"
geometry_fault_text geometry.BlockNotPower = codes "block is not a power of two"
geometry_fault_text geometry.BlockRange = codes "block is out of range"
geometry_fault_text geometry.AssocNotPower = codes "associativity is not a power of two"
geometry_fault_text geometry.AssocTooLarge = codes "associativity is too large"

-- the message for a refused configuration
abbrev pub config_fault_text : ConfigFault → List ℕ
config_fault_text (config.Geometry which fault) = cache_name_text which ++
    (codes ": " ++ geometry_fault_text fault)
config_fault_text config.BlockOrder = codes "l2 block is shorter than an l1 block"
config_fault_text config.Ring = codes "ring is not from 1 to 65536"

-- the fault if the program's arguments cannot be read: `Memory` if an allocation failed, or else
-- `Words`, since an argument is not UTF-8
abbrev pub unreadable_arguments_fault : ErrorKind → WordsFault
unreadable_arguments_fault kind.OutOfMemory = words.Memory
unreadable_arguments_fault _ = words.Words

-- the message for a refused command line; empty for help
abbrev pub words_fault_text : WordsFault → List ℕ
words_fault_text words.Words = codes "command line refused, try --help"
words_fault_text (words.Number option) = name_of option ++ codes ": not a number"
words_fault_text (words.Choice option) = name_of option ++ codes ": not a lawful letter"
words_fault_text (words.Config fault) = config_fault_text fault
words_fault_text words.Help = []
words_fault_text words.Memory = codes "out of memory"

-- the exit status for a refused command line; 0 for help
abbrev pub words_status : WordsFault → ℕ
words_status words.Help = 0
words_status words.Memory = 3
words_status _ = 2
