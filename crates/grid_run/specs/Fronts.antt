-- First-level caches of one side.
use Rattle.std.specs.Prelude.{◌≡◌, ◌<◌, ◌⊎◌, ℕ, List, length, map}
use Rattle.std.specs.Global.{Vec}
use Rattle.cache_core.specs.History.{History, Rules}
use Rattle.grid_core.specs.Cells.{items_of}
use Rattle.cache_core.specs.Parts.{SendsNothing, outcome_of}
use Rattle.cache_core.specs.declared.access.Access.{Access}
use Rattle.grid_core.specs.Written.{rules_at_index, written_by}
use Rattle.grid_run.specs.Families.{FamilyStandsBy, HasServedLast, family_rules}
use Rattle.grid_run.specs.Numbering.{KnowsNumber}
use Rattle.grid_run.specs.declared.front.Front.{Front}
use Rattle.grid_run.specs.declared.front.Last.{Last}
use Rattle.grid_run.specs.declared.front.Last.TheVariants as last
use Rattle.grid_run.specs.declared.family.Family.{Family}
use Rattle.grid_run.specs.declared.requests.Request.{Request}
use Rattle.grid_run.specs.declared.requests.Request.TheVariants as request

-- the rules of the caches
abbrev pub front_rules : Front → List Rules
front_rules f = family_rules f.family

-- the block of the last access has the number that is kept for it
pub record KnowsLast (blocks : List ℕ) (f : Front) : Type 0 where
  pub known : KnowsNumber blocks f.known

-- the caches have served this history, by the numbers that the places of a list of blocks are
pub record FrontAt (blocks : List ℕ) (h : History) (f : Front) : Type 0 where
  pub stands : FamilyStandsBy blocks f.family h
  pub last : KnowsLast blocks f

-- the access x sends nothing in any of the caches, after the history h
abbrev pub HasSentNothing : Family → History → Access → Type 0
HasSentNothing l h x = (cell : ℕ) → cell < length (family_rules l)
    → SendsNothing (outcome_of (rules_at_index (family_rules l) cell) h x)

-- what the caches served last is this request, after the history h; the lists are of the blocks
-- that each of them wrote back at the last flush
abbrev pub WasLast : Family → History → Last → List (Vec ℕ) → Request → Type 0
WasLast l h w lists (request.Access x) = HasServedLast l h x
    × ((w ≡ last.Access x) ⊎ ((w ≡ last.Silence) × HasSentNothing l h x))
WasLast l h w lists request.Flush = (w ≡ last.Flush)
    × (map items_of lists ≡ map (written_by h) (family_rules l))

-- the caches sent nothing for what they served last
abbrev pub IsSilent : Front → Type 0
IsSilent f = f.last ≡ last.Silence

-- the last request of the caches was this one, after the history h
pub record HasSent (h : History) (q : Request) (f : Front) : Type 0 where
  pub last : WasLast f.family h f.last f.lists.items q
