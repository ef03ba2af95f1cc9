-- The caches of second levels that share a queue: of each of its users.
use Rattle.std.specs.Prelude.{ℕ, List, [], ◌∷◌}
use Rattle.cache_core.specs.History.{History, Rules}
use Rattle.grid_run.specs.Families.{FamilyStandsBy, bsize_on, family_rules}
use Rattle.grid_run.specs.Twins.{TwinStandsBy, twin_rules, twin_users}
use Rattle.grid_run.specs.declared.second_caches.SecondCaches.{SecondCaches}
use Rattle.grid_run.specs.declared.second_caches.SecondCaches.TheVariants as caches

-- how many users there are
abbrev pub second_users : SecondCaches → ℕ
second_users (caches.Twins l) = twin_users l
second_users (caches.Family l) = 1

-- the rules of the caches of each user
abbrev pub second_rules : SecondCaches → List Rules
second_rules (caches.Twins l) = twin_rules l ∷ []
second_rules (caches.Family l) = family_rules l

-- how many bytes their blocks have
abbrev pub second_bsize : SecondCaches → ℕ
second_bsize (caches.Twins l) = (twin_rules l).bsize
second_bsize (caches.Family l) = bsize_on l

-- the caches of user q have served this history, by the numbers that the places of a list of blocks
-- are
abbrev pub SecondStandsBy : List ℕ → SecondCaches → ℕ → History → Type 0
SecondStandsBy blocks (caches.Twins l) q h = TwinStandsBy blocks l q h
SecondStandsBy blocks (caches.Family l) q h = FamilyStandsBy blocks l h
