-- What caches have served by some numbers of blocks, they have served by more of them.
use Rattle.std.proofs.Common.{◌≡◌, ◌/◌, List, ℕ, Option, Some, sym, subst}
use Rattle.std.specs.List.{All}
use Rattle.cache_core.specs.History.{History}
use Rattle.cache_core.specs.Lists.{IsBeginning}
use Rattle.grid_core.specs.Numbers.{IsNumberOf, number_at}
use Rattle.grid_core.proofs.MoreNumbers.{engine-more}
use Rattle.grid_core.proofs.Numbers.{number-kept}
use Rattle.grid_run.specs.Backs.{RequestsFor, WereAsked}
use Rattle.grid_run.specs.Banks.{WasAsked}
use Rattle.grid_run.specs.Families.{FamilyStandsBy}
use Rattle.grid_run.specs.Fronts.{FrontAt}
use Rattle.grid_run.specs.Numbering.{IsNumbered, KnowsNumber}
use Rattle.grid_run.specs.SecondCaches.{SecondStandsBy}
use Rattle.grid_run.specs.declared.back.Back.{Back}
use Rattle.grid_run.specs.declared.bank.Bank.{Bank}
use Rattle.grid_run.specs.declared.family.Family.{Family}
use Rattle.grid_run.specs.declared.front.Front.{Front}
use Rattle.grid_run.specs.declared.numbered.Known.{Known}
use Rattle.grid_run.specs.declared.numbered.Numbered.{Numbered}
use Rattle.grid_run.specs.declared.second_caches.SecondCaches.{SecondCaches}
use Rattle.grid_run.specs.declared.second_caches.SecondCaches.TheVariants as caches
use Rattle.stamped_cache.proofs.MoreNumbers.{caches-more}

module _ (blocks more : List ℕ) (on : IsBeginning blocks more) where
  -- a request keeps its number
  pub numbered-more : (n : ℕ) (w : Numbered) → IsNumbered blocks n w → IsNumbered more n w
  numbered-more n w is = record {
    number = λ x access. subst (λ (l : List ℕ). IsNumberOf l n x w.number) (sym on.1)
        (number-kept blocks on.0 (x.addr / n) w.number (is.number x access));
  }

  pub all-numbered-more : (n : ℕ) (ws : List Numbered) → All (IsNumbered blocks n) ws
      → All (IsNumbered more n) ws
  all-numbered-more n ws all k d lt = numbered-more n _ (all k d lt)

  -- a block that is known keeps its number
  pub right-more : (known : Option Known) → KnowsNumber blocks known → KnowsNumber more known
  right-more known right k is =
      subst (λ (l : List ℕ). number_at l k.block ≡ Some k.number) (sym on.1)
      (number-kept blocks on.0 k.block k.number (right k is))

  pub family-more : (l : Family) (h : History) → FamilyStandsBy blocks l h → FamilyStandsBy more l h
  family-more l h st = record { engine = engine-more blocks more l.engine h on st.engine }

  -- first-level caches
  pub front-more : (h : History) (f : Front) → FrontAt blocks h f → FrontAt more h f
  front-more h f at = record {
    stands = family-more f.family h at.stands;
    last = record { known = right-more f.known at.last.known };
  }

  pub fronts-more : (h : History) (fs : List Front) → All (FrontAt blocks h) fs
      → All (FrontAt more h) fs
  fronts-more h fs all k d lt = front-more h _ (all k d lt)

  -- the caches of a second level
  second-more : (u : SecondCaches) (q : ℕ) (h : History) → SecondStandsBy blocks u q h
      → SecondStandsBy more u q h
  second-more (caches.Twins l) q h st =
      record { cache = caches-more blocks more l.caches q h on st.cache }
  second-more (caches.Family l) q h st = family-more l h st

  asked-more : (requests : RequestsFor) (b : Back) → WereAsked blocks requests b
      → WereAsked more requests b
  asked-more requests b asked = record {
    second = record {
      served = asked.second.served;
      stands = λ q lt. second-more b.second.caches q _ (asked.second.stands q lt);
      all = asked.second.all;
      numbered = all-numbered-more _ _ asked.second.numbered;
    };
  }

  -- what the second levels of banks were asked for
  pub banks-more : (requests : RequestsFor) (banks : List Bank)
      → All (WasAsked blocks requests) banks → All (WasAsked more requests) banks
  banks-more requests banks all k d lt =
      let were = all k d lt in
      record { each = λ j b inside. asked-more requests _ (were.each j b inside) }
