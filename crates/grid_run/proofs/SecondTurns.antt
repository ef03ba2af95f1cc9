-- Requests that the caches of second levels serve one after another.
use Rattle.std.proofs.Common.{◌≡◌, ℕ, ◌+◌, ◌<◌, ◌≤◌, List, ◌∷◌, ◌++◌, drop, get_or, length}
use Rattle.std.proofs.Common.{take, sym, ap, subst, ◌∙◌, append-nil, refl}
use Rattle.std.specs.Prelude.{if◌then◌else◌}
use Rattle.std.specs.List.{All}
use Rattle.std.proofs.lemmas.List.{take_all}
use Rattle.cache_core.specs.History.{History}
use Rattle.stage_core.specs.SecondLevel.{read_as, second_history}
use Rattle.stage_core.specs.declared.message.What.{What}
use Rattle.grid_run.specs.Numbering.{IsNumbered, is_for, part_to, sent_to, what_of}
use Rattle.grid_run.specs.SecondCaches.{SecondStandsBy, second_bsize, second_users}
use Rattle.grid_run.specs.Sending.{SecondCanServe, SecondHasRoom, SecondServed}
use Rattle.grid_run.specs.declared.numbered.Numbered.{Numbered}
use Rattle.grid_run.specs.declared.numbered.Sort.TheVariants as sort
use Rattle.grid_run.specs.declared.second_caches.SecondCaches.{SecondCaches}
use Rattle.grid_run.proofs.Rooms.{requests-from, room-next, room-number, room-one, served-one}
use Rattle.grid_run.proofs.SentTo.{made-to}

-- where users got the same requests, the same was served
pub served-alike : (blocks : List ℕ) (u : SecondCaches) (ws vs : ℕ → List What)
    → ((q : ℕ) → q < second_users u → ws q ≡ vs q) → SecondServed blocks ws u
    → SecondServed blocks vs u
served-alike blocks u ws vs same st = λ q lt.
    subst (λ (l : List What). SecondStandsBy blocks u q (second_history l)) (same q lt) (st q lt)

served-same : (blocks : List ℕ) (u : SecondCaches) (ws vs : ℕ → List What)
    → ((q : ℕ) → ws q ≡ vs q) → SecondServed blocks ws u → SecondServed blocks vs u
served-same blocks u ws vs same = served-alike blocks u ws vs (λ q lt. same q)

-- what a user gets of a request
abbrev part : ℕ → Numbered → List What
part k w = part_to k w.users (what_of w)

-- a request for what lies past the end of a list
abbrev pub nothing : Numbered
nothing = record { addr = 0; number = 0; users = record { bits = 0 }; sort = sort.Back }

-- the first i of the requests are served since the caches were `start`, and there is room for the
-- others
pub record HavePassed (start : SecondCaches) (xs : List Numbered) (i : ℕ) (u : SecondCaches)
    : Type 0 where
  pub served : (blocks : List ℕ) (ws : ℕ → List What) →
      All (IsNumbered blocks (second_bsize start)) xs → SecondServed blocks ws start →
      SecondServed blocks (λ q. ws q ++ sent_to q (take i xs)) u
  pub room : (blocks : List ℕ) × SecondHasRoom blocks u (drop i xs)
  pub bsize : second_bsize u ≡ second_bsize start
  pub users : second_users u ≡ second_users start

-- at first none is
pub none-passed : (start : SecondCaches) (xs : List Numbered)
    → ((blocks : List ℕ) × SecondHasRoom blocks start xs) → HavePassed start xs 0 start
none-passed start xs room = record {
  served = λ blocks ws all st.
      served-same blocks start ws (λ q. ws q ++ sent_to q (take 0 xs))
      (λ q. sym (append-nil (ws q))) st;
  room = room;
  bsize = refl;
  users = refl;
}

module _ (start : SecondCaches) (xs : List Numbered) (i : ℕ) (u : SecondCaches)
    (now : HavePassed start xs i u) where
  rest-room : i < length xs
      → SecondHasRoom now.room.0 u (get_or xs i nothing ∷ drop (i + 1) xs)
  rest-room lt = subst (SecondHasRoom now.room.0 u) (requests-from xs i nothing lt) now.room.1

  -- the next one can be served
  pub can-serve : i < length xs → SecondCanServe u (get_or xs i nothing)
  can-serve lt =
      room-one now.room.0 u (get_or xs i nothing) (drop (i + 1) xs) (rest-room lt)

  -- and once it is, one more is served
  pub one-passed : i < length xs → (new : SecondCaches) → second_bsize new ≡ second_bsize u
      → second_users new ≡ second_users u
      → ((blocks : List ℕ) (q : ℕ) (h : History) → q < second_users u
      → IsNumbered blocks (second_bsize u) (get_or xs i nothing) → SecondStandsBy blocks u q h
      → SecondStandsBy blocks new q (if is_for q (get_or xs i nothing)
      then read_as (what_of (get_or xs i nothing)) ∷ h else h))
      → HavePassed start xs (i + 1) new
  one-passed lt new same as-many longer =
      let blocks = now.room.0 in
      let x = get_or xs i nothing in
      let rest = drop (i + 1) xs in
      let room = rest-room lt in
      record {
        served = λ bs ws all st.
            served-same bs new (λ q. (ws q ++ sent_to q (take i xs)) ++ part q x)
            (λ q. ws q ++ sent_to q (take (i + 1) xs))
            (λ q. made-to (part q) (ws q) xs i nothing lt)
            (served-one bs u new x as-many
            (λ q h inside. longer bs q h inside
            (subst (λ n. IsNumbered bs n x) (sym now.bsize) (all i nothing lt)))
            (λ q. ws q ++ sent_to q (take i xs)) (now.served bs ws all st));
        room = (
          blocks,
          room-next blocks u x rest room new same as-many
              (served-one blocks u new x as-many
              (λ q h inside. longer blocks q h inside (room-number blocks u x rest room))
              room.past room.stands),
        );
        bsize = same ∙ now.bsize;
        users = as-many ∙ now.users;
      }

  -- at last all are
  pub all-passed : length xs ≤ i → (blocks : List ℕ) (ws : ℕ → List What)
      → All (IsNumbered blocks (second_bsize start)) xs → SecondServed blocks ws start
      → SecondServed blocks (λ q. ws q ++ sent_to q xs) u
  all-passed past blocks ws all st =
      served-same blocks u (λ q. ws q ++ sent_to q (take i xs)) (λ q. ws q ++ sent_to q xs)
      (λ q. ap (λ l. ws q ++ sent_to q l) (take_all i xs past)) (now.served blocks ws all st)
