-- Room at the second level, and requests one after another.
use Rattle.std.proofs.Common.{◌≡◌, ℕ, suc, ◌+◌, ◌<◌, List, ◌∷◌, ◌++◌, length}
use Rattle.std.proofs.Common.{drop, get_or, sym, ap, subst, ◌∙◌, append-nil}
use Rattle.std.proofs.Common.{length-append, arith}
use Rattle.std.specs.Prelude.{if◌then◌else◌}
use Rattle.std.specs.List.{All}
use Rattle.std.proofs.Math.Seq.{drop-cons}
use Rattle.std.proofs.lemmas.List.Elements.{All-head, All-tail}
use Rattle.cache_core.specs.History.{History}
use Rattle.stage_core.specs.SecondLevel.{read_as, second_history}
use Rattle.stage_core.specs.declared.message.What.{What}
use Rattle.stage_core.proofs.Worked.{length-second_history}
use Rattle.grid_run.specs.Numbering.{IsNumbered, is_for, part_to, sent_to, what_of}
use Rattle.grid_run.specs.SecondCaches.{SecondStandsBy, second_bsize, second_users}
use Rattle.grid_run.specs.Sending.{NothingWaitsFor, SecondAsked, SecondCanServe, SecondHasRoom}
use Rattle.grid_run.specs.Sending.{SecondServed}
use Rattle.grid_run.specs.declared.numbered.Numbered.{Numbered}
use Rattle.grid_run.specs.declared.second.Second.{Second}
use Rattle.grid_run.specs.declared.second_caches.SecondCaches.{SecondCaches}
use Rattle.grid_run.proofs.SentTo.{history-part, part-counts}

-- there is room for a request, and others after it
module _ (blocks : List ℕ) (u : SecondCaches) (w : Numbered) (rest : List Numbered)
    (room : SecondHasRoom blocks u (w ∷ rest)) where
  -- it can be served
  pub room-one : SecondCanServe u w
  room-one = record {
    blocks = blocks;
    past = λ q. second_history (room.past q);
    stands = room.stands;
    short = λ q lt is.
        omega (
          arith,
          length-second_history (room.past q),
          room.short q lt,
          part-counts q w.users (what_of w) (sent_to q rest) is,
        );
  }

  -- it has a number
  pub room-number : IsNumbered blocks (second_bsize u) w
  room-number = All-head (IsNumbered blocks (second_bsize u)) w rest room.numbered

  -- and once it is served, there is room for the others
  pub room-next : (new : SecondCaches) → second_bsize new ≡ second_bsize u
      → second_users new ≡ second_users u
      → SecondServed blocks (λ q. room.past q ++ part_to q w.users (what_of w)) new
      → SecondHasRoom blocks new rest
  room-next new same as-many served = record {
    past = λ q. room.past q ++ part_to q w.users (what_of w);
    stands = served;
    numbered = subst (λ n. All (IsNumbered blocks n) rest) (sym same)
        (All-tail (IsNumbered blocks (second_bsize u)) w rest room.numbered);
    short = λ q lt.
        omega (
          arith,
          room.short q (omega (arith, lt, as-many)),
          length-append (room.past q) (part_to q w.users (what_of w)),
          length-append (part_to q w.users (what_of w)) (sent_to q rest),
        );
  }

-- one request served at the second level
pub served-one : (blocks : List ℕ) (old new : SecondCaches) (w : Numbered)
    → second_users new ≡ second_users old
    → ((q : ℕ) (h : History) → q < second_users old → SecondStandsBy blocks old q h
    → SecondStandsBy blocks new q (if is_for q w then read_as (what_of w) ∷ h else h))
    → (ws : ℕ → List What) → SecondServed blocks ws old
    → SecondServed blocks (λ q. ws q ++ part_to q w.users (what_of w)) new
served-one blocks old new w as-many longer ws st = λ q lt.
    let inside : q < second_users old = omega (arith, lt, as-many) in
    subst (λ (h : History). SecondStandsBy blocks new q h)
    (sym (history-part (ws q) q w.users (what_of w)))
    (longer q (second_history (ws q)) inside (st q inside))

-- where users were asked for the same, they were asked for the same by its other name
pub asked-alike : (blocks : List ℕ) (u : Second) (ws vs : ℕ → List What)
    → ((q : ℕ) → q < second_users u.caches → vs q ≡ ws q) → SecondAsked blocks ws u
    → SecondAsked blocks vs u
asked-alike blocks u ws vs same asked = record {
  served = asked.served;
  stands = asked.stands;
  all = λ q lt. same q lt ∙ asked.all q lt;
  numbered = asked.numbered;
}

-- where nothing waits, all that was asked for is served
pub settled-served : (blocks : List ℕ) (u : Second) (ws : ℕ → List What) → SecondAsked blocks ws u
    → NothingWaitsFor u → SecondServed blocks ws u.caches
settled-served blocks u ws asked settled = λ q lt.
    subst (λ (l : List What). SecondStandsBy blocks u.caches q (second_history l))
    (sym (asked.all q lt ∙ ap (λ l. asked.served q ++ sent_to q l) settled.none
    ∙ append-nil (asked.served q)))
    (asked.stands q lt)

one-more : (i : ℕ) → suc i ≡ i + 1
one-more i = omega arith

-- of the requests from one on, that one comes first
pub requests-from : (xs : List Numbered) (i : ℕ) (d : Numbered) → i < length xs
    → drop i xs ≡ get_or xs i d ∷ drop (i + 1) xs
requests-from xs i d lt = drop-cons xs i d lt ∙ ap (λ n. get_or xs i d ∷ drop n xs) (one-more i)
