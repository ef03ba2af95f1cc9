use Rattle.std.proofs.Common.{ℕ, List, map, length, get_or, sym, ap}
use Rattle.std.proofs.Common.{subst, ◌∙◌}
use Rattle.std.proofs.lemmas.List.{length-map}
use Rattle.grid_core.specs.declared.places.Seat.{Seat}
use Rattle.grid_core.specs.Cells.{items_of}
use Rattle.grid_core.specs.Places.{IsPlace, list_placed}
use Rattle.grid_core.specs.Caches.{together_rules, apart_rules}
use Rattle.grid_core.specs.Singles.{single_rules}
use Rattle.grid_core.specs.Written.{written_by}
use Rattle.grid_core.proofs.Seats.{written-all}
use Rattle.grid_core.proofs.caches.Caches.flush.Goals as goal

pub lists_of-requires : goal.lists_of-requires
lists_of-requires c = λ k d lt.
    let old = c.args.self.now in
    let seats = c.args.seats.now.items in
    subst (λ n. IsPlace n (length c.in_ok-apart.apart.items) (get_or seats k d).cell)
    (sym c.in_ok-together.ensures.len)
    (subst (λ n. IsPlace (length (together_rules old)) n (get_or seats k d).cell)
    (length-map old.singles.items single_rules ∙ sym c.in_ok-apart.ensures.len)
    (c.requires.seats k d lt))

pub returns-clause-lists : goal.returns-clause-lists
returns-clause-lists c = λ blocks h e.
    let old = c.args.self.now in
    let seats = c.args.seats.now.items in
    let rs = together_rules old in
    let ss = apart_rules old in
    c.in_ok-lists.ensures
    ∙ ap (λ (l : List (List ℕ)). map (λ (s : Seat).
    list_placed l (map items_of c.in_ok-apart.apart.items) s.cell) seats)
    (c.in_ok-together.ensures.lists blocks h e.stacked)
    ∙ ap (λ (l : List (List ℕ)). map (λ (s : Seat).
    list_placed (map (written_by h) rs) l s.cell) seats) (c.in_ok-apart.ensures.lists h e.singles)
    ∙ written-all h rs ss seats c.requires.seats

pub returns-clause-stands : goal.returns-clause-stands
returns-clause-stands c = λ blocks h e.
    c.clear.ensures.stands blocks h e (c.in_ok-apart.ensures.lists h e.singles)
