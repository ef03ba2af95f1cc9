use Rattle.std.proofs.Common.{◌≡◌, map, length, replicate, vec_len, ap, sym, ◌∙◌, rules}
use Rattle.std.specs.NonZero.{non_zero_usize_get}
use Rattle.std.proofs.lemmas.List.{length-replicate}
use Rattle.cache_core.specs.Mapped.{cap_of, flat}
use Rattle.cache_core.proofs.Flat.{empty_map, caps-none, flat-none}
use Rattle.cache_core.proofs.maps.Maps.new.Goals as goal

pub invariant_of-result : goal.invariant_of-result
invariant_of-result c =
    let ways : non_zero_usize_get c.unwrap.result ≡ c.args.assoc = search rules in
    let items = c.in_ok-sets.ensures ∙ ap (λ k. replicate c.args.count (empty_map k)) ways in
    let count : vec_len c.in_ok-sets.sets ≡ c.args.count = c.in_ok-sets.sets.ok.0 ∙ ap length items
    ∙ length-replicate c.args.count (empty_map c.args.assoc) in
    record {
      caps = ap (map cap_of) items ∙ caps-none c.args.assoc c.args.count
          ∙ ap (λ k. replicate k c.args.assoc) (sym count);
    }

pub returns-clause-empty : goal.returns-clause-empty
returns-clause-empty c =
    let ways : non_zero_usize_get c.unwrap.result ≡ c.args.assoc = search rules in
    ap (flat c.args.assoc) (c.in_ok-sets.ensures
    ∙ ap (λ k. replicate c.args.count (empty_map k)) ways) ∙ flat-none c.args.assoc c.args.count
