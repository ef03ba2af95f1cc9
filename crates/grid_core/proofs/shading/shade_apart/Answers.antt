use Rattle.std.proofs.Common.{◌≡◌, true, map, refl, sym, subst, ◌∙◌}
use Rattle.std.specs.Int.{is_power_of_two}
use Rattle.std.proofs.lemmas.List.{length-map}
use Rattle.cache_core.specs.declared.policy.Policy.{Policy}
use Rattle.cache_core.specs.declared.policy.Repl.TheVariants.{Lru}
use Rattle.cache_core.specs.Standing.{rules_from}
use Rattle.grid_core.specs.Shades.{shade_rules}
use Rattle.grid_core.proofs.OtherWays.{blocks-power, made-whole}
use Rattle.grid_core.proofs.Seats.{whole-shadow, last-inside, last-is}
use Rattle.grid_core.proofs.shading.shade_apart.Goals as goal

pub with_assoc-whole-requires-clause-power : goal.with_assoc-whole-requires-clause-power
with_assoc-whole-requires-clause-power c = subst (λ n. is_power_of_two n ≡ true)
    (sym c.blocks-2.ensures) (blocks-power c.args.geometry)

pub returns-clause-found : goal.returns-clause-found
returns-clause-found c =
    let g = c.args.geometry in
    let p = c.args.policy in
    let q : Policy = record { repl = Lru; wback = p.wback; walloc = p.walloc } in
    let w = c.with_assoc-whole.result in
    let made = c.with_assoc-whole.ensures in
    let xs = c.args.shades.now.items in
    let rs = map shade_rules xs in
    let rs' = map shade_rules c.push_shade.new.shades.items in
    let at = c.in_ok-index.ensures.last ∙ sym (length-map xs shade_rules) in
    record {
      inside = last-inside rs rs' (rules_from w q) c.in_ok-index.index
          c.in_ok-index.ensures.rules at;
      shadow = last-is rs rs' (rules_from w q) c.in_ok-index.index c.in_ok-index.ensures.rules at
          ∙ whole-shadow w g q p (made-whole g w (record {
            has_size = made.has_size;
            has_bsize = made.has_bsize;
            has_assoc = made.has_assoc ∙ c.blocks-2.ensures;
          })) (record { lru = refl; same_wback = refl; same_walloc = refl });
    }
