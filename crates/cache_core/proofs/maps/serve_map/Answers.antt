use Rattle.std.proofs.Common.{◌≡◌, ◌-◌, None, sym, ap, ◌∙◌, nat_eq}
use Rattle.std.specs.Option.{option_map_or}
use Rattle.lru.specs.LruCache.{lru_cache, put_entries, displaced}
use Rattle.cache_core.specs.Policy.{is_fifo}
use Rattle.cache_core.specs.Mapped.{shown, dirty_entry}
use Rattle.cache_core.proofs.MapStep.{hit-row, hit-is, hit-back, miss-same, pass-row, pass-back}
use Rattle.cache_core.proofs.MapStep.{load-row, load-back, suc_pred, or-nothing}
use Rattle.cache_core.proofs.Refusals.{err-anyhow}
use Rattle.cache_core.proofs.maps.serve_map.Goals as goal

pub returns-then-hit-clause-served : goal.returns-then-hit-clause-served
returns-then-hit-clause-served c =
    let m = c.args.map.now in let p = c.args.policy in
    let fits = c.within_ways.ensures.1 in
    let there = sym c.touch-hit.ensures.hit ∙ c.if-hit.true in
    record {
      row = ap (λ t. shown m.cap t.entries) c.touch-hit.ensures.map
          ∙ hit-row (is_fifo p) p.wback p.walloc c.args.write c.args.block_addr m.cap m.entries fits
          there;
      hit = sym c.if-hit.true ∙ c.touch-hit.ensures.hit
          ∙ hit-is (is_fifo p) p.wback p.walloc c.args.write c.args.block_addr m.cap m.entries fits;
      back = sym (hit-back (is_fifo p) p.wback p.walloc c.args.write c.args.block_addr
          m.cap m.entries
          fits there);
    }

pub returns-then-not-load-clause-served : goal.returns-then-not-load-clause-served
returns-then-not-load-clause-served c =
    let m = c.args.map.now in let p = c.args.policy in
    let fits = c.within_ways.ensures.1 in
    let absent = sym c.touch-hit.ensures.hit ∙ c.if-hit.false in
    let pass = sym c.may_load-load.ensures ∙ c.if-not-load.true in
    record {
      row = ap (λ t. shown m.cap t.entries) c.touch-hit.ensures.map
          ∙ pass-row (is_fifo p) p.wback p.walloc c.args.write c.args.block_addr m.cap m.entries
          fits
          absent pass;
      hit = sym c.if-hit.false ∙ c.touch-hit.ensures.hit
          ∙ hit-is (is_fifo p) p.wback p.walloc c.args.write c.args.block_addr m.cap m.entries fits;
      back = sym (pass-back (is_fifo p) p.wback p.walloc c.args.write c.args.block_addr
          m.cap m.entries
          fits absent pass);
    }

pub returns-clause-served : goal.returns-clause-served
returns-clause-served c =
    let m = c.args.map.now in let p = c.args.policy in
    let valid = c.within_ways.ensures in
    let absent = sym c.touch-hit.ensures.hit ∙ c.if-hit.false in
    let load = sym c.may_load-load.ensures ∙ c.if-not-load.false in
    let size = suc_pred m.cap valid.2 in
    let same : c.touch-hit.new.map ≡ lru_cache m.entries m.cap = c.touch-hit.ensures.map
    ∙ ap (λ l. lru_cache l m.cap) (miss-same (is_fifo p) p.wback p.walloc c.args.write
    c.args.block_addr m.cap m.entries valid.1 absent) in
    let mark = c.mark_of-dirty.ensures ∙ or-nothing p.wback c.args.write in
    record {
      row = ap (λ t. shown m.cap t.entries) c.in_ok-back.ensures.map
          ∙ ap (λ t. shown m.cap (put_entries nat_eq t c.args.block_addr c.mark_of-dirty.result))
          same
          ∙ ap (λ d. shown
          m.cap (put_entries nat_eq (lru_cache m.entries m.cap) c.args.block_addr d))
          mark
          ∙ load-row (is_fifo p) p.wback p.walloc c.args.write c.args.block_addr m.cap m.entries
          valid.1
          absent (m.cap - 1) size load;
      hit = sym c.if-hit.false ∙ c.touch-hit.ensures.hit
          ∙ hit-is (is_fifo p) p.wback p.walloc c.args.write c.args.block_addr m.cap m.entries
          valid.1;
      back = c.in_ok-back.ensures.back
          ∙ ap (λ t. option_map_or dirty_entry
          (displaced nat_eq t c.args.block_addr c.mark_of-dirty.result) None) same
          ∙ ap (λ d. option_map_or dirty_entry
          (displaced nat_eq (lru_cache m.entries m.cap) c.args.block_addr d) None) mark
          ∙ load-back (is_fifo p) p.wback p.walloc c.args.write c.args.block_addr m.cap m.entries
          valid.1
          absent (m.cap - 1) size load;
    }

pub returns-in_err-back-clause-keeps : goal.returns-in_err-back-clause-keeps
returns-in_err-back-clause-keeps c =
    let m = c.args.map.now in let p = c.args.policy in
    let absent = sym c.touch-hit.ensures.hit ∙ c.if-hit.false in
    err-anyhow c.from_residual.result (c.in_err-back.ensures.keeps ∙ c.touch-hit.ensures.map
    ∙ ap (λ l. lru_cache l m.cap) (miss-same (is_fifo p) p.wback p.walloc c.args.write
    c.args.block_addr m.cap m.entries c.within_ways.ensures.1 absent))
