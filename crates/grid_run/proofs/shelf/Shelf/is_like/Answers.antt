use Rattle.std.proofs.Common.{◌≡◌, length, rules, sym, ◌∙◌, arith}
use Rattle.std.proofs.lemmas.Bool.{eqb-true}
use Rattle.grid_run.specs.Seats.{rules_on}
use Rattle.grid_run.proofs.Shelves.{like-rules}
use Rattle.grid_run.proofs.shelf.Shelf.is_like.Goals as goal

pub returns : goal.returns
unfolding rules_on
returns c = record {
  rules = λ e.
      let s = c.args.self.now in
      let o = c.args.other.now in
      let one : length s.geometries.items ≡ 1 =
      omega (arith, c.if-len-ne1.false, c.len.ensures, s.geometries.ok.0) in
      let two : length o.geometries.items ≡ 1 =
      omega (arith, c.if-len-ne1-2.false, c.len-else-len-ne1.ensures, o.geometries.ok.0) in
      let same : c.args.self.now.policy ≡ c.args.other.now.policy = search rules in
      like-rules s.geometries.items o.geometries.items s.policy o.policy one two same
      c.index.result.now c.index-2.result.now c.index.ensures c.index-2.ensures
      (sym c.bsize.ensures ∙ c.if-bsize.false ∙ c.bsize-2.ensures)
      (sym c.blocks-else-bsize.ensures ∙ c.if-blocks.false ∙ c.blocks-else-bsize-2.ensures)
      (sym c.sets.ensures ∙ eqb-true c.sets.result c.sets-2.result e ∙ c.sets-2.ensures);
}
