use Rattle.std.proofs.Common.{◌≡◌, ◌*◌, None, sym, ap, subst, ◌∙◌, arith}
use Rattle.std.specs.Prelude.{IfOk}
use Rattle.cache_core.specs.declared.geometry.Geometry.{Geometry}
use Rattle.cache_core.specs.Geometry.{IsMadeOf, size_of, blocks_of}
use Rattle.cache_core.specs.Lawful.{refusal_of}
use Rattle.grid_core.proofs.OtherWays.{bytes-are, ways-lawful, size-high, not-refused}
use Rattle.grid_core.proofs.shading.with_assoc.Goals as goal

pub overflow_mul-size : goal.overflow_mul-size
overflow_mul-size c =
    let g = c.args.geometry in
    let high = size-high g in
    let is : c.blocks-2.result * c.bsize-bsize.result ≡ size_of g =
    ap (λ n. n * c.bsize-bsize.result) c.blocks-2.ensures
    ∙ ap (λ n. blocks_of g * n) c.bsize-bsize.ensures ∙ bytes-are g in
    omega arith

pub unwrap-requires : goal.unwrap-requires
unwrap-requires c =
    let g = c.args.geometry in
    let is : c.blocks-2.result * c.bsize-bsize.result ≡ size_of g =
    ap (λ n. n * c.bsize-bsize.result) c.blocks-2.ensures
    ∙ ap (λ n. blocks_of g * n) c.bsize-bsize.ensures ∙ bytes-are g in
    not-refused c.new.result
    (subst (λ n. refusal_of n c.bsize-bsize.result c.args.assoc ≡ None) (sym is)
    (subst (λ n. refusal_of (size_of g) n c.args.assoc ≡ None) (sym c.bsize-bsize.ensures)
    (ways-lawful g c.args.assoc c.requires.power c.requires.fits))) c.new.ensures.refused

pub returns : goal.returns
returns c =
    let g = c.args.geometry in
    let is : c.blocks-2.result * c.bsize-bsize.result ≡ size_of g =
    ap (λ n. n * c.bsize-bsize.result) c.blocks-2.ensures
    ∙ ap (λ n. blocks_of g * n) c.bsize-bsize.ensures ∙ bytes-are g in
    let made : IsMadeOf c.unwrap.result (c.blocks-2.result * c.bsize-bsize.result)
    c.bsize-bsize.result c.args.assoc = subst (λ r. IfOk r (λ (w : Geometry). IsMadeOf w
    (c.blocks-2.result * c.bsize-bsize.result) c.bsize-bsize.result c.args.assoc))
    c.unwrap.ensures c.new.ensures.made in
    record {
      has_size = made.has_size ∙ is;
      has_bsize = made.has_bsize ∙ c.bsize-bsize.ensures;
      has_assoc = made.has_assoc;
    }
