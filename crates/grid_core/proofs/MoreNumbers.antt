-- What stands for a history by some numbers of blocks does so by more of them.
use Rattle.std.proofs.Common.{◌++◌, ℕ, List, ap, ◌∙◌, append_assoc}
use Rattle.cache_core.specs.declared.geometry.Geometry.{Geometry}
use Rattle.cache_core.specs.History.{History}
use Rattle.cache_core.specs.Lists.{IsBeginning}
use Rattle.grid_core.specs.declared.cells.Shape.{Shape}
use Rattle.grid_core.specs.declared.engine.Engine.{Engine}
use Rattle.grid_core.specs.declared.shadows.Shadows.{Shadows}
use Rattle.grid_core.specs.declared.stack.Stack.{Stack}
use Rattle.marked_list.specs.Marked.{was_used}
use Rattle.grid_core.specs.Engines.{EngineStandsBy}
use Rattle.grid_core.specs.Shadows.{AreNumbered, HoldsOrder}
use Rattle.grid_core.specs.State.{IsAfter}
use Rattle.grid_core.proofs.Renumbered.{low-same, order-same, used-same}

-- a list goes on where another does that goes on where it does
pub on-further : (blocks more last : List ℕ) → IsBeginning blocks more → IsBeginning more last
    → IsBeginning blocks last
on-further blocks more last first second = (
  first.0 ++ second.0,
  second.1 ∙ ap (λ l. l ++ second.0) first.1 ∙ append_assoc blocks first.0 second.0,
)

module _ (blocks more : List ℕ) (on : IsBeginning blocks more) where
  -- the order of the shadows
  pub order-more : (s : Shadows) (ys : List ℕ) → AreNumbered blocks s
      → HoldsOrder blocks s ys → HoldsOrder more s ys
  order-more s ys low held = record {
    order = held.order ∙ order-same (was_used s.order) blocks more on low ys held.known;
    known = λ y h. used-same (was_used s.order) blocks more on low y ∙ held.known y h;
  }

  -- the state of caches that are served together
  pub after-more : (g : Geometry) (stacks : List Stack) (s : Shadows) (shapes : List Shape)
      (h : History) → IsAfter blocks g stacks s shapes h → IsAfter more g stacks s shapes h
  after-more g stacks s shapes h st = record {
    rows = st.rows;
    order = order-more s _ st.numbered st.order;
    known = λ b. used-same (was_used s.order) blocks more on st.numbered b ∙ st.known b;
    numbered = low-same (was_used s.order) blocks more on st.numbered;
    counted = st.counted;
    far = st.far;
    recent = st.recent;
  }

-- an engine
pub engine-more : (blocks more : List ℕ) (e : Engine) (h : History) → IsBeginning blocks more
    → EngineStandsBy blocks e h → EngineStandsBy more e h
engine-more blocks more e h on st = record {
  working = st.working;
  served = st.served;
  caches = record {
    stacked = λ some.
        let s = e.caches.stacked in
        let one = st.caches.stacked some in
        record {
          served = one.served;
          alike = one.alike;
          state = after-more blocks more on s.geometry s.stacks.items s.shadows s.shapes.items h
              one.state;
        };
    shades = st.caches.shades;
    singles = st.caches.singles;
  };
}
