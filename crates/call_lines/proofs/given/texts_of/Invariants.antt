use Rattle.std.proofs.Common.{◌≡◌, ◌++◌, option_map}
use Rattle.std.specs.Vec.Iter.{into_iter_items}
use Rattle.serde_json.specs.View.{items_view}
use Rattle.call_lines.specs.Given.{texts_of}
use Rattle.call_lines.proofs.given.texts_of.Given as goal

abbrev pub invariant-loop-item : goal.invariant-loop-item
invariant-loop-item l = texts_of (items_view l.fn.items.items) ≡ option_map (λ more. l.names ++ more) (texts_of (items_view (into_iter_items l.item-iterator)))
