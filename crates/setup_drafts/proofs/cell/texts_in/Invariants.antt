use Rattle.std.proofs.Common.{◌≡◌, ◌++◌, drop, option_map}
use Rattle.toml.specs.View.{items_view}
use Rattle.setup_drafts.specs.Written.{all_texts}
use Rattle.setup_drafts.proofs.cell.texts_in.Given as goal

abbrev pub invariant-loop-item : goal.invariant-loop-item
invariant-loop-item l =
    all_texts (items_view l.item-items) ≡ option_map (λ rest. l.texts ++ rest) (all_texts (items_view (drop l.item-index l.item-items)))
