use Rattle.std.proofs.Common.{Some, ap, sym, ◌∙◌, ◌∷◌}
use Rattle.atomic_table.specs.Table.{rest}
use Rattle.desk_turn.proofs.turn.Turn.take_value.Goals as goal

pub exchange-requires : goal.exchange-requires
exchange-requires g c = let it = c.requires.held in
    (c.requires.table, (Some it.0, it.1 ∙ ap (λ l. (0, Some it.0) ∷ rest l) (sym it.1)))
