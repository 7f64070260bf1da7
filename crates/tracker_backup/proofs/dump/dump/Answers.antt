use Rattle.std.proofs.Common.{List, subst, ◌≡◌}
use Rattle.std.specs.List.{All}
use Rattle.tracker_keeper.specs.declared.row.Row.{Row}
use Rattle.row_lines.specs.RowText.{rows_text}
use Rattle.row_lines.specs.Writing.{Ends}
use Rattle.row_lines.specs.declared.writing.WriteEnd.TheVariants.{Done, WriteFault, Memory}
use Rattle.row_dumps.specs.Dump.{HasForm}
use Rattle.tracker_backup.proofs.Ended.{all_dumped, front_dumped, short_dumped}
use Rattle.tracker_backup.proofs.dump.dump.Goals as goal

pub returns-in-Done-clause-end : goal.returns-in-Done-clause-end
returns-in-Done-clause-end g c =
    all_dumped g.P.Keeper.keeps g.P.Keeper.tells c.args.keeper c.rows.new.self c.in-Ok.rows.items (subst (All HasForm) c.deref.ensures.value c.rows_have_form.ensures)
    c.in-Ok.ensures.rows _ _
    (subst (λ (list : List Row). Ends (rows_text list) (g.T.Sink.taken c.args.out.now) (g.T.Sink.taken c.write_rows.new.out) Done) c.deref-in-Ok.ensures.value
    (subst (Ends _ _ _) c.in-Done.is c.write_rows.ensures.bytes))

pub returns-in-WriteFault-clause-end : goal.returns-in-WriteFault-clause-end
returns-in-WriteFault-clause-end g c =
    front_dumped g.P.Keeper.keeps g.P.Keeper.tells c.args.keeper c.rows.new.self c.in-Ok.rows.items (subst (All HasForm) c.deref.ensures.value c.rows_have_form.ensures)
    c.in-Ok.ensures.rows _ _
    (subst (λ (list : List Row). Ends (rows_text list) (g.T.Sink.taken c.args.out.now) (g.T.Sink.taken c.write_rows.new.out) WriteFault) c.deref-in-Ok.ensures.value
    (subst (Ends _ _ _) c.in-WriteFault.is c.write_rows.ensures.bytes))

pub returns-in-Ok-clause-end : goal.returns-in-Ok-clause-end
returns-in-Ok-clause-end g c =
    short_dumped g.P.Keeper.keeps g.P.Keeper.tells c.args.keeper c.rows.new.self c.in-Ok.rows.items (subst (All HasForm) c.deref.ensures.value c.rows_have_form.ensures)
    c.in-Ok.ensures.rows _ _
    (subst (λ (list : List Row). Ends (rows_text list) (g.T.Sink.taken c.args.out.now) (g.T.Sink.taken c.write_rows.new.out) Memory) c.deref-in-Ok.ensures.value
    (subst (Ends _ _ _) c.in-Memory.is c.write_rows.ensures.bytes))
