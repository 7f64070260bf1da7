use Rattle.std.proofs.Common.{sym, ap, ◌∙◌}
use Rattle.toml.specs.View.{table_view}
use Rattle.setup_reading.specs.Reading.{setup_in}
use Rattle.setup_places.proofs.Faults.{read_well}
use Rattle.setup_places.proofs.help.fault_of.Goals as goal

pub returns-in-Ok-read_text : goal.returns-in-Ok-read_text
returns-in-Ok-read_text c =
    read_well c.args.bytes.now (table_view c.args.table.now) _ c.requires.reads (sym (ap setup_in c.in-Ok.ensures.cases.0) ∙ c.in-Ok-read_text.ensures.ok)
