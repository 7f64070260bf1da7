use Rattle.row_dumps.proofs.Dumped.{restores_to}
use Rattle.row_dumps.proofs.laws.dumps_are_restored.Goals as goal

pub returns : goal.returns
returns c =
    restores_to c.texts_tell_their_rows.ensures.again c.texts_tell_their_rows.ensures.one c.texts_tell_their_rows.ensures.apart
    c.trackers_load.ensures.all c.rows_load_or_are_bad.ensures.one c.rows_load_or_are_bad.ensures.apart c.parts_may_be_kept.ensures.all
