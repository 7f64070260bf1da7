-- A dump of a tracker's rows is restored as that tracker.
use Rattle.std.proofs.Common.{◌≡◌, ℕ, List, sym, subst}
use Rattle.tracker_keeper.specs.declared.row.Row.{Row}
use Rattle.tracker_keeper.specs.declared.part.Format.{Format}
use Rattle.tracker_keeper.specs.declared.part.Format.TheVariants.{Second}
use Rattle.tracker_keeper.specs.Rows.{found}
use Rattle.tracker_machine.specs.Machine.{Machine}
use Rattle.tracker_machine.specs.Tracker.{IsTracker}
use Rattle.tracker_machine.specs.Kept.{rows_of}
use Rattle.tracker_machine.specs.Members.{IsSetupOf}
use Rattle.tracker_machine.specs.Laws.{PartsMayBeKept}
use Rattle.tracker_rows.specs.Loading.{Loads, IsFirstBad}
use Rattle.tracker_rows.specs.Laws.{TrackersLoad, RowsLoadOne, LoadedHaveNoBad}
use Rattle.row_lines.specs.RowText.{rows_text}
use Rattle.row_lines.specs.Telling.{Tells}
use Rattle.row_lines.specs.Laws.{TextsTellTheirRows, BytesTellOneList, ToldLinesAreGood}
use Rattle.row_dumps.specs.Dump.{HasForm, IsDump}
use Rattle.row_dumps.specs.Laws.{RestoresTo}
use Rattle.row_dumps.proofs.Placed.{listed_are}
use Rattle.row_dumps.proofs.Small.{can_tell}

pub restores_to : TextsTellTheirRows → BytesTellOneList → ToldLinesAreGood → TrackersLoad → RowsLoadOne → LoadedHaveNoBad → PartsMayBeKept
    → (m : Machine) (text : List ℕ) → IsTracker m → IsSetupOf m.text m.setup → IsDump (rows_of m) text → RestoresTo text m
restores_to again one_list good load one_machine no_bad kept m text tracker setup dump = record {
  list = dump.list;
  told = told;
  loads = loads;
  own = listed_are (rows_of m) dump.list dump.listing;
  one = λ other format n tells has.
      (one_machine format Second dump.list n m (subst (λ (l : List Row). Loads format l n) (sym (one_list text dump.list other told tells)) has) loads).0;
  good_lines = λ number bad. good text dump.list number told bad;
  good_rows = λ other kind number tells bad.
      no_bad Second dump.list m kind number loads (subst (λ (l : List Row). IsFirstBad l kind number) (sym (one_list text dump.list other told tells)) bad);
}
  where
    told : Tells text dump.list
    told = subst (λ t. Tells t dump.list) (sym dump.text_is) (again dump.list (can_tell kept m dump.list tracker setup dump.listing dump.formed) dump.listing.rising)

    loads : Loads Second dump.list m
    loads = load m dump.list tracker setup dump.listing
