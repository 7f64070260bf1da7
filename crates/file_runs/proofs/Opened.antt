-- Files that hold a tracker open as that tracker.
use Rattle.std.proofs.Common.{◌≡◌, ℕ, List, inl, inr, Some, None, option_map, refl, sym, ◌∙◌}
use Rattle.tracker_keeper.specs.Rows.{Rows}
use Rattle.tracker_keeper.specs.Bodies.{body_text}
use Rattle.tracker_keeper.specs.declared.part.Format.TheVariants.{Second}
use Rattle.fields.specs.SetupParts.{names_in}
use Rattle.tracker_machine.specs.Machine.{Machine}
use Rattle.tracker_machine.specs.Kept.{rows_of, part_at, setup_part}
use Rattle.tracker_machine.specs.Members.{IsSetupOf}
use Rattle.tracker_machine.specs.Tracker.{IsTracker}
use Rattle.tracker_rows.proofs.TrackersLoad.{trackers_load}
use Rattle.tracker_rows.proofs.Verdicts.{rows_load_one, loaded_have_no_bad}
use Rattle.tracker_core.specs.Desk.{HasNoRow, IsOpened, IsBadIn}

setup_is_there : (m : Machine) → rows_of m 1 0 ≡ Some (body_text (names_in m.setup) (setup_part m))
unfolding rows_of part_at
setup_is_there m = refl

has_row : (m : Machine) → HasNoRow (rows_of m) → ⊥
has_row m none = clash (sym (setup_is_there m) ∙ none 1 0)
  where
    clash : {X : Type 0} {x : X} → Some x ≡ None → ⊥
    clash is = cc

pub opened_is : (text : List ℕ) (m start : Machine) → IsTracker m → IsSetupOf m.text m.setup → IsOpened text (rows_of m) start → start ≡ m
opened_is text m start tracker setup (inl (list, listing, (format, loads))) =
    (rows_load_one format Second list start m loads (trackers_load m list tracker setup listing)).0
opened_is text m start tracker setup (inr (none, new)) = absurd (has_row m none)

pub none_bad : (m : Machine) (kind number : ℕ) → IsTracker m → IsSetupOf m.text m.setup → IsBadIn (rows_of m) kind number → ⊥
none_bad m kind number tracker setup (some, (list, listing, first)) =
    loaded_have_no_bad Second list m kind number (trackers_load m list tracker setup listing) first
