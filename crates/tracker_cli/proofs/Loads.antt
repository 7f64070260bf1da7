-- From the desk of `generate` to what the top call says.
use Rattle.std.proofs.Common.{◌≡◌, ℕ, List, [], Ok, refl, sym, ap, ◌∙◌, subst, Option, append-nil}
use Rattle.std.specs.Prelude.{◌≤◌}
use Rattle.std.specs.Io.KnownBytes.{Appends}
use Rattle.field_values.specs.Parts.{Parts}
use Rattle.setup_reading.specs.Reading.{setup_in}
use Rattle.tracker_keeper.specs.Rows.{Rows, no_rows}
use Rattle.tracker_machine.specs.Machine.{Machine, opening}
use Rattle.tracker_machine.specs.Kept.{rows_of}
use Rattle.tracker_core.specs.Desk.{DeskParts, HasNoRow, IsNew}
use Rattle.tracker_core.proofs.Kept.{without_rows}
use Rattle.tracker_import.specs.Load.{load_calls, load_summary, loaded, HasMadeLoad, HasMadeFront}
use Rattle.tracker_import.specs.declared.load.LoadSummary.{LoadSummary}
use Rattle.tracker_cli.specs.Outcome.{HasRowsOf, GrewBy, GrewByFront}
use Rattle.tracker_cli.specs.Commands.{HadNoRow, HandsBack, GeneratedEnd, IsBegun, IsBegunFrom, IsGenerated}
use Rattle.tracker_cli.specs.Texts.{load_line}
use Rattle.tracker_cli.proofs.Commands.{handed}
use Rattle.tracker_cli.proofs.Counted.{rose_later}

-- what comes of a load is that of the number that the words tell
pub ends_at : (Generated : ℕ → List ℕ → Type 0) (Begun : ℕ → ℕ → Type 0) (Same Held : Type 0) (status : ℕ) (left after t u : Option (List ℕ)) (n k : ℕ) → n ≡ k
    → GeneratedEnd (Generated n) (Begun n) Same Held status left after t u → GeneratedEnd (Generated k) (Begun k) Same Held status left after t u
ends_at Generated Begun Same Held status left after t u n k same end =
    subst (λ m. GeneratedEnd (Generated m) (Begun m) Same Held status left after t u) same end

module _ {P : Type 0} (keeps : P → Rows → Type 0) (tells : P → Type 0) (faults : P → ℕ) where
  -- ---- a desk that hands its keeper back

  pub load_back : (n : ℕ) (old new : DeskParts P) (last : P) (summary : LoadSummary) → last ≡ new.keeper → HasMadeLoad keeps tells faults n old summary new
      → HandsBack keeps tells faults old last (loaded n old.machine) 0
  load_back n old new last summary back made =
      subst (λ m. HandsBack keeps tells faults old last m 0) made.machine_is (handed keeps tells faults old new last 0 back made.kept)

  pub front_back : (n : ℕ) (old new : DeskParts P) (last : P) (failures : ℕ) → last ≡ new.keeper → HasMadeFront keeps tells faults (load_calls n) old new failures
      → IsBegunFrom keeps tells faults old last n failures
  front_back n old new last failures back made = record {
    done = made.done;
    rest = made.rest;
    calls_are = made.calls_are;
    back = subst (λ m. HandsBack keeps tells faults old last m failures) made.machine_is (handed keeps tells faults old new last failures back made.kept);
  }

  -- all calls were made, and memory lacked for the text
  pub whole_back : (n : ℕ) (old new : DeskParts P) (last : P) (summary : LoadSummary) → last ≡ new.keeper → HasMadeLoad keeps tells faults n old summary new
      → IsBegunFrom keeps tells faults old last n 0
  unfolding loaded
  whole_back n old new last summary back made = record {
    done = load_calls n;
    rest = [];
    calls_are = sym (append-nil (load_calls n));
    back = load_back n old new last summary back made;
  }

  -- ---- a desk that was made over a keeper

  module _ (text : List ℕ) (keeper : P) (start : DeskParts P) (setup : Parts) (made_of : List ℕ) (reads : setup_in text ≡ Ok setup) (same : made_of ≡ text)
      (machine : start.machine ≡ opening made_of setup)
      (rows : keeps keeper no_rows → keeps start.keeper (rows_of (opening made_of setup)))
      (none : (rows : Rows) → keeps keeper rows → tells start.keeper → HasNoRow rows)
      (later : faults keeper ≤ faults start.keeper) (last : P) where
    begins : IsNew text start.machine
    begins = (setup, reads, machine ∙ ap (λ t. opening t setup) same)

    had_none : (m : Machine) (failures : ℕ) → HandsBack keeps tells faults start last m failures → HadNoRow keeps tells keeper last
    had_none m failures back = λ all is told. none all is (back.told told)

    has_rows : (m : Machine) (failures : ℕ) → HandsBack keeps tells faults start last m failures → HasRowsOf keeps tells faults keeper last m failures
    has_rows m failures back = record {
      rows = λ all is told.
          let empty = subst (keeps keeper) (without_rows all (none all is (back.told told))) is in
          back.rows (subst (λ m. keeps start.keeper (rows_of m)) (sym machine) (rows empty));
      counted = rose_later _ _ _ failures later back.counted;
    }

    generated : (n : ℕ) (line : List ℕ) → line ≡ load_line (load_summary n start.machine) → HandsBack keeps tells faults start last (loaded n start.machine) 0
        → IsGenerated keeps tells faults text keeper last n line
    generated n line is back = record {
      start = start.machine;
      begins = begins;
      text_is = is;
      none = had_none _ 0 back;
      kept = has_rows _ 0 back;
    }

    pub all_generated : (n : ℕ) (t u : Option (List ℕ))
        → Appends t u (load_line (load_summary n start.machine)) × HandsBack keeps tells faults start last (loaded n start.machine) 0
        → GrewBy t u (IsGenerated keeps tells faults text keeper last n)
    all_generated n t u made = (load_line (load_summary n start.machine), generated n _ refl made.1, made.0)

    pub front_generated : (n : ℕ) (t u : Option (List ℕ))
        → GrewByFront t u (λ due. due ≡ load_line (load_summary n start.machine)) × HandsBack keeps tells faults start last (loaded n start.machine) 0
        → GrewByFront t u (IsGenerated keeps tells faults text keeper last n)
    front_generated n t u cut = (cut.0.0, cut.0.1, generated n _ cut.0.2 cut.1, cut.0.3)

    pub begun : (n failures : ℕ) → IsBegunFrom keeps tells faults start last n failures → IsBegun keeps tells faults text keeper last n failures
    begun n failures made = record {
      start = start.machine;
      begins = begins;
      done = made.done;
      rest = made.rest;
      calls_are = made.calls_are;
      none = had_none _ failures made.back;
      kept = has_rows _ failures made.back;
    }
