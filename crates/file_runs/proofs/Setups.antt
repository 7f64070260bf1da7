-- A tracker's setup stays that of its text, but for who is in its groups, from line to line.
use Rattle.std.proofs.Common.{◌≡◌, ℕ, List, [], ◌∷◌, inl, inr, Result, Ok, Err, sym, subst}
use Rattle.tracker_calls.specs.declared.call.Call.{Call}
use Rattle.tracker_calls.specs.declared.cause.Cause.{Cause}
use Rattle.call_lines.specs.Asked.{line_of}
use Rattle.tracker_keeper.specs.Rows.{Rows}
use Rattle.tracker_machine.specs.Machine.{Machine, opening}
use Rattle.tracker_machine.specs.Meaning.{Meaning, next_after}
use Rattle.tracker_machine.specs.Meaning.Meaning.{Refuses, Tells, Finds, Makes}
use Rattle.tracker_machine.specs.Members.{IsSetupOf}
use Rattle.tracker_runs.specs.Run.{Mark, plain, memory, keeper, Marked, asked_next, marked_next, end_of_run, requests, IsRun, IsCutRun, IsFrontOfReply}
use Rattle.tracker_machine.specs.Step.{meaning, next_of}
use Rattle.tracker_rows.proofs.Setups.{new_setups, setups_stay}
use Rattle.tracker_rows.proofs.Verdicts.{loaded_setups}
use Rattle.tracker_core.specs.Desk.{IsOpened}

abbrev pub HasSetup : Machine → Type 0
HasSetup m = IsSetupOf m.text m.setup

setup_after : (due : Meaning) (m : Machine) → HasSetup m → HasSetup (next_after due m)
setup_after (Refuses r) m has = has
setup_after (Tells a) m has = has
setup_after (Finds a) m has = has
setup_after (Makes a effect) m has = setups_stay effect m has

setup_next : (m : Machine) (caller : List ℕ) (c : Call) → HasSetup m → HasSetup (next_of m caller c)
unfolding next_of
setup_next m caller c has = setup_after (meaning m caller c) m has

setup_asked : (m : Machine) (asked : Result (List ℕ × Call) Cause) → HasSetup m → HasSetup (asked_next m asked)
setup_asked m (Ok asked) has = setup_next m asked.0 asked.1 has
setup_asked m (Err r) has = has

-- behind one line
pub setup_line : (m : Machine) (line : List ℕ) → HasSetup m → HasSetup (asked_next m (line_of line))
setup_line m line has = setup_asked m (line_of line) has

setup_marked : (m : Machine) (line : List ℕ) (mark : Mark) → HasSetup m → HasSetup (marked_next m line mark)
setup_marked m line plain has = setup_line m line has
setup_marked m line memory has = has
setup_marked m line keeper has = has

setup_lines : (m : Machine) (lines : List Marked) → HasSetup m → HasSetup (end_of_run m lines)
setup_lines m [] has = has
setup_lines m (x ∷ xs) has = setup_lines (marked_next m x.line x.mark) xs (setup_marked m x.line x.mark has)

-- behind a run
pub setup_run : (old new : Machine) (lines : List (List ℕ)) (text : List ℕ) (failures : ℕ) → IsRun old lines text new failures → HasSetup old → HasSetup new
setup_run old new lines text failures run has = subst HasSetup (sym run.new_is) (setup_lines old run.marked has)

setup_front : (m new : Machine) (done rest : List (List ℕ)) (front : List ℕ) (failures : ℕ) → IsFrontOfReply m done rest front new failures → HasSetup m → HasSetup new
setup_front m new done rest front failures (inl (none, same, count)) has = subst HasSetup (sym same) has
setup_front m new done rest front failures (inr (line, more, mark, back, is, within, some, may, parts, next, count)) has =
    subst HasSetup (sym next) (setup_marked m line mark has)

-- behind one that is cut short
pub setup_cut : (old new : Machine) (all : List (List ℕ)) (text : List ℕ) (failures : ℕ) → IsCutRun old all text new failures → HasSetup old → HasSetup new
setup_cut old new all text failures run has =
    setup_front run.middle new run.done run.rest run.front run.last run.next (setup_run old run.middle (requests run.done) run.whole run.before run.run has)

-- as it begins
pub setup_opened : (text : List ℕ) (rows : Rows) (m : Machine) → IsOpened text rows m → HasSetup m
setup_opened text rows m (inl (list, listing, (format, loads))) = loaded_setups format list m loads
setup_opened text rows m (inr (none, (setup, reads, is))) = subst HasSetup (sym is) (new_setups text setup reads)
