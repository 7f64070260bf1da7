-- Over any lines what is told of an issue follows its history.
use Rattle.std.proofs.Common.{◌≡◌, ℕ, List, [], ◌∷◌, ◌++◌, map, Result, Ok, Err, refl, sym, ◌∙◌, ap, subst}
use Rattle.field_values.specs.declared.field.Field.{Field}
use Rattle.field_forms.specs.Known.{Names}
use Rattle.fields.specs.SetupParts.{names_in}
use Rattle.fields.specs.Naming.{field_name}
use Rattle.change_history.specs.declared.entry.Entry.{Entry}
use Rattle.change_history.specs.History.{History, present}
use Rattle.tracker_calls.specs.declared.call.Call.{Call}
use Rattle.tracker_calls.specs.declared.cause.Cause.{Cause}
use Rattle.call_lines.specs.Asked.{line_of}
use Rattle.tracker_machine.specs.Machine.{Machine}
use Rattle.tracker_machine.specs.Effect.{Effect, applied, longer}
use Rattle.tracker_machine.specs.Effect.Effect.{NewMoment, NewIssue, NewGroup, NewRank, NewBalance, NewRanks, NewSprint, NewState, NewFilter, NoFilter, NewBoard, NoBoard, NewMembers}
use Rattle.tracker_machine.specs.Meaning.{Meaning, next_after}
use Rattle.tracker_machine.specs.Meaning.Meaning.{Refuses, Tells, Finds, Makes}
use Rattle.tracker_machine.specs.Show.{shown_value}
use Rattle.tracker_machine.specs.Entries.{told_entry}
use Rattle.tracker_machine.specs.Step.{meaning, next_of}
use Rattle.tracker_runs.specs.Run.{Mark, Marked, plain, memory, keeper, asked_next, marked_next, end_of_run}
use Rattle.tracker_machine.proofs.Regrouped.{names_regrouped}
use Rattle.tracker_sight.specs.Retold.{told_after, AreOfFields, shown_of, RunsFollowHistory}
use Rattle.tracker_sight.proofs.Grown.{the_past_stays}
use Rattle.tracker_sight.proofs.Retold.{show_follows_history, entries_are_of_fields}

-- ---- names stay

-- all names that a value may name, those of fields among them, are the same
record HasNames (m new : Machine) : Type 0 where
  names : names_in new.setup ≡ names_in m.setup
  fields : new.setup.field ≡ m.setup.field

as_named : (m : Machine) → HasNames m m
as_named m = record { names = refl; fields = refl }

effect_names : (effect : Effect) (m : Machine) → HasNames m (applied effect m)
unfolding applied
effect_names (NewMoment to) m = record { names = refl; fields = refl }
effect_names (NewIssue h rank external) m = record { names = refl; fields = refl }
effect_names (NewGroup place group) m = record { names = refl; fields = refl }
effect_names (NewRank issue rank) m = record { names = refl; fields = refl }
effect_names (NewBalance balance) m = record { names = refl; fields = refl }
effect_names (NewRanks moves) m = record { names = refl; fields = refl }
effect_names (NewSprint name) m = record { names = refl; fields = refl }
effect_names (NewState sprint state) m = record { names = refl; fields = refl }
effect_names (NewFilter f) m = record { names = refl; fields = refl }
effect_names (NoFilter filter_no) m = record { names = refl; fields = refl }
effect_names (NewBoard b) m = record { names = refl; fields = refl }
effect_names (NoBoard board_no) m = record { names = refl; fields = refl }
effect_names (NewMembers group members) m = record { names = names_regrouped m.setup group members; fields = refl }

meant_names : (due : Meaning) (m : Machine) → HasNames m (next_after due m)
meant_names (Refuses r) m = as_named m
meant_names (Tells a) m = as_named m
meant_names (Finds a) m = as_named m
meant_names (Makes a effect) m = effect_names effect m

asked_names : (m : Machine) (asked : Result (List ℕ × Call) Cause) → HasNames m (asked_next m asked)
unfolding next_of
asked_names m (Ok asked) = meant_names (meaning m asked.0 asked.1) m
asked_names m (Err r) = as_named m

marked_names : (m : Machine) (line : List ℕ) (mark : Mark) → HasNames m (marked_next m line mark)
marked_names m line plain = asked_names m (line_of line)
marked_names m line memory = as_named m
marked_names m line keeper = as_named m

run_names : (m : Machine) (lines : List Marked) → HasNames m (end_of_run m lines)
run_names m [] = as_named m
run_names m (x ∷ xs) =
    let first : HasNames m (marked_next m x.line x.mark) = marked_names m x.line x.mark in
    let rest = run_names (marked_next m x.line x.mark) xs in
    record { names = rest.names ∙ first.names; fields = rest.fields ∙ first.fields }

-- ---- entries

later_entries : (fields : List Field) (es fs : List Entry) → AreOfFields fields (es ++ fs) → AreOfFields fields fs
later_entries fields [] fs are = are
later_entries fields (e ∷ es) fs are = later_entries fields es fs are.1

pub runs_follow_history : RunsFollowHistory
runs_follow_history m lines place n h sound own is at =
    let last : Machine = end_of_run m lines in
    let stays = the_past_stays m lines place h at in
    let later : History = stays.0 in
    let added : List Entry = stays.2.0 in
    let names : HasNames m last = run_names m lines in
    let all : AreOfFields last.setup.field (h.entries ++ added) =
    subst (λ (g : History). AreOfFields last.setup.field g.entries) stays.2.1 (entries_are_of_fields last place later is stays.1) in
    let since : AreOfFields m.setup.field added = later_entries m.setup.field h.entries added (subst (λ fs. AreOfFields fs (h.entries ++ added)) names.fields all) in
    record {
      later = later;
      added = added;
      there = stays.1;
      grown = stays.2.1;
      shown = ap (λ (g : History). shown_of last.setup g n) stays.2.1
          ∙ ap (λ (all : Names). shown_value all n (present (longer h added) (record { 0 = n }))) names.names
          ∙ show_follows_history m.setup h added n sound own since
          ∙ ap (λ (all : Names). told_after (field_name m.setup.field n) (shown_of m.setup h n) (map (told_entry all) added)) (sym names.names);
    }
