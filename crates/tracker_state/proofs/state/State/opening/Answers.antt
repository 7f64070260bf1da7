use Rattle.std.proofs.Common.{◌≡◌, List, [], map, Some, ap, sym, ◌∙◌, arith}
use Rattle.std.proofs.lemmas.List.Elements.{All-nil}
use Rattle.field_values.specs.declared.numbers.ProjectNo.{ProjectNo}
use Rattle.fields.specs.declared.setup.Setup.{Setup}
use Rattle.fields.specs.SetupParts.{parts}
use Rattle.tracker_issues.specs.Issues.{Shelf}
use Rattle.tracker_ranks.specs.Ranked.{OrderedIssues}
use Rattle.tracker_issues.specs.Counts.{counts_of}
use Rattle.tracker_boards.specs.Boards.{BoardList}
use Rattle.tracker_machine.proofs.Regrouped.{users_of_sound, groups_of_sound}
use Rattle.tracker_machine.proofs.Tracker.{tracker_opening}
use Rattle.field_values.specs.declared.status.Status.{Status}
use Rattle.jql_bound.specs.declared.context.Phase.{Phase}
use Rattle.jql_meaning.specs.Surroundings.{surroundings_of}
use Rattle.tracker_work.specs.Seen.{Seen, done_of}
use Rattle.tracker_machine.specs.Search.{surroundings_in}
use Rattle.tracker_state.specs.State.{IsBound}
use Rattle.tracker_state.proofs.state.State.opening.Goals as goal

pub invariant_of-result : goal.invariant_of-result
invariant_of-result c =
    let none : c.in_ok-issues.issues.kept ≡ [] = ap (λ (s : Shelf). s.kept) c.in_ok-issues.ensures in
    let filters = c.new-filters.ensures in
    let setting = c.in_ok-setting.setting in
    let work = c.in_ok-work.ensures in
    let around : surroundings_of setting.context ≡ surroundings_in (parts setting.setup) [] =
    setting.agree ∙ ap (λ (ps : List Phase). record (surroundings_in (parts setting.setup) []) { sprints = ps }) c.in_ok-setting.ensures.sprints in
    let sound = setting.setup.sound in
    rw (none, c.new-3.ensures, ap (λ (r : OrderedIssues). r.order) c.new-4.ensures, ap (λ (r : OrderedIssues). r.balance) c.new-4.ensures, filters.filters, ap (λ (b : BoardList). b.boards) c.new-5.ensures, work) (record {
      counted = record {
        counted = ap (λ (s : Shelf). s.tally.counts) c.in_ok-issues.ensures ∙ ap (λ ps. counts_of ps []) (c.as_slice.ensures ∙ ap (λ (s : Setup). (parts s).project) (sym c.in_ok-setting.ensures.setup));
        placed = ap (λ (s : Shelf). map (λ (no : ProjectNo). Some no.0) s.tally.projects) c.in_ok-issues.ensures;
      };
      few_changes = omega arith;
      tracker = tracker_opening _ _ _ (omega (arith, c.first-2.ensures)) (users_of_sound (parts setting.setup) sound) (groups_of_sound (parts setting.setup) sound);
      seen = record {
        histories = filters.histories;
        around = filters.around ∙ around;
        moment = filters.moment ∙ c.first.ensures ∙ sym c.first-2.ensures;
      };
      bound = All-nil (IsBound (parts setting.setup));
      worked = ap (λ (ss : List Status). let seen : Seen = record { done = done_of ss; sprints = []; histories = []; change = 0 } in seen) c.as_slice-2.ensures;
      around = around;
    })
