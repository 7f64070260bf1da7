use Rattle.std.proofs.Common.{◌≤◌, List, length, subst, sym, refl, arith}
use Rattle.std.proofs.lemmas.List.{length-map}
use Rattle.std.proofs.lemmas.Result.{IfOk-weaker}
use Rattle.tracker_limits.specs.Limits.{entries_reserve}
use Rattle.change_history.specs.declared.entry.Entry.{Entry}
use Rattle.change_history.specs.History.{present, MayAdd}
use Rattle.workflow.specs.Difference.{entry_of}
use Rattle.workflow.specs.Net.{with_changes}
use Rattle.workflow.proofs.Differing.{may_be_added}
use Rattle.tracker_machine.specs.Tracker.{AllEntriesFit}
use Rattle.wanted_values.specs.Weight.{AllLight}
use Rattle.wanted_values.proofs.Counting.{few_changes}
use Rattle.tracker_machine.specs.SprintRules.{BringsSprints}
use Rattle.wanted_values.proofs.Fitting.{entries_fit, some_changes}
use Rattle.wanted_values.proofs.InSprints.{entries_of_sprints}
use Rattle.issue_calls.proofs.group.net_entries.Goals as goal

pub returns-clause-few : goal.returns-clause-few
returns-clause-few c =
    let before = present c.args.issue.now.history in
    IfOk-weaker c.entries_of.result _ _ (λ es is names fit few.
    subst (λ (xs : List Entry). length xs ≤ entries_reserve) (sym is)
    (omega (arith, length-map c.args.net.items (entry_of before c.args.change c.args.at c.args.author), few_changes names before c.args.net.items c.requires.news fit few))) c.entries_of.ensures

pub returns-clause-fitting : goal.returns-clause-fitting
returns-clause-fitting c =
    let before = present c.args.issue.now.history in
    IfOk-weaker c.entries_of.result _ _ (λ es is names fit.
    subst (λ (xs : List Entry). AllEntriesFit names xs) (sym is)
    (entries_fit names before c.args.change c.args.at c.args.author c.args.net.items fit)) c.entries_of.ensures

pub returns-clause-may : goal.returns-clause-may
returns-clause-may c =
    let h = c.args.issue.now.history in
    IfOk-weaker c.entries_of.result _ _ (λ es is.
    subst (λ (xs : List Entry). MayAdd h c.args.change c.args.at c.args.author xs) (sym is)
    (may_be_added h (with_changes (present h) c.args.net.items) c.args.net.items c.args.change c.args.at c.args.author
    (record { news = c.requires.news; gives = λ f. refl }) (some_changes c.args.net.items c.requires.some) c.requires.timely c.requires.earlier)) c.entries_of.ensures

pub returns-clause-light : goal.returns-clause-light
returns-clause-light c =
    let before = present c.args.issue.now.history in
    IfOk-weaker c.entries_of.result _ _ (λ es is names light holds fit.
    subst (λ (xs : List Entry). AllLight xs) (sym is)
    (light before c.args.change c.args.at c.args.author c.args.net.items holds c.requires.news fit)) c.entries_of.ensures

pub returns-clause-sprints : goal.returns-clause-sprints
returns-clause-sprints c =
    let before = present c.args.issue.now.history in
    IfOk-weaker c.entries_of.result _ _ (λ es is count all.
    subst (λ (xs : List Entry). BringsSprints count xs) (sym is)
    (entries_of_sprints count before c.args.change c.args.at c.args.author c.args.net.items all)) c.entries_of.ensures
