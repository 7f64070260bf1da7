use Rattle.std.proofs.Common.{◌≤◌, length, subst, arith}
use Rattle.field_values.specs.Parts.{Parts}
use Rattle.fields.specs.SetupParts.{names_in}
use Rattle.tracker_machine.specs.Tracker.{IsSettled}
use Rattle.tracker_machine.proofs.Settled.{settled_at}
use Rattle.wanted_values.specs.Weight.{GroupsAreLight}
use Rattle.issue_calls.proofs.group.group_of.Goals as goal

pub returns-clause-few : goal.returns-clause-few
returns-clause-few c =
    let names = names_in c.args.state.now.machine.setup in
    c.in_ok-entries.ensures.few names c.requires.may.fitting
    (subst (λ (p : Parts). length p.field ≤ 30) c.setup.ensures c.setup.result.now.few_fields)

pub returns-clause-fitting : goal.returns-clause-fitting
returns-clause-fitting c =
    let names = names_in c.args.state.now.machine.setup in
    c.in_ok-entries.ensures.fitting names c.requires.may.fitting

pub returns-clause-light : goal.returns-clause-light
returns-clause-light c =
    let m = c.args.state.now.machine in
    let names = names_in m.setup in
    let h = c.args.found.issue.now.history in
    let settled : IsSettled names m.moment m.change h = settled_at names m.moment m.change m.histories c.args.found.place h c.requires.may.there c.is_tracker.ensures.settled in
    c.in_ok-entries.ensures.light names (subst (λ (p : Parts). GroupsAreLight (names_in p)) c.setup.ensures c.fitting_is_light.ensures.groups)
    settled.holding c.requires.may.fitting

pub returns-clause-sprints : goal.returns-clause-sprints
returns-clause-sprints c = c.in_ok-entries.ensures.sprints (length c.args.state.now.machine.sprints) c.requires.may.sprints

pub net_entries-requires-clause-timely : goal.net_entries-requires-clause-timely
net_entries-requires-clause-timely c =
    let m = c.args.state.now.machine in
    let names = names_in m.setup in
    let h = c.args.found.issue.now.history in
    let settled : IsSettled names m.moment m.change h = settled_at names m.moment m.change m.histories c.args.found.place h c.requires.may.there c.is_tracker.ensures.settled in
    omega (arith, settled.timely, c.moment-at.ensures)

pub net_entries-requires-clause-earlier : goal.net_entries-requires-clause-earlier
net_entries-requires-clause-earlier c =
    let m = c.args.state.now.machine in
    let names = names_in m.setup in
    let h = c.args.found.issue.now.history in
    let settled : IsSettled names m.moment m.change h = settled_at names m.moment m.change m.histories c.args.found.place h c.requires.may.there c.is_tracker.ensures.settled in
    omega (arith, settled.earlier, c.next_change-change.ensures)
