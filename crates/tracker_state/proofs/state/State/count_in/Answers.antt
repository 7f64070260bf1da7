use Rattle.std.proofs.Common.{◌≡◌, ◌≤◌, ◌<◌, ℕ, List, length, slice_get, subst, sym, ◌∙◌, ap, arith}
use Rattle.tracker_limits.specs.Limits.{most_issues}
use Rattle.fields.specs.Naming.{name_at}
use Rattle.tracker_machine.specs.Known.{project_keys, issues_of}
use Rattle.tracker_machine.proofs.Settled.{from_found}
use Rattle.tracker_issues.specs.Counts.{counts_of}
use Rattle.tracker_issues.proofs.Counts.{counted_at, few_counted, count_here, number_is}
use Rattle.tracker_state.specs.State.{Held}
use Rattle.tracker_state.specs.contracts.state.State.{the_view}
use Rattle.tracker_state.proofs.state.State.count_in.Goals as goal

pub count_in-requires : goal.count_in-requires
count_in-requires c =
    let m = (the_view c.self.inside).machine in
    let there = subst (λ (s : Held). c.args.project.0 < length s.machine.setup.project) (sym c.self.view_is) c.requires in
    counted_at m.setup.project m.histories c.self.inside.issues.tally.counts c.args.project.0 c.self.invariant.counted.counted there

pub returns-clause-count : goal.returns-clause-count
returns-clause-count c =
    let m = (the_view c.self.inside).machine in
    let there = subst (λ (s : Held). c.args.project.0 < length s.machine.setup.project) (sym c.self.view_is) c.requires in
    subst (λ (s : Held). c.count_in.result ≡ issues_of (name_at (project_keys s.machine.setup) c.args.project.0) s.machine.histories) c.self.view_is
    (number_is c.count_in.result _ (c.count_in.ensures ∙ ap (λ (ns : List ℕ). slice_get ns c.args.project.0) c.self.invariant.counted.counted ∙ count_here m.setup.project m.histories c.args.project.0 there))

pub returns-clause-few : goal.returns-clause-few
returns-clause-few c =
    let m = (the_view c.self.inside).machine in
    from_found (slice_get (counts_of m.setup.project m.histories) c.args.project.0) c.count_in.result (λ n. n ≤ most_issues)
    (sym (c.count_in.ensures ∙ ap (λ (ns : List ℕ). slice_get ns c.args.project.0) c.self.invariant.counted.counted))
    (few_counted m.setup.project m.histories c.args.project.0 (λ n. n ≤ most_issues) (λ n le. omega (arith, le, c.self.invariant.tracker.few_issues)))
