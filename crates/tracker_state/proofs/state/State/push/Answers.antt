use Rattle.std.proofs.Common.{◌≡◌, ◌++◌, ◌∷◌, [], ◌+◌, ◌<◌, ℕ, List, length, slice_get, IfSome, ap, sym, subst, ◌∙◌, arith}
use Rattle.field_values.specs.declared.numbers.IssueNo.{IssueNo}
use Rattle.tracker_ranks.specs.Ranked.{OrderedIssues, IsNext, with_last}
use Rattle.fields.specs.Naming.{name_at}
use Rattle.tracker_machine.specs.Machine.{Machine}
use Rattle.tracker_machine.specs.Effect.{IsAllowed, MayName, with_external}
use Rattle.tracker_machine.specs.Known.{project_keys, next_key}
use Rattle.tracker_machine.specs.Tracker.{MayOpen}
use Rattle.change_history.specs.History.{histories_of}
use Rattle.tracker_issues.proofs.Counts.{counted_at, few_counted}
use Rattle.tracker_issues.proofs.Histories.{histories_push}
use Rattle.tracker_state.specs.Plan.{id_of}
use Rattle.tracker_state.specs.State.{Held, IsState, saved_filters}
use Rattle.tracker_state.specs.contracts.state.State.{the_view}
use Rattle.tracker_work.specs.Seen.{Seen, share_now, with_histories}
use Rattle.tracker_work.specs.Work.{HasRoomFor}
use Rattle.tracker_state.proofs.Sprinting.{comes_last}
use Rattle.tracker_state.proofs.States.{state_push}
use Rattle.tracker_state.proofs.Pushed.{machine_pushed}
use Rattle.tracker_state.proofs.state.State.push.Goals as goal

pub push-requires-clause-there : goal.push-requires-clause-there
push-requires-clause-there g c =
    let m : Machine = (the_view c.self.inside).machine in
    counted_at m.setup.project m.histories c.self.inside.issues.tally.counts c.args.new.project.0 c.self.invariant.counted.counted
    (subst (λ (s : Held). c.args.new.project.0 < length s.machine.setup.project) (sym c.self.view_is) c.requires.fits.there)

pub push-requires-clause-countable : goal.push-requires-clause-countable
push-requires-clause-countable g c =
    let m : Machine = (the_view c.self.inside).machine in
    subst (λ (ns : List ℕ). IfSome (slice_get ns c.args.new.project.0) (λ n. n + 1 < 4294967296)) (sym c.self.invariant.counted.counted)
    (few_counted m.setup.project m.histories c.args.new.project.0 (λ n. n + 1 < 4294967296) (λ n le. omega (arith, le, c.self.invariant.tracker.few_issues)))

pub see_issue-requires : goal.see_issue-requires
unfolding IsAllowed
see_issue-requires g c =
    let m : Machine = (the_view c.self.inside).machine in
    let h = c.args.new.issue.history in
    let back = sym c.self.view_is in
    comes_last m c.self.inside.work h (histories_of c.as_vec.result.now.items) c.self.invariant.worked
    (subst (λ (s : Held). MayOpen s.machine h) back c.requires.allowed.0)
    (subst (λ (s : Held). HasRoomFor s.work (share_now s.work.seen h).sprint) back c.requires.fits.rows_room)
    (ap histories_of c.as_vec.ensures ∙ ap histories_of c.push.ensures.kept ∙ histories_push c.self.inside.issues.kept c.args.new.issue)

pub invariant_of-self : goal.invariant_of-self
unfolding IsAllowed
invariant_of-self g c =
    let m : Machine = (the_view c.self.inside).machine in
    let h = c.args.new.issue.history in
    let place = c.args.new.project.0 in
    let back = sym c.self.view_is in
    let histories : histories_of c.push.new.self.kept ≡ m.histories ++ h ∷ [] = ap histories_of c.push.ensures.kept ∙ histories_push c.self.inside.issues.kept c.args.new.issue in
    let rank = c.args.new.rank in
    let tally = c.push.new.self.tally in
    let order : c.add.new.self.order ≡ with_last m.order h.no rank = ap (λ (r : OrderedIssues). r.order) c.add.ensures ∙ ap (λ (no : IssueNo). with_last m.order no rank) c.no-2.ensures in
    let external = id_of c.args.new.external in
    let externals : c.put_external.new.externals.ids ≡ with_external m.externals h.no external =
    c.put_external.ensures ∙ ap (λ (no : IssueNo). with_external m.externals no external) c.no.ensures in
    let balance : c.add.new.self.balance ≡ m.balance = ap (λ (r : OrderedIssues). r.balance) c.add.ensures in
    let w = c.self.inside.filters in
    let seen = c.see_new.new.self in
    let is = c.see_new.ensures in
    let next = machine_pushed m h rank external (histories_of c.push.new.self.kept) c.put_external.new.externals.ids c.add.new.self.order c.add.new.self.balance c.see_issue.new.self.seen.sprints (saved_filters seen.filters)
    histories externals order balance (ap (λ (s : Seen). s.sprints) c.see_issue.ensures.seen) (ap saved_filters is.filters) in
    subst (λ (n : Machine). IsState n tally seen c.see_issue.new.self c.self.inside.setting.context) (sym next)
    (state_push m c.self.inside.issues.tally tally w seen c.self.inside.work c.see_issue.new.self c.self.inside.setting.context h rank external c.args.new.project c.self.inside.setting.setup.sound c.self.invariant
    (subst (λ (s : Held). MayOpen s.machine h) back c.requires.allowed.0)
    (subst (λ (s : Held). IsNext s.machine.order s.machine.balance h.no rank) back c.requires.allowed.1)
    (subst (λ (s : Held). MayName s.machine.externals external) back c.requires.allowed.2)
    (subst (λ (s : Held). place < length s.machine.setup.project) back c.requires.fits.there)
    (subst (λ (s : Held). h.key ≡ next_key s.machine (name_at (project_keys s.machine.setup) place)) back c.requires.fits.next)
    c.push.ensures.counts c.push.ensures.projects (record { known = is.histories; beside = is.around; now = is.moment }) is.filters
    (c.see_issue.ensures.seen ∙ ap (with_histories c.self.inside.work.seen) (ap histories_of c.as_vec.ensures ∙ histories)))
