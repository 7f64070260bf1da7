use Rattle.std.proofs.Common.{◌≡◌, ◌++◌, ◌+◌, ◌<◌, length, slice_get, set, Some, IfSome, ap, sym, subst, ◌∙◌}
use Rattle.std.proofs.lemmas.List.{length-map}
use Rattle.std.specs.Option.{option_map_or}
use Rattle.change_history.specs.History.{RoomyHistory, History, MayAdd, histories_of}
use Rattle.tracker_machine.specs.Machine.{Machine}
use Rattle.tracker_machine.specs.Effect.{applied, IsAllowed, longer, with_group}
use Rattle.tracker_machine.specs.Tracker.{MayGroup}
use Rattle.tracker_machine.proofs.Settled.{at_place, from_found}
use Rattle.tracker_issues.specs.Counts.{Tally}
use Rattle.tracker_issues.specs.Issues.{with_entries}
use Rattle.tracker_issues.proofs.Histories.{histories_set, history_at}
use Rattle.tracker_state.specs.State.{Held, IsState, saved_filters}
use Rattle.tracker_state.specs.contracts.state.State.{the_view}
use Rattle.tracker_work.specs.Seen.{Seen, share_now, with_histories}
use Rattle.tracker_state.proofs.Sprinting.{grows_at}
use Rattle.tracker_state.specs.Plan.{HasRowsRoom}
use Rattle.tracker_state.proofs.Pushed.{machine_grown}
use Rattle.tracker_state.proofs.States.{state_add, grown_is, numbered_there, grown_seen}
use Rattle.tracker_state.proofs.state.State.add.Goals as goal

pub see_change-requires-clause-there : goal.see_change-requires-clause-there
unfolding IsAllowed
see_change-requires-clause-there g c =
    let kept = c.self.inside.issues.kept in
    let place = c.args.new.place in
    let es = c.args.new.group.entries in
    let m : Machine = (the_view c.self.inside).machine in
    let there : place < length m.histories = subst (λ (s : Held). place < length s.machine.histories) (sym c.self.view_is) c.requires.allowed.there in
    let in' : place < length kept = subst (λ n. place < n) (length-map kept (λ (i : RoomyHistory). i.history)) there in
    let found = at_place kept place in' in
    let issue = c.at-issue.result.now in
    let is : issue ≡ with_entries found.0 es = grown_is kept c.add.new.self.kept place found.0 issue es in' found.1 c.add.ensures.kept (sym c.at-issue.ensures) in
    (numbered_there m c.self.inside.issues.tally c.self.inside.filters c.self.inside.work c.self.inside.setting.context place found.0 issue es c.self.invariant (history_at kept place found.0 found.1) is).1

pub see_group-requires-clause-group : goal.see_group-requires-clause-group
unfolding IsAllowed
see_group-requires-clause-group g c =
    let kept = c.self.inside.issues.kept in
    let place = c.args.new.place in
    let group = c.args.new.group in
    let es = group.entries in
    let m : Machine = (the_view c.self.inside).machine in
    let work = c.self.inside.work in
    let allowed : MayGroup m place group = subst (λ (s : Held). MayGroup s.machine place group) (sym c.self.view_is) c.requires.allowed in
    let in' : place < length kept = subst (λ n. place < n) (length-map kept (λ (i : RoomyHistory). i.history)) allowed.there in
    let found = at_place kept place in' in
    let i = found.0 in
    let at : slice_get m.histories place ≡ Some i.history = history_at kept place i found.1 in
    let may : MayAdd i.history group.change group.at group.author es = from_found (slice_get m.histories place) i.history (λ h. MayAdd h group.change group.at group.author es) at allowed.group in
    let may_now = subst (λ n. MayAdd i.history n m.moment group.author es) allowed.change (subst (λ n. MayAdd i.history group.change n group.author es) allowed.at may) in
    let histories : histories_of c.add.new.self.kept ≡ set m.histories place (longer i.history es) =
    ap histories_of (from_found (slice_get kept place) i (λ (i : RoomyHistory). c.add.new.self.kept ≡ set kept place (with_entries i es)) found.1 c.add.ensures.kept) ∙ histories_set kept place (with_entries i es) in
    let room = subst (λ (s : Held). IfSome (slice_get s.machine.histories place) (λ h. HasRowsRoom s h es)) (sym c.self.view_is) c.requires.fits.rows_room in
    let rows = from_found (slice_get m.histories place) i.history (λ h. HasRowsRoom (the_view c.self.inside) h es) at room in
    let before = from_found (slice_get kept place) i (λ i. c.share_at-before.result ≡ share_now work.seen i.history) found.1 c.share_at-before.ensures in
    grows_at m work place i.history c.share_at-before.result group.author es (histories_of c.as_vec.result.now.items) c.self.invariant.worked c.self.invariant.tracker at may_now allowed.fitting allowed.small allowed.author
    before rows.before rows.after (ap histories_of c.as_vec.ensures ∙ histories)

pub invariant_of-self : goal.invariant_of-self
unfolding IsAllowed
invariant_of-self g c =
    let kept = c.self.inside.issues.kept in
    let place = c.args.new.place in
    let group = c.args.new.group in
    let es = group.entries in
    let m : Machine = (the_view c.self.inside).machine in
    let allowed : MayGroup m place group = subst (λ (s : Held). MayGroup s.machine place group) (sym c.self.view_is) c.requires.allowed in
    let in' : place < length kept = subst (λ n. place < n) (length-map kept (λ (i : RoomyHistory). i.history)) allowed.there in
    let found = at_place kept place in' in
    let i = found.0 in
    let at : slice_get m.histories place ≡ Some i.history = history_at kept place i found.1 in
    let may : MayAdd i.history group.change group.at group.author es = from_found (slice_get m.histories place) i.history (λ h. MayAdd h group.change group.at group.author es) at allowed.group in
    let may_now = subst (λ n. MayAdd i.history n m.moment group.author es) allowed.change (subst (λ n. MayAdd i.history group.change n group.author es) allowed.at may) in
    let histories : histories_of c.add.new.self.kept ≡ set m.histories place (record i.history { entries = i.history.entries ++ es }) =
    ap histories_of (from_found (slice_get kept place) i (λ (i : RoomyHistory). c.add.new.self.kept ≡ set kept place (with_entries i es)) found.1 c.add.ensures.kept) ∙ histories_set kept place (with_entries i es) in
    let w = c.self.inside.filters in
    let seen = c.see_change.new.self in
    let is = c.see_change.ensures in
    let issue = c.at-issue.result.now in
    let same : issue ≡ with_entries i es = grown_is kept c.add.new.self.kept place i issue es in' found.1 c.add.ensures.kept (sym c.at-issue.ensures) in
    let number : issue.history.no.0 ≡ 1 + place = (numbered_there m c.self.inside.issues.tally w c.self.inside.work c.self.inside.setting.context place i issue es c.self.invariant at same).0 in
    let next = machine_grown m place group i.history (histories_of c.add.new.self.kept) c.see_group.new.self.seen.sprints (saved_filters seen.filters)
    at histories (ap (λ (s : Seen). s.sprints) c.see_group.ensures.seen) (ap saved_filters is.filters) in
    subst (λ (n : Machine). IsState n c.add.new.self.tally seen c.see_group.new.self c.self.inside.setting.context) (sym next)
    (subst (λ (t : Tally). IsState (with_group m place group) t seen c.see_group.new.self c.self.inside.setting.context) (sym c.add.ensures.tally)
    (subst (λ o. IsState (record m { change = m.change + 1; histories = option_map_or (λ (h : History). set m.histories place (longer h es)) o m.histories }) c.self.inside.issues.tally seen c.see_group.new.self c.self.inside.setting.context) (sym at)
    (state_add m c.self.inside.issues.tally w seen c.self.inside.work c.see_group.new.self c.self.inside.setting.context place i.history group.author es c.self.invariant at may_now allowed.fitting allowed.small allowed.sprints allowed.author allowed.few allowed.light
    (record { known = is.histories ∙ grown_seen w.histories place i issue es number same; beside = is.around; now = is.moment }) is.filters
    (c.see_group.ensures.seen ∙ ap (with_histories c.self.inside.work.seen) (ap histories_of c.as_vec.ensures ∙ histories)))))

pub returns-clause-machine : goal.returns-clause-machine
unfolding applied IsAllowed
returns-clause-machine g c =
    let kept = c.self.inside.issues.kept in
    let place = c.args.new.place in
    let group = c.args.new.group in
    let es = group.entries in
    let m : Machine = (the_view c.self.inside).machine in
    let allowed : MayGroup m place group = subst (λ (s : Held). MayGroup s.machine place group) (sym c.self.view_is) c.requires.allowed in
    let found = at_place kept place (subst (λ n. place < n) (length-map kept (λ (i : RoomyHistory). i.history)) allowed.there) in
    let i = found.0 in
    let at : slice_get m.histories place ≡ Some i.history = history_at kept place i found.1 in
    let histories : histories_of c.add.new.self.kept ≡ set m.histories place (longer i.history es) =
    ap histories_of (from_found (slice_get kept place) i (λ (i : RoomyHistory). c.add.new.self.kept ≡ set kept place (with_entries i es)) found.1 c.add.ensures.kept) ∙ histories_set kept place (with_entries i es) in
    machine_grown m place group i.history (histories_of c.add.new.self.kept) c.see_group.new.self.seen.sprints (saved_filters c.see_change.new.self.filters)
    at histories (ap (λ (s : Seen). s.sprints) c.see_group.ensures.seen) (ap saved_filters c.see_change.ensures.filters)
    ∙ ap (λ (s : Held). with_group s.machine place group) c.self.view_is
