-- What the state keeps true of itself, after each change.
use Rattle.std.proofs.Common.{◌≡◌, ℕ, ◌+◌, ◌-◌, ◌<◌, ◌≤◌, List, [], ◌∷◌, ◌++◌, length, slice_get, set, Option, Some, IfSome, refl, sym, ap, subst, ◌∙◌, arith}
use Rattle.std.specs.Prelude.{sum_by}
use Rattle.std.specs.List.{All}
use Rattle.field_values.specs.declared.numbers.GroupNo.{GroupNo}
use Rattle.field_values.specs.declared.numbers.ProjectNo.{ProjectNo}
use Rattle.field_values.specs.declared.numbers.UserNo.{UserNo}
use Rattle.field_values.specs.Years.{last_second}
use Rattle.tracker_limits.specs.Limits.{most_entries, most_text_bytes}
use Rattle.change_history.specs.declared.entry.Entry.{Entry}
use Rattle.change_history.specs.History.{RoomyHistory, History, MayAdd}
use Rattle.fields.specs.Sound.{IsSound}
use Rattle.fields.specs.SetupParts.{names_in}
use Rattle.rank_strings.specs.Rank.{RankParts}
use Rattle.board.specs.Order.{Pair}
use Rattle.board.specs.declared.board.Board.{Board}
use Rattle.rank_balancer.specs.declared.balance.Balance.{Balance}
use Rattle.tracker_ranks.specs.Ranked.{IsNext}
use Rattle.tracker_machine.specs.Machine.{Machine}
use Rattle.tracker_machine.specs.Saved.{SavedFilter}
use Rattle.tracker_machine.specs.Effect.{MayName, MayHave, with_issue, longer, regrouped, with_group_members}
use Rattle.tracker_machine.specs.Search.{surroundings_in}
use Rattle.tracker_machine.specs.SprintRules.{BringsSprints}
use Rattle.fields.specs.Naming.{name_at}
use Rattle.tracker_machine.specs.Checks.{entries_kept, bytes_kept, entry_bytes}
use Rattle.tracker_machine.specs.Known.{project_keys, next_key}
use Rattle.jql_bound.specs.declared.context.Context.{Context}
use Rattle.jql_meaning.specs.Surroundings.{surroundings_of}
use Rattle.sprints.specs.declared.sprint.Sprint.{Sprint}
use Rattle.tracker_work.specs.Seen.{Seen, with_histories}
use Rattle.tracker_work.specs.Work.{TrackedWork}
use Rattle.filter_views.specs.FilterRow.{HasNumber}
use Rattle.tracker_filters.specs.Watched.{WatchedFilters}
use Rattle.tracker_state.specs.State.{IsState, IsBound}
use Rattle.tracker_machine.specs.Tracker.{IsTracker, AllEntriesFit, AllSmall, MayOpen}
use Rattle.tracker_machine.proofs.Chronicle.{few_groups}
use Rattle.tracker_machine.proofs.Keepable.{number_at}
use Rattle.tracker_machine.proofs.Saved.{all_then}
use Rattle.tracker_machine.proofs.Settled.{from_found}
use Rattle.tracker_machine.proofs.Regrouped.{asked_regrouped}
use Rattle.tracker_machine.proofs.Tracker.{tracker_later, tracker_push, tracker_add, tracker_regrouped}
use Rattle.tracker_issues.specs.Counts.{Tally}
use Rattle.tracker_issues.specs.Issues.{with_entries}
use Rattle.tracker_issues.proofs.Histories.{set_here, some_is}
use Rattle.tracker_issues.proofs.Tallies.{tally_push, tally_set, tally_beside}

-- filters have seen these histories at this moment, beside the same as others
pub record See (before : WatchedFilters) (histories : List History) (moment : ℕ) (seen : WatchedFilters) : Type 0 where
  pub known : seen.histories ≡ histories
  pub beside : seen.around ≡ before.around
  pub now : seen.moment ≡ moment

-- time moves on
pub state_later : (m : Machine) (tally : Tally) (w seen : WatchedFilters) (work : TrackedWork) (context : Context) (now : ℕ) → IsState m tally w work context
    → m.moment ≤ now → now ≤ last_second → See w w.histories now seen → seen.filters ≡ w.filters → IsState (record m { moment = now }) tally seen work context
state_later m tally w seen work context now is later timely see same = record {
  counted = is.counted;
  few_changes = is.few_changes;
  tracker = tracker_later m now later timely is.tracker;
  seen = record { histories = see.known ∙ is.seen.histories; around = see.beside ∙ is.seen.around; moment = see.now };
  bound = subst (All (IsBound m.setup)) (sym same) is.bound;
  worked = is.worked;
  around = is.around;
}

-- ranks, filters and boards become others
pub state_beside : (m : Machine) (tally : Tally) (w seen : WatchedFilters) (work : TrackedWork) (context : Context) (order : List Pair) (balance : Balance) (filters : List SavedFilter) (boards : List Board)
    → IsState m tally w work context → IsTracker (record m { order = order; balance = balance; filters = filters; boards = boards }) → See w w.histories w.moment seen → All (IsBound m.setup) seen.filters
    → IsState (record m { order = order; balance = balance; filters = filters; boards = boards }) tally seen work context
state_beside m tally w seen work context order balance filters boards is tracker see bound = record {
  counted = is.counted;
  few_changes = is.few_changes;
  tracker = tracker;
  seen = record { histories = see.known ∙ is.seen.histories; around = see.beside ∙ is.seen.around; moment = see.now ∙ is.seen.moment };
  bound = bound;
  worked = is.worked;
  around = is.around;
}

-- ---- an issue

-- an issue comes, of the project at a place
pub state_push : (m : Machine) (tally new : Tally) (w seen : WatchedFilters) (work told : TrackedWork) (context : Context) (h : History) (rank : RankParts) (external : Option (List ℕ)) (project : ProjectNo) → IsSound m.setup → IsState m tally w work context
    → MayOpen m h → IsNext m.order m.balance h.no rank → MayName m.externals external → project.0 < length m.setup.project
    → h.key ≡ next_key m (name_at (project_keys m.setup) project.0) → IfSome (slice_get tally.counts project.0) (λ n. new.counts ≡ set tally.counts project.0 (n + 1)) → new.projects ≡ tally.projects ++ project ∷ []
    → See w (w.histories ++ h ∷ []) w.moment seen → seen.filters ≡ w.filters → told.seen ≡ with_histories work.seen (m.histories ++ h ∷ [])
    → IsState (with_issue m h rank external) new seen told context
state_push m tally new w seen work told context h rank external project sound is may next named there key count noted see same tells =
    let tracker = tracker_push m h rank external is.tracker may next named in
    record {
      counted = tally_push m.setup m.histories h tally new project sound is.counted there key count noted;
      few_changes = omega (arith, tracker.numbered, tracker.few_issues, tracker.few_entries, few_groups (m.histories ++ h ∷ []));
      tracker = tracker;
      seen = record { histories = see.known ∙ ap (λ (hs : List History). hs ++ h ∷ []) is.seen.histories; around = see.beside ∙ is.seen.around; moment = see.now ∙ is.seen.moment };
      bound = subst (All (IsBound m.setup)) (sym same) is.bound;
      worked = tells ∙ ap (λ (seen : Seen). with_histories seen (m.histories ++ h ∷ [])) is.worked;
      around = is.around;
    }

-- ---- a group

pub state_add : (m : Machine) (tally : Tally) (w seen : WatchedFilters) (work told : TrackedWork) (context : Context) (k : ℕ) (h : History) (author : UserNo) (es : List Entry) → IsState m tally w work context
    → slice_get m.histories k ≡ Some h → MayAdd h (m.change + 1) m.moment author es → AllEntriesFit (names_in m.setup) es → AllSmall es → BringsSprints (length m.sprints) es → author.0 < length m.setup.users
    → entries_kept m.histories + length es ≤ most_entries → bytes_kept m.histories + sum_by entry_bytes es ≤ most_text_bytes
    → See w (set w.histories k (longer h es)) w.moment seen → seen.filters ≡ w.filters → told.seen ≡ with_histories work.seen (set m.histories k (longer h es))
    → IsState (record m { change = m.change + 1; histories = set m.histories k (longer h es) }) tally seen told context
state_add m tally w seen work told context k h author es is at may fit small brings user few light see same tells =
    let new : History = longer h es in
    let tracker = tracker_add m k h author es is.tracker at may fit small brings user few light in
    record {
      counted = tally_set m.setup m.histories tally k h new at refl is.counted;
      few_changes = omega (arith, tracker.numbered, tracker.few_issues, tracker.few_entries, few_groups (set m.histories k new));
      tracker = tracker;
      seen = record { histories = see.known ∙ ap (λ (hs : List History). set hs k new) is.seen.histories; around = see.beside ∙ is.seen.around; moment = see.now ∙ is.seen.moment };
      bound = subst (All (IsBound m.setup)) (sym same) is.bound;
      worked = tells ∙ ap (λ (seen : Seen). with_histories seen (set m.histories k new)) is.worked;
      around = is.around;
    }

-- ---- sprints

-- one is made, or comes to another state
pub state_planned : (m : Machine) (tally : Tally) (w seen : WatchedFilters) (work told : TrackedWork) (context new : Context) (sprints : List Sprint) → IsState m tally w work context
    → IsTracker (record m { sprints = sprints }) → seen.histories ≡ w.histories → seen.moment ≡ w.moment → seen.filters ≡ w.filters → seen.around ≡ surroundings_of new
    → surroundings_of new ≡ surroundings_in m.setup sprints → told.seen ≡ record work.seen { sprints = sprints } → IsState (record m { sprints = sprints }) tally seen told new
state_planned m tally w seen work told context new sprints is tracker histories moment filters beside around tells = record {
  counted = is.counted;
  few_changes = is.few_changes;
  tracker = tracker;
  seen = record { histories = histories ∙ is.seen.histories; around = beside ∙ around; moment = moment ∙ is.seen.moment };
  bound = subst (All (IsBound m.setup)) (sym filters) is.bound;
  worked = tells ∙ ap (λ (seen : Seen). record seen { sprints = sprints }) is.worked;
  around = around;
}

-- ---- members

-- a group comes to other members
pub state_regrouped : (m : Machine) (tally : Tally) (w seen : WatchedFilters) (work : TrackedWork) (context new : Context) (group : GroupNo) (members : List UserNo) → IsState m tally w work context
    → MayHave m.setup group members → seen.histories ≡ w.histories → seen.moment ≡ w.moment → seen.filters ≡ w.filters → seen.around ≡ surroundings_of new
    → surroundings_of new ≡ surroundings_in (regrouped m.setup group members) m.sprints → IsState (with_group_members m group members) tally seen work new
state_regrouped m tally w seen work context new group members is may histories moment filters beside around = record {
  counted = tally_beside m.setup (regrouped m.setup group members) m.histories tally refl is.counted;
  few_changes = is.few_changes;
  tracker = tracker_regrouped m group members is.tracker may;
  seen = record { histories = histories ∙ is.seen.histories; around = beside ∙ around; moment = moment ∙ is.seen.moment };
  bound = subst (All (IsBound (regrouped m.setup group members))) (sym filters)
      (all_then (IsBound m.setup) (IsBound (regrouped m.setup group members)) w.filters (λ f bound. asked_regrouped m.setup group members f.owner.0 f.text ∙ bound) is.bound);
  worked = is.worked;
  around = around;
}

-- ---- the issue of a group

-- the issue that is found where entries were added
pub grown_is : (kept new : List RoomyHistory) (k : ℕ) (i found : RoomyHistory) (es : List Entry) → k < length kept → slice_get kept k ≡ Some i
    → IfSome (slice_get kept k) (λ i. new ≡ set kept k (with_entries i es)) → Some found ≡ slice_get new k → found ≡ with_entries i es
grown_is kept new k i found es in' at is there =
    some_is found (with_entries i es) (there ∙ ap (λ (xs : List RoomyHistory). slice_get xs k) (from_found (slice_get kept k) i (λ i. new ≡ set kept k (with_entries i es)) at is) ∙ set_here kept k (with_entries i es) in')

-- it has the number of its place, of which there are verdicts
pub numbered_there : (m : Machine) (tally : Tally) (w : WatchedFilters) (work : TrackedWork) (context : Context) (k : ℕ) (i found : RoomyHistory) (es : List Entry) → IsState m tally w work context → slice_get m.histories k ≡ Some i.history
    → found ≡ with_entries i es → (found.history.no.0 ≡ 1 + k) × HasNumber found.history.no.0 (length w.histories)
numbered_there m tally w work context k i found es is at same =
    let number = number_at 1 m.histories k i.history is.tracker.numbers at in
    let own : found.history.no.0 ≡ i.history.no.0 = ap (λ (i : RoomyHistory). i.history.no.0) same in
    let many : length w.histories ≡ length m.histories = ap (λ (hs : List History). length hs) is.seen.histories in
    (omega (arith, own, number.0), (omega (arith, own, number.0), omega (arith, own, number.0, number.1, many)))

-- what the filters have seen of it
pub grown_seen : (hs : List History) (k : ℕ) (i found : RoomyHistory) (es : List Entry) → found.history.no.0 ≡ 1 + k → found ≡ with_entries i es
    → set hs (found.history.no.0 - 1) found.history ≡ set hs k (with_entries i es).history
grown_seen hs k i found es number same =
    let place : found.history.no.0 - 1 ≡ k = omega (arith, number) in
    ap (λ n. set hs n found.history) place ∙ ap (λ (i : RoomyHistory). set hs k i.history) same
