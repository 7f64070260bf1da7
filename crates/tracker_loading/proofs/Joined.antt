-- What a tracker in the making keeps true of itself, as parts join it.
use Rattle.std.proofs.Common.{◌≡◌, ℕ, zero, suc, ◌+◌, ◌<◌, ◌≤◌, inl, List, [], ◌∷◌, ◌++◌, length, slice_get, set, Some, IfSome, refl, sym, ap, ◌∙◌, subst, arith}
use Rattle.std.specs.Prelude.{Bool, true, false, Result, Ok, Err, IfOk, OnErr, if◌then◌else◌}
use Rattle.std.specs.List.{All}
use Rattle.std.specs.List.Sorted.{IsPermutation}
use Rattle.std.specs.Option.{option_map_or}
use Rattle.std.proofs.lemmas.Option.{slice_get_within, get_or_from_slice_get, none-some, same_Some}
use Rattle.std.proofs.lemmas.List.Sums.{sum_by-cons}
use Rattle.std.proofs.lemmas.List.Elements.{All-push, All-weaker}
use Rattle.field_values.specs.declared.numbers.GroupNo.{GroupNo}
use Rattle.field_values.specs.declared.numbers.IssueNo.{IssueNo}
use Rattle.field_values.specs.declared.numbers.ProjectNo.{ProjectNo}
use Rattle.field_values.specs.declared.numbers.UserNo.{UserNo}
use Rattle.fields.specs.Sound.{IsSound}
use Rattle.rising_numbers.specs.ByNumber.{put_by_number}
use Rattle.rising_numbers.proofs.ByNumber.{rise_put}
use Rattle.change_history.specs.declared.entry.Entry.{Entry}
use Rattle.change_history.specs.declared.entry.Group.{Group}
use Rattle.change_history.specs.History.{History, RoomyHistory, present, histories_of}
use Rattle.rank_strings.specs.Rank.{RankParts, IsRank}
use Rattle.tracker_filters.specs.declared.filter.Filter.{Filter}
use Rattle.tracker_filters.specs.Saved.{number}
use Rattle.tracker_machine.specs.Machine.{Machine}
use Rattle.tracker_machine.specs.Checks.{entries_kept}
use Rattle.tracker_machine.specs.Chronicle.{HasEntry}
use Rattle.tracker_machine.specs.Effect.{longer, grown, with_new_rank, with_group_members, regrouped}
use Rattle.tracker_machine.proofs.Regrouped.{asked_regrouped}
use Rattle.tracker_machine.proofs.Settled.{from_found, to_found}
use Rattle.tracker_machine.proofs.Saved.{all_put}
use Rattle.tracker_issues.specs.Counts.{Tally, IsTally}
use Rattle.tracker_issues.specs.Issues.{Shelf, with_entries}
use Rattle.tracker_issues.proofs.Histories.{histories_set, set_here}
use Rattle.tracker_issues.proofs.Tallies.{tally_push, tally_set, tally_beside}
use Rattle.tracker_rows.specs.Rules.{IsInTurn, MayBeGroup}
use Rattle.tracker_state.specs.State.{IsBound, saved_filters}
use Rattle.tracker_loading.specs.Making.{IsMaking, order_of}
use Rattle.tracker_loading.specs.Rules.{IsKeyAt}
use Rattle.tracker_loading.specs.Taken.{AreTaken}
use Rattle.tracker_loading.specs.Turns.{IsBehindGroups, HasItsTurn}
use Rattle.tracker_loading.proofs.Turns.{issue_here, created_pushed, created_set, moment_pushed, moment_grown}
use Rattle.tracker_loading.proofs.Ranks.{order_of-push, next_of_ranks, permuted_more}
use Rattle.board.specs.Order.{Pair}
use Rattle.rank_balancer.specs.Step.{after_move}
use Rattle.tracker_ranks.specs.Loaded.{numbered_from}

-- ---- turns

pub turn_from_parts : (m : Machine) (change at : ℕ) → change ≤ m.change → at ≤ m.moment → HasItsTurn m.histories change at → IsInTurn m change at
turn_from_parts m change at counted timely turn = record {
  once = turn.once;
  counted = counted;
  later = turn.later;
  earlier = turn.earlier;
  timely = timely;
}

pub own_turn : (m : Machine) (change at : ℕ) → IsInTurn m change at → HasItsTurn m.histories change at
own_turn m change at turn = record { once = turn.once; later = turn.later; earlier = turn.earlier }

-- where no issue has an entry, any number is behind all groups
no_entry : (es : List Entry) (n at : ℕ) → length es ≡ 0 → HasEntry es n at → ⊥
no_entry [] n at is has = has
no_entry (e ∷ es) n at is has = omega (arith, is)

pub none_before : (hs : List History) (change : ℕ) → entries_kept hs ≡ 0 → IsBehindGroups hs change
none_before [] change none place n at h here has = absurd (none-some h here)
none_before (g ∷ gs) change none zero n at h here has =
    let sum : entries_kept (g ∷ gs) ≡ length g.entries + entries_kept gs = sum_by-cons (λ (h : History). length h.entries) g gs in
    let own : length g.entries ≡ 0 = omega (arith, sum, none) in
    absurd (no_entry h.entries n at (ap (λ (i : History). length i.entries) (sym (same_Some g h here)) ∙ own) has)
none_before (g ∷ gs) change none (suc k) n at h here has =
    let sum : entries_kept (g ∷ gs) ≡ length g.entries + entries_kept gs = sum_by-cons (λ (h : History). length h.entries) g gs in
    let rest : entries_kept gs ≡ 0 = omega (arith, sum, none) in
    none_before gs change rest k n at h here has

-- ---- an issue

module _ (m : Machine) (tally new : Tally) (ranks : List RankParts) (filters : List Filter) (taken : List RankParts) (group_at : ℕ)
    (is : IsMaking m tally ranks filters taken group_at) where
  pub issue_made : (h : History) (project : ProjectNo) → IsSound m.setup → IsKeyAt m.setup m.histories h.key project.0 → h.entries ≡ []
      → All (λ g. g.change < h.change) m.histories → IsInTurn m h.change h.at
      → IfSome (slice_get tally.counts project.0) (λ n. new.counts ≡ set tally.counts project.0 (n + 1)) → new.projects ≡ tally.projects ++ project ∷ []
      → IsMaking (record m { histories = m.histories ++ h ∷ [] }) new ranks filters taken group_at
  issue_made h project sound key none rising turn count noted =
      let hs = m.histories in
      record {
        counted = tally_push m.setup hs h tally new project sound is.counted key.there key.is count noted;
        permuted = is.permuted;
        bound = is.bound;
        rising = is.rising;
        created = created_pushed hs h is.created (λ k g at.
            let less : g.change < h.change = subst (λ (x : History). x.change < h.change) (get_or_from_slice_get hs k g g at) (rising k g (slice_get_within hs k g at)) in
            (less, turn.later k g.change g.at (g, at, inl (refl, refl)) less));
        groups = moment_pushed hs h group_at none is.groups;
        are_ranks = is.are_ranks;
        are_taken = is.are_taken;
      }

  -- ---- a group

  pub group_made : (place : ℕ) (h : History) (g : Group) → slice_get m.histories place ≡ Some h → MayBeGroup m h g → group_at ≤ g.at → new ≡ tally
      → IsMaking (record m { histories = set m.histories place (longer h g.entries) }) new ranks filters taken g.at
  group_made place h g there may le same = record {
    counted = subst (λ (t : Tally). IsTally t m.setup (set m.histories place (longer h g.entries))) (sym same)
        (tally_set m.setup m.histories tally place h (longer h g.entries) there refl is.counted);
    permuted = is.permuted;
    bound = is.bound;
    rising = is.rising;
    created = created_set m.histories place h (longer h g.entries) there refl refl is.created;
    groups = moment_grown m.histories place h (longer h g.entries) (present h) g.change g.at group_at g.author g.entries there refl may.entries may.some le is.groups;
    are_ranks = is.are_ranks;
    are_taken = is.are_taken;
  }

-- room for a group, and the group
pub grown_room : (old new : Shelf) (place n count : ℕ) (h : History) (A : History → Type 0) → slice_get (histories_of old.kept) place ≡ Some h → A h → count ≤ n
    → IfSome (slice_get old.kept place) (λ i. new ≡ record old { kept = set old.kept place (record i { room = n }) })
    → IfSome (slice_get new.kept place) (λ i. (count ≤ i.room) × A i.history)
grown_room old new place n count h A there holds le is =
    let found = issue_here old.kept place h there in
    let i : RoomyHistory = found.0 in
    let roomy : RoomyHistory = record i { room = n } in
    let same : new ≡ record old { kept = set old.kept place roomy } =
    from_found (slice_get old.kept place) i (λ i. new ≡ record old { kept = set old.kept place (record i { room = n }) }) found.1 is in
    let here : slice_get new.kept place ≡ Some roomy =
    ap (λ (s : Shelf). slice_get s.kept place) same ∙ set_here old.kept place roomy (slice_get_within old.kept place i found.1) in
    to_found (slice_get new.kept place) roomy (λ i. (count ≤ i.room) × A i.history) here (le, subst A (sym found.2) holds)

pub grown_kept : (old mid new : List RoomyHistory) (place : ℕ) (h : History) (es : List Entry) → slice_get (histories_of old) place ≡ Some h → histories_of mid ≡ histories_of old
    → IfSome (slice_get mid place) (λ i. new ≡ set mid place (with_entries i es)) → histories_of new ≡ set (histories_of old) place (longer h es)
grown_kept old mid new place h es there same is =
    let found = issue_here mid place h (ap (λ (hs : List History). slice_get hs place) same ∙ there) in
    let i : RoomyHistory = found.0 in
    let put : new ≡ set mid place (with_entries i es) = from_found (slice_get mid place) i (λ i. new ≡ set mid place (with_entries i es)) found.1 is in
    ap histories_of put ∙ histories_set mid place (with_entries i es)
    ∙ ap (λ (g : History). set (histories_of mid) place (longer g es)) found.2
    ∙ ap (λ (hs : List History). set hs place (longer h es)) same

pub grown_at : (hs : List History) (place : ℕ) (h : History) (es : List Entry) → slice_get hs place ≡ Some h → set hs place (longer h es) ≡ grown hs place es
grown_at hs place h es there = ap (λ o. option_map_or (λ (g : History). set hs place (longer g es)) o hs) (sym there)

-- ---- a rank

pub rank_made : (m : Machine) (tally : Tally) (ranks : List RankParts) (filters : List Filter) (taken new : List RankParts) (group_at : ℕ) (issue : IssueNo) (rank : RankParts)
    → IsMaking m tally ranks filters taken group_at → issue.0 ≡ length m.order + 1 → IsRank rank → AreTaken (ranks ++ rank ∷ []) new
    → IsMaking (with_new_rank m issue rank) tally (ranks ++ rank ∷ []) filters new group_at
rank_made m tally ranks filters taken new group_at issue rank is next one are = record {
  counted = is.counted;
  permuted = permuted_more ranks m.order issue is.permuted next rank;
  bound = is.bound;
  rising = is.rising;
  created = is.created;
  groups = is.groups;
  are_ranks = All-push IsRank ranks rank is.are_ranks one;
  are_taken = are;
}

pub rank_joined : {E : Type 0} (m : Machine) (tally : Tally) (ranks items : List RankParts) (filters : List Filter) (taken new : List RankParts) (group_at : ℕ) (issue : IssueNo) (rank : RankParts)
    (result : Result Bool E) → IsMaking m tally ranks filters taken group_at → m.order ≡ order_of ranks → issue.0 ≡ length m.order + 1 → IsRank rank
    → IfOk result (λ is_new. items ≡ (if is_new then ranks ++ rank ∷ [] else ranks)) → OnErr result (items ≡ ranks) → AreTaken items new
    → IsMaking (record m { order = order_of items }) tally items filters new group_at
rank_joined {E = E} m tally ranks items filters taken new group_at issue rank result is own next one ok err are = by result ok err
  where
    kept : items ≡ ranks → IsMaking (record m { order = order_of items }) tally items filters new group_at
    kept same = subst (λ (rs : List RankParts). AreTaken rs new → IsMaking (record m { order = order_of rs }) tally rs filters new group_at) (sym same)
        (λ now. record {
          counted = is.counted;
          permuted = subst (IsPermutation (numbered_from 1 ranks)) own is.permuted;
          bound = is.bound;
          rising = is.rising;
          created = is.created;
          groups = is.groups;
          are_ranks = is.are_ranks;
          are_taken = now;
        }) are

    more : items ≡ ranks ++ rank ∷ [] → IsMaking (record m { order = order_of items }) tally items filters new group_at
    more is_more =
        let moved : order_of items ≡ after_move m.order (issue, rank) =
        ap order_of is_more ∙ order_of-push ranks issue rank (next_of_ranks ranks m.order issue is.permuted next) ∙ ap (λ (ps : List Pair). after_move ps (issue, rank)) (sym own) in
        subst (λ (ps : List Pair). IsMaking (record m { order = ps }) tally items filters new group_at) (sym moved)
        (subst (λ (rs : List RankParts). IsMaking (with_new_rank m issue rank) tally rs filters new group_at) (sym is_more)
        (rank_made m tally ranks filters taken new group_at issue rank is next one (subst (λ (rs : List RankParts). AreTaken rs new) is_more are)))

    by : (r : Result Bool E) → IfOk r (λ is_new. items ≡ (if is_new then ranks ++ rank ∷ [] else ranks)) → OnErr r (items ≡ ranks)
        → IsMaking (record m { order = order_of items }) tally items filters new group_at
    by (Ok true) ok err = more ok
    by (Ok false) ok err = kept ok
    by (Err e) ok err = kept err

-- ---- a filter

pub filter_made : (m : Machine) (tally : Tally) (ranks : List RankParts) (filters : List Filter) (taken : List RankParts) (group_at : ℕ) (f : Filter)
    → IsMaking m tally ranks filters taken group_at → 1 ≤ f.no.0 → IsBound m.setup f
    → IsMaking (record m { filters = saved_filters (put_by_number number f filters) }) tally ranks (put_by_number number f filters) taken group_at
filter_made m tally ranks filters taken group_at f is positive bound = record {
  counted = is.counted;
  permuted = is.permuted;
  bound = all_put number (IsBound m.setup) f filters bound is.bound;
  rising = rise_put number 1 f filters positive is.rising;
  created = is.created;
  groups = is.groups;
  are_ranks = is.are_ranks;
  are_taken = is.are_taken;
}

-- ---- the members of a group

-- who is in a group doesn't matter to what filters ask for
pub members_made : (m : Machine) (tally : Tally) (ranks : List RankParts) (filters : List Filter) (taken : List RankParts) (group_at : ℕ) (group : GroupNo) (members : List UserNo)
    → IsMaking m tally ranks filters taken group_at → IsMaking (with_group_members m group members) tally ranks filters taken group_at
members_made m tally ranks filters taken group_at group members is = record {
  counted = tally_beside m.setup (regrouped m.setup group members) m.histories tally refl is.counted;
  permuted = is.permuted;
  bound = All-weaker (IsBound m.setup) (IsBound (regrouped m.setup group members))
      (λ f bound. asked_regrouped m.setup group members f.owner.0 f.text ∙ bound) filters is.bound;
  rising = is.rising;
  created = is.created;
  groups = is.groups;
  are_ranks = is.are_ranks;
  are_taken = is.are_taken;
}
