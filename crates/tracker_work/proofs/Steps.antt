-- What keeps a burndown that of what was seen: room, a new sprint, a start, a close, a new issue and a further group. The laws of
-- burndowns are taken as they are told.
use Rattle.std.proofs.Common.{◌⊎◌, inl, inr, ◌≡◌, ◌≢◌, ℕ, ◌+◌, ◌<◌, ◌≤◌, Bool, List, [], ◌∷◌, ◌++◌, length, All, Option, Some, None, IfSome, unwrap_or, slice_get, slice_set, refl, sym, ◌∙◌, ap, subst, length-append, arith}
use Rattle.std.proofs.lemmas.Bool.{cases_eq}
use Rattle.std.proofs.lemmas.List.{length-set}
use Rattle.std.proofs.lemmas.List.Elements.{All-nil, All-push, All-set, All-weaker, All-append, All-get_or}
use Rattle.std.proofs.lemmas.Option.{slice_get_within, get_or_from_slice_get}
use Rattle.field_values.specs.declared.numbers.SprintNo.{SprintNo}
use Rattle.field_values.specs.declared.numbers.UserNo.{UserNo}
use Rattle.field_values.specs.declared.numbers.FieldNo.{FieldNo}
use Rattle.field_values.specs.declared.value.Value.{Value}
use Rattle.change_history.specs.declared.entry.Entry.{Entry}
use Rattle.change_history.specs.History.{History, present}
use Rattle.sprints.specs.declared.sprint.Sprint.{Sprint}
use Rattle.sprints.specs.declared.state.SprintState.{SprintState}
use Rattle.sprints.specs.declared.state.SprintState.TheVariants.{Future, Active, Closed}
use Rattle.sprints.specs.Sprint.{IsThere, future, state_of}
use Rattle.sprints.specs.Change.{IsInState}
use Rattle.burndown.specs.declared.share.Share.{Share}
use Rattle.burndown.specs.declared.group.Group.{Group}
use Rattle.burndown.specs.Group.{group_of}
use Rattle.burndown.specs.Course.{Course, begun, ended}
use Rattle.burndown.specs.Tracked.{TrackedSprint}
use Rattle.burndown.specs.Burndown.{course_of, slots_of, rows_of, IsReserved, HasRoom, ChangesOnly, TellsGroup, GrowsInRoom}
use Rattle.burndown.specs.Chart.{course_by, IsPast, IsBurndownOf}
use Rattle.burndown.specs.Told.{HaveNumbersUpTo, AreFew, HavePoints, MayBeTold, GoesTo, MayBegin, MayEnd}
use Rattle.burndown.specs.ChartLaws.{with_entries, NothingTold, RoomStaysApart, StartMayBegin, CloseMayEnd, CreationMayBeTold, AdditionMayBeTold}
use Rattle.tracker_work.specs.Seen.{Seen, reading_of, share_now, state_in, with_sprint, with_histories}
use Rattle.tracker_work.specs.Work.{TrackedWork, IsWork, OnlyRoomGrows, HasRoomFor, MayTell, MayCome, MayGet}
use Rattle.tracker_work.proofs.Following.{states_of_none, states_of_more, goes_to, as_many}
use Rattle.tracker_work.proofs.Points.{AlwaysPoints, AreOfGroup, of_group, are_up_to, bare_points, grown_points}

-- what is seen, with so much room and these courses
abbrev pub work : Seen → ℕ → List TrackedSprint → TrackedWork
work seen room b = record { seen = seen; room = room; burndown = b }

-- ---- room

module _ (b c : List TrackedSprint) (grows : GrowsInRoom b c) where
  reserved_still : (s : ℕ) → IsReserved b s → IsReserved c s
  reserved_still s room = omega (arith, grows.room s, room)

  pub roomy_still : (s : ℕ) → HasRoom b s → HasRoom c s
  roomy_still s room =
      let rows : length (rows_of c s) ≡ length (rows_of b s) = ap (λ (x : Course). length x.rows) (grows.courses s) in
      omega (arith, rows, grows.room s, room)

  -- room that is made changes nothing of what was seen
  pub with_more_room : RoomStaysApart → (seen : Seen) (room more : ℕ) → IsWork (work seen room b) → IsWork (work seen more c)
  with_more_room law seen room more was = record {
    charts = law (reading_of seen) seen.histories (state_in seen.sprints) seen.change b c was.charts grows;
    reserved = λ s there. reserved_still s (was.reserved s there);
    numbers = was.numbers;
    few = was.few;
    points = was.points;
  }

pub nothing_grows : (b : List TrackedSprint) → GrowsInRoom b b
nothing_grows b = record { courses = λ s. refl; room = λ s. omega arith }

pub grows_on : (a b c : List TrackedSprint) → GrowsInRoom a b → GrowsInRoom b c → GrowsInRoom a c
grows_on a b c one other = record { courses = λ s. other.courses s ∙ one.courses s; room = λ s. omega (arith, one.room s, other.room s) }

pub has_room_still : (w v : TrackedWork) (sprint : Option SprintNo) → OnlyRoomGrows w v → HasRoomFor w sprint → HasRoomFor v sprint
has_room_still w v None grows room = tt
has_room_still w v (Some s) grows room = roomy_still w.burndown v.burndown grows.rows s.0 room

-- ---- sprints

-- at first there is no sprint, and nothing was seen
pub nothing_seen : NothingTold → (done : List Bool) → IsWork (work (record { done = done; sprints = []; histories = []; change = 0 }) 0 [])
nothing_seen law done = record {
  charts = law (reading_of seen) [] (state_in []) [] (All-nil (λ (h : History). 0 < h.change)) states_of_none (λ s. refl);
  reserved = λ s there. absurd (omega (arith, there));
  numbers = All-nil (λ (h : History). (h.change ≤ 0) × All (λ e. e.change ≤ 0) h.entries);
  few = omega arith;
  points = All-nil (AlwaysPoints (reading_of seen));
}
  where
    seen : Seen
    seen = record { done = done; sprints = []; histories = []; change = 0 }

module _ (seen : Seen) (room : ℕ) (b : List TrackedSprint) (was : IsWork (work seen room b)) where
  -- a burndown of these states is one of the same states
  same_states : (one other : ℕ → SprintState) → ((s : ℕ) → other s ≡ one s) → IsBurndownOf (reading_of seen) seen.histories one seen.change b → IsBurndownOf (reading_of seen) seen.histories other seen.change b
  same_states one other same is = record {
    past = λ s. subst (IsPast seen.change) (sym (same s)) (is.past s);
    courses = λ s. is.courses s ∙ sym (ap (λ state. course_by (reading_of seen) seen.histories s state seen.change) (same s));
  }

  -- a new sprint, for which there is room
  pub with_new_sprint : (name : List ℕ) (more : ℕ) → IsReserved b (length seen.sprints + 1) → IsWork (work (with_sprint seen name) more b)
  with_new_sprint name more ready = record {
    charts = same_states (state_in seen.sprints) (state_in (seen.sprints ++ future name ∷ [])) (states_of_more seen.sprints name) was.charts;
    reserved = λ s there. reserved s there (cases_eq s (length seen.sprints + 1));
    numbers = was.numbers;
    few = was.few;
    points = was.points;
  }
    where
      one_more : length (seen.sprints ++ future name ∷ []) ≡ length seen.sprints + 1
      one_more = length-append seen.sprints (future name ∷ [])

      reserved : (s : ℕ) → IsThere (seen.sprints ++ future name ∷ []) s → (s ≡ length seen.sprints + 1) ⊎ (s ≢ length seen.sprints + 1) → IsReserved b s
      reserved s there (inl last) = subst (IsReserved b) (sym last) ready
      reserved s there (inr other) = was.reserved s (there.0, omega (arith, there.1, one_more, other))

  -- the next state of a sprint that is there
  module _ (sprints : List Sprint) (s : ℕ) (kept next : SprintState) (is_kept : state_of seen.sprints s ≡ Some kept) (is : IsInState seen.sprints sprints s next) where
    state_was : state_in seen.sprints s ≡ kept
    state_was = ap (λ o. unwrap_or o Future) is_kept

    state_goes : GoesTo (state_in seen.sprints) (state_in sprints) s next
    state_goes = goes_to seen.sprints sprints s next kept is_kept is

    with_states : (new : List TrackedSprint) → ((q : ℕ) → slots_of new q ≡ slots_of b q) →
        IsBurndownOf (reading_of seen) seen.histories (state_in sprints) seen.change new → IsWork (work (record seen { sprints = sprints }) room new)
    with_states new same charts = record {
      charts = charts;
      reserved = λ q there.
          let many : length sprints ≡ length seen.sprints = as_many seen.sprints sprints s next kept is_kept is in
          let old : 0 < slots_of b q = was.reserved q (there.0, omega (arith, there.1, many)) in
          omega (arith, same q, old);
      numbers = was.numbers;
      few = was.few;
      points = was.points;
    }

  module _ (law : StartMayBegin) (sprints : List Sprint) (s at : ℕ) (is_kept : state_of seen.sprints s ≡ Some Future) (is : IsInState seen.sprints sprints s (Active at seen.change)) where
    -- a future sprint may begin
    pub may_begin : MayBegin (reading_of seen) seen.histories (state_in sprints) seen.change b s
    may_begin = law (reading_of seen) seen.histories (state_in seen.sprints) (state_in sprints) seen.change b s was.charts (record {
      moment = at;
      was = state_was sprints s Future (Active at seen.change) is_kept is;
      goes = state_goes sprints s Future (Active at seen.change) is_kept is;
    })

    pub started : (new : List TrackedSprint) → ChangesOnly b new s (begun (course_of b s)) → IsWork (work (record seen { sprints = sprints }) room new)
    started new only = with_states sprints s Future (Active at seen.change) is_kept is new only.room (may_begin.begins new only)

  module _ (law : CloseMayEnd) (sprints : List Sprint) (s start_at start_change at : ℕ) (is_kept : state_of seen.sprints s ≡ Some (Active start_at start_change)) (is : IsInState seen.sprints sprints s (Closed start_at start_change at seen.change)) where
    -- an active one may end
    pub may_end : MayEnd (reading_of seen) seen.histories (state_in sprints) seen.change b s
    may_end = law (reading_of seen) seen.histories (state_in seen.sprints) (state_in sprints) seen.change b s was.charts (record {
      moment = at;
      start_moment = start_at;
      start_change = start_change;
      was = state_was sprints s (Active start_at start_change) (Closed start_at start_change at seen.change) is_kept is;
      goes = state_goes sprints s (Active start_at start_change) (Closed start_at start_change at seen.change) is_kept is;
    })

    pub closed : (new : List TrackedSprint) → ChangesOnly b new s (ended (course_of b s)) → IsWork (work (record seen { sprints = sprints }) room new)
    closed new only = with_states sprints s (Active start_at start_change) (Closed start_at start_change at seen.change) is_kept is new only.room (may_end.ends new only)

-- ---- change groups

-- the numbers of an issue's groups are up to this one
abbrev IsUpTo : ℕ → History → Type 0
IsUpTo n h = (h.change ≤ n) × All (λ e. e.change ≤ n) h.entries

up_to_next : (n : ℕ) (h : History) → IsUpTo n h → IsUpTo (n + 1) h
up_to_next n h is = (omega (arith, is.0), All-weaker (λ (e : Entry). e.change ≤ n) (λ e. e.change ≤ n + 1) (λ e le. omega (arith, le)) h.entries is.1)

module _ (w : TrackedWork) (was : IsWork w) where
  abbrev reading : (FieldNo → Value) → Share
  reading = reading_of w.seen

  abbrev hs : List History
  hs = w.seen.histories

  abbrev now : ℕ
  now = w.seen.change

  numbers_next : All (IsUpTo (now + 1)) hs
  numbers_next = All-weaker (IsUpTo now) (IsUpTo (now + 1)) (up_to_next now) hs was.numbers

  with_next : (new : List TrackedSprint) (more : List History) → ((s : ℕ) → slots_of new s ≡ slots_of w.burndown s) → IsBurndownOf reading more (state_in w.seen.sprints) (now + 1) new →
      HaveNumbersUpTo (now + 1) more → AreFew more → HavePoints reading more → IsWork (work (with_histories w.seen more) w.room new)
  with_next new more same charts numbers few points = record {
    charts = charts;
    reserved = λ s there. let old : 0 < slots_of w.burndown s = was.reserved s there in omega (arith, same s, old);
    numbers = numbers;
    few = few;
    points = points;
  }

  module _ (law : CreationMayBeTold) (h : History) (may : MayCome w h) where
    abbrev creation : Group
    creation = group_of (now + 1) h.at h.no None (share_now w.seen h)

    abbrev with_issue : List History
    with_issue = hs ++ h ∷ []

    may_tell : MayBeTold reading with_issue (state_in w.seen.sprints) (now + 1) w.burndown creation
    may_tell = law reading hs (state_in w.seen.sprints) now w.burndown h was.charts was.numbers may.number may.bare

    few_issues : AreFew with_issue
    few_issues = omega (arith, length-append hs (h ∷ []), may.few)

    points_issues : HavePoints reading with_issue
    points_issues = All-push (AlwaysPoints reading) hs h was.points (bare_points reading h may.bare may.points)

    issue_comes : (new : List TrackedSprint) → TellsGroup w.burndown new creation → IsWork (work (with_histories w.seen with_issue) w.room new)
    issue_comes new tells = with_next new with_issue tells.room (may_tell.told new tells)
        (All-push (IsUpTo (now + 1)) hs h numbers_next (omega (arith, may.number), subst (All (λ e. e.change ≤ now + 1)) (sym may.bare) (All-nil (λ e. e.change ≤ now + 1))))
        few_issues points_issues

    -- a new issue may be told
    pub issue_may : MayTell w creation with_issue
    issue_may = record { room_before = tt; room_after = may.room; fits = may_tell.fits few_issues points_issues; told = issue_comes }

  module _ (law : AdditionMayBeTold) (place : ℕ) (h : History) (before : Share) (at : ℕ) (author : UserNo) (entries : List Entry) (there : slice_get hs place ≡ Some h) (may : MayGet w h before at author entries) where
    abbrev after : History
    after = with_entries h entries

    abbrev addition : Group
    addition = group_of (now + 1) at h.no (Some (share_now w.seen h)) (share_now w.seen after)

    abbrev with_group : List History
    with_group = slice_set hs place after

    may_add : MayBeTold reading with_group (state_in w.seen.sprints) (now + 1) w.burndown addition
    may_add = law reading hs (state_in w.seen.sprints) now w.burndown place h at author entries was.charts was.numbers there may.group

    few_still : AreFew with_group
    few_still = omega (arith, length-set hs place after, was.few)

    -- what holds of each history holds of this one
    of_this : (P : History → Type 0) → All P hs → P h
    of_this P all = subst P (get_or_from_slice_get hs place h h there) (All-get_or P hs place h (slice_get_within hs place h there) all)

    of_next : AreOfGroup (now + 1) entries
    of_next = of_group (present h) 0 (now + 1) at author entries may.group.group

    points_still : HavePoints reading with_group
    points_still =
        let past = of_this (IsUpTo now) was.numbers in
        All-set (AlwaysPoints reading) hs place after (grown_points reading h entries now past.1 of_next (of_this (AlwaysPoints reading) was.points) may.points) was.points

    up_to_group : IsUpTo (now + 1) after
    up_to_group =
        let past = up_to_next now h (of_this (IsUpTo now) was.numbers) in
        (past.0, All-append (λ (e : Entry). e.change ≤ now + 1) h.entries entries past.1 (are_up_to (now + 1) entries of_next))

    group_comes : (new : List TrackedSprint) → TellsGroup w.burndown new addition → IsWork (work (with_histories w.seen with_group) w.room new)
    group_comes new tells = with_next new with_group tells.room (may_add.told new tells)
        (All-set (IsUpTo (now + 1)) hs place after up_to_group numbers_next)
        few_still points_still

    -- a further group of an issue may be told
    pub group_may : MayTell w addition with_group
    group_may = record {
      room_before = subst (λ (share : Share). HasRoomFor w share.sprint) may.before_is may.room_before;
      room_after = may.room_after;
      fits = may_add.fits few_still points_still;
      told = group_comes;
    }

-- what holds for each sprint holds for the one that is named, if one is
pub for_named : (P : ℕ → Type 0) → ((s : ℕ) → P s) → (sprint : Option SprintNo) → IfSome sprint (λ s. P s.0)
for_named P all None = tt
for_named P all (Some s) = all s.0
