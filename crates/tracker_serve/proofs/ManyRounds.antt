-- Rounds, one behind another, and what a server leaves whose calls are theirs.
use Rattle.std.proofs.Common.{◌≡◌, ◌≤◌, ℕ, List, [], ◌∷◌, ◌++◌, Option, refl, sym, subst}
use Rattle.desk_turn.specs.declared.entry.Entry.{Entry}
use Rattle.tracker_core.specs.Desk.{DeskParts, IsOpened}
use Rattle.tracker_core.specs.Left.{LeavesJustIts, LeavesWithOne}
use Rattle.tracker_core.proofs.Left.{leaves_with_one}
use Rattle.tracker_keeper.specs.Rows.{Rows}
use Rattle.tracker_machine.specs.Kept.{rows_of}
use Rattle.tracker_machine.specs.Tracker.{IsTracker}
use Rattle.tracker_server.specs.Events.{Lead}
use Rattle.tracker_server.specs.Served.{makes_event}
use Rattle.tracker_server.specs.declared.event.Event.{Event}
use Rattle.tracker_server.proofs.Serving.{lead_append}
use Rattle.tracker_cli.specs.Answering.{RoseBy}
use Rattle.tracker_cli.specs.Serving.{MakesCall, HasServed, IsWithSomeCall, failures_among}
use Rattle.tracker_cli.proofs.Counted.{rose_later}
use Rattle.tracker_rounds.specs.Trail.{events_in}
use Rattle.tracker_rounds.specs.declared.ask.Ask.{Ask}
use Rattle.tracker_rounds.specs.declared.ask.Told.{Told}
use Rattle.tracker_rounds.specs.declared.round.RoundCause.{RoundCause}
use Rattle.tracker_serve.specs.Due.{due_at}
use Rattle.tracker_serve.specs.Round.{Called, IsRound}
use Rattle.tracker_serve.specs.Serving.{AreFullRounds, AreOfRounds, AreOfWords, HasEndedRounds, HasMadeRounds, IsServe, events_along}
use Rattle.tracker_serve.proofs.Calls.{made_led, stays_led, counted_led}

module _ {P : Type 0} (keeps : P → Rows → Type 0) (tells : P → Type 0) (faults : P → ℕ) (leaves : P → Rows → Rows → Type 0) (workers : ℕ) where
  full_more : (old : DeskParts P) (rounds : List (List (Entry Ask Told))) (middle : DeskParts P) (called : Option Called) (entries : List (Entry Ask Told)) (new : DeskParts P)
      → AreFullRounds keeps tells faults leaves workers old rounds middle → IsRound keeps tells faults leaves workers RoundCause.Full called middle entries new
      → AreFullRounds keeps tells faults leaves workers old (rounds ++ entries ∷ []) new
  full_more old [] middle called entries new same round = (
    new,
    called,
    subst (λ (d : DeskParts P). IsRound keeps tells faults leaves workers RoundCause.Full called d entries new) same round,
    refl,
  )
  full_more old (first ∷ rounds) middle called entries new (next, receipts, one, rest) round =
      (next, receipts, one, full_more next rounds middle called entries new rest round)

  -- no round was made
  pub made_none : (old : DeskParts P) → HasMadeRounds keeps tells faults leaves workers old old
  made_none old = record { rounds = []; full = refl }

  -- one more took as many connections as it may
  pub made_more : (old middle : DeskParts P) (called : Option Called) (entries : List (Entry Ask Told)) (new : DeskParts P) (end : RoundCause)
      → HasMadeRounds keeps tells faults leaves workers old middle → IsRound keeps tells faults leaves workers end called middle entries new → end ≡ RoundCause.Full
      → HasMadeRounds keeps tells faults leaves workers old new
  made_more old middle called entries new end made round is = record {
    rounds = made.rounds ++ entries ∷ [];
    full = full_more old made.rounds middle called entries new made.full (subst (λ e. IsRound keeps tells faults leaves workers e called middle entries new) is round);
  }

  -- one more was the last
  pub made_last : (old middle : DeskParts P) (called : Option Called) (entries : List (Entry Ask Told)) (new : DeskParts P) (end other : RoundCause)
      → HasMadeRounds keeps tells faults leaves workers old middle → IsRound keeps tells faults leaves workers end called middle entries new → end ≡ other
      → HasEndedRounds keeps tells faults leaves workers other old new
  made_last old middle called entries new end other made round is = (
    events_along made.rounds ++ events_in entries,
    record {
      rounds = made.rounds;
      middle = middle;
      full = made.full;
      last = entries;
      called = called;
      ended = subst (λ e. IsRound keeps tells faults leaves workers e called middle entries new) is round;
      events_are = refl;
    },
  )

  round_led : (end : RoundCause) (called : Option Called) (old : DeskParts P) (entries : List (Entry Ask Told)) (new : DeskParts P)
      → IsRound keeps tells faults leaves workers end called old entries new → Lead (makes_event (MakesCall keeps tells faults leaves)) old (events_in entries) new
  round_led end called old entries new round = made_led (MakesCall keeps tells faults leaves) due_at old (events_in entries) new round.led

  -- the calls of all rounds lead from one state to the other
  full_led : (old : DeskParts P) (rounds : List (List (Entry Ask Told))) (new : DeskParts P) → AreFullRounds keeps tells faults leaves workers old rounds new
      → Lead (makes_event (MakesCall keeps tells faults leaves)) old (events_along rounds) new
  full_led old [] new same = same
  full_led old (entries ∷ rounds) new (middle, called, one, rest) =
      lead_append (makes_event (MakesCall keeps tells faults leaves)) old (events_in entries) middle (events_along rounds) new
      (round_led RoundCause.Full called old entries middle one) (full_led middle rounds new rest)

  rounds_led : (end : RoundCause) (old : DeskParts P) (events : List Event) (new : DeskParts P) → AreOfRounds keeps tells faults leaves workers end old events new
      → Lead (makes_event (MakesCall keeps tells faults leaves)) old events new
  rounds_led end old events new are =
      subst (λ l. Lead (makes_event (MakesCall keeps tells faults leaves)) old l new) (sym are.events_are)
      (lead_append (makes_event (MakesCall keeps tells faults leaves)) old (events_along are.rounds) are.middle (events_in are.last) new
      (full_led old are.rounds are.middle are.full) (round_led end are.called are.middle are.last new are.ended))

  -- rounds were made from the state of a desk on, and the keeper was handed back
  pub served_opened : (end other : RoundCause) (setup_text : List ℕ) (old new : P) (desk first last : DeskParts P)
      → ((rows : Rows) → keeps old rows → tells desk.keeper → IsOpened setup_text rows desk.machine)
      → ((rows : Rows) → keeps old rows → tells desk.keeper → keeps desk.keeper (rows_of desk.machine))
      → ((rows : Rows) → keeps old rows → leaves old rows rows → tells desk.keeper → LeavesJustIts leaves desk.keeper desk.machine) → faults old ≤ faults desk.keeper → first ≡ desk
      → HasEndedRounds keeps tells faults leaves workers end first last → end ≡ other → new ≡ last.keeper → IsTracker first.machine → IsTracker last.machine
      → HasServed keeps tells faults leaves (AreOfRounds keeps tells faults leaves workers other) setup_text old new
  served_opened end other setup_text old new desk first last opened kept just later begun (events, are) is handed first_tracker last_tracker =
      let led = rounds_led end first events last are in
      let stays = stays_led keeps tells faults leaves first events last led in
      let back : tells new → tells desk.keeper = λ told. subst (λ (d : DeskParts P). tells d.keeper) begun (stays.told (subst tells handed told)) in
      record {
        first = first;
        last = last;
        events = events;
        start = λ rows has told. subst (λ (d : DeskParts P). IsOpened setup_text rows d.machine) (sym begun) (opened rows has (back told));
        made = led;
        linked = subst (λ e. AreOfRounds keeps tells faults leaves workers e first events last) is are;
        keeper = sym handed;
        counted = subst (λ k. RoseBy (faults old) (faults k) (failures_among events)) (sym handed)
            (rose_later (faults old) (faults first.keeper) (faults last.keeper) (failures_among events)
            (subst (λ (d : DeskParts P). faults old ≤ faults d.keeper) (sym begun) later) (counted_led keeps tells faults leaves first events last led));
        rows = λ rows has told.
            subst (λ k. keeps k (rows_of last.machine)) (sym handed)
            (stays.rows (subst (λ (d : DeskParts P). keeps d.keeper (rows_of d.machine)) (sym begun) (kept rows has (back told))));
        tracker = last_tracker;
        left = λ rows has left told.
            let told_first = back told in
            let kept_first = subst (λ (d : DeskParts P). keeps d.keeper (rows_of d.machine)) (sym begun) (kept rows has told_first) in
            let just_first = subst (λ (d : DeskParts P). LeavesJustIts leaves d.keeper d.machine) (sym begun) (just rows has left told_first) in
            subst (λ k. LeavesWithOne leaves IsWithSomeCall k last.machine) (sym handed)
            (leaves_with_one leaves IsWithSomeCall first.keeper first.machine last.keeper last.machine (stays.left kept_first) first_tracker just_first);
      }

  -- by as many workers as the words ask for
  pub served_worded : (words : List (List ℕ)) (end : RoundCause) (setup_text : List ℕ) (old new : P) → ((port : ℕ) × IsServe words port workers)
      → HasServed keeps tells faults leaves (AreOfRounds keeps tells faults leaves workers end) setup_text old new
      → HasServed keeps tells faults leaves (AreOfWords keeps tells faults leaves words end) setup_text old new
  served_worded words end setup_text old new (port, serve) served = record {
    first = served.first;
    last = served.last;
    events = served.events;
    start = served.start;
    made = served.made;
    linked = (port, workers, serve, served.linked);
    keeper = served.keeper;
    counted = served.counted;
    rows = served.rows;
    tracker = served.tracker;
    left = served.left;
  }
