-- One call more of a round.
use Rattle.std.proofs.Common.{◌≡◌, ◌<◌, ◌+◌, ◌-◌, ℕ, zero, suc, List, [], ◌∷◌, ◌++◌, map, Option, Some, refl, ap, ◌∙◌, arith}
use Rattle.std.proofs.lemmas.List.{map-append}
use Rattle.desk_turn.specs.declared.entry.Entry.{Entry}
use Rattle.tracker_calls.specs.declared.call.Call.{Call}
use Rattle.tracker_calls.specs.declared.reply.Reply.{Reply}
use Rattle.tracker_server.specs.Events.{event}
use Rattle.tracker_server.specs.declared.event.Event.{Event}
use Rattle.tracker_server.proofs.Serving.{lead_append}
use Rattle.tracker_rounds.specs.declared.ask.Ask.{Ask}
use Rattle.tracker_rounds.specs.declared.ask.Entered.{Entered}
use Rattle.tracker_rounds.specs.declared.ask.Told.{Told}
use Rattle.tracker_rounds.specs.declared.ask.UserCall.{UserCall}
use Rattle.tracker_rounds.specs.Trail.{entry_of, event_of, events_in, look_by, looks_in, other_by, others_in, made_of}
use Rattle.tracker_rounds.specs.Serving.{MakesDue, IsServed}
use Rattle.tracker_rounds.proofs.Trails.{looks_more, others_more, never_ahead_more, never_ahead_none}

-- what holds of the calls so far, and by how many worker 0 is behind
abbrev pub Stands : {Maker State : Type 0} → (Maker → State → Type 0) → (State → List ℕ → Call → Reply → State → Type 0) → (State → Option UserCall) → Maker → List Event → Maker → ℕ → Type 0
Stands tells makes due old events new behind = IsServed tells makes due old events new × (behind + looks_in events ≡ others_in events)

counts : (worker : ℕ) (events : List Event) (e : Event) (behind next : ℕ) → e.worker ≡ worker → behind + looks_in events ≡ others_in events
    → (worker ≡ 0 → next + 1 ≡ behind) → (0 < worker → next ≡ behind + 1) → next + looks_in (events ++ e ∷ []) ≡ others_in (events ++ e ∷ [])
counts zero events e behind next is was less more =
    let looks = looks_more events e in
    let others = others_more events e in
    let one : looks_in (e ∷ []) ≡ 1 = ap (λ (w : ℕ). look_by w + 0) is in
    let none : others_in (e ∷ []) ≡ 0 = ap (λ (w : ℕ). other_by w + 0) is in
    omega (arith, looks, others, one, none, was, less refl)
counts (suc n) events e behind next is was less more =
    let looks = looks_more events e in
    let others = others_more events e in
    let none : looks_in (e ∷ []) ≡ 0 = ap (λ (w : ℕ). look_by w + 0) is in
    let one : others_in (e ∷ []) ≡ 1 = ap (λ (w : ℕ). other_by w + 0) is in
    omega (arith, looks, others, one, none, was, more (omega arith))

pub stands_more : {Maker State : Type 0} (tells : Maker → State → Type 0) (makes : State → List ℕ → Call → Reply → State → Type 0) (due : State → Option UserCall)
    (old middle new : Maker) (events : List Event) (worker : ℕ) (asked : UserCall) (reply : Reply) (behind next : ℕ)
    → Stands tells makes due old events middle behind
    → ((state : State) → tells middle state → (next : State) × tells new next × makes state asked.user asked.call reply next)
    → (worker ≡ 0 → (state : State) → tells middle state → due state ≡ Some asked)
    → (worker ≡ 0 → next + 1 ≡ behind) → (0 < worker → next ≡ behind + 1)
    → Stands tells makes due old (events ++ event worker asked.user asked.call reply ∷ []) new next
stands_more {State = State} tells makes due old middle new events worker asked reply behind next stood made may less more =
    let e : Event = event worker asked.user asked.call reply in
    let counted = counts worker events e behind next refl stood.1 less more in (
      record {
        leads = λ state told.
            let so_far = stood.0.leads state told in
            let one = made so_far.0 so_far.1 in (
              one.0,
              one.1,
              lead_append (MakesDue makes due) state events so_far.0 (e ∷ []) one.0 so_far.2
                  (one.0, record { makes_it = one.2; was_due = λ low. may low so_far.0 so_far.1 }, refl),
            );
        behind = never_ahead_more events e stood.0.behind (omega (arith, counted));
      },
      counted,
    )

-- the calls with one more
pub entries_more : (items : List Entered) (x : Entered) (e : Entry Ask Told) → entry_of x ≡ e → map entry_of (items ++ x ∷ []) ≡ map entry_of items ++ e ∷ []
entries_more items x e is = map-append entry_of items (x ∷ []) ∙ ap (λ (y : Entry Ask Told). map entry_of items ++ y ∷ []) is

-- as events
pub events_more : (items : List Entered) (x : Entered) (by : ℕ) (ask : Ask) (told : Told) (asked : UserCall) → entry_of x ≡ record { by = by; ask = ask; told = told }
    → made_of ask told ≡ asked → events_in (map entry_of (items ++ x ∷ [])) ≡ events_in (map entry_of items) ++ event (by - 1) asked.user asked.call told.reply ∷ []
events_more items x by ask told asked is made =
    let e : Entry Ask Told = record { by = by; ask = ask; told = told } in
    ap events_in (entries_more items x e is)
    ∙ (map-append event_of (map entry_of items) (e ∷ []) ∙ ap (λ (a : UserCall). events_in (map entry_of items) ++ event (by - 1) a.user a.call told.reply ∷ []) made)

-- before the first call
pub stands_none : {Maker State : Type 0} (tells : Maker → State → Type 0) (makes : State → List ℕ → Call → Reply → State → Type 0) (due : State → Option UserCall) (maker : Maker)
    → Stands tells makes due maker [] maker 0
stands_none tells makes due maker = (record { leads = λ state told. (state, told, refl); behind = never_ahead_none }, refl)
