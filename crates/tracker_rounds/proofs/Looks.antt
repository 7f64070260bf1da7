-- The last look, which made a call or none.
use Rattle.std.proofs.Common.{◌≡◌, ◌+◌, ℕ, List, [], ◌∷◌, ◌++◌, Option, None, inl, inr, refl, ap, sym, ◌∙◌, append-nil, arith}
use Rattle.std.proofs.lemmas.List.{map-append}
use Rattle.desk_turn.specs.declared.entry.Entry.{Entry}
use Rattle.tracker_rounds.specs.declared.ask.Ask.{Ask}
use Rattle.tracker_rounds.specs.declared.ask.Ask.TheVariants as ask
use Rattle.tracker_rounds.specs.declared.ask.Told.{Told}
use Rattle.tracker_rounds.specs.declared.ask.UserCall.{UserCall}
use Rattle.tracker_rounds.specs.Rounds.{EndsWithLook, IsLastLook}
use Rattle.tracker_rounds.specs.Serving.{IsSettled}
use Rattle.tracker_rounds.specs.Trail.{event_of, events_in, looks_in, others_in}

-- what the last look entered
abbrev pub LooksLast : List (Entry Ask Told) → List (Entry Ask Told) → Type 0
LooksLast old new = (last : List (Entry Ask Told)) × (new ≡ old ++ last) × IsLastLook last

pub look_told : (old new : List (Entry Ask Told)) (told : Told) → new ≡ old ++ record { by = 1; ask = ask.Look; told = told } ∷ [] → LooksLast old new
look_told old new told is = (record { by = 1; ask = ask.Look; told = told } ∷ [], is, inr (told, refl))

pub look_nothing : (old new : List (Entry Ask Told)) → new ≡ old → LooksLast old new
look_nothing old new same = ([], same ∙ sym (append-nil old), inl refl)

-- worker 0 made the last call then
pub ends_told : (old new : List (Entry Ask Told)) (told : Told) → new ≡ old ++ record { by = 1; ask = ask.Look; told = told } ∷ [] → EndsWithLook (events_in new)
ends_told old new told is =
    let e : Entry Ask Told = record { by = 1; ask = ask.Look; told = told } in
    (events_in old, event_of e, ap events_in is ∙ map-append event_of old (e ∷ []), refl)

-- worker 0 may make no call where it is behind by none
pub settled_level : {Maker State : Type 0} (tells : Maker → State → Type 0) (due : State → Option UserCall) (entries : List (Entry Ask Told)) (maker : Maker) (behind : ℕ)
    → behind + looks_in (events_in entries) ≡ others_in (events_in entries) → behind ≡ 0 → IsSettled tells due entries maker
settled_level tells due entries maker behind counted level below state told = absurd (omega (arith, counted, level, below))

-- or where nothing is due
pub settled_none : {Maker State : Type 0} (tells : Maker → State → Type 0) (due : State → Option UserCall) (entries : List (Entry Ask Told)) (maker : Maker)
    → ((state : State) → tells maker state → None ≡ due state) → IsSettled tells due entries maker
settled_none tells due entries maker none below state told = sym (none state told)
