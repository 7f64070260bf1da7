-- What each step of a turn tells the seat that makes it.
use Rattle.std.specs.Prelude.{◌<◌, ◌≤◌, ◌≡◌, ◌≢◌, ℕ, true, List, [], ◌∷◌, ◌++◌, Option, Some}
use Rattle.atomic_table.specs.Table.{Step, Me, rest}
use Rattle.desk_turn.specs.declared.entry.Entry.{Entry}
use Rattle.desk_turn.specs.declared.view.View.{View}
use Rattle.desk_turn.specs.History.{StartsWith, calls_by}
use Rattle.desk_turn.specs.Views.{all_parts, ticketed, holding, entering, leaving, passed}

module _ {A T O : Type 0} where
  -- a call was entered: the history begins with what had been seen, ends with it, and has of the seat's number just its own calls
  pub record Told (v : View A T O) (e : Entry A T) (w : View A T O) : Type 0 where
    pub between : List (Entry A T)
    pub after : w
        ≡ record (passed v) { seen = (v.seen ++ between) ++ e ∷ []; mine = v.mine ++ e ∷ [] }
    pub own : calls_by v.caller ((v.seen ++ between) ++ e ∷ []) ≡ v.mine ++ e ∷ []

module _ {A T O S : Type 0} where
  -- the calls that are to go over to a new pass are named
  abbrev pub Names : Step S → Me S (View A T O) → ℕ → Me S (View A T O) → Type 0
  Names st m n w = w ≡ (record m.0 { named = n }, m.1)

  -- the number found is the ticket
  abbrev pub Draws : Step S → Me S (View A T O) → ℕ → Me S (View A T O) → Type 0
  Draws st m n w = w ≡ (ticketed m.0 n, m.1)

  -- the history so far is seen. It begins with what had been seen and heard
  pub record IsSettled (m w : Me S (View A T O)) : Type 0 where
    pub history : List (Entry A T)
    pub after : w ≡ (record m.0 { seen = history; heard = [] }, m.1)
    pub seen : StartsWith history m.0.seen
    pub heard : StartsWith history m.0.heard
    pub parts : m.0.parts ≤ all_parts

  abbrev pub Settles : Step S → Me S (View A T O) → ℕ → Me S (View A T O) → Type 0
  Settles st m n w = IsSettled m w

  -- the turn passes on, and the slot with it
  abbrev pub Leaves : Step S → Me S (View A T O) → ℕ → Me S (View A T O) → Type 0
  Leaves st m n w = w ≡ (leaving m.0, rest m.1)

module _ {A T O V : Type 0} (history : V → List (Entry A T)) (origin : V → O) where
  -- the value was at home and is the seat's now. Its history begins with what the seat has seen, and has of its number just its own calls
  pub record Takes (m w : Me (Option V) (View A T O)) : Type 0 where
    pub value : V
    pub after : w ≡ (holding m.0 (history value), (0, Some value) ∷ m.1)
    pub seen : StartsWith (history value) m.0.seen
    pub own : calls_by m.0.caller (history value) ≡ m.0.mine
    pub source : m.0.origin ≡ Some (origin value)

  -- where it is the seat's turn it takes the value, and else nothing happens
  pub record Looks (st : Step (Option V)) (m : Me (Option V) (View A T O)) (n : ℕ)
      (w : Me (Option V) (View A T O)) : Type 0 where
    pub turn : m.0.ticket ≡ Some n → Takes m w
    pub wait : m.0.ticket ≢ Some n → w ≡ m
    pub below : n < 4294967296

  -- the value that the seat holds has been through a call, which is entered
  pub record EntersBy (m w : Me (Option V) (View A T O)) : Type 0 where
    pub value : V
    pub entry : Entry A T
    pub more : List (ℕ × Option V)
    pub held : m.1 ≡ (0, Some value) ∷ more
    pub longer : history value ≡ m.0.held ++ entry ∷ []
    pub after : w ≡ (entering m.0 (history value) entry, m.1)

  abbrev pub Enters : Step (Option V) → Me (Option V) (View A T O) → ℕ → Me (Option V) (View A T O)
      → Type 0
  Enters st m n w = EntersBy m w

  -- the seat has the turn and holds the value, which is of the turn's origin
  pub record Holds (me : Me (Option V) (View A T O)) (value : V) : Type 0 where
    pub held : me.1 ≡ (0, Some value) ∷ []
    pub live : 0 < me.0.parts
    pub turn : me.0.holds ≡ true
    pub source : me.0.origin ≡ Some (origin value)
