-- The rule of a turn: what holds of the words, the slot and all views between any two steps.
use Rattle.std.specs.Prelude.{◌<◌, ◌≤◌, ◌≡◌, ◌≢◌, ◌+◌, ℕ, Bool, true, false, List, [], ◌∷◌, length, All, AllPairs, Option, Some, None}
use mathlib.Core.Option as rules
use lib.ListN.{get_elem?}
use Rattle.atomic_table.specs.Table.{State}
use Rattle.desk_turn.specs.declared.entry.Entry.{Entry}
use Rattle.desk_turn.specs.declared.view.View.{View}
use Rattle.desk_turn.specs.History.{total, StartsWith, calls_by}
use Rattle.desk_turn.specs.Views.{all_parts}

abbrev pub one_if : Bool → ℕ
one_if true = 1
one_if false = 0

-- What the rule says there is: the history, the tickets drawn, whose turn it is, whether the value is out, which seat drew each ticket, and which seat makes the calls of each number
pub record Account (A T : Type 0) : Type 0 where
  pub log : List (Entry A T)
  pub drawn : ℕ
  pub turn : ℕ
  pub out : Bool
  pub drawer : ℕ → ℕ
  pub seat : ℕ → Option ℕ

module _ {A T : Type 0} where
  -- the ticket is the seat's own and its turn has not passed. Where it is its turn and the seat has not looked, the value is at home
  pub record Waits (p : Account A T) (id ticket : ℕ) (holds : Bool) : Type 0 where
    pub drawer : p.drawer ticket ≡ id
    pub from : p.turn ≤ ticket
    pub below : ticket < p.drawn
    pub home : ticket ≡ p.turn → holds ≡ false → p.out ≡ false

  -- nobody makes calls of this number any more, and these are they
  pub record IsOver (p : Account A T) (made : ℕ) (by : ℕ) (calls : List (Entry A T)) : Type 0 where
    pub above : 0 < by
    pub known : by ≤ made
    pub seat : p.seat by ≡ None
    pub own : calls_by by p.log ≡ calls

  -- Word 0 is the calls that went over to the last pass that was split off, word 1 the tickets drawn, word 2 whose turn it is, word 3 the history's length
  abbrev pub words_of : ℕ → Account A T → List ℕ
  words_of given p = given ∷ p.drawn ∷ p.turn ∷ length p.log ∷ []

module _ {A T O : Type 0} where
  -- how many entries of the history a view answers for
  abbrev pub weigh : View A T O → ℕ
  weigh v = length v.mine + total (λ j. length j.1) v.joined

  -- a view that makes calls: its number is its own, and the history has of that number its calls and no others
  pub record Lives (o : O) (p : Account A T) (id : ℕ) (v : View A T O) : Type 0 where
    pub origin : v.origin ≡ Some o
    pub seat : p.seat v.caller ≡ Some id
    pub own : calls_by v.caller p.log ≡ v.mine

  -- a view that is spent
  pub record IsIdle (v : View A T O) : Type 0 where
    pub left : v.left ≡ 0
    pub fresh : v.fresh ≡ 0
    pub weight : weigh v ≡ 0
    pub holds : v.holds ≡ false

  pub record HoldsTurn (p : Account A T) (v : View A T O) : Type 0 where
    pub ticket : v.ticket ≡ Some p.turn
    pub out : p.out ≡ true
    pub held : v.held ≡ p.log

  -- the first pass's view: later numbers have no seat and no calls, and it keeps a list for each number that is over
  pub record KeepsLists (p : Account A T) (v : View A T O) : Type 0 where
    pub later : (by : ℕ) → v.made < by → (p.seat by ≡ None) × (calls_by by p.log ≡ [])
    pub lists : All (λ j. IsOver p v.made j.0 j.1) v.joined
    pub apart : AllPairs (λ j k. j.0 ≢ k.0) v.joined

  pub record Fits (o : O) (p : Account A T) (id : ℕ) (v : View A T O) : Type 0 where
    pub seen : StartsWith p.log v.seen
    pub heard : StartsWith p.log v.heard
    pub lives : 0 < v.parts → Lives o p id v
    pub idle : v.parts ≡ 0 → IsIdle v
    pub waits : (t : ℕ) → v.ticket ≡ Some t → Waits p id t v.holds
    pub holds : v.holds ≡ true → HoldsTurn p v
    pub first : 0 < v.parts → v.caller ≡ 0 → KeepsLists p v

  -- what is counted over all views
  pub record Counts (most : ℕ) (p : Account A T) (views : List (View A T O)) : Type 0 where
    pub parts : total (λ v. v.parts) views ≡ all_parts
    pub entries : total weigh views ≡ length p.log
    pub busy : total (λ v. one_if v.holds) views ≡ one_if p.out
    pub left : p.drawn + total (λ v. v.left) views ≤ most
    pub fresh : length p.log + total (λ v. v.fresh) views ≤ p.drawn

module _ {A T O V : Type 0} (history : V → List (Entry A T)) (origin : V → O) where
  -- the value is in its slot, and has this history and origin
  pub record AtHome (o : O) (log : List (Entry A T))
      (homes : List (rules.Option (Option V))) : Type 0 where
    pub value : V
    pub home : homes ≡ rules.some (Some value) ∷ []
    pub whole : history value ≡ log
    pub source : origin value ≡ o

  -- the slot is out, or at home with a value that has the history
  abbrev pub Shelf : O → List (Entry A T) → Bool → List (rules.Option (Option V)) → Type 0
  Shelf o log true homes = homes ≡ rules.none ∷ []
  Shelf o log false homes = AtHome o log homes

  -- The whole rule. No word comes near its last value, since the tickets drawn and the calls left are at most the calls that were allowed
  pub record Standing (most : ℕ) (o : O) (s : State (Option V) (View A T O)) (given : ℕ)
      (p : Account A T) : Type 0 where
    pub words : s.words ≡ words_of given p
    pub reached : p.turn ≤ p.drawn
    pub next : p.out ≡ true → p.turn < p.drawn
    pub shelf : Shelf o p.log p.out s.homes
    pub fits : (id : ℕ) (v : View A T O) → get_elem? s.views id ≡ rules.some v → Fits o p id v
    pub counts : Counts most p s.views
    pub small : most < 4294967296

  abbrev pub Keeps : ℕ → O → State (Option V) (View A T O) → Type 0
  Keeps most o s = (given : ℕ) × (p : Account A T) × Standing most o s given p
