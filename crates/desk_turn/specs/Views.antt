-- What the steps of a turn make of a seat's view.
use Rattle.std.specs.Prelude.{ℕ, ◌+◌, ◌-◌, true, false, List, [], ◌∷◌, ◌++◌, Some, None}
use Rattle.desk_turn.specs.declared.entry.Entry.{Entry}
use Rattle.desk_turn.specs.declared.view.View.{View}

-- the parts of all views together
abbrev pub all_parts : ℕ
all_parts = 4294967296

module _ {A T O : Type 0} where
  -- the first pass at the start: it has all parts and all calls
  abbrev pub opening_view : ℕ → O → View A T O
  opening_view most o = record {
    caller = 0;
    origin = Some o;
    parts = all_parts;
    left = most;
    made = 0;
    named = 0;
    seen = [];
    heard = [];
    mine = [];
    joined = [];
    noted = [];
    ticket = None;
    fresh = 0;
    holds = false;
    held = [];
  }

  -- a view that is spent
  abbrev pub spent_view : View A T O
  spent_view = record {
    caller = 0;
    origin = None;
    parts = 0;
    left = 0;
    made = 0;
    named = 0;
    seen = [];
    heard = [];
    mine = [];
    joined = [];
    noted = [];
    ticket = None;
    fresh = 0;
    holds = false;
    held = [];
  }

  -- a receipt of the view's own calls
  abbrev pub receipt_view : View A T O → View A T O
  receipt_view v = record spent_view { noted = v.mine }

  -- one part, and the calls that were named, have gone over to a new view
  abbrev pub splitter : View A T O → View A T O
  splitter v = record v {
    parts = v.parts - 1;
    left = v.left - v.named;
    made = v.made
        + 1;
    named = 0;
  }

  -- the new view has the next number, and has seen as much
  abbrev pub newcomer : View A T O → View A T O
  newcomer v = record {
    caller = v.made
        + 1;
    origin = v.origin;
    parts = 1;
    left = v.named;
    made = 0;
    named = 0;
    seen = v.seen;
    heard = [];
    mine = [];
    joined = [];
    noted = [];
    ticket = None;
    fresh = 0;
    holds = false;
    held = [];
  }

  -- the view keeps the other's calls under its number, and has heard what it had seen
  abbrev pub joiner : View A T O → View A T O → View A T O
  joiner v w = record v {
    parts = v.parts + w.parts;
    heard = w.seen;
    joined = v.joined
        ++ (w.caller, w.mine) ∷ [];
  }

  -- a ticket was drawn, which uses up one call
  abbrev pub ticketed : View A T O → ℕ → View A T O
  ticketed v n = record v { left = v.left - 1; ticket = Some n; fresh = 1 }

  -- it is its turn, and it has the value with this history
  abbrev pub holding : View A T O → List (Entry A T) → View A T O
  holding v history = record v { holds = true; held = history }

  -- its call was entered, which made this history
  abbrev pub entering : View A T O → List (Entry A T) → Entry A T → View A T O
  entering v history e = record v
      { seen = history; held = history; mine = v.mine ++ e ∷ []; fresh = 0 }

  -- the turn has passed on
  abbrev pub leaving : View A T O → View A T O
  leaving v = record v { ticket = None; fresh = 0; holds = false; held = [] }

  -- a call was made that entered nothing
  abbrev pub passed : View A T O → View A T O
  passed v = record v { left = v.left - 1; ticket = None; fresh = 0; holds = false; held = [] }
