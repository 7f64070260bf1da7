-- What an event may have changed of the lists of subscriptions.
use Rattle.std.specs.Prelude.{ℕ, ◌≡◌, Bool, false, List}
use Rattle.std.specs.List.{All}
use Rattle.list_changes.specs.declared.changed.Changed.{Changed}
use Rattle.list_changes.specs.Differ.{MayBecome}
use Rattle.move_feeds.specs.Feed.{Feed}

-- behind an event that may have changed this, the filter of the subscription lists these
abbrev pub MayList : Changed → Feed → List Bool → Type 0
MayList changed f now = MayBecome changed f.filter.0 f.listed now

-- the same of each one that hasn't lapsed
abbrev pub MayAllList : Changed → (ℕ → ℕ → List Bool) → List Feed → Type 0
MayAllList changed lists fs =
    All (λ f. f.lapsed ≡ false → MayList changed f (lists f.user.0 f.filter.0)) fs
