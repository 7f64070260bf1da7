-- Changes in blocks.
use Rattle.std.specs.Prelude.{ℕ, Bool, false, List, [], ◌∷◌, ◌++◌, length, nat_le}
use Rattle.move_feeds.specs.declared.moves.Change.{Change}

-- changes, and for how many more there is room
pub record Queued : Type 0 where
  pub items : List Change
  pub room : ℕ

-- block after block
abbrev pub items_of : List Queued → List Change
items_of [] = []
items_of (b ∷ bs) = b.items ++ items_of bs

-- the room of the last block
abbrev pub room_of : List Queued → ℕ
room_of [] = 0
room_of (b ∷ []) = b.room
room_of (b ∷ c ∷ bs) = room_of (c ∷ bs)

-- the first block has at most so many changes
abbrev pub goes_whole : List Queued → ℕ → Bool
goes_whole [] most = false
goes_whole (b ∷ bs) most = nat_le (length b.items) most

-- how many changes the first block has
abbrev pub first_len : List Queued → ℕ
first_len [] = 0
first_len (b ∷ bs) = length b.items
