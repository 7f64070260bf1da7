-- The one history that all callers of a turn share.
use Rattle.std.specs.Prelude.{◌<◌, ◌≡◌, ◌≢◌, ◌==◌, ◌+◌, ℕ, List, [], ◌∷◌, ◌++◌, length, filter, All, AllPairs}
use Rattle.desk_turn.specs.declared.entry.Entry.{Entry}

-- f of each, added up
abbrev pub total : {X : Type 0} → (X → ℕ) → List X → ℕ
total f [] = 0
total f (x ∷ xs) = f x + total f xs

module _ {A T : Type 0} where
  -- the history begins with what was seen
  abbrev pub StartsWith : List (Entry A T) → List (Entry A T) → Type 0
  StartsWith history seen = (more : List (Entry A T)) × (history ≡ seen ++ more)

  -- the calls of this caller, in order
  abbrev pub calls_by : ℕ → List (Entry A T) → List (Entry A T)
  calls_by by history = filter (λ e. e.by == by) history

  -- A call was entered. What is seen now begins with what had been seen and ends with the call.
  -- Of the caller's calls it has just the own ones, each once, and this one is the last of them
  pub record IsEntered (call : Entry A T)
      (seen own seen_now own_now : List (Entry A T)) : Type 0 where
    pub between : List (Entry A T)
    pub ends : seen_now ≡ (seen ++ between) ++ call ∷ []
    pub grows : own_now ≡ own ++ call ∷ []
    pub only : calls_by call.by seen_now ≡ own_now

  -- The history begins with what was seen. It is, caller by caller, just the first pass's own calls
  -- and the lists of the joined passes, each under a number of its own
  pub record IsAccountedFor (history seen own : List (Entry A T))
      (lists : List (ℕ × List (Entry A T))) : Type 0 where
    pub begins : StartsWith history seen
    pub first : calls_by 0 history ≡ own
    pub joined : All (λ j. (0 < j.0) × (calls_by j.0 history ≡ j.1)) lists
    pub apart : AllPairs (λ j k. j.0 ≢ k.0) lists
    pub count : length history ≡ length own + total (λ j. length j.1) lists
    pub strangers : (by : ℕ) → 0 < by → All (λ j. by ≢ j.0) lists → calls_by by history ≡ []
