-- Things that stand in a list by rising numbers.
use Rattle.std.specs.Prelude.{ℕ, ◌≡◌, ◌≢◌, ◌+◌, ◌<◌, ◌≤◌, ◌==◌, nat_lt, List, [], ◌∷◌, Option, Some, None, if◌then◌else◌}

-- the numbers rise, and are not less than this one
abbrev pub RiseFrom : {X : Type 0} → (X → ℕ) → ℕ → List X → Type 0
RiseFrom number least [] = Unit {0}
RiseFrom number least (x ∷ xs) = (least ≤ number x) × RiseFrom number (number x + 1) xs

-- the thing of a number, if there is one
abbrev pub by_number : {X : Type 0} → (X → ℕ) → ℕ → List X → Option X
by_number number n [] = None
by_number number n (x ∷ xs) = if number x == n then Some x else by_number number n xs

-- the things with this one: where there is one of its number it takes that one's place, and else it stands between the smaller and
-- the greater numbers
abbrev pub put_by_number : {X : Type 0} → (X → ℕ) → X → List X → List X
put_by_number number new [] = new ∷ []
put_by_number number new (x ∷ xs) =
    if nat_lt (number new) (number x) then new ∷ x ∷ xs
    else if number x == number new then new ∷ xs
    else x ∷ put_by_number number new xs

-- the things without the one of a number
abbrev pub without_number : {X : Type 0} → (X → ℕ) → ℕ → List X → List X
without_number number n [] = []
without_number number n (x ∷ xs) = if number x == n then xs else x ∷ without_number number n xs

-- the least number from this one on that none of the things has, where their numbers rise from it
abbrev pub free_from : {X : Type 0} → (X → ℕ) → ℕ → List X → ℕ
free_from number least [] = least
free_from number least (x ∷ xs) =
    if number x == least then free_from number (least + 1) xs else least

-- none of the things has this number, and they have all numbers from the least up to it
pub record IsLeastFree {X : Type 0} (number : X → ℕ) (xs : List X) (least n : ℕ) : Type 0 where
  pub from_least : least ≤ n
  pub free : by_number number n xs ≡ None
  pub taken : (k : ℕ) → least ≤ k → k < n → by_number number k xs ≢ None
