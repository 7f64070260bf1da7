-- Things by rising numbers, and what is read of each of them: a plain view of a list is as the list.
use Rattle.std.proofs.Common.{◌≡◌, ℕ, ◌+◌, ◌==◌, Some, Bool, true, false, List, [], ◌∷◌, map, nat_lt, option_map, if◌then◌else◌, refl, ap}
use Rattle.rising_numbers.specs.ByNumber.{RiseFrom, by_number, put_by_number, without_number, free_from}

module _ {X Y : Type 0} (f : X → Y) (number : Y → ℕ) where
  abbrev own : X → ℕ
  own x = number (f x)

  pub by_number-map : (n : ℕ) (xs : List X) → by_number number n (map f xs) ≡ option_map f (by_number (λ x. number (f x)) n xs)
  by_number-map n [] = refl
  by_number-map n (x ∷ xs) = by (own x == n) (by_number-map n xs)
    where
      by : (b : Bool) → by_number number n (map f xs) ≡ option_map f (by_number own n xs) → (if b then Some (f x) else by_number number n (map f xs)) ≡ option_map f (if b then Some x else by_number own n xs)
      by true rest = refl
      by false rest = rest

  pub put_by_number-map : (new : X) (xs : List X) → put_by_number number (f new) (map f xs) ≡ map f (put_by_number (λ x. number (f x)) new xs)
  put_by_number-map new [] = refl
  put_by_number-map new (x ∷ xs) = by (nat_lt (own new) (own x)) (own x == own new) (put_by_number-map new xs)
    where
      by : (a b : Bool) → put_by_number number (f new) (map f xs) ≡ map f (put_by_number own new xs) → (if a then f new ∷ f x ∷ map f xs else if b then f new ∷ map f xs else f x ∷ put_by_number number (f new) (map f xs)) ≡ map f (if a then new ∷ x ∷ xs else if b then new ∷ xs else x ∷ put_by_number own new xs)
      by true b rest = refl
      by false true rest = refl
      by false false rest = ap (λ ys. f x ∷ ys) rest

  pub without_number-map : (n : ℕ) (xs : List X) → without_number number n (map f xs) ≡ map f (without_number (λ x. number (f x)) n xs)
  without_number-map n [] = refl
  without_number-map n (x ∷ xs) = by (own x == n) (without_number-map n xs)
    where
      by : (b : Bool) → without_number number n (map f xs) ≡ map f (without_number own n xs) → (if b then map f xs else f x ∷ without_number number n (map f xs)) ≡ map f (if b then xs else x ∷ without_number own n xs)
      by true rest = refl
      by false rest = ap (λ ys. f x ∷ ys) rest

  pub free_from-map : (least : ℕ) (xs : List X) → free_from number least (map f xs) ≡ free_from (λ x. number (f x)) least xs
  free_from-map least [] = refl
  free_from-map least (x ∷ xs) = by (own x == least) (free_from-map (least + 1) xs)
    where
      by : (b : Bool) → free_from number (least + 1) (map f xs) ≡ free_from own (least + 1) xs → (if b then free_from number (least + 1) (map f xs) else least) ≡ (if b then free_from own (least + 1) xs else least)
      by true rest = rest
      by false rest = refl

  pub rise_map : (least : ℕ) (xs : List X) → RiseFrom (λ x. number (f x)) least xs → RiseFrom number least (map f xs)
  rise_map least [] rise = tt
  rise_map least (x ∷ xs) rise = (rise.0, rise_map (own x + 1) xs rise.1)

  pub rise_from_map : (least : ℕ) (xs : List X) → RiseFrom number least (map f xs) → RiseFrom (λ x. number (f x)) least xs
  rise_from_map least [] rise = tt
  rise_from_map least (x ∷ xs) rise = (rise.0, rise_from_map (own x + 1) xs rise.1)
