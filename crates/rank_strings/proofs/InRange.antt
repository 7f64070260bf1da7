-- The number that is chosen where six digits alone lie between lies between, too.
use Rattle.std.proofs.Common.{◌≡◌, ℕ, ◌+◌, ◌-◌, ◌/◌, ◌≤◌, List, [], ◌∷◌, length, Option, Some, None, refl, lit≤, arith, if◌then◌else◌}
use Rattle.std.proofs.lemmas.Bool.Decides.{nat_tests}
use Rattle.std.specs.Option.{IfSome}
use Rattle.std.specs.Bool.{nat_le}
use Rattle.rank_strings.specs.Rank.{RankParts, IsRank, AreDigits}
use Rattle.rank_strings.specs.Between.{RanksGiven}
use Rattle.rank_strings.specs.Chosen.{number, greatest_number, least_above, greatest_below, below_rank, spaced_number, IsChosen}
use Rattle.rank_strings.proofs.Numbers.{number-at_most}
use Rattle.rank_strings.proofs.Neighbours.{spaced_between}

least-positive : (low : Option RankParts) → 1 ≤ least_above low
least-positive None = omega arith
least-positive (Some l) = omega arith

greatest-at_most : (high : Option RankParts) → IfSome high IsRank → greatest_below high ≤ greatest_number
greatest-at_most None h = omega arith
greatest-at_most (Some high) h = go high.further
  where
    go : (ds : List ℕ) → below_rank (number high.front) ds ≤ greatest_number
    go [] = omega (arith, number-at_most high.front h.front_digits h.front_length)
    go (d ∷ ds) = number-at_most high.front h.front_digits h.front_length

pub record IsInRange (low high : Option RankParts) (n : ℕ) : Type 0 where
  pub least : least_above low ≤ n
  pub most : n ≤ greatest_below high
  pub positive : 1 ≤ n
  pub fits : n ≤ greatest_number

halfway-least : (l h : ℕ) → l ≤ h → l ≤ (l + h) / 2
halfway-least l h e = omega arith

halfway-most : (l h : ℕ) → l ≤ h → (l + h) / 2 ≤ h
halfway-most l h e = omega arith

spaced-least : (low high : Option RankParts) → least_above low ≤ greatest_below high → least_above low ≤ spaced_number low high
spaced-least None None h = lit≤ tt
spaced-least (Some l) None h = grind (arith, nat_tests)
spaced-least None (Some r) h = grind (arith, nat_tests)
spaced-least (Some l) (Some r) h = halfway-least (least_above (Some l)) (greatest_below (Some r)) h

spaced-most : (low high : Option RankParts) → least_above low ≤ greatest_below high → spaced_number low high ≤ greatest_below high
spaced-most None None h = lit≤ tt
spaced-most (Some l) None h = grind (arith, nat_tests)
spaced-most None (Some r) h = go r.further h
  where
    go : (ds : List ℕ) → 1 ≤ below_rank (number r.front) ds →
        (if nat_le 8193 (number r.front) then number r.front - 8192 else ((1 + below_rank (number r.front) ds) / 2)) ≤ below_rank (number r.front) ds
    go [] some = grind (arith, nat_tests)
    go (d ∷ ds) some = grind (arith, nat_tests)
spaced-most (Some l) (Some r) h = halfway-most (least_above (Some l)) (greatest_below (Some r)) h

pub spaced-in_range : (low high : Option RankParts) (bucket : ℕ) → RanksGiven low high bucket →
    least_above low ≤ greatest_below high → IsInRange low high (spaced_number low high)
spaced-in_range low high bucket given h =
    let least = spaced-least low high h in
    let most = spaced-most low high h in
    let one = least-positive low in
    let top = greatest-at_most high given.high_rank in
    record { least = least; most = most; positive = omega arith; fits = omega arith }

pub chosen_by_number : (low high : Option RankParts) (bucket : ℕ) → RanksGiven low high bucket →
    least_above low ≤ greatest_below high → (front : List ℕ) → AreDigits front → length front ≡ 6 →
    number front ≡ spaced_number low high →
    IsChosen low high bucket (record { bucket = bucket; front = front; further = [] })
chosen_by_number low high bucket given h front digits six is =
    let range = spaced-in_range low high bucket given h in
    let least = range.least in
    let most = range.most in
    let one = range.positive in
    record {
      between = spaced_between low high bucket given front digits six (omega arith) (omega arith) (omega arith);
      spaced = λ _. (refl, is);
      finest = λ none. absurd (omega arith);
    }
