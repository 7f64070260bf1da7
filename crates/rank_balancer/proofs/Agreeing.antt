-- New and moved issues keep the balance.
use Rattle.std.proofs.Common.{◌≡◌, ◌<◌, List, ◌⊎◌, Result, Ok, Err, IfOk, inr, refl, arith}
use Rattle.std.specs.Prelude.{MatchResult}
use Rattle.std.proofs.lemmas.Bool.Decides.{nat_tests}
use Rattle.rank_strings.specs.Rank.{RankParts, IsRank}
use Rattle.rank_strings.specs.declared.fault.RankFault.TheVariants.{Exhausted}
use Rattle.board.specs.Order.{Pair}
use Rattle.board.specs.Place.{IsRankFor, ExplainsNoRank}
use Rattle.board.specs.Moved.{Sides, rank_given, with_rank}
use Rattle.board.proofs.Computed.{buckets_kept, rank_is_computed}
use Rattle.rank_balancer.specs.declared.balance.Balance.{Balance}
use Rattle.rank_balancer.specs.declared.balance.Balance.TheVariants.{Idle, Moving}
use Rattle.rank_balancer.specs.Balance.{Agrees, to_of}
use Rattle.rank_balancer.specs.Laws.{PlacesKeepTheBalance, MovesKeepTheBalance}

pub empty_in_circle : (b : Balance) (ps : List Pair) → Agrees ps b → to_of b < 3
empty_in_circle (Idle bucket) ps agrees = agrees.0
empty_in_circle (Moving from to) ps agrees = let lt = agrees.0 in let is = agrees.1 in grind (arith, nat_tests)

pub places_keep_the_balance : PlacesKeepTheBalance
places_keep_the_balance ps (Idle bucket) issue asked place rank agrees named is =
    (agrees.0, buckets_kept (λ b. b ≡ bucket) ps issue asked place bucket rank named is refl agrees.1)
places_keep_the_balance ps (Moving from to) issue asked place rank agrees named is =
    (agrees.0, agrees.1, buckets_kept (λ b. (b ≡ from) ⊎ (b ≡ to)) ps issue asked place to rank named is (inr refl) agrees.2)

pub moves_keep_the_balance : MovesKeepTheBalance
moves_keep_the_balance ps b issue asked place order agrees named =
    by (rank_given ps asked place (to_of b)) (rank_is_computed ps asked place (to_of b) order named (empty_in_circle b ps agrees))
  where
    by : (given : Result RankParts Sides) →
        MatchResult given (λ rank. IsRank rank × IsRankFor ps asked place (to_of b) rank) (λ sides. ExplainsNoRank ps asked place (to_of b) (Exhausted sides.0 sides.1)) →
        IfOk (with_rank ps issue given) (λ qs. Agrees qs b)
    by (Err sides) h = tt
    by (Ok rank) h = places_keep_the_balance ps b issue asked place rank agrees named h.1
