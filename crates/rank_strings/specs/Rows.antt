-- Worked values, computed from the definitions.
use Rattle.std.specs.Prelude.{ℕ, ◌≡◌, List, [], ◌∷◌, ◌++◌, replicate, codes, Some, None, refl}
use Rattle.rank_strings.specs.Rank.{RankParts}
use Rattle.rank_strings.specs.Text.{rank_text}
use Rattle.rank_strings.specs.Chosen.{number, greatest_number, least_above, greatest_below, spaced_number}
use Rattle.rank_strings.specs.Choice.{further_between, chosen_between}

-- a rank of six digits alone in bucket 0
abbrev alone : ℕ → ℕ → ℕ → ℕ → ℕ → ℕ → RankParts
alone a b c d e f = record { bucket = 0; front = a ∷ b ∷ c ∷ d ∷ e ∷ f ∷ []; further = [] }

-- `i00000`, with further digits
abbrev with_further : List ℕ → RankParts
with_further ds = record { bucket = 0; front = 18 ∷ 0 ∷ 0 ∷ 0 ∷ 0 ∷ 0 ∷ []; further = ds }

pub zzzzzz_is_greatest : number (35 ∷ 35 ∷ 35 ∷ 35 ∷ 35 ∷ 35 ∷ []) ≡ greatest_number
zzzzzz_is_greatest = refl

-- `0|i00000:0i`
pub text_of_eleven_bytes : rank_text (with_further (0 ∷ 18 ∷ [])) ≡ codes "0|i00000:0i"
text_of_eleven_bytes = refl

-- nothing and nothing: `i00000`
pub first_rank : spaced_number None None ≡ number (18 ∷ 0 ∷ 0 ∷ 0 ∷ 0 ∷ 0 ∷ [])
first_rank = refl

-- behind `i00000`: `i006bk`
pub behind_first : spaced_number (Some (alone 18 0 0 0 0 0)) None
    ≡ number (18 ∷ 0 ∷ 0 ∷ 6 ∷ 11 ∷ 20 ∷ [])
behind_first = refl

-- before `i00000`: `hzztog`
pub before_first : spaced_number None (Some (alone 18 0 0 0 0 0))
    ≡ number (17 ∷ 35 ∷ 35 ∷ 29 ∷ 24 ∷ 16 ∷ [])
before_first = refl

-- between `i00000` and `i006bk`: `i0035s`
pub between_two : spaced_number (Some (alone 18 0 0 0 0 0)) (Some (alone 18 0 0 6 11 20))
    ≡ number (18 ∷ 0 ∷ 0 ∷ 3 ∷ 5 ∷ 28 ∷ [])
between_two = refl

-- before `000003`: `000001`
pub before_the_third : spaced_number None (Some (alone 0 0 0 0 0 3))
    ≡ number (0 ∷ 0 ∷ 0 ∷ 0 ∷ 0 ∷ 1 ∷ [])
before_the_third = refl

-- behind `zzzzz0`: `zzzzzi`
pub behind_near_the_end : spaced_number (Some (alone 35 35 35 35 35 0)) None
    ≡ number (35 ∷ 35 ∷ 35 ∷ 35 ∷ 35 ∷ 18 ∷ [])
behind_near_the_end = refl

-- between `i00000` and `i00001` six digits alone don't serve, nor between `i00000` and `i00000:1`
pub none_between : least_above (Some (alone 18 0 0 0 0 0)) ≡ 1088391169
none_between = refl

pub none_below_the_next : greatest_below (Some (alone 18 0 0 0 0 1)) ≡ 1088391168
none_below_the_next = refl

pub none_below_further : greatest_below (Some (with_further (1 ∷ []))) ≡ 1088391168
none_below_further = refl

-- the rank that is chosen, by its digits: in an empty bucket, behind `i00000`, before it, and between `i00000` and `i006bk`
pub chosen_first : chosen_between None None 0 ≡ Some (alone 18 0 0 0 0 0)
unfolding chosen_between
chosen_first = refl

pub chosen_behind : chosen_between (Some (alone 18 0 0 0 0 0)) None 0 ≡ Some (alone 18 0 0 6 11 20)
unfolding chosen_between
chosen_behind = refl

pub chosen_before : chosen_between None (Some (alone 18 0 0 0 0 0)) 0
    ≡ Some (alone 17 35 35 29 24 16)
unfolding chosen_between
chosen_before = refl

pub chosen_halfway : chosen_between (Some (alone 18 0 0 0 0 0)) (Some (alone 18 0 0 6 11 20)) 0
    ≡ Some (alone 18 0 0 3 5 28)
unfolding chosen_between
chosen_halfway = refl

-- between `i00000` and `i00001`: `i00000:i`
pub chosen_with_a_digit : chosen_between (Some (alone 18 0 0 0 0 0)) (Some (alone 18 0 0 0 0 1)) 0
    ≡ Some (with_further (18 ∷ []))
unfolding chosen_between further_between
chosen_with_a_digit = refl

-- between `i00000` and `i00000:1`: `i00000:0i`
pub chosen_one_deeper : chosen_between (Some (alone 18 0 0 0 0 0)) (Some (with_further (1 ∷ []))) 0
    ≡ Some (with_further (0 ∷ 18 ∷ []))
unfolding chosen_between further_between
chosen_one_deeper = refl

-- behind `zzzzzz:z`: `zzzzzz:zi`
pub chosen_behind_the_last :
    chosen_between (Some (record { bucket = 0; front = replicate 6 35; further = 35 ∷ [] })) None 0
    ≡ Some (record { bucket = 0; front = replicate 6 35; further = 35 ∷ 18 ∷ [] })
unfolding chosen_between further_between
chosen_behind_the_last = refl

-- between `i00000` and the least rank above it none is left
pub none_is_left : chosen_between (Some (alone 18 0 0 0 0 0))
    (Some (with_further (replicate 244 0 ++ 1 ∷ []))) 0 ≡ None
unfolding chosen_between further_between
none_is_left = refl
