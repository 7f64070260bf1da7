use Rattle.std.proofs.Common.{◌≡◌, ◌∙◌, length, rules}
use Rattle.rank_strings.proofs.InRange.{spaced-in_range, chosen_by_number}
use Rattle.rank_strings.proofs.choice.spaced.Goals as goal

pub digits_of-front-requires : goal.digits_of-front-requires
digits_of-front-requires c =
    rw c.spaced_number.ensures (spaced-in_range _ _ c.args.bucket c.requires.ranks c.requires.some).fits

pub returns : goal.returns
returns c =
    let six : length c.digits_of-front.result ≡ 6 = search rules in
    rw c.of_six_digits.ensures
    (chosen_by_number _ _ c.args.bucket c.requires.ranks c.requires.some c.digits_of-front.result
    c.digits_of-front.ensures.digits six (c.digits_of-front.ensures.value ∙ c.spaced_number.ensures))
