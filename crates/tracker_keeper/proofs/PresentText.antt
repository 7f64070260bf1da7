-- The text of where the tracker stands, in pieces.
use Rattle.std.proofs.Common.{◌≡◌, ℕ, List, ◌++◌, codes, decimal, refl, sym, ap, ◌∙◌, append_assoc}
use Rattle.serde_json.proofs.OnLiterals.{serde_json_on_literals}
use Rattle.serde_json.specs.Written.{compact_text}
use Rattle.rank_balancer.specs.declared.balance.Balance.{Balance}
use Rattle.tracker_keeper.specs.declared.part.Format.{Format}
use Rattle.tracker_keeper.specs.Bodies.{balance_data, present_data}
use Rattle.tracker_keeper.specs.Parts.{format_number}

-- what stands behind the balance
abbrev pub rest_text : ℕ → ℕ → ℕ → List ℕ
rest_text change number moment =
    codes ",\"change\":" ++ (decimal change ++ (codes ",\"format\":" ++ (decimal number ++ (codes ",\"moment\":" ++ (decimal moment ++ codes "}")))))

present_is : (balance : Balance) (change : ℕ) (format : Format) (moment : ℕ) → compact_text (present_data balance change format moment)
    ≡ codes "{\"balance\":" ++ (compact_text (balance_data balance) ++ rest_text change (format_number format) moment)
unfolding present_data serde_json_on_literals
present_is balance change format moment = refl

-- what is left to be written, once the text has begun and the balance stands there
pub left_is : (balance : Balance) (change : ℕ) (format : Format) (moment : ℕ) (old one two : List ℕ)
    → one ≡ old ++ codes "{\"balance\":" → two ≡ one ++ compact_text (balance_data balance)
    → old ++ compact_text (present_data balance change format moment) ≡ two ++ rest_text change (format_number format) moment
left_is balance change format moment old one two begun balanced =
    let begin = codes "{\"balance\":" in
    let middle = compact_text (balance_data balance) in
    let rest = rest_text change (format_number format) moment in
    ap (λ (text : List ℕ). old ++ text) (present_is balance change format moment)
    ∙ sym (ap (λ (text : List ℕ). text ++ rest) (balanced ∙ ap (λ (text : List ℕ). text ++ middle) begun) ∙ append_assoc (old ++ begin) middle rest ∙ append_assoc old begin (middle ++ rest))
