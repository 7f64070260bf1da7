use Rattle.std.proofs.Common.{◌≡◌, ◌∙◌, ℕ, Result, Ok, sym}
use Rattle.std.proofs.lemmas.Fmt.{parse-decimal}
use Rattle.std.proofs.lemmas.Bool.{false≢true}
use Rattle.row_lines.proofs.members.number_in.Goals as goal

same_Ok : {E : Type 0} (a b : ℕ) → ◌≡◌ {A = Result ℕ E} (Ok a) (Ok b) → a ≡ b
same_Ok a b e = cc e

pub returns-in_default : goal.returns-in_default
returns-in_default c n small e =
    let same = same_Ok _ _ (sym c.in-Ok.is ∙ parse-decimal 64 n c.args.digits.now c.parse.result small small e c.parse.ensures.value.0) in
    false≢true (c.if-is_digits_of.ensures.1 (rw same e))

pub returns-in_default-2 : goal.returns-in_default-2
returns-in_default-2 c n small e =
    cc (sym c.in_default.is ∙ parse-decimal 64 n c.args.digits.now c.parse.result small small e c.parse.ensures.value.0)
