use Rattle.std.proofs.Common.{◌≡◌, ◌<◌, ◌^◌, ◌∙◌, ℕ, List, Result, Ok, sym, arith}
use Rattle.std.specs.Str.Parse.{ParsesUnsigned}
use Rattle.std.proofs.lemmas.Fmt.{parse-decimal}
use Rattle.std.proofs.lemmas.Bool.{false≢true}
use Rattle.tracker_cli.specs.Numerals.{IsNumberOf}
use Rattle.tracker_serve.proofs.words.number_in.Goals as goal

same_Ok : {E : Type 0} (a b : ℕ) → ◌≡◌ {A = Result ℕ E} (Ok a) (Ok b) → a ≡ b
same_Ok a b e = cc e

parsed : {E : Type 0} (least most : ℕ) (word : List ℕ) (n : ℕ) (r : Result ℕ E) → most < 2 ^ 32 → IsNumberOf least most word n
    → ParsesUnsigned 32 10 word r → r ≡ Ok n
parsed least most word n r small h p = parse-decimal 32 n word r (omega (arith, h.2, small)) (omega (arith, h.2, small)) h.0 p

pub returns-in_default-clause-none : goal.returns-in_default-clause-none
returns-in_default-clause-none c n h =
    let same = same_Ok _ _ (sym c.in-Ok.is ∙ parsed c.args.least c.args.most c.args.word.now n c.parse.result c.ranges.most.fits h c.parse.ensures.value.0) in
    false≢true (c.if-is_digits_of.ensures.1 (rw same h.0))

pub returns-in_default-2-clause-none : goal.returns-in_default-2-clause-none
returns-in_default-2-clause-none c n h =
    let same = same_Ok _ _ (sym c.in-Ok.is ∙ parsed c.args.least c.args.most c.args.word.now n c.parse.result c.ranges.most.fits h c.parse.ensures.value.0) in
    omega (arith, same, h.2, c.if-n-most.false)

pub returns-in_default-3-clause-none : goal.returns-in_default-3-clause-none
returns-in_default-3-clause-none c n h =
    let same = same_Ok _ _ (sym c.in-Ok.is ∙ parsed c.args.least c.args.most c.args.word.now n c.parse.result c.ranges.most.fits h c.parse.ensures.value.0) in
    omega (arith, same, h.1, c.if-least-n.false)

pub returns-in_default-4-clause-none : goal.returns-in_default-4-clause-none
returns-in_default-4-clause-none c n h = cc (sym c.in_default.is ∙ parsed c.args.least c.args.most c.args.word.now n c.parse.result c.ranges.most.fits h c.parse.ensures.value.0)
