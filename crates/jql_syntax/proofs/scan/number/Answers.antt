use Rattle.std.proofs.Common.{◌≡◌, ◌∙◌, refl, ap, sym, arith, fold, true, rules}
use Rattle.std.specs.Str.{chars, IsUtf8}
use Rattle.std.specs.Char.{is_ascii_digit}
use Rattle.jql_syntax.specs.Tokens.{front, numbered}
use Rattle.jql_syntax.proofs.Scanning.{with_digit, number_is_fold, large_stays, front_next, past_next}
use Rattle.jql_syntax.proofs.scan.number.Goals as goal

pub loop-c-init : goal.loop-c-init
loop-c-init c = (c.utf8.text, omega arith, omega arith, ap numbered (sym (number_is_fold (front is_ascii_digit (chars c.args.text.now)))), refl)

pub loop-c-preserved : goal.loop-c-preserved
loop-c-preserved c =
    let i = c.loop-c.invariant in
    let x = c.in-Some.c in
    let xs = chars c.in-Some.after.now in
    let d : is_ascii_digit x ≡ true = sym c.if-not-is_ascii_digit.ensures.value in
    let u : IsUtf8 c.in-Some.after.now = search rules in
    let p = past_next is_ascii_digit (chars c.loop-c.rest.now) x xs c.in-Some.ensures.some d in
    let f = front_next is_ascii_digit (chars c.loop-c.rest.now) x xs c.in-Some.ensures.some d in
    (u, omega (arith, i.1, c.in-Some.ensures.shorter), i.2, sym (large_stays c.loop-c.number x (front is_ascii_digit xs) c.if-number-le19999.false) ∙ ap (λ v. numbered (fold with_digit c.loop-c.number v)) (sym f) ∙ i.3, sym p ∙ i.4)
