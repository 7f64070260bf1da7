use Rattle.std.proofs.Common.{◌<◌, length, sym, arith, rules}
use Rattle.std.specs.Str.{IsUtf8}
use Rattle.jql_syntax.proofs.Scanning.{upto_white, upto_token, upto_end}
use Rattle.jql_syntax.proofs.scan.tokens.Goals as goal

pub tokens-preserved-then-is_white : goal.tokens-preserved-then-is_white
tokens-preserved-then-is_white c =
    let u : IsUtf8 c.in-Some.after.now = search rules in
    (u, upto_white c.tokens.invariant.1 c.in-Some.ensures.some (sym c.if-is_white.ensures) (omega (arith, c.in-Some.ensures.shorter)), omega (arith, c.in-Some.ensures.shorter, c.tokens.invariant.2))

pub tokens-smaller : goal.tokens-smaller
tokens-smaller c = omega (arith, c.in-Some.ensures.shorter, c.in_ok-token.ensures.shorter, c.behind-rest.ensures.shorter)

pub tokens-preserved : goal.tokens-preserved
tokens-preserved c =
    let less : length c.behind-rest.result.now < length c.tokens.rest.now = omega (arith, c.in-Some.ensures.shorter, c.in_ok-token.ensures.shorter, c.behind-rest.ensures.shorter) in
    (c.behind-rest.utf8, upto_token c.tokens.invariant.0 c.tokens.invariant.1 c.in-Some.ensures.some (sym c.if-is_white.ensures) c.in_ok-token.ensures.value c.behind-rest.ensures.value c.in_ok-push.ensures.items less, omega (arith, less, c.tokens.invariant.2))

pub returns : goal.returns
returns c = upto_end c.tokens.invariant.1 c.in_default.ensures.none
