use Rattle.std.proofs.Common.{◌∙◌, ap, sym, arith, string_bytes, rules}
use Rattle.std.specs.Str.{chars, IsUtf8}
use Rattle.std.proofs.lemmas.Str.{chars-nil}
use Rattle.jql_syntax.specs.Tokens.{quote_at}
use Rattle.jql_syntax.specs.declared.token.Token.TheVariants.{Bad}
use Rattle.jql_syntax.specs.declared.token.Kind.TheVariants.{Unclosed}
use Rattle.jql_syntax.proofs.Scanning.{quoted_on, quoted_next, quoted_refused, quoted_is}
use Rattle.jql_syntax.proofs.scan.quoted.Goals as goal

pub loop-c-init : goal.loop-c-init
loop-c-init c = (c.utf8.text, omega arith, rw c.new-string.ensures.bytes (quoted_is (quote_at c.args.quote (chars c.args.text.now))))

pub returns-in-Err : goal.returns-in-Err
returns-in-Err c =
    let r = quoted_refused (string_bytes c.loop-c.string) c.args.quote c.in-Some.c c.in-Err.kind (chars c.loop-c.rest.now) (chars c.in-Some.after.now) c.in-Some.ensures.some c.if-c-quote.false c.in-Err.ensures.value in
    record { value = ap (λ v. (Bad c.in-Err.kind, v)) chars-nil ∙ sym r ∙ c.loop-c.invariant.2; shorter = omega arith }

pub loop-c-preserved : goal.loop-c-preserved
loop-c-preserved c =
    let u : IsUtf8 c.in-Ok.x.1.now = search rules in
    let n = quoted_next (string_bytes c.loop-c.string) c.args.quote c.in-Some.c c.in-Ok.x.0 (chars c.loop-c.rest.now) (chars c.in-Some.after.now) (chars c.in-Ok.x.1.now) c.in-Some.ensures.some c.if-c-quote.false c.in-Ok.ensures.value in
    (u, omega (arith, c.loop-c.invariant.1, c.in-Some.ensures.shorter, c.in-Ok.ensures.shorter), rw c.in_ok-push.ensures.bytes (n ∙ c.loop-c.invariant.2))

pub returns : goal.returns
returns c =
    let e = c.in_default.ensures.none in
    let r = ap (λ v. quoted_on (string_bytes c.loop-c.string) (quote_at c.args.quote v)) e in
    record { value = ap (λ v. (Bad Unclosed, v)) chars-nil ∙ sym r ∙ c.loop-c.invariant.2; shorter = omega arith }
