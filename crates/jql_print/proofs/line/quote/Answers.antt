use Rattle.std.proofs.Common.{◌++◌, ◌∷◌, [], ◌∙◌, ap, sym, string_bytes, append-nil, map-id}
use Rattle.std.specs.Prelude.{encode_utf8_all}
use Rattle.std.proofs.lemmas.Iterator.{YieldsList-from_chars}
use Rattle.std.proofs.lemmas.Iterator.Consumers.{YieldsList-end}
use lib.Utf8.{encode}
use Rattle.jql_print.specs.Spelling.{escaped}
use Rattle.jql_print.proofs.Writes.{quote_more, quote_end}
use Rattle.jql_print.proofs.line.quote.Goals as goal

pub loop-c-init : goal.loop-c-init
loop-c-init c = c.in_ok-push.ensures.bytes ∙ ap (λ v. string_bytes c.args.out.now ++ v) (sym (append-nil (encode 34)))

pub loop-c-preserved : goal.loop-c-preserved
loop-c-preserved c = quote_more (string_bytes c.args.out.now) (string_bytes c.loop-c.out) _ c.loop-c.yielded c.in-Some.c c.loop-c.invariant c.in_ok-escape.ensures

pub returns : goal.returns
returns c =
    let t = YieldsList-end (YieldsList-from_chars c.args.text.now c.utf8.text cc) c.loop-c.yielded _ c.loop-c.yielded_by _ _ c.in-None.is c.next.ensures.steps in
    let e = sym (map-id c.loop-c.yielded) ∙ t.0 in
    quote_end (string_bytes c.args.out.now) (string_bytes c.loop-c.out) _ c.loop-c.yielded c.loop-c.invariant c.in_ok-push-2.ensures.bytes
    ∙ ap (λ v. string_bytes c.args.out.now ++ (encode 34 ++ encode_utf8_all (escaped v ++ 34 ∷ []))) e
