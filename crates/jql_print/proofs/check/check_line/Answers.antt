use Rattle.std.specs.Str.{IsValidUpTo}
use Rattle.jql_syntax.specs.Fault.{most_bytes, number_of_kind}
use Rattle.jql_syntax.specs.declared.token.Kind.TheVariants.{Character, TooLong}
use Rattle.jql_print.proofs.Writes.{OnOk-map}
use Rattle.jql_print.specs.Check.{fault_reply, is_too_long, is_no_text}
use Rattle.jql_print.proofs.check.check_line.Goals as goal

pub returns-then-line-gt-MOST_BYTES : goal.returns-then-line-gt-MOST_BYTES
returns-then-line-gt-MOST_BYTES c =
    OnOk-map c.write_fault.result
    (λ w. record {
      reply = fault_reply most_bytes (number_of_kind TooLong);
      is_reply = is_too_long c.in-Err.ensures.cases.0 c.if-line-gt-MOST_BYTES.true;
      written = w;
    })
    c.write_fault.ensures

pub returns-else-line-gt-MOST_BYTES : goal.returns-else-line-gt-MOST_BYTES
returns-else-line-gt-MOST_BYTES c =
    let v : IsValidUpTo c.args.line.now c.valid_up_to.result = rw c.valid_up_to.ensures c.in-Err.ensures.cases.1 in
    OnOk-map c.write_fault-else-line-gt-MOST_BYTES.result
    (λ w. record {
      reply = fault_reply c.valid_up_to.result (number_of_kind Character);
      is_reply = is_no_text c.in-Err.ensures.cases.0 c.if-line-gt-MOST_BYTES.false v;
      written = w;
    })
    c.write_fault-else-line-gt-MOST_BYTES.ensures
