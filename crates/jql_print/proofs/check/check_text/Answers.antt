use Rattle.std.proofs.Common.{◌++◌, ◌∙◌, ap, option_map}
use Rattle.jql_syntax.specs.View.{view}
use Rattle.jql_syntax.specs.Fault.{number_of_kind}
use Rattle.jql_print.specs.Spelling.{query_text}
use Rattle.jql_print.proofs.Writes.{OnOk-map}
use Rattle.jql_print.specs.Check.{ok_reply, fault_reply, reads, fails}
use Rattle.jql_print.proofs.check.check_text.Goals as goal

pub returns-in_ok-spelling-in-Ok : goal.returns-in_ok-spelling-in-Ok
returns-in_ok-spelling-in-Ok c =
    let t = query_text (option_map view c.in-Ok.query.0) c.in-Ok.query.1 in
    OnOk-map c.write_ok.result
    (λ w. record {
      reply = ok_reply t;
      is_reply = reads c.utf8.text c.in-Ok.ensures.found;
      written = w ∙ ap (λ v. c.args.out.now.items ++ ok_reply v) c.in_ok-spelling-in-Ok.ensures;
    })
    c.write_ok.ensures

pub returns-in-Err-Bad : goal.returns-in-Err-Bad
returns-in-Err-Bad c =
    let f = rw c.in-Err-Bad.field-0-is at c.in-Err-Bad.ensures.fault in
    OnOk-map c.write_fault.result
    (λ w. record {
      reply = fault_reply c.in-Err-Bad.place (number_of_kind f.0);
      is_reply = fails c.utf8.text f.2;
      written = w ∙ ap (λ v. c.args.out.now.items ++ fault_reply c.in-Err-Bad.place v) f.1;
    })
    c.write_fault.ensures
