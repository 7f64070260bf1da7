use Rattle.std.proofs.Common.{ap, sym, ◌∙◌, min}
use Rattle.tracker_http.specs.Fields.{content_length, value_named, body_len}
use Rattle.tracker_http.specs.HeadFaults.{is_unreadable}
use Rattle.tracker_http.specs.Spans.{fields_at, head_at}
use Rattle.tracker_http.proofs.FaultLemmas.{taken_fields, short_size}
use Rattle.tracker_http.proofs.see.see.Goals as goal

pub body_len-requires-clause-readable : goal.body_len-requires-clause-readable
body_len-requires-clause-readable c =
    let fields = taken_fields (head_at c.args.bytes.now c.look.new.room c.in-Some.spans) (sym c.fault_of.ensures ∙ c.in_default-fault_of.is) in
    ap (λ l. is_unreadable (value_named content_length (fields_at c.args.bytes.now l))) c.split_at.ensures.front ∙ fields.0

pub returns : goal.returns
returns c =
    let none = sym c.fault_of.ensures ∙ c.in_default-fault_of.is in
    let fields = taken_fields (head_at c.args.bytes.now c.look.new.room c.in-Some.spans) none in
    let size = c.body_len.ensures ∙ ap (λ l. min (body_len (fields_at c.args.bytes.now l)) 65537) c.split_at.ensures.front in
    record { whole = c.requires.whole; read = c.in-Some.ensures; taken = none; size_is = short_size _ _ fields.1 size }
