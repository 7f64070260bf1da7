-- How many fields a head can hold, and what the parser tells of one.
use Rattle.std.proofs.Common.{◌≡◌, ◌≤◌, ◌<◌, ◌*◌, ℕ, List, [], ◌∷◌, length, All, ap, arith, Ok, Err, length-append}
use Rattle.std.specs.List.{flat_map}
use Rattle.std.proofs.lemmas.List.Elements.{All-head, All-tail}
use Rattle.httparse.specs.declared.Error.{Error}
use Rattle.httparse.specs.declared.Status.TheVariants.{Complete}
use Rattle.httparse.specs.declared.spans.HeaderSpan.{HeaderSpan}
use Rattle.httparse.specs.declared.spans.RequestSpans.{RequestSpans}
use Rattle.httparse.specs.Grammar.{Field, IsField, LineEnd, crlf, lf, print_end, print_field, print_request, RequestHead, ReadsRequest}
use Rattle.httparse.specs.Spans.{FindsRequest}
use Rattle.tracker_http.specs.Spans.{IsNoHead}

end_len : (e : LineEnd) → 1 ≤ length (print_end e)
end_len crlf = omega arith
end_len lf = omega arith

field_len : (f : Field) → IsField f → 3 ≤ length (print_field f)
field_len f h =
    let e = end_len f.end in
    let n = h.name.0 in
    omega (arith, length-append {A = ℕ})

fields_size : (fields : List Field) → All IsField fields → 3 * length fields ≤ length (flat_map print_field fields)
fields_size [] h = omega arith
fields_size (f ∷ fs) h =
    let one = field_len f (All-head IsField f fs h) in
    let more = fields_size fs (All-tail IsField f fs h) in
    omega (arith, length-append (print_field f) (flat_map print_field fs))

head_size : (h : RequestHead) → All IsField h.fields → 3 * length h.fields < length (print_request h)
unfolding print_request
head_size h all =
    let one = fields_size h.fields all in
    let last = end_len h.last in
    omega (arith, length-append {A = ℕ})

whole_size : (bytes : List ℕ) (h : RequestHead) → ReadsRequest bytes h [] → length bytes ≡ length (print_request h)
whole_size bytes h reads = omega (arith, ap length reads.1, length-append (print_request h) [])

-- 8,192 bytes hold at most 2,730 fields
few_fields : (bytes : List ℕ) (h : RequestHead) → length bytes ≤ 8192 → ReadsRequest bytes h [] → length h.fields ≤ 2731
few_fields bytes h short reads = omega (arith, head_size h reads.0.fields, whole_size bytes h reads)

-- a head that ends before the bytes do isn't all of them
pub no_shorter : (bytes : List ℕ) (count : ℕ) (room : List HeaderSpan) (spans : RequestSpans) → length bytes ≤ 8192 → 2731 ≤ count → spans.len < length bytes
    → FindsRequest bytes count room (Ok (Complete spans)) → IsNoHead bytes
no_shorter bytes count room spans short wide less finds h reads =
    let fits : length h.fields ≤ count = omega (arith, few_fields bytes h short reads) in
    let found = finds h [] reads fits in
    absurd (omega (arith, found.len, whole_size bytes h reads))

-- what the parser refuses is no head
pub no_head : (bytes : List ℕ) (count : ℕ) (room : List HeaderSpan) (e : Error) → length bytes ≤ 8192 → 2731 ≤ count
    → FindsRequest bytes count room (Err e) → IsNoHead bytes
no_head bytes count room e short wide finds h reads =
    let fits : length h.fields ≤ count = omega (arith, few_fields bytes h short reads) in
    finds h [] reads fits
