use Rattle.std.proofs.Common.{◌∙◌, ◌<◌, arith, sym}
use Rattle.csv.specs.Records.{fields_of}
use Rattle.issue_csv.proofs.Readings.{meets_other, none_left, takes_none, takes_text}
use Rattle.issue_csv.proofs.csv_records.Records.read.Goals as goal

pub returns-then-self : goal.returns-then-self
returns-then-self c = none_left c.args.self.now c.requires (omega (arith, c.if-self.true))

pub returns-in-Ok-true : goal.returns-in-Ok-true
returns-in-Ok-true c =
    let lt : c.args.self.now.number < c.args.self.now.most = omega (arith, c.if-self.false) in
    let r = rw c.in-Ok-true.field-0-test at (c.in-Ok-true.ensures.reads c.requires.plain c.requires.ready) in
    takes_text c.args.self.now c.read_record.new.self c.read_record.new.row c.requires lt r
    (c.in-Ok-true.ensures.ready c.requires.plain) c.in-Ok-true.ensures.flexible (c.in-Ok-true.ensures.text c.requires.plain)

pub returns-in-Ok-false : goal.returns-in-Ok-false
returns-in-Ok-false c =
    let lt : c.args.self.now.number < c.args.self.now.most = omega (arith, c.if-self.false) in
    let r = rw c.in-Ok-false.field-0-test at (c.in-Ok-false.ensures.reads c.requires.plain c.requires.ready) in
    takes_none c.args.self.now c.read_record.new.self (fields_of c.read_record.new.row) c.requires lt r

pub returns-in-Utf8 : goal.returns-in-Utf8
returns-in-Utf8 c =
    let lt : c.args.self.now.number < c.args.self.now.most = omega (arith, c.if-self.false) in
    let kind = sym c.kind.ensures ∙ c.in-Utf8.is in
    let why = rw kind at (c.in-Err.ensures.why c.requires.plain c.requires.ready) in
    meets_other c.args.self.now c.read_record.new.self why.1 c.requires lt why.2 why.3
