use Rattle.std.proofs.Common.{◌++◌, arith, subst}
use Rattle.std.specs.Prelude.{option_map}
use Rattle.fields.specs.SetupParts.{names_in}
use Rattle.std.specs.Io.KnownBytes.{Appends}
use Rattle.tracker_import.specs.Export.{WritesFront, issues_text}
use Rattle.tracker_import.proofs.IssueByIssue.{exporting_more, exporting_cut, exporting_done, exporting_halts, put_at_place}
use Rattle.tracker_import.proofs.export.export_issues.Goals as goal

pub loop-place-preserved : goal.loop-place-preserved
loop-place-preserved g c =
    let m = c.args.state.now.machine in
    let external = option_map (λ id. id.now) c.take_external.result.0 in
    let text = c.args.pending.now.items ++ issues_text (names_in m.setup) m.externals m.histories in
    let put =
    put_at_place m.histories c.loop-place.place (names_in m.setup) external c.put_issue.new.pending.items c.loop-place.pending.items c.is_tracker.ensures.numbers
    (omega (arith, c.loop-place-test.true, c.issue_count-place-end.ensures.count)) c.in-Ok.ensures.ok in
    record {
      so_far = exporting_more (names_in m.setup) m.externals m.histories text _ _ _ _ _ _ _ _ _ put.0 external c.loop-place.invariant.so_far put.1 put.2
          c.take_external.ensures.id c.take_external.ensures.rising c.take_external.ensures.behind put.3 c.in-Ok-pass_on.ensures.bytes;
      within = omega (arith, c.loop-place-test.true, c.issue_count-place-end.ensures.count);
      write_later = omega (arith, c.loop-place.invariant.write_later, c.pass_on.ensures.cause.later);
    }

pub returns-in_default-pass_on-clause-bytes : goal.returns-in_default-pass_on-clause-bytes
returns-in_default-pass_on-clause-bytes g c =
    let m = c.args.state.now.machine in
    let external = option_map (λ id. id.now) c.take_external.result.0 in
    let text = c.args.pending.now.items ++ issues_text (names_in m.setup) m.externals m.histories in
    let put =
    put_at_place m.histories c.loop-place.place (names_in m.setup) external c.put_issue.new.pending.items c.loop-place.pending.items c.is_tracker.ensures.numbers
    (omega (arith, c.loop-place-test.true, c.issue_count-place-end.ensures.count)) c.in-Ok.ensures.ok in
    exporting_cut (names_in m.setup) m.externals m.histories text _ _ _ _ _ _ _ put.0 external c.loop-place.invariant.so_far put.1 put.2
    c.take_external.ensures.id put.3 c.in_default-pass_on.ensures.bytes

pub returns-in-Ok-write_all-clause-bytes : goal.returns-in-Ok-write_all-clause-bytes
returns-in-Ok-write_all-clause-bytes g c =
    exporting_done _ _ _ _ _ _ _ _ _ _ c.loop-place.invariant.so_far
    (omega (arith, c.loop-place-test.false, c.loop-place.invariant.within, c.issue_count-place-end.ensures.count))
    (subst (λ l. Appends (g.T.Sink.taken c.loop-place.out) (g.T.Sink.taken c.write_all.new.out) l) c.deref.ensures.value c.in-Ok-write_all.ensures.bytes)

pub returns-in-Err-clause-bytes : goal.returns-in-Err-clause-bytes
returns-in-Err-clause-bytes g c =
    exporting_halts _ _ _ _ _ _ _ _ _ _ c.loop-place.invariant.so_far
    (omega (arith, c.loop-place-test.false, c.loop-place.invariant.within, c.issue_count-place-end.ensures.count))
    (subst (λ l. WritesFront (g.T.Sink.taken c.loop-place.out) (g.T.Sink.taken c.write_all.new.out) l) c.deref.ensures.value c.in-Err.ensures.bytes)
