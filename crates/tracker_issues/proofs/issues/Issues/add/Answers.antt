use Rattle.std.proofs.Common.{◌≡◌, ◌+◌, ◌<◌, length, slice_get, set, Some, ap, ap₂, sym, refl, ◌∙◌, arith}
use Rattle.std.specs.Prelude.{sum_by}
use Rattle.std.proofs.lemmas.List.{length-append}
use Rattle.std.proofs.lemmas.Option.{slice_get_read}
use Rattle.change_history.specs.History.{RoomyHistory, History, histories_of}
use Rattle.tracker_machine.specs.Checks.{entry_bytes, history_bytes}
use Rattle.tracker_machine.proofs.Totals.{history_bytes-more, entries_kept-set, bytes_kept-set}
use Rattle.tracker_issues.specs.Issues.{with_entries}
use Rattle.tracker_issues.proofs.Histories.{histories_set, history_at, some_is, if_found, kept_is}
use Rattle.tracker_issues.proofs.Keys.{place_of_issue-set}
use Rattle.tracker_issues.proofs.issues.Issues.add.Goals as goal

pub invariant_of-self : goal.invariant_of-self
invariant_of-self c =
    let kept = c.self.inside.list.items in
    let hs = histories_of kept in
    let old = c.index_mut.result.now in
    let new = c.add.new.self in
    let same : kept ≡ c.args.self.now.kept = ap (λ s. s.kept) c.self.view_is in
    let there : c.args.place < length kept = rw (same) c.requires.there in
    let at : slice_get hs c.args.place ≡ Some old.history = history_at kept c.args.place old (slice_get_read kept (length kept) c.args.place old refl there c.index_mut.ensures.value) in
    let more : length new.history.entries ≡ length old.history.entries + length c.args.group.entries = ap (λ (h : History). length h.entries) c.add.ensures.history ∙ length-append old.history.entries c.args.group.entries in
    let count : length c.as_slice.result.now ≡ length c.args.group.entries = ap (λ es. length es) c.as_slice.ensures in
    let heavier : history_bytes new.history ≡ history_bytes old.history + sum_by entry_bytes c.args.group.entries = ap history_bytes c.add.ensures.history ∙ history_bytes-more old.history c.args.group.entries in
    rw (histories_set kept c.args.place new) (record {
      found = λ name. c.self.invariant.found name ∙ sym (place_of_issue-set name hs c.args.place old.history new.history at (ap (λ (h : History). h.key) c.add.ensures.history));
      counted = omega (arith, c.self.invariant.counted, entries_kept-set hs c.args.place old.history new.history at, more, count);
      weighed = omega (arith, c.self.invariant.weighed, bytes_kept-set hs c.args.place old.history new.history at, heavier, c.requires.bytes);
      fits = c.self.invariant.fits;
      noted_fits = c.self.invariant.noted_fits;
      indexed = c.self.invariant.indexed;
    })

pub returns-clause-kept : goal.returns-clause-kept
returns-clause-kept c =
    let kept = c.self.inside.list.items in
    let old = c.index_mut.result.now in
    let same : kept ≡ c.args.self.now.kept = ap (λ s. s.kept) c.self.view_is in
    let there : c.args.place < length kept = rw (same) c.requires.there in
    let at : slice_get kept c.args.place ≡ Some old = slice_get_read kept (length kept) c.args.place old refl there c.index_mut.ensures.value in
    let new : c.add.new.self ≡ with_entries old c.args.group.entries = kept_is c.add.new.self _ _ c.add.ensures.history c.add.ensures.room in
    if_found _ _ (λ i is.
    let found : old ≡ i = some_is old i (sym at ∙ ap (λ xs. slice_get xs c.args.place) same ∙ is) in
    ap₂ (λ xs (j : RoomyHistory). set xs c.args.place j) same (new ∙ ap (λ j. with_entries j c.args.group.entries) found))
