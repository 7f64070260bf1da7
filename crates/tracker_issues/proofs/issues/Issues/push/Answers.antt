use Rattle.std.proofs.Common.{◌≡◌, ◌+◌, length, bytes_eq, Some, None, ap, ap₂, sym, ◌∙◌, arith, rules, string_bytes}
use Rattle.std.proofs.lemmas.List.{length-map}
use Rattle.std.specs.Prelude.{if◌then◌else◌}
use Rattle.std.specs.Option.{option_or}
use Rattle.change_history.specs.History.{RoomyHistory, histories_of}
use Rattle.tracker_machine.specs.Known.{place_of_issue}
use Rattle.tracker_machine.proofs.Totals.{entries_kept-push, bytes_kept-push}
use Rattle.tracker_issues.proofs.Histories.{histories_push}
use Rattle.tracker_issues.proofs.Keys.{place_of_issue-append}
use Rattle.tracker_issues.proofs.issues.Issues.push.Goals as goal

pub invariant_of-self : goal.invariant_of-self
invariant_of-self c =
    let kept = c.self.inside.list.items in
    let hs = histories_of kept in
    let h = c.args.issue.history in
    let key : string_bytes c.args.key ≡ h.key = c.requires.key in
    let len : c.len-place.result ≡ length kept = search rules in
    let place : c.len-place.result ≡ length hs = len ∙ sym (length-map kept (λ (i : RoomyHistory). i.history)) in
    rw (c.push_reserved-2.ensures.items, histories_push kept c.args.issue) (record {
      found = λ name.
          c.index_key.ensures.found name
          ∙ ap (λ o. option_or o (if bytes_eq (string_bytes c.args.key) name then Some c.len-place.result else None)) (c.self.invariant.found name)
          ∙ ap₂ (λ k n. option_or (place_of_issue name hs) (if bytes_eq k name then Some n else None)) key place
          ∙ sym (place_of_issue-append name hs h);
      counted = ap₂ (λ a b. a + b) c.self.invariant.counted c.entries.ensures ∙ sym (entries_kept-push hs h);
      weighed = ap₂ (λ a b. a + b) c.self.invariant.weighed c.requires.bytes ∙ sym (bytes_kept-push hs h);
      fits = omega (arith, c.push_reserved-2.ensures.len, c.push_reserved-2.ensures.capacity, c.self.invariant.fits, c.requires.room, ap (λ s. s.room) c.self.view_is);
      noted_fits = omega (arith, c.push_reserved.ensures.len, c.push_reserved.ensures.capacity, c.self.invariant.noted_fits, c.requires.room, ap (λ s. s.room) c.self.view_is);
      indexed = omega (arith, c.index_key.ensures.spare, c.self.invariant.indexed);
    })
