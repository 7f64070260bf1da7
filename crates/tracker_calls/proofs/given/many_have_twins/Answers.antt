use Rattle.std.proofs.Common.{◌≡◌, ◌∙◌, ◌-◌, ℕ, List, Some, drop, sym, ap, ap₂, arith}
use Rattle.std.specs.Prelude.{if◌then◌else◌}
use Rattle.std.specs.Str.{str_eq_ignore_ascii_case}
use Rattle.tracker_calls.specs.declared.given.GivenField.{GivenField}
use Rattle.tracker_calls.specs.Seen.{is_other}
use Rattle.tracker_calls.proofs.Twins.{same_name, twins_found, none_more, same_more}
use Rattle.tracker_calls.proofs.given.many_have_twins.Goals as goal

pub returns-then-is_other : goal.returns-then-is_other
returns-then-is_other c =
    let fs = c.args.fields.now in
    let place = c.loop-place.place in
    let f = c.index-fields-place.result in
    let later = drop place fs in
    let name = c.as_str-name.result.now in
    let same : name ≡ f.name = c.as_str-name.ensures ∙ ap (λ (g : GivenField). g.name) (sym c.index-fields-place.is) in
    let before = c.in_ok-before.ensures.before ∙ (c.loop-place.invariant.seen name ∙ ap (same_name later) same) in
    sym (twins_found fs place (place - 1) f (omega arith) (omega arith) c.index-fields-place.is c.loop-place.invariant.none
    (sym (c.is_other.ensures ∙ ap₂ is_other before same) ∙ c.if-is_other.true))

pub loop-place-preserved : goal.loop-place-preserved
loop-place-preserved c =
    let fs = c.args.fields.now in
    let place = c.loop-place.place in
    let f = c.index-fields-place.result in
    let later = drop place fs in
    let name = c.as_str-name.result.now in
    let same : name ≡ f.name = c.as_str-name.ensures ∙ ap (λ (g : GivenField). g.name) (sym c.index-fields-place.is) in
    let before = c.in_ok-before.ensures.before ∙ (c.loop-place.invariant.seen name ∙ ap (same_name later) same) in
    record {
      none = none_more fs place (place - 1) f (omega arith) (omega arith) c.index-fields-place.is c.loop-place.invariant.none
          (sym (c.is_other.ensures ∙ ap₂ is_other before same) ∙ c.if-is_other.false);
      seen = λ other.
          c.in_ok-before.ensures.seen other
          ∙ (ap₂ (λ (n : List ℕ) o. if str_eq_ignore_ascii_case n other then Some n else o) same (c.loop-place.invariant.seen other)
          ∙ sym (same_more fs place (place - 1) f (omega arith) (omega arith) c.index-fields-place.is other));
    }
