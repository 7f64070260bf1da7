use Rattle.std.proofs.Common.{◌≡◌, ◌+◌, List, Option, ℕ, None, Some, IfSome, IfNone, refl, sym, ap, subst, ◌∙◌}
use Rattle.std.specs.Prelude.{slice_get, unwrap_or}
use Rattle.change_history.specs.declared.entry.Entry.{Entry}
use Rattle.change_history.specs.History.{RoomyHistory, opening_value}
use Rattle.change_history.specs.Before.{before_of}
use Rattle.change_history.specs.Kept.{spots_of}
use Rattle.change_history.specs.Places.{first_in, place_in}
use Rattle.change_history.proofs.Befores.{noted}
use Rattle.change_history.proofs.Present.{none_before-first, from_opening}
use Rattle.change_history.specs.contracts.issue.Issue.{the_view}
use Rattle.change_history.proofs.issue.Issue.entry_before.Goals as goal

pub returns-then-is_first : goal.returns-then-is_first
returns-then-is_first c =
    let own = (the_view c.self.inside).history in
    let k = c.args.k in
    let entries = c.self.inside.entries.items in
    let told = c.is_first.ensures c.if-is_first.true in
    let first : IfSome (slice_get entries k) (λ (e : Entry). first_in (slice_get c.self.inside.bounds e.field.0) ≡ k + 1) =
    subst (λ (es : List Entry). IfSome (slice_get es k) (λ (e : Entry). first_in (slice_get c.self.inside.bounds e.field.0) ≡ k + 1)) c.deref.ensures.value told in
    let none = none_before-first entries (spots_of c.self.inside) k (slice_get entries k) c.self.invariant.spots_are first in
    record {
      before = sym none ∙ ap (λ (kept : RoomyHistory). before_of kept.history.entries (slice_get kept.history.entries k) k) c.self.view_is;
      opened = subst (λ (kept : RoomyHistory). (e : Entry) → slice_get kept.history.entries k ≡ Some e → e.from ≡ opening_value kept.history.opening e.field) c.self.view_is
          (λ e there. from_opening own k e c.self.invariant.history there none);
    }

pub returns : goal.returns
returns c =
    let own = (the_view c.self.inside).history in
    let k = c.args.k in
    let entries = c.self.inside.entries.items in
    let before : c.note_at.result ≡ before_of entries (slice_get entries k) k =
    c.note_at.ensures ∙ ap (λ (l : List ℕ). place_in (unwrap_or (slice_get l k) 0)) c.deref-2.ensures.value
    ∙ noted entries c.self.inside.befores.items k c.self.invariant.befores_are in
    record {
      before = before ∙ ap (λ (kept : RoomyHistory). before_of kept.history.entries (slice_get kept.history.entries k) k) c.self.view_is;
      opened = subst (λ (kept : RoomyHistory). IfNone c.note_at.result ((e : Entry) → slice_get kept.history.entries k ≡ Some e → e.from ≡ opening_value kept.history.opening e.field)) c.self.view_is
          (if_none c.note_at.result (λ none e there. from_opening own k e c.self.invariant.history there (sym before ∙ none)));
    } where
      if_none : {A P : Type 0} (o : Option A) → (o ≡ None → P) → IfNone o P
      if_none None more = more refl
      if_none (Some a) more = tt
