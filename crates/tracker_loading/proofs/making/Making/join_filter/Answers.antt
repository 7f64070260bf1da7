use Rattle.std.proofs.Common.{◌≡◌, ◌<◌, ℕ, List, length, is_some, true, false, Option, ap, sym, subst, ◌∙◌, arith}
use Rattle.std.specs.Prelude.{Ok}
use Rattle.std.specs.BTreeSet.{keys}
use Rattle.std.proofs.lemmas.List.{length-map}
use Rattle.jql_bound.specs.declared.cond.Bound.{Bound}
use Rattle.rising_numbers.specs.ByNumber.{put_by_number}
use Rattle.tracker_limits.specs.Limits.{most_filters}
use Rattle.tracker_filters.specs.declared.filter.Filter.{Filter}
use Rattle.tracker_filters.specs.Saved.{number, by_owner}
use Rattle.tracker_machine.specs.Machine.{Machine}
use Rattle.tracker_machine.specs.Effect.{with_filter}
use Rattle.tracker_machine.specs.Query.{asked}
use Rattle.tracker_machine.specs.Saved.{SavedFilter}
use Rattle.tracker_rows.specs.Rules.{MayBeFilter}
use Rattle.tracker_state.specs.State.{IsBound, query_of, saved_as, saved_filters}
use Rattle.tracker_state.proofs.Watching.{put_by_number-saved}
use Rattle.tracker_loading.specs.Asking.{Asks}
use Rattle.tracker_loading.specs.Making.{IsMaking}
use Rattle.tracker_loading.specs.contracts.making.Making.{the_view}
use Rattle.tracker_loading.proofs.Joined.{filter_made}
use Rattle.tracker_loading.proofs.Saved.{named_there, named_alone}
use Rattle.tracker_loading.proofs.making.Making.join_filter.Goals as goal

pub returns-then-has_named-clause-bad : goal.returns-then-has_named-clause-bad
returns-then-has_named-clause-bad c =
    let filters = c.self.inside.filters.items in
    let f : SavedFilter = record { no = c.args.no; owner = c.args.owner; name = c.args.name; text = c.args.text } in
    let found : is_some (by_owner f.owner f.name filters) ≡ true =
    ap (λ (fs : List Filter). is_some (by_owner f.owner f.name fs)) (sym c.deref.ensures.value)
    ∙ ap (λ (n : List ℕ). is_some (by_owner f.owner n c.deref.result.now)) (sym c.as_str.ensures) ∙ sym c.has_named.ensures ∙ c.if-has_named.true in
    λ is may.
    let here : MayBeFilter (the_view c.self.inside) f = subst (λ (o : Machine). MayBeFilter o f) (sym c.self.view_is) may in
    named_there f.owner f.name filters found here.alone

pub invariant_of-self-2 : goal.invariant_of-self-2
invariant_of-self-2 c =
    let m : Machine = the_view c.self.inside in
    let filters = c.self.inside.filters.items in
    let query : Bound = c.in-Some.query in
    let f : Filter = record { no = c.args.no; owner = c.args.owner; name = c.args.name; text = c.args.text; query = query } in
    let tally = c.self.inside.issues.tally in
    let ranks = c.self.inside.ranks.items in
    let taken = keys c.self.inside.taken in
    let bound : IsBound m.setup f =
    subst (λ (text : List ℕ). asked m.setup f.owner.0 text ≡ Ok (query_of query)) c.as_str-2.ensures
    (subst (λ (o : Option Bound). Asks (asked m.setup f.owner.0 c.as_str-2.result.now) o) c.in-Some.is c.in_ok-query.ensures) in
    let items : c.put_in.new.things.items ≡ put_by_number number f filters =
    c.put_in.ensures.items ∙ ap (λ (fs : List Filter). put_by_number number f fs) c.reserve.ensures.items in
    subst (λ (fs : List Filter). IsMaking (record m { filters = saved_filters fs }) tally ranks fs taken c.self.inside.group_at) (sym items)
    (filter_made m tally ranks filters taken c.self.inside.group_at f c.self.invariant c.requires.positive bound)

pub returns-clause-good : goal.returns-clause-good
returns-clause-good c =
    let m : Machine = the_view c.self.inside in
    let filters = c.self.inside.filters.items in
    let query : Bound = c.in-Some.query in
    let f : Filter = record { no = c.args.no; owner = c.args.owner; name = c.args.name; text = c.args.text; query = query } in
    let bound : IsBound m.setup f =
    subst (λ (text : List ℕ). asked m.setup f.owner.0 text ≡ Ok (query_of query)) c.as_str-2.ensures
    (subst (λ (o : Option Bound). Asks (asked m.setup f.owner.0 c.as_str-2.result.now) o) c.in-Some.is c.in_ok-query.ensures) in
    let items : c.put_in.new.things.items ≡ put_by_number number f filters =
    c.put_in.ensures.items ∙ ap (λ (fs : List Filter). put_by_number number f fs) c.reserve.ensures.items in
    let none : is_some (by_owner f.owner f.name filters) ≡ false =
    ap (λ (fs : List Filter). is_some (by_owner f.owner f.name fs)) (sym c.deref.ensures.value)
    ∙ ap (λ (n : List ℕ). is_some (by_owner f.owner n c.deref.result.now)) (sym c.as_str.ensures) ∙ sym c.has_named.ensures ∙ c.if-has_named.false in
    let few : length m.filters < most_filters = omega (arith, c.len.ensures, length-map filters saved_as) in
    let may : MayBeFilter m (saved_as f) = record {
      few = few;
      query = query_of query;
      asks = bound;
      alone = named_alone f.owner f.name filters none;
    } in
    λ is. (
      subst (λ (o : Machine). MayBeFilter o (saved_as f)) c.self.view_is may,
      ap (λ (fs : List Filter). record m { filters = saved_filters fs }) items
          ∙ ap (λ (fs : List SavedFilter). record m { filters = fs }) (sym (put_by_number-saved f filters))
          ∙ ap (λ (o : Machine). with_filter o (saved_as f)) c.self.view_is,
    )
