use Rattle.std.proofs.Common.{◌≡◌, ◌∷◌, [], List, refl, ap, ap₂, sym, ◌∙◌, subst}
use Rattle.field_values.specs.Parts.{Parts}
use Rattle.fields.specs.SetupParts.{names_in}
use Rattle.change_history.specs.History.{History}
use Rattle.jql_meaning.specs.Surroundings.{Surroundings}
use Rattle.tracker_filters.specs.declared.filter.Filter.{Filter}
use Rattle.tracker_filters.specs.Saved.{condition_of}
use Rattle.tracker_filters.specs.Ready.{AreVerdicts}
use Rattle.tracker_machine.specs.Machine.{Machine}
use Rattle.tracker_machine.specs.Effect.{IsAllowed}
use Rattle.tracker_machine.specs.Effect.Effect.{NewFilter}
use Rattle.tracker_machine.specs.Kept.{ops_of}
use Rattle.tracker_machine.specs.Saved.{MaySave}
use Rattle.tracker_machine.specs.Search.{surroundings_in}
use Rattle.list_calls.specs.Rows.{filter_op}
use Rattle.tracker_state.specs.State.{Held, IsBound, saved_as}
use Rattle.list_calls.proofs.Ops.{save_ops_are}
use Rattle.list_calls.proofs.save_filter.put.Goals as goal

pub returns-clause-prepared : goal.returns-clause-prepared
unfolding IsAllowed
returns-clause-prepared c =
    let m = c.args.state.now.machine in
    let ready = c.args.ready in
    let f : Filter = ready.filter in
    let new : Held = c.reserve_filter.new.self in
    let seen = c.have_seen.ensures.seen in
    let same : new.machine ≡ m = ap (λ (s : Held). s.machine) c.reserve_filter.ensures.same in
    let around : new.watched.around ≡ surroundings_in m.setup m.sprints = ap (λ (s : Held). s.watched.around) c.reserve_filter.ensures.same ∙ seen.around in
    let moment : new.watched.moment ≡ m.moment = ap (λ (s : Held). s.watched.moment) c.reserve_filter.ensures.same ∙ seen.moment in
    let histories : new.watched.histories ≡ m.histories = ap (λ (s : Held). s.watched.histories) c.reserve_filter.ensures.same ∙ seen.histories in
    record {
      means = refl;
      keeps = c.in_ok-rows.ensures
          ∙ ap₂ (λ (p : Parts) (g : Filter). filter_op (names_in p) (saved_as g) ∷ []) c.setup.ensures c.filter.ensures
          ∙ save_ops_are m (saved_as f)
          ∙ ap (ops_of (NewFilter (saved_as f))) (sym same);
      allowed = subst (λ (n : Machine). MaySave n.setup n.filters (saved_as f)) (sym same) c.requires.may;
      fits = record {
        bound = subst (λ (n : Machine). IsBound n.setup f) (sym same) c.requires.bound;
        room = λ free. c.in_ok-reserve_filter.ensures.room;
        right = subst (λ (s : Surroundings). AreVerdicts s new.watched.moment (condition_of f) new.watched.histories ready.verdicts.items) (sym around)
            (subst (λ t. AreVerdicts (surroundings_in m.setup m.sprints) t (condition_of f) new.watched.histories ready.verdicts.items) (sym moment)
            (subst (λ (hs : List History). AreVerdicts (surroundings_in m.setup m.sprints) m.moment (condition_of f) hs ready.verdicts.items) (sym histories) c.requires.right));
      };
    }
