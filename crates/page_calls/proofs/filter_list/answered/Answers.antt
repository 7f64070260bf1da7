use Rattle.std.proofs.Common.{◌≡◌, length, map, ap, ap₂, sym, ◌∙◌, Bor}
use Rattle.std.proofs.lemmas.List.{length-map}
use Rattle.field_values.specs.Parts.{Parts}
use Rattle.tracker_calls.specs.Part.{part_of}
use Rattle.tracker_calls.specs.declared.reply.Answer.TheVariants as answer
use Rattle.tracker_filters.specs.declared.filter.Filter.{Filter}
use Rattle.tracker_machine.specs.Overviews.{told_filter, filters_told}
use Rattle.tracker_machine.specs.Saved.{SavedFilter}
use Rattle.tracker_state.specs.State.{saved_as}
use Rattle.list_calls.proofs.Parted.{part_of-map, map-map}
use Rattle.page_calls.proofs.filter_list.answered.Goals as goal

pub returns : goal.returns
returns c =
    let m = c.args.state.now.machine in
    let part = c.args.part in
    let saved : Bor Filter → SavedFilter = λ f. saved_as f.now in
    let all = c.in_ok-all.all.items in
    let there : map saved c.part_of.result.now ≡ part_of part (filters_told m c.args.caller.0) =
    ap (map saved) (c.part_of.ensures ∙ ap (part_of part) c.deref.ensures.value) ∙ sym (part_of-map saved part all) ∙ ap (part_of part) c.in_ok-all.ensures in
    ap₂ answer.Filters
    (c.in_ok-filters.ensures
    ∙ ap (λ (s : Parts). map (λ (f : Bor Filter). told_filter s.users (saved_as f.now)) c.part_of.result.now) c.setup.ensures
    ∙ sym (map-map (told_filter m.setup.users) saved c.part_of.result.now) ∙ ap (map (told_filter m.setup.users)) there)
    (c.len.ensures ∙ sym c.deref.ensures.len ∙ ap length c.deref.ensures.value ∙ sym (length-map all saved) ∙ ap length c.in_ok-all.ensures)
