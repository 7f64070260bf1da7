use Rattle.std.proofs.Common.{◌≡◌, ◌<◌, ◌++◌, ◌∷◌, [], None, ap, subst, sym, ◌∙◌, arith}
use Rattle.std.specs.List.{All}
use Rattle.rising_numbers.specs.ByNumber.{RiseFrom}
use Rattle.external_ids.specs.Ids.{IdList, external_number, external_named}
use Rattle.external_ids.proofs.Added.{put_last, rise_put_last, own_append}
use Rattle.external_ids.proofs.Index.{found_more}
use Rattle.external_ids.proofs.ids.ExternalIds.add.Goals as goal

pub invariant_of-self : goal.invariant_of-self
invariant_of-self c =
    let es = c.self.inside.list.items in
    let new = c.args.external in
    let free : external_named new.id es ≡ None = subst (λ (s : IdList). external_named new.id s.ids ≡ None) (sym c.self.view_is) c.requires.free in
    let last : All (λ e. e.no.0 < new.no.0) es = subst (λ (s : IdList). All (λ e. e.no.0 < new.no.0) s.ids) (sym c.self.view_is) c.requires.last in
    rw (c.push_reserved.ensures.items) (record {
      rising = subst (RiseFrom external_number 1) (put_last new es last) (rise_put_last new es c.requires.positive c.self.invariant.rising);
      own = own_append es new free c.self.invariant.own;
      found = λ id. found_more id _ new es _ _ c.requires.same free (c.self.invariant.found id) (c.index_id.ensures.found id);
      fits = omega (arith, c.push_reserved.ensures.len, c.push_reserved.ensures.capacity, c.self.invariant.fits, c.requires.room, ap (λ s. s.room) c.self.view_is);
      indexed = omega (arith, c.index_id.ensures.spare, c.self.invariant.indexed);
    })

pub returns-clause-ids : goal.returns-clause-ids
returns-clause-ids c =
    let new = c.args.external in
    c.push_reserved.ensures.items
    ∙ ap (λ (s : IdList). s.ids ++ new ∷ []) c.self.view_is
    ∙ sym (put_last new c.args.self.now.ids c.requires.last)
