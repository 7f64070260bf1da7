use Rattle.std.proofs.Common.{◌≡◌, ◌++◌, ◌∷◌, ◌-◌, List, [], map, ap, sym, subst, ◌∙◌, arith}
use Rattle.tracker_rounds.specs.declared.ask.Entered.{Entered}
use Rattle.tracker_rounds.specs.declared.ask.Told.{Told}
use Rattle.tracker_server.specs.declared.event.Event.{Event}
use Rattle.tracker_rounds.specs.Serving.{MayMake}
use Rattle.tracker_rounds.specs.Trail.{entry_of, events_in, made_of}
use Rattle.tracker_rounds.proofs.Making.{Stands, events_more, stands_more}
use Rattle.tracker_rounds.proofs.served.Served.make.Goals as goal

pub invariant_of-self-2 : goal.invariant_of-self-2
invariant_of-self-2 g c =
    let s = c.self.inside in
    let old : List Entered = s.trail.items in
    let x : Entered = c.entered.result in
    let asked = c.args.asked.now in
    let told : Told = record { made = c.of.result; reply = c.call-reply.result; is_due = c.may_be_due-is_due.result } in
    let made : made_of c.args.ask.now told ≡ asked = c.requires.asks told c.of.ensures in
    let may : MayMake g.M.Watched.tells g.M.Watched.due s.maker c.args.by asked =
    subst (λ m. MayMake g.M.Watched.tells g.M.Watched.due m c.args.by asked) (sym (ap (λ v. v.2) c.self.view_is)) c.requires.may in
    let whole : c.push_reserved.new.self.items ≡ old ++ x ∷ [] = c.push_reserved.ensures.items ∙ ap (λ (l : List Entered). l ++ x ∷ []) c.reserve.ensures.items in
    let events = ap (λ (l : List Entered). events_in (map entry_of l)) whole ∙ events_more old x c.args.by c.args.ask.now told asked c.entered.ensures made in
    subst (λ (es : List Event). Stands g.M.Watched.tells g.M.Watched.makes g.M.Watched.due s.origin.value es c.call-reply.new.self c.in-Some.behind) (sym events)
    (stands_more g.M.Watched.tells g.M.Watched.makes g.M.Watched.due s.origin.value s.maker c.call-reply.new.self (events_in (map entry_of old)) (c.args.by - 1) asked c.call-reply.result
    s.behind c.in-Some.behind c.self.invariant c.call-reply.ensures
    (λ low. may (omega (arith, low))) (λ low. c.in-Some.ensures.look (omega (arith, low))) (λ high. c.in-Some.ensures.other (omega (arith, high))))
