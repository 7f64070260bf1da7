use Rattle.std.proofs.Common.{◌≡◌, ◌≤◌, ℕ, List, Option, Some, None, IfSome, length, find, position, get_or, ap, sym, ◌∙◌, subst}
use Rattle.move_feeds.specs.Feed.{Feed, acknowledged, is_of, last}
use Rattle.move_feeds.specs.Held.{HeldFeed, feeds_of}
use Rattle.move_feeds.proofs.Places.{IsFirst, changed_at, changed_none, find_changed, find_first, find_none, is_first}
use Rattle.move_feeds.proofs.feeds.acknowledge_first.Goals as goal

pub acknowledge-requires : goal.acknowledge-requires
acknowledge-requires c =
    let is = is_of c.args.no c.args.user.0 in
    let first = is_first is c.args.feeds.now c.in-Some.at c.index-feeds-at.result (sym c.place_of.ensures ∙ c.in-Some.is) in
    subst (λ (o : Option Feed). IfSome o (λ (f : Feed). c.args.upto ≤ last f)) (find_first is c.args.feeds.now c.in-Some.at c.index-feeds-at.result first) c.requires

pub returns-in-Some-clause-feeds : goal.returns-in-Some-clause-feeds
returns-in-Some-clause-feeds c =
    let is = is_of c.args.no c.args.user.0 in
    let first = is_first is c.args.feeds.now c.in-Some.at c.index-feeds-at.result (sym c.place_of.ensures ∙ c.in-Some.is) in
    changed_at is (acknowledged c.args.upto) c.args.feeds.now c.in-Some.at c.index-feeds-at.result c.acknowledge.new.self first c.acknowledge.ensures

pub returns-in-Some-clause-kept : goal.returns-in-Some-clause-kept
returns-in-Some-clause-kept c =
    let is = is_of c.args.no c.args.user.0 in
    let first = is_first is c.args.feeds.now c.in-Some.at c.index-feeds-at.result (sym c.place_of.ensures ∙ c.in-Some.is) in
    subst (λ (o : Option Feed). IfSome o (λ (f : Feed). c.waiting.result ≡ length f.waiting))
    (sym (find_changed is c.args.feeds.now c.in-Some.at c.index-feeds-at.result c.acknowledge.new.self first (ap is c.acknowledge.ensures ∙ first.is))) c.waiting.ensures

pub returns-in-None-clause-feeds : goal.returns-in-None-clause-feeds
returns-in-None-clause-feeds c =
    let is = is_of c.args.no c.args.user.0 in
    sym (changed_none is (acknowledged c.args.upto) (feeds_of c.args.feeds.now) (find_none is c.args.feeds.now (sym c.place_of.ensures ∙ c.in-None.is)))

pub returns-in-None-clause-kept : goal.returns-in-None-clause-kept
returns-in-None-clause-kept c =
    let is = is_of c.args.no c.args.user.0 in
    subst (λ (o : Option Feed). IfSome o (λ (f : Feed). 0 ≡ length f.waiting)) (sym (find_none is c.args.feeds.now (sym c.place_of.ensures ∙ c.in-None.is))) tt
