use Rattle.std.proofs.Common.{rules}
use Rattle.std.proofs.lemmas.Fn.{always_returns_same}
use Rattle.tracker_loading.specs.Reading.{stands_before}
use Rattle.tracker_loading.proofs.Lookup.{parted}
use Rattle.tracker_loading.proofs.places.count_before.Goals as goal

-- the closure says whether a row stands before that kind and number
pub returns : goal.returns
returns c =
    let facts = c.partition_point.ensures in
    record {
      within = facts.bound;
      point = facts.partitioned (stands_before c.args.kind c.args.no) (always_returns_same _ _ _ (λ a b g called. search rules))
          (parted c.args.rows.now c.args.kind c.args.no c.requires);
    }
