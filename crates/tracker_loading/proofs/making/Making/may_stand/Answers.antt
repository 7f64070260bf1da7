use Rattle.tracker_loading.proofs.Joined.{none_before}
use Rattle.tracker_loading.proofs.making.Making.may_stand.Goals as goal

pub is_in_turn-requires : goal.is_in_turn-requires
is_in_turn-requires c = none_before c.args.self.now.histories c.change-2.result c.requires.next
