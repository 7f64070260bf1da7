use Rattle.tracker_serve.proofs.served_desk.counted_call.Goals as goal

pub returns : goal.returns
returns g c = record {
  step = c.call.ensures.step;
  rows = c.call.ensures.rows;
  told = c.call.ensures.told;
  owed = c.call.ensures.cause;
  unasked = c.call.ensures.unasked;
  left = c.call.ensures.left;
}
