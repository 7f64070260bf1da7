use Rattle.tracker_loading.proofs.loading.load.Goals as goal

pub assemble-requires : goal.assemble-requires
assemble-requires c =
    let read = c.in_ok-read.read in
    c.loaded_rows_are_a_tracker.ensures.tracker read.format c.args.rows.now read.made c.in_ok-read.ensures.loads
