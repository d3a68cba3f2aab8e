use Rattle.std.proofs.Common.{[]}
use Rattle.am_meter.proofs.counting.count_parallel.Goals as goal

pub returns-in-Ok-count_batch-clause-counted : goal.returns-in-Ok-count_batch-clause-counted
returns-in-Ok-count_batch-clause-counted g c =
    let counted = c.in-Ok-count_batch.ensures.counted in
    record { marks = counted.0; marked = counted.1; metered = counted.3.metered [] (c.in-Ok.ensures.none c.args.node) }
