use Rattle.std.proofs.Common.{◌<◌, List, ℕ, length, sym, subst}
use Rattle.std.specs.Prelude.{IsSome}
use Rattle.am_pcap.specs.Decoded.{Took, Refused}
use Rattle.am_pcap.specs.Seeking.{Drains}
use Rattle.am_pcap.proofs.SeekSteps.{drained, drain-refused}
use Rattle.am_pcap.proofs.seeking.drain.Goals as goal

pub returns-in-Ok-clause-drains : goal.returns-in-Ok-clause-drains
returns-in-Ok-clause-drains c =
    subst (λ x. Drains c.args.decoder.now c.args.held.now c.feed.new.self x) (sym c.skip.ensures)
    (drained c.args.decoder.now c.feed.new.self c.args.held.now c.in-Ok.n c.requires.none_waits (c.feed.ensures.head c.requires.head) c.in-Ok.ensures.clean
    (subst (λ x. Took c.args.decoder.now c.feed.new.self x c.in-Ok.n) c.bytes.ensures c.in-Ok.ensures.took)
    (c.in-Ok.ensures.counts c.requires.none_waits)
    (subst (λ (x : List ℕ). c.in-Ok.n < length x → IsSome c.feed.new.self.waiting) c.bytes.ensures c.in-Ok.ensures.all))

pub returns-in-Err-clause-refused : goal.returns-in-Err-clause-refused
returns-in-Err-clause-refused c =
    drain-refused c.args.decoder.now c.feed.new.self c.args.held.now c.in-Err.error c.requires.none_waits
    (subst (λ x. Refused c.args.decoder.now c.feed.new.self x c.in-Err.error) c.bytes.ensures (c.in-Err.ensures.refused c.requires.clean))
