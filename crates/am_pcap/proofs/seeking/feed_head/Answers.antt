use Rattle.std.proofs.Common.{◌≡◌, ◌<◌, ℕ, List, length, take, sym, subst, ap, ◌∙◌}
use Rattle.std.specs.Prelude.{IsSome, min}
use Rattle.am_pcap.specs.Decoded.{Took, Refused}
use Rattle.am_pcap.specs.Seeking.{HeadFed}
use Rattle.am_pcap.proofs.HeadReading.{head-fed, head-bad}
use Rattle.am_pcap.proofs.seeking.feed_head.Goals as goal

pub returns-in-Ok-clause-fed : goal.returns-in-Ok-clause-fed
returns-in-Ok-clause-fed c =
    let front : take c.min-n.result c.bytes.result.now ≡ take c.min-n.result c.args.held.now = ap (λ x. take c.min-n.result x) c.bytes.ensures in
    subst (λ x. HeadFed c.args.decoder.now c.args.held.now c.feed.new.self x) (sym c.skip.ensures)
    (head-fed c.args.decoder.now c.feed.new.self c.args.held.now c.args.missing c.min-n.result c.in-Ok.taken c.requires.told c.requires.none_waits c.requires.missing
    (c.min-n.ensures ∙ ap (λ x. min c.args.missing x) c.len.ensures.value)
    (subst (λ x. Took c.args.decoder.now c.feed.new.self x c.in-Ok.taken) front c.in-Ok.ensures.took)
    (c.in-Ok.ensures.counts c.requires.none_waits) c.in-Ok.ensures.clean
    (subst (λ (x : List ℕ). c.in-Ok.taken < length x → IsSome c.feed.new.self.waiting) front c.in-Ok.ensures.all))

pub returns-in-Err-clause-bad : goal.returns-in-Err-clause-bad
returns-in-Err-clause-bad c =
    let front : take c.min-n.result c.bytes.result.now ≡ take c.min-n.result c.args.held.now = ap (λ x. take c.min-n.result x) c.bytes.ensures in
    head-bad c.args.decoder.now c.feed.new.self c.args.held.now c.args.missing c.min-n.result c.in-Err.error c.requires.told c.requires.none_waits c.requires.missing
    (c.min-n.ensures ∙ ap (λ x. min c.args.missing x) c.len.ensures.value)
    (subst (λ x. Refused c.args.decoder.now c.feed.new.self x c.in-Err.error) front (c.in-Err.ensures.refused c.requires.clean))
