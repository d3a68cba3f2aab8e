-- A file header that became whole is taken, or refused.
use Rattle.std.proofs.Common.{arith, ap, subst, ◌∙◌, ◌≡◌, length, take, ◌++◌, ◌<◌, None}
use Rattle.std.proofs.lemmas.List.{length-append}
use Rattle.am_pcap.specs.Heads.{IsHead, IsRefusedHead}
use Rattle.am_pcap.proofs.Feeding.{shown-head, shown-bad_head, front_length}
use Rattle.am_pcap.proofs.decoder.Decoder.feed_head.Goals as goal

pub returns-in-Ok-clause-took : goal.returns-in-Ok-clause-took
returns-in-Ok-clause-took c =
    let head : c.self.inside.head ≡ None = ap (λ d. d.summary.head) c.self.view_is ∙ c.requires.head in
    let error : c.self.inside.error ≡ None = ap (λ d. d.summary.error) c.self.view_is ∙ c.requires.clean in
    let all : c.front.result ≡ c.self.inside.buffer.items ++ take c.fill-n.result c.args.piece.now = cc in
    let short : length c.self.inside.buffer.items < 24 = c.self.invariant.in_head head error in
    let n = front_length c.fill-n.result c.args.piece.now c.fill-n.ensures.within in
    let long : length (c.self.inside.buffer.items ++ take c.fill-n.result c.args.piece.now) ≡ 24 =
    omega (arith, short, n, length-append c.self.inside.buffer.items (take c.fill-n.result c.args.piece.now)) in
    let good : IsHead c.in-Ok.head (c.self.inside.buffer.items ++ take c.fill-n.result c.args.piece.now) =
    subst (λ x. IsHead c.in-Ok.head x) all c.in-Ok.ensures in
    rw (← c.self.view_is)
    (shown-head c.self.inside.buffer.items c.self.inside.head c.self.inside.error c.self.inside.count c.self.inside.taken c.self.inside.full
    c.self.inside.waiting c.args.piece.now c.fill-n.result c.in-Ok.head c.clear.new.self.items head error
    (c.self.invariant.not_full head) c.self.invariant.waits c.fill-n.ensures.within long good c.clear.ensures.items)

pub returns-in-Err-clause-refused : goal.returns-in-Err-clause-refused
returns-in-Err-clause-refused c =
    let head : c.self.inside.head ≡ None = ap (λ d. d.summary.head) c.self.view_is ∙ c.requires.head in
    let error : c.self.inside.error ≡ None = ap (λ d. d.summary.error) c.self.view_is ∙ c.requires.clean in
    let all : c.front.result ≡ c.self.inside.buffer.items ++ take c.fill-n.result c.args.piece.now = cc in
    let short : length c.self.inside.buffer.items < 24 = c.self.invariant.in_head head error in
    let n = front_length c.fill-n.result c.args.piece.now c.fill-n.ensures.within in
    let long : length (c.self.inside.buffer.items ++ take c.fill-n.result c.args.piece.now) ≡ 24 =
    omega (arith, short, n, length-append c.self.inside.buffer.items (take c.fill-n.result c.args.piece.now)) in
    let bad : IsRefusedHead c.in-Err.error (c.self.inside.buffer.items ++ take c.fill-n.result c.args.piece.now) =
    subst (λ x. IsRefusedHead c.in-Err.error x) all c.in-Err.ensures in
    rw (← c.self.view_is)
    (shown-bad_head c.self.inside.buffer.items c.self.inside.head c.self.inside.error c.self.inside.count c.self.inside.taken c.self.inside.full
    c.self.inside.waiting c.args.piece.now c.fill-n.result c.in-Err.error c.fill-n.new.buffer.items head error
    (c.self.invariant.not_full head) c.fill-n.ensures.within long bad c.fill-n.ensures.items)
