use Rattle.std.proofs.Common.{◌≡◌, ◌∙◌, All, sym, ap, subst, length, arith}
use Rattle.am_world.specs.Captures.{NamesThere, IsRecordOf, IsSized, node_capture, node_records}
use Rattle.am_world.proofs.SendingLemmas.{valid-there}
use Rattle.am_world.proofs.RecordingLemmas.{capture-records, capture-length}
use Rattle.am_world.proofs.capture.capture_of.Goals as goal

pub sendings_of-requires : goal.sendings_of-requires
sendings_of-requires c =
    subst (All (NamesThere c.args.domain.now)) (sym c.events-events.ensures)
    (valid-there c.args.domain.now c.args.world.now c.requires.valid)

pub written-requires-clause-there : goal.written-requires-clause-there
written-requires-clause-there c =
    subst (All (NamesThere c.args.domain.now)) (sym c.events-events.ensures)
    (valid-there c.args.domain.now c.args.world.now c.requires.valid)

pub returns-clause-recorded : goal.returns-clause-recorded
returns-clause-recorded c =
    let d = c.args.domain.now in
    let events = c.args.world.now in
    let node = c.args.node in
    let sized : All IsSized (node_records d events node)
    = subst (λ es. All IsSized (node_records d es node)) c.events-events.ensures c.in_ok-capture.ensures.sized in
    let bytes : c.in_ok-capture.capture.items ≡ node_capture d events node
    = c.in_ok-capture.ensures.bytes ∙ ap (λ es. node_capture d es node) c.events-events.ensures in
    subst (IsRecordOf d events node) (sym bytes)
    (capture-records d c.flows.ensures.lawful events c.requires.valid.journeys node sized c.captures_are_spelled.ensures.read_back)

pub returns-clause-length : goal.returns-clause-length
returns-clause-length c =
    let d = c.args.domain.now in
    let events = c.args.world.now in
    let node = c.args.node in
    let sized : All IsSized (node_records d events node)
    = subst (λ es. All IsSized (node_records d es node)) c.events-events.ensures c.in_ok-capture.ensures.sized in
    let bytes : c.in_ok-capture.capture.items ≡ node_capture d events node
    = c.in_ok-capture.ensures.bytes ∙ ap (λ es. node_capture d es node) c.events-events.ensures in
    let long = capture-length d events node sized in
    omega (arith, ap length bytes, long)
