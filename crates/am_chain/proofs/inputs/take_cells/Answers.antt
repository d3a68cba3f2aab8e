-- Why a node has no cells is a stop at its capture.
use Rattle.std.proofs.Common.{ap, ◌∙◌, ◌≡◌, arith, Err, length}
use Rattle.std.proofs.lemmas.List.{get_or_default}
use Rattle.am_domain.specs.Values.{NodeValue, no_node}
use Rattle.am_meter.specs.MeteredFiles.{capture_of}
use Rattle.am_chain.specs.Chains.{inputs}
use Rattle.am_chain.specs.Shown.{stop_shown}
use Rattle.am_chain.proofs.InputLemmas.{no-cells-stops}
use Rattle.am_chain.proofs.inputs.take_cells.Goals as goal

pub returns-in-Err : goal.returns-in-Err
returns-in-Err g c =
    let here = c.index-nodes-node.is ∙ get_or_default c.nodes.result.now c.args.node c.index-nodes-node.result no_node (omega (arith, ap (λ ns. length ns) c.nodes.ensures.value)) in
    let named : c.capture-name.result.now ≡ capture_of c.args.domain.now c.args.node =
    c.capture-name.ensures ∙ ap (λ (n : NodeValue). n.capture) here ∙ ap (λ ns. capture_of (record c.args.domain.now { nodes = ns }) c.args.node) c.nodes.ensures.value in
    no-cells-stops (inputs (g.S.Shelf.told c.args.shelf.now) (g.S.Shelf.faults c.args.shelf.now) (g.S.Shelf.missed c.args.shelf.now))
    (inputs (g.S.Shelf.told c.meter_file.new.shelf) (g.S.Shelf.faults c.meter_file.new.shelf) (g.S.Shelf.missed c.meter_file.new.shelf))
    c.args.domain.now c.args.node c.capture-name.result.now c.in-Err.error (stop_shown c.of_stream.result) named c.in-Err.ensures.refused
    (λ e. c.in-Err.ensures.missing (ap (λ x. Err x) e)) (λ e. c.in-Err.ensures.read_fault (ap (λ x. Err x) e)) c.of_stream.ensures
