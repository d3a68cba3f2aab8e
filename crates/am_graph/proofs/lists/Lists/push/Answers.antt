use Rattle.std.proofs.Common.{◌<◌, ◌∙◌, ap, arith, length}
use Rattle.std.proofs.lemmas.List.{length-map}
use Rattle.am_graph.specs.Lists.{with_item}
use Rattle.am_graph.proofs.PlaceLemmas.{pushed}
use Rattle.am_graph.proofs.lists.Lists.push.Goals as goal

pub returns : goal.returns
returns c =
    let same = ap length c.self.view_is in
    let count = length-map c.self.inside.lists.items (λ v. v.items) in
    let within : c.args.place < length c.self.inside.lists.items = omega (arith, c.requires, same, count) in
    pushed (λ v. v.items) c.self.inside.lists.items c.args.place c.args.item c.index_mut.result.now c.push.new.self within
    c.index_mut.ensures.value c.in_ok-push.ensures.items
    ∙ ap (λ ls. with_item ls c.args.place c.args.item) c.self.view_is
