-- The record is added with its mark.
use Rattle.std.proofs.lemmas.List.{get_or_default}
use Rattle.std.proofs.Common.{arith, refl, ap, subst, ◌∙◌, ◌≡◌, ◌+◌, ℕ, length, drop}
use Rattle.std.specs.Prelude.{slice_index, slice_set, max}
use Rattle.am_pcap.specs.Shown.{packet_shown}
use Rattle.am_insert.specs.Edits.{edited}
use Rattle.am_run.specs.Marking.{PlansMark}
use Rattle.am_run.proofs.MarkLemmas.{inserted-longer, changed-bytes, captured-more}
use Rattle.am_run.proofs.commands.mark.mark_record.Goals as goal

pub returns-clause-marked : goal.returns-clause-marked
returns-clause-marked c =
    let plan = c.in-Ok.ensures.plan in
    let packet = edited c.in-Ok.plan.edit (drop c.args.found.at c.args.packet.now.bytes.now) in
    let longer = inserted-longer (drop c.args.found.at c.args.packet.now.bytes.now) plan.mark c.args.domain.now.kind packet plan.inserted in
    let newest : c.index-newest.result.now ≡ slice_index c.args.state.now.newest.items c.args.found.flow =
    c.index-newest.ensures
    ∙ get_or_default c.args.state.now.newest.items c.args.found.flow c.index-newest.result.now 0 (omega (arith, c.requires.flows, c.requires.of_flow.first.within)) in (
      _,
      c.in-Ok-change_record.ensures.added,
      record {
        block = c.in-Ok.plan.block;
        packet = packet;
        plan = subst
            (λ (n : ℕ). PlansMark c.args.domain.now c.args.head.now (packet_shown c.args.packet.now) c.args.found.at c.args.found.flow n c.in-Ok.plan.block packet)
            newest plan;
        piece_is =
            changed-bytes c.args.head.now.form.big (packet_shown c.args.packet.now) c.args.found.at packet
            (length c.args.packet.now.bytes.now + 8) (c.args.packet.now.original + 8) _
            (captured-more c.args.packet.now.bytes.now packet c.args.found.at c.requires.within longer) refl;
        newest_is = ap (λ n. slice_set c.args.state.now.newest.items c.args.found.flow n) (c.max.ensures ∙ ap (λ n. max n (c.in-Ok.plan.block + 1)) newest);
      },
    )
