-- The chain, its end and both marks are those of one walk.
use Rattle.std.proofs.Common.{refl}
use Rattle.std.specs.Prelude.{flat_map}
use Rattle.am_ip6.specs.Shown.{ending_shown}
use Rattle.am_ip6.specs.Seen.{seen_shown}
use Rattle.am_pcap.specs.Shown.{packet_shown}
use Rattle.am_run.specs.Lines.{record_text, header_text, ending_text, seen_text}
use Rattle.am_run.proofs.ShowSteps.{on-ok, walk_pieces}
use Rattle.am_run.proofs.commands.show.push_walk.Goals as goal

pub returns : goal.returns
returns c =
    let hs = c.in_ok-push_headers.ensures.0 in
    let has = c.in_ok-push_headers.ensures.1 in
    let ended = ending_shown c.walk_ending.result in
    let ends = c.walk_ending.ensures hs has in
    on-ok c.push_end.result
    (λ e. record {
      held = _;
      text = record {
        headers = hs;
        ended = ended;
        hop = seen_shown c.find_mark-hop.result;
        destination = seen_shown c.find_mark-destination.result;
        has = has;
        ends = ends;
        in_hop = c.find_mark-hop.ensures.each hs ended has ends;
        in_destination = c.find_mark-destination.ensures.each hs ended has ends;
        shown = refl;
      };
      added = walk_pieces _ _ _ _ (record_text c.args.form.nano c.args.packet.now.number (packet_shown c.args.packet.now))
          (flat_map header_text hs) (ending_text ended) (seen_text (seen_shown c.find_mark-hop.result)) (seen_text (seen_shown c.find_mark-destination.result))
          c.in_ok-push_start.ensures c.in_ok-push_headers.ensures.2 e;
    })
    c.push_end.ensures
