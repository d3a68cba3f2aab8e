use Rattle.std.proofs.Common.{◌≡◌, ◌∙◌, ◌++◌, ap, arith}
use Rattle.am_world.specs.Captures.{node_head}
use Rattle.am_world.proofs.WritingLemmas.{appended-bytes, head-alone}
use Rattle.am_world.proofs.capture.put_head.Goals as goal

pub returns : goal.returns
returns c =
    let old = c.args.capture.now.items in
    let raw = c.file_head-raw.result in
    let put = c.in_ok-extend_from_slice.ensures.items in
    let is : raw ≡ node_head.raw = head-alone raw (omega arith) (record {
      bytes = appended-bytes old raw c.extend_from_slice.new.self.items put c.type_inv.capture;
      magic = c.file_head-raw.ensures.read_back.magic;
      major = c.file_head-raw.ensures.read_back.version.0;
      minor = c.file_head-raw.ensures.read_back.version.1;
      zone = c.file_head-raw.ensures.zone;
      accuracy = c.file_head-raw.ensures.accuracy;
      snapshot = c.file_head-raw.ensures.snapshot;
      link = c.file_head-raw.ensures.upper;
    }) in
    put ∙ ap (λ bs. old ++ bs) is
