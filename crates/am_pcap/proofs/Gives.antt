-- What a capture that found a record gives.
use Rattle.std.proofs.Common.{arith, sym, ap, subst, ◌∙◌, ◌≡◌, ℕ, ◌+◌, ◌≤◌, ◌^◌, false, List, [], ◌∷◌, ◌++◌, length, Option, Some, None}
use Rattle.std.proofs.lemmas.List.{length-append}
use Rattle.std.specs.Prelude.{IfSome, IfNone, MatchOption}
use Rattle.am_base.specs.Shelves.{Told}
use Rattle.am_pcap.specs.Packets.{Packet}
use Rattle.am_pcap.specs.Captures.{HasSummary}
use Rattle.am_pcap.specs.Decoded.{Decoded, after_take}
use Rattle.am_pcap.specs.Shown.{packet_shown}
use Rattle.am_pcap.specs.Readings.{Reading, HasGiven}
use Rattle.am_pcap.specs.Answers.{GivesRecord, GivesEnd, EndsReading}
use Rattle.am_pcap.specs.Seeking.{WereRead, Found, reading_with}
use Rattle.am_pcap.specs.declared.record.Record.{Record}
use Rattle.am_pcap.proofs.Shelved.{part-more}
use Rattle.am_pcap.proofs.ReadFiles.{reads-on}

-- what an answer with a record, or without one, says
pub record Gave (old : Reading) (before after : Option Told) (n : Reading) (r : Option Record) : Type 0 where
  pub given : IfSome r (λ x. GivesRecord old n before after x)
  pub number : IfSome r (λ x. x.number ≡ old.decoded.summary.count + 1)
  pub few : IfSome r (λ x. x.number ≤ 2 ^ 36)
  pub ended : IfNone r (EndsReading old before after)
  pub at_end : IfNone r (GivesEnd old before after)

pub gave :
    (old : Reading) {c : Reading} (new : Reading) (before after : Option Told) (n : Decoded) (r : Option Record)
    → c ≡ old → old.over ≡ false → Found (reading_with c.decoded c.held c.read) new before after → n ≡ after_take new.decoded
    → MatchOption r (new.decoded.waiting ≡ None) (λ x. (new.decoded.waiting ≡ Some (packet_shown x)) × (x.number ≡ new.decoded.summary.count))
    → Gave old before after (record { decoded = n; held = new.held; read = new.read; over = c.over }) r
gave old {c} new before after n None view going f is taken = absurd (cc (f.waits, taken))
gave old {c} new before after n (Some x) view going f is taken =
    let summary : n.summary ≡ new.decoded.summary = ap (λ y. y.summary) is in
    let old_summary : c.decoded.summary ≡ old.decoded.summary = ap (λ y. y.decoded.summary) view in
    let same : f.packet ≡ packet_shown x = cc (f.waits, taken.0) in
    let count : n.summary.count ≡ old.decoded.summary.count + 1 = ap (λ y. y.count) summary ∙ f.count ∙ ap (λ y. y.count + 1) old_summary in
    let number : x.number ≡ old.decoded.summary.count + 1 = taken.1 ∙ sym (ap (λ y. y.count) summary) ∙ count in
    let goes_on : c.over ≡ false = ap (λ y. y.over) view ∙ going in
    let head : n.summary.head ≡ old.decoded.summary.head = ap (λ y. y.head) summary ∙ f.head ∙ ap (λ y. y.head) old_summary in
    let given : (bytes : List ℕ) (ps : List Packet) → HasGiven old bytes ps
    → HasGiven (record { decoded = n; held = new.held; read = new.read; over = c.over }) (bytes ++ f.more) (ps ++ packet_shown x ∷ []) = λ bytes ps g.
    let here = subst (λ y. HasGiven y bytes ps) (sym view) g in
    let h : WereRead c.decoded c.held bytes ps = record { taken = here.taken; split = here.split; summary = here.summary } in
    let m : WereRead new.decoded new.held (bytes ++ f.more) (ps ++ packet_shown x ∷ []) =
    subst (λ y. WereRead new.decoded new.held (bytes ++ f.more) (ps ++ y ∷ [])) same (f.moves bytes ps h) in
    record {
      taken = m.taken;
      split = m.split;
      summary = subst (λ y. HasSummary m.taken (ps ++ packet_shown x ∷ []) y) (sym summary) m.summary;
      none_waits = ap (λ y. y.waiting) is;
      read = omega (arith, f.all, m.summary.taken, ap length m.split, length-append m.taken new.held);
    } in
    record {
      given = record {
        goes_on = goes_on;
        head = head;
        count = count;
        short = f.short;
        more = f.more;
        took = f.took;
        given = given;
        reads = λ first name h ps on.
            reads-on first after name (on.bytes ++ f.more) (record { decoded = n; held = new.held; read = new.read; over = c.over }) h (ps ++ packet_shown x ∷ [])
            (part-more first before after name on.bytes f.more on.part f.took) (given on.bytes ps on.given) goes_on (head ∙ on.head) f.short;
      };
      number = number;
      few = omega (arith, taken.1, f.few, f.all, f.short);
      ended = tt;
      at_end = tt;
    }
