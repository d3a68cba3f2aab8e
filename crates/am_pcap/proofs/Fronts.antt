-- The front of bytes that begin with a whole record: it is that record, and nothing else.
use Rattle.std.proofs.Common.{arith, sym, ap, ◌∙◌, ◌≡◌, ℕ, ◌+◌, Bool, List, length, take, drop}
use Rattle.std.proofs.lemmas.List.{take-append-drop}
use Rattle.am_pcap.specs.Packets.{word, IsWhole, first_packet}
use Rattle.am_pcap.proofs.Splitting.{word-append, first-append}
use Rattle.am_pcap.proofs.Feeding.{Whole, front_length}

-- the record stands in the front, and ends with it
pub front-whole : (big : Bool) (bytes : List ℕ) (n : ℕ) → IsWhole big bytes → n ≡ word big bytes 8 → Whole big (take (16 + n) bytes)
front-whole big bytes n w is =
    let long : length (take (16 + n) bytes) ≡ 16 + n = front_length (16 + n) bytes (omega (arith, w.body, is)) in
    let same : word big bytes 8 ≡ word big (take (16 + n) bytes) 8 =
    ap (λ x. word big x 8) (sym (take-append-drop (16 + n) bytes)) ∙ word-append big (take (16 + n) bytes) (drop (16 + n) bytes) 8 (omega (arith, long)) in
    record {
      whole = record {
        head = omega (arith, long);
        not_long = omega (arith, same, w.not_long);
        body = omega (arith, same, is, long);
      };
      ends = omega (arith, same, is, long);
    }

-- with the same packet
pub front-first :
    (big : Bool) (bytes : List ℕ) (n : ℕ) → IsWhole big bytes → n ≡ word big bytes 8
    → first_packet big (take (16 + n) bytes) ≡ first_packet big bytes
front-first big bytes n w is =
    sym (first-append big (take (16 + n) bytes) (drop (16 + n) bytes) (front-whole big bytes n w is).whole)
    ∙ ap (λ x. first_packet big x) (take-append-drop (16 + n) bytes)
