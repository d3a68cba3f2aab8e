-- A capture is its file header and its records, each as it is spelled; and what is so spelled is read back.
use Rattle.std.proofs.Common.{arith, refl, sym, ap, subst, ◌∙◌, ◌≡◌, ℕ, ◌+◌, ◌<◌, ◌≤◌, ◌^◌, Bool, true, false, List, [], ◌∷◌, ◌++◌, length, take, drop, get_or, All, append_assoc, inl, inr}
use Rattle.std.specs.Prelude.{flat_map, slice_index}
use Rattle.std.proofs.lemmas.List.{length-append, length-take, get_or_past, length-take-le, length-drop, take-append-drop, take_at, drop_at, drop-drop, get_or-drop, get_or-take}
use Rattle.std.proofs.lemmas.List.Elements.{All-nil, All-cons, All-head, All-tail}
use Rattle.std.proofs.lemmas.Bool.{cases_lt}
use Rattle.std.proofs.Math.Seq.{take-add}
use Rattle.std.proofs.lemmas.Nat.{be_bytes_4, le_bytes_4, from_be_bytes-to_be_bytes_4, from_le_bytes-to_le_bytes_4}
use Rattle.am_pcap.specs.Packets.{word, Packet, IsWhole, first_packet, behind_first, HoldsPackets}
use Rattle.am_pcap.specs.Spelling.{word_spelled, head_spelled, record_bytes, capture_bytes, FitsRecord, HasBytes, IsSpelled}
use Rattle.am_pcap.specs.Heads.{IsHead}
use Rattle.am_pcap.specs.Captures.{IsCapture}
use Rattle.am_pcap.specs.declared.head.Head.{Head}
use Rattle.am_pcap.proofs.Splitting.{packets-append, packets-join}
use Rattle.am_pcap.proofs.Spelled.{record_spelled, four_words, words-first, words-second, words-third, words-fourth}

-- each number of the list is a byte
abbrev Bytes : List ℕ → Type 0
Bytes bytes = (k : ℕ) → slice_index bytes k < 2 ^ 8

bytes-drop : (n : ℕ) (bytes : List ℕ) → Bytes bytes → Bytes (drop n bytes)
bytes-drop n bytes small k = omega (arith, get_or-drop n bytes k 0, small (n + k))

bytes-take : (n : ℕ) (bytes : List ℕ) → Bytes bytes → Bytes (take n bytes)
bytes-take n bytes small k = elim (cases_lt k n) [
  | inl low ↦ omega (arith, get_or-take n bytes k 0 low, small k)
  | inr high ↦ omega (arith, get_or_past (take n bytes) k 0 (omega (arith, high, length-take n bytes)))
]

-- a number that is read has 32 bits
word-small : (big : Bool) (bytes : List ℕ) (at : ℕ) → Bytes bytes → word big bytes at < 2 ^ 32
unfolding word
word-small true bytes at small = omega (arith, small at, small (at + 1), small (at + 2), small (at + 3))
word-small false bytes at small = omega (arith, small at, small (at + 1), small (at + 2), small (at + 3))

-- and its spelling is where it was read
word-back : (big : Bool) (bytes : List ℕ) (at : ℕ) → at + 4 ≤ length bytes → Bytes bytes → word_spelled big (word big bytes at) ≡ take 4 (drop at bytes)
unfolding word
word-back true bytes at within small =
    let part = take 4 (drop at bytes) in
    let size : length part ≡ 4 = length-take-le 4 (drop at bytes) (omega (arith, within, length-drop at bytes)) in
    let a : get_or part 0 0 ≡ get_or bytes at 0 =
    get_or-take 4 (drop at bytes) 0 0 (omega arith) ∙ get_or-drop at bytes 0 0 ∙ ap (λ k. get_or bytes k 0) (omega arith) in
    let b = get_or-take 4 (drop at bytes) 1 0 (omega arith) ∙ get_or-drop at bytes 1 0 in
    let c = get_or-take 4 (drop at bytes) 2 0 (omega arith) ∙ get_or-drop at bytes 2 0 in
    let d = get_or-take 4 (drop at bytes) 3 0 (omega arith) ∙ get_or-drop at bytes 3 0 in
    be_bytes_4 part (word true bytes at) size (bytes-take 4 (drop at bytes) (bytes-drop at bytes small)) (omega (arith, a, b, c, d))
word-back false bytes at within small =
    let part = take 4 (drop at bytes) in
    let size : length part ≡ 4 = length-take-le 4 (drop at bytes) (omega (arith, within, length-drop at bytes)) in
    let a : get_or part 0 0 ≡ get_or bytes at 0 =
    get_or-take 4 (drop at bytes) 0 0 (omega arith) ∙ get_or-drop at bytes 0 0 ∙ ap (λ k. get_or bytes k 0) (omega arith) in
    let b = get_or-take 4 (drop at bytes) 1 0 (omega arith) ∙ get_or-drop at bytes 1 0 in
    let c = get_or-take 4 (drop at bytes) 2 0 (omega arith) ∙ get_or-drop at bytes 2 0 in
    let d = get_or-take 4 (drop at bytes) 3 0 (omega arith) ∙ get_or-drop at bytes 3 0 in
    le_bytes_4 part (word false bytes at) size (bytes-take 4 (drop at bytes) (bytes-drop at bytes small)) (omega (arith, a, b, c, d))

-- sixteen bytes as four times four
take-words : (bytes : List ℕ) → take 16 bytes ≡ take 4 (drop 0 bytes) ++ take 4 (drop 4 bytes) ++ take 4 (drop 8 bytes) ++ take 4 (drop 12 bytes)
take-words bytes =
    take-add 12 4 bytes
    ∙ ap (λ (l : List ℕ). l ++ take 4 (drop 12 bytes)) (take-add 8 4 bytes)
    ∙ ap (λ (l : List ℕ). l ++ take 4 (drop 8 bytes) ++ take 4 (drop 12 bytes)) (take-add 4 4 bytes)

-- the record that stands in front is spelled there
record-back : (big : Bool) (bytes : List ℕ) → IsWhole big bytes → Bytes bytes → bytes ≡ record_bytes big (first_packet big bytes) ++ behind_first big bytes
record-back big bytes whole small =
    let n = word big bytes 8 in
    let payload = take n (drop 16 bytes) in
    let size : length payload ≡ n = length-take-le n (drop 16 bytes) (omega (arith, whole.body, length-drop 16 bytes)) in
    let a = word-back big bytes 0 (omega (arith, whole.head)) small in
    let b = word-back big bytes 4 (omega (arith, whole.head)) small in
    let c = ap (λ k. word_spelled big k) size ∙ word-back big bytes 8 (omega (arith, whole.head)) small in
    let d = word-back big bytes 12 (omega (arith, whole.head)) small in
    let head : head_spelled big (word big bytes 0) (word big bytes 4) (length payload) (word big bytes 12) ≡ take 16 bytes =
    ap (λ (l : List ℕ). l ++ word_spelled big (word big bytes 4) ++ word_spelled big (length payload) ++ word_spelled big (word big bytes 12)) a
    ∙ ap (λ (l : List ℕ). take 4 (drop 0 bytes) ++ l ++ word_spelled big (length payload) ++ word_spelled big (word big bytes 12)) b
    ∙ ap (λ (l : List ℕ). take 4 (drop 0 bytes) ++ take 4 (drop 4 bytes) ++ l ++ word_spelled big (word big bytes 12)) c
    ∙ ap (λ (l : List ℕ). take 4 (drop 0 bytes) ++ take 4 (drop 4 bytes) ++ take 4 (drop 8 bytes) ++ l) d
    ∙ sym (take-words bytes) in
    let rest : payload ++ behind_first big bytes ≡ drop 16 bytes =
    ap (λ (l : List ℕ). payload ++ l) (ap (λ k. drop k bytes) (omega arith) ∙ sym (drop-drop n 16 bytes)) ∙ take-append-drop n (drop 16 bytes) in
    sym (ap (λ (l : List ℕ). (l ++ payload) ++ behind_first big bytes) head
    ∙ append_assoc (take 16 bytes) payload (behind_first big bytes)
    ∙ ap (λ (l : List ℕ). take 16 bytes ++ l) rest
    ∙ take-append-drop 16 bytes)

-- and fits one
first-fits : (big : Bool) (bytes : List ℕ) → IsWhole big bytes → Bytes bytes → FitsRecord (first_packet big bytes)
first-fits big bytes whole small = record {
  seconds = word-small big bytes 0 small;
  fraction = word-small big bytes 4 small;
  original = word-small big bytes 12 small;
  captured = omega (arith, length-take-le (word big bytes 8) (drop 16 bytes) (omega (arith, whole.body, length-drop 16 bytes)), whole.not_long);
}

-- records to the end of the bytes
pub record AreSpelled (big : Bool) (bytes : List ℕ) (ps : List Packet) : Type 0 where
  pub spelled : bytes ≡ flat_map (λ p. record_bytes big p) ps
  pub fit : All FitsRecord ps
  pub are_bytes : All HasBytes ps

records-back : (big : Bool) (bytes : List ℕ) (ps : List Packet) → HoldsPackets big bytes ps [] → Bytes bytes → AreSpelled big bytes ps
records-back big bytes [] holds small = record { spelled = holds; fit = All-nil FitsRecord; are_bytes = All-nil HasBytes }
records-back big bytes (p ∷ ps) holds small =
    let rest = behind_first big bytes in
    let n = word big bytes 8 in
    let more = records-back big rest ps holds.2 (bytes-drop (16 + n) bytes small) in
    let payload : HasBytes (first_packet big bytes) = bytes-take n (drop 16 bytes) (bytes-drop 16 bytes small) in
    record {
      spelled =
          record-back big bytes holds.0 small
          ∙ ap (λ (q : Packet). record_bytes big q ++ rest) (sym holds.1)
          ∙ ap (λ (l : List ℕ). record_bytes big p ++ l) more.spelled;
      fit = All-cons FitsRecord p ps (subst FitsRecord (sym holds.1) (first-fits big bytes holds.0 small)) more.fit;
      are_bytes = All-cons HasBytes p ps (subst HasBytes (sym holds.1) payload) more.are_bytes;
    }

-- a capture is spelled
pub capture-spelled : (bytes : List ℕ) (h : Head) (ps : List Packet) → Bytes bytes → IsCapture bytes h ps → IsSpelled bytes h ps
capture-spelled bytes h ps small capture =
    let records = records-back h.form.big (drop 24 bytes) ps capture.records (bytes-drop 24 bytes small) in
    record {
      spelled =
          sym (take-append-drop 24 bytes)
          ∙ ap (λ (l : List ℕ). l ++ drop 24 bytes) (sym capture.head.raw)
          ∙ ap (λ (l : List ℕ). h.raw ++ l) records.spelled;
      fit = records.fit;
      are_bytes = records.are_bytes;
    }

-- a number that is spelled is read
word-of : (big : Bool) (n : ℕ) → n < 2 ^ 32 → word big (word_spelled big n) 0 ≡ n
unfolding word
word-of true n small = omega (arith, from_be_bytes-to_be_bytes_4 n small)
word-of false n small = omega (arith, from_le_bytes-to_le_bytes_4 n small)

head-as :
    (big : Bool) (a b c d : ℕ)
    → head_spelled big a b c d ≡ four_words (word_spelled big a) (word_spelled big b) (word_spelled big c) (word_spelled big d)
head-as true a b c d = refl
head-as false a b c d = refl

-- and so is a record
record-of : (big : Bool) (p : Packet) → FitsRecord p → HoldsPackets big (record_bytes big p) (p ∷ []) []
record-of big p fits =
    let n = length p.bytes in
    let head = head-as big p.seconds p.fraction n p.original in
    let x = word_spelled big p.seconds in
    let y = word_spelled big p.fraction in
    let z = word_spelled big n in
    let w = word_spelled big p.original in
    record_spelled big (head_spelled big p.seconds p.fraction n p.original) p.bytes p.seconds p.fraction n p.original
    (ap length head)
    (ap (λ (l : List ℕ). word big l 0) head ∙ words-first big x y z w ∙ word-of big p.seconds fits.seconds)
    (ap (λ (l : List ℕ). word big l 4) head ∙ words-second big x y z w ∙ word-of big p.fraction fits.fraction)
    (ap (λ (l : List ℕ). word big l 8) head ∙ words-third big x y z w ∙ word-of big n (omega (arith, fits.captured)))
    (ap (λ (l : List ℕ). word big l 12) head ∙ words-fourth big x y z w ∙ word-of big p.original fits.original)
    refl fits.captured

records-of : (big : Bool) (ps : List Packet) → All FitsRecord ps → HoldsPackets big (flat_map (λ p. record_bytes big p) ps) ps []
records-of big [] fit = refl
records-of big (p ∷ ps) fit =
    let more : List ℕ = flat_map (λ q. record_bytes big q) ps in
    packets-join big (record_bytes big p ++ more) (p ∷ []) more ps []
    (packets-append big (record_bytes big p) (p ∷ []) [] more (record-of big p (All-head FitsRecord p ps fit)))
    (records-of big ps (All-tail FitsRecord p ps fit))

-- what is spelled as a capture is one
pub written-back : (h : Head) (ps : List Packet) → length h.raw ≡ 24 → IsHead h h.raw → All FitsRecord ps → IsCapture (capture_bytes h ps) h ps
written-back h ps size head fit =
    let records : List ℕ = flat_map (λ p. record_bytes h.form.big p) ps in
    record {
      whole = omega (arith, size, length-append h.raw records);
      head = subst (λ (l : List ℕ). IsHead h l) (sym (take_at h.raw records 24 size)) head;
      records = subst (λ (l : List ℕ). HoldsPackets h.form.big l ps []) (sym (drop_at h.raw records 24 size)) (records-of h.form.big ps fit);
    }
