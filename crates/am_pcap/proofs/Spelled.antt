-- A record header, and as many bytes behind it as it says, are one record.
use Rattle.std.proofs.Common.{arith, refl, sym, ap, subst, ◌∙◌, ◌≡◌, ℕ, ◌+◌, ◌≤◌, Bool, List, [], ◌∷◌, ◌++◌, length, take, drop, true, false, get_or}
use Rattle.std.proofs.lemmas.List.{length-append}
use Rattle.std.proofs.Math.Seq.{drop-append_seam}
use Rattle.am_pcap.specs.Packets.{word, Packet, first_packet, HoldsPackets}
use Rattle.am_pcap.proofs.Splitting.{word-append, same_packet}
use Rattle.am_pcap.proofs.Steps.{take-whole, drop-whole}

pub record_spelled :
    (big : Bool) (head bytes : List ℕ) (seconds fraction captured original : ℕ) → length head ≡ 16
    → word big head 0 ≡ seconds → word big head 4 ≡ fraction → word big head 8 ≡ captured → word big head 12 ≡ original
    → length bytes ≡ captured → captured ≤ 262144
    → HoldsPackets big (head ++ bytes) (record { seconds = seconds; fraction = fraction; original = original; bytes = bytes } ∷ []) []
record_spelled big head bytes seconds fraction captured original size a b c d long few =
    let e0 = word-append big head bytes 0 (omega (arith, size)) in
    let e4 = word-append big head bytes 4 (omega (arith, size)) in
    let e8 = word-append big head bytes 8 (omega (arith, size)) in
    let e12 = word-append big head bytes 12 (omega (arith, size)) in
    let all : length (head ++ bytes) ≡ 16 + captured = omega (arith, length-append head bytes, size, long) in
    let w : word big (head ++ bytes) 8 ≡ captured = e8 ∙ c in
    let behind : drop 16 (head ++ bytes) ≡ bytes = subst (λ n. drop n (head ++ bytes) ≡ bytes) size (drop-append_seam head bytes) in
    let payload : take (word big (head ++ bytes) 8) (drop 16 (head ++ bytes)) ≡ bytes =
    ap (λ n. take n (drop 16 (head ++ bytes))) w ∙ ap (λ x. take captured x) behind ∙ take-whole captured bytes long in
    let p : Packet = record { seconds = seconds; fraction = fraction; original = original; bytes = bytes } in
    let rest : drop (16 + word big (head ++ bytes) 8) (head ++ bytes) ≡ [] =
    drop-whole (16 + word big (head ++ bytes) 8) (head ++ bytes) (omega (arith, all, w)) in (
      record { head = omega (arith, all); not_long = omega (arith, w, few); body = omega (arith, all, w) },
      same_packet p (first_packet big (head ++ bytes)) (sym (e0 ∙ a)) (sym (e4 ∙ b)) (sym (e12 ∙ d)) (sym payload),
      rest,
    )

-- four words of four bytes
abbrev pub four_words : List ℕ → List ℕ → List ℕ → List ℕ → List ℕ
four_words a b c d =
    get_or a 0 0 ∷ get_or a 1 0 ∷ get_or a 2 0 ∷ get_or a 3 0 ∷ get_or b 0 0 ∷ get_or b 1 0 ∷ get_or b 2 0 ∷ get_or b 3 0
    ∷ get_or c 0 0 ∷ get_or c 1 0 ∷ get_or c 2 0 ∷ get_or c 3 0 ∷ get_or d 0 0 ∷ get_or d 1 0 ∷ get_or d 2 0 ∷ get_or d 3 0 ∷ []

pub words-first : (big : Bool) (a b c d : List ℕ) → word big (four_words a b c d) 0 ≡ word big a 0
unfolding word
words-first true a b c d = refl
words-first false a b c d = refl

pub words-second : (big : Bool) (a b c d : List ℕ) → word big (four_words a b c d) 4 ≡ word big b 0
unfolding word
words-second true a b c d = refl
words-second false a b c d = refl

pub words-third : (big : Bool) (a b c d : List ℕ) → word big (four_words a b c d) 8 ≡ word big c 0
unfolding word
words-third true a b c d = refl
words-third false a b c d = refl

pub words-fourth : (big : Bool) (a b c d : List ℕ) → word big (four_words a b c d) 12 ≡ word big d 0
unfolding word
words-fourth true a b c d = refl
words-fourth false a b c d = refl
