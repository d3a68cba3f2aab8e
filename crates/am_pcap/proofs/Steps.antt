-- How the summary of bytes grows with the bytes behind them.
use Rattle.std.proofs.Common.{arith, refl, sym, ap, subst, ◌≡◌, ℕ, ◌+◌, List, [], ◌∷◌, ◌++◌, length, take, drop, Option, Some, None}
use Rattle.std.proofs.lemmas.List.{length-append, take-append-le, drop-append-le, append-nil}
use Rattle.std.proofs.Math.Seq.{take-append_seam, drop-append_seam}
use Rattle.am_pcap.specs.Packets.{word, Packet, IsWhole, first_packet, behind_first, HoldsPackets}
use Rattle.am_pcap.specs.Heads.{IsHead, IsRefusedHead}
use Rattle.am_pcap.specs.Captures.{HasSummary, IsTooLong, IsRecordError}
use Rattle.am_pcap.specs.declared.refusal.CapError.{CapError}
use Rattle.am_pcap.specs.declared.head.Head.{Head}
use Rattle.am_pcap.proofs.Splitting.{packets-append, packets-join}

-- a list whose length is this is its own front
pub take-whole : (n : ℕ) (xs : List ℕ) → length xs ≡ n → take n xs ≡ xs
take-whole n xs h =
    let e : take (length xs) (xs ++ []) ≡ xs = take-append_seam xs [] in
    let f : take (length xs) xs ≡ xs = subst (λ y. take (length xs) y ≡ xs) (append-nil xs) e in
    subst (λ m. take m xs ≡ xs) h f

pub drop-whole : (n : ℕ) (xs : List ℕ) → length xs ≡ n → drop n xs ≡ []
drop-whole n xs h =
    let e : drop (length xs) (xs ++ []) ≡ [] = drop-append_seam xs [] in
    let f : drop (length xs) xs ≡ [] = subst (λ y. drop (length xs) y ≡ []) (append-nil xs) e in
    subst (λ m. drop m xs ≡ []) h f

-- without any bytes
pub summary-none : HasSummary [] [] (record { head = None; count = 0; unfinished = []; taken = 0; error = None })
summary-none = record { count = refl; taken = refl; split = record { short = omega arith; none = refl; rest = refl } }

-- it is there, and refused
pub head-refused :
    (bytes : List ℕ) (ps : List Packet) (count taken : ℕ) (unfinished more : List ℕ) (e : CapError)
    → HasSummary bytes ps (record { head = None; count = count; unfinished = unfinished; taken = taken; error = None })
    → length (unfinished ++ more) ≡ 24 → IsRefusedHead e (unfinished ++ more)
    → HasSummary (bytes ++ more) ps (record { head = None; count = count; unfinished = unfinished ++ more; taken = taken + length more; error = Some e })
head-refused bytes ps count taken unfinished more e s long bad =
    let f : unfinished ++ more ≡ bytes ++ more = ap (λ x. x ++ more) s.split.rest in
    let long' : length (bytes ++ more) ≡ 24 = subst (λ x. length x ≡ 24) f long in
    let bad' : IsRefusedHead e (bytes ++ more) = subst (λ x. IsRefusedHead e x) f bad in
    record {
      count = s.count;
      taken = omega (arith, s.taken, length-append bytes more);
      split = record {
        whole = omega (arith, long');
        bad = subst (λ x. IsRefusedHead e x) (sym (take-whole 24 (bytes ++ more) long')) bad';
        none = s.split.none;
        rest = f;
      };
    }

-- it is there, and taken
pub head-taken :
    (bytes : List ℕ) (ps : List Packet) (count taken : ℕ) (unfinished more : List ℕ) (h : Head)
    → HasSummary bytes ps (record { head = None; count = count; unfinished = unfinished; taken = taken; error = None })
    → length (unfinished ++ more) ≡ 24 → IsHead h (unfinished ++ more)
    → HasSummary (bytes ++ more) ps (record { head = Some h; count = count; unfinished = []; taken = taken + length more; error = None })
head-taken bytes ps count taken unfinished more h s long good =
    let f : unfinished ++ more ≡ bytes ++ more = ap (λ x. x ++ more) s.split.rest in
    let long' : length (bytes ++ more) ≡ 24 = subst (λ x. length x ≡ 24) f long in
    let good' : IsHead h (bytes ++ more) = subst (λ x. IsHead h x) f good in
    let none : drop 24 (bytes ++ more) ≡ [] = drop-whole 24 (bytes ++ more) long' in
    record {
      count = s.count;
      taken = omega (arith, s.taken, length-append bytes more);
      split = record {
        whole = omega (arith, long');
        head = subst (λ x. IsHead h x) (sym (take-whole 24 (bytes ++ more) long')) good';
        records = subst (λ x. HoldsPackets h.form.big (drop 24 (bytes ++ more)) x []) (sym s.split.none) none;
        no_more = λ (w : IsWhole h.form.big []). omega (arith, w.head);
        refused = λ (w : IsTooLong h.form.big []). omega (arith, w.head);
      };
    }

-- more bytes of a record that isn't whole yet, or that is refused
pub record-grows :
    (bytes : List ℕ) (ps : List Packet) (h : Head) (count taken : ℕ) (unfinished more : List ℕ) (before error : Option CapError)
    → HasSummary bytes ps (record { head = Some h; count = count; unfinished = unfinished; taken = taken; error = before })
    → (IsWhole h.form.big (unfinished ++ more) → ⊥) → IsRecordError h.form.big (count + 1) (unfinished ++ more) error
    → HasSummary (bytes ++ more) ps (record { head = Some h; count = count; unfinished = unfinished ++ more; taken = taken + length more; error = error })
record-grows bytes ps h count taken unfinished more before error s stuck refused =
    let a : take 24 (bytes ++ more) ≡ take 24 bytes = take-append-le 24 bytes more s.split.whole in
    let b : drop 24 (bytes ++ more) ≡ drop 24 bytes ++ more = drop-append-le 24 bytes more s.split.whole in
    record {
      count = s.count;
      taken = omega (arith, s.taken, length-append bytes more);
      split = record {
        whole = omega (arith, s.split.whole, length-append bytes more);
        head = subst (λ x. IsHead h x) (sym a) s.split.head;
        records = subst (λ x. HoldsPackets h.form.big x ps (unfinished ++ more)) (sym b)
            (packets-append h.form.big (drop 24 bytes) ps unfinished more s.split.records);
        no_more = stuck;
        refused = subst (λ n. IsRecordError h.form.big (n + 1) (unfinished ++ more) error) s.count refused;
      };
    }

-- records of what was unfinished and of the bytes behind it
pub records-added :
    (bytes : List ℕ) (ps : List Packet) (h : Head) (count taken : ℕ) (unfinished more : List ℕ) (before error : Option CapError)
    (qs : List Packet) (rest : List ℕ)
    → HasSummary bytes ps (record { head = Some h; count = count; unfinished = unfinished; taken = taken; error = before })
    → HoldsPackets h.form.big (unfinished ++ more) qs rest → (IsWhole h.form.big rest → ⊥)
    → IsRecordError h.form.big (count + length qs + 1) rest error
    → HasSummary (bytes ++ more) (ps ++ qs) (record { head = Some h; count = count + length qs; unfinished = rest; taken = taken + length more; error = error })
records-added bytes ps h count taken unfinished more before error qs rest s holds stuck refused =
    let a : take 24 (bytes ++ more) ≡ take 24 bytes = take-append-le 24 bytes more s.split.whole in
    let b : drop 24 (bytes ++ more) ≡ drop 24 bytes ++ more = drop-append-le 24 bytes more s.split.whole in
    let n : count + length qs ≡ length (ps ++ qs) = omega (arith, s.count, length-append ps qs) in
    record {
      count = n;
      taken = omega (arith, s.taken, length-append bytes more);
      split = record {
        whole = omega (arith, s.split.whole, length-append bytes more);
        head = subst (λ x. IsHead h x) (sym a) s.split.head;
        records = subst (λ x. HoldsPackets h.form.big x (ps ++ qs) rest) (sym b)
            (packets-join h.form.big (drop 24 bytes ++ more) ps (unfinished ++ more) qs rest
            (packets-append h.form.big (drop 24 bytes) ps unfinished more s.split.records) holds);
        no_more = stuck;
        refused = subst (λ m. IsRecordError h.form.big (m + 1) rest error) n refused;
      };
    }

-- a record is whole, and ends where the bytes end
pub record-added :
    (bytes : List ℕ) (ps : List Packet) (h : Head) (count taken : ℕ) (unfinished more : List ℕ) (before : Option CapError)
    → HasSummary bytes ps (record { head = Some h; count = count; unfinished = unfinished; taken = taken; error = before })
    → IsWhole h.form.big (unfinished ++ more) → length (unfinished ++ more) ≡ 16 + word h.form.big (unfinished ++ more) 8
    → HasSummary (bytes ++ more) (ps ++ first_packet h.form.big (unfinished ++ more) ∷ []) (record { head = Some h; count = count + 1; unfinished = []; taken = taken + length more; error = None })
record-added bytes ps h count taken unfinished more before s w ends =
    let none : behind_first h.form.big (unfinished ++ more) ≡ [] =
    drop-whole (16 + word h.form.big (unfinished ++ more) 8) (unfinished ++ more) ends in
    records-added bytes ps h count taken unfinished more before None (first_packet h.form.big (unfinished ++ more) ∷ []) []
    s (w, refl, none) (λ (v : IsWhole h.form.big []). omega (arith, v.head)) (λ (v : IsTooLong h.form.big []). omega (arith, v.head))
