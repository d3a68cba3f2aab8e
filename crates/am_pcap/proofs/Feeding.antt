-- What a decoder stands for after it took bytes, from what became of its parts.
use Rattle.std.proofs.Common.{arith, refl, sym, ap, subst, ◌∙◌, ◌≡◌, ℕ, ◌+◌, ◌≤◌, Bool, true, false, List, [], ◌∷◌, ◌++◌, length, take, drop, Option, Some, None, append_assoc}
use Rattle.std.proofs.lemmas.List.{length-take, length-drop}
use Rattle.std.proofs.Math.Seq.{take-add}
use Rattle.am_pcap.specs.Packets.{word, Packet, IsWhole, first_packet}
use Rattle.am_pcap.specs.Heads.{IsHead, IsRefusedHead}
use Rattle.am_pcap.specs.Captures.{Summary, HasSummary, IsSplit, IsRecordError}
use Rattle.am_pcap.specs.Decoded.{Decoded, IsLast, StandsFor, Took, Refused, shown}
use Rattle.am_pcap.specs.declared.refusal.CapError.{CapError}
use Rattle.am_pcap.specs.declared.head.Head.{Head}
use Rattle.am_pcap.proofs.Steps.{head-refused, head-taken, record-grows, record-added}
use Rattle.am_pcap.proofs.Summaries.{same_parts}

-- the front of a list is as long as is asked
pub front_length : (n : ℕ) (piece : List ℕ) → n ≤ length piece → length (take n piece) ≡ n
front_length n piece h = omega (arith, length-take n piece)

-- a summary is that of its parts
as_parts : (bytes : List ℕ) (ps : List Packet) (s : Summary) (head : Option Head) (error : Option CapError)
    → s.head ≡ head → s.error ≡ error → HasSummary bytes ps s
    → HasSummary bytes ps (record { head = head; count = s.count; unfinished = s.unfinished; taken = s.taken; error = error })
as_parts bytes ps s head error h e p =
    let a : IsSplit head s.error bytes ps s.unfinished = subst (λ x. IsSplit x s.error bytes ps s.unfinished) h p.split in
    let b : IsSplit head error bytes ps s.unfinished = subst (λ x. IsSplit head x bytes ps s.unfinished) e a in
    record { count = p.count; taken = p.taken; split = b }

-- the parts that a decoder shows
pub record Shows (d : Decoded) (h : Option Head) (n : ℕ) (u : List ℕ) (t : ℕ) (e : Option CapError) : Type 0 where
  pub head : d.summary.head ≡ h
  pub count : d.summary.count ≡ n
  pub unfinished : d.summary.unfinished ≡ u
  pub taken : d.summary.taken ≡ t
  pub error : d.summary.error ≡ e

shows-is : (d : Decoded) (bytes : List ℕ) (ps : List Packet) (head : Option Head) (count : ℕ) (unfinished : List ℕ) (taken : ℕ) (error : Option CapError)
    → Shows d head count unfinished taken error
    → HasSummary bytes ps (record { head = head; count = count; unfinished = unfinished; taken = taken; error = error })
    → HasSummary bytes ps d.summary
shows-is d bytes ps head count unfinished taken error s h =
    let k : Summary = record { head = head; count = count; unfinished = unfinished; taken = taken; error = error } in
    subst (λ x. HasSummary bytes ps x) (same_parts k d.summary (sym s.head) (sym s.count) (sym s.unfinished) (sym s.taken) (sym s.error)) h

-- the file header became whole, and was taken
pub took-head :
    (old new : Decoded) (piece : List ℕ) (n : ℕ) (h : Head) → n ≤ length piece
    → old.summary.head ≡ None → old.summary.error ≡ None
    → length (old.summary.unfinished ++ take n piece) ≡ 24 → IsHead h (old.summary.unfinished ++ take n piece)
    → Shows new (Some h) old.summary.count [] (old.summary.taken + n) None → new.waiting ≡ None
    → Took old new piece n
took-head old new piece n h within head error long good shows waiting = record {
  within = within;
  taken = shows.taken;
  goes = λ bytes s.
      let p = as_parts bytes s.packets old.summary None None head error s.summary in
      let q = head-taken bytes s.packets old.summary.count old.summary.taken old.summary.unfinished (take n piece) h p long good in
      let r = subst (λ m. HasSummary (bytes ++ take n piece) s.packets (record { head = Some h; count = old.summary.count; unfinished = []; taken = old.summary.taken + m; error = None }))
      (front_length n piece within) q in
      record {
        packets = s.packets;
        summary = shows-is new (bytes ++ take n piece) s.packets (Some h) old.summary.count [] (old.summary.taken + n) None shows r;
        waiting = subst (λ w. IsLast w s.packets) (sym waiting) tt;
      };
}

-- the file header became whole, and was refused
pub took-bad_head :
    (old new : Decoded) (piece : List ℕ) (n : ℕ) (e : CapError) → n ≤ length piece
    → old.summary.head ≡ None → old.summary.error ≡ None
    → length (old.summary.unfinished ++ take n piece) ≡ 24 → IsRefusedHead e (old.summary.unfinished ++ take n piece)
    → Shows new None old.summary.count (old.summary.unfinished ++ take n piece) (old.summary.taken + n) (Some e) → new.waiting ≡ None
    → Took old new piece n
took-bad_head old new piece n e within head error long bad shows waiting = record {
  within = within;
  taken = shows.taken;
  goes = λ bytes s.
      let p = as_parts bytes s.packets old.summary None None head error s.summary in
      let q = head-refused bytes s.packets old.summary.count old.summary.taken old.summary.unfinished (take n piece) e p long bad in
      let r = subst (λ m. HasSummary (bytes ++ take n piece) s.packets (record { head = None; count = old.summary.count; unfinished = old.summary.unfinished ++ take n piece; taken = old.summary.taken + m; error = Some e }))
      (front_length n piece within) q in
      record {
        packets = s.packets;
        summary = shows-is new (bytes ++ take n piece) s.packets None old.summary.count (old.summary.unfinished ++ take n piece) (old.summary.taken + n) (Some e) shows r;
        waiting = subst (λ w. IsLast w s.packets) (sym waiting) tt;
      };
}

-- more bytes of a record that isn't whole yet, or that is refused
pub took-part :
    (old new : Decoded) (piece : List ℕ) (n : ℕ) (h : Head) (error : Option CapError) → n ≤ length piece
    → old.summary.head ≡ Some h
    → (IsWhole h.form.big (old.summary.unfinished ++ take n piece) → ⊥)
    → IsRecordError h.form.big (old.summary.count + 1) (old.summary.unfinished ++ take n piece) error
    → Shows new (Some h) old.summary.count (old.summary.unfinished ++ take n piece) (old.summary.taken + n) error → new.waiting ≡ None
    → Took old new piece n
took-part old new piece n h error within head stuck refused shows waiting = record {
  within = within;
  taken = shows.taken;
  goes = λ bytes s.
      let p = as_parts bytes s.packets old.summary (Some h) old.summary.error head refl s.summary in
      let q = record-grows bytes s.packets h old.summary.count old.summary.taken old.summary.unfinished (take n piece) old.summary.error error p stuck refused in
      let r = subst (λ m. HasSummary (bytes ++ take n piece) s.packets (record { head = Some h; count = old.summary.count; unfinished = old.summary.unfinished ++ take n piece; taken = old.summary.taken + m; error = error }))
      (front_length n piece within) q in
      record {
        packets = s.packets;
        summary = shows-is new (bytes ++ take n piece) s.packets (Some h) old.summary.count (old.summary.unfinished ++ take n piece) (old.summary.taken + n) error shows r;
        waiting = subst (λ w. IsLast w s.packets) (sym waiting) tt;
      };
}

-- a record became whole
pub took-record :
    (old new : Decoded) (piece : List ℕ) (n : ℕ) (h : Head) → n ≤ length piece
    → old.summary.head ≡ Some h
    → IsWhole h.form.big (old.summary.unfinished ++ take n piece)
    → length (old.summary.unfinished ++ take n piece) ≡ 16 + word h.form.big (old.summary.unfinished ++ take n piece) 8
    → Shows new (Some h) (old.summary.count + 1) [] (old.summary.taken + n) None
    → new.waiting ≡ Some (first_packet h.form.big (old.summary.unfinished ++ take n piece))
    → Took old new piece n
took-record old new piece n h within head whole ends shows waiting = record {
  within = within;
  taken = shows.taken;
  goes = λ bytes s.
      let p = as_parts bytes s.packets old.summary (Some h) old.summary.error head refl s.summary in
      let q = record-added bytes s.packets h old.summary.count old.summary.taken old.summary.unfinished (take n piece) old.summary.error p whole ends in
      let ps : List Packet = s.packets ++ first_packet h.form.big (old.summary.unfinished ++ take n piece) ∷ [] in
      let r = subst (λ m. HasSummary (bytes ++ take n piece) ps (record { head = Some h; count = old.summary.count + 1; unfinished = []; taken = old.summary.taken + m; error = None }))
      (front_length n piece within) q in
      record {
        packets = ps;
        summary = shows-is new (bytes ++ take n piece) ps (Some h) (old.summary.count + 1) [] (old.summary.taken + n) None shows r;
        waiting = subst (λ w. IsLast w ps) (sym waiting) (s.packets, refl);
      };
}

-- bytes of the piece, and bytes of what is behind them
pub took-both :
    (a b c : Decoded) (piece : List ℕ) (n m : ℕ) → Took a b piece n → Took b c (drop n piece) m → Took a c piece (n + m)
took-both a b c piece n m p q =
    let e : take (n + m) piece ≡ take n piece ++ take m (drop n piece) = take-add n m piece in
    record {
      within = omega (arith, p.within, q.within, length-drop n piece);
      taken = omega (arith, p.taken, q.taken);
      goes = λ bytes s.
          let two : StandsFor c ((bytes ++ take n piece) ++ take m (drop n piece)) = q.goes (bytes ++ take n piece) (p.goes bytes s) in
          let three : StandsFor c (bytes ++ (take n piece ++ take m (drop n piece))) =
          subst (λ x. StandsFor c x) (append_assoc bytes (take n piece) (take m (drop n piece))) two in
          subst (λ x. StandsFor c (bytes ++ x)) (sym e) three;
    }

-- a record that is whole, and nothing else
pub record Whole (big : Bool) (buffer : List ℕ) : Type 0 where
  pub whole : IsWhole big buffer
  pub ends : length buffer ≡ 16 + word big buffer 8

-- bytes behind the file header's first ones
pub shown-head :
    (b : List ℕ) (head : Option Head) (error : Option CapError) (count taken : ℕ) (full waiting : Bool) (piece : List ℕ) (n : ℕ) (h : Head) (after : List ℕ)
    → head ≡ None → error ≡ None → full ≡ false → (waiting ≡ true → full ≡ true) → n ≤ length piece
    → length (b ++ take n piece) ≡ 24 → IsHead h (b ++ take n piece) → after ≡ []
    → Took (shown b head error count taken full waiting) (shown after (Some h) error count (taken + n) full waiting) piece n
shown-head b (Some k) error count taken full waiting piece n h after e1 e2 e3 e4 within long good none = absurd (cc (e1))
shown-head b None (Some e) count taken full waiting piece n h after e1 e2 e3 e4 within long good none = absurd (cc (e2))
shown-head b None None count taken true waiting piece n h after e1 e2 e3 e4 within long good none = absurd (cc (e3))
shown-head b None None count taken false true piece n h after e1 e2 e3 e4 within long good none = absurd (cc (e4 refl))
shown-head b None None count taken false false piece n h after e1 e2 e3 e4 within long good none =
    took-head (shown b None None count taken false false) (shown after (Some h) None count (taken + n) false false) piece n h
    within refl refl long good (record { head = refl; count = refl; unfinished = none; taken = refl; error = refl }) refl

pub shown-bad_head :
    (b : List ℕ) (head : Option Head) (error : Option CapError) (count taken : ℕ) (full waiting : Bool) (piece : List ℕ) (n : ℕ) (e : CapError) (after : List ℕ)
    → head ≡ None → error ≡ None → full ≡ false → n ≤ length piece
    → length (b ++ take n piece) ≡ 24 → IsRefusedHead e (b ++ take n piece) → after ≡ b ++ take n piece
    → Refused (shown b head error count taken full waiting) (shown after head (Some e) count (taken + n) full waiting) piece e
shown-bad_head b (Some k) error count taken full waiting piece n e after e1 e2 e3 within long bad is = absurd (cc (e1))
shown-bad_head b None (Some d) count taken full waiting piece n e after e1 e2 e3 within long bad is = absurd (cc (e2))
shown-bad_head b None None count taken true waiting piece n e after e1 e2 e3 within long bad is = absurd (cc (e3))
shown-bad_head b None None count taken false waiting piece n e after e1 e2 e3 within long bad is = record {
  n = n;
  took = took-bad_head (shown b None None count taken false waiting) (shown after None (Some e) count (taken + n) false waiting) piece n e
      within refl refl long bad (record { head = refl; count = refl; unfinished = is; taken = refl; error = refl }) refl;
  kept = refl;
  ends = ap length is ∙ long;
  waiting = refl;
  same = refl;
}

-- a refusal behind bytes that were taken
pub refused-both :
    (a b c : Decoded) (piece : List ℕ) (n : ℕ) (e : CapError) → Took a b piece n → b.summary.count ≡ a.summary.count
    → Refused b c (drop n piece) e → Refused a c piece e
refused-both a b c piece n e p count q = record {
  n = n + q.n;
  took = took-both a b c piece n q.n p q.took;
  kept = q.kept;
  ends = q.ends;
  waiting = q.waiting;
  same = q.same ∙ count;
}
