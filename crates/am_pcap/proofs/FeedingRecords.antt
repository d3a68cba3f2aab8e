-- What a decoder has once it put bytes of a record into its buffer, by its fields.
use Rattle.std.proofs.Common.{arith, refl, sym, ap, subst, ◌∙◌, ◌≡◌, ℕ, ◌+◌, ◌-◌, ◌*◌, ◌^◌, ◌<◌, ◌≤◌, Bool, true, false, List, [], cond, ◌++◌, length, take, drop, Option, Some, None, append_assoc, ◌⊎◌, inl, inr}
use Rattle.std.proofs.lemmas.List.{length-append, length-drop, append-nil}
use Rattle.std.proofs.lemmas.Bool.{cases_lt}
use Rattle.std.proofs.Math.Seq.{take-add}
use Rattle.am_pcap.specs.Packets.{word, IsWhole, first_packet}
use Rattle.am_pcap.specs.declared.decoder.TheConstants.{MAX_CAPTURED}
use Rattle.am_pcap.specs.Captures.{IsTooLong, IsRecordError}
use Rattle.am_pcap.specs.Decoded.{Decoded, CanTake, Took, Refused, IsSound, shown, waiting_packet, head_length, most_bytes}
use Rattle.am_pcap.specs.declared.refusal.CapError.{CapError}
use Rattle.am_pcap.specs.declared.refusal.CapError.TheVariants.{RecordTooLong}
use Rattle.am_pcap.specs.declared.head.Head.{Head}
use Rattle.am_pcap.proofs.Splitting.{word-append}
use Rattle.am_pcap.proofs.Feeding.{Whole, took-part, took-record, front_length}

-- the fields of a decoder
pub record Fields : Type 0 where
  pub buffer : List ℕ
  pub head : Option Head
  pub error : Option CapError
  pub count : ℕ
  pub taken : ℕ
  pub full : Bool
  pub waiting : Bool

-- the bytes of a record that is not whole yet
abbrev pub begun : Fields → List ℕ
begun f = cond f.full [] f.buffer

-- a decoder of these fields, which is this to its callers, goes on in a record with the piece
pub record InRecord (f : Fields) (d : Decoded) (h : Head) (piece : List ℕ) : Type 0 where
  pub capacity : ℕ
  pub sound : IsSound capacity f.buffer f.head f.error f.count f.taken f.full f.waiting
  pub is : shown f.buffer f.head f.error f.count f.taken f.full f.waiting ≡ d
  pub head : f.head ≡ Some h
  pub clean : f.error ≡ None
  pub idle : f.waiting ≡ false
  pub room : f.taken + length piece ≤ 2 ^ 63

is-idle : (head : Option Head) (b : List ℕ) (waiting : Bool) (h : Head) → head ≡ Some h → waiting_packet head b waiting ≡ None → waiting ≡ false
is-idle None b waiting h e w = absurd (cc (e))
is-idle (Some k) b true h e w = absurd (cc (w))
is-idle (Some k) b false h e w = refl

pub in-record :
    {capacity : ℕ} {b : List ℕ} {head : Option Head} {error : Option CapError} {count taken : ℕ} {full waiting : Bool} {d : Decoded} {h : Head} (piece : List ℕ)
    → IsSound capacity b head error count taken full waiting → shown b head error count taken full waiting ≡ d → head ≡ Some h
    → d.summary.error ≡ None → d.waiting ≡ None → CanTake d piece
    → InRecord (record { buffer = b; head = head; error = error; count = count; taken = taken; full = full; waiting = waiting }) d h piece
in-record {capacity} {b} {head} {error} {count} {taken} {full} {waiting} {d} {h} piece sound is some clean none room = record {
  capacity = capacity;
  sound = sound;
  is = is;
  head = some;
  clean = ap (λ x. x.summary.error) is ∙ clean;
  idle = is-idle head b waiting h some (ap (λ x. x.waiting) is ∙ none);
  room = subst (λ x. x.summary.taken + length piece ≤ 2 ^ 63) (sym is) room;
}

-- the first n bytes of the piece were put after those that were there, so that there are as many as the goal at most
pub record Filled (before piece : List ℕ) (goal n : ℕ) (after : List ℕ) : Type 0 where
  pub items : after ≡ before ++ take n piece
  pub most : n ≤ goal - length before
  pub within : n ≤ length piece
  pub long : length after ≡ length before + n

pub filled :
    {after : List ℕ} (before piece : List ℕ) (goal n : ℕ) → after ≡ before ++ take n piece → n ≤ goal - length before → n ≤ length piece
    → Filled before piece goal n after
filled {after} before piece goal n items most within = record {
  items = items;
  most = most;
  within = within;
  long = omega (arith, ap length items, length-append before (take n piece), front_length n piece within);
}

-- what has the header of a record, and is not whole
abbrev Bounds : Bool → List ℕ → Type 0
Bounds big b = (word big b 8 ≤ MAX_CAPTURED) × (length b < 16 + word big b 8)

kept-bounds :
    (big : Bool) (b : List ℕ) (full : Bool) → (full ≡ false → 16 ≤ length b → Bounds big b) → 16 ≤ length (cond full [] b) → Bounds big (cond full [] b)
kept-bounds big b true p h = absurd (omega (arith, h))
kept-bounds big b false p h = p refl h

kept-count :
    (b : List ℕ) (full : Bool) (count taken : ℕ) → (full ≡ false → 16 * count + length b ≤ taken) → 16 * count ≤ taken
    → 16 * count + length (cond full [] b) ≤ taken
kept-count b true count taken p h = omega (arith, h)
kept-count b false count taken p h = p refl

-- the buffer has the header of a record, which says how many bytes follow it, and was filled up to that header
pub record Headed (f : Fields) (d : Decoded) (h : Head) (piece : List ℕ) (n : ℕ) (header : List ℕ) (w : ℕ) : Type 0 where
  pub on : InRecord f d h piece
  pub first : Filled (begun f) piece 16 n header
  pub there : 16 ≤ length header
  pub says : w ≡ word h.form.big header 8

pub headed :
    {f : Fields} {d : Decoded} {h : Head} {piece : List ℕ} {n : ℕ} {before header : List ℕ} {w : ℕ} → InRecord f d h piece → before ≡ begun f
    → Filled before piece 16 n header → 16 ≤ length header → w ≡ word h.form.big header 8 → Headed f d h piece n header w
headed {f} {d} {h} {piece} {n} {before} {header} on is i there says =
    record { on = on; first = subst (λ x. Filled x piece 16 n header) is i; there = there; says = says }

-- the buffer is exactly that header, or what it was before
header-is :
    {f : Fields} {d : Decoded} {h : Head} {piece : List ℕ} {n : ℕ} {header : List ℕ} {w : ℕ}
    → Headed f d h piece n header w → (length header ≡ 16) ⊎ Bounds h.form.big header
header-is {f} {d} {h} {piece} {n} {header} {w} g = elim (cases_lt (length (begun f)) 16) [
  | inl few ↦ inl (omega (arith, few, g.first.most, g.there, g.first.long))
  | inr many ↦
      let none : n ≡ 0 = omega (arith, many, g.first.most) in
      let same : begun f ≡ header = sym (g.first.items ∙ ap (λ m. begun f ++ take m piece) none ∙ append-nil (begun f)) in
      inr (subst (λ x. Bounds h.form.big x) same (kept-bounds h.form.big f.buffer f.full (g.on.sound.in_record h g.on.head g.on.clean) many))
]

header-ends :
    (big : Bool) (header : List ℕ) (w : ℕ) → (length header ≡ 16) ⊎ Bounds big header → w ≡ word big header 8 → MAX_CAPTURED < w → length header ≡ 16
header-ends big header w (inl e) is many = e
header-ends big header w (inr p) is many = absurd (omega (arith, p.0, is, many))

header-fits : (big : Bool) (header : List ℕ) (w : ℕ) → (length header ≡ 16) ⊎ Bounds big header → w ≡ word big header 8 → length header ≤ 16 + w
header-fits big header w (inl e) is = omega (arith, e)
header-fits big header w (inr p) is = omega (arith, p.1, is)

-- nothing waits, whatever the buffer holds
still-none : {f : Fields} {d : Decoded} {h : Head} {piece : List ℕ} → InRecord f d h piece → (b : List ℕ) → waiting_packet f.head b f.waiting ≡ None
still-none {f} a b = ap (λ x. waiting_packet f.head b x) a.idle ∙ ap (λ x. waiting_packet x b false) a.head

-- bytes of a record that isn't whole then
took-some :
    {f : Fields} {d : Decoded} {h : Head} {piece : List ℕ} (n : ℕ) (after : List ℕ) (now : Option CapError) (total : ℕ) → InRecord f d h piece
    → n ≤ length piece → after ≡ begun f ++ take n piece → (IsWhole h.form.big after → ⊥) → IsRecordError h.form.big (f.count + 1) after now
    → total ≡ f.taken + n → Took d (shown after f.head now f.count total false f.waiting) piece n
took-some {f} {d} {h} {piece} n after now total a within is stuck refused t =
    subst (λ x. Took x (shown after f.head now f.count total false f.waiting) piece n) a.is
    (took-part (shown f.buffer f.head f.error f.count f.taken f.full f.waiting) (shown after f.head now f.count total false f.waiting) piece n h now within a.head
    (subst (λ x. IsWhole h.form.big x → ⊥) is stuck) (subst (λ x. IsRecordError h.form.big (f.count + 1) x now) is refused)
    (record { head = a.head; count = refl; unfinished = is; taken = t; error = refl }) (still-none a after))

-- the header of a record isn't whole then
pub took-few :
    {f : Fields} {d : Decoded} {h : Head} {piece : List ℕ} {n : ℕ} {before after : List ℕ} → InRecord f d h piece → before ≡ begun f
    → Filled before piece 16 n after → length after < 16 → Took d (shown after f.head f.error f.count (f.taken + n) false f.waiting) piece n
took-few {f} {d} {h} {piece} {n} {before} {after} a is i short =
    took-some n after f.error (f.taken + n) a i.within (i.items ∙ ap (λ x. x ++ take n piece) is)
    (λ (v : IsWhole h.form.big after). omega (arith, v.head, short))
    (subst (λ e. IsRecordError h.form.big (f.count + 1) after e) (sym a.clean) (λ (v : IsTooLong h.form.big after). omega (arith, v.head, short))) refl

-- the header says too many bytes
pub refused-long :
    {f : Fields} {d : Decoded} {h : Head} {piece : List ℕ} {n : ℕ} {header : List ℕ} {w : ℕ} → Headed f d h piece n header w → MAX_CAPTURED < w
    → Refused d (shown header f.head (Some (RecordTooLong (f.count + 1) w)) f.count (f.taken + n) false f.waiting) piece (RecordTooLong (f.count + 1) w)
refused-long {f} {d} {h} {piece} {n} {header} {w} g many =
    let long : IsTooLong h.form.big header = record { head = g.there; long = omega (arith, many, g.says) } in
    record {
      n = n;
      took = took-some n header (Some (RecordTooLong (f.count + 1) w)) (f.taken + n) g.on g.first.within g.first.items
          (λ (v : IsWhole h.form.big header). omega (arith, v.not_long, long.long)) (long, ap (λ x. RecordTooLong (f.count + 1) x) g.says) refl;
      kept = refl;
      ends = header-ends h.form.big header w (header-is g) g.says many ∙ ap head_length (sym g.on.head);
      waiting = still-none g.on header;
      same = ap (λ x. x.summary.count) g.on.is;
    }

-- the header says that w bytes follow it, and of the rest of the piece as many were put after it as are missing, or as there are
pub record InBody (f : Fields) (d : Decoded) (h : Head) (piece : List ℕ) (n w m : ℕ) (after : List ℕ) : Type 0 where
  pub on : InRecord f d h piece
  pub within : n + m ≤ length piece
  pub items : after ≡ begun f ++ take (n + m) piece
  pub long : length after ≡ length (begun f) + n + m
  pub there : 16 ≤ length after
  pub says : word h.form.big after 8 ≡ w
  pub not_long : w ≤ MAX_CAPTURED
  pub fits : length after ≤ 16 + w

pub in-body :
    {f : Fields} {d : Decoded} {h : Head} {piece : List ℕ} {n : ℕ} {header rest : List ℕ} {w m : ℕ} {after : List ℕ}
    → Headed f d h piece n header w → w ≤ MAX_CAPTURED → rest ≡ drop n piece → Filled header rest (16 + w) m after → InBody f d h piece n w m after
in-body {f} {d} {h} {piece} {n} {header} {rest} {w} {m} {after} g few is back =
    let i : Filled header (drop n piece) (16 + w) m after = subst (λ x. Filled header x (16 + w) m after) is back in
    let whole : take (n + m) piece ≡ take n piece ++ take m (drop n piece) = take-add n m piece in
    let kept : word h.form.big (header ++ take m (drop n piece)) 8 ≡ word h.form.big header 8 =
    word-append h.form.big header (take m (drop n piece)) 8 (omega (arith, g.there)) in
    let fits : length header ≤ 16 + w = header-fits h.form.big header w (header-is g) g.says in
    record {
      on = g.on;
      within = omega (arith, g.first.within, i.within, length-drop n piece);
      items = i.items ∙ ap (λ x. x ++ take m (drop n piece)) g.first.items ∙ append_assoc (begun f) (take n piece) (take m (drop n piece))
          ∙ ap (λ x. begun f ++ x) (sym whole);
      long = omega (arith, g.first.long, i.long);
      there = omega (arith, g.there, i.long);
      says = ap (λ x. word h.form.big x 8) i.items ∙ kept ∙ sym g.says;
      not_long = few;
      fits = omega (arith, i.most, i.long, fits);
    }

-- the record isn't whole then
pub took-more :
    {f : Fields} {d : Decoded} {h : Head} {piece : List ℕ} {n w m : ℕ} {after : List ℕ} → InBody f d h piece n w m after → length after < 16 + w
    → Took d (shown after f.head f.error f.count (f.taken + n + m) false f.waiting) piece (n + m)
took-more {f} {d} {h} {piece} {n} {w} {m} {after} g short =
    took-some (n + m) after f.error (f.taken + n + m) g.on g.within g.items
    (λ (v : IsWhole h.form.big after). omega (arith, v.body, g.says, short))
    (subst (λ e. IsRecordError h.form.big (f.count + 1) after e) (sym g.on.clean) (λ (v : IsTooLong h.form.big after). omega (arith, v.long, g.says, g.not_long)))
    (omega arith)

pub sound-more :
    {f : Fields} {d : Decoded} {h : Head} {piece : List ℕ} {n w m : ℕ} {after : List ℕ} {capacity : ℕ} → InBody f d h piece n w m after
    → length after < 16 + w → most_bytes ≤ capacity → IsSound capacity after f.head f.error f.count (f.taken + n + m) false f.waiting
sound-more {f} {d} {h} {piece} {n} {w} {m} {after} g short room =
    let kept = kept-count f.buffer f.full f.count f.taken g.on.sound.partial g.on.sound.counted in
    let bounds : Bounds h.form.big after = (omega (arith, g.says, g.not_long), omega (arith, g.says, short)) in
    record {
      room = room;
      few = omega (arith, g.on.room, g.within);
      counted = omega (arith, kept);
      partial = λ q. omega (arith, kept, g.long);
      in_head = λ p q. absurd (cc (p, g.on.head));
      not_full = λ p. refl;
      refused = λ e p. refl;
      in_record = λ k p q r s. let same : h ≡ k = cc (p, g.on.head) in subst (λ x. Bounds x.form.big after) same bounds;
      whole = λ k p q. absurd (cc (q));
      waits = λ q. sym g.on.idle ∙ q;
    }

-- the record is whole then
body-whole :
    {f : Fields} {d : Decoded} {h : Head} {piece : List ℕ} {n w m : ℕ} {after : List ℕ} → InBody f d h piece n w m after → 16 + w ≤ length after
    → Whole h.form.big after
body-whole g full = record {
  whole = record { head = g.there; not_long = omega (arith, g.says, g.not_long); body = omega (arith, g.says, full) };
  ends = omega (arith, g.says, g.fits, full);
}

pub took-whole :
    {f : Fields} {d : Decoded} {h : Head} {piece : List ℕ} {n w m : ℕ} {after : List ℕ} → InBody f d h piece n w m after → 16 + w ≤ length after
    → Took d (shown after f.head f.error (f.count + 1) (f.taken + n + m) true true) piece (n + m)
took-whole {f} {d} {h} {piece} {n} {w} {m} {after} g full =
    let whole : Whole h.form.big (begun f ++ take (n + m) piece) = subst (λ x. Whole h.form.big x) g.items (body-whole g full) in
    let new : Decoded = shown after f.head f.error (f.count + 1) (f.taken + n + m) true true in
    subst (λ x. Took x new piece (n + m)) g.on.is
    (took-record (shown f.buffer f.head f.error f.count f.taken f.full f.waiting) new piece (n + m) h g.within g.on.head whole.whole whole.ends
    (record { head = g.on.head; count = refl; unfinished = refl; taken = omega arith; error = g.on.clean })
    (ap (λ x. waiting_packet x after true) g.on.head ∙ ap (λ x. Some (first_packet h.form.big x)) g.items))

pub sound-whole :
    {f : Fields} {d : Decoded} {h : Head} {piece : List ℕ} {n w m : ℕ} {after : List ℕ} {capacity : ℕ} → InBody f d h piece n w m after
    → 16 + w ≤ length after → most_bytes ≤ capacity → IsSound capacity after f.head f.error (f.count + 1) (f.taken + n + m) true true
sound-whole {f} {d} {h} {piece} {n} {w} {m} {after} g full room =
    let kept = kept-count f.buffer f.full f.count f.taken g.on.sound.partial g.on.sound.counted in
    let whole = body-whole g full in
    record {
      room = room;
      few = omega (arith, g.on.room, g.within);
      counted = omega (arith, kept, g.long, g.there);
      partial = λ q. absurd (cc (q));
      in_head = λ p q. absurd (cc (p, g.on.head));
      not_full = λ p. absurd (cc (p, g.on.head));
      refused = λ e p. absurd (cc (p, g.on.clean));
      in_record = λ k p q r s. absurd (cc (r));
      whole = λ k p q.
          let same : h ≡ k = cc (p, g.on.head) in
          subst (λ x. IsWhole x.form.big after × (length after ≡ 16 + word x.form.big after 8)) same (whole.whole, whole.ends);
      waits = λ q. refl;
    }
