-- How a capture comes to its next record, step by step.
use Rattle.std.proofs.Common.{arith, refl, sym, ap, subst, ◌∙◌, ◌≡◌, ℕ, ◌+◌, ◌<◌, ◌≤◌, true, false, List, [], ◌∷◌, ◌++◌, length, take, drop, Option, Some, None, Ok, Err, append_assoc, inl, inr}
use Rattle.std.proofs.lemmas.List.{length-append, append-nil, take-append-drop, length-drop}
use Rattle.std.proofs.lemmas.Bool.{cases_lt}
use Rattle.std.specs.Prelude.{IsSome}
use Rattle.am_base.specs.Shelves.{Told, Takes, IsAtEnd}
use Rattle.am_pcap.specs.Packets.{Packet}
use Rattle.am_pcap.specs.Captures.{HasSummary, IsCapture, IsRefusedAfter, verdict}
use Rattle.am_pcap.specs.Decoded.{Decoded, Took, Refused, Counts}
use Rattle.am_pcap.specs.Readings.{Reading, HasGiven, AreRefused}
use Rattle.am_pcap.specs.declared.seeking.TheConstants.{MAX_READ}
use Rattle.am_pcap.specs.Answers.{GivesEnd, GivesFault, GivesTooLong, GivesRefusal, GivesError}
use Rattle.am_pcap.specs.Seeking.{InOrder, WereRead, Drains, DrainsTo, RefillFails, Continued, Found, reading_with, waiting_packets}
use Rattle.am_pcap.specs.declared.refusal.CapError.{CapError}
use Rattle.am_pcap.specs.declared.capture.FileError.{FileError}
use Rattle.am_pcap.specs.declared.capture.FileError.TheVariants.{Missing, ReadFault, TooLong, Bad, Memory}
use Rattle.am_pcap.proofs.Refusals.{took-holds, refused-holds, refused-after, not-cut, ends-after, IsVerdictAfter}
use Rattle.am_pcap.proofs.Steps.{drop-whole}
use Rattle.am_pcap.proofs.Shelved.{takes-none, takes-join, end-stays}

-- what was given is held so
pub given-holds : (old : Reading) (bytes : List ℕ) (ps : List Packet) → HasGiven old bytes ps → WereRead old.decoded old.held bytes ps
given-holds old bytes ps g = record { taken = g.taken; split = g.split; summary = g.summary }

-- and back, where all fits together
pub holds-given : (old : Reading) (bytes : List ℕ) (ps : List Packet) → InOrder old → WereRead old.decoded old.held bytes ps → HasGiven old bytes ps
holds-given old bytes ps o h = record {
  taken = h.taken;
  split = h.split;
  summary = h.summary;
  none_waits = o.none_waits;
  read = omega (arith, o.all, h.summary.taken, ap length h.split, length-append h.taken old.held);
}

not-some : (w : Option Packet) → w ≡ None → IsSome w → ⊥
not-some None e h = absurd (cc (h))
not-some (Some p) e h = absurd (cc (e))

-- where no record waits, none does
pub none-waits : (w : Option Packet) → (IsSome w → false ≡ true) → w ≡ None
none-waits None h = refl
none-waits (Some p) h = absurd (cc (h refl))

some-packet : (w : Option Packet) → IsSome w → (p : Packet) × (w ≡ Some p)
some-packet None h = absurd (cc (h))
some-packet (Some p) h = (p, refl)

-- nothing is left where none could be left
none-left : (held : List ℕ) (n : ℕ) → n ≤ length held → (n < length held → ⊥) → drop n held ≡ []
none-left held n h full = elim (cases_lt n (length held)) [
  | inl a ↦ absurd (full a)
  | inr a ↦ drop-whole n held (omega (arith, h, a))
]

-- the decoder took some of what was held
pub drained :
    (d d' : Decoded) (held : List ℕ) (n : ℕ) → d.waiting ≡ None → d'.summary.head ≡ d.summary.head → d'.summary.error ≡ None
    → Took d d' held n → Counts d d' → (n < length held → IsSome d'.waiting)
    → Drains d held d' (drop n held)
drained d d' held n none head clean took counts all = record {
  moves = λ bytes ps h. record {
    taken = h.taken ++ take n held;
    split = append-nil bytes ∙ h.split ∙ ap (λ x. h.taken ++ x) (sym (take-append-drop n held)) ∙ sym (append_assoc h.taken (take n held) (drop n held));
    summary = took-holds d d' held n took counts none h.taken ps h.summary;
  };
  clean = clean;
  head = head;
  all = omega (arith, took.taken, took.within, length-drop n held);
  few = counts.few;
  same = counts.same;
  risen = counts.risen;
  none_left = λ w. none-left held n took.within (λ m. not-some d'.waiting w (all m));
}

-- the decoder refused what was held
pub drain-refused :
    (d d' : Decoded) (held : List ℕ) (e : CapError) → d.waiting ≡ None → Refused d d' held e → DrainsTo d held e
drain-refused d d' held e none r = λ bytes ps h.
    let s : HasSummary (h.taken ++ take r.n held) ps d'.summary = refused-holds d d' held e r none h.taken ps h.summary in
    let is : (rest : List ℕ) → (h.taken ++ take r.n held) ++ (drop r.n held ++ rest) ≡ bytes ++ rest = λ rest.
    append_assoc h.taken (take r.n held) (drop r.n held ++ rest)
    ∙ ap (λ x. h.taken ++ x) (sym (append_assoc (take r.n held) (drop r.n held) rest) ∙ ap (λ x. x ++ rest) (take-append-drop r.n held))
    ∙ sym (append_assoc h.taken held rest) ∙ ap (λ x. x ++ rest) (sym h.split) in (
      λ rest cut. subst (λ x. IsRefusedAfter e x ps) (is rest) (refused-after (h.taken ++ take r.n held) ps d'.summary e s r.kept (drop r.n held ++ rest)),
      not-cut (h.taken ++ take r.n held) ps d'.summary e s r.kept,
    )

-- a record came to wait of what was held
pub found-drained :
    (old : Reading) (d' : Decoded) (held' : List ℕ) (told : Option Told) → InOrder old → Drains old.decoded old.held d' held'
    → IsSome d'.waiting → Found old (reading_with d' held' old.read) told told
found-drained old d' held' told o r w =
    let some = some-packet d'.waiting w in
    record {
      clean = r.clean;
      head = r.head;
      count = r.risen w;
      all = omega (arith, r.all, o.all);
      short = o.short;
      few = r.few;
      packet = some.0;
      waits = some.1;
      more = [];
      took = takes-none told;
      moves = λ bytes ps h. subst (λ x. WereRead d' held' (bytes ++ []) (ps ++ waiting_packets x)) some.1 (r.moves bytes ps h);
    }

-- all was decoded, and nothing waits
record AllDecoded (d' : Decoded) (bytes : List ℕ) (ps : List Packet) : Type 0 where
  summary : HasSummary bytes ps d'.summary

all-decoded :
    (d : Decoded) (held : List ℕ) (d' : Decoded) (held' : List ℕ) → Drains d held d' held' → d'.waiting ≡ None
    → (bytes : List ℕ) (ps : List Packet) → WereRead d held bytes ps → AllDecoded d' bytes ps
all-decoded d held d' held' r none bytes ps h =
    let m : WereRead d' held' (bytes ++ []) (ps ++ waiting_packets None) = subst (λ x. WereRead d' held' (bytes ++ []) (ps ++ waiting_packets x)) none (r.moves bytes ps h) in
    let all : m.taken ≡ bytes =
    sym (append-nil m.taken) ∙ ap (λ x. m.taken ++ x) (sym (r.none_left none)) ∙ sym m.split ∙ append-nil bytes in
    record { summary = subst (λ x. HasSummary bytes x d'.summary) (append-nil ps) (subst (λ x. HasSummary x (ps ++ []) d'.summary) all m.summary) }

-- more bytes were read, where all was decoded
pub continued-refilled :
    (old : Reading) (d' : Decoded) (held' more : List ℕ) (read' : ℕ) (before after : Option Told)
    → InOrder old → Drains old.decoded old.held d' held' → d'.waiting ≡ None → Takes before after more → read' ≡ old.read + length more → read' ≤ MAX_READ
    → Continued old (reading_with d' more read') before after
continued-refilled old d' held' more read' before after o r none took is short = record {
  order = record {
    clean = r.clean;
    none_waits = none;
    all = omega (arith, r.all, o.all, ap length (r.none_left none), is);
    short = short;
    few = r.few;
  };
  head = r.head;
  count = r.same none;
  more = more;
  took = took;
  moves = λ bytes ps h. record { taken = bytes; split = refl; summary = (all-decoded old.decoded old.held d' held' r none bytes ps h).summary };
}

-- no more could be read
pub refill-fails :
    (old : Reading) (d' : Decoded) (held' : List ℕ) (before after : Option Told) (e : FileError)
    → InOrder old → Drains old.decoded old.held d' held' → d'.waiting ≡ None → RefillFails old.read before after e
    → GivesError old before after e
refill-fails old d' held' before after Missing o r none f = f
refill-fails old d' held' before after ReadFault o r none f =
    let fault : GivesFault old before after = record {
      more = [];
      took = subst (λ x. Takes before x []) (sym f) (takes-none before);
      all = λ bytes ps g. (
        d'.summary,
        subst (λ x. HasSummary x ps d'.summary) (sym (append-nil bytes)) (all-decoded old.decoded old.held d' held' r none bytes ps (given-holds old bytes ps g)).summary,
        omega (arith, ap length (append-nil bytes), g.read, o.short),
      );
    } in fault
refill-fails old d' held' before after TooLong o r none f =
    let long : GivesTooLong old before after = record {
      more = f.0;
      took = f.1;
      long = λ bytes ps g. omega (arith, f.2, g.read, length-append bytes f.0);
    } in long
refill-fails old d' held' before after (Bad e) o r none f = absurd f
refill-fails old d' held' before after Memory o r none f = f

-- the decoder refused what was held
pub refused-drained :
    (old : Reading) (told : Option Told) (e : CapError) → InOrder old → DrainsTo old.decoded old.held e
    → GivesRefusal old told told e
refused-drained old told e o f = record {
  more = [];
  took = takes-none told;
  refused = λ bytes ps g.
      let both = f bytes ps (given-holds old bytes ps g) in (
        subst (λ x. AreRefused e x ps) (sym (append-nil bytes)) both.0,
        λ cut. absurd (both.1 cut),
        omega (arith, ap length (append-nil bytes), g.read, o.short),
      );
}

-- the file is at its end, and all was decoded
record AtEnd (before after : Option Told) : Type 0 where
  took : Takes before after []
  at_end : IsAtEnd after

at-end : (before after : Option Told) (more : List ℕ) → Takes before after more → more ≡ [] → IsAtEnd before → AtEnd before after
at-end before after more took none end =
    let t : Takes before after [] = subst (λ x. Takes before after x) none took in
    record { took = t; at_end = end-stays before after t end }

pub ended :
    (old : Reading) (d' : Decoded) (held' more : List ℕ) (before after : Option Told) (u : Unit {0})
    → InOrder old → Drains old.decoded old.held d' held' → d'.waiting ≡ None → Takes before after more → more ≡ [] → IsAtEnd before → Ok u ≡ verdict d'.summary
    → GivesEnd old before after
ended old d' held' more before after u o r none took empty end says =
    let a = at-end before after more took empty end in
    record {
      more = [];
      took = a.took;
      at_end = a.at_end;
      whole = λ bytes ps g.
          let all = all-decoded old.decoded old.held d' held' r none bytes ps (given-holds old bytes ps g) in
          let v : IsVerdictAfter (Ok u) d'.summary.head bytes ps = ends-after bytes ps d'.summary (Ok u) all.summary r.clean says in (
            v.0,
            sym r.head ∙ v.1,
            subst (λ x. IsCapture x v.0 ps) (sym (append-nil bytes)) v.2,
            omega (arith, ap length (append-nil bytes), g.read, o.short),
          );
    }

pub ended-cut :
    (old : Reading) (d' : Decoded) (held' more : List ℕ) (before after : Option Told) (e : CapError)
    → InOrder old → Drains old.decoded old.held d' held' → d'.waiting ≡ None → Takes before after more → more ≡ [] → IsAtEnd before → Err e ≡ verdict d'.summary
    → GivesRefusal old before after e
ended-cut old d' held' more before after e o r none took empty end says =
    let a = at-end before after more took empty end in
    record {
      more = [];
      took = a.took;
      refused = λ bytes ps g.
          let all = all-decoded old.decoded old.held d' held' r none bytes ps (given-holds old bytes ps g) in
          let v : IsVerdictAfter (Err e) d'.summary.head bytes ps = ends-after bytes ps d'.summary (Err e) all.summary r.clean says in (
            λ rest none_more. subst (λ x. IsRefusedAfter e x ps)
                (sym (ap (λ x. (bytes ++ []) ++ x) (none_more v.0) ∙ append-nil (bytes ++ []) ∙ append-nil bytes)) v.1,
            λ cut. a.at_end,
            omega (arith, ap length (append-nil bytes), g.read, o.short),
          );
    }

-- one step after another
pub continued-none : (old : Reading) (told : Option Told) → InOrder old → Continued old old told told
continued-none old told o = record {
  order = o;
  head = refl;
  count = refl;
  more = [];
  took = takes-none told;
  moves = λ bytes ps h. subst (λ x. WereRead old.decoded old.held x ps) (sym (append-nil bytes)) h;
}

pub continued-join : (old mid new : Reading) (a b c : Option Told) → Continued old mid a b → Continued mid new b c → Continued old new a c
continued-join old mid new a b c p q = record {
  order = q.order;
  head = q.head ∙ p.head;
  count = q.count ∙ p.count;
  more = p.more ++ q.more;
  took = takes-join a b c p.more q.more p.took q.took;
  moves = λ bytes ps h. subst (λ x. WereRead new.decoded new.held x ps) (append_assoc bytes p.more q.more) (q.moves (bytes ++ p.more) ps (p.moves bytes ps h));
}

pub found-join : (old mid new : Reading) (a b c : Option Told) → Continued old mid a b → Found mid new b c → Found old new a c
found-join old mid new a b c p q = record {
  clean = q.clean;
  head = q.head ∙ p.head;
  count = omega (arith, q.count, p.count);
  all = q.all;
  short = q.short;
  few = q.few;
  packet = q.packet;
  waits = q.waits;
  more = p.more ++ q.more;
  took = takes-join a b c p.more q.more p.took q.took;
  moves = λ bytes ps h. subst (λ x. WereRead new.decoded new.held x (ps ++ q.packet ∷ [])) (append_assoc bytes p.more q.more) (q.moves (bytes ++ p.more) ps (p.moves bytes ps h));
}

-- what was given before is given still
given-continued :
    (old mid : Reading) (a b : Option Told) (p : Continued old mid a b)
    → (bytes : List ℕ) (ps : List Packet) → HasGiven old bytes ps → HasGiven mid (bytes ++ p.more) ps
given-continued old mid a b p bytes ps g =
    holds-given mid (bytes ++ p.more) ps p.order (p.moves bytes ps (given-holds old bytes ps g))

pub end-join : (old mid : Reading) (a b c : Option Told) → Continued old mid a b → GivesEnd mid b c → GivesEnd old a c
end-join old mid a b c p q = record {
  more = p.more ++ q.more;
  took = takes-join a b c p.more q.more p.took q.took;
  at_end = q.at_end;
  whole = λ bytes ps g.
      let is : (bytes ++ p.more) ++ q.more ≡ bytes ++ (p.more ++ q.more) = append_assoc bytes p.more q.more in
      let w = q.whole (bytes ++ p.more) ps (given-continued old mid a b p bytes ps g) in
      (w.0, sym p.head ∙ w.1, subst (λ x. IsCapture x w.0 ps) is w.2, subst (λ x. length x ≤ MAX_READ) is w.3);
}

fault-join : (old mid : Reading) (a b c : Option Told) → Continued old mid a b → GivesFault mid b c → GivesFault old a c
fault-join old mid a b c p q = record {
  more = p.more ++ q.more;
  took = takes-join a b c p.more q.more p.took q.took;
  all = λ bytes ps g.
      let is : (bytes ++ p.more) ++ q.more ≡ bytes ++ (p.more ++ q.more) = append_assoc bytes p.more q.more in
      let w = q.all (bytes ++ p.more) ps (given-continued old mid a b p bytes ps g) in
      (w.0, subst (λ x. HasSummary x ps w.0) is w.1, subst (λ x. length x ≤ MAX_READ) is w.2);
}

long-join : (old mid : Reading) (a b c : Option Told) → Continued old mid a b → GivesTooLong mid b c → GivesTooLong old a c
long-join old mid a b c p q = record {
  more = p.more ++ q.more;
  took = takes-join a b c p.more q.more p.took q.took;
  long = λ bytes ps g.
      let is : (bytes ++ p.more) ++ q.more ≡ bytes ++ (p.more ++ q.more) = append_assoc bytes p.more q.more in
      subst (λ x. MAX_READ < length x) is (q.long (bytes ++ p.more) ps (given-continued old mid a b p bytes ps g));
}

refusal-join : (old mid : Reading) (a b c : Option Told) (e : CapError) → Continued old mid a b → GivesRefusal mid b c e → GivesRefusal old a c e
refusal-join old mid a b c e p q = record {
  more = p.more ++ q.more;
  took = takes-join a b c p.more q.more p.took q.took;
  refused = λ bytes ps g.
      let is : (bytes ++ p.more) ++ q.more ≡ bytes ++ (p.more ++ q.more) = append_assoc bytes p.more q.more in
      let w = q.refused (bytes ++ p.more) ps (given-continued old mid a b p bytes ps g) in
      (subst (λ x. AreRefused e x ps) is w.0, w.1, subst (λ x. length x ≤ MAX_READ) is w.2);
}

pub error-join : (old mid : Reading) (a b c : Option Told) (e : FileError) → Continued old mid a b → GivesError mid b c e → GivesError old a c e
error-join old mid a b c Missing p q = q
error-join old mid a b c ReadFault p q = fault-join old mid a b c p q
error-join old mid a b c TooLong p q = long-join old mid a b c p q
error-join old mid a b c (Bad e) p q = refusal-join old mid a b c e p q
error-join old mid a b c Memory p q = q
