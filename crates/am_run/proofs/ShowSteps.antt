-- One more record shown: its line behind those before it.
use Rattle.std.proofs.Common.{◌≡◌, ℕ, ◌+◌, Bool, List, [], ◌∷◌, ◌++◌, length, take, drop, Option, None, Some, Result, Ok, Err, OnOk, refl, ap, sym, ◌∙◌, subst, arith, append_assoc, codes, decimal}
use Rattle.std.proofs.lemmas.List.{append-nil, length-take-le, length-drop}
use Rattle.std.proofs.lemmas.Fmt.{decimal_digit}
use Rattle.am_opts.specs.Marking.{Marking}
use Rattle.am_ip6.specs.Marks.Seen.{NoMark}
use Rattle.am_ip6.specs.Brief.{IsBrief, WalksBriefly, lone_header, brief_ending, brief_seen}
use Rattle.am_pcap.specs.Packets.{Packet}
use Rattle.am_pcap.specs.Frames.{IsFramed}
use Rattle.am_pcap.specs.declared.head.Head.{Head}
use Rattle.am_pcap.specs.declared.frame.Frame.{Frame}
use Rattle.am_pcap.specs.declared.frame.Frame.TheVariants.{Ip6}
use Rattle.am_chain.specs.Printing.{Grows}
use Rattle.am_run.specs.Showing.{AddsPacket, mark_text, brief_text}
use Rattle.am_pcap.specs.CaptureFiles.{is_whole}
use Rattle.am_run.specs.Lines.{IsLine, AreLines, IsFrameText, IsPacketText, record_text}

-- what holds of an `Ok` by another fact
pub on-ok : {T E : Type 0} {P Q : Type 0} (r : Result T E) → (P → Q) → OnOk r P → OnOk r Q
on-ok (Ok x) f p = f p
on-ok (Err e) f p = p

-- the lines of records, and one more behind them
pub AreLines-more :
    (k : Head) (number : ℕ) (ps : List Packet) (text : List ℕ) (last : ℕ) (p : Packet) (line : List ℕ)
    → AreLines k number ps text
    → last ≡ number + length ps
    → IsLine k last p line
    → AreLines k number (ps ++ p ∷ []) (text ++ line)
AreLines-more k number [] text last p line h is l =
    let same : last ≡ number = omega arith in
    (line, [], subst (λ n. IsLine k n p line) same l, refl, ap (λ t. t ++ line) h ∙ sym (append-nil line))
AreLines-more k number (q ∷ qs) text last p line h is l =
    let next : last ≡ number + 1 + length qs = omega arith in
    (h.0, h.1 ++ line, h.2, AreLines-more k (number + 1) qs h.1 last p line h.3 next l, ap (λ t. t ++ line) h.4 ∙ append_assoc h.0 h.1 line)

-- the pieces of a packet's line, one after another
pub walk_pieces :
    (l0 l1 l2 l3 start headers ending first second : List ℕ)
    → l1 ≡ l0 ++ (start ++ codes "ip6 ")
    → l2 ≡ l1 ++ headers
    → l3 ≡ l2 ++ (ending ++ codes " " ++ first ++ codes " " ++ second ++ codes "\n")
    → l3 ≡ l0 ++ (start ++ (codes "ip6 " ++ (headers ++ ending) ++ codes " " ++ first ++ codes " " ++ second) ++ codes "\n")
walk_pieces l0 l1 l2 l3 start headers ending first second e1 e2 e3 =
    e3 ∙ ap (λ x. x ++ (ending ++ codes " " ++ first ++ codes " " ++ second ++ codes "\n")) (e2 ∙ ap (λ x. x ++ headers) e1) ∙ simp append_assoc

-- what stands first, put number by number from its end
pub record_put :
    (l0 l1 l2 l3 l4 l5 l6 l7 l8 number reading captured original : List ℕ)
    → l1 ≡ 32 ∷ l0
    → l2 ≡ original ++ l1
    → l3 ≡ 32 ∷ l2
    → l4 ≡ captured ++ l3
    → l5 ≡ 32 ∷ l4
    → l6 ≡ reading ++ l5
    → l7 ≡ 32 ∷ l6
    → l8 ≡ number ++ l7
    → l8 ≡ (number ++ codes " " ++ reading ++ codes " " ++ captured ++ codes " " ++ original ++ codes " ") ++ l0
record_put l0 l1 l2 l3 l4 l5 l6 l7 l8 number reading captured original e1 e2 e3 e4 e5 e6 e7 e8 =
    let e2 : l2 ≡ original ++ 32 ∷ l0 = e2 ∙ ap (λ x. original ++ x) e1 in
    let e4 : l4 ≡ captured ++ 32 ∷ (original ++ 32 ∷ l0) = e4 ∙ ap (λ x. captured ++ x) (e3 ∙ ap (λ x. 32 ∷ x) e2) in
    let e6 : l6 ≡ reading ++ 32 ∷ (captured ++ 32 ∷ (original ++ 32 ∷ l0)) = e6 ∙ ap (λ x. reading ++ x) (e5 ∙ ap (λ x. 32 ∷ x) e4) in
    e8 ∙ ap (λ x. number ++ x) (e7 ∙ ap (λ x. 32 ∷ x) e6) ∙ simp append_assoc

-- the text of a header of eight bytes
eight_text : (n : ℕ) → n ≡ 8 → decimal 0 ++ codes ":" ++ decimal n ++ codes "," ≡ codes "0:8,"
eight_text n is =
    ap (λ k. decimal 0 ++ codes ":" ++ decimal k ++ codes ",") is
    ∙ ap (λ (x : List ℕ). x ++ codes ":" ++ decimal 8 ++ codes ",") (decimal_digit 0 (omega arith))
    ∙ ap (λ (x : List ℕ). 48 ∷ 58 ∷ [] ++ x ++ codes ",") (decimal_digit 8 (omega arith))

-- the pieces of the text of a packet of a lone mark
brief_pieces :
    (word header equals number space mark none : List ℕ)
    → (word ++ header ++ equals) ++ number ++ space ++ mark ++ (space ++ none) ≡ word ++ ((header ++ []) ++ (equals ++ number)) ++ space ++ mark ++ space ++ none
brief_pieces word header equals number space mark none = simp (append_assoc, append-nil)

lone_pieces :
    (header number mark : List ℕ) → header ≡ codes "0:8,"
    → codes "ip6 0:8,=" ++ number ++ codes " " ++ mark ++ codes " -"
    ≡ codes "ip6 " ++ ((header ++ []) ++ (codes "=" ++ number)) ++ codes " " ++ mark ++ codes " " ++ codes "-"
lone_pieces header number mark is =
    brief_pieces (codes "ip6 ") (codes "0:8,") (codes "=") number (codes " ") mark (codes "-")
    ∙ ap (λ x. codes "ip6 " ++ ((x ++ []) ++ (codes "=" ++ number)) ++ codes " " ++ mark ++ codes " " ++ codes "-") (sym is)

-- a packet of few headers is shown so
pub brief_shown :
    (packet : List ℕ) (mark : Option Marking) (next : ℕ) (whole : Bool) → IsBrief packet mark next → WalksBriefly packet mark next whole
    → IsPacketText packet whole (brief_text mark next)
brief_shown packet None next whole is walk = record {
  headers = [];
  ended = brief_ending None next;
  hop = brief_seen None;
  destination = NoMark;
  has = walk.has;
  ends = walk.ends;
  in_hop = walk.in_hop;
  in_destination = walk.in_destination;
  shown = simp append_assoc;
}
brief_shown packet (Some m) next whole is walk =
    let size : length (take 8 (drop 40 packet)) ≡ 8 = length-take-le 8 (drop 40 packet) (omega (arith, is.lone.1.there, length-drop 40 packet)) in
    record {
      headers = lone_header packet ∷ [];
      ended = brief_ending (Some m) next;
      hop = brief_seen (Some m);
      destination = NoMark;
      has = walk.has;
      ends = walk.ends;
      in_hop = walk.in_hop;
      in_destination = walk.in_destination;
      shown = lone_pieces _ (decimal next) (mark_text m) (eight_text _ size);
    }

-- a text grew by the line of a packet of few headers
pub adds_brief :
    (start packet : List ℕ) (whole : Bool) (mark : Option Marking) (next : ℕ) (old new : List ℕ)
    → IsBrief packet mark next → WalksBriefly packet mark next whole → new ≡ old ++ (start ++ brief_text mark next ++ codes "\n")
    → AddsPacket start packet whole old new
adds_brief start packet whole mark next old new is walk added = record {
  held = brief_text mark next;
  text = brief_shown packet mark next whole is walk;
  added = added;
}

-- a line that was made apart is added to another text
pub adds_apart :
    (start packet : List ℕ) (whole : Bool) (none line old new : List ℕ)
    → none ≡ [] → AddsPacket start packet whole none line → new ≡ old ++ line → AddsPacket start packet whole old new
adds_apart start packet whole none line old new is made grew = record {
  held = made.held;
  text = made.text;
  added = grew ∙ ap (λ x. old ++ x) (made.added ∙ ap (λ x. x ++ (start ++ made.held ++ codes "\n")) is);
}

-- a text grew by the line of a packet
pub line_of_packet :
    (k : Head) (number : ℕ) (p : Packet) (at : ℕ) (whole : Bool) (packet old new : List ℕ)
    → whole ≡ is_whole p
    → packet ≡ drop at p.bytes
    → IsFramed k.link p.bytes whole (Ip6 at)
    → AddsPacket (record_text k.form.nano number p) packet whole old new
    → Grows old new (λ x. IsLine k number p x)
line_of_packet k number p at whole packet old new same rest says added = (
  record_text k.form.nano number p ++ added.held ++ codes "\n",
  added.added,
  record {
    frame = Ip6 at;
    held = added.held;
    framed = subst (λ w. IsFramed k.link p.bytes w (Ip6 at)) same says;
    text = subst (λ w. IsPacketText (drop at p.bytes) w added.held) same (subst (λ x. IsPacketText x whole added.held) rest added.text);
    shown = refl;
  },
)

-- a text grew by the line of another record
pub line_of_word :
    (k : Head) (number : ℕ) (p : Packet) (frame : Frame) (whole : Bool) (word old new : List ℕ)
    → whole ≡ is_whole p
    → IsFramed k.link p.bytes whole frame
    → IsFrameText p frame word
    → new ≡ old ++ (record_text k.form.nano number p ++ word ++ codes "\n")
    → Grows old new (λ x. IsLine k number p x)
line_of_word k number p frame whole word old new same says text added = (
  record_text k.form.nano number p ++ word ++ codes "\n",
  added,
  record {
    frame = frame;
    held = word;
    framed = subst (λ w. IsFramed k.link p.bytes w frame) same says;
    text = text;
    shown = refl;
  },
)

-- the lines of the records so far, and the line of the next
pub lines_more :
    (k : Head) (ps : List Packet) (text : List ℕ) (number : ℕ) (p : Packet) (line : List ℕ)
    → AreLines k 1 ps text
    → number ≡ length ps + 1
    → IsLine k number p line
    → AreLines k 1 (ps ++ p ∷ []) (text ++ line)
lines_more k ps text number p line lines counted l = AreLines-more k 1 ps text number p line lines (omega arith) l
