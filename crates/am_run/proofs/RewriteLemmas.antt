-- One more record of a capture whose packets are changed.
use Rattle.std.proofs.Common.{◌≡◌, ℕ, ◌-◌, ◌<◌, ◌≤◌, ◌≢◌, zero, suc, Bool, List, [], ◌∷◌, ◌++◌, length, take, drop, refl, ap, sym, ◌∙◌, subst, append_assoc, arith, inl, inr}
use Rattle.std.specs.Prelude.{◌⊎◌, flat_map}
use Rattle.std.proofs.Math.Seq.{take-length}
use Rattle.std.proofs.lemmas.List.{append-nil, length-drop}
use Rattle.std.proofs.lemmas.Grind.{flat_map-append}
use Rattle.am_pcap.specs.Packets.{Packet}
use Rattle.am_pcap.specs.Spelling.{record_bytes}
use Rattle.am_pcap.specs.declared.head.Head.{Head}
use Rattle.am_addr.specs.Bits.{Span}
use Rattle.am_ip6.specs.Fixed.{FixedParts, parts_of}
use Rattle.am_pcap.specs.Frames.{IsFramed}
use Rattle.am_pcap.specs.CaptureFiles.{is_whole}
use Rattle.am_pcap.specs.declared.frame.Frame.{Frame}
use Rattle.am_pcap.specs.declared.frame.Frame.TheVariants.{Ip6}
use Rattle.am_pcap.specs.declared.frame.LinkKind.{LinkKind}
use Rattle.am_domain.specs.Domains.{DomainValue}
use Rattle.am_domain.specs.Values.{FlowValue}
use Rattle.am_domain.specs.Lookups.{IsFirstWith, NoneHas, Holds}
use Rattle.am_run.specs.Rewriting.{Rewrite, AreRewritten, IsRewritten, IsOfFlow}

-- the records that became of others, and one more behind them
rewritten-more :
    (rewrite : Rewrite) (h : Head) (before ps qs : List Packet) (p q : Packet)
    → AreRewritten rewrite h before ps qs → rewrite h (before ++ ps) p q
    → AreRewritten rewrite h before (ps ++ p ∷ []) (qs ++ q ∷ [])
rewritten-more rewrite h before [] qs p q a r =
    (q, [], subst (λ b. rewrite h b p q) (append-nil before) r, refl, ap (λ x. x ++ q ∷ []) a)
rewritten-more rewrite h before (x ∷ ps) qs p q a r = (
  a.0,
  a.1 ++ q ∷ [],
  a.2,
  rewritten-more rewrite h (before ++ x ∷ []) ps a.1 p q a.3 (subst (λ b. rewrite h b p q) (sym (append_assoc before (x ∷ []) ps)) r),
  ap (λ y. y ++ q ∷ []) a.4,
)

-- the same of the capture's bytes
pub is-rewritten-more :
    (rewrite : Rewrite) (h : Head) (ps : List Packet) (p q : Packet) (text piece : List ℕ)
    → IsRewritten rewrite h ps text → rewrite h ps p q → piece ≡ record_bytes h.form.big q
    → IsRewritten rewrite h (ps ++ p ∷ []) (text ++ piece)
is-rewritten-more rewrite h ps p q text piece i r e =
    let f : Packet → List ℕ = λ x. record_bytes h.form.big x in
    let one : flat_map f (q ∷ []) ≡ piece = append-nil (f q) ∙ sym e in
    record {
      records = i.records ++ q ∷ [];
      rewritten = rewritten-more rewrite h [] ps i.records p q i.rewritten r;
      written = ap (λ t. t ++ piece) i.written ∙ append_assoc h.raw (flat_map f i.records) piece
          ∙ ap (λ t. h.raw ++ t) (ap (λ t. flat_map f i.records ++ t) (sym one) ∙ sym (flat_map-append f i.records (q ∷ [])));
    }

-- nothing but the file header, before all records
pub is-rewritten-none : (rewrite : Rewrite) (h : Head) (text : List ℕ) → text ≡ h.raw → IsRewritten rewrite h [] text
is-rewritten-none rewrite h text e = record { records = []; rewritten = refl; written = e ∙ sym (append-nil h.raw) }

-- what became of a record in the middle
pub rewritten-at :
    (rewrite : Rewrite) (h : Head) (before ps : List Packet) (p : Packet) (more qs : List Packet)
    → AreRewritten rewrite h before ((ps ++ p ∷ []) ++ more) qs → (q : Packet) × rewrite h (before ++ ps) p q
rewritten-at rewrite h before [] p more qs a = (a.0, subst (λ b. rewrite h b p a.0) (sym (append-nil before)) a.2)
rewritten-at rewrite h before (x ∷ ps) p more qs a =
    let r = rewritten-at rewrite h (before ++ x ∷ []) ps p more a.1 a.3 in
    (r.0, subst (λ b. rewrite h b p r.0) (append_assoc before (x ∷ []) ps) r.1)

pub split : (a b : ℕ) → (a ≤ b) ⊎ (b < a)
split zero b = inl (omega arith)
split (suc a) zero = inr (omega arith)
split (suc a) (suc b) = elim (split a b) [ inl x ↦ inl (omega (arith, x)) | inr y ↦ inr (omega (arith, y)) ]

pub same : (a b : ℕ) → (a ≡ b) ⊎ (a ≢ b)
same a b = elim (split a b) [
  | inl below ↦ elim (split b a) [ inl above ↦ inl (omega (arith, below, above)) | inr less ↦ inr (λ e. omega (arith, e, less)) ]
  | inr less ↦ inr (λ e. omega (arith, e, less))
]

-- the rest of a list from a place on, as a range of it
pub slice-rest : (k : ℕ) (xs : List ℕ) → take (length xs - k) (drop k xs) ≡ drop k xs
slice-rest k xs = ap (λ n. take n (drop k xs)) (sym (length-drop k xs)) ∙ take-length (drop k xs)

no_span : Span
no_span = record { bytes = []; length = 0 }

no_flow : FlowValue
no_flow = record { name = []; id = 0; source = no_span; destination = no_span }

first-once : (Q : FlowValue → Type 0) (xs : List FlowValue) (a b : ℕ) → IsFirstWith Q xs a → IsFirstWith Q xs b → a ≡ b
first-once Q xs a b f g = elim (split a b) [
  | inl below ↦ elim (split b a) [
    | inl above ↦ omega (arith, below, above)
    | inr less ↦ absurd (g.before a no_flow less (f.here no_flow))
  ]
  | inr less ↦ absurd (f.before b no_flow less (g.here no_flow))
]

-- a record of a flow has its packet at the place that its frame says
one-place : (link : LinkKind) (p : Packet) (d : DomainValue) (whole : Bool) (frame : Frame) (a b n : ℕ)
    → whole ≡ is_whole p → ((f : Frame) → IsFramed link p.bytes whole f → frame ≡ f) → frame ≡ Ip6 a → IsOfFlow d link p b n → b ≡ a
one-place link p d whole frame a b n whole_is only frame_is f =
    let placed : Ip6 a ≡ Ip6 b = sym frame_is ∙ only (Ip6 b) (subst (λ w. IsFramed link p.bytes w (Ip6 b)) (sym whole_is) f.packet.framed) in
    cc (placed)

-- its addresses are those that were read
read-first : (link : LinkKind) (p : Packet) (d : DomainValue) (a b n : ℕ) (x : FixedParts) (bytes : List ℕ)
    → b ≡ a → x ≡ parts_of bytes → bytes ≡ drop a p.bytes → IsOfFlow d link p b n → IsFirstWith (Holds x.source x.destination) d.flows n
read-first link p d a b n x bytes place parts bytes_is f =
    subst (λ (y : FixedParts). IsFirstWith (Holds y.source y.destination) d.flows n)
    (ap (λ k. parts_of (drop k p.bytes)) place ∙ ap parts_of (sym bytes_is) ∙ sym parts) f.first

-- a record is of one flow at most: the one that was found
pub one-flow : (d : DomainValue) (link : LinkKind) (p : Packet) (whole : Bool) (frame : Frame) (a m b n : ℕ) (x : FixedParts) (bytes : List ℕ)
    → whole ≡ is_whole p → ((f : Frame) → IsFramed link p.bytes whole f → frame ≡ f) → frame ≡ Ip6 a
    → x ≡ parts_of bytes → bytes ≡ drop a p.bytes → IsFirstWith (Holds x.source x.destination) d.flows m
    → IsOfFlow d link p b n → (b ≡ a) × (n ≡ m)
one-flow d link p whole frame a m b n x bytes whole_is only frame_is parts bytes_is first f =
    let place = one-place link p d whole frame a b n whole_is only frame_is f in
    (place, first-once (Holds x.source x.destination) d.flows n m (read-first link p d a b n x bytes place parts bytes_is f) first)

-- it is of none where none holds its addresses
pub of-no-flow : (d : DomainValue) (link : LinkKind) (p : Packet) (whole : Bool) (frame : Frame) (a b n : ℕ) (x : FixedParts) (bytes : List ℕ)
    → whole ≡ is_whole p → ((f : Frame) → IsFramed link p.bytes whole f → frame ≡ f) → frame ≡ Ip6 a
    → x ≡ parts_of bytes → bytes ≡ drop a p.bytes → NoneHas (Holds x.source x.destination) d.flows → IsOfFlow d link p b n → ⊥
of-no-flow d link p whole frame a b n x bytes whole_is only frame_is parts bytes_is none f =
    let first = read-first link p d a b n x bytes (one-place link p d whole frame a b n whole_is only frame_is f) parts bytes_is f in
    none n no_flow first.within (first.here no_flow)
