-- The newest block of each flow, as records come; and what a record with its mark is.
use Rattle.std.proofs.Common.{◌≡◌, ℕ, ◌+◌, ◌-◌, ◌*◌, ◌/◌, ◌%◌, ◌^◌, ◌<◌, ◌≤◌, Bool, List, [], ◌∷◌, ◌++◌, length, take, drop, refl, ap, sym, ◌∙◌, subst, arith, inl, inr}
use Rattle.std.specs.Prelude.{IsTrue, nat_le, ◌↔◌, ◌⊎◌, Contains, slice_index, slice_index_or, slice_set, max}
use Rattle.std.proofs.lemmas.List.{length-append, length-take, length-drop, take-append-drop, length-set, get_or-set_same, get_or-set_other}
use Rattle.std.proofs.lemmas.List.Elements.{Contains-append_left, Contains-append_right, Contains-append_cases}
use Rattle.am_opts.specs.Marking.{Marking, IsCanonical}
use Rattle.am_ip6.specs.declared.marks.Place.{Place}
use Rattle.am_ip6.specs.Fixed.{payload_of}
use Rattle.am_clock.specs.Times.{Times, IsMarkedIn}
use Rattle.am_pcap.specs.Packets.{Packet, reading_of}
use Rattle.am_pcap.specs.Spelling.{head_spelled, record_bytes}
use Rattle.am_pcap.specs.declared.head.Head.{Head}
use Rattle.am_domain.specs.Domains.{DomainValue}
use Rattle.am_run.specs.Rewriting.{IsOfFlow, IsOfNoFlow, with_packet}
use Rattle.am_run.specs.Marking.{IsNewest, AreNewest, PlansMark, MarksRecord}
use Rattle.am_run.specs.commands.Mark.{IsInBlock, IsAhead, marks, marked_records}
use Rattle.am_run.proofs.RewriteLemmas.{split, same, is-rewritten-more}
use Rattle.am_chain.specs.Printing.{AddsRecord}
use Rattle.am_insert.specs.Changes.{put_in, lengthened, with_payload, kind_of, size_place, header_end, spot_of_new}
use Rattle.am_insert.specs.Inserting.{Inserted}

-- a list of one has that one alone
only-one : (p q : Packet) → Contains (p ∷ []) q → p ≡ q
only-one p q c = let first : c.0 ≡ 0 = omega (arith, c.1) in subst (λ k. slice_index_or (p ∷ []) k q ≡ q) first c.2

-- among records and one more behind them: one of those, or that one
among : (ps : List Packet) (p q : Packet) → Contains (ps ++ p ∷ []) q → Contains ps q ⊎ (p ≡ q)
among ps p q c = elim (Contains-append_cases ps (p ∷ []) q c) [ inl x ↦ inl x | inr y ↦ inr (only-one p q y) ]

has-last : (ps : List Packet) (p : Packet) → Contains (ps ++ p ∷ []) p
has-last ps p = Contains-append_right ps (p ∷ []) p (0, omega arith, refl)

begins-by : (m n block : ℕ) → m * block < n * block + block → m ≤ n
begins-by m n block h = grind arith

-- a reading is in one block
marked-once : (t : Times) (reading m n : ℕ) → IsMarkedIn t reading m → IsMarkedIn t reading n → m ≡ n
marked-once t reading m n a b =
    let below : m ≤ n = begins-by m n t.block (omega (arith, a.from, b.until)) in
    let above : n ≤ m = begins-by n m t.block (omega (arith, b.from, a.until)) in
    omega (arith, below, above)

-- a record of another flow, or of none, changes nothing of a flow
kept : (d : DomainValue) (h : Head) (ps : List Packet) (p : Packet) (number newest : ℕ) → ((at : ℕ) → IsOfFlow d h.link p at number → ⊥)
    → IsNewest d h ps number newest → IsNewest d h (ps ++ p ∷ []) number newest
kept d h ps p number newest other n = record {
  above = λ q block c i. elim (among ps p q c) [
    | inl x ↦ n.above q block x i
    | inr e ↦ absurd (other i.at (subst (λ x. IsOfFlow d h.link x i.at number) (sym e) i.of_flow))
  ];
  reached = λ some. let r = n.reached some in (r.0, Contains-append_left ps (p ∷ []) r.0 r.1, r.2);
}

-- a record of the flow raises its newest block, where its own is not below
raised-newest : (d : DomainValue) (h : Head) (ps : List Packet) (p : Packet) (at number newest block : ℕ)
    → IsOfFlow d h.link p at number → IsMarkedIn d.times (reading_of h.form.nano p) block
    → IsNewest d h ps number newest → IsNewest d h (ps ++ p ∷ []) number (max newest (block + 1))
raised-newest d h ps p at number newest block of_flow marked_in n = record {
  above = λ q other c i. elim (among ps p q c) [
    | inl x ↦ omega (arith, n.above q other x i)
    | inr e ↦
        let same : other ≡ block = marked-once d.times (reading_of h.form.nano p) other block
        (subst (λ x. IsMarkedIn d.times (reading_of h.form.nano x) other) (sym e) i.marked_in) marked_in in
        omega (arith, same)
  ];
  reached = λ some. elim (split newest block) [
    | inl low ↦
        let greatest : max newest (block + 1) - 1 ≡ block = omega (arith, low) in
        (p, has-last ps p, subst (λ b. IsInBlock d h p number b) (sym greatest) (record { at = at; of_flow = of_flow; marked_in = marked_in }))
    | inr high ↦
        let greatest : newest ≡ max newest (block + 1) = omega (arith, high) in
        let some-before : 0 < newest = omega (arith, high) in
        let r = n.reached some-before in
        (r.0, Contains-append_left ps (p ∷ []) r.0 r.1, subst (λ b. IsInBlock d h r.0 number (b - 1)) greatest r.2)
  ];
}

-- the records of no flow change nothing
pub newest-kept : (d : DomainValue) (h : Head) (ps : List Packet) (p : Packet) (newest : List ℕ)
    → IsOfNoFlow d h.link p → AreNewest d h ps newest → AreNewest d h (ps ++ p ∷ []) newest
newest-kept d h ps p newest none a = record {
  each_flow = a.each_flow;
  each_newest = λ number within. kept d h ps p number (slice_index newest number) (λ at f. none at number f) (a.each_newest number within);
}

-- a record of a flow raises that flow's newest block, and no other's
pub newest-raised : (d : DomainValue) (h : Head) (ps : List Packet) (p : Packet) (at number block : ℕ) (old new : List ℕ)
    → IsOfFlow d h.link p at number → ((other flow : ℕ) → IsOfFlow d h.link p other flow → flow ≡ number)
    → IsMarkedIn d.times (reading_of h.form.nano p) block
    → new ≡ slice_set old number (max (slice_index old number) (block + 1))
    → AreNewest d h ps old → AreNewest d h (ps ++ p ∷ []) new
newest-raised d h ps p at number block old new of_flow only marked_in e a = record {
  each_flow = ap length e ∙ length-set old number (max (slice_index old number) (block + 1)) ∙ a.each_flow;
  each_newest = λ flow within. elim (same flow number) [
    | inl is ↦
        let here : slice_index new flow ≡ max (slice_index old number) (block + 1) =
        ap (λ x. slice_index x flow) e ∙ ap (λ k. slice_index (slice_set old number (max (slice_index old number) (block + 1))) k) is
        ∙ get_or-set_same old number (max (slice_index old number) (block + 1)) 0 (omega (arith, is, within, a.each_flow)) in
        subst (λ n. IsNewest d h (ps ++ p ∷ []) flow n) (sym here)
        (subst (λ k. IsNewest d h (ps ++ p ∷ []) k (max (slice_index old number) (block + 1))) (sym is)
        (raised-newest d h ps p at number (slice_index old number) block of_flow marked_in (a.each_newest number (omega (arith, is, within)))))
    | inr differs ↦
        let here : slice_index new flow ≡ slice_index old flow =
        ap (λ x. slice_index x flow) e ∙ get_or-set_other old number flow (max (slice_index old number) (block + 1)) 0 differs in
        subst (λ n. IsNewest d h (ps ++ p ∷ []) flow n) (sym here)
        (kept d h ps p flow (slice_index old flow) (λ other f. differs (only other flow f)) (a.each_newest flow within))
  ];
}

-- the delay bit stands where the block exceeds all before
ahead : (d : DomainValue) (h : Head) (ps : List Packet) (number newest block : ℕ) (delay : Bool)
    → delay ≡ nat_le newest block → IsNewest d h ps number newest → IsTrue delay ↔ IsAhead d h ps number block
ahead d h ps number newest block delay e n = (
  λ t q earlier c i. let below : earlier < newest = n.above q earlier c i in let low : newest ≤ block = grind (arith, subst IsTrue e t) in omega (arith, below, low),
  λ a.
      let low : newest ≤ block = elim (split newest 0) [
        | inl none ↦ omega (arith, none)
        | inr some ↦ let r = n.reached some in omega (arith, a r.0 (newest - 1) r.1 r.2, some)
      ] in
      let yes : IsTrue (nat_le newest block) = grind (arith, low) in
      subst IsTrue (sym e) yes,
)

-- the record of a flow gets its mark
pub gets-mark : (d : DomainValue) (h : Head) (ps : List Packet) (p : Packet) (at number newest block : ℕ) (packet : List ℕ) (q : Packet)
    → IsOfFlow d h.link p at number → PlansMark d h p at number newest block packet → IsNewest d h ps number newest
    → q ≡ with_packet p at packet (p.original + 8) → marks d h ps p q
gets-mark d h ps p at number newest block packet q of_flow plan n e = inl (record {
  at = at;
  number = number;
  of_flow = of_flow;
  mark = plan.mark;
  mark_is = record {
    block = block;
    marked_in = plan.marked_in;
    flow = plan.flow;
    loss = plan.loss;
    delay = ahead d h ps number newest block plan.mark.delay plan.delay n;
  };
  packet = packet;
  unhindered = plan.unhindered;
  room = plan.room;
  inserted = plan.inserted;
  marked = e;
})

length-put : (r bytes : List ℕ) (at : ℕ) → length (put_in r at bytes) ≡ length r + length bytes
length-put r bytes at =
    let whole : length (take at r) + length (drop at r) ≡ length r = sym (length-append (take at r) (drop at r)) ∙ ap length (take-append-drop at r) in
    let opened : length (put_in r at bytes) ≡ length ((take at r ++ bytes) ++ drop at r) = refl in
    omega (arith, opened, whole, length-append (take at r ++ bytes) (drop at r), length-append (take at r) bytes)

length-raised : (p : List ℕ) (place byte : ℕ) → length (lengthened p place byte) ≡ length p
length-raised p place byte =
    length-set (with_payload (payload_of p + 8) p) place byte
    ∙ length-set (slice_set p 4 ((payload_of p + 8) / 2 ^ 8)) 5 ((payload_of p + 8) % 2 ^ 8) ∙ length-set p 4 ((payload_of p + 8) / 2 ^ 8)

six : (bytes : List ℕ) (mark : Marking) → IsCanonical bytes mark → length bytes ≡ 6
six bytes mark c = ap length c.spells.spelled

-- a packet has eight bytes more once its mark is in
pub inserted-longer : (p : List ℕ) (mark : Marking) (place : Place) (q : List ℕ) → Inserted p mark place q → length q ≡ length p + 8
inserted-longer p mark place q i = elim i.put [
  | inl g ↦
      let s = spot_of_new place p i.headers in
      let n = six g.puts.spelling mark g.puts.canonical in
      omega (arith, ap length g.puts.marked_is, length-put (lengthened p s.told_at (kind_of place)) (s.kind ∷ 0 ∷ g.puts.spelling) s.at, length-raised p s.told_at (kind_of place), n)
  | inr g ↦
      let n = six g.longer.spelling mark g.longer.canonical in
      omega (
        arith,
        ap length g.longer.marked_is,
        length-put (lengthened p (size_place g.header) (slice_index p (size_place g.header) + 1)) (1 ∷ 0 ∷ g.longer.spelling) (header_end g.header),
        length-raised p (size_place g.header) (slice_index p (size_place g.header) + 1),
        n,
      )
]

-- the bytes of a record whose packet is another one
pub changed-bytes : (big : Bool) (p : Packet) (at : ℕ) (packet : List ℕ) (captured original : ℕ) (piece : List ℕ)
    → captured ≡ length (take at p.bytes ++ packet)
    → piece ≡ head_spelled big p.seconds p.fraction captured original ++ (take at p.bytes ++ packet)
    → piece ≡ record_bytes big (with_packet p at packet original)
changed-bytes big p at packet captured original piece e f =
    f ∙ ap (λ n. head_spelled big p.seconds p.fraction n original ++ (take at p.bytes ++ packet)) e

-- how many bytes are captured of it
pub captured-more : (bytes packet : List ℕ) (at : ℕ) → at ≤ length bytes → length packet ≡ length (drop at bytes) + 8
    → length bytes + 8 ≡ length (take at bytes ++ packet)
captured-more bytes packet at within e =
    omega (arith, within, e, length-drop at bytes, length-take at bytes, length-append (take at bytes) packet)

-- a record of a flow, with its mark
pub adds-marked : (d : DomainValue) (h : Head) (p : Packet) (at number : ℕ) (old new piece : List ℕ) (n : ℕ)
    → IsOfFlow d h.link p at number → ((other flow : ℕ) → IsOfFlow d h.link p other flow → flow ≡ number)
    → MarksRecord d h p at number old new piece
    → AddsRecord (marked_records d) (λ k ps. AreNewest d k ps old) (λ k ps. AreNewest d k ps new) h n p piece
adds-marked d h p at number old new piece n of_flow only m = λ ps text known counted is. (
  newest-raised d h ps p at number m.block old new of_flow only m.plan.marked_in m.newest_is known,
  is-rewritten-more (marks d) h ps p (with_packet p at m.packet (p.original + 8)) text piece is
      (gets-mark d h ps p at number (slice_index old number) m.block m.packet (with_packet p at m.packet (p.original + 8)) of_flow m.plan
      (known.each_newest number of_flow.first.within) refl)
      m.piece_is,
)

-- a record of no flow, as it is
pub adds-kept : (d : DomainValue) (h : Head) (p : Packet) (newest piece : List ℕ) (n : ℕ)
    → IsOfNoFlow d h.link p → piece ≡ record_bytes h.form.big p
    → AddsRecord (marked_records d) (λ k ps. AreNewest d k ps newest) (λ k ps. AreNewest d k ps newest) h n p piece
adds-kept d h p newest piece n none e = λ ps text known counted is.
    (newest-kept d h ps p newest none known, is-rewritten-more (marks d) h ps p p text piece is (inr (none, refl)) e)
