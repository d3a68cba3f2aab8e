-- The bytes of a node's capture, as they are written: the file header, and then event by event.
use Rattle.std.proofs.Common.{◌≡◌, ◌∙◌, ℕ, ◌+◌, ◌<◌, ◌≤◌, ◌%◌, eqb, Bool, true, false, zero, suc, List, [], ◌∷◌, ◌++◌, length, get_or, take, Option, refl, sym, ap, subst, arith, inl, inr, length-append, append_assoc, w32}
use Rattle.std.specs.Prelude.{All, flat_map, nat_lt}
use Rattle.std.proofs.lemmas.Bool.{cases_Bool}
use Rattle.std.proofs.lemmas.Bool.Decides.{nat_tests}
use Rattle.std.specs.Int.{to_be_bytes}
use Rattle.std.proofs.lemmas.List.{append-nil, take_all, get_or_default, get_or-append-add}
use Rattle.std.proofs.lemmas.List.Elements.{All-append}
use Rattle.std.proofs.lemmas.Grind.{flat_map-append}
use Rattle.std.proofs.lemmas.Nat.{be_bytes_4}
use Rattle.std.proofs.Math.Seq.{take-suc}
use Rattle.std.proofs.Math.ListN.{get_or-eq_default}
use Rattle.am_clock.specs.Times.{parity, IsMarkedIn}
use Rattle.am_opts.specs.Marking.{Marking, mark_of, data_of, IsCanonical}
use Rattle.am_domain.specs.Values.{FlowValue}
use Rattle.am_domain.specs.Domains.{DomainValue}
use Rattle.am_pcap.specs.Packets.{Packet, word}
use Rattle.am_pcap.specs.Heads.{half_word}
use Rattle.am_pcap.specs.Spelling.{record_bytes}
use Rattle.am_world.specs.declared.capture.Sent.{Sent}
use Rattle.am_world.specs.declared.event.Event.{Event}
use Rattle.am_world.specs.Passes.{block_at}
use Rattle.am_world.specs.Captures.{flow_at, mark_at, header_number, packet_bytes, sending_of, option_bytes, captured, captured_bytes, node_records, node_head, node_capture, IsSized}
use Rattle.am_world.proofs.LossLemmas.{block_is}

-- what was appended to a list of bytes are bytes
pub appended-bytes : (old more new : List ℕ) → new ≡ old ++ more
    → ((i none : ℕ) → i < length new → get_or new i none < 256) → (i : ℕ) → get_or more i 0 < 256
appended-bytes old more new is small i = elim (cases_Bool (nat_lt i (length more))) [
  | inl inside ↦
      let below : i < length more = grind (arith, nat_tests) in
      let long : length new ≡ length old + length more = ap length is ∙ length-append old more in
      let at : get_or new (length old + i) 0 ≡ get_or more i 0
      = ap (λ xs. get_or xs (length old + i) 0) is ∙ get_or-append-add old more i 0 in
      omega (arith, at, small (length old + i) 0 (omega (arith, below, long)))
  | inr outside ↦
      let above : length more ≤ i = grind (arith, nat_tests) in
      omega (arith, get_or-eq_default more 0 {n = i} above)
]

-- a list of so many numbers, by their places
abbrev pub listed : ℕ → (ℕ → ℕ) → List ℕ
listed zero f = []
listed (suc n) f = f zero ∷ listed n (λ i. f (suc i))

spread : (n : ℕ) (bs : List ℕ) → length bs ≡ n → bs ≡ listed n (λ i. get_or bs i 0)
spread zero [] long = refl
spread zero (b ∷ bs) long = absurd (omega (arith, long))
spread (suc n) [] long = absurd (omega (arith, long))
spread (suc n) (b ∷ bs) long = ap (λ xs. b ∷ xs) (spread n bs (omega (arith, long)))

-- what a file header of 24 bytes says
pub record IsNodeHead (raw : List ℕ) : Type 0 where
  pub bytes : (i : ℕ) → get_or raw i 0 < 256
  pub magic : take 4 raw ≡ 0x4d ∷ 0x3c ∷ 0xb2 ∷ 0xa1 ∷ []
  pub major : half_word false raw 4 ≡ 2
  pub minor : half_word false raw 6 ≡ 4
  pub zone : word false raw 8 ≡ 0
  pub accuracy : word false raw 12 ≡ 0
  pub snapshot : word false raw 16 ≡ 262144
  pub link : word false raw 20 ≡ 101

head-listed : (f : ℕ → ℕ) → IsNodeHead (listed 24 f) → listed 24 f ≡ node_head.raw
unfolding half_word word
head-listed f is =
    let e0 : f 0 ≡ 0x4d = cc (is.magic) in
    let e1 : f 1 ≡ 0x3c = cc (is.magic) in
    let e2 : f 2 ≡ 0xb2 = cc (is.magic) in
    let e3 : f 3 ≡ 0xa1 = cc (is.magic) in
    let e4 : f 4 ≡ 2 = omega (arith, is.major, is.bytes 4, is.bytes 5) in
    let e5 : f 5 ≡ 0 = omega (arith, is.major, is.bytes 4, is.bytes 5) in
    let e6 : f 6 ≡ 4 = omega (arith, is.minor, is.bytes 6, is.bytes 7) in
    let e7 : f 7 ≡ 0 = omega (arith, is.minor, is.bytes 6, is.bytes 7) in
    let e8 : f 8 ≡ 0 = omega (arith, is.zone) in
    let e9 : f 9 ≡ 0 = omega (arith, is.zone) in
    let e10 : f 10 ≡ 0 = omega (arith, is.zone) in
    let e11 : f 11 ≡ 0 = omega (arith, is.zone) in
    let e12 : f 12 ≡ 0 = omega (arith, is.accuracy) in
    let e13 : f 13 ≡ 0 = omega (arith, is.accuracy) in
    let e14 : f 14 ≡ 0 = omega (arith, is.accuracy) in
    let e15 : f 15 ≡ 0 = omega (arith, is.accuracy) in
    let e16 : f 16 ≡ 0 = omega (arith, is.snapshot, is.bytes 16, is.bytes 17, is.bytes 18, is.bytes 19) in
    let e17 : f 17 ≡ 0 = omega (arith, is.snapshot, is.bytes 16, is.bytes 17, is.bytes 18, is.bytes 19) in
    let e18 : f 18 ≡ 4 = omega (arith, is.snapshot, is.bytes 16, is.bytes 17, is.bytes 18, is.bytes 19) in
    let e19 : f 19 ≡ 0 = omega (arith, is.snapshot, is.bytes 16, is.bytes 17, is.bytes 18, is.bytes 19) in
    let e20 : f 20 ≡ 101 = omega (arith, is.link, is.bytes 20, is.bytes 21, is.bytes 22, is.bytes 23) in
    let e21 : f 21 ≡ 0 = omega (arith, is.link, is.bytes 20, is.bytes 21, is.bytes 22, is.bytes 23) in
    let e22 : f 22 ≡ 0 = omega (arith, is.link, is.bytes 20, is.bytes 21, is.bytes 22, is.bytes 23) in
    let e23 : f 23 ≡ 0 = omega (arith, is.link, is.bytes 20, is.bytes 21, is.bytes 22, is.bytes 23) in
    cc (e0, e1, e2, e3, e4, e5, e6, e7, e8, e9, e10, e11, e12, e13, e14, e15, e16, e17, e18, e19, e20, e21, e22, e23)

-- it is the one of a node's capture
pub head-alone : (raw : List ℕ) → length raw ≡ 24 → IsNodeHead raw → raw ≡ node_head.raw
head-alone raw long is =
    let all : raw ≡ listed 24 (λ i. get_or raw i 0) = spread 24 raw long in
    all ∙ head-listed (λ i. get_or raw i 0) (subst IsNodeHead all is)

-- the option that was written is the one that says the mark
pub option-is : (bytes : List ℕ) (m : Marking) → ((i : ℕ) → get_or bytes i 0 < 256) → IsCanonical bytes m → bytes ≡ option_bytes m
option-is bytes m small canonical =
    let s = canonical.spells in
    let four = s.x ∷ s.y ∷ s.z ∷ s.w ∷ [] in
    let below : (i : ℕ) → get_or four i 0 < 256 = λ i. subst (λ bs. get_or bs (suc (suc i)) 0 < 256) s.spelled (small (suc (suc i))) in
    let none : data_of m 0 ≡ data_of m s.reserved = ap (data_of m) (sym canonical.none_reserved) in
    let written : to_be_bytes w32 (data_of m 0) ≡ four = be_bytes_4 four (data_of m 0) refl below (omega (arith, none, s.bits)) in
    s.spelled ∙ ap (λ bs. 0x12 ∷ 4 ∷ bs) (sym written)

-- a packet that is sent so
pub sending-is : (d : DomainValue) (flow reading id block : ℕ) (delay colour : Bool) (mark : Marking)
    → id ≡ (flow_at d flow).id → IsMarkedIn d.times reading block → block % 2 ≡ parity colour
    → mark ≡ mark_of id colour delay
    → ◌≡◌ {A = Sent} (record { flow = flow; mark = mark }) (record { flow = flow; mark = mark_at d flow reading delay })
sending-is d flow reading id block delay colour mark named marked coloured is =
    let at : block_at d.times reading ≡ block = block_is d.times reading block marked in
    let bit : colour ≡ eqb (block_at d.times reading % 2) 1
    = colour-bit colour (block % 2) coloured ∙ ap (λ n. eqb (n % 2) 1) (sym at) in
    let whole : mark ≡ mark_at d flow reading delay
    = is ∙ ap (λ n. mark_of n colour delay) named ∙ ap (λ b. mark_of (flow_at d flow).id b delay) bit in
    let made : Marking → Sent = λ m. record { flow = flow; mark = m } in
    ap made whole
  where
    colour-bit : (c : Bool) (n : ℕ) → n ≡ parity c → c ≡ eqb n 1
    colour-bit true n e = rw e refl
    colour-bit false n e = rw e refl

-- the flow of this number
pub flow-is : (d : DomainValue) (flows : List FlowValue) (flow : ℕ) (x : FlowValue) → flows ≡ d.flows → x ≡ get_or flows flow x
    → flow < length d.flows → x ≡ flow_at d flow
flow-is d flows flow x same is below = is ∙ ap (λ fs. get_or fs flow x) same ∙ get_or_default d.flows flow x _ below

-- the parts of a packet, one after another
pub packet-put : (d : DomainValue) (s : Sent) (old one two three four five source destination option : List ℕ) (number : ℕ)
    → one ≡ old ++ (0x60 ∷ 0 ∷ 0 ∷ 0 ∷ 0 ∷ 8 ∷ number ∷ 64 ∷ []) → two ≡ one ++ source → three ≡ two ++ destination
    → four ≡ three ++ (59 ∷ 0 ∷ []) → five ≡ four ++ option
    → number ≡ header_number d.kind → source ≡ (flow_at d s.flow).source.bytes
    → destination ≡ (flow_at d s.flow).destination.bytes → option ≡ option_bytes s.mark
    → five ≡ old ++ packet_bytes d s
packet-put d s old one two three four five source destination option number a b c e f of from to says =
    let fixed = 0x60 ∷ 0 ∷ 0 ∷ 0 ∷ 0 ∷ 8 ∷ number ∷ 64 ∷ [] in
    let all : five ≡ ((((old ++ fixed) ++ source) ++ destination) ++ (59 ∷ 0 ∷ [])) ++ option
    = f ∙ ap (λ x. x ++ option) (e ∙ ap (λ x. x ++ (59 ∷ 0 ∷ [])) (c ∙ ap (λ x. x ++ destination) (b ∙ ap (λ x. x ++ source) a))) in
    let joined : ((((old ++ fixed) ++ source) ++ destination) ++ (59 ∷ 0 ∷ [])) ++ option
    ≡ old ++ (fixed ++ ((source ++ destination) ++ (59 ∷ 0 ∷ option)))
    = simp append_assoc in
    all ∙ joined ∙ rw (of, from, to, says) refl

-- the first events are written
pub record IsWritten (d : DomainValue) (events : List Event) (node i : ℕ) (bytes : List ℕ) : Type 0 where
  pub bytes_are : bytes
      ≡ node_head.raw
      ++ flat_map (λ p. record_bytes false p)
      (flat_map (λ e. captured d node (sending_of d events e) e) (take i events))
  pub sized : All IsSized (flat_map (λ e. captured d node (sending_of d events e) e) (take i events))

-- one event more
pub written-more : (d : DomainValue) (events : List Event) (node i : ℕ) (none : Event) (sent : Option Sent) (old new : List ℕ)
    → i < length events → sent ≡ sending_of d events (get_or events i none)
    → new ≡ old ++ captured_bytes d node sent (get_or events i none)
    → All IsSized (captured d node sent (get_or events i none))
    → IsWritten d events node i old → IsWritten d events node (i + 1) new
written-more d events node i none sent old new below known put sized first =
    let cap = λ (e : Event). captured d node (sending_of d events e) e in
    let rec = λ (p : Packet). record_bytes false p in
    let e = get_or events i none in
    let front = flat_map cap (take i events) in
    let here : captured d node sent e ≡ cap e = ap (λ s. captured d node s e) known in
    let after : i + 1 ≡ suc i = omega arith in
    let next : take (i + 1) events ≡ take i events ++ e ∷ []
    = ap (λ n. take n events) after ∙ take-suc events i none below in
    let one : flat_map cap (e ∷ []) ≡ cap e = append-nil (cap e) in
    let all : flat_map cap (take (i + 1) events) ≡ front ++ cap e
    = ap (flat_map cap) next ∙ flat_map-append cap (take i events) (e ∷ []) ∙ ap (λ xs. front ++ xs) one in
    let bytes : flat_map rec (flat_map cap (take (i + 1) events)) ≡ flat_map rec front ++ flat_map rec (cap e)
    = ap (flat_map rec) all ∙ flat_map-append rec front (cap e) in
    let added : new ≡ old ++ flat_map rec (cap e) = put ∙ ap (λ ps. old ++ flat_map rec ps) here in
    let joined : old ++ flat_map rec (cap e) ≡ node_head.raw ++ (flat_map rec front ++ flat_map rec (cap e))
    = ap (λ bs. bs ++ flat_map rec (cap e)) first.bytes_are ∙ append_assoc node_head.raw (flat_map rec front) (flat_map rec (cap e)) in
    record {
      bytes_are = added ∙ joined ∙ ap (λ bs. node_head.raw ++ bs) (sym bytes);
      sized = subst (All IsSized) (sym all) (All-append IsSized front (cap e) first.sized (subst (All IsSized) here sized));
    }

-- of all events
pub record IsWhole (d : DomainValue) (events : List Event) (node : ℕ) (bytes : List ℕ) : Type 0 where
  pub bytes_are : bytes ≡ node_capture d events node
  pub sized : All IsSized (node_records d events node)

pub written-all : (d : DomainValue) (events : List Event) (node i : ℕ) (bytes : List ℕ) → length events ≤ i
    → IsWritten d events node i bytes → IsWhole d events node bytes
written-all d events node i bytes all w =
    let cap = λ (e : Event). captured d node (sending_of d events e) e in
    let whole : take i events ≡ events = take_all i events all in
    record {
      bytes_are = w.bytes_are ∙ ap (λ es. node_head.raw ++ flat_map (λ p. record_bytes false p) (flat_map cap es)) whole;
      sized = subst (λ es. All IsSized (flat_map cap es)) whole w.sized;
    }
