-- Where a marked record counts, and its offset there.
use Rattle.std.proofs.Common.{arith, sym, ap, subst, ◌≡◌, ℕ, ◌+◌, ◌-◌, ◌*◌, ◌/◌, ◌%◌, ◌^◌, ◌<◌, ◌≤◌, Bool, true, ◌==◌, IsTrue, [], length, slice_index_or, nat_le, nat_lt, Option, Some, None, eqb-true, leb-true, ltb-true}
use Rattle.std.proofs.lemmas.Bool.{and_parts}
use Rattle.am_clock.specs.Times.{Times, half, parity, in_window, belongs_to}
use Rattle.am_domain.specs.Values.{FlowValue, no_node}
use Rattle.am_domain.specs.Domains.{DomainValue, IsLawful}
use Rattle.am_domain.specs.Lookups.{NoneHas, HasId}
use Rattle.am_meter.specs.declared.stream.Marked.{Marked}
use Rattle.am_meter.specs.Metering.{node_shift}
use Rattle.am_meter.specs.Lookups.{CountsAt}

abbrev no_flow : FlowValue
no_flow = record { name = []; id = 0; source = record { bytes = []; length = 0 }; destination = record { bytes = []; length = 0 } }

-- what counts in a cell has the flow's number
pub at-id :
    (d : DomainValue) (node : ℕ) (m : Marked) (flow block : ℕ) (f : FlowValue)
    → CountsAt d node m flow block
    → m.mark.flow ≡ (slice_index_or d.flows flow f).id
at-id d node m flow block f at =
    eqb-true m.mark.flow (slice_index_or d.flows flow f).id
    (and_parts (m.mark.flow == (slice_index_or d.flows flow f).id) (belongs_to d.times m.reading m.mark.loss (node_shift d node) block)
    (at.counts f)).0

-- and belongs to the block
pub at-belongs :
    (d : DomainValue) (node : ℕ) (m : Marked) (flow block : ℕ)
    → CountsAt d node m flow block
    → IsTrue (belongs_to d.times m.reading m.mark.loss (node_shift d node) block)
at-belongs d node m flow block at =
    (and_parts (m.mark.flow == (slice_index_or d.flows flow no_flow).id) (belongs_to d.times m.reading m.mark.loss (node_shift d node) block)
    (at.counts no_flow)).1

-- where no flow has the number, the record counts nowhere
pub no-flow :
    (d : DomainValue) (node : ℕ) (m : Marked) (flow block : ℕ)
    → NoneHas (HasId m.mark.flow) d.flows
    → CountsAt d node m flow block
    → ⊥
no-flow d node m flow block none at = none flow no_flow at.flow_there (sym (at-id d node m flow block no_flow at))

pub one-flow :
    (d : DomainValue) (node : ℕ) (m : Marked) (flow block : ℕ) (o : Option ℕ)
    → ((i : ℕ) (f : FlowValue) → i < length d.flows → m.mark.flow ≡ (slice_index_or d.flows i f).id → o ≡ Some i)
    → CountsAt d node m flow block
    → o ≡ Some flow
one-flow d node m flow block o of at = of flow no_flow at.flow_there (at-id d node m flow block no_flow at)

-- the window of a block that a record belongs to
pub record IsInWindow (t : Times) (reading shift block : ℕ) : Type 0 where
  pub from : block * t.block + shift ≤ reading + half t
  pub until : reading < block * t.block + t.block + half t + shift

pub in-window :
    (t : Times) (reading : ℕ) (colour : Bool) (shift block : ℕ)
    → IsTrue (belongs_to t reading colour shift block)
    → IsInWindow t reading shift block
in-window t reading colour shift block belongs =
    let window : in_window t reading shift block ≡ true = (and_parts (block % 2 == parity colour) (in_window t reading shift block) belongs).1 in
    let ends = and_parts (nat_le (block * t.block + shift) (reading + half t)) (nat_lt reading (block * t.block + t.block + half t + shift)) window in
    record {
      from = leb-true (block * t.block + shift) (reading + half t) ends.0;
      until = ltb-true reading (block * t.block + t.block + half t + shift) ends.1;
    }

-- an offset is found without leaving 64 bits, and is short
pub record IsOffset (t : Times) (reading block : ℕ) : Type 0 where
  pub begins : block * t.block < 2 ^ 64
  pub after : block * t.block - half t ≤ reading
  pub short : reading - (block * t.block - half t) < 2 ^ 42

offset-fits :
    (begin block half_of shift reading until : ℕ)
    → half_of + half_of ≤ block → block ≤ 2 ^ 40 → shift ≤ 2 ^ 40
    → begin + shift ≤ reading + half_of
    → reading < begin + block + half_of + shift
    → begin + block + half_of + shift ≤ until
    → until ≤ 4294967296000000000
    → (begin < 2 ^ 64) × (begin - half_of ≤ reading) × (reading - (begin - half_of) < 2 ^ 42)
offset-fits begin block half_of shift reading until a b c e f g h = (omega arith, omega arith, omega arith)

pub offset-of :
    (d : DomainValue) (node : ℕ) (m : Marked) (flow block : ℕ)
    → IsLawful d → node < length d.nodes
    → CountsAt d node m flow block
    → IsOffset d.times m.reading block
offset-of d node m flow block lawful there at =
    let window = in-window d.times m.reading m.mark.loss (node_shift d node) block (at-belongs d node m flow block at) in
    let within = lawful.windows block at.reported node no_node there in
    let fits = offset-fits (block * d.times.block) d.times.block (half d.times) (node_shift d node) m.reading (slice_index_or d.nodes node no_node).until
    (omega arith) lawful.timing.short (lawful.shifts node there) window.from window.until within.ends (lawful.until_readings node no_node there) in
    record { begins = fits.0; after = fits.1; short = fits.2 }

-- a flow and a block
abbrev pub pair : ℕ → ℕ → ℕ × ℕ
pair flow block = (flow, block)

-- where a record counts is one flow and one block
pub same-cell-as : (i n flow block : ℕ) → Some (pair i n) ≡ Some (pair flow block) → (flow ≡ i) × (block ≡ n)
same-cell-as i n flow block e =
    let pairs : pair i n ≡ pair flow block = cc in
    (sym (ap (λ (x : ℕ × ℕ). x.0) pairs), sym (ap (λ (x : ℕ × ℕ). x.1) pairs))

pub no-cell : (d : DomainValue) (node : ℕ) (m : Marked) (o : Option (ℕ × ℕ))
    → ((flow block : ℕ) → CountsAt d node m flow block → o ≡ Some (pair flow block))
    → o ≡ None
    → (flow block : ℕ) → CountsAt d node m flow block → ⊥
no-cell d node m o only none flow block at = let e : o ≡ Some (pair flow block) = only flow block at in cc

-- the one block that a record belongs to, by the times, the colour and the shift that were handed in
pub one-block-by :
    (d : DomainValue) (node : ℕ) (m : Marked) (flow block : ℕ) (t : Times) (colour : Bool) (shift : ℕ) (o : Option ℕ)
    → t ≡ d.times → colour ≡ m.mark.loss → shift ≡ node_shift d node
    → ((n : ℕ) → IsTrue (belongs_to t m.reading colour shift n) → o ≡ Some n)
    → CountsAt d node m flow block
    → o ≡ Some block
one-block-by d node m flow block t colour shift o st sc ss found at =
    found block
    (subst (λ x. IsTrue (belongs_to x m.reading colour shift block)) (sym st)
    (subst (λ x. IsTrue (belongs_to d.times m.reading x shift block)) (sym sc)
    (subst (λ x. IsTrue (belongs_to d.times m.reading m.mark.loss x block)) (sym ss) (at-belongs d node m flow block at))))

pub same-some : (m n : ℕ) → Some m ≡ Some n → m ≡ n
same-some m n e = cc

-- an offset, by the numbers that it is found from
pub record FindsOffset (t : Times) (reading block length : ℕ) : Type 0 where
  pub begins : block * length < 2 ^ 64
  pub after : block * length - length / 2 ≤ reading
  pub short : reading - (block * length - length / 2) < 2 ^ 42

pub finds-offset :
    (d : DomainValue) (node : ℕ) (m : Marked) (flow block length_ : ℕ)
    → IsLawful d → node < length d.nodes
    → CountsAt d node m flow block
    → length_ ≡ d.times.block
    → FindsOffset d.times m.reading block length_
finds-offset d node m flow block length_ lawful there at same =
    let o = offset-of d node m flow block lawful there at in
    subst (λ n. FindsOffset d.times m.reading block n) (sym same) (record { begins = o.begins; after = o.after; short = o.short })
