-- The cell of a flow and a block over one marked record more, and tables of cells in which records are counted.
use Rattle.std.proofs.Common.{arith, refl, sym, ap, subst, ◌∙◌, ◌≡◌, ◌≢◌, ◌⊎◌, inl, inr, ℕ, ◌+◌, ◌<◌, Bool, true, false, ◌&&◌, IsTrue, List, [], ◌∷◌, ◌++◌, length, cond, filter, count_by, sum_by, slice_index_or, append_assoc, add-zero}
use Rattle.std.proofs.lemmas.Bool.{cases_eq}
use Rattle.std.proofs.lemmas.List.{get_or_default, length-append}
use Rattle.std.proofs.lemmas.List.Sums.{sum_by-append}
use Rattle.std.proofs.lemmas.List.Elements.{filter-append}
use Rattle.am_clock.specs.Times.{Times}
use Rattle.am_cells.specs.declared.cell.Cell.{Cell}
use Rattle.am_cells.specs.Counts.{no_packets, one_packet, together}
use Rattle.am_cells.specs.CellTables.{CellTable, HasCell, HaveOneShape, AddsTo, cell_at}
use Rattle.am_domain.specs.Values.{FlowValue}
use Rattle.am_domain.specs.Domains.{DomainValue, Reports}
use Rattle.am_meter.specs.declared.stream.Marked.{Marked}
use Rattle.am_meter.specs.Metering.{counts_in, delays_in, offset_in, cell_of, node_shift, HasDomainShape, AreMetered, CountsMore}
use Rattle.am_meter.specs.Lookups.{CountsAt}

-- one record more passes a test, or doesn't
count-more : (p : Marked → Bool) (ms : List Marked) (m : Marked) → count_by p (ms ++ m ∷ []) ≡ count_by p ms + cond (p m) 1 0
count-more p ms m =
    let e : count_by p (ms ++ m ∷ []) ≡ count_by p ms + (0 + cond (p m) 1 0) =
    sum_by-append (λ (x : Marked). cond (p x) 1 0) ms (m ∷ []) in
    omega (arith, e)

sum-one : (f : Marked → ℕ) (m : Marked) (b : Bool) → sum_by f (cond b (m ∷ []) []) ≡ cond b (f m) 0
sum-one f m true = omega arith
sum-one f m false = refl

-- and what is added up of those that pass it
sum-more :
    (p : Marked → Bool) (f : Marked → ℕ) (ms : List Marked) (m : Marked)
    → sum_by f (filter p (ms ++ m ∷ [])) ≡ sum_by f (filter p ms) + cond (p m) (f m) 0
sum-more p f ms m =
    ap (λ xs. sum_by f xs) (filter-append p ms (m ∷ []))
    ∙ sum_by-append f (filter p ms) (cond (p m) (m ∷ []) [])
    ∙ ap (λ n. sum_by f (filter p ms) + n) (sum-one f m (p m))

-- a cell of equal numbers
abbrev cell : ℕ → ℕ → ℕ → ℕ → Cell
cell count dcount sum dsum = record { count = count; dcount = dcount; sum = sum; dsum = dsum }

same-cell : (a b c d e f g h : ℕ) → a ≡ e → b ≡ f → c ≡ g → d ≡ h → cell a b c d ≡ cell e f g h
same-cell a b c d e f g h p q r s =
    ap (λ x. cell x b c d) p ∙ ap (λ x. cell e x c d) q ∙ ap (λ x. cell e f x d) r ∙ ap (λ x. cell e f g x) s

-- what one record adds to a cell, by whether it counts there and whether it has the delay bit
abbrev added : Bool → Bool → ℕ → Cell
added b d offset = cell (cond b 1 0) (cond d 1 0) (cond b offset 0) (cond d offset 0)

cell-more :
    (t : Times) (id shift block : ℕ) (ms : List Marked) (m : Marked) (b d : Bool)
    → counts_in t id shift block m ≡ b
    → delays_in t id shift block m ≡ d
    → cell_of t id shift block (ms ++ m ∷ []) ≡ together (cell_of t id shift block ms) (added b d (offset_in t block m))
cell-more t id shift block ms m b d counts delays =
    same-cell _ _ _ _ _ _ _ _
    (count-more (counts_in t id shift block) ms m ∙ ap (λ x. count_by (counts_in t id shift block) ms + cond x 1 0) counts)
    (count-more (delays_in t id shift block) ms m ∙ ap (λ x. count_by (delays_in t id shift block) ms + cond x 1 0) delays)
    (sum-more (counts_in t id shift block) (offset_in t block) ms m
    ∙ ap (λ x. sum_by (offset_in t block) (filter (counts_in t id shift block) ms) + cond x (offset_in t block m) 0) counts)
    (sum-more (delays_in t id shift block) (offset_in t block) ms m
    ∙ ap (λ x. sum_by (offset_in t block) (filter (delays_in t id shift block) ms) + cond x (offset_in t block m) 0) delays)

added-one : (d : Bool) (offset : ℕ) → added true d offset ≡ one_packet d offset
added-one true offset = refl
added-one false offset = refl

-- a record that counts in a cell
pub cell-one :
    (t : Times) (id shift block : ℕ) (ms : List Marked) (m : Marked)
    → counts_in t id shift block m ≡ true
    → cell_of t id shift block (ms ++ m ∷ []) ≡ together (cell_of t id shift block ms) (one_packet m.mark.delay (offset_in t block m))
cell-one t id shift block ms m counts =
    cell-more t id shift block ms m true m.mark.delay counts (ap (λ x. x && m.mark.delay) counts)
    ∙ ap (λ c. together (cell_of t id shift block ms) c) (added-one m.mark.delay (offset_in t block m))

together-none : (c : Cell) → together c no_packets ≡ c
together-none c = same-cell _ _ _ _ _ _ _ _ (add-zero c.count) (add-zero c.dcount) (add-zero c.sum) (add-zero c.dsum)

-- a record that doesn't
pub cell-other :
    (t : Times) (id shift block : ℕ) (ms : List Marked) (m : Marked)
    → counts_in t id shift block m ≡ false
    → cell_of t id shift block (ms ++ m ∷ []) ≡ cell_of t id shift block ms
cell-other t id shift block ms m counts =
    cell-more t id shift block ms m false false counts (ap (λ x. x && m.mark.delay) counts)
    ∙ together-none (cell_of t id shift block ms)

-- records were counted, and then others
pub counts-both :
    (d : DomainValue) (node : ℕ) (old mid new : CellTable) (ms more : List Marked)
    → CountsMore d node old mid ms
    → CountsMore d node mid new more
    → CountsMore d node old new (ms ++ more)
counts-both d node old mid new ms more a b = record {
  table = λ is. b.table (a.table is);
  metered = λ before x. subst (λ xs. AreMetered d node xs new) (append_assoc before ms more) (b.metered (before ++ ms) (a.metered before x));
  total = omega (arith, a.total, b.total, length-append ms more);
}

-- where a record counts for one way to name the flow, it does for each
counts-each :
    (d : DomainValue) (node : ℕ) (m : Marked) (flow block : ℕ) (f : FlowValue)
    → flow < length d.flows → Reports d block
    → IsTrue (counts_in d.times (slice_index_or d.flows flow f).id (node_shift d node) block m)
    → CountsAt d node m flow block
counts-each d node m flow block f there reported counts = record {
  flow_there = there;
  reported = reported;
  counts = λ g. subst (λ (x : FlowValue). IsTrue (counts_in d.times x.id (node_shift d node) block m))
      (get_or_default d.flows flow f g there) counts;
}

-- a record that counts nowhere
counts-nowhere-at :
    (d : DomainValue) (node : ℕ) (t : CellTable) (m : Marked) (ms : List Marked) (flow block : ℕ) (f : FlowValue) (b : Bool)
    → (CountsAt d node m flow block → ⊥)
    → flow < length d.flows → Reports d block
    → counts_in d.times (slice_index_or d.flows flow f).id (node_shift d node) block m ≡ b
    → cell_at t flow block ≡ cell_of d.times (slice_index_or d.flows flow f).id (node_shift d node) block ms
    → cell_at t flow block ≡ cell_of d.times (slice_index_or d.flows flow f).id (node_shift d node) block (ms ++ m ∷ [])
counts-nowhere-at d node t m ms flow block f true nowhere there reported counts is =
    absurd (nowhere (counts-each d node m flow block f there reported counts))
counts-nowhere-at d node t m ms flow block f false nowhere there reported counts is =
    is ∙ sym (cell-other d.times (slice_index_or d.flows flow f).id (node_shift d node) block ms m counts)

pub counts-nowhere :
    (d : DomainValue) (node : ℕ) (t : CellTable) (m : Marked)
    → ((flow block : ℕ) → CountsAt d node m flow block → ⊥)
    → CountsMore d node t t (m ∷ [])
counts-nowhere d node t m nowhere = record {
  table = λ is. is;
  metered = λ ms a. record {
    table = a.table;
    cells = λ flow block f there reported.
        counts-nowhere-at d node t m ms flow block f (counts_in d.times (slice_index_or d.flows flow f).id (node_shift d node) block m)
        (nowhere flow block) there reported refl (a.cells flow block f there reported);
  };
  total = omega arith;
}

-- a table of a domain has a cell for each of its flows and reported blocks
pub has-cell :
    (d : DomainValue) (t : CellTable) (flow block : ℕ)
    → HasDomainShape d t → flow < length d.flows → Reports d block → HasCell t flow block
has-cell d t flow block is there reported = record {
  flow_there = omega (arith, is.flows_are, there);
  from = omega (arith, is.first_is, reported.0);
  until = omega (arith, is.end_is, reported.1);
}

same-shape : (d : DomainValue) (old new : CellTable) → HaveOneShape old new → HasDomainShape d old → HasDomainShape d new
same-shape d old new same is = record {
  flows_are = same.flows_are ∙ is.flows_are;
  first_is = same.first_is ∙ is.first_is;
  end_is = same.end_is ∙ is.end_is;
}

-- the cell of a flow and a block, where a record was counted in one cell
counts-here-at :
    (d : DomainValue) (node : ℕ) (old new : CellTable) (m : Marked) (at_flow at_block : ℕ) (ms : List Marked) (flow block : ℕ) (f : FlowValue) (b : Bool)
    → CountsAt d node m at_flow at_block
    → (CountsAt d node m flow block → (flow ≡ at_flow) × (block ≡ at_block))
    → HasDomainShape d old
    → AddsTo old new at_flow at_block (one_packet m.mark.delay (offset_in d.times at_block m))
    → flow < length d.flows → Reports d block
    → counts_in d.times (slice_index_or d.flows flow f).id (node_shift d node) block m ≡ b
    → cell_at old flow block ≡ cell_of d.times (slice_index_or d.flows flow f).id (node_shift d node) block ms
    → cell_at new flow block ≡ cell_of d.times (slice_index_or d.flows flow f).id (node_shift d node) block (ms ++ m ∷ [])
counts-here-at d node old new m at_flow at_block ms flow block f true at only table adds there reported counts is =
    let here = only (counts-each d node m flow block f there reported counts) in
    let changed : cell_at new flow block ≡ together (cell_at old flow block) (one_packet m.mark.delay (offset_in d.times block m)) =
    subst (λ x. cell_at new x block ≡ together (cell_at old x block) (one_packet m.mark.delay (offset_in d.times block m))) (sym here.0)
    (subst (λ y. cell_at new at_flow y ≡ together (cell_at old at_flow y) (one_packet m.mark.delay (offset_in d.times y m))) (sym here.1)
    adds.changes.changed) in
    changed
    ∙ ap (λ c. together c (one_packet m.mark.delay (offset_in d.times block m))) is
    ∙ sym (cell-one d.times (slice_index_or d.flows flow f).id (node_shift d node) block ms m counts)
counts-here-at d node old new m at_flow at_block ms flow block f false at only table adds there reported counts is =
    let other : (flow ≢ at_flow) ⊎ (block ≢ at_block) =
    elim (cases_eq flow at_flow) [
      | inl same ↦ inr (λ also.
          let yes : counts_in d.times (slice_index_or d.flows flow f).id (node_shift d node) block m ≡ true =
          subst (λ x. counts_in d.times (slice_index_or d.flows x f).id (node_shift d node) block m ≡ true) (sym same)
          (subst (λ y. counts_in d.times (slice_index_or d.flows at_flow f).id (node_shift d node) y m ≡ true) (sym also) (at.counts f)) in
          cc (yes, counts))
      | inr differ ↦ inl differ
    ] in
    adds.changes.others flow block (has-cell d old flow block table there reported) other
    ∙ is
    ∙ sym (cell-other d.times (slice_index_or d.flows flow f).id (node_shift d node) block ms m counts)

-- one packet is one
one-count : (d : Bool) (offset : ℕ) → (one_packet d offset).count ≡ 1
one-count true offset = refl
one-count false offset = refl

-- a record that counts in one cell alone, and was counted there
pub counts-here :
    (d : DomainValue) (node : ℕ) (old new : CellTable) (m : Marked) (at_flow at_block : ℕ)
    → CountsAt d node m at_flow at_block
    → ((flow block : ℕ) → CountsAt d node m flow block → (flow ≡ at_flow) × (block ≡ at_block))
    → AddsTo old new at_flow at_block (one_packet m.mark.delay (offset_in d.times at_block m))
    → CountsMore d node old new (m ∷ [])
counts-here d node old new m at_flow at_block at only adds = record {
  table = same-shape d old new adds.changes.shape;
  metered = λ ms a. record {
    table = same-shape d old new adds.changes.shape a.table;
    cells = λ flow block f there reported.
        counts-here-at d node old new m at_flow at_block ms flow block f
        (counts_in d.times (slice_index_or d.flows flow f).id (node_shift d node) block m)
        at (only flow block) a.table adds there reported refl (a.cells flow block f there reported);
  };
  total = omega (arith, adds.total, one-count m.mark.delay (offset_in d.times at_block m));
}

-- the same by the delay bit and the offset that were handed in
pub counts-here-then :
    (d : DomainValue) (node : ℕ) (old new : CellTable) (m : Marked) (at_flow at_block : ℕ) (delay : Bool) (offset : ℕ)
    → delay ≡ m.mark.delay
    → offset ≡ offset_in d.times at_block m
    → CountsAt d node m at_flow at_block
    → ((flow block : ℕ) → CountsAt d node m flow block → (flow ≡ at_flow) × (block ≡ at_block))
    → AddsTo old new at_flow at_block (one_packet delay offset)
    → CountsMore d node old new (m ∷ [])
counts-here-then d node old new m at_flow at_block delay offset same_delay same_offset at only adds =
    counts-here d node old new m at_flow at_block at only
    (subst (λ n. AddsTo old new at_flow at_block (one_packet m.mark.delay n)) same_offset
    (subst (λ b. AddsTo old new at_flow at_block (one_packet b offset)) same_delay adds))
