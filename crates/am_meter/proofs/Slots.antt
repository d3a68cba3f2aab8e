-- The records of a batch, as its slots keep them.
use Rattle.std.proofs.Common.{arith, refl, sym, ap, subst, ◌∙◌, ◌≡◌, ℕ, zero, suc, ◌+◌, ◌<◌, ◌≤◌, List, [], ◌∷◌, ◌++◌, length, take, drop, map, All, slice_index_or}
use Rattle.std.proofs.lemmas.List.{map-append, length-append, length-drop, length_push, take-append-le, drop-append-le, take_all, drop_at}
use Rattle.std.proofs.lemmas.List.Elements.{All-append, All-weaker}
use Rattle.std.proofs.lemmas.List.Sums.{sum_by_push}
use Rattle.am_meter.specs.declared.batch.Slot.{Slot}
use Rattle.am_meter.specs.declared.batch.TheConstants.{MAX_RECORDS, MAX_BYTES}
use Rattle.am_meter.specs.Batches.{BatchRecord, batch_record, bytes_in}
use Rattle.am_meter.specs.BatchSlots.{slot_record, IsSlotWithin, IsKept}

-- more bytes behind those of a slot change nothing of its record
kept-more : (bytes more : List ℕ) (s : Slot) → IsSlotWithin (length bytes) s → slot_record (bytes ++ more) s ≡ slot_record bytes s
kept-more bytes more s within =
    ap (λ x. batch_record s.link s.number s.reading s.whole x)
    (ap (λ x. take s.length x) (drop-append-le s.from bytes more (omega arith))
    ∙ take-append-le s.length (drop s.from bytes) more (omega (arith, length-drop s.from bytes)))

map-kept-more :
    (bytes more : List ℕ) (slots : List Slot)
    → All (IsSlotWithin (length bytes)) slots
    → map (slot_record (bytes ++ more)) slots ≡ map (slot_record bytes) slots
map-kept-more bytes more [] all = refl
map-kept-more bytes more (s ∷ ss) all =
    ap (λ x. x ∷ map (slot_record (bytes ++ more)) ss) (kept-more bytes more s (all 0 s (omega arith)))
    ∙ ap (λ x. slot_record bytes s ∷ x) (map-kept-more bytes more ss (λ k e there. all (suc k) e (omega arith)))

-- a new slot behind the last, whose bytes were put behind all others
pub record IsNext (slot : Slot) (bytes more : List ℕ) : Type 0 where
  pub from : slot.from ≡ length bytes
  pub long : slot.length ≡ length more

kept-next :
    (slot : Slot) (bytes more : List ℕ)
    → IsNext slot bytes more
    → slot_record (bytes ++ more) slot ≡ batch_record slot.link slot.number slot.reading slot.whole more
kept-next slot bytes more next =
    ap (λ x. batch_record slot.link slot.number slot.reading slot.whole x)
    (ap (λ x. take slot.length x) (drop_at bytes more slot.from (sym next.from)) ∙ take_all slot.length more (omega (arith, next.long)))

pub pushed :
    (slots : List Slot) (bytes more : List ℕ) (slot : Slot)
    → All (IsSlotWithin (length bytes)) slots
    → IsNext slot bytes more
    → map (slot_record (bytes ++ more)) (slots ++ slot ∷ [])
    ≡ map (slot_record bytes) slots ++ batch_record slot.link slot.number slot.reading slot.whole more ∷ []
pushed slots bytes more slot within next =
    map-append (slot_record (bytes ++ more)) slots (slot ∷ [])
    ∙ ap (λ x. x ++ slot_record (bytes ++ more) slot ∷ []) (map-kept-more bytes more slots within)
    ∙ ap (λ x. map (slot_record bytes) slots ++ x ∷ []) (kept-next slot bytes more next)

alone : (P : Slot → Type 0) (s : Slot) → P s → (k : ℕ) (d : Slot) → k < length (s ∷ []) → P (slice_index_or (s ∷ []) k d)
alone P s p zero e there = p
alone P s p (suc k) e there = absurd (omega arith)

pub is-kept :
    (slots : List Slot) (bytes more : List ℕ) (slot : Slot)
    → IsKept slots bytes
    → IsNext slot bytes more
    → length slots < MAX_RECORDS
    → length bytes + length more ≤ MAX_BYTES
    → IsKept (slots ++ slot ∷ []) (bytes ++ more)
is-kept slots bytes more slot is next few short = record {
  within = All-append (IsSlotWithin (length (bytes ++ more))) slots (slot ∷ [])
      (All-weaker (IsSlotWithin (length bytes)) (IsSlotWithin (length (bytes ++ more))) (λ s h. omega (arith, h, length-append bytes more)) slots is.within)
      (alone (IsSlotWithin (length (bytes ++ more))) slot (omega (arith, next.from, next.long, length-append bytes more)));
  whole =
      ap (λ x. bytes_in x) (pushed slots bytes more slot is.within next)
      ∙ sum_by_push (λ (r : BatchRecord). length r.bytes) (map (slot_record bytes) slots) (batch_record slot.link slot.number slot.reading slot.whole more)
      ∙ ap (λ n. n + length more) is.whole
      ∙ sym (length-append bytes more);
  few = omega (arith, length_push slots slot);
  short = omega (arith, length-append bytes more);
}

-- the same of the slots and the bytes as they are then
pub is-kept-then :
    (slots now : List Slot) (bytes then_ more : List ℕ) (slot : Slot)
    → now ≡ slots ++ slot ∷ []
    → then_ ≡ bytes ++ more
    → IsKept slots bytes
    → IsNext slot bytes more
    → length slots < MAX_RECORDS
    → length bytes + length more ≤ MAX_BYTES
    → IsKept now then_
is-kept-then slots now bytes then_ more slot a b is next few short =
    subst (λ x. IsKept x then_) (sym a) (subst (λ x. IsKept (slots ++ slot ∷ []) x) (sym b) (is-kept slots bytes more slot is next few short))

pub pushed-then :
    (slots now : List Slot) (bytes then_ more : List ℕ) (slot : Slot)
    → now ≡ slots ++ slot ∷ []
    → then_ ≡ bytes ++ more
    → IsKept slots bytes
    → IsNext slot bytes more
    → map (slot_record then_) now
    ≡ map (slot_record bytes) slots ++ batch_record slot.link slot.number slot.reading slot.whole more ∷ []
pushed-then slots now bytes then_ more slot a b is next =
    ap (λ x. map (slot_record then_) x) a
    ∙ ap (λ x. map (slot_record x) (slots ++ slot ∷ [])) b
    ∙ pushed slots bytes more slot is.within next
