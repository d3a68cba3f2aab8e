-- The text of a row, and the rows of a map.
use Rattle.std.proofs.Common.{◌≡◌, ℕ, ◌+◌, ◌<◌, List, [], ◌∷◌, ◌++◌, map, get_or, Option, Some, None, Result, Ok, Err, decimal, refl, ap, sym, subst, arith, append_assoc, ◌∙◌}
use Rattle.std.specs.Prelude.{ℤ, pos, ◌-ℤ◌, OnOk, IfOk}
use Rattle.std.specs.Fmt.{signed_decimal}
use Rattle.std.specs.Prelude.{All, Contains, IsSome, IfSome, unwrap_or, option_map}
use Rattle.std.specs.BTreeMap.{get, keys, IsOrdered}
use Rattle.std.specs.Ordering.{nat_cmp}
use Rattle.std.specs.Cmp.{nat_cmp_total}
use Rattle.std.specs.List.Sorted.{IsStrictlyIncreasing}
use Rattle.std.proofs.lemmas.List.Elements.{All-map, All-weaker}
use Rattle.std.proofs.lemmas.Map.Entries.{btree_map_get_place}
use Rattle.std.proofs.lemmas.Map.Keys.{below_from_sorted}
use Rattle.std.proofs.lemmas.Map.Lookups.{exact_unsigned}
use Rattle.std.proofs.lemmas.Map.Views.{btree_map_contains_key_iff}
use Rattle.std.proofs.lemmas.Option.{slice_get-get_or}
use Rattle.am_chain.specs.Tables.{Row, IsCountTable, row_line}
use Rattle.am_chain.specs.Tallies.{side_count, settled, IsSettled, counts_row, rows_of}
use Rattle.am_chain.specs.declared.table.Counts.{Counts}
use Rattle.am_chain.specs.declared.table.Side.{Side}
use Rattle.am_chain.specs.declared.table.Side.TheVariants.{Entered, Left}
use Rattle.am_chain.specs.declared.table.Table.{Table}

-- what holds of an `Ok` by another fact
pub on_ok : {T E : Type 0} {P Q : Type 0} (r : Result T E) → (P → Q) → OnOk r P → OnOk r Q
on_ok (Ok x) f p = f p
on_ok (Err e) f p = p

-- the pieces of a line, one after another
pub line_pieces :
    (r : Row) (text : List ℕ) (z : ℤ)
    → z ≡ pos r.entered -ℤ pos r.left
    → text ++ (decimal r.block ++ 44 ∷ (decimal r.entered ++ 44 ∷ (decimal r.left ++ 44 ∷ (signed_decimal z ++ 10 ∷ []))))
    ≡ text ++ row_line r
line_pieces r text z e = rw e (ap (λ x. text ++ x) (simp append_assoc))

-- the blocks of the rows
blocks_of : (es : List (ℕ × Counts)) → map (λ r. r.block) (map (λ e. counts_row e.0 e.1) es) ≡ map (λ e. e.0) es
blocks_of [] = refl
blocks_of (e ∷ es) = ap (λ xs. e.0 ∷ xs) (blocks_of es)

-- a fact of the value that is there
if_some : {X : Type 0} (P : X → Type 0) (o : Option X) (x : X) → o ≡ Some x → IfSome o P → P x
if_some P o x e h = subst (λ p. IfSome p P) e h

-- where a block has a packet, its counts are there
some_counted : (o : Option Counts) → 0 < unwrap_or (option_map (side_count Entered) o) 0 + unwrap_or (option_map (side_count Left) o) 0 → IsSome o
some_counted None h = absurd (omega arith)
some_counted (Some c) h = refl

-- a table of these counts is one of equal counts
pub table-of-same :
    (e f l m : ℕ → ℕ) (rows : List Row) → ((b : ℕ) → e b ≡ f b) → ((b : ℕ) → l b ≡ m b) → IsCountTable e l rows → IsCountTable f m rows
table-of-same e f l m rows same_e same_l t = record {
  ascending = t.ascending;
  entered = All-weaker (λ r. r.entered ≡ e r.block) (λ r. r.entered ≡ f r.block) (λ r h. h ∙ same_e r.block) rows t.entered;
  left = All-weaker (λ r. r.left ≡ l r.block) (λ r. r.left ≡ m r.block) (λ r h. h ∙ same_l r.block) rows t.left;
  each = t.each;
  every = λ b h. t.every b (omega (arith, same_e b, same_l b));
}

-- a fact of the value of an `Ok` by another
pub if_ok : {T E : Type 0} {P Q : T → Type 0} (r : Result T E) → ((x : T) → P x → Q x) → IfOk r P → IfOk r Q
if_ok (Ok x) f p = f x p
if_ok (Err e) f p = tt

module _ (t : Table) (ordered : IsOrdered nat_cmp t.counts) (counted : IsSettled t) where
  -- each entry is the one at its block
  each_found : All (λ e. get nat_cmp t.counts e.0 ≡ Some e.1) t.counts.entries
  each_found = λ k d h.
      let e : ℕ × Counts = get_or t.counts.entries k d in
      btree_map_get_place nat_cmp_total t.counts k e.0 e.1 ordered (slice_get-get_or t.counts.entries k d h)

  -- a side's count in an entry is the map's
  settled_found : (side : Side) (block : ℕ) (c : Counts) → get nat_cmp t.counts block ≡ Some c → side_count side c ≡ settled t side block
  settled_found side block c e = sym (ap (λ o. unwrap_or (option_map (side_count side) o) 0) e)

  -- a table in memory is the table of what it counted
  pub rows_are_table : IsCountTable (settled t Entered) (settled t Left) (rows_of t)
  rows_are_table =
      let rows : ℕ × Counts → Row = λ e. counts_row e.0 e.1 in
      let found : ℕ × Counts → Type 0 = λ e. get nat_cmp t.counts e.0 ≡ Some e.1 in
      record {
        ascending = subst (λ xs. IsStrictlyIncreasing xs) (sym (blocks_of t.counts.entries))
            (λ k h. below_from_sorted (keys t.counts) k (k + 1) 0 ordered (omega arith) h);
        entered = All-map (λ r. r.entered ≡ settled t Entered r.block) rows t.counts.entries
            (All-weaker found (λ e. e.1.entered ≡ settled t Entered e.0) (λ e g. settled_found Entered e.0 e.1 g) t.counts.entries each_found);
        left = All-map (λ r. r.left ≡ settled t Left r.block) rows t.counts.entries
            (All-weaker found (λ e. e.1.left ≡ settled t Left e.0) (λ e g. settled_found Left e.0 e.1 g) t.counts.entries each_found);
        each = All-map (λ r. 0 < r.entered + r.left) rows t.counts.entries
            (All-weaker found (λ e. 0 < e.1.entered + e.1.left) (λ e g. if_some (λ c. 0 < c.entered + c.left) (get nat_cmp t.counts e.0) e.1 g (counted e.0)) t.counts.entries each_found);
        every = λ block h. subst (λ xs. Contains xs block) (sym (blocks_of t.counts.entries))
            ((btree_map_contains_key_iff nat_cmp_total exact_unsigned t.counts block).0 (some_counted (get nat_cmp t.counts block) h));
      }
