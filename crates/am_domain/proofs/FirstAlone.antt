-- The first bad field is one alone, and there is none where the table says something.
use Rattle.std.proofs.Common.{◌≡◌, ℕ, ◌≤◌, List, [], ◌∷◌, ◌++◌, length, suc, Option, Some, None, subst, sym, ap, ◌∙◌, refl, inl, inr, arith}
use Rattle.std.specs.List.{AllByRecursion, AllZip}
use Rattle.toml.specs.Data.{Data, array, Items, item, Members}
use Rattle.toml.specs.View.{items_of}
use Rattle.am_clock.specs.Times.{Times}
use Rattle.am_domain.specs.Values.{FlowValue, NodeValue, LinkValue}
use Rattle.am_domain.specs.First.{IsFirstNot}
use Rattle.am_domain.specs.Keys.{IsRightTable}
use Rattle.am_domain.specs.Tables.{order, SaysFlow, SaysNode, SaysLink, IsBadKey}
use Rattle.am_domain.specs.Entries.{IsTableOf, IsBadItem, IsBadAt, AreEntries, IsBadArray}
use Rattle.am_domain.specs.Fields.{MarkingValue, SaysTimes, SaysMarking, IsTableAt, IsBadTable}
use Rattle.am_domain.specs.declared.error.Part.{Part}
use Rattle.am_domain.specs.declared.error.Part.TheVariants.{Timing, Marking, Flow, Node, Link}
use Rattle.am_domain.specs.declared.error.Key.{Key}

-- the first that is not right is one alone
pub first_alone : {X : Type 0} (Right : X → Type 0) (xs : List X) (x y : X) → IsFirstNot Right xs x → IsFirstNot Right xs y → x ≡ y
first_alone Right [] x y a b = absurd a
first_alone Right (z ∷ zs) x y (inl a) (inl b) = a.0 ∙ sym b.0
first_alone Right (z ∷ zs) x y (inl a) (inr b) = absurd (a.1 b.0)
first_alone Right (z ∷ zs) x y (inr a) (inl b) = absurd (b.1 a.0)
first_alone Right (z ∷ zs) x y (inr a) (inr b) = first_alone Right zs x y a.1 b.1

-- where all are right, none is the first that is not
pub none_first : {X : Type 0} (Right : X → Type 0) (xs : List X) (x : X) → AllByRecursion Right xs → IsFirstNot Right xs x → ⊥
none_first Right [] x all a = a
none_first Right (z ∷ zs) x all (inl a) = a.1 all.0
none_first Right (z ∷ zs) x all (inr a) = none_first Right zs x all.1 a.1

-- what a table says, its keys are right for
pub flow_right : (ms : Members) (f : FlowValue) → SaysFlow ms f → AllByRecursion (IsRightTable Flow ms) (order Flow)
flow_right ms f h = ((f.name, h.name), ((f.id, h.id), ((f.source, h.source), ((f.destination, h.destination), (h.known, tt)))))

pub node_right : (ms : Members) (n : NodeValue) → SaysNode ms n → AllByRecursion (IsRightTable Node ms) (order Node)
node_right ms n h = ((n.name, h.name), ((n.capture, h.capture), ((n.from, h.from), ((n.until, h.until), (h.known, tt)))))

pub link_right : (ms : Members) (l : LinkValue) → SaysLink ms l → AllByRecursion (IsRightTable Link ms) (order Link)
link_right ms l h = ((l.from, h.from), ((l.to, h.to), (h.known, tt)))

pub times_right : (ms : Members) (t : Times) → SaysTimes ms t → AllByRecursion (IsRightTable Timing ms) (order Timing)
times_right ms t h = ((t.block, h.block), ((t.skew, h.skew), ((t.delay_min, h.delay_min), ((t.delay_max, h.delay_max), (h.known, tt)))))

pub marking_right : (ms : Members) (m : MarkingValue) → SaysMarking ms m → AllByRecursion (IsRightTable Marking ms) (order Marking)
marking_right ms m h = ((m.kind, h.place), ((m.workers, h.workers), (h.known, tt)))

-- what is bad about an item is one alone
pub item_alone : (part : Part) (d : Data) (k k' : Option Key) → IsBadItem part d k → IsBadItem part d k' → k ≡ k'
item_alone part d None None a b = refl
item_alone part d None (Some k) a b = absurd (a b.0 b.1)
item_alone part d (Some k) None a b = absurd (b a.0 a.1)
item_alone part d (Some k) (Some k') a b =
    let same : a.0 ≡ b.0 = cc (a.1, b.1) in
    ap Some (first_alone (IsRightTable part b.0) (order part) k k' (subst (λ (ms : Members). IsBadKey part ms k) same a.2) b.2)

module _ {X : Type 0} (part : Part) (Said : Members → X → Type 0) (right : (ms : Members) (x : X) → Said ms x → AllByRecursion (IsRightTable part ms) (order part)) where
  -- an item that says something is not bad
  item_says : (d : Data) (x : X) (k : Option Key) → IsTableOf Said d x → IsBadItem part d k → ⊥
  item_says d x None h b = b h.ms h.is_table
  item_says d x (Some k) h b =
      let same : b.0 ≡ h.ms = cc (b.1, h.is_table) in
      none_first (IsRightTable part h.ms) (order part) k (right h.ms x h.says) (subst (λ (ms : Members). IsBadKey part ms k) same b.2)

  -- the item behind some that say something each, in a list that says something each
  item_at : (before : List Data) (d : Data) (behind : List Data) (xs : List X) → AllZip (IsTableOf Said) (before ++ d ∷ behind) xs → (x : X) × IsTableOf Said d x
  item_at [] d behind [] all = absurd all
  item_at [] d behind (x ∷ xs) all = (x, all.0)
  item_at (b ∷ before) d behind [] all = absurd all
  item_at (b ∷ before) d behind (x ∷ xs) all = item_at before d behind xs all.1

  -- two first bad items of a list are the same
  bad_alone :
      (before before' : List Data) (bad bad' : Data) (behind behind' : List Data) (xs xs' : List X) (k k' : Option Key)
      → before ++ bad ∷ behind ≡ before' ++ bad' ∷ behind' → AllZip (IsTableOf Said) before xs → AllZip (IsTableOf Said) before' xs' → IsBadItem part bad k → IsBadItem part bad' k'
      → (length before ≡ length before') × (bad ≡ bad')
  bad_alone [] [] bad bad' behind behind' xs xs' k k' e a a' b b' = (refl, cc e)
  bad_alone [] (d ∷ before') bad bad' behind behind' xs [] k k' e a a' b b' = absurd a'
  bad_alone [] (d ∷ before') bad bad' behind behind' xs (x ∷ xs') k k' e a a' b b' =
      let same : bad ≡ d = cc e in
      absurd (item_says d x k a'.0 (subst (λ (z : Data). IsBadItem part z k) same b))
  bad_alone (d ∷ before) [] bad bad' behind behind' [] xs' k k' e a a' b b' = absurd a
  bad_alone (d ∷ before) [] bad bad' behind behind' (x ∷ xs) xs' k k' e a a' b b' =
      let same : bad' ≡ d = cc e in
      absurd (item_says d x k' a.0 (subst (λ (z : Data). IsBadItem part z k') same b'))
  bad_alone (d ∷ before) (d' ∷ before') bad bad' behind behind' [] xs' k k' e a a' b b' = absurd a
  bad_alone (d ∷ before) (d' ∷ before') bad bad' behind behind' (x ∷ xs) [] k k' e a a' b b' = absurd a'
  bad_alone (d ∷ before) (d' ∷ before') bad bad' behind behind' (x ∷ xs) (x' ∷ xs') k k' e a a' b b' =
      let tails : before ++ bad ∷ behind ≡ before' ++ bad' ∷ behind' = cc e in
      let r = bad_alone before before' bad bad' behind behind' xs xs' k k' tails a.1 a'.1 b b' in
      (ap suc r.0, r.1)

  bad_at_alone : (ds : List Data) (i i' : ℕ) (k k' : Option Key) → IsBadAt part Said ds i k → IsBadAt part Said ds i' k' → (i ≡ i') × (k ≡ k')
  bad_at_alone ds i i' k k' a b =
      let r = bad_alone a.before b.before a.bad b.bad a.behind b.behind a.right b.right k k' (sym a.split ∙ b.split) a.each b.each a.is_bad b.is_bad in
      (a.place ∙ r.0 ∙ sym b.place, item_alone part b.bad k k' (subst (λ (d : Data). IsBadItem part d k) r.1 a.is_bad) b.is_bad)

  bad_at_says : (ds : List Data) (i : ℕ) (k : Option Key) (xs : List X) → AllZip (IsTableOf Said) ds xs → IsBadAt part Said ds i k → ⊥
  bad_at_says ds i k xs all b =
      let r = item_at b.before b.bad b.behind xs (subst (λ (es : List Data). AllZip (IsTableOf Said) es xs) b.split all) in
      item_says b.bad r.0 k r.1 b.is_bad

-- items are those of one list alone
pub same_items : (ds es : List Data) → items_of ds ≡ items_of es → ds ≡ es
same_items [] [] e = refl
same_items [] (d ∷ es) e = cc e
same_items (d ∷ ds) [] e = cc e
same_items (d ∷ ds) (c ∷ es) e =
    let heads : d ≡ c = cc e in
    let tails : items_of ds ≡ items_of es = cc e in
    rw heads (ap (λ t. c ∷ t) (same_items ds es tails))

-- a list with an item is not empty
some_items : (before : List Data) (d : Data) (behind : List Data) → (c : Data) × (cs : Items) × (items_of (before ++ d ∷ behind) ≡ item c cs)
some_items [] d behind = (d, items_of behind, refl)
some_items (b ∷ before) d behind = (b, items_of (before ++ d ∷ behind), refl)

module _ {X : Type 0} (part : Part) (Said : Members → X → Type 0) (right : (ms : Members) (x : X) → Said ms x → AllByRecursion (IsRightTable part ms) (order part)) where
  -- what is wrong with an array is one alone
  pub array_alone : (at : Option Data) (i i' : Option ℕ) (k k' : Option Key) → IsBadArray part Said at i k → IsBadArray part Said at i' k' → (i ≡ i') × (k ≡ k')
  array_alone at None None None None a b = (refl, refl)
  array_alone at None None None (Some k') a b = absurd b
  array_alone at None None (Some k) k' a b = absurd a
  array_alone at None (Some i') None k' a b =
      let s = some_items b.is_bad.before b.is_bad.bad b.is_bad.behind in
      absurd (a s.0 s.1 (b.is_array ∙ ap (λ ds. Some (array (items_of ds))) b.is_bad.split ∙ ap (λ ds. Some (array ds)) s.2))
  array_alone at None (Some i') (Some k) k' a b = absurd a
  array_alone at (Some i) None k None a b =
      let s = some_items a.is_bad.before a.is_bad.bad a.is_bad.behind in
      absurd (b s.0 s.1 (a.is_array ∙ ap (λ ds. Some (array (items_of ds))) a.is_bad.split ∙ ap (λ ds. Some (array ds)) s.2))
  array_alone at (Some i) None k (Some k') a b = absurd b
  array_alone at (Some i) (Some i') k k' a b =
      let e : items_of a.items ≡ items_of b.items = cc (a.is_array, b.is_array) in
      let r = bad_at_alone part Said right b.items i i' k k' (subst (λ (ds : List Data). IsBadAt part Said ds i k) (same_items a.items b.items e) a.is_bad) b.is_bad in
      (ap Some r.0, r.1)

  -- an array that says something has nothing wrong
  pub array_says : (at : Option Data) (xs : List X) (i : Option ℕ) (k : Option Key) → AreEntries Said at xs → IsBadArray part Said at i k → ⊥
  array_says at xs None None h b = no_items_left h.items h.some h.is_array b
    where
      no_items_left : (ds : List Data) → 1 ≤ length ds → at ≡ Some (array (items_of ds)) → ((d : Data) (es : Items) → at ≡ Some (array (item d es)) → ⊥) → ⊥
      no_items_left [] some e none = absurd (omega (arith, some))
      no_items_left (d ∷ ds) some e none = none d (items_of ds) e
  array_says at xs None (Some k) h b = b
  array_says at xs (Some i) k h b =
      let e : items_of h.items ≡ items_of b.items = cc (h.is_array, b.is_array) in
      bad_at_says part Said right b.items i k xs (subst (λ (ds : List Data). AllZip (IsTableOf Said) ds xs) (same_items h.items b.items e) h.each) b.is_bad

-- what is wrong with a table is one alone
pub table_alone : (part : Part) (at : Option Data) (i i' : Option ℕ) (k k' : Option Key) → IsBadTable part at i k → IsBadTable part at i' k' → (i ≡ i') × (k ≡ k')
table_alone part at None None None None a b = (refl, refl)
table_alone part at None None None (Some k') a b = absurd (a b.0 b.1)
table_alone part at None None (Some k) None a b = absurd (b a.0 a.1)
table_alone part at None None (Some k) (Some k') a b =
    let same : a.0 ≡ b.0 = cc (a.1, b.1) in
    (refl, ap Some (first_alone (IsRightTable part b.0) (order part) k k' (subst (λ (ms : Members). IsBadKey part ms k) same a.2) b.2))
table_alone part at None (Some i') k k' a b = absurd b
table_alone part at (Some i) i' k k' a b = absurd a

-- a table that says something has nothing wrong
pub table_says : {X : Type 0} (part : Part) (Said : Members → X → Type 0) (right : (ms : Members) (x : X) → Said ms x → AllByRecursion (IsRightTable part ms) (order part))
    → (at : Option Data) (x : X) (i : Option ℕ) (k : Option Key) → IsTableAt Said at x → IsBadTable part at i k → ⊥
table_says part Said right at x None None h b = b h.ms h.is_table
table_says part Said right at x None (Some k) h b =
    let same : b.0 ≡ h.ms = cc (b.1, h.is_table) in
    none_first (IsRightTable part h.ms) (order part) k (right h.ms x h.says) (subst (λ (ms : Members). IsBadKey part ms k) same b.2)
table_says part Said right at x (Some i) k h b = b
