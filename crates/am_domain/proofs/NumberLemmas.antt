-- The numbers of flows, before they are put in order and after, and what is found among them.
use Rattle.std.proofs.Common.{arith, sym, subst, ap, ⊎_elim, ◌∙◌, ◌≡◌, ◌≢◌, ℕ, ◌+◌, ◌-◌, ◌<◌, ◌≤◌, List, [], ◌∷◌, ◌++◌, length, get_or, length-append, All, Contains}
use Rattle.std.proofs.lemmas.Bool.{cases_lt}
use Rattle.std.proofs.lemmas.Bool.Decides.{nat_tests}
use Rattle.std.proofs.lemmas.Cmp.{ranked}
use Rattle.std.proofs.Math.ListN.{get_or-append}
use Rattle.std.proofs.lemmas.List.{get_or_default, get_or-append_right}
use Rattle.std.proofs.lemmas.List.Sorted.{All-permutation, Contains-permutation}
use Rattle.std.specs.List.{HoldsAt}
use Rattle.std.specs.List.Sorted.{IsNonDecreasingBy, IsPermutation, IsPartitionPoint}
use Rattle.std.specs.Ordering.{nat_cmp, ordering_index}
use Rattle.std.specs.declared.cmp.Ordering.TheVariants.{Less, Equal, Greater}
use Rattle.am_domain.specs.Values.{FlowValue}
use Rattle.am_domain.specs.Lookups.{NoneHas, HasId}
use Rattle.am_domain.specs.Numbers.{IsNumbered, AreNumbers}
use Rattle.am_domain.specs.declared.numbers.Numbered.{Numbered}

-- a flow, for reads beyond a list
no_flow : FlowValue
no_flow =
    record { name = []; id = 0; source = record { bytes = []; length = 0 }; destination = record { bytes = []; length = 0 } }

same_numbered : (a b : Numbered) → a.id ≡ b.id → a.at ≡ b.at → a ≡ b
same_numbered a b e f = grind arith

-- these are the numbers of the first n flows
pub record AreFirst (flows : List FlowValue) (numbers : List Numbered) (n : ℕ) : Type 0 where
  pub many : length numbers ≡ n
  pub here : (i : ℕ) (d : Numbered) (f : FlowValue) → i < n → get_or numbers i d ≡ record { id = (get_or flows i f).id; at = i }

pub first-none : (flows : List FlowValue) (numbers : List Numbered) → numbers ≡ [] → AreFirst flows numbers 0
first-none flows numbers e = record { many = ap length e; here = λ i d f lt. absurd (omega (arith, lt)) }

pub first-more :
    (flows : List FlowValue) (xs ys : List Numbered) (n id : ℕ) (here : FlowValue) → AreFirst flows xs n
    → ys ≡ xs ++ record { id = id; at = n } ∷ [] → n < length flows → here ≡ get_or flows n here → id ≡ here.id → AreFirst flows ys (n + 1)
first-more flows xs ys n id here first is within at_n id_is =
    let x : Numbered = record { id = id; at = n } in
    record {
      many = omega (arith, ap length is, length-append xs (x ∷ []), first.many);
      here = λ i d f lt.
          ap (λ (l : List Numbered). get_or l i d) is
          ∙ ⊎_elim
          (λ before. get_or-append xs (x ∷ []) d i (omega (arith, before, first.many)) ∙ first.here i d f before)
          (λ past.
          let last : i ≡ n = omega (arith, past, lt) in
          let zero_is : i - n ≡ 0 = omega (arith, last) in
          let read = get_or-append_right xs (x ∷ []) n i d first.many past ∙ ap (λ k. get_or (x ∷ []) k d) zero_is in
          let flow : id ≡ (get_or flows i f).id =
          id_is ∙ ap (λ (g : FlowValue). g.id) (at_n ∙ get_or_default flows n here f within ∙ ap (λ k. get_or flows k f) (sym last)) in
          read ∙ same_numbered x (record { id = (get_or flows i f).id; at = i }) flow (sym last))
          (cases_lt i n);
    }

-- in ascending order they are the numbers of all flows
pub in_order :
    (flows : List FlowValue) (xs ys : List Numbered) (n : ℕ) → AreFirst flows xs n → n ≡ length flows → IsPermutation xs ys
    → IsNonDecreasingBy (λ x. x.id) ys → AreNumbers flows ys
in_order flows xs ys n first all moved rising =
    let each : All (IsNumbered flows) xs =
    λ k d lt.
    subst (IsNumbered flows) (sym (first.here k d no_flow (omega (arith, lt, first.many))))
    (record {
      within = omega (arith, lt, first.many, all);
      here = λ f. ap (λ (g : FlowValue). g.id) (get_or_default flows k f no_flow (omega (arith, lt, first.many, all)));
    }) in
    record {
      rising = rising;
      each = All-permutation (IsNumbered flows) xs ys moved each;
      all = λ i d lt.
          let x : Numbered = record { id = (get_or flows i d).id; at = i } in
          Contains-permutation xs ys x moved (i, omega (arith, lt, first.many, all), first.here i x d (omega (arith, lt, all)));
    }

-- what a search by number ends at
pub found-at :
    (xs : List Numbered) (id k : ℕ) (d : Numbered) → k < length xs → HoldsAt (λ y. nat_cmp y.id id ≡ Equal) xs k
    → Contains xs (record { id = id; at = (get_or xs k d).at })
found-at xs id k d lt here =
    let x : Numbered = record { id = id; at = (get_or xs k d).at } in (
      k,
      lt,
      same_numbered (get_or xs k x) x (ranked (get_or xs k x).id id Equal (sym (here x)))
          (ap (λ (y : Numbered). y.at) (get_or_default xs k x d lt)),
    )

rises : (xs : List Numbered) (id : ℕ) → IsNonDecreasingBy (λ y. y.id) xs → IsNonDecreasingBy (λ y. ordering_index (nat_cmp y.id id)) xs
rises xs id up i j d le lt =
    let keys : (get_or xs i d).id ≤ (get_or xs j d).id = up i j d le lt in
    grind (arith, nat_tests)

pub none-at :
    (xs : List Numbered) (id k : ℕ) → IsNonDecreasingBy (λ y. y.id) xs
    → (IsNonDecreasingBy (λ y. ordering_index (nat_cmp y.id id)) xs → IsPartitionPoint (λ y. nat_cmp y.id id ≡ Less) (λ y. nat_cmp y.id id ≡ Greater) xs k)
    → All (λ y. y.id ≢ id) xs
none-at xs id k up parted j d lt same =
    let parts = parted (rises xs id up) in
    ⊎_elim
    (λ before. omega (arith, same, ranked (get_or xs j d).id id Less (sym (parts.0 j d (omega arith) before))))
    (λ past. omega (arith, same, ranked (get_or xs j d).id id Greater (sym (parts.1 j d past lt))))
    (cases_lt j k)

-- the flow of a number that is among them
numbered : (flows : List FlowValue) (numbers : List Numbered) (x : Numbered) → AreNumbers flows numbers → Contains numbers x → IsNumbered flows x
numbered flows numbers x are at = subst (IsNumbered flows) at.2 (are.each at.0 x at.1)

pub none-numbered :
    (flows : List FlowValue) (numbers : List Numbered) (id : ℕ) → AreNumbers flows numbers → All (λ n. n.id ≢ id) numbers
    → NoneHas (HasId id) flows
none-numbered flows numbers id are none i d lt same =
    let at = are.all i d lt in
    let x : Numbered = record { id = (get_or flows i d).id; at = i } in
    none at.0 x at.1 (ap (λ (y : Numbered). y.id) at.2 ∙ same)
