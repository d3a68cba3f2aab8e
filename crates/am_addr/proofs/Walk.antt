-- Lists of groups: reading one on from within it, byte by byte, and as a whole.
use Rattle.std.proofs.Common.{arith, refl, ap, sym, subst, ◌∙◌, inl, inr, ◌≡◌, ℕ, zero, suc, ◌+◌, ◌*◌, ◌^◌, ◌<◌, ◌≤◌, ◌⊎◌, List, [], ◌∷◌, ◌++◌, length, append_assoc, length-append}
use Rattle.std.proofs.lemmas.List.{append-nil}
use Rattle.am_addr.specs.Text.{IsDigit, Digits, IsGroup, IsList}
use Rattle.am_addr.specs.Walk.{GoesOn, Reads}

-- a digit is no `:`
pub digit_no_colon : (c d : ℕ) → c ≡ 58 → IsDigit c d → ⊥
digit_no_colon c d e (inl p) = omega (arith, p.0, p.1)
digit_no_colon c d e (inr p) = elim p.2 [ inl a ↦ omega (arith, p.0, p.1, a) | inr a ↦ omega (arith, p.0, p.1, a) ]

-- a byte is one digit alone
pub digit_below : (c d : ℕ) → IsDigit c d → d < 16
digit_below c d (inl p) = omega (arith, p.0)
digit_below c d (inr p) = p.1

pub one_digit : (c d e : ℕ) → IsDigit c d → IsDigit c e → d ≡ e
one_digit c d e (inl p) (inl q) = omega (arith, p.0, p.1, q.0, q.1)
one_digit c d e (inl p) (inr q) = elim q.2 [ inl a ↦ absurd (omega (arith, p.0, p.1, q.0, q.1, a)) | inr a ↦ absurd (omega (arith, p.0, p.1, q.0, q.1, a)) ]
one_digit c d e (inr p) (inl q) = elim p.2 [ inl a ↦ absurd (omega (arith, p.0, p.1, q.0, q.1, a)) | inr a ↦ absurd (omega (arith, p.0, p.1, q.0, q.1, a)) ]
one_digit c d e (inr p) (inr q) = elim p.2 [
  | inl a ↦ elim q.2 [ inl b ↦ omega (arith, p.0, p.1, q.0, q.1, a, b) | inr b ↦ absurd (omega (arith, p.0, p.1, q.0, q.1, a, b)) ]
  | inr a ↦ elim q.2 [ inl b ↦ absurd (omega (arith, p.0, p.1, q.0, q.1, a, b)) | inr b ↦ omega (arith, p.0, p.1, q.0, q.1, a, b) ]
]

-- what goes on has a value
pub goes_some : (text values : List ℕ) (n v : ℕ) → GoesOn n v text values → 0 < length values
unfolding GoesOn
goes_some [] values n v h = omega (arith, ap length h.1)
goes_some (c ∷ cs) values n v (inl p) = omega (arith, ap length p.2.1)
goes_some (c ∷ cs) values n v (inr q) = goes_some cs values (n + 1) (v * 16 + q.0) q.3

-- one byte more
pub reads_colon :
    (ended : List ℕ) (n v c : ℕ) (rest values : List ℕ) → c ≡ 58 → 0 < n
    → Reads ended n v (c ∷ rest) values → Reads (ended ++ v ∷ []) 0 0 rest values
unfolding GoesOn
reads_colon ended n v c rest values e h r = elim r.goes [
  | inl p ↦ record {
    others = p.2.0;
    all = r.all ∙ ap (λ (x : List ℕ). ended ++ x) p.2.1 ∙ sym (append_assoc ended (v ∷ []) p.2.0);
    goes = p.2.2;
  }
  | inr q ↦ absurd (digit_no_colon c q.0 e q.1)
]

pub colon_reads :
    (ended : List ℕ) (n v c : ℕ) (rest values : List ℕ) → c ≡ 58 → 0 < n
    → Reads (ended ++ v ∷ []) 0 0 rest values → Reads ended n v (c ∷ rest) values
unfolding GoesOn
colon_reads ended n v c rest values e h r = record {
  others = v ∷ r.others;
  all = r.all ∙ append_assoc ended (v ∷ []) r.others;
  goes = inl (e, h, (r.others, refl, r.goes));
}

pub reads_digit :
    (ended : List ℕ) (n v c d : ℕ) (rest values : List ℕ) → IsDigit c d
    → Reads ended n v (c ∷ rest) values → Reads ended (n + 1) (v * 16 + d) rest values
unfolding GoesOn
reads_digit ended n v c d rest values is r = elim r.goes [
  | inl p ↦ absurd (digit_no_colon c d p.0 is)
  | inr q ↦ record {
    others = r.others;
    all = r.all;
    goes = subst (λ e. GoesOn (n + 1) (v * 16 + e) rest r.others) (one_digit c q.0 d q.1 is) q.3;
  }
]

pub digit_reads :
    (ended : List ℕ) (n v c d : ℕ) (rest values : List ℕ) → IsDigit c d → n < 4
    → Reads ended (n + 1) (v * 16 + d) rest values → Reads ended n v (c ∷ rest) values
unfolding GoesOn
digit_reads ended n v c d rest values is h r = record {
  others = r.others;
  all = r.all;
  goes = inr (d, is, h, r.goes);
}

-- where no list goes on
pub stops_other :
    (ended : List ℕ) (n v c : ℕ) (rest values : List ℕ) → (c ≡ 58 → ⊥) → ((d : ℕ) → IsDigit c d → ⊥)
    → Reads ended n v (c ∷ rest) values → ⊥
unfolding GoesOn
stops_other ended n v c rest values e h r = elim r.goes [ inl p ↦ e p.0 | inr q ↦ h q.0 q.1 ]

pub stops_full :
    (ended : List ℕ) (n v c : ℕ) (rest values : List ℕ) → (c ≡ 58 → ⊥) → n ≡ 4
    → Reads ended n v (c ∷ rest) values → ⊥
unfolding GoesOn
stops_full ended n v c rest values e h r = elim r.goes [ inl p ↦ e p.0 | inr q ↦ omega (arith, q.2) ]

pub stops_colon :
    (ended : List ℕ) (n v c : ℕ) (rest values : List ℕ) → c ≡ 58 → (n ≡ 0) ⊎ (length ended ≡ 8) → length values ≤ 8
    → Reads ended n v (c ∷ rest) values → ⊥
unfolding GoesOn
stops_colon ended n v c rest values e (inl h) few r = elim r.goes [ inl p ↦ omega (arith, p.1) | inr q ↦ digit_no_colon c q.0 e q.1 ]
stops_colon ended n v c rest values e (inr h) few r =
    let more = goes_some (c ∷ rest) r.others n v r.goes in
    omega (arith, more, ap length r.all, length-append ended r.others)

pub stops_end :
    (ended : List ℕ) (n v : ℕ) (values : List ℕ) → (n ≡ 0) ⊎ (length ended ≡ 8) → length values ≤ 8
    → Reads ended n v [] values → ⊥
unfolding GoesOn
stops_end ended n v values (inl h) few r = let some = r.goes.0 in omega arith
stops_end ended n v values (inr h) few r =
    let more = goes_some [] r.others n v r.goes in
    omega (arith, more, ap length r.all, length-append ended r.others)

-- at the end
pub reads_end :
    (ended : List ℕ) (n v : ℕ) (values : List ℕ) → Reads ended n v [] values → values ≡ ended ++ v ∷ []
unfolding GoesOn
reads_end ended n v values r = r.all ∙ ap (λ (x : List ℕ). ended ++ x) r.goes.1

pub end_reads : (ended : List ℕ) (n v : ℕ) → 0 < n → Reads ended n v [] (ended ++ v ∷ [])
unfolding GoesOn
end_reads ended n v h = record { others = v ∷ []; all = refl; goes = (h, refl) }

-- a list of values that aren't none isn't empty
pub list_some : (v : ℕ) (vs text : List ℕ) → IsList (v ∷ vs) text → 0 < length text
list_some v [] text g = g.some
list_some v (w ∷ vs) text h = omega (arith, ap length h.2, length-append h.0 (58 ∷ h.1))

-- the digits of a group are gone on with
group_goes :
    (g rest values : List ℕ) (n before v : ℕ) → Digits before g v → n + length g ≤ 4
    → GoesOn (n + length g) v rest values → GoesOn n before (g ++ rest) values
unfolding GoesOn
group_goes [] rest values n before v ds few h =
    let so : n + length {A = ℕ} [] ≡ n = omega arith in
    subst (λ m. GoesOn m before rest values) so (subst (λ x. GoesOn (n + length {A = ℕ} []) x rest values) ds h)
group_goes (c ∷ cs) rest values n before v ds few h =
    let so : n + length (c ∷ cs) ≡ (n + 1) + length cs = omega arith in
    inr (
      ds.0,
      ds.1,
      omega arith,
      group_goes cs rest values (n + 1) (before * 16 + ds.0) v ds.2 (omega arith)
          (subst (λ m. GoesOn m v rest values) so h),
    )

pub list_goes : (values text : List ℕ) → IsList values text → 0 < length text → GoesOn 0 0 text values
unfolding GoesOn
list_goes [] text e pos = absurd (omega (arith, ap length e))
list_goes (v ∷ []) text g pos =
    let some : 0 < 0 + length text = omega arith in
    subst (λ (t : List ℕ). GoesOn 0 0 t (v ∷ [])) (append-nil text)
    (group_goes text [] (v ∷ []) 0 0 v g.digits (omega (arith, g.few)) (some, refl))
list_goes (v ∷ w ∷ vs) text h pos =
    let g = h.3 in
    let some : 0 < 0 + length h.0 = omega (arith, g.some) in
    subst (λ (t : List ℕ). GoesOn 0 0 t (v ∷ w ∷ vs)) (sym h.2)
    (group_goes h.0 (58 ∷ h.1) (v ∷ w ∷ vs) 0 0 v g.digits (omega (arith, g.few))
    (inl (refl, some, (w ∷ vs, refl, list_goes (w ∷ vs) h.1 h.4 (list_some w vs h.1 h.4)))))

-- the group that is begun, and the list behind it
record Parts (n before : ℕ) (text values : List ℕ) : Type 0 where
  group : List ℕ
  value : ℕ
  others : List ℕ
  all : values ≡ value ∷ others
  digits : Digits before group value
  some : 0 < n + length group
  few : n + length group ≤ 4
  rest : ((text ≡ group) × (others ≡ [])) ⊎ ((after : List ℕ) × (text ≡ group ++ 58 ∷ after) × (0 < length others) × IsList others after)

list_cons :
    (v : ℕ) (others group after text : List ℕ) → IsGroup group v → text ≡ group ++ 58 ∷ after → 0 < length others → IsList others after
    → IsList (v ∷ others) text
list_cons v [] group after text g e some l = absurd (omega arith)
list_cons v (w ∷ vs) group after text g e some l = (group, after, e, g, l)

of_parts : (text values : List ℕ) → Parts 0 0 text values → IsList values text
of_parts text values p =
    let g : IsGroup p.group p.value = record { some = omega (arith, p.some); few = omega (arith, p.few); digits = p.digits } in
    subst (λ (vs : List ℕ). IsList vs text) (sym p.all) (elim p.rest [
      | inl a ↦ subst (λ (o : List ℕ). IsList (p.value ∷ o) text) (sym a.1) (subst (λ (t : List ℕ). IsGroup t p.value) (sym a.0) g)
      | inr b ↦ list_cons p.value p.others p.group b.0 text g b.1 b.2 b.3
    ])

parts : (text values : List ℕ) (n before : ℕ) → n ≤ 4 → GoesOn n before text values → Parts n before text values
unfolding GoesOn
parts [] values n before le h = record {
  group = [];
  value = before;
  others = [];
  all = h.1;
  digits = refl;
  some = omega (arith, h.0);
  few = omega arith;
  rest = inl (refl, refl);
}
parts (c ∷ cs) values n before le (inl p) = record {
  group = [];
  value = before;
  others = p.2.0;
  all = p.2.1;
  digits = refl;
  some = omega (arith, p.1);
  few = omega arith;
  rest = inr (
    cs,
    ap (λ x. x ∷ cs) p.0,
    goes_some cs p.2.0 0 0 p.2.2,
    of_parts cs p.2.0 (parts cs p.2.0 0 0 (omega arith) p.2.2),
  );
}
parts (c ∷ cs) values n before le (inr q) =
    let r = parts cs values (n + 1) (before * 16 + q.0) (omega (arith, q.2)) q.3 in
    record {
      group = c ∷ r.group;
      value = r.value;
      others = r.others;
      all = r.all;
      digits = (q.0, q.1, r.digits);
      some = omega arith;
      few = omega (arith, r.few);
      rest = elim r.rest [
        | inl a ↦ inl (ap (λ (x : List ℕ). c ∷ x) a.0, a.1)
        | inr b ↦ inr (b.0, ap (λ (x : List ℕ). c ∷ x) b.1, b.2, b.3)
      ];
    }

pub goes_list : (text values : List ℕ) → GoesOn 0 0 text values → IsList values text
goes_list text values h = of_parts text values (parts text values 0 0 (omega arith) h)

-- a list doesn't end with `:`, and has no `::`
goes_no_end : (a values : List ℕ) (n v : ℕ) → GoesOn n v (a ++ 58 ∷ []) values → ⊥
unfolding GoesOn
goes_no_end [] values n v (inl p) = let g = p.2.2.0 in omega arith
goes_no_end [] values n v (inr q) = digit_no_colon 58 q.0 refl q.1
goes_no_end (c ∷ a) values n v (inl p) = goes_no_end a p.2.0 0 0 p.2.2
goes_no_end (c ∷ a) values n v (inr q) = goes_no_end a values (n + 1) (v * 16 + q.0) q.3

goes_no_gap : (a b values : List ℕ) (n v : ℕ) → GoesOn n v (a ++ 58 ∷ 58 ∷ b) values → ⊥
unfolding GoesOn
goes_no_gap [] b values n v (inl p) = elim p.2.2 [ inl x ↦ let g = x.1 in omega arith | inr y ↦ digit_no_colon 58 y.0 refl y.1 ]
goes_no_gap [] b values n v (inr q) = digit_no_colon 58 q.0 refl q.1
goes_no_gap (c ∷ a) b values n v (inl p) = goes_no_gap a b p.2.0 0 0 p.2.2
goes_no_gap (c ∷ a) b values n v (inr q) = goes_no_gap a b values (n + 1) (v * 16 + q.0) q.3

pub list_no_end : (a values : List ℕ) → IsList values (a ++ 58 ∷ []) → ⊥
list_no_end a values l = goes_no_end a values 0 0 (list_goes values (a ++ 58 ∷ []) l (omega (arith, length-append a (58 ∷ []))))

pub list_no_gap : (a b values : List ℕ) → IsList values (a ++ 58 ∷ 58 ∷ b) → ⊥
list_no_gap a b values l =
    goes_no_gap a b values 0 0 (list_goes values (a ++ 58 ∷ 58 ∷ b) l (omega (arith, length-append a (58 ∷ 58 ∷ b))))

-- a value so far, of fewer than four digits, has room for one more
pub digit_fits : (n v d : ℕ) → n < 4 → v < 16 ^ n → d < 16 → v * 16 + d < 65536
digit_fits zero v d h b e = omega arith
digit_fits (suc zero) v d h b e = omega arith
digit_fits (suc (suc zero)) v d h b e = omega arith
digit_fits (suc (suc (suc zero))) v d h b e = omega arith
digit_fits (suc (suc (suc (suc n)))) v d h b e = absurd (omega arith)

-- the empty text is a list of no values alone
pub list_empty : (values text : List ℕ) → length text ≡ 0 → IsList values text → [] ≡ values
list_empty [] text e l = refl
list_empty (v ∷ vs) text e l = absurd (omega (arith, list_some v vs text l))

-- a list is read from its front
pub list_reads : (values text : List ℕ) → 0 < length text → IsList values text → Reads [] 0 0 text values
list_reads values text pos l = record { others = values; all = refl; goes = list_goes values text l pos }

pub reads_list : (values text : List ℕ) → Reads [] 0 0 text values → IsList values text
reads_list values text r = subst (λ (vs : List ℕ). IsList vs text) (sym r.all) (goes_list text r.others r.goes)
