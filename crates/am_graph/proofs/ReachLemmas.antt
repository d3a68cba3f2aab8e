-- Steps of the walk, one after another.
use Rattle.std.proofs.Common.{if◌then◌else◌, true, false, ap, take, length-append, ◌≡◌, ◌≢◌, ℕ, ◌+◌, ◌<◌, ◌⊎◌, List, [], ◌∷◌, ◌++◌, Option, Some, None, Contains, length, get_or, set, inl, inr, refl, sym, ◌∙◌, subst, arith}
use Rattle.std.specs.Option.{is_some}
use Rattle.std.proofs.Math.ListN.{length-set}
use Rattle.std.proofs.lemmas.List.{get_or-set_same, get_or-set_other, take_more}
use Rattle.std.proofs.lemmas.List.Elements.{Contains-append_left, Contains-push, Contains-push_cases}
use Rattle.std.proofs.lemmas.List.Sums.{sum_by-set}
use Rattle.std.proofs.lemmas.Bool.{cases_eq}
use Rattle.am_graph.specs.Lists.{list_at}
use Rattle.am_graph.specs.Walks.{Reaches, IsReached, IsBeside, cluster_at, unreached}

-- a step for some nodes and then one for others is one for all
pub reaches-both :
    (These Those Both : ℕ → Type 0) (cluster : ℕ) (old mid new : List (Option ℕ)) (before between after : List ℕ)
    → Reaches These cluster old mid before between → Reaches Those cluster mid new between after
    → ((node : ℕ) → These node → Both node) → ((node : ℕ) → Those node → Both node)
    → ((node : ℕ) → Both node → These node ⊎ Those node)
    → Reaches Both cluster old new before after
reaches-both These Those Both cluster old mid new before between after r s left right cases = record {
  same = s.same ∙ r.same;
  each = λ node. elim (s.each node) [
    | inl kept ↦ elim (r.each node) [
      | inl same ↦ inl (kept ∙ same)
      | inr got ↦ inr (record { had = got.0.had; has = kept ∙ got.0.has }, left node got.1)
    ]
    | inr got ↦ elim (r.each node) [
      | inl same ↦ inr (record { had = sym same ∙ got.0.had; has = got.0.has }, right node got.1)
      | inr was ↦ absurd (let a = was.0.has in let b = got.0.had in cc)
    ]
  ];
  all = λ node both. elim (cases node both) [
    | inl these ↦ elim (s.each node) [
      | inl kept ↦ λ e. r.all node these (sym kept ∙ e)
      | inr got ↦ λ e. (let a = got.0.has in cc)
    ]
    | inr those ↦ s.all node those
  ];
  wave = λ node. (
    λ h. elim ((s.wave node).0 h) [
      | inl was ↦ elim ((r.wave node).0 was) [
        | inl x ↦ inl x
        | inr got ↦ inr (elim (s.each node) [
          | inl kept ↦ record { had = got.had; has = kept ∙ got.has }
          | inr more ↦ absurd (let a = got.has in let b = more.0.had in cc)
        ])
      ]
      | inr got ↦ inr (elim (r.each node) [
        | inl same ↦ record { had = sym same ∙ got.had; has = got.has }
        | inr was ↦ absurd (let a = was.0.has in let b = got.had in cc)
      ])
    ],
    λ h. elim h [
      | inl x ↦ (s.wave node).1 (inl ((r.wave node).1 (inl x)))
      | inr got ↦ elim (s.each node) [
        | inl kept ↦ (s.wave node).1 (inl ((r.wave node).1 (inr (record { had = got.had; has = sym kept ∙ got.has }))))
        | inr more ↦ (s.wave node).1 (inr more.0)
      ]
    ],
  );
  fewer = let a = r.fewer in let b = s.fewer in omega arith;
}

some-not_none : (o : Option ℕ) (a : ℕ) → o ≡ Some a → o ≢ None
some-not_none o a p q = cc

fewer-one :
    (cluster node : ℕ) (old : List (Option ℕ)) (wave : List ℕ) → node < length old → cluster_at old node ≡ None
    → unreached (set old node (Some cluster)) + length (wave ++ node ∷ []) ≡ unreached old + length wave
fewer-one cluster node old wave within had =
    let counts : Option ℕ → ℕ = λ c. if is_some c then 0 else 1 in
    let sums = sum_by-set counts old node (Some cluster) None within in
    let one : counts (cluster_at old node) ≡ 1 = ap counts had in
    omega (arith, sums, one, length-append wave (node ∷ []))

-- a node is given its cluster, and waits
pub reaches-one :
    (cluster node : ℕ) (old : List (Option ℕ)) (wave : List ℕ) → node < length old → cluster_at old node ≡ None
    → Reaches (λ x. x ≡ node) cluster old (set old node (Some cluster)) wave (wave ++ node ∷ [])
reaches-one cluster node old wave within had =
    let new : List (Option ℕ) = set old node (Some cluster) in
    let has : cluster_at new node ≡ Some cluster = get_or-set_same old node (Some cluster) None within in
    let got : IsReached cluster old new node = record { had = had; has = has } in
    let other : (x : ℕ) → (x ≡ node → ⊥) → cluster_at new x ≡ cluster_at old x = λ x ne. get_or-set_other old node x (Some cluster) None ne in
    record {
      same = length-set old node (Some cluster);
      each = λ x. elim (cases_eq x node) [
        | inl e ↦ inr (subst (IsReached cluster old new) (sym e) got, e)
        | inr ne ↦ inl (other x ne)
      ];
      all = λ x e none. some-not_none (cluster_at new node) cluster has (ap (cluster_at new) (sym e) ∙ none);
      wave = λ x. (
        λ h. elim (Contains-push_cases wave node x h) [
          | inl was ↦ inl was
          | inr e ↦ inr (subst (IsReached cluster old new) e got)
        ],
        λ h. elim h [
          | inl was ↦ Contains-append_left wave (node ∷ []) x was
          | inr r ↦ elim (cases_eq x node) [
            | inl e ↦ subst (Contains (wave ++ node ∷ [])) (sym e) (Contains-push wave node)
            | inr ne ↦ absurd (some-not_none (cluster_at new x) cluster r.has (other x ne ∙ r.had))
          ]
        ],
      );
      fewer = fewer-one cluster node old wave within had;
    }

-- one more of a list
contains-next : (xs : List ℕ) (i x y : ℕ) → i < length xs → y ≡ get_or xs i y → Contains (take (i + 1) xs) x → Contains (take i xs) x ⊎ (y ≡ x)
contains-next xs i x y within is h =
    Contains-push_cases (take i xs) y x (subst (λ z. Contains (take i xs ++ z ∷ []) x) (sym is) (subst (λ ys. Contains ys x) (take_more xs i y within) h))

contains-old : (xs : List ℕ) (i x y : ℕ) → i < length xs → Contains (take i xs) x → Contains (take (i + 1) xs) x
contains-old xs i x y within h =
    subst (λ ys. Contains ys x) (sym (take_more xs i y within)) (Contains-append_left (take i xs) (get_or xs i y ∷ []) x h)

contains-here : (xs : List ℕ) (i y : ℕ) → i < length xs → y ≡ get_or xs i y → Contains (take (i + 1) xs) y
contains-here xs i y within is =
    subst (λ ys. Contains ys y) (sym (take_more xs i y within))
    (subst (λ z. Contains (take i xs ++ z ∷ []) y) is (Contains-push (take i xs) y))

-- one more node of a list
pub reaches-next :
    (cluster i node : ℕ) (nodes : List ℕ) (old mid new : List (Option ℕ)) (before between after : List ℕ)
    → i < length nodes → node ≡ get_or nodes i node
    → Reaches (Contains (take i nodes)) cluster old mid before between → Reaches (λ x. x ≡ node) cluster mid new between after
    → Reaches (Contains (take (i + 1) nodes)) cluster old new before after
reaches-next cluster i node nodes old mid new before between after within is r s =
    reaches-both (Contains (take i nodes)) (λ x. x ≡ node) (Contains (take (i + 1) nodes)) cluster old mid new before between after r s
    (λ x h. contains-old nodes i x node within h)
    (λ x e. subst (Contains (take (i + 1) nodes)) (sym e) (contains-here nodes i node within is))
    (λ x h. elim (contains-next nodes i x node within is h) [ inl was ↦ inl was | inr e ↦ inr (sym e) ])

-- the list of one more node of a wave
pub reaches-beside :
    (cluster i node : ℕ) (lists : List (List ℕ)) (wave : List ℕ) (old mid new : List (Option ℕ)) (before between after : List ℕ)
    → i < length wave → node ≡ get_or wave i node
    → Reaches (IsBeside lists (take i wave)) cluster old mid before between → Reaches (Contains (list_at lists node)) cluster mid new between after
    → Reaches (IsBeside lists (take (i + 1) wave)) cluster old new before after
reaches-beside cluster i node lists wave old mid new before between after within is r s =
    reaches-both (IsBeside lists (take i wave)) (Contains (list_at lists node)) (IsBeside lists (take (i + 1) wave)) cluster old mid new before between after r s
    (λ x h. (h.0, contains-old wave i h.0 node within h.1, h.2))
    (λ x h. (node, contains-here wave i node within is, h))
    (λ x h. elim (contains-next wave i h.0 node within is h.1) [
      | inl was ↦ inl (h.0, was, h.2)
      | inr e ↦ inr (subst (λ v. Contains (list_at lists v) x) (sym e) h.2)
    ])

pub none-from : (o : Option ℕ) → is_some o ≡ false → o ≡ None
none-from None h = refl
none-from (Some x) h = cc

pub some-there : (o : Option ℕ) → is_some o ≡ true → o ≢ None
some-there None h e = cc
some-there (Some x) h e = cc
