-- Where packets enter, and the links that begin at each node.
use Rattle.std.proofs.Common.{◌≡◌, ◌∙◌, ◌⊎◌, ℕ, zero, suc, ◌+◌, ◌<◌, Bool, true, false, eqb, List, [], ◌∷◌, ◌++◌, length, get_or, refl, sym, ap, subst, arith, inl, inr, add-zero, add-one, zero-add}
use Rattle.std.specs.Prelude.{All, filter, not}
use Rattle.std.specs.List.{range_with_len}
use Rattle.std.proofs.lemmas.Bool.{false≢true, cases_Bool, eqb-true, eq-eqb}
use Rattle.std.proofs.lemmas.List.{append-nil, length-map}
use Rattle.std.proofs.lemmas.List.Elements.{filter-append, filter_passes, All-filter, All-get_or, All-from_get_or}
use Rattle.std.proofs.lemmas.List.FromFn.{length-range_with_len, get_or-range_with_len, get_or-map-range_with_len}
use Rattle.std.proofs.lemmas.List.Folds.{list_any_at, list_any_none}
use Rattle.am_domain.specs.declared.link.Edge.{Edge}
use Rattle.am_domain.specs.Network.{has_links_in, has_links_out}
use Rattle.am_domain.specs.Domains.{DomainValue, IsLawful}
use Rattle.am_graph.specs.Lists.{list_at}
use Rattle.am_graph.specs.Graphs.{start_of, end_of}
use Rattle.am_world.specs.Generating.{entries, links_from}
use Rattle.am_world.specs.Making.{routes_of}

range-more : (a n : ℕ) → range_with_len a (suc n) ≡ range_with_len a n ++ (a + n) ∷ []
range-more a zero = rw (add-zero a) refl
range-more a (suc n) =
    let e : a + 1 + n ≡ a + suc n = omega arith in
    ap (λ (t : List ℕ). a ∷ t) (rw e at (range-more (a + 1) n))

-- one number more, which passes the test or does not
pub passing-more : (p : ℕ → Bool) (n : ℕ)
    → filter p (range_with_len 0 (n + 1)) ≡ filter p (range_with_len 0 n) ++ filter p (n ∷ [])
passing-more p n =
    let longer : range_with_len 0 (n + 1) ≡ range_with_len 0 n ++ n ∷ []
    = ap (λ l. range_with_len 0 l) (add-one n) ∙ range-more 0 n ∙ ap (λ x. range_with_len 0 n ++ x ∷ []) (zero-add n) in
    ap (λ xs. filter p xs) longer ∙ filter-append p (range_with_len 0 n) (n ∷ [])

pub passing-keeps : (p : ℕ → Bool) (n : ℕ) → p n ≡ false
    → filter p (range_with_len 0 (n + 1)) ≡ filter p (range_with_len 0 n)
passing-keeps p n away = passing-more p n ∙ rw away (append-nil (filter p (range_with_len 0 n)))

pub passing-adds : (p : ℕ → Bool) (n : ℕ) → p n ≡ true
    → filter p (range_with_len 0 (n + 1)) ≡ filter p (range_with_len 0 n) ++ n ∷ []
passing-adds p n there = passing-more p n ∙ rw there refl

-- the numbers of a range are below its end
range-below : (n : ℕ) → All (λ x. x < n) (range_with_len 0 n)
range-below n =
    All-from_get_or (λ x. x < n) (range_with_len 0 n) 0 (λ i below.
    let within : i < n = omega (arith, below, length-range_with_len 0 n) in
    let is = get_or-range_with_len 0 n i 0 within in
    omega (arith, is, within))

-- of those that pass a test, each is below the end and passes it
passing-below : (p : ℕ → Bool) (n i : ℕ) → i < length (filter p (range_with_len 0 n))
    → get_or (filter p (range_with_len 0 n)) i 0 < n
passing-below p n i below =
    All-get_or (λ x. x < n) (filter p (range_with_len 0 n)) i 0 below (All-filter p (λ x. x < n) (range_with_len 0 n) (range-below n))

passing-passes : (p : ℕ → Bool) (n i : ℕ) → i < length (filter p (range_with_len 0 n))
    → p (get_or (filter p (range_with_len 0 n)) i 0) ≡ true
passing-passes p n i below =
    All-get_or (λ x. p x ≡ true) (filter p (range_with_len 0 n)) i 0 below (filter_passes p (range_with_len 0 n))

-- an entry is a node, at which no link ends
pub entry-within : (d : DomainValue) (i : ℕ) → i < length (entries d) → get_or (entries d) i 0 < length d.nodes
entry-within d i below = passing-below (λ node. not (has_links_in d.links node)) (length d.nodes) i below

not-true : (b : Bool) → not b ≡ true → b ≡ false
not-true true h = absurd (false≢true h)
not-true false h = refl

pub entry-enters : (d : DomainValue) (i : ℕ) → i < length (entries d)
    → has_links_in d.links (get_or (entries d) i 0) ≡ false
entry-enters d i below =
    not-true (has_links_in d.links (get_or (entries d) i 0))
    (passing-passes (λ node. not (has_links_in d.links node)) (length d.nodes) i below)

-- a link that begins at a node is one, and begins there
pub from-within : (links : List Edge) (node i : ℕ) → i < length (links_from links node)
    → get_or (links_from links node) i 0 < length links
from-within links node i below = passing-below (λ link. eqb (start_of links link) node) (length links) i below

pub from-begins : (links : List Edge) (node i : ℕ) → i < length (links_from links node)
    → start_of links (get_or (links_from links node) i 0) ≡ node
from-begins links node i below =
    eqb-true (start_of links (get_or (links_from links node) i 0)) node
    (passing-passes (λ link. eqb (start_of links link) node) (length links) i below)

-- where none does, no link begins at the node
no-pass : (p : ℕ → Bool) (xs : List ℕ) (i : ℕ) → i < length xs → length (filter p xs) ≡ 0 → p (get_or xs i 0) ≡ false
no-pass p [] i below none = absurd (omega (arith, below))
no-pass p (x ∷ xs) zero below none = elim (cases_Bool (p x)) [
  | inl there ↦
      let long : length (filter p (x ∷ xs)) ≡ suc (length (filter p xs)) = rw there refl in
      absurd (omega (arith, long, none))
  | inr away ↦ away
]
no-pass p (x ∷ xs) (suc i) below none = elim (cases_Bool (p x)) [
  | inl there ↦
      let long : length (filter p (x ∷ xs)) ≡ suc (length (filter p xs)) = rw there refl in
      absurd (omega (arith, long, none))
  | inr away ↦
      let same : length (filter p (x ∷ xs)) ≡ length (filter p xs) = rw away refl in
      no-pass p xs i (omega (arith, below)) (sym same ∙ none)
]

pub none-out : (links : List Edge) (node : ℕ) → length (links_from links node) ≡ 0 → has_links_out links node ≡ false
none-out links node none =
    list_any_none (λ e. eqb e.from node) links
    (All-from_get_or (λ e. eqb e.from node ≡ false) links (record { from = 0; to = 0 }) (λ i below.
    let within : i < length (range_with_len 0 (length links)) = omega (arith, below, length-range_with_len 0 (length links)) in
    let is : get_or (range_with_len 0 (length links)) i 0 ≡ i
    = get_or-range_with_len 0 (length links) i 0 below ∙ zero-add i in
    subst (λ k. eqb (start_of links k) node ≡ false) is
    (no-pass (λ link. eqb (start_of links link) node) (range_with_len 0 (length links)) i within none)))

-- where some does, some link begins there
pub some-out : (links : List Edge) (node : ℕ) → 0 < length (links_from links node) → has_links_out links node ≡ true
some-out links node some =
    list_any_at (λ e. eqb e.from node) links (get_or (links_from links node) 0 0) (record { from = 0; to = 0 })
    (from-within links node 0 some)
    (eq-eqb (start_of links (get_or (links_from links node) 0 0)) node (from-begins links node 0 some))

-- and the other way round
pub out-some : (links : List Edge) (node : ℕ) → has_links_out links node ≡ true → 0 < length (links_from links node)
out-some links node out = elim (cases_zero (length (links_from links node))) [
  | inl none ↦ absurd (false≢true (sym (none-out links node none) ∙ out))
  | inr some ↦ some
]
  where
    cases_zero : (n : ℕ) → (n ≡ 0) ⊎ (0 < n)
    cases_zero zero = inl refl
    cases_zero (suc n) = inr (omega arith)

-- a link leads to a node
pub end-within : (d : DomainValue) (link : ℕ) → IsLawful d → link < length d.links → end_of d.links link < length d.nodes
end-within d link lawful below = (lawful.links_within link (record { from = 0; to = 0 }) below).1

-- the table of the links that begin at each node has those of the node
pub routes-at : (d : DomainValue) (node : ℕ) → node < length d.nodes
    → list_at (routes_of d).links node ≡ links_from d.links node
routes-at d node below = get_or-map-range_with_len (links_from d.links) 0 (length d.nodes) node node [] below (zero-add node)

pub routes-length : (d : DomainValue) → length (routes_of d).links ≡ length d.nodes
routes-length d =
    length-map (range_with_len 0 (length d.nodes)) (links_from d.links) ∙ length-range_with_len 0 (length d.nodes)
