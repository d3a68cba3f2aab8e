-- Bytes say one domain alone or are refused in one way alone, so what is answered is the only answer.
use Rattle.std.proofs.Common.{◌≡◌, ◌⊎◌, ◌-◌, ◌*◌, ◌<◌, ◌≤◌, List, length, ℕ, Option, Result, Ok, Err, IfOk, IfErr, subst, sym, ap, ◌∙◌, refl, inl, inr}
use Rattle.std.proofs.lemmas.Option.{same_Some}
use Rattle.toml.specs.Data.{Members}
use Rattle.am_domain.specs.Values.{FlowValue}
use Rattle.am_domain.specs.Fields.{FieldsValue, Says, IsBadField}
use Rattle.am_domain.specs.Rules.{some_block, few_cells, IsFirstBroken}
use Rattle.am_domain.specs.Domains.{DomainValue, IsMadeOf, IsLawful, IsDocument, IsNoDocument, IsBroken, IsDomainOf, IsDomainRefusal, TellsRefusal, IsAnswer}
use Rattle.am_domain.specs.declared.error.Part.{Part}
use Rattle.am_domain.specs.declared.error.Key.{Key}
use Rattle.am_domain.specs.declared.error.DomainError.{DomainError}
use Rattle.am_domain.specs.declared.error.DomainError.TheVariants.{NotToml, BadField, Memory}
use Rattle.am_domain.proofs.DomainLemmas.{lawful}
use Rattle.am_domain.proofs.FieldAlone.{field_says, field_alone}
use Rattle.am_domain.proofs.RuleLemmas.{kept-rule}
use Rattle.am_domain.proofs.RuleAlone.{broken_alone, made_not, made_alone}
use Rattle.am_domain.proofs.SaysAlone.{OnePrefix, says_same}

-- the domain that a table says is lawful: the reported blocks of its rules are its own, since the file lays out one way
made_lawful : (ms : Members) (f : FieldsValue) (d : DomainValue) → Says ms f → IsMadeOf f d → IsLawful d
made_lawful ms f d says made =
    let blocks = kept-rule f made.kept some_block in
    let cells = kept-rule f made.kept few_cells in
    let some : d.first < d.end =
    let e : DomainValue = record { times = d.times; kind = d.kind; workers = d.workers; flows = d.flows; nodes = d.nodes; links = blocks.0; first = blocks.1; end = blocks.2 } in
    let also : IsMadeOf f e = record { times = made.times; kind = made.kind; workers = made.workers; flows = made.flows; nodes = made.nodes; laid_out = blocks.3; kept = made.kept } in
    subst (λ (x : DomainValue). x.first < x.end) (made_alone f e d also made) blocks.4 in
    let few : length d.flows * (d.end - d.first) ≤ 32768 =
    let e : DomainValue = record { times = d.times; kind = d.kind; workers = d.workers; flows = d.flows; nodes = d.nodes; links = cells.0; first = cells.1; end = cells.2 } in
    let also : IsMadeOf f e = record { times = made.times; kind = made.kind; workers = made.workers; flows = made.flows; nodes = made.nodes; laid_out = cells.3; kept = made.kept } in
    let same = made_alone f e d also made in
    subst (λ (fs : List FlowValue). length fs * (d.end - d.first) ≤ 32768) (sym made.flows) (subst (λ (x : DomainValue). length f.flows * (x.end - x.first) ≤ 32768) same cells.4) in
    lawful ms f d says made some few

-- the document of the bytes is one alone
doc_same : (bytes : List ℕ) (a b : Members) → IsDocument bytes a → IsDocument bytes b → a ≡ b
doc_same bytes a b p q = same_Some a b (sym p.parsed ∙ q.parsed)

-- the bytes are a document with this bad field, which the answer tells
record HasBadField (bytes : List ℕ) (e : DomainError) : Type 0 where
  members : Members
  document : IsDocument bytes members
  part : Part
  index : Option ℕ
  key : Option Key
  told : e ≡ BadField part index key
  bad : IsBadField members part index key

-- the bytes are a document that breaks a rule
record HasBroken (bytes : List ℕ) (e : DomainError) : Type 0 where
  members : Members
  document : IsDocument bytes members
  broken : IsBroken members e

-- the three kinds of refusals
abbrev Kinds : List ℕ → DomainError → Type 0
Kinds bytes e = ((e ≡ NotToml) × IsNoDocument bytes) ⊎ (HasBadField bytes e ⊎ HasBroken bytes e)

kinds : (bytes : List ℕ) (e : DomainError) → IsDomainRefusal bytes e → Kinds bytes e
kinds bytes NotToml r = inl (refl, r)
kinds bytes Memory r = absurd r
kinds bytes (BadField p i k) r = inr (inl (record { members = r.0; document = r.1; part = p; index = i; key = k; told = refl; bad = r.2 }))
kinds bytes _ r = inr (inr (record { members = r.0; document = r.1; broken = r.2 }))

module _ (one : OnePrefix) (bytes : List ℕ) where
  -- what documents of the bytes say is one thing alone
  fields_same : (ms ms' : Members) (f f' : FieldsValue) → IsDocument bytes ms → IsDocument bytes ms' → Says ms f → Says ms' f' → f ≡ f'
  fields_same ms ms' f f' d d' a b = says_same one ms' f f' (subst (λ (m : Members). Says m f) (doc_same bytes ms ms' d d') a) b

  pub one_domain : (a b : DomainValue) → IsDomainOf bytes a → IsDomainOf bytes b → a ≡ b
  one_domain a b p q =
      let same = fields_same p.members q.members p.says.fields q.says.fields p.document q.document p.says.says q.says.says in
      made_alone q.says.fields a b (subst (λ (f : FieldsValue). IsMadeOf f a) same p.says.made) q.says.made

  pub said_lawful : (d : DomainValue) → IsDomainOf bytes d → IsLawful d
  said_lawful d p = made_lawful p.members p.says.fields d p.says.says p.says.made

  field_and_says : (e : DomainError) → HasBadField bytes e → (ms : Members) (f : FieldsValue) → IsDocument bytes ms → Says ms f → ⊥
  field_and_says e h ms f d says =
      field_says ms f h.part h.index h.key says (subst (λ (m : Members). IsBadField m h.part h.index h.key) (doc_same bytes h.members ms h.document d) h.bad)

  domain_and_kinds : (d : DomainValue) (e : DomainError) → IsDomainOf bytes d → Kinds bytes e → ⊥
  domain_and_kinds d e p (inl none) = none.1 p.members p.document
  domain_and_kinds d e p (inr (inl field)) = field_and_says e field p.members p.says.fields p.document p.says.says
  domain_and_kinds d e p (inr (inr rule)) =
      let same = fields_same p.members rule.members p.says.fields rule.broken.fields p.document rule.document p.says.says rule.broken.says in
      made_not rule.broken.fields d e (subst (λ (f : FieldsValue). IsMadeOf f d) same p.says.made) rule.broken.broken

  pub either : (d : DomainValue) (e : DomainError) → IsDomainOf bytes d → IsDomainRefusal bytes e → ⊥
  either d e p r = domain_and_kinds d e p (kinds bytes e r)

  same_kinds : (a b : DomainError) → Kinds bytes a → Kinds bytes b → a ≡ b
  same_kinds a b (inl p) (inl q) = p.0 ∙ sym q.0
  same_kinds a b (inl p) (inr (inl q)) = absurd (p.1 q.members q.document)
  same_kinds a b (inl p) (inr (inr q)) = absurd (p.1 q.members q.document)
  same_kinds a b (inr (inl p)) (inl q) = absurd (q.1 p.members p.document)
  same_kinds a b (inr (inr p)) (inl q) = absurd (q.1 p.members p.document)
  same_kinds a b (inr (inl p)) (inr (inl q)) =
      let bad = subst (λ (m : Members). IsBadField m p.part p.index p.key) (doc_same bytes p.members q.members p.document q.document) p.bad in
      let same = field_alone q.members p.part q.part p.index q.index p.key q.key bad q.bad in
      p.told ∙ rw (same.0, same.1, same.2) (sym q.told)
  same_kinds a b (inr (inl p)) (inr (inr q)) = absurd (field_and_says a p q.members q.broken.fields q.document q.broken.says)
  same_kinds a b (inr (inr p)) (inr (inl q)) = absurd (field_and_says b q p.members p.broken.fields p.document p.broken.says)
  same_kinds a b (inr (inr p)) (inr (inr q)) =
      let same = fields_same p.members q.members p.broken.fields q.broken.fields p.document q.document p.broken.says q.broken.says in
      broken_alone q.broken.fields a b (subst (λ (f : FieldsValue). IsFirstBroken f a) same p.broken.broken) q.broken.broken

  pub one_refusal : (a b : DomainError) → IsDomainRefusal bytes a → IsDomainRefusal bytes b → a ≡ b
  one_refusal a b p q = same_kinds a b (kinds bytes a p) (kinds bytes b q)

-- ---- the answer

module _
    (one_domain : (bytes : List ℕ) (a b : DomainValue) → IsDomainOf bytes a → IsDomainOf bytes b → a ≡ b)
    (one_refusal : (bytes : List ℕ) (a b : DomainError) → IsDomainRefusal bytes a → IsDomainRefusal bytes b → a ≡ b)
    (either : (bytes : List ℕ) (d : DomainValue) (e : DomainError) → IsDomainOf bytes d → IsDomainRefusal bytes e → ⊥)
    (bytes : List ℕ) where
  -- what is told of the bytes is a refusal, or want of memory
  told : (e : DomainError) → TellsRefusal bytes e → (e ≡ Memory) ⊎ IsDomainRefusal bytes e
  told Memory t = inl refl
  told NotToml t = inr t
  told _ t = inr t

  pub domain_answered : (r : Result DomainValue DomainError) → IfOk r (IsDomainOf bytes) → IfErr r (TellsRefusal bytes) → (d : DomainValue) → IsDomainOf bytes d → IsAnswer r (Ok d)
  domain_answered (Ok a) ok err d p = inr (ap Ok (one_domain bytes a d ok p))
  domain_answered (Err e) ok err d p = elim (told e err) [ inl m ↦ inl (ap Err m) | inr r ↦ absurd (either bytes d e p r) ]

  pub refusal_answered : (r : Result DomainValue DomainError) → IfOk r (IsDomainOf bytes) → IfErr r (TellsRefusal bytes) → (e : DomainError) → IsDomainRefusal bytes e → IsAnswer r (Err e)
  refusal_answered (Ok a) ok err e p = absurd (either bytes a e ok p)
  refusal_answered (Err b) ok err e p = elim (told b err) [ inl m ↦ inl (ap Err m) | inr r ↦ inr (ap Err (one_refusal bytes b e r p)) ]
