-- 24 bytes are one file header, or are refused as one for one reason.
use Rattle.std.proofs.Common.{arith, refl, sym, ap, subst, ◌∙◌, ◌≡◌, ◌≢◌, ℕ, Bool, true, false, List, take, get_or, Option, Some, None, Result, Ok, Err, ◌⊎◌, inl, inr}
use Rattle.std.proofs.lemmas.Bool.{cases_eq, cases_Bool}
use Rattle.std.proofs.lemmas.Slice.Eq.{bytes_eq-Decides}
use Rattle.std.specs.Prelude.{bytes_eq}
use Rattle.am_pcap.specs.Heads.{half_word, magic_bytes, link_number, link_bits, HasMagic, HasVersion, SomeMagic, IsHead, IsRefusedHead, IsJudged}
use Rattle.am_pcap.specs.declared.record.Form.{Form}
use Rattle.am_pcap.specs.declared.frame.LinkKind.{LinkKind}
use Rattle.am_pcap.specs.declared.frame.LinkKind.TheVariants.{Ethernet, RawIp, RawIp6}
use Rattle.am_pcap.specs.declared.refusal.CapError.{CapError}
use Rattle.am_pcap.specs.declared.refusal.CapError.TheVariants.{BadMagic, BadVersion, UnknownLink, RecordTooLong, CutFile}
use Rattle.am_pcap.specs.declared.head.Head.{Head}

-- the first and the last byte of a magic tell its form
big-of_bytes : (a b c d : Bool) → magic_bytes (record { big = a; nano = b }) ≡ magic_bytes (record { big = c; nano = d }) → (a ≡ c) × (b ≡ d)
big-of_bytes true true true true e = (refl, refl)
big-of_bytes true true true false e = absurd (omega (arith, ap (λ l. get_or l 0 0) e, ap (λ l. get_or l 3 0) e))
big-of_bytes true true false true e = absurd (omega (arith, ap (λ l. get_or l 0 0) e, ap (λ l. get_or l 3 0) e))
big-of_bytes true true false false e = absurd (omega (arith, ap (λ l. get_or l 0 0) e, ap (λ l. get_or l 3 0) e))
big-of_bytes true false true true e = absurd (omega (arith, ap (λ l. get_or l 0 0) e, ap (λ l. get_or l 3 0) e))
big-of_bytes true false true false e = (refl, refl)
big-of_bytes true false false true e = absurd (omega (arith, ap (λ l. get_or l 0 0) e, ap (λ l. get_or l 3 0) e))
big-of_bytes true false false false e = absurd (omega (arith, ap (λ l. get_or l 0 0) e, ap (λ l. get_or l 3 0) e))
big-of_bytes false true true true e = absurd (omega (arith, ap (λ l. get_or l 0 0) e, ap (λ l. get_or l 3 0) e))
big-of_bytes false true true false e = absurd (omega (arith, ap (λ l. get_or l 0 0) e, ap (λ l. get_or l 3 0) e))
big-of_bytes false true false true e = (refl, refl)
big-of_bytes false true false false e = absurd (omega (arith, ap (λ l. get_or l 0 0) e, ap (λ l. get_or l 3 0) e))
big-of_bytes false false true true e = absurd (omega (arith, ap (λ l. get_or l 0 0) e, ap (λ l. get_or l 3 0) e))
big-of_bytes false false true false e = absurd (omega (arith, ap (λ l. get_or l 0 0) e, ap (λ l. get_or l 3 0) e))
big-of_bytes false false false true e = absurd (omega (arith, ap (λ l. get_or l 0 0) e, ap (λ l. get_or l 3 0) e))
big-of_bytes false false false false e = (refl, refl)

same_form : (f g : Form) → f.big ≡ g.big → f.nano ≡ g.nano → f ≡ g
same_form f g a b = grind arith

-- bytes begin with the magic of one form
pub magic-unique : (bytes : List ℕ) (f g : Form) → HasMagic f bytes → HasMagic g bytes → f ≡ g
magic-unique bytes f g p q = let both = big-of_bytes f.big f.nano g.big g.nano (sym p ∙ q) in same_form f g both.0 both.1

number-unique : (a b : LinkKind) → link_number a ≡ link_number b → a ≡ b
number-unique Ethernet Ethernet e = refl
number-unique RawIp RawIp e = refl
number-unique RawIp6 RawIp6 e = refl
number-unique a b e = absurd (omega (arith, e))

same_head : (h k : Head) → h.raw ≡ k.raw → h.form ≡ k.form → h.link ≡ k.link → h ≡ k
same_head h k a b c = grind arith

-- bytes are one header
pub head-unique : (bytes : List ℕ) (h k : Head) → IsHead h bytes → IsHead k bytes → h ≡ k
head-unique bytes h k p q =
    let form : h.form ≡ k.form = magic-unique bytes h.form k.form p.magic q.magic in
    let link : link_number h.link ≡ link_number k.link = sym p.link ∙ ap (λ (f : Form). link_bits f.big bytes) form ∙ q.link in
    same_head h k (p.raw ∙ sym q.raw) form (number-unique h.link k.link link)

-- a header isn't refused
pub head-not_refused : (bytes : List ℕ) (h : Head) (e : CapError) → IsHead h bytes → IsRefusedHead e bytes → ⊥
head-not_refused bytes h BadMagic p r = r h.form p.magic
head-not_refused bytes h BadVersion p r =
    let form : h.form ≡ r.0 = magic-unique bytes h.form r.0 p.magic r.1 in r.2 (subst (λ f. HasVersion f bytes) form p.version)
head-not_refused bytes h (UnknownLink link) p r =
    let form : h.form ≡ r.0 = magic-unique bytes h.form r.0 p.magic r.1 in
    r.4 h.link (r.3 ∙ sym (ap (λ (f : Form). link_bits f.big bytes) form) ∙ p.link)
head-not_refused bytes h (RecordTooLong number long) p r = r
head-not_refused bytes h (CutFile number) p r = r

-- and for one reason
pub refused_head-unique : (bytes : List ℕ) (d e : CapError) → IsRefusedHead d bytes → IsRefusedHead e bytes → d ≡ e
refused_head-unique bytes BadMagic BadMagic p q = refl
refused_head-unique bytes BadMagic BadVersion p q = absurd (p q.0 q.1)
refused_head-unique bytes BadMagic (UnknownLink m) p q = absurd (p q.0 q.1)
refused_head-unique bytes BadVersion BadMagic p q = absurd (q p.0 p.1)
refused_head-unique bytes BadVersion BadVersion p q = refl
refused_head-unique bytes BadVersion (UnknownLink m) p q =
    let form : q.0 ≡ p.0 = magic-unique bytes q.0 p.0 q.1 p.1 in absurd (p.2 (subst (λ f. HasVersion f bytes) form q.2))
refused_head-unique bytes (UnknownLink n) BadMagic p q = absurd (q p.0 p.1)
refused_head-unique bytes (UnknownLink n) BadVersion p q =
    let form : p.0 ≡ q.0 = magic-unique bytes p.0 q.0 p.1 q.1 in absurd (q.2 (subst (λ f. HasVersion f bytes) form p.2))
refused_head-unique bytes (UnknownLink n) (UnknownLink m) p q =
    let form : p.0 ≡ q.0 = magic-unique bytes p.0 q.0 p.1 q.1 in
    ap UnknownLink (p.3 ∙ ap (λ (f : Form). link_bits f.big bytes) form ∙ sym q.3)
refused_head-unique bytes (RecordTooLong a b) e p q = absurd p
refused_head-unique bytes (CutFile a) e p q = absurd p
refused_head-unique bytes BadMagic (RecordTooLong a b) p q = absurd q
refused_head-unique bytes BadMagic (CutFile a) p q = absurd q
refused_head-unique bytes BadVersion (RecordTooLong a b) p q = absurd q
refused_head-unique bytes BadVersion (CutFile a) p q = absurd q
refused_head-unique bytes (UnknownLink n) (RecordTooLong a b) p q = absurd q
refused_head-unique bytes (UnknownLink n) (CutFile a) p q = absurd q

-- the magic of a form stands there, or it doesn't
magic-or_not : (form : Form) (bytes : List ℕ) → HasMagic form bytes ⊎ (HasMagic form bytes → ⊥)
magic-or_not form bytes =
    let decides = bytes_eq-Decides (take 4 bytes) (magic_bytes form) in
    elim (cases_Bool (bytes_eq (take 4 bytes) (magic_bytes form))) [
      | inl is ↦ inl (decides.0 is)
      | inr not ↦ inr (λ m. absurd (cc (not, decides.1 m)))
    ]

none-magic :
    (bytes : List ℕ)
    → ((a b : Bool) → HasMagic (record { big = a; nano = b }) bytes → ⊥) → (form : Form) → HasMagic form bytes → ⊥
none-magic bytes none form m = none form.big form.nano m

all-four :
    (bytes : List ℕ)
    → (HasMagic (record { big = false; nano = false }) bytes → ⊥) → (HasMagic (record { big = false; nano = true }) bytes → ⊥)
    → (HasMagic (record { big = true; nano = false }) bytes → ⊥) → (HasMagic (record { big = true; nano = true }) bytes → ⊥)
    → (a b : Bool) → HasMagic (record { big = a; nano = b }) bytes → ⊥
all-four bytes w x y z false false m = w m
all-four bytes w x y z false true m = x m
all-four bytes w x y z true false m = y m
all-four bytes w x y z true true m = z m

-- bytes that begin with none of the four magics begin with that of no form
pub no_form :
    (bytes : List ℕ)
    → (HasMagic (record { big = false; nano = false }) bytes → ⊥) → (HasMagic (record { big = false; nano = true }) bytes → ⊥)
    → (HasMagic (record { big = true; nano = false }) bytes → ⊥) → (HasMagic (record { big = true; nano = true }) bytes → ⊥)
    → (form : Form) → HasMagic form bytes → ⊥
no_form bytes w x y z form m = none-magic bytes (all-four bytes w x y z) form m

form-exists : (bytes : List ℕ) → (f : Option Form) × SomeMagic f bytes
form-exists bytes = elim (magic-or_not (record { big = false; nano = false }) bytes) [
  | inl m ↦ (Some (record { big = false; nano = false }), m)
  | inr w ↦ elim (magic-or_not (record { big = false; nano = true }) bytes) [
    | inl m ↦ (Some (record { big = false; nano = true }), m)
    | inr x ↦ elim (magic-or_not (record { big = true; nano = false }) bytes) [
      | inl m ↦ (Some (record { big = true; nano = false }), m)
      | inr y ↦ elim (magic-or_not (record { big = true; nano = true }) bytes) [
        | inl m ↦ (Some (record { big = true; nano = true }), m)
        | inr z ↦ (None, no_form bytes w x y z)
      ]
    ]
  ]
]

no-kind : (n : ℕ) (kind : LinkKind) → n ≢ 1 → n ≢ 101 → n ≢ 229 → n ≢ link_number kind
no-kind n Ethernet a b c = a
no-kind n RawIp a b c = b
no-kind n RawIp6 a b c = c

kind-or_not : (n : ℕ) → ((kind : LinkKind) × (n ≡ link_number kind)) ⊎ ((kind : LinkKind) → n ≢ link_number kind)
kind-or_not n = elim (cases_eq n 1) [
  | inl e ↦ inl (Ethernet, e)
  | inr a ↦ elim (cases_eq n 101) [
    | inl e ↦ inl (RawIp, e)
    | inr b ↦ elim (cases_eq n 229) [ inl e ↦ inl (RawIp6, e) | inr c ↦ inr (λ kind. no-kind n kind a b c) ]
  ]
]

version-or_not : (form : Form) (bytes : List ℕ) → HasVersion form bytes ⊎ (HasVersion form bytes → ⊥)
version-or_not form bytes = elim (cases_eq (half_word form.big bytes 4) 2) [
  | inl a ↦ elim (cases_eq (half_word form.big bytes 6) 4) [ inl b ↦ inl (a, b) | inr n ↦ inr (λ v. n v.1) ]
  | inr n ↦ inr (λ v. n v.0)
]

by-form : (bytes : List ℕ) (f : Option Form) → SomeMagic f bytes → (r : Result Head CapError) × IsJudged r bytes
by-form bytes None none = (Err BadMagic, none)
by-form bytes (Some form) magic = elim (version-or_not form bytes) [
  | inl version ↦ elim (kind-or_not (link_bits form.big bytes)) [
    | inl kind ↦ (
      Ok (record { raw = bytes; form = form; link = kind.0 }),
      record { magic = magic; version = version; link = kind.1; raw = refl },
    )
    | inr none ↦ (Err (UnknownLink (link_bits form.big bytes)), (form, magic, version, refl, none))
  ]
  | inr other ↦ (Err BadVersion, (form, magic, other))
]

-- bytes are a header, or refused as one
pub judged-exists : (bytes : List ℕ) → (r : Result Head CapError) × IsJudged r bytes
judged-exists bytes = let f = form-exists bytes in by-form bytes f.0 f.1
