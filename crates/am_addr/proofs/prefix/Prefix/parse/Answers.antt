use Rattle.std.proofs.Common.{arith, ap, sym, subst, ◌∙◌, ◌≡◌, ℕ, List, None, Some}
use Rattle.std.proofs.lemmas.Str.Pattern.{split_after, split_parts}
use Rattle.am_addr.specs.declared.address.Addr.{Addr}
use Rattle.am_addr.specs.Text.{IsTextOf}
use Rattle.am_addr.specs.Bits.{Span, IsLength, cleared}
use Rattle.am_addr.proofs.Slash.{no_slash}
use Rattle.am_addr.proofs.prefix.Prefix.parse.Goals as goal

pub returns-in_default-clause-none : goal.returns-in_default-clause-none
returns-in_default-clause-none c span is =
    split_after 47 c.args.text.now is.address is.number None c.in_default.ensures.cases (omega arith) is.split
    (no_slash is.address is.whole is.text_of)

pub returns-in_default-clause-found : goal.returns-in_default-clause-found
returns-in_default-clause-found c span is = absurd (returns-in_default-clause-none c span is)

pub returns-in_default-parse-clause-none : goal.returns-in_default-parse-clause-none
returns-in_default-parse-clause-none c span is =
    let at = split_after 47 c.args.text.now is.address is.number (Some (c.in-Some.address, c.in-Some.number)) c.in-Some.ensures.cases (omega arith) is.split
    (no_slash is.address is.whole is.text_of) in
    c.in_default-parse.ensures.none is.whole (subst (λ (t : List ℕ). IsTextOf t is.whole) (sym at.0) is.text_of)

pub returns-in_default-parse-clause-found : goal.returns-in_default-parse-clause-found
returns-in_default-parse-clause-found c span is = absurd (returns-in_default-parse-clause-none c span is)

pub returns-in_default-length_of-clause-none : goal.returns-in_default-length_of-clause-none
returns-in_default-length_of-clause-none c span is =
    let at = split_after 47 c.args.text.now is.address is.number (Some (c.in-Some.address, c.in-Some.number)) c.in-Some.ensures.cases (omega arith) is.split
    (no_slash is.address is.whole is.text_of) in
    let none = c.in_default-length_of.ensures.found span.length
    (subst (λ (t : List ℕ). IsLength t span.length) (sym at.1 ∙ sym c.as_bytes.ensures.value) is.length_of) in
    cc

pub returns-in_default-length_of-clause-found : goal.returns-in_default-length_of-clause-found
returns-in_default-length_of-clause-found c span is = absurd (returns-in_default-length_of-clause-none c span is)

abbrev span_of : List ℕ → ℕ → Span
span_of bytes n = record { bytes = bytes; length = n }

same_span :
    (span made : Span) (n : ℕ) (addr : Addr) (whole : List ℕ) → Some n ≡ Some span.length → Some addr ≡ Some (record { 0 = whole })
    → made.bytes ≡ cleared n addr.0 → made.length ≡ n → span.bytes ≡ cleared span.length whole
    → made ≡ span
same_span span made n addr whole e f g l h =
    let size : n ≡ span.length = cc in
    let bytes : addr.0 ≡ whole = cc in
    let fronts : made.bytes ≡ span.bytes = g ∙ ap (λ m. cleared m addr.0) size ∙ ap (λ (l : List ℕ). cleared span.length l) bytes ∙ sym h in
    ap (λ (l : List ℕ). span_of l made.length) fronts ∙ ap (λ m. span_of span.bytes m) (l ∙ size)

pub returns-clause-found : goal.returns-clause-found
returns-clause-found c span is =
    let at = split_after 47 c.args.text.now is.address is.number (Some (c.in-Some.address, c.in-Some.number)) c.in-Some.ensures.cases (omega arith) is.split
    (no_slash is.address is.whole is.text_of) in
    let length = c.in-Some-length_of.ensures.found span.length
    (subst (λ (t : List ℕ). IsLength t span.length) (sym at.1 ∙ sym c.as_bytes.ensures.value) is.length_of) in
    let addr = c.in-Some-parse.ensures.found is.whole (subst (λ (t : List ℕ). IsTextOf t is.whole) (sym at.0) is.text_of) in
    ap Some (same_span span c.prefix_of.result _ c.in-Some-parse.addr is.whole length addr c.prefix_of.ensures.bytes c.prefix_of.ensures.length is.front)

pub returns-clause-only : goal.returns-clause-only
returns-clause-only c =
    let parts = split_parts 47 c.args.text.now (Some (c.in-Some.address, c.in-Some.number)) c.in-Some.ensures.cases (omega arith) in
    record {
      address = c.in-Some.address.now;
      number = c.in-Some.number.now;
      split = parts.0;
      whole = c.in-Some-parse.addr.0;
      text_of = c.in-Some-parse.ensures.only;
      length_of = subst (λ n. IsLength c.in-Some.number.now n) (sym c.prefix_of.ensures.length)
          (subst (λ (t : List ℕ). IsLength t c.in-Some-length_of.length) c.as_bytes.ensures.value c.in-Some-length_of.ensures.only);
      front = c.prefix_of.ensures.bytes ∙ ap (λ n. cleared n c.in-Some-parse.addr.0) (sym c.prefix_of.ensures.length);
    }
