use Rattle.std.proofs.Common.{sym, subst, ℕ, List, [], ◌∷◌, None, Some}
use Rattle.std.proofs.lemmas.Str.Pattern.{split_text_parts}
use Rattle.am_addr.specs.Text.{IsGapped, IsFull}
use Rattle.am_addr.proofs.Gap.{stands_full, stands_short, is_first}
use Rattle.am_addr.proofs.address.values_in.Goals as goal

pub returns-in_default-clause-found : goal.returns-in_default-clause-found
returns-in_default-clause-found c values s =
    let lacks = split_text_parts (58 ∷ 58 ∷ []) c.args.text.now None c.in_default.ensures.cases in
    let full = stands_full c.args.text.now values (λ a b e. lacks a b e) s in
    c.full.ensures.found values (subst (λ (t : List ℕ). IsFull t values) (sym c.as_bytes.ensures.value) full)

pub returns-clause-found : goal.returns-clause-found
returns-clause-found c values s =
    let split = split_text_parts (58 ∷ 58 ∷ []) c.args.text.now (Some (c.in-Some.front, c.in-Some.back)) c.in-Some.ensures.cases in
    let first = is_first c.args.text.now _ _ c.in-Some.ensures.cases in
    let short = stands_short c.args.text.now _ _ values split first s in
    c.short.ensures.found values
    (subst (λ (t : List ℕ). IsGapped t c.as_bytes-3.result.now values) (sym c.as_bytes-2.ensures.value)
    (subst (λ (t : List ℕ). IsGapped c.in-Some.front.now t values) (sym c.as_bytes-3.ensures.value) short))
