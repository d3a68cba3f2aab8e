-- What a writer has after one line more.
use Rattle.std.proofs.Common.{◌≡◌, ◌∙◌, ℕ, List, ◌++◌, Option, Some, None, Result, Ok, Err, IfOk, Vec, Global, ap, subst}
use Rattle.std.specs.Io.KnownBytes.{Appends}
use Rattle.csv.specs.declared.writer.Writer.{Writer}
use Rattle.std.specs.Prelude.{OnOk}
use Rattle.am_report.specs.Lines.{HasLines}
use Rattle.am_report.specs.Rows.{fields_line}

pub appended : (old new : Option (List ℕ)) (text bytes : List ℕ) → Appends old new bytes → old ≡ Some text → new ≡ Some (text ++ bytes)
appended None new text bytes h e = cc e
appended (Some x) None text bytes h e = absurd h
appended (Some x) (Some y) text bytes h e =
    let same : x ≡ text = cc e in
    ap Some (h ∙ ap (λ (t : List ℕ). t ++ bytes) same)

-- the bytes of a writer's lines are the text that it has
pub said-text : {E : Type 0} (result : Result (Vec ℕ Global) E) (lines : Writer (Vec ℕ Global)) (text : List ℕ)
    → IfOk result (λ (bytes : Vec ℕ Global). (some : List ℕ) → HasLines (λ (v : Vec ℕ Global). Some v.items) lines some → bytes.items ≡ some)
    → HasLines (λ (v : Vec ℕ Global). Some v.items) lines text → IfOk result (λ (bytes : Vec ℕ Global). bytes.items ≡ text)
said-text (Ok bytes) lines text read has = read text has
said-text (Err e) lines text read has = tt

-- the same text, written otherwise
pub as-text : (lines : Writer (Vec ℕ Global)) (a b : List ℕ) → a ≡ b
    → HasLines (λ (v : Vec ℕ Global). Some v.items) lines a → HasLines (λ (v : Vec ℕ Global). Some v.items) lines b
as-text lines a b e h = subst (λ (t : List ℕ). HasLines (λ (v : Vec ℕ Global). Some v.items) lines t) e h

-- a line of the same fields
pub same-line : {E : Type 0} (result : Result (Unit {0}) E) (old new : Writer (Vec ℕ Global)) (a b : List (List ℕ)) → a ≡ b
    → OnOk result ((text : List ℕ) → HasLines (λ (v : Vec ℕ Global). Some v.items) old text
    → HasLines (λ (v : Vec ℕ Global). Some v.items) new (text ++ fields_line a))
    → OnOk result ((text : List ℕ) → HasLines (λ (v : Vec ℕ Global). Some v.items) old text
    → HasLines (λ (v : Vec ℕ Global). Some v.items) new (text ++ fields_line b))
same-line result old new a b e h = subst (λ (fields : List (List ℕ)). OnOk result ((text : List ℕ)
    → HasLines (λ (v : Vec ℕ Global). Some v.items) old text
    → HasLines (λ (v : Vec ℕ Global). Some v.items) new (text ++ fields_line fields))) e h
