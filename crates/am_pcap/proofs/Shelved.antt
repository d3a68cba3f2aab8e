-- Bytes that are taken from the front of a shelf's open file, one piece after another.
use Rattle.std.proofs.Common.{refl, sym, ap, subst, ◌∙◌, ◌≡◌, ℕ, List, [], ◌++◌, Option, Some, None, append_assoc}
use Rattle.am_base.specs.Shelves.{Told, Takes, IsAtEnd, Opens, opened}
use Rattle.am_base.specs.Files.{IsPartRead, KeepsFiles, files_told}

-- no bytes
pub takes-none : (a : Option Told) → Takes a a []
takes-none None = refl
takes-none (Some t) = (t.rest, refl, refl)

-- one piece, and then another
pub takes-join : (a b c : Option Told) (m n : List ℕ) → Takes a b m → Takes b c n → Takes a c (m ++ n)
takes-join None b c m n p q = subst (λ x. Takes x c n) p q
takes-join (Some t) b c m n p q =
    let r : Takes (Some (record t { rest = p.0 })) c n = subst (λ x. Takes x c n) p.2 q in
    (r.0, p.1 ∙ ap (λ x. m ++ x) r.1 ∙ sym (append_assoc m n r.0), r.2)

-- at the end, no bytes leave it there
pub end-stays : (a b : Option Told) → Takes a b [] → IsAtEnd a → IsAtEnd b
end-stays None b p e = subst (λ x. IsAtEnd x) (sym p) tt
end-stays (Some t) b p e =
    let none : p.0 ≡ [] = sym p.1 ∙ e in
    subst (λ x. IsAtEnd x) (sym p.2) none

-- nothing was read of a file that was opened
pub part-none : (a b : Option Told) (name : List ℕ) → Opens a b name → IsPartRead a b name []
part-none None b name p = p
part-none (Some t) b name p = (p.0, p.1, p.2)

-- and then bytes were
pub part-more : (a b c : Option Told) (name bytes more : List ℕ) → IsPartRead a b name bytes → Takes b c more → IsPartRead a c name (bytes ++ more)
part-more None b c name bytes more p q = subst (λ x. Takes x c more) p q
part-more (Some t) b c name bytes more p q =
    let r : Takes (Some (opened t name p.0)) c more = subst (λ x. Takes x c more) p.2 q in
    (r.0, p.1 ∙ ap (λ x. Some (bytes ++ x)) r.1 ∙ ap Some (sym (append_assoc bytes more r.0)), r.2)

pub part-keeps : (a b : Option Told) (name bytes : List ℕ) → IsPartRead a b name bytes → KeepsFiles a b
part-keeps None b name bytes p = ap files_told p
part-keeps (Some t) b name bytes p = ap files_told p.2
