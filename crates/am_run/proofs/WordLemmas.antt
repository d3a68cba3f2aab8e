-- Words in a list.
use Rattle.std.proofs.Common.{◌≡◌, ℕ, ◌<◌, ◌≤◌, ◌-◌, List, [], ◌∷◌, length, get_or, take, drop, map, ap, ◌∙◌, arith, sym, subst, ◌+◌, All, string_bytes, String, Global, below_more}
use Rattle.std.proofs.lemmas.List.{get_or-map, length-map}
use Rattle.am_domain.specs.Texts.{IsFileName}
use Rattle.std.proofs.Math.Seq.{take-length}

-- a list that isn't empty is its first word and the rest
pub first-and-rest :
    {A : Type 0} (f : A → List ℕ) (ws : List A) (p : A) (w : List ℕ)
    → 1 ≤ length ws → p ≡ get_or ws 0 p → w ≡ f p → w ∷ map f (take (length ws - 1) (drop 1 ws)) ≡ map f ws
first-and-rest f [] p w low = absurd (omega arith)
first-and-rest f (a ∷ ws) p w low = λ ip iw.
    let e : length (a ∷ ws) - 1 ≡ length ws = omega arith in
    let t : take (length (a ∷ ws) - 1) ws ≡ ws = ap (λ n. take n ws) e ∙ take-length ws in
    ap (λ x. x ∷ map f (take (length (a ∷ ws) - 1) ws)) (iw ∙ ap f ip) ∙ ap (λ x. f a ∷ map f x) t

-- a list of three is its three elements
pub three :
    {A : Type 0} (f : A → List ℕ) (ws : List A) (p q r : A)
    → 3 ≤ length ws
    → length ws < 4
    → p ≡ get_or ws 0 p
    → q ≡ get_or ws 1 q
    → r ≡ get_or ws 2 r
    → map f ws ≡ f p ∷ f q ∷ f r ∷ []
three f [] p q r low high = absurd (omega arith)
three f (a ∷ []) p q r low high = absurd (omega arith)
three f (a ∷ b ∷ []) p q r low high = absurd (omega arith)
three f (a ∷ b ∷ c ∷ []) p q r low high = λ ip iq ir. cc
three f (a ∷ b ∷ c ∷ d ∷ more) p q r low high = absurd (omega arith)

-- a list of five is its five elements
pub five :
    {A : Type 0} (f : A → List ℕ) (ws : List A) (p q r s t : A)
    → 5 ≤ length ws
    → length ws < 6
    → p ≡ get_or ws 0 p
    → q ≡ get_or ws 1 q
    → r ≡ get_or ws 2 r
    → s ≡ get_or ws 3 s
    → t ≡ get_or ws 4 t
    → map f ws ≡ f p ∷ f q ∷ f r ∷ f s ∷ f t ∷ []
five f [] p q r s t low high = absurd (omega arith)
five f (a ∷ []) p q r s t low high = absurd (omega arith)
five f (a ∷ b ∷ []) p q r s t low high = absurd (omega arith)
five f (a ∷ b ∷ c ∷ []) p q r s t low high = absurd (omega arith)
five f (a ∷ b ∷ c ∷ d ∷ []) p q r s t low high = absurd (omega arith)
five f (a ∷ b ∷ c ∷ d ∷ e ∷ []) p q r s t low high = λ ip iq ir is it. cc
five f (a ∷ b ∷ c ∷ d ∷ e ∷ g ∷ more) p q r s t low high = absurd (omega arith)

-- a word as it stands among all
pub word-at : (words : List (String Global)) (i : ℕ) (d : List ℕ) (item : String Global) (word : List ℕ)
    → i < length words → item ≡ get_or words i item → word ≡ string_bytes item → get_or (map string_bytes words) i d ≡ word
word-at words i d item word h is said = get_or-map string_bytes words i item d h ∙ ap string_bytes (sym is) ∙ sym said

-- one more word is the name of a file
pub names-more : (words : List (String Global)) (i : ℕ) (item : String Global) (word : List ℕ)
    → i < length words → item ≡ get_or words i item → word ≡ string_bytes item → IsFileName word
    → ((k : ℕ) (d : List ℕ) → k < i → IsFileName (get_or (map string_bytes words) k d))
    → (k : ℕ) (d : List ℕ) → k < i + 1 → IsFileName (get_or (map string_bytes words) k d)
names-more words i item word h is said named so k d below =
    below_more (λ j. IsFileName (get_or (map string_bytes words) j d)) i (λ j low. so j d low)
    (subst IsFileName (sym (word-at words i d item word h is said)) named) k below

-- a word that is no name
pub none-of-names : (words : List (String Global)) (i : ℕ) (item : String Global) (word : List ℕ)
    → i < length words → item ≡ get_or words i item → word ≡ string_bytes item → (IsFileName word → ⊥)
    → All IsFileName (map string_bytes words) → ⊥
none-of-names words i item word h is said not all =
    not (subst IsFileName (word-at words i [] item word h is said) (all i [] (omega (arith, h, length-map words string_bytes))))
