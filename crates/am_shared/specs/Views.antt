-- What a pass knows of a tally's words, as plain data: its share of each and what it has seen of each. A list is 0 past its end.
use Rattle.std.specs.Prelude.{ℕ, zero, suc, ◌+◌, ◌-◌, max, List, [], ◌∷◌, slice_index}
use Rattle.am_shared.specs.declared.rule.View.{View}

-- the list with `f` of what stood at a place there
abbrev pub changed : (ℕ → ℕ) → List ℕ → ℕ → List ℕ
changed f [] zero = f 0 ∷ []
changed f [] (suc i) = 0 ∷ changed f [] i
changed f (x ∷ xs) zero = f x ∷ xs
changed f (x ∷ xs) (suc i) = x ∷ changed f xs i

-- two lists, place by place; what one list lacks is taken from the other
abbrev pub zipped : (ℕ → ℕ → ℕ) → List ℕ → List ℕ → List ℕ
zipped f [] ys = ys
zipped f (x ∷ xs) [] = x ∷ xs
zipped f (x ∷ xs) (y ∷ ys) = f x y ∷ zipped f xs ys

-- what was added to a word through this pass, and through those joined into it
abbrev pub share_at : View → ℕ → ℕ
share_at v i = slice_index v.shares i

-- what the pass has seen of a word
abbrev pub seen_at : View → ℕ → ℕ
seen_at v i = slice_index v.seen i

-- the adds that a pass may make, and those made through it
abbrev pub rights : View → ℕ
rights v = v.left + v.made

-- the first pass of a table
abbrev pub starter : ℕ → View
starter budget = record { shares = []; seen = []; left = budget; made = 0; budget = budget }

-- what is left of a pass that was joined into another
abbrev pub spent : View
spent = starter 0

-- k was added to the word i
abbrev pub raised : ℕ → ℕ → View → View
raised i k v = record {
  shares = changed (λ n. n + k) v.shares i;
  seen = changed (λ n. max n (share_at v i + k)) v.seen i;
  left = v.left;
  made = v.made;
  budget = v.budget;
}

-- 1 was added to the word i, as the first step of an add
abbrev pub counted : ℕ → View → View
counted i v = record {
  shares = (raised i 1 v).shares;
  seen = (raised i 1 v).seen;
  left = v.left - 1;
  made = v.made + 1;
  budget = v.budget;
}

-- n was read in the word i
abbrev pub looked : ℕ → ℕ → View → View
looked i n v = record {
  shares = v.shares;
  seen = changed (λ _. n) v.seen i;
  left = v.left;
  made = v.made;
  budget = v.budget;
}

-- the pass gave a budget away
abbrev pub after_giving : ℕ → View → View
after_giving given v = record {
  shares = v.shares;
  seen = v.seen;
  left = v.left - given;
  made = v.made;
  budget = v.budget;
}

-- a new pass, which was given a budget and knows what the other has seen
abbrev pub newcomer : ℕ → View → View
newcomer given v = record { shares = []; seen = v.seen; left = given; made = 0; budget = v.budget }

-- the shares of two passes together
abbrev pub shares_of_both : View → View → List ℕ
shares_of_both v w = zipped (λ x y. x + y) v.shares w.shares

-- a pass into which another was joined
abbrev pub joined_views : View → View → View
joined_views v w = record {
  shares = shares_of_both v w;
  seen = zipped max (zipped max v.seen w.seen) (shares_of_both v w);
  left = v.left + w.left;
  made = v.made + w.made;
  budget = v.budget;
}
