-- A file header is read back in each of its twelve forms.
use Rattle.std.proofs.Common.{refl, sym, ap, subst, ◌∙◌, ◌≡◌, ℕ, Bool, true, false, List, [], ◌∷◌, cond, get_or}
use Rattle.std.specs.Int.{w32, to_be_bytes, to_le_bytes}
use Rattle.am_pcap.specs.Packets.{word}
use Rattle.am_pcap.specs.Heads.{half_word, IsHead, magic_of, link_number}
use Rattle.am_pcap.specs.declared.record.Form.{Form}
use Rattle.am_pcap.specs.declared.frame.LinkKind.{LinkKind}
use Rattle.am_pcap.specs.declared.frame.LinkKind.TheVariants.{Ethernet, RawIp, RawIp6}

-- the four bytes of a number
abbrev pub bytes_of : Bool → ℕ → List ℕ
bytes_of big n = cond big (to_be_bytes w32 n) (to_le_bytes w32 n)

-- the bytes of a file header, in either order
abbrev pub laid_out : Bool → List ℕ → List ℕ → List ℕ → List ℕ
laid_out true m s k =
    get_or m 0 0 ∷ get_or m 1 0 ∷ get_or m 2 0 ∷ get_or m 3 0 ∷ 0 ∷ 2 ∷ 0 ∷ 4 ∷ 0 ∷ 0 ∷ 0 ∷ 0 ∷ 0 ∷ 0 ∷ 0 ∷ 0
    ∷ get_or s 0 0 ∷ get_or s 1 0 ∷ get_or s 2 0 ∷ get_or s 3 0 ∷ get_or k 0 0 ∷ get_or k 1 0 ∷ get_or k 2 0 ∷ get_or k 3 0 ∷ []
laid_out false m s k =
    get_or m 0 0 ∷ get_or m 1 0 ∷ get_or m 2 0 ∷ get_or m 3 0 ∷ 2 ∷ 0 ∷ 4 ∷ 0 ∷ 0 ∷ 0 ∷ 0 ∷ 0 ∷ 0 ∷ 0 ∷ 0 ∷ 0
    ∷ get_or s 0 0 ∷ get_or s 1 0 ∷ get_or s 2 0 ∷ get_or s 3 0 ∷ get_or k 0 0 ∷ get_or k 1 0 ∷ get_or k 2 0 ∷ get_or k 3 0 ∷ []

-- the header is read back
abbrev pub IsReadBack : Form → LinkKind → List ℕ → Type 0
IsReadBack form link raw = IsHead (record { raw = raw; form = form; link = link }) raw

of-literals :
    (big nano : Bool) (link : LinkKind)
    → IsReadBack (record { big = big; nano = nano }) link (laid_out big (bytes_of big (magic_of nano)) (bytes_of big 262144) (bytes_of big (link_number link)))
unfolding word half_word
of-literals true true Ethernet = record { magic = refl; version = (refl, refl); link = refl; raw = refl }
of-literals true true RawIp = record { magic = refl; version = (refl, refl); link = refl; raw = refl }
of-literals true true RawIp6 = record { magic = refl; version = (refl, refl); link = refl; raw = refl }
of-literals true false Ethernet = record { magic = refl; version = (refl, refl); link = refl; raw = refl }
of-literals true false RawIp = record { magic = refl; version = (refl, refl); link = refl; raw = refl }
of-literals true false RawIp6 = record { magic = refl; version = (refl, refl); link = refl; raw = refl }
of-literals false true Ethernet = record { magic = refl; version = (refl, refl); link = refl; raw = refl }
of-literals false true RawIp = record { magic = refl; version = (refl, refl); link = refl; raw = refl }
of-literals false true RawIp6 = record { magic = refl; version = (refl, refl); link = refl; raw = refl }
of-literals false false Ethernet = record { magic = refl; version = (refl, refl); link = refl; raw = refl }
of-literals false false RawIp = record { magic = refl; version = (refl, refl); link = refl; raw = refl }
of-literals false false RawIp6 = record { magic = refl; version = (refl, refl); link = refl; raw = refl }

pub read_back :
    (form : Form) (link : LinkKind) (big : Bool) (a b c : ℕ) (m s k : List ℕ) → form.big ≡ big
    → m ≡ bytes_of form.big a → s ≡ bytes_of form.big b → k ≡ bytes_of form.big c
    → a ≡ magic_of form.nano → b ≡ 262144 → c ≡ link_number link
    → IsReadBack form link (laid_out big m s k)
read_back form link big a b c m s k is em es ek ea eb ec =
    let m_is : m ≡ bytes_of form.big (magic_of form.nano) = em ∙ ap (λ n. bytes_of form.big n) ea in
    let s_is : s ≡ bytes_of form.big 262144 = es ∙ ap (λ n. bytes_of form.big n) eb in
    let k_is : k ≡ bytes_of form.big (link_number link) = ek ∙ ap (λ n. bytes_of form.big n) ec in
    let one : IsReadBack form link (laid_out form.big m (bytes_of form.big 262144) (bytes_of form.big (link_number link))) =
    subst (λ x. IsReadBack form link (laid_out form.big x (bytes_of form.big 262144) (bytes_of form.big (link_number link)))) (sym m_is)
    (of-literals form.big form.nano link) in
    let two : IsReadBack form link (laid_out form.big m s (bytes_of form.big (link_number link))) =
    subst (λ x. IsReadBack form link (laid_out form.big m x (bytes_of form.big (link_number link)))) (sym s_is) one in
    let three : IsReadBack form link (laid_out form.big m s k) =
    subst (λ x. IsReadBack form link (laid_out form.big m s x)) (sym k_is) two in
    subst (λ x. IsReadBack form link (laid_out x m s k)) is three
