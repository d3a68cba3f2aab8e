-- What a list of bytes comes to as a capture: which records are whole in it, and what is left.
use Rattle.std.specs.Prelude.{◌≡◌, ◌≢◌, ◌⊎◌, ℕ, ◌+◌, ◌<◌, ◌≤◌, Bool, List, [], ◌∷◌, length, take, drop, Option, Some, None, Result, Ok, Err}
use Rattle.am_pcap.specs.Packets.{word, Packet, IsWhole, HoldsPackets}
use Rattle.am_pcap.specs.declared.decoder.TheConstants.{MAX_CAPTURED}
use Rattle.am_pcap.specs.Heads.{IsHead, IsRefusedHead}
use Rattle.am_pcap.specs.declared.refusal.CapError.{CapError}
use Rattle.am_pcap.specs.declared.refusal.CapError.TheVariants.{RecordTooLong, CutFile}
use Rattle.am_pcap.specs.declared.head.TheConstants.{FILE_HEAD}
use Rattle.am_pcap.specs.declared.head.Head.{Head}

-- the bytes are a capture: a file header that is taken, and whole records with these packets to the end
pub record IsCapture (bytes : List ℕ) (h : Head) (ps : List Packet) : Type 0 where
  pub whole : FILE_HEAD ≤ length bytes
  pub head : IsHead h (take FILE_HEAD bytes)
  pub records : HoldsPackets h.form.big (drop FILE_HEAD bytes) ps []

-- the header of a record is there, and says more bytes than a record may have
pub record IsTooLong (big : Bool) (bytes : List ℕ) : Type 0 where
  pub head : 16 ≤ length bytes
  pub long : MAX_CAPTURED < word big bytes 8

-- the refusal, if there is one, of the record of this number, of which these bytes are there
abbrev pub IsRecordError : Bool → ℕ → List ℕ → Option CapError → Type 0
IsRecordError big number rest None = IsTooLong big rest → ⊥
IsRecordError big number rest (Some e) = IsTooLong big rest × (e ≡ RecordTooLong number (word big rest 8))

-- what is kept of a list of bytes: the file header, how many records are whole, the bytes of the header or the record
-- that is not whole, how many bytes there are, and the refusal
pub record Summary : Type 0 where
  pub head : Option Head
  pub count : ℕ
  pub unfinished : List ℕ
  pub taken : ℕ
  pub error : Option CapError

-- the bytes end inside the file header
pub record EndsInHead (bytes : List ℕ) (ps : List Packet) (unfinished : List ℕ) : Type 0 where
  pub short : length bytes < FILE_HEAD
  pub none : ps ≡ []
  pub rest : unfinished ≡ bytes

-- the file header is refused
pub record HasBadHead (bytes : List ℕ) (ps : List Packet) (unfinished : List ℕ) (e : CapError) : Type 0 where
  pub whole : FILE_HEAD ≤ length bytes
  pub bad : IsRefusedHead e (take FILE_HEAD bytes)
  pub none : ps ≡ []
  pub rest : unfinished ≡ bytes

-- behind this file header stand whole records with these packets, and then no other whole one
pub record HasRecords (bytes : List ℕ) (ps : List Packet) (unfinished : List ℕ) (h : Head) (error : Option CapError) : Type 0 where
  pub whole : FILE_HEAD ≤ length bytes
  pub head : IsHead h (take FILE_HEAD bytes)
  pub records : HoldsPackets h.form.big (drop FILE_HEAD bytes) ps unfinished
  pub no_more : IsWhole h.form.big unfinished → ⊥
  pub refused : IsRecordError h.form.big (length ps + 1) unfinished error

-- by the file header and the refusal: what the bytes hold
abbrev pub IsSplit : Option Head → Option CapError → List ℕ → List Packet → List ℕ → Type 0
IsSplit None None bytes ps unfinished = EndsInHead bytes ps unfinished
IsSplit None (Some e) bytes ps unfinished = HasBadHead bytes ps unfinished e
IsSplit (Some h) error bytes ps unfinished = HasRecords bytes ps unfinished h error

-- the whole records of the bytes have these packets, and this is the summary of the bytes
pub record HasSummary (bytes : List ℕ) (ps : List Packet) (s : Summary) : Type 0 where
  pub count : s.count ≡ length ps
  pub taken : s.taken ≡ length bytes
  pub split : IsSplit s.head s.error bytes ps s.unfinished

-- whether the bytes of this summary are a capture, or why not
abbrev pub unless_cut : Option Head → ℕ → List ℕ → Result (Unit {0}) CapError
unless_cut None count unfinished = Err (CutFile 0)
unless_cut (Some h) count [] = Ok tt
unless_cut (Some h) count (b ∷ bs) = Err (CutFile (count + 1))

abbrev pub unless_refused : Option CapError → Result (Unit {0}) CapError → Result (Unit {0}) CapError
unless_refused None otherwise = otherwise
unless_refused (Some e) otherwise = Err e

abbrev pub verdict : Summary → Result (Unit {0}) CapError
verdict s = unless_refused s.error (unless_cut s.head s.count s.unfinished)

-- why a record is refused, of which these bytes are there: it says that it is too long, or there are some bytes of it but not all
abbrev pub WhyRefused : Bool → ℕ → List ℕ → CapError → Type 0
WhyRefused big number rest e =
    (IsTooLong big rest × (e ≡ RecordTooLong number (word big rest 8)))
    ⊎ ((IsTooLong big rest → ⊥) × (rest ≢ []) × (e ≡ CutFile number))

-- behind a file header that is taken and whole records stands one that is refused
pub record HasBadRecord (bytes : List ℕ) (e : CapError) : Type 0 where
  pub whole : FILE_HEAD ≤ length bytes
  pub h : Head
  pub head : IsHead h (take FILE_HEAD bytes)
  pub packets : List Packet
  pub rest : List ℕ
  pub records : HoldsPackets h.form.big (drop FILE_HEAD bytes) packets rest
  pub stuck : IsWhole h.form.big rest → ⊥
  pub why : WhyRefused h.form.big (length packets + 1) rest e

-- why bytes are no capture: they end in the file header, or the file header is refused, or a record is
abbrev pub IsRefused : CapError → List ℕ → Type 0
IsRefused e bytes =
    ((length bytes < FILE_HEAD) × (e ≡ CutFile 0))
    ⊎ ((FILE_HEAD ≤ length bytes) × IsRefusedHead e (take FILE_HEAD bytes))
    ⊎ HasBadRecord bytes e

-- the same, and these are the packets of the whole records before what is refused
abbrev pub IsRefusedAfter : CapError → List ℕ → List Packet → Type 0
IsRefusedAfter e bytes ps =
    ((length bytes < FILE_HEAD) × (e ≡ CutFile 0) × (ps ≡ []))
    ⊎ ((FILE_HEAD ≤ length bytes) × IsRefusedHead e (take FILE_HEAD bytes) × (ps ≡ []))
    ⊎ ((bad : HasBadRecord bytes e) × (bad.packets ≡ ps))

-- what bytes are: a capture, or refused
abbrev pub IsVerdict : Result (Unit {0}) CapError → List ℕ → Type 0
IsVerdict (Ok u) bytes = (h : Head) × (ps : List Packet) × IsCapture bytes h ps
IsVerdict (Err e) bytes = IsRefused e bytes
