-- The records of a batch: what each has, which are marked, and which is the first whose headers are cut.
use Rattle.std.specs.Prelude.{◌≡◌, ◌≢◌, ℕ, ◌+◌, ◌<◌, ◌≤◌, Bool, List, [], ◌∷◌, ◌++◌, length, sum_by}
use Rattle.am_ip6.specs.Marks.{Seen}
use Rattle.am_ip6.specs.Marks.Seen.{CutOff}
use Rattle.am_ip6.specs.declared.marks.Place.{Place}
use Rattle.am_pcap.specs.declared.frame.LinkKind.{LinkKind}
use Rattle.am_meter.specs.declared.stream.Marked.{Marked}
use Rattle.am_meter.specs.declared.batch.TheConstants.{MAX_RECORDS, MAX_BYTES}
use Rattle.am_meter.specs.Marks.{AreSeen, marked_by}

-- a record of a batch: its link type, its number, its reading, whether all bytes of its packet were captured, and those that were
pub record BatchRecord : Type 0 where
  pub link : LinkKind
  pub number : ℕ
  pub reading : ℕ
  pub whole : Bool
  pub bytes : List ℕ

abbrev pub batch_record : LinkKind → ℕ → ℕ → Bool → List ℕ → BatchRecord
batch_record link number reading whole bytes =
    record { link = link; number = number; reading = reading; whole = whole; bytes = bytes }

-- how many bytes records have together
abbrev pub bytes_in : List BatchRecord → ℕ
bytes_in rs = sum_by (λ (r : BatchRecord). length r.bytes) rs

-- a batch of these records has room for one more of so many bytes
pub record HasRoomFor (rs : List BatchRecord) (more : ℕ) : Type 0 where
  pub few : length rs < MAX_RECORDS
  pub short : bytes_in rs + more ≤ MAX_BYTES

-- what a record shows of a mark in this kind of header
abbrev pub RecordShows : Place → BatchRecord → Seen → Type 0
RecordShows place r seen = AreSeen place r.link r.bytes r.whole seen

-- none of these records has headers that are cut, and these are the marked ones
abbrev pub HaveMarks : Place → List BatchRecord → List Marked → Type 0
HaveMarks place [] ms = ms ≡ []
HaveMarks place (r ∷ rs) ms =
    (seen : Seen) × (rest : List Marked) × RecordShows place r seen × (seen ≢ CutOff)
    × HaveMarks place rs rest × (ms ≡ marked_by r.number r.reading seen ++ rest)

-- this is the number of the first of these records whose headers are cut, and these are the marked records before it
pub record CutsFirst (place : Place) (rs : List BatchRecord) (number : ℕ) (ms : List Marked) : Type 0 where
  pub before : List BatchRecord
  pub cut : BatchRecord
  pub behind : List BatchRecord
  pub split : rs ≡ before ++ cut ∷ behind
  pub marked : HaveMarks place before ms
  pub shows : RecordShows place cut CutOff
  pub numbered : number ≡ cut.number
