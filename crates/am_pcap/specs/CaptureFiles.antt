-- What stands in the bytes of a capture's file, and what a capture that is read on has given of them.
use Rattle.std.specs.Prelude.{◌≡◌, ◌⊎◌, ℕ, ◌<◌, ◌≤◌, Bool, false, nat_le, List, [], ◌++◌, length, take, drop, Option, Some}
use Rattle.am_base.specs.Shelves.{Told, IsAbsent, IsAtEnd, Closes}
use Rattle.am_base.specs.Files.{OnFile, IsPartRead, KeepsFiles}
use Rattle.am_pcap.specs.Packets.{Packet, HoldsPackets}
use Rattle.am_pcap.specs.Heads.{IsHead, IsRefusedHead}
use Rattle.am_pcap.specs.Captures.{IsCapture, HasRecords, IsRefusedAfter}
use Rattle.am_pcap.specs.Readings.{Reading, HasGiven, IsCut}
use Rattle.am_pcap.specs.declared.seeking.TheConstants.{MAX_READ}
use Rattle.am_pcap.specs.declared.refusal.CapError.{CapError}
use Rattle.am_pcap.specs.declared.refusal.CapError.TheVariants.{CutFile}
use Rattle.am_pcap.specs.declared.head.TheConstants.{FILE_HEAD}
use Rattle.am_pcap.specs.declared.head.Head.{Head}
use Rattle.am_pcap.specs.declared.capture.FileError.{FileError}
use Rattle.am_pcap.specs.declared.capture.FileError.TheVariants.{Missing, ReadFault, TooLong, Bad, Memory}

-- all bytes of a packet were captured
abbrev pub is_whole : Packet → Bool
is_whole p = nat_le p.original (length p.bytes)

-- the bytes begin with this file header
pub record HasHead (bytes : List ℕ) (h : Head) : Type 0 where
  pub whole : FILE_HEAD ≤ length bytes
  pub head : IsHead h (take FILE_HEAD bytes)

-- the bytes begin with this file header and whole records of these packets, and then comes the rest
pub record Begins (bytes : List ℕ) (h : Head) (ps : List Packet) (rest : List ℕ) : Type 0 where
  pub whole : FILE_HEAD ≤ length bytes
  pub head : IsHead h (take FILE_HEAD bytes)
  pub records : HoldsPackets h.form.big (drop FILE_HEAD bytes) ps rest

-- the bytes begin so, and a front of at most 2^40 of them does
pub record BeginsWith (bytes : List ℕ) (h : Head) (ps : List Packet) : Type 0 where
  pub front : List ℕ
  pub rest : List ℕ
  pub behind : List ℕ
  pub split : bytes ≡ front ++ rest
  pub short : length front ≤ MAX_READ
  pub begins : Begins front h ps behind
  pub all : Begins bytes h ps (behind ++ rest)

-- the second list of packets begins with the first
abbrev pub IsFrontOf : List Packet → List Packet → Type 0
IsFrontOf ps qs = (more : List Packet) × (qs ≡ ps ++ more)

-- the bytes are a capture, and are at most 2^40
pub record IsWholeCapture (bytes : List ℕ) (h : Head) (ps : List Packet) : Type 0 where
  pub short : length bytes ≤ MAX_READ
  pub capture : IsCapture bytes h ps

-- there are more bytes than a capture's file may have
abbrev pub IsLong : List ℕ → Type 0
IsLong bytes = MAX_READ < length bytes

-- the bytes are refused so, behind whole records of these packets: a front of at most 2^40 of them is, and that they end
-- too early is said only of all of them
pub record IsRefusedIn (bytes : List ℕ) (e : CapError) (ps : List Packet) : Type 0 where
  pub front : List ℕ
  pub rest : List ℕ
  pub split : bytes ≡ front ++ rest
  pub short : length front ≤ MAX_READ
  pub all : IsCut e → rest ≡ []
  pub refused : IsRefusedAfter e front ps

-- the file header is refused so, or the bytes end in it
abbrev pub IsRefusedHeader : List ℕ → CapError → Type 0
IsRefusedHeader bytes e = ((FILE_HEAD ≤ length bytes) × IsRefusedHead e (take FILE_HEAD bytes)) ⊎ ((length bytes < FILE_HEAD) × (e ≡ CutFile 0))

-- a capture of this file is read on: bytes of the file, as the shelf told it before, were read, their file header is this,
-- and the whole records that were given of them have these packets
pub record ReadsOn (before now : Option Told) (name : List ℕ) (c : Reading) (h : Head) (ps : List Packet) : Type 0 where
  pub bytes : List ℕ
  pub part : IsPartRead before now name bytes
  pub given : HasGiven c bytes ps
  pub goes_on : c.over ≡ false
  pub head : c.decoded.summary.head ≡ Some h
  pub short : c.read ≤ MAX_READ
  -- as many were given as are counted, the files are as they were, and the file begins so
  pub counted : c.decoded.summary.count ≡ length ps
  pub kept : KeepsFiles before now
  pub begins : OnFile before name (λ bytes. BeginsWith bytes h ps)

-- a read failed: these are the packets of all whole records of what was read
pub record IsReadWhole (before after : Option Told) (name : List ℕ) (h : Head) (ps : List Packet) : Type 0 where
  pub bytes : List ℕ
  pub part : IsPartRead before after name bytes
  pub unfinished : List ℕ
  pub error : Option CapError
  pub records : HasRecords bytes ps unfinished h error

-- the bytes begin with this file header and whole records of these packets, and are refused so behind them; they begin
-- with no other header
pub record IsRefusedBehind (bytes : List ℕ) (h : Head) (ps : List Packet) (e : CapError) : Type 0 where
  pub begins : BeginsWith bytes h ps
  pub refused : IsRefusedIn bytes e ps
  pub only : (k : Head) → HasHead bytes k → k ≡ h

-- why a capture of this file, which gave these packets, gives no more
abbrev pub WhyStopped : Option Told → Option Told → List ℕ → Head → List Packet → FileError → Type 0
WhyStopped before after name h ps Missing = ⊥
WhyStopped before after name h ps ReadFault = IsReadWhole before after name h ps
WhyStopped before after name h ps TooLong = OnFile before name IsLong
WhyStopped before after name h ps (Bad e) = OnFile before name (λ bytes. IsRefusedBehind bytes h ps e)
WhyStopped before after name h ps Memory = ⊥

-- a read failed before the file header was there
pub record FailsOpen (before after : Option Told) (name : List ℕ) : Type 0 where
  pub bytes : List ℕ
  pub part : IsPartRead before after name bytes
  pub few : length bytes < FILE_HEAD

-- the file header of the file is refused so, or the file ends in it; of a file that isn't told the bytes that were read
-- are, whatever follows them, and for want of more bytes only where none follow
pub record RefusesOpen (before after : Option Told) (name : List ℕ) (e : CapError) : Type 0 where
  pub bytes : List ℕ
  pub part : IsPartRead before after name bytes
  pub at_end : IsCut e → IsAtEnd after
  pub refused : (rest : List ℕ) → (IsCut e → rest ≡ []) → IsRefusedHeader (bytes ++ rest) e
  pub short : length bytes ≤ MAX_READ
  pub file : OnFile before name (λ all. IsRefusedHeader all e)

-- why the capture of this name was not opened
abbrev pub WhyNotOpened : Option Told → Option Told → List ℕ → FileError → Type 0
WhyNotOpened before after name Missing = Closes before after × IsAbsent before name
WhyNotOpened before after name ReadFault = Closes before after ⊎ FailsOpen before after name
WhyNotOpened before after name TooLong = ⊥
WhyNotOpened before after name (Bad e) = RefusesOpen before after name e
WhyNotOpened before after name Memory = KeepsFiles before after
