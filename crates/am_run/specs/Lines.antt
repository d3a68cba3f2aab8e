-- The line that `show` prints of a record.
use Rattle.std.specs.Prelude.{◌≡◌, ℕ, ◌+◌, Bool, List, [], ◌∷◌, ◌++◌, length, drop, flat_map, codes, decimal}
use Rattle.am_opts.specs.Marking.{bit}
use Rattle.am_ip6.specs.Chains.{Lent, HasHeaders}
use Rattle.am_ip6.specs.Endings.{Ended, EndsSo}
use Rattle.am_ip6.specs.Endings.Ended.{AtNumber, WasCut, IsMalformed}
use Rattle.am_ip6.specs.Marks.{Seen, SeenInHopByHop, SeenInDestination}
use Rattle.am_ip6.specs.Marks.Seen.{Marks, NoMark, CutOff}
use Rattle.am_pcap.specs.Packets.{Packet, reading_of}
use Rattle.am_pcap.specs.Frames.{IsFramed}
use Rattle.am_pcap.specs.declared.frame.Frame.{Frame}
use Rattle.am_pcap.specs.declared.frame.Frame.TheVariants.{Ip6, Other, Cut}
use Rattle.am_pcap.specs.declared.head.Head.{Head}
use Rattle.am_pcap.specs.CaptureFiles.{is_whole}

-- what stands first: the record's number, its reading, how many bytes were captured and how many the packet had
abbrev pub record_text : Bool → ℕ → Packet → List ℕ
record_text nano number p =
    decimal number ++ codes " " ++ decimal (reading_of nano p) ++ codes " " ++ decimal (length p.bytes) ++ codes " " ++ decimal p.original ++ codes " "

-- a header: its number and how many bytes it has
abbrev pub header_text : Lent → List ℕ
header_text h = decimal h.kind ++ codes ":" ++ decimal (length h.bytes) ++ codes ","

-- how the chain ends: at a number that isn't walked, cut, or malformed at a place of the packet
abbrev pub ending_text : Ended → List ℕ
ending_text (AtNumber next at told_at) = codes "=" ++ decimal next
ending_text WasCut = codes "cut"
ending_text (IsMalformed place) = codes "bad@" ++ decimal place

abbrev pub chain_text : List Lent → Ended → List ℕ
chain_text hs ended = flat_map header_text hs ++ ending_text ended

-- what is found of a mark: flow, loss bit and delay bit; `-` for none
abbrev pub seen_text : Seen → List ℕ
seen_text (Marks mark at) = decimal mark.flow ++ codes "/" ++ decimal (bit mark.loss) ++ codes "/" ++ decimal (bit mark.delay)
seen_text NoMark = codes "-"
seen_text CutOff = codes "cut"

-- an IPv6 packet, of which all bytes were captured or not, is shown so: its chain, and the mark in each kind of header
pub record IsPacketText (packet : List ℕ) (whole : Bool) (text : List ℕ) : Type 0 where
  pub headers : List Lent
  pub ended : Ended
  pub hop : Seen
  pub destination : Seen
  pub has : HasHeaders packet headers
  pub ends : EndsSo packet whole headers ended
  pub in_hop : SeenInHopByHop packet whole headers ended hop
  pub in_destination : SeenInDestination packet whole headers ended destination
  pub shown : text ≡ codes "ip6 " ++ chain_text headers ended ++ codes " " ++ seen_text hop ++ codes " " ++ seen_text destination

-- what a record holds is shown so
abbrev pub IsFrameText : Packet → Frame → List ℕ → Type 0
IsFrameText p (Ip6 at) text = IsPacketText (drop at p.bytes) (is_whole p) text
IsFrameText p Other text = text ≡ codes "other"
IsFrameText p Cut text = text ≡ codes "cut"

-- a record of a capture with this file header is shown by this line
pub record IsLine (h : Head) (number : ℕ) (p : Packet) (line : List ℕ) : Type 0 where
  pub frame : Frame
  pub held : List ℕ
  pub framed : IsFramed h.link p.bytes (is_whole p) frame
  pub text : IsFrameText p frame held
  pub shown : line ≡ record_text h.form.nano number p ++ held ++ codes "\n"

-- records, numbered from here, are shown by these lines
abbrev pub AreLines : Head → ℕ → List Packet → List ℕ → Type 0
AreLines h number [] text = text ≡ []
AreLines h number (p ∷ ps) text = (line : List ℕ) × (rest : List ℕ) × IsLine h number p line × AreLines h (number + 1) ps rest × (text ≡ line ++ rest)
