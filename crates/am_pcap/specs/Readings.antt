-- What a capture over a shelf has read, and what it has given of that.
use Rattle.std.specs.Prelude.{◌≡◌, ℕ, Bool, List, [], ◌++◌, length, ⊤, None}
use Rattle.am_pcap.specs.Packets.{Packet}
use Rattle.am_pcap.specs.Captures.{HasSummary, IsRefusedAfter}
use Rattle.am_pcap.specs.Decoded.{Decoded}
use Rattle.am_pcap.specs.declared.refusal.CapError.{CapError}
use Rattle.am_pcap.specs.declared.refusal.CapError.TheVariants.{CutFile}

-- what a capture has: what its decoder has, the bytes that were read and that the decoder didn't take yet, how many were
-- read, and whether it came to its end or to an error
pub record Reading : Type 0 where
  pub decoded : Decoded
  pub held : List ℕ
  pub read : ℕ
  pub over : Bool

-- these bytes of the file were read, and of the whole records in those that the decoder took, which have these packets,
-- each was given
pub record HasGiven (c : Reading) (bytes : List ℕ) (ps : List Packet) : Type 0 where
  pub taken : List ℕ
  pub split : bytes ≡ taken ++ c.held
  pub summary : HasSummary taken ps c.decoded.summary
  pub none_waits : c.decoded.waiting ≡ None
  pub read : c.read ≡ length bytes

-- the refusal of a file that ends too early, which nothing tells before its end
abbrev pub IsCut : CapError → Type 0
IsCut (CutFile number) = ⊤
IsCut _ = ⊥

-- these bytes, whatever follows them, are refused so behind these packets; for want of more bytes only where none follow
abbrev pub AreRefused : CapError → List ℕ → List Packet → Type 0
AreRefused e bytes ps = (rest : List ℕ) → (IsCut e → rest ≡ []) → IsRefusedAfter e (bytes ++ rest) ps
