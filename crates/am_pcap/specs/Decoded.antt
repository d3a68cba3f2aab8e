-- What a decoder of a capture has, and how it goes on with the bytes that it takes.
use Rattle.std.specs.Prelude.{◌≡◌, ℕ, ◌+◌, ◌*◌, ◌<◌, ◌≤◌, ◌^◌, Bool, true, false, List, [], ◌∷◌, ◌++◌, length, take, ⊤, Option, Some, None, cond, IsSome}
use Rattle.am_pcap.specs.Packets.{word, Packet, IsWhole, first_packet}
use Rattle.am_pcap.specs.declared.decoder.TheConstants.{MAX_CAPTURED}
use Rattle.am_pcap.specs.Captures.{Summary, HasSummary}
use Rattle.am_pcap.specs.declared.refusal.CapError.{CapError}
use Rattle.am_pcap.specs.declared.head.TheConstants.{FILE_HEAD}
use Rattle.am_pcap.specs.declared.head.Head.{Head}

-- the summary of the bytes that were taken, and the packet of the last record, where it waits to be taken out
pub record Decoded : Type 0 where
  pub summary : Summary
  pub waiting : Option Packet

-- nothing was taken yet
abbrev pub nothing_taken : Decoded
nothing_taken = record { summary = record { head = None; count = 0; unfinished = []; taken = 0; error = None }; waiting = None }

-- no record waits any more
abbrev pub after_take : Decoded → Decoded
after_take d = record { summary = d.summary; waiting = None }

-- the packet, if there is one, is the last of these
abbrev pub IsLast : Option Packet → List Packet → Type 0
IsLast None ps = ⊤
IsLast (Some p) ps = (before : List Packet) × (ps ≡ before ++ p ∷ [])

-- a decoder stands for the bytes: it has their summary, and what waits is their last record
pub record StandsFor (d : Decoded) (bytes : List ℕ) : Type 0 where
  pub packets : List Packet
  pub summary : HasSummary bytes packets d.summary
  pub waiting : IsLast d.waiting packets

-- whatever bytes it stood for before, it now stands for those and more behind them
abbrev pub Goes : Decoded → Decoded → List ℕ → Type 0
Goes old new more = (bytes : List ℕ) → StandsFor old bytes → StandsFor new (bytes ++ more)

-- the bytes that were taken, with the piece behind them, can be counted
abbrev pub CanTake : Decoded → List ℕ → Type 0
CanTake d piece = d.summary.taken + length piece ≤ 2 ^ 63

-- it took the first n bytes of the piece
pub record Took (old new : Decoded) (piece : List ℕ) (n : ℕ) : Type 0 where
  pub within : n ≤ length piece
  pub taken : new.summary.taken ≡ old.summary.taken + n
  pub goes : Goes old new (take n piece)

-- the bytes of the file header, or of a record's header where the file header was taken
abbrev pub head_length : Option Head → ℕ
head_length None = FILE_HEAD
head_length (Some h) = 16

-- it refused: it took bytes up to the end of the header that is refused, with no whole record among them, and keeps the
-- refusal
pub record Refused (old new : Decoded) (piece : List ℕ) (e : CapError) : Type 0 where
  pub n : ℕ
  pub took : Took old new piece n
  pub kept : new.summary.error ≡ Some e
  pub ends : length new.summary.unfinished ≡ head_length new.summary.head
  pub waiting : new.waiting ≡ None
  pub same : new.summary.count ≡ old.summary.count

-- the number of whole records rises where one comes to wait, and nowhere else
pub record Counts (old new : Decoded) : Type 0 where
  pub same : new.waiting ≡ None → new.summary.count ≡ old.summary.count
  pub risen : IsSome new.waiting → new.summary.count ≡ old.summary.count + 1
  pub few : 16 * new.summary.count ≤ new.summary.taken

-- it passed over the whole record that the piece begins with, which has n bytes behind its header, where nothing was
-- unfinished: the record is counted, its bytes are taken, and nothing else changed
pub record Passed (old new : Decoded) (big : Bool) (piece : List ℕ) (n : ℕ) : Type 0 where
  pub whole : IsWhole big piece
  pub behind : n ≡ word big piece 8
  pub before : old.summary.unfinished ≡ []
  pub after : new.summary.unfinished ≡ []
  pub count : new.summary.count ≡ old.summary.count + 1
  pub taken : new.summary.taken ≡ old.summary.taken + 16 + n
  pub few : 16 * new.summary.count ≤ new.summary.taken
  pub head : new.summary.head ≡ old.summary.head
  pub error : new.summary.error ≡ old.summary.error
  pub waiting : new.waiting ≡ old.waiting

-- what waits, in a decoder whose buffer has these bytes
abbrev pub waiting_packet : Option Head → List ℕ → Bool → Option Packet
waiting_packet None buffer waiting = None
waiting_packet (Some h) buffer waiting = cond waiting (Some (first_packet h.form.big buffer)) None

-- what a decoder with these fields has: `full` says that the buffer holds the last record, which is whole
abbrev pub shown : List ℕ → Option Head → Option CapError → ℕ → ℕ → Bool → Bool → Decoded
shown buffer head error count taken full waiting = record {
  summary = record { head = head; count = count; unfinished = cond full [] buffer; taken = taken; error = error };
  waiting = waiting_packet head buffer waiting;
}

-- the most bytes that a record has, with its header
abbrev pub most_bytes : ℕ
most_bytes = 262160

-- what is true of the fields at all times
pub record IsSound (capacity : ℕ) (buffer : List ℕ) (head : Option Head) (error : Option CapError) (count taken : ℕ) (full waiting : Bool) : Type 0 where
  pub room : most_bytes ≤ capacity
  pub few : taken ≤ 2 ^ 63
  pub counted : 16 * count ≤ taken
  pub partial : full ≡ false → 16 * count + length buffer ≤ taken
  pub in_head : head ≡ None → error ≡ None → length buffer < FILE_HEAD
  pub not_full : head ≡ None → full ≡ false
  pub refused : (e : CapError) → error ≡ Some e → full ≡ false
  pub in_record : (h : Head) → head ≡ Some h → error ≡ None → full ≡ false → 16 ≤ length buffer → (word h.form.big buffer 8 ≤ MAX_CAPTURED) × (length buffer < 16 + word h.form.big buffer 8)
  pub whole : (h : Head) → head ≡ Some h → full ≡ true → IsWhole h.form.big buffer × (length buffer ≡ 16 + word h.form.big buffer 8)
  pub waits : waiting ≡ true → full ≡ true
