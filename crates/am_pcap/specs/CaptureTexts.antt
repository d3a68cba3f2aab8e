-- What is said of bytes that are no capture.
use Rattle.std.specs.Prelude.{ℕ, List, ◌++◌, codes, decimal}
use Rattle.am_pcap.specs.declared.refusal.CapError.{CapError}
use Rattle.am_pcap.specs.declared.refusal.CapError.TheVariants.{BadMagic, BadVersion, UnknownLink, RecordTooLong, CutFile}

-- why they are none, with the number of the record
abbrev pub capture_text : CapError → List ℕ
capture_text BadMagic = codes "bad magic"
capture_text BadVersion = codes "bad version"
capture_text (UnknownLink link) = codes "unknown link type " ++ decimal link
capture_text (RecordTooLong number length) = codes "record " ++ (decimal number ++ (codes " is too long: " ++ decimal length))
capture_text (CutFile number) = codes "file ends in record " ++ decimal number
