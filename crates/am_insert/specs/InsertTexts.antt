-- What is said of a packet that no mark goes into.
use Rattle.std.specs.Prelude.{ℕ, List, ◌++◌, codes, decimal}
use Rattle.am_insert.specs.declared.insert.InsertError.{InsertError}
use Rattle.am_insert.specs.declared.insert.InsertError.TheVariants.{NotIp6, Malformed, Cut, AlreadyMarked, Protected, HeaderFull, PacketFull}

-- why none goes in, with the place in the packet
abbrev pub insert_text : InsertError → List ℕ
insert_text NotIp6 = codes "not IPv6"
insert_text (Malformed place) = codes "malformed at " ++ decimal place
insert_text Cut = codes "cut"
insert_text (AlreadyMarked place) = codes "already marked at " ++ decimal place
insert_text Protected = codes "protected"
insert_text HeaderFull = codes "header full"
insert_text PacketFull = codes "packet full"
