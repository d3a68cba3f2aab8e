-- What the types of the code say, in the words of the definitions.
use Rattle.am_ip6.specs.declared.chain.Header.{Header}
use Rattle.am_ip6.specs.declared.chain.Announced.{Announced}
use Rattle.am_ip6.specs.declared.chain.Ending.{Ending}
use Rattle.am_ip6.specs.declared.chain.Ending.TheVariants.{End, Cut, Malformed}
use Rattle.am_ip6.specs.Chains.{Lent, Spot}
use Rattle.am_ip6.specs.Endings.{Ended}
use Rattle.am_ip6.specs.Endings.Ended.{AtNumber, WasCut, IsMalformed}

abbrev pub lent : Header → Lent
lent h = record { kind = h.kind; at = h.at; bytes = h.bytes.now }

abbrev pub spot_shown : Announced → Spot
spot_shown s = record { kind = s.kind; at = s.at; told_at = s.told_at }

abbrev pub ending_shown : Ending → Ended
ending_shown (End next at told_at) = AtNumber next at told_at
ending_shown Cut = WasCut
ending_shown (Malformed place) = IsMalformed place
