-- The words by which a section and a network are printed.
use Rattle.std.specs.Prelude.{ℕ, List, codes}
use Rattle.drivefile.specs.declared.header.NetworkChoice.{NetworkChoice}
use Rattle.drivefile.specs.declared.header.NetworkChoice.TheVariants as network
use Rattle.drivefile.specs.declared.header.SectionChoice.{SectionChoice}
use Rattle.drivefile.specs.declared.header.SectionChoice.TheVariants as section

abbrev pub section_word : SectionChoice → List ℕ
section_word (section.Stroke s l u) = codes "stroke integrator"
section_word (section.Roll s c) = codes "roll section"
section_word (section.Envelope s d) = codes "thrust envelope"

abbrev pub network_word : NetworkChoice → List ℕ
network_word network.Serial = codes "serial"
network_word network.KoggeStone = codes "Kogge-Stone"
